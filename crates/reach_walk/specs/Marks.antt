-- Inner: locals that are marked, and whether a marked local occurs under so many binders.
use Rattle.std.specs.Prelude.{ℕ, ◌+◌, ◌-◌, ◌<◌, ◌≡◌, ◌&&◌, ◌||◌, nat_le, Bool, true, false, List, length, Some}
use Rattle.clf_syntax.specs.declared.tree.Head.{Head}
use Rattle.clf_syntax.specs.declared.tree.Head.TheVariants.{Const, Var, Meta}
use Rattle.clf_syntax.specs.Tree.{PlainObject, lam, pair, unit, monadic, atomic, hole, PlainNeutral, head_alone, app, fst, snd, PlainExpression, step, done, PlainTuple, empty, entry, PlainElimination, arg, first, second}
use Rattle.pattern_laws.specs.Patterns.{Place, local_at, mask_at}

abbrev pub is_marked : List Bool → ℕ → Head → Bool
is_marked bs d (Const c) = false
is_marked bs d (Var i) = nat_le d i && mask_at bs (i - d)
is_marked bs d (Meta m) = false

abbrev mutual
  pub marked_in : List Bool → ℕ → PlainObject → Bool
  marked_in bs d (lam m b) = marked_in bs (d + 1) b
  marked_in bs d (pair l r) = marked_in bs d l || marked_in bs d r
  marked_in bs d unit = false
  marked_in bs d (monadic e) = marked_in_expression bs d e
  marked_in bs d (atomic n) = marked_in_neutral bs d n
  marked_in bs d hole = false

  pub marked_in_neutral : List Bool → ℕ → PlainNeutral → Bool
  marked_in_neutral bs d (head_alone h) = is_marked bs d h
  marked_in_neutral bs d (app m r n) = marked_in_neutral bs d r || marked_in bs d n
  marked_in_neutral bs d (fst r) = marked_in_neutral bs d r
  marked_in_neutral bs d (snd r) = marked_in_neutral bs d r

  pub marked_in_expression : List Bool → ℕ → PlainExpression → Bool
  marked_in_expression bs d (step ms r e) = marked_in_neutral bs d r || marked_in_expression bs (d + length ms) e
  marked_in_expression bs d (done t) = marked_in_tuple bs d t

  pub marked_in_tuple : List Bool → ℕ → PlainTuple → Bool
  marked_in_tuple bs d empty = false
  marked_in_tuple bs d (entry m n t) = marked_in bs d n || marked_in_tuple bs d t

abbrev pub marked_in_elimination : List Bool → ℕ → PlainElimination → Bool
marked_in_elimination bs d (arg m n) = marked_in bs d n
marked_in_elimination bs d first = false
marked_in_elimination bs d second = false

-- The marks are at those of the first n variables that stand at none of the places.
abbrev pub MarksForeign : ℕ → List Place → List Bool → Type 0
MarksForeign n ps bs = ((v : ℕ) → mask_at bs v ≡ true → (v < n) × ((i : ℕ) → local_at ps i ≡ Some v → ⊥))
    × ((v : ℕ) → v < n → ((i : ℕ) → local_at ps i ≡ Some v → ⊥) → mask_at bs v ≡ true)
