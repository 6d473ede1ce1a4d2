-- Inner: the search for the first matching, as functions on plain trees, from which the laws of the crate lead to matchings.
use Rattle.std.specs.Prelude.{ℕ, Bool, true, false, zero, suc, ◌+◌, ◌&&◌, ◌||◌, nat_lt, nat_le, nat_eq, if◌then◌else◌, List, [], ◌∷◌, length, map, Some, None, is_some}
use Rattle.std.proofs.Common.{Option}
use Rattle.clf_syntax.specs.Renaming.{crossed, down, ren_expression, ren_neutral, up}
use Rattle.clf_syntax.specs.Modes.{same_mode, same_modes}
use Rattle.clf_syntax.specs.Tree.{PlainExpression, PlainObject, PlainNeutral, PlainTuple, app, atomic, head_alone, done, empty, entry, fst, hole, lam, monadic, pair, snd, step, unit}
use Rattle.clf_syntax.specs.declared.tree.Head.{Head}
use Rattle.clf_syntax.specs.declared.tree.Head.TheVariants.{Const, Meta, Var}
use Rattle.clf_syntax.specs.declared.tree.Mode.{Mode}
use Rattle.trace_equal.specs.Steps.{wide_steps}

-- none of the n variables from k on occurs
abbrev mutual
  pub free : ℕ → ℕ → PlainObject → Bool
  free k n (lam m b) = free (1 + k) n b
  free k n (pair l r) = free k n l && free k n r
  free k n unit = true
  free k n (monadic e) = free_expression k n e
  free k n (atomic r) = free_neutral k n r
  free k n hole = true

  pub free_neutral : ℕ → ℕ → PlainNeutral → Bool
  free_neutral k n (head_alone (Const c)) = true
  free_neutral k n (head_alone (Var i)) = nat_lt i k || nat_le (k + n) i
  free_neutral k n (head_alone (Meta m)) = true
  free_neutral k n (app m r o) = free_neutral k n r && free k n o
  free_neutral k n (fst r) = free_neutral k n r
  free_neutral k n (snd r) = free_neutral k n r

  pub free_expression : ℕ → ℕ → PlainExpression → Bool
  free_expression k n (step ms r e) = free_neutral k n r && free_expression (length ms + k) n e
  free_expression k n (done t) = free_tuple k n t

  pub free_tuple : ℕ → ℕ → PlainTuple → Bool
  free_tuple k n empty = true
  free_tuple k n (entry m o t) = free k n o && free_tuple k n t

-- the step at place i, in front
pub data Front : Type 0 where
  front : List Mode → PlainNeutral → PlainExpression → Front

abbrev pub later_front : List Mode → PlainNeutral → Option Front → Option Front
later_front p r None = None
later_front p r (Some (front q w e)) = if free_neutral 0 (length p) w then Some (front q (ren_neutral (down (length p)) w) (step p (ren_neutral (up (length q)) r) (ren_expression (crossed (length p) (length q)) e))) else None

abbrev pub pull_at : ℕ → PlainExpression → Option Front
pull_at i (done t) = None
pull_at zero (step q v e) = Some (front q v e)
pull_at (suc i) (step p r g) = later_front p r (pull_at i g)

-- the numbers of a list with one more place in it
abbrev pub past : ℕ → ℕ → ℕ
past zero j = suc j
past (suc i) zero = zero
past (suc i) (suc j) = suc (past i j)

abbrev pub same_head : Head → Head → Bool
same_head (Const c) (Const d) = nat_eq c d
same_head (Var c) (Var d) = nat_eq c d
same_head (Meta c) (Meta d) = nat_eq c d
same_head _ _ = false

abbrev pub or_else : Option (List ℕ) → Option (List ℕ) → Option (List ℕ)
or_else (Some x) y = Some x
or_else None y = y

abbrev pub prefixed : ℕ → Option (List ℕ) → Option (List ℕ)
prefixed i None = None
prefixed i (Some l) = Some (i ∷ map (past i) l)

-- whether the step at place i serves, and the rest from there
abbrev pub attempt : List Mode → (PlainNeutral → Bool) → (PlainExpression → Option (List ℕ)) → ℕ → Option Front → Option (List ℕ)
attempt p test rec i None = None
attempt p test rec i (Some (front q v e)) = if same_modes p q && test v then prefixed i (rec e) else None

-- the places in turn
abbrev pub places : ℕ → ℕ → (ℕ → Option (List ℕ)) → Option (List ℕ)
places zero i h = None
places (suc n) i h = or_else (h i) (places n (suc i) h)

abbrev mutual
  pub is_joined : PlainObject → PlainObject → Bool
  is_joined (lam m b) (lam k c) = same_mode m k && is_joined b c
  is_joined (pair l r) (pair k s) = is_joined l k && is_joined r s
  is_joined unit unit = true
  is_joined (monadic e) (monadic f) = is_some (first e f)
  is_joined (atomic n) (atomic o) = is_joined_neutral n o
  is_joined hole hole = true
  is_joined _ _ = false

  pub is_joined_neutral : PlainNeutral → PlainNeutral → Bool
  is_joined_neutral (head_alone h) (head_alone j) = same_head h j
  is_joined_neutral (app m r o) (app k s u) = same_mode m k && (is_joined_neutral r s && is_joined o u)
  is_joined_neutral (fst r) (fst s) = is_joined_neutral r s
  is_joined_neutral (snd r) (snd s) = is_joined_neutral r s
  is_joined_neutral _ _ = false

  pub first : PlainExpression → PlainExpression → Option (List ℕ)
  first (step p r d) f = places (length (wide_steps f)) 0 (λ i. attempt p (λ v. is_joined_neutral r v) (λ e. first d e) i (pull_at i f))
  first (done t) (done u) = if is_joined_tuple t u then Some [] else None
  first (done t) (step q v e) = None

  pub is_joined_tuple : PlainTuple → PlainTuple → Bool
  is_joined_tuple empty empty = true
  is_joined_tuple (entry m o t) (entry k u w) = same_mode m k && (is_joined o u && is_joined_tuple t w)
  is_joined_tuple _ _ = false
