-- How often a variable is used, and what the rules make of it.
use Rattle.std.specs.Prelude.{ℕ, ◌+◌, ◌≡◌, ◌≤◌, nat_le, Bool, true, false, ◌&&◌, if◌then◌else◌, Some, length}
use Rattle.std.specs.List.{slice_get}
use Rattle.clf_syntax.specs.declared.tree.Mode.{Mode}
use Rattle.clf_syntax.specs.declared.tree.Mode.TheVariants.{Linear}
use Rattle.clf_syntax.specs.Tree.{PlainObject, lam, pair, unit, monadic, atomic, hole, PlainNeutral, head_alone, app, fst, snd, PlainExpression, step, done, PlainTuple, empty, entry}
use Rattle.clf_syntax.specs.TypeTree.{PlainType}
use Rattle.clf_syntax.specs.Occurs.{is_variable, occurs}
use Rattle.use_contexts.specs.Context.{Context, modes}
use Rattle.use_contexts.specs.Holding.{Holding, is_persistent}
use Rattle.clf_sig.specs.Entry.{PlainSignature}
use Rattle.clf_rules.specs.Typing.{HasType}

abbrev pub greater : ℕ → ℕ → ℕ
greater m n = if nat_le m n then n else m

abbrev pub one_if : Bool → ℕ
one_if b = if b then 1 else 0

-- how often variable i is used: of the parts of a pair, in the one that uses it more often
abbrev mutual
  pub uses : ℕ → PlainObject → ℕ
  uses i (lam m b) = uses (i + 1) b
  uses i (pair l r) = greater (uses i l) (uses i r)
  uses i unit = 0
  uses i (monadic e) = uses_expression i e
  uses i (atomic n) = uses_neutral i n
  uses i hole = 0

  pub uses_neutral : ℕ → PlainNeutral → ℕ
  uses_neutral i (head_alone h) = one_if (is_variable i h)
  uses_neutral i (app m r n) = uses_neutral i r + uses i n
  uses_neutral i (fst r) = uses_neutral i r
  uses_neutral i (snd r) = uses_neutral i r

  pub uses_expression : ℕ → PlainExpression → ℕ
  uses_expression i (step ms r e) = uses_neutral i r + uses_expression (i + length ms) e
  uses_expression i (done t) = uses_tuple i t

  pub uses_tuple : ℕ → PlainTuple → ℕ
  uses_tuple i empty = 0
  uses_tuple i (entry m n t) = uses i n + uses_tuple i t

-- whether no <> stands in a tree
abbrev mutual
  pub without_units : PlainObject → Bool
  without_units (lam m b) = without_units b
  without_units (pair l r) = without_units l && without_units r
  without_units unit = false
  without_units (monadic e) = expression_without_units e
  without_units (atomic n) = neutral_without_units n
  without_units hole = true

  pub neutral_without_units : PlainNeutral → Bool
  neutral_without_units (head_alone h) = true
  neutral_without_units (app m r n) = neutral_without_units r && without_units n
  neutral_without_units (fst r) = neutral_without_units r
  neutral_without_units (snd r) = neutral_without_units r

  pub expression_without_units : PlainExpression → Bool
  expression_without_units (step ms r e) = neutral_without_units r && expression_without_units e
  expression_without_units (done t) = tuple_without_units t

  pub tuple_without_units : PlainTuple → Bool
  tuple_without_units empty = true
  tuple_without_units (entry m n t) = without_units n && tuple_without_units t

-- A linear or affine variable is used at most once, and not at all where it is not held.
abbrev pub UsedAtMostOnce : Type 0
UsedAtMostOnce = (sig : PlainSignature) (g : Context) (h : Holding) (n : PlainObject) (a : PlainType) → HasType sig g h n a
    → (i : ℕ) (m : Mode) (b : Bool) → slice_get (modes g) i ≡ Some m → is_persistent m ≡ false → slice_get h i ≡ Some b → uses i n ≤ one_if b

-- Where no <> stands, each linear variable that is held occurs.
abbrev pub LinearOccurs : Type 0
LinearOccurs = (sig : PlainSignature) (g : Context) (h : Holding) (n : PlainObject) (a : PlainType) → HasType sig g h n a → without_units n ≡ true
    → (i : ℕ) → slice_get (modes g) i ≡ Some Linear → slice_get h i ≡ Some true → occurs i n ≡ true
