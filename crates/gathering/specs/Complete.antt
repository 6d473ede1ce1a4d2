-- Objects of which nothing is unknown.
use Rattle.std.specs.Prelude.{ℕ, ◌≡◌, List, [], ◌∷◌, Some}
use Rattle.clf_syntax.specs.Tree.{PlainObject, lam, pair, unit, monadic, atomic, hole, PlainNeutral, head_alone, app, fst, snd, PlainExpression, step, done, PlainTuple, empty, entry}
use Rattle.clf_syntax.specs.TypeTree.{PlainType}
use Rattle.trace_equal.specs.Exchange.{Joined}
use Rattle.clf_sig.specs.Entry.{PlainSignature, constant_type}
use Rattle.pattern_laws.specs.Equations.{Equation}
use Rattle.gathering.specs.Setting.{Setting}

-- The setting gives constants of this signature alone.
abbrev pub OverSignature : PlainSignature → Setting → Type 0
OverSignature sig z = (c : ℕ) (a : PlainType) → z.given c ≡ Some a → constant_type sig c ≡ Some a

-- The sides of each equation are joined as they are.
abbrev pub HoldEach : List Equation → Type 0
HoldEach [] = Unit {0}
HoldEach (e ∷ q) = Joined e.left e.right × HoldEach q

-- No hole stands in the object.
abbrev mutual
  pub HasNoHole : PlainObject → Type 0
  HasNoHole (lam m b) = HasNoHole b
  HasNoHole (pair l r) = HasNoHole l × HasNoHole r
  HasNoHole unit = Unit {0}
  HasNoHole (monadic e) = ExpressionHasNoHole e
  HasNoHole (atomic n) = NeutralHasNoHole n
  HasNoHole hole = ⊥

  pub NeutralHasNoHole : PlainNeutral → Type 0
  NeutralHasNoHole (head_alone x) = Unit {0}
  NeutralHasNoHole (app m r n) = NeutralHasNoHole r × HasNoHole n
  NeutralHasNoHole (fst r) = NeutralHasNoHole r
  NeutralHasNoHole (snd r) = NeutralHasNoHole r

  pub ExpressionHasNoHole : PlainExpression → Type 0
  ExpressionHasNoHole (step ms r e) = NeutralHasNoHole r × ExpressionHasNoHole e
  ExpressionHasNoHole (done t) = TupleHasNoHole t

  pub TupleHasNoHole : PlainTuple → Type 0
  TupleHasNoHole empty = Unit {0}
  TupleHasNoHole (entry m n t) = HasNoHole n × TupleHasNoHole t
