-- What is held, and what a typed tree mentions of it.
use Rattle.std.specs.Prelude.{ℕ, ◌≡◌, true, false, List, [], ◌∷◌, Some}
use Rattle.std.specs.List.{slice_get}
use Rattle.clf_syntax.specs.declared.tree.Mode.{Mode}
use Rattle.clf_syntax.specs.declared.tree.Mode.TheVariants.{Persistent, Affine, Linear}
use Rattle.clf_syntax.specs.Tree.{PlainObject, PlainNeutral, PlainExpression, PlainTuple}
use Rattle.clf_syntax.specs.TypeTree.{PlainType, PlainTelescope}
use Rattle.clf_syntax.specs.Occurs.{occurs, occurs_neutral, occurs_expression, occurs_tuple}
use Rattle.use_contexts.specs.Context.{Context, modes}
use Rattle.use_contexts.specs.Holding.{Holding, without}
use Rattle.clf_sig.specs.Entry.{PlainSignature}
use Rattle.clf_rules.specs.Clean.{IsNotPersistent}
use Rattle.clf_rules.specs.Typing.{HasType, Synthesizes, ExpressionHasType, TupleHasType}

-- A typed object mentions variables alone that the holding holds: none that is beyond it, and none that is marked as not held.
abbrev pub MentionsHeldAlone : Type 0
MentionsHeldAlone = (sig : PlainSignature) (g : Context) (h : Holding) (n : PlainObject) (a : PlainType) → HasType sig g h n a → (i : ℕ) → (slice_get h i ≡ Some true → ⊥) → occurs i n ≡ false

-- The second holding has all marks of the first, and perhaps more affine ones.
abbrev pub MoreAffine : List Mode → Holding → Holding → Type 0
MoreAffine [] [] [] = Unit {0}
MoreAffine (Affine ∷ ms) (x ∷ h) (y ∷ k) = (x ≡ true → y ≡ true) × MoreAffine ms h k
MoreAffine (Persistent ∷ ms) (x ∷ h) (y ∷ k) = (x ≡ y) × MoreAffine ms h k
MoreAffine (Linear ∷ ms) (x ∷ h) (y ∷ k) = (x ≡ y) × MoreAffine ms h k
MoreAffine _ _ _ = ⊥

-- Affine weakening: an object keeps its type where more affine entries are held.
abbrev pub AffineWeakening : Type 0
AffineWeakening = (sig : PlainSignature) (g : Context) (h k : Holding) → MoreAffine (modes g) h k
    → ((n : PlainObject) (a : PlainType) → HasType sig g h n a → HasType sig g k n a)
    × ((r : PlainNeutral) (a : PlainType) → Synthesizes sig g h r a → Synthesizes sig g k r a)
    × ((e : PlainExpression) (s : PlainTelescope) → ExpressionHasType sig g h e s → ExpressionHasType sig g k e s)

-- What is typed, and does not mention the variable i, stays typed where i is not held.
pub record NeedNotHold (sig : PlainSignature) (g : Context) (h : Holding) (i : ℕ) : Type 0 where
  pub objects : (n : PlainObject) (a : PlainType) → occurs i n ≡ false → HasType sig g h n a → HasType sig g (without i h) n a
  pub neutrals : (r : PlainNeutral) (a : PlainType) → occurs_neutral i r ≡ false → Synthesizes sig g h r a → Synthesizes sig g (without i h) r a
  pub expressions : (e : PlainExpression) (s : PlainTelescope) → occurs_expression i e ≡ false → ExpressionHasType sig g h e s → ExpressionHasType sig g (without i h) e s
  pub tuples : (t : PlainTuple) (s : PlainTelescope) → occurs_tuple i t ≡ false → TupleHasType sig g h t s → TupleHasType sig g (without i h) t s

-- An affine or linear variable that nothing mentions may be let go. (Of the linear ones only `<>` can have taken it.)
abbrev pub LettingGo : Type 0
LettingGo = (sig : PlainSignature) (g : Context) (h : Holding) (i : ℕ) → IsNotPersistent g i → NeedNotHold sig g h i
