-- What becomes of equations under an environment.
use Rattle.std.specs.Prelude.{ℕ, ◌≡◌, true, false, List, [], ◌∷◌, length, Some}
use Rattle.clf_syntax.specs.declared.tree.Head.TheVariants.{Const}
use Rattle.clf_syntax.specs.TypeTree.{PlainType}
use Rattle.hered_subst.specs.Substitution.{Environment, keep, under, Substituted, SubstitutedType}
use Rattle.hered_subst.specs.TypedEnvironments.{TypedEnvironment}
use Rattle.pattern_laws.specs.Equations.{Equation}
use Rattle.gathering.specs.Setting.{Setting}

-- The environment makes the sides of one equation those of another.
pub record Becomes (s : Environment) (e f : Equation) : Type 0 where
  pub locals : e.locals ≡ f.locals
  pub type : e.type ≡ f.type
  pub left : Substituted (under (length e.locals) s) e.left f.left
  pub right : Substituted (under (length e.locals) s) e.right f.right

abbrev pub BecomeEach : Environment → List Equation → List Equation → Type 0
BecomeEach s [] [] = Unit {0}
BecomeEach s (e ∷ p) (f ∷ q) = Becomes s e f × BecomeEach s p q
BecomeEach s [] (f ∷ q) = ⊥
BecomeEach s (e ∷ p) [] = ⊥

-- Two settings with the same heads, shapes and families, which the environment keeps; it takes the metavariables of the one to those of the other.
-- Nothing is filled in.
pub record SameHeads (z y : Setting) (s : Environment) : Type 0 where
  pub given : z.given ≡ y.given
  pub shape : z.shape ≡ y.shape
  pub arguments : z.arguments ≡ y.arguments
  pub fills : z.fills ≡ false
  pub kept : (c : ℕ) (a : PlainType) → z.given c ≡ Some a → (s (Const c) ≡ keep (Const c)) × SubstitutedType s a a
  pub typed : TypedEnvironment true z.simple y.simple s
