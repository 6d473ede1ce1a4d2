-- Flat systems: stores and equations in which each metavariable stands on distinct locals in the order of binding, and no monadic object stands.
use Rattle.std.specs.Prelude.{ℕ, true, ◌≡◌, List, Some}
use Rattle.std.specs.List.{slice_get}
use Rattle.clf_syntax.specs.Tree.{PlainObject}
use Rattle.clf_syntax.specs.TypeTree.{SimpleType}
use Rattle.store_laws.specs.Additions.{Addition, meta_types, given}
use Rattle.pattern_laws.specs.Instantiations.{Types, closed}
use Rattle.pattern_laws.specs.Equations.{Equation, Listed, scoped}
use Rattle.flat_laws.specs.Flat.{flat_type, Flat}

-- No monad stands in the simple type of a metavariable, and each solution is flat.
pub record FlatStore (constants : List SimpleType) (zs : List Addition) : Type 0 where
  pub types : (m : ℕ) (a : SimpleType) → slice_get (meta_types zs) m ≡ Some a → flat_type a ≡ true
  pub solutions : (m : ℕ) (o : PlainObject) (a : SimpleType) → given zs m ≡ Some o → slice_get (meta_types zs) m ≡ Some a → Flat (closed (slice_get constants) (slice_get (meta_types zs))) o a

-- Both sides are flat.
abbrev pub FlatEquation : Types → Types → Equation → Type 0
FlatEquation constants metas e = Flat (scoped e.locals (closed constants metas)) e.left e.type × Flat (scoped e.locals (closed constants metas)) e.right e.type

-- The store and each of the equations are flat.
pub record FlatSystem (constants : List SimpleType) (zs : List Addition) (es : List Equation) : Type 0 where
  pub store : FlatStore constants zs
  pub equations : (e : Equation) → Listed e es → FlatEquation (slice_get constants) (slice_get (meta_types zs)) e
