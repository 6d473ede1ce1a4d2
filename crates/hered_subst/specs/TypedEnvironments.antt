-- Environments that keep simple types.
use Rattle.std.specs.Prelude.{◌≡◌, ◌⊎◌, Bool, true, false, Some}
use Rattle.clf_syntax.specs.declared.tree.Head.{Head}
use Rattle.clf_syntax.specs.declared.tree.Head.TheVariants.{Const, Var, Meta}
use Rattle.clf_syntax.specs.Tree.{PlainObject}
use Rattle.clf_syntax.specs.TypeTree.{SimpleType}
use Rattle.clf_syntax.specs.Simple.{Assignment, no_holes, SimplyTypedWith}
use Rattle.hered_subst.specs.Substitution.{Image, keep, put, Environment}

abbrev pub is_metavariable : Head → Bool
is_metavariable (Const c) = false
is_metavariable (Var i) = false
is_metavariable (Meta m) = true

-- What may stand for a head of the simple type u: a head of that type, a metavariable for a metavariable alone; or an object of that type,
-- in which a metavariable may stand at a monad where the flag is true.
abbrev pub StandsFor : Bool → Assignment → SimpleType → Head → Image → Type 0
StandsFor w z u h i = ((j : Head) × (i ≡ keep j) × (z j ≡ Some u) × (is_metavariable j ≡ is_metavariable h)) ⊎ ((n : PlainObject) × (i ≡ put n) × SimplyTypedWith (no_holes w) z n u)

-- The environment takes trees over g to trees over z: so it is at each head to which g gives a type. The other heads are left open.
abbrev pub TypedEnvironment : Bool → Assignment → Assignment → Environment → Type 0
TypedEnvironment w g z s = (h : Head) (u : SimpleType) → g h ≡ Some u → StandsFor w z u h (s h)
