-- Both spines were gone along so far.
use Rattle.std.proofs.Common.{◌≡◌, map, drop}
use Rattle.std.specs.Prelude.{false, Some}
use Rattle.clf_syntax.specs.declared.tree.Head.{Head}
use Rattle.clf_syntax.specs.Tree.{head_alone, spine_on}
use Rattle.clf_syntax.specs.TypeTree.{SimpleType}
use Rattle.clf_syntax.specs.Plain.{plain_elim}
use Rattle.clf_syntax.specs.PlainSimple.{plain_simple}
use Rattle.clf_syntax.specs.Simple.{Assignment, SimplyTypedNeutral}
use Rattle.hered_subst.specs.TypedEnvironments.{is_metavariable}
use Rattle.celf_constraints.specs.Equated.{plain_equation, plain_locals}
use Rattle.celf_unify.proofs.Together.{Along}
use Rattle.celf_unify.proofs.spines.argument_parts.Given as goal

abbrev pub invariant-loop-place : goal.invariant-loop-place
invariant-loop-place l = (g : Assignment) (h : Head) (u : SimpleType) → g h ≡ Some (plain_simple l.ty) → is_metavariable h ≡ false → SimplyTypedNeutral g (spine_on (map plain_elim l.left) (head_alone h)) u
    → Along g (plain_locals l.locals) (map plain_elim l.left) (map plain_elim l.right) h (plain_simple l.state.ty.now) (map plain_equation l.state.parts.items) (map plain_elim (drop l.place l.left)) (map plain_elim (drop l.place l.right))
