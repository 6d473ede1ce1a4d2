use Rattle.std.proofs.Common.{subst, List, map, Option, IfSome}
use Rattle.clf_syntax.specs.declared.tree.Ty.{Ty}
use Rattle.clf_syntax.specs.PlainTypes.{plain_ty}
use Rattle.clf_sig.specs.Signature.{plain_signature}
use Rattle.elaboration_laws.specs.ItemSetting.{item_setting}
use Rattle.celf_elaboration.specs.Items.{CoreGathers}
use Rattle.celf_constraints.specs.declared.equation.Equations.{Equations}
use Rattle.celf_constraints.specs.Equated.{equations_in}
use Rattle.celf_gather.specs.Holes.{GathersNothing}
use Rattle.celf_solve.specs.Scenes.{tree_of, metas_in}
use Rattle.celf_solve.proofs.Gathered.{posed, none_gathered}
use Rattle.celf_solve.proofs.posing.pose.Goals as goal

pub misfit-requires-clause-nothing : goal.misfit-requires-clause-nothing
misfit-requires-clause-nothing c =
    let sig = plain_signature c.args.sig.now in
    let s = c.args.scene.now in
    none_gathered sig s c.requires.formed c.requires.scene
    (subst (λ (ts : List Ty). GathersNothing sig (item_setting sig (map plain_ty ts) (metas_in s)) (tree_of s)) c.as_slice.ensures
    (c.in_ok-equations.ensures.refused c.in-None.is))

pub returns-in-Some-clause-posed : goal.returns-in-Some-clause-posed
returns-in-Some-clause-posed c =
    let sig = plain_signature c.args.sig.now in
    let s = c.args.scene.now in
    let q = equations_in c.in-Some.equations in
    posed sig s c.requires.formed c.requires.scene q
    (subst (λ (ts : List Ty). CoreGathers sig (item_setting sig (map plain_ty ts) (metas_in s)) (tree_of s) q) c.as_slice.ensures
    (subst (λ (o : Option Equations). IfSome o (λ (r : Equations).
    CoreGathers sig (item_setting sig (map plain_ty c.as_slice.result.now) (metas_in s)) (tree_of s) (equations_in r)))
    c.in-Some.is c.in_ok-equations.ensures.gathered))
