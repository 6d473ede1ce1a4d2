use Rattle.std.proofs.Common.{ap, ◌∙◌, ◌≡◌, refl}
use Rattle.clf_syntax.specs.declared.tree.Head.TheVariants.{Var}
use Rattle.clf_syntax.specs.Tree.{head_alone}
use Rattle.clf_syntax.specs.Plain.{plain_obj, plain_neutral}
use Rattle.clf_syntax.specs.PlainSimple.{plain_simple}
use Rattle.eta_laws.specs.Eta.{expansion}
use Rattle.eta_laws.proofs.Expansions.{expansion_laws}
use Rattle.celf_unify.proofs.places.variable.Goals as goal

pub returns-in-Ok-clause-object : goal.returns-in-Ok-clause-object
returns-in-Ok-clause-object c =
    let e : plain_obj c.in-Ok.obj ≡ expansion (plain_simple c.args.ty.now) (plain_neutral c.bare-neutral.result) = cc (c.in-Ok.ensures.0) in
    e ∙ ap (expansion (plain_simple c.args.ty.now)) c.bare-neutral.ensures ∙ expansion_laws.long (plain_simple c.args.ty.now) (head_alone (Var c.args.local)) refl
