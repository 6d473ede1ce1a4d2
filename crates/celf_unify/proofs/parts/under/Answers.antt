use Rattle.std.proofs.Common.{ap, ◌∙◌, ◌∷◌}
use Rattle.std.proofs.lemmas.Result.{IfOk-weaker}
use Rattle.clf_syntax.specs.PlainSimple.{plain_simple}
use Rattle.celf_constraints.specs.Equated.{plain_locals}
use Rattle.celf_unify.proofs.Insides.{under_one}
use Rattle.celf_unify.proofs.parts.under.Goals as goal

pub returns : goal.returns
returns c = IfOk-weaker c.with_local.result _ _
    (λ inner h. under_one c.in_ok-copy_locals.field-0.items inner.items c.in_ok-local.local h ∙ ap (λ p. p ∷ plain_locals c.in_ok-copy_locals.field-0.items) c.in_ok-local.ensures
    ∙ ap (λ ls. (c.args.mode, plain_simple c.args.ty.now) ∷ plain_locals ls) c.in_ok-copy_locals.ensures)
    c.with_local.ensures
