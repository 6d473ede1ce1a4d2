use Rattle.std.proofs.Common.{ap, subst, ◌∙◌}
use Rattle.clf_syntax.specs.Plain.{plain_obj, plain_neutral}
use Rattle.clf_syntax.specs.PlainSimple.{plain_simple}
use Rattle.clf_syntax.specs.Written.{Writes, fits}
use Rattle.eta_laws.specs.Eta.{expansion}
use Rattle.clf_simple.specs.Noted.{under}
use Rattle.clf_simple.specs.Roots.{plain_notes}
use Rattle.clf_simple.proofs.Noting.{expansion_given}
use Rattle.clf_simple.proofs.expansion.eta.Goals as goal

pub returns : goal.returns
returns c =
    let t = plain_simple c.args.ty.now in
    let n = plain_neutral c.args.neutral.now in
    subst (λ o. Writes plain_obj fits o c.expand.result) (ap (λ ns. expansion t (under (plain_notes ns) n)) c.new.ensures.items ∙ expansion_given t n) c.expand.ensures
