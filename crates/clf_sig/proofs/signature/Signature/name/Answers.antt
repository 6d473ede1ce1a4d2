use Rattle.std.proofs.Common.{ap, ◌∙◌, Some}
use Rattle.clf_sig.proofs.Names.{at_name}
use Rattle.clf_sig.proofs.signature.Signature.name.Goals as goal

pub returns : goal.returns
returns c =
    rw (← c.self.view_is)
    (ap Some c.as_str.ensures.value ∙ at_name c.self.inside.declared.entries c.args.k c.in_ok-name.name.now c.in_ok-name.field-0-1.now c.in_ok-name.ensures.entry)
