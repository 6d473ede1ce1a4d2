use Rattle.clf_syntax.specs.Plain.{plain_neutral}
use Rattle.clf_syntax.specs.PlainSimple.{plain_simple}
use Rattle.celf_constraints.proofs.LongForms.{written_long}
use Rattle.celf_constraints.proofs.long_forms.long_form.Goals as goal

pub returns : goal.returns
returns c = written_long (plain_simple c.args.ty.now) (plain_neutral c.variable-neutral.result) c.args.local c.eta.result c.variable-neutral.ensures c.eta.ensures
