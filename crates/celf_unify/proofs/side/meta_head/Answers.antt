use Rattle.std.proofs.Common.{◌∙◌, ap}
use Rattle.clf_syntax.specs.Plain.{plain_obj, plain_neutral, plain-At}
use Rattle.clf_simple.proofs.Lists.{neutral_head}
use Rattle.celf_unify.proofs.side.meta_head.Goals as goal

pub returns-in-Meta : goal.returns-in-Meta
returns-in-Meta c = (plain_neutral c.in-At.neutral, ap plain_obj c.in-At.is ∙ plain-At c.in-At.neutral, neutral_head c.in-At.neutral ∙ c.in-Meta.is)
