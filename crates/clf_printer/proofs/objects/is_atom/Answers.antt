use Rattle.std.proofs.Common.{arith}
use Rattle.std.proofs.lemmas.Grind.{common_steps}
use Rattle.clf_printer.proofs.Texts.{texts}
use Rattle.clf_printer.proofs.objects.is_atom.Goals as goal

pub returns-in-At : goal.returns-in-At
returns-in-At c = grind (arith, common_steps, texts, c.is_applied.ensures c.in-At.neutral.head)
