use Rattle.std.proofs.Common.{sym}
use Rattle.clf_syntax.specs.Plain.{plain_obj}
use Rattle.clf_simple.specs.Scope.{scope}
use Rattle.celf_constraints.proofs.LongForms.{no_known}
use Rattle.celf_constraints.proofs.long_forms.read_candidate.Goals as goal

pub returns-in-None-clause-read : goal.returns-in-None-clause-read
returns-in-None-clause-read c e = no_known (scope c.args.types.now) (plain_obj c.args.obj.now) c.args.local e (sym c.in-None.ensures)
