use Rattle.std.proofs.Common.{sym}
use Rattle.clf_syntax.specs.Plain.{plain_obj}
use Rattle.clf_simple.specs.Scope.{scope}
use Rattle.celf_constraints.proofs.LongForms.{no_candidate}
use Rattle.celf_constraints.proofs.long_forms.read_local.Goals as goal

pub returns-in-None-clause-read : goal.returns-in-None-clause-read
returns-in-None-clause-read c = no_candidate (scope c.args.types.now) (plain_obj c.args.obj.now) (sym c.in-None.ensures)
