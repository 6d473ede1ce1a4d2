use Rattle.found_laws.proofs.DirectiveInstances.{clash_has_no_directive, found_directive_is_most_general}
use Rattle.found_laws.proofs.laws.directives.Goals as goal

pub returns-clause-clash : goal.returns-clause-clash
returns-clause-clash c = clash_has_no_directive

pub returns-clause-general : goal.returns-clause-general
returns-clause-general c = found_directive_is_most_general
