use Rattle.gathered_laws.proofs.CoresTyped.{gathered_core_is_typed}
use Rattle.gathered_laws.proofs.PartsTyped.{gathered_parts_are_typed}
use Rattle.gathered_laws.proofs.laws.gathered.Goals as goal

pub returns-clause-parts : goal.returns-clause-parts
returns-clause-parts c = gathered_parts_are_typed

pub returns-clause-core : goal.returns-clause-core
returns-clause-core c = gathered_core_is_typed
