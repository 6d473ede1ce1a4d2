use Rattle.std.proofs.Common.{rules}
use Rattle.celf_parser.proofs.TypeFaults.{memory_faults}
use Rattle.celf_parser.proofs.body.boxed_object_at.Goals as goal

pub returns-in_err-obj : goal.returns-in_err-obj
returns-in_err-obj c = search (rules, memory_faults)

pub returns-in_err-new : goal.returns-in_err-new
returns-in_err-new c = search (rules, memory_faults)

pub returns : goal.returns
returns c = search (rules, memory_faults)
