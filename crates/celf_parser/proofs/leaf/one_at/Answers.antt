use Rattle.std.proofs.Common.{rules}
use Rattle.celf_parser.proofs.LeafFaults.{one_faults}
use Rattle.celf_parser.proofs.Reading.{one_steps}
use Rattle.celf_parser.proofs.leaf.one_at.Goals as goal

pub returns-in_err-end : goal.returns-in_err-end
returns-in_err-end c = search (rules, one_steps, one_faults)

pub returns-in_err-ty : goal.returns-in_err-ty
returns-in_err-ty c = search (rules, one_steps, one_faults)

pub returns : goal.returns
returns c = search (rules, one_steps, one_faults)
