use Rattle.std.proofs.Common.{rules}
use Rattle.celf_parser.proofs.Reading.{family-read, family_steps}
use Rattle.celf_parser.proofs.LeafFaults.{family_faults}
use Rattle.celf_parser.proofs.leaf.family_at.Goals as goal

pub returns-clause-read : goal.returns-clause-read
returns-clause-read c =
    family-read c.in_ok-name.ensures.read c.in_ok-indices.ensures.read c.in_ok-indices.ensures.ends c.span_from-span.ensures c.span_from-at.ensures c.in_ok-ty.ensures

pub returns-in_err-name : goal.returns-in_err-name
returns-in_err-name c = search (rules, family_steps, family_faults)

pub returns-in_err-indices : goal.returns-in_err-indices
returns-in_err-indices c = search (rules, family_steps, family_faults)

pub returns-in_err-ty : goal.returns-in_err-ty
returns-in_err-ty c = search (rules, family_steps, family_faults)
