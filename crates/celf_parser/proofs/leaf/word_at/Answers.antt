use Rattle.std.proofs.Common.{rules}
use Rattle.celf_parser.proofs.LeafFaults.{taken_faults}
use Rattle.celf_parser.proofs.Reading.{word_steps}
use Rattle.celf_parser.proofs.leaf.word_at.Goals as goal

pub take-requires-clause-cursor : goal.take-requires-clause-cursor
take-requires-clause-cursor c = search (rules, word_steps, taken_faults)

pub take-requires-clause-kind : goal.take-requires-clause-kind
take-requires-clause-kind c = search (rules, word_steps, taken_faults)

pub returns-in_err-end : goal.returns-in_err-end
returns-in_err-end c = search (rules, word_steps, taken_faults)

pub returns-in_err-ty : goal.returns-in_err-ty
returns-in_err-ty c = search (rules, word_steps, taken_faults)

pub returns : goal.returns
returns c = search (rules, word_steps, taken_faults)
