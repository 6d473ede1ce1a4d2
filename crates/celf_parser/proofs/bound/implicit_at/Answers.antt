use Rattle.std.proofs.Common.{rules}
use Rattle.celf_grammar.specs.Grammar.{implicit_steps}
use Rattle.celf_parser.proofs.BoundFaults.{implicit_faults}
use Rattle.celf_parser.proofs.bound.implicit_at.Goals as goal

pub returns-in_default : goal.returns-in_default
returns-in_default c = search (rules, implicit_steps, implicit_faults)

pub take-requires-clause-cursor : goal.take-requires-clause-cursor
take-requires-clause-cursor c = search (rules, implicit_steps, implicit_faults)

pub take-requires-clause-kind : goal.take-requires-clause-kind
take-requires-clause-kind c = search (rules, implicit_steps, implicit_faults)

pub returns-in_err-bracket : goal.returns-in_err-bracket
returns-in_err-bracket c = search (rules, implicit_steps, implicit_faults)

pub returns-in_err-count : goal.returns-in_err-count
returns-in_err-count c = search (rules, implicit_steps, implicit_faults)

pub take-requires-2-clause-cursor : goal.take-requires-2-clause-cursor
take-requires-2-clause-cursor c = search (rules, implicit_steps, implicit_faults)

pub take-requires-2-clause-kind : goal.take-requires-2-clause-kind
take-requires-2-clause-kind c = search (rules, implicit_steps, implicit_faults)

pub returns-in_err-end : goal.returns-in_err-end
returns-in_err-end c = search (rules, implicit_steps, implicit_faults)

pub returns : goal.returns
returns c = search (rules, implicit_steps, implicit_faults)
