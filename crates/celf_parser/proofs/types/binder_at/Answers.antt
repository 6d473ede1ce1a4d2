use Rattle.std.proofs.Common.{rules}
use Rattle.celf_parser.proofs.Reading.{binds_steps}
use Rattle.celf_parser.proofs.TypeFaults.{binder_faults}
use Rattle.celf_parser.proofs.types.binder_at.Goals as goal

pub open-requires-clause-cursor : goal.open-requires-clause-cursor
open-requires-clause-cursor c = search (rules, binds_steps, binder_faults)

pub open-requires-clause-kind : goal.open-requires-clause-kind
open-requires-clause-kind c = search (rules, binds_steps, binder_faults)

pub returns-in_err-inside : goal.returns-in_err-inside
returns-in_err-inside c = search (rules, binds_steps, binder_faults)

pub returns-in_err-name : goal.returns-in_err-name
returns-in_err-name c = search (rules, binds_steps, binder_faults)

pub take-requires-clause-cursor : goal.take-requires-clause-cursor
take-requires-clause-cursor c = search (rules, binds_steps, binder_faults)

pub take-requires-clause-kind : goal.take-requires-clause-kind
take-requires-clause-kind c = search (rules, binds_steps, binder_faults)

pub returns-in_err-colon : goal.returns-in_err-colon
returns-in_err-colon c = search (rules, binds_steps, binder_faults)

pub returns : goal.returns
returns c = search (rules, binds_steps, binder_faults)
