use Rattle.std.proofs.Common.{arith}
use Rattle.std.specs.Prelude.{option_copied}
use Rattle.std.proofs.lemmas.List.{take_all}
use Rattle.clf_sig.specs.Signature.{plain_signature}
use Rattle.celf_sugar.specs.Plain.{desugared_entry}
use Rattle.celf_unknown.specs.UnknownLists.{unknown_in_entry, bound_by_entry}
use Rattle.celf_unknown.proofs.UnknownLaws.{goes_along}
use Rattle.celf_unknown.proofs.unknown.+types.Goals as goal

pub unknown_in_entries-loop-entry-preserved : goal.unknown_in_entries-loop-entry-preserved
unknown_in_entries-loop-entry-preserved t c =
    goes_along desugared_entry (unknown_in_entry (plain_signature c.args.sig.now)) bound_by_entry c.args.scope.now c.loop-entry.scope c.unknown_in_one_entry.new.scope c.args.entries.now c.loop-entry.entry-index c.entry-item.result
    (option_copied c.loop-entry.found) (option_copied c.in_ok-unknown_in_one_entry.field-0) (option_copied c.sooner-found.result) (omega arith) c.entry-item.is
    c.loop-entry.invariant c.in_ok-unknown_in_one_entry.ensures.first c.in_ok-unknown_in_one_entry.ensures.bound c.sooner-found.ensures

pub unknown_in_entries-returns-clause-first : goal.unknown_in_entries-returns-clause-first
unknown_in_entries-returns-clause-first t c = rw (take_all c.loop-entry.entry-index c.args.entries.now c.loop-entry-test.false) at c.loop-entry.invariant.0

pub unknown_in_entries-returns-clause-bound : goal.unknown_in_entries-returns-clause-bound
unknown_in_entries-returns-clause-bound t c = rw (take_all c.loop-entry.entry-index c.args.entries.now c.loop-entry-test.false) at c.loop-entry.invariant.1
