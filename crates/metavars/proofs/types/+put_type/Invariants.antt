-- What is done is what becomes of the front of the list.
use Rattle.std.proofs.Common.{take, map}
use Rattle.clf_syntax.specs.PlainTypes.{plain_tele_entry}
use Rattle.metavars.specs.Becoming as becoming
use Rattle.metavars.proofs.types.+put_type.Given as goal

abbrev pub invariant-put_entries-loop-entry : goal.invariant-put_entries-loop-entry
invariant-put_entries-loop-entry l = becoming.Each (becoming.TypingEntry l.looking.store.now) (map plain_tele_entry (take l.entry-index l.entries)) (map plain_tele_entry l.put)
