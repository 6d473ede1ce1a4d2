-- What is made so far goes before what is left, which is under the variables so far.
use Rattle.std.proofs.Common.{◌≡◌, ◌++◌, map, drop, reverse}
use Rattle.clf_syntax.specs.PlainTypes.{plain_tele_entry}
use Rattle.clf_syntax.specs.PlainSimple.{plain_simple_entry}
use Rattle.clf_sig.specs.Signature.{plain_signature}
use Rattle.celf_filled.specs.States.{count}
use Rattle.celf_filled.specs.TypedFrom.{indices_of, typed_entries, new_in_entries}
use Rattle.celf_filled.proofs.Grown.{GoesOn}
use Rattle.celf_filled.proofs.typed.+typed.Given as goal

abbrev pub invariant-entries_under-loop-entry : goal.invariant-entries_under-loop-entry
invariant-entries_under-loop-entry l = record {
  made : map plain_tele_entry l.typed ++ typed_entries (indices_of (plain_signature l.sig)) (count l.store) (map plain_simple_entry (reverse l.locals)) (map plain_simple_entry (drop l.entry-index l.entries))
      ≡ typed_entries (indices_of (plain_signature l.sig)) (count l.fn.store) (map plain_simple_entry (reverse l.outer)) (map plain_simple_entry l.entries);
  grown : GoesOn l.fn.store l.store (new_in_entries (indices_of (plain_signature l.sig)) (map plain_simple_entry (reverse l.locals)) (map plain_simple_entry (drop l.entry-index l.entries)))
      (new_in_entries (indices_of (plain_signature l.sig)) (map plain_simple_entry (reverse l.outer)) (map plain_simple_entry l.entries));
}
