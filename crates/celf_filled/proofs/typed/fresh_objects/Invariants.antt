-- What is made so far goes before what is left.
use Rattle.std.proofs.Common.{◌≡◌, ◌++◌, map, drop, reverse}
use Rattle.clf_syntax.specs.Plain.{plain_obj}
use Rattle.clf_syntax.specs.PlainSimple.{plain_simple_entry}
use Rattle.metavars.specs.Fresh.{scope_of}
use Rattle.celf_filled.specs.States.{count}
use Rattle.celf_filled.specs.TypedFrom.{type_of_entry, fresh_objects, new_of_each}
use Rattle.celf_filled.proofs.Grown.{GoesOn}
use Rattle.celf_filled.proofs.typed.fresh_objects.Given as goal

abbrev pub invariant-loop-entry : goal.invariant-loop-entry
invariant-loop-entry l = record {
  made : map plain_obj l.objects ++ fresh_objects (count l.store) (scope_of (map plain_simple_entry (reverse l.locals))) (map type_of_entry (map plain_simple_entry (drop l.entry-index l.wanted)))
      ≡ fresh_objects (count l.fn.store) (scope_of (map plain_simple_entry (reverse l.locals))) (map type_of_entry (map plain_simple_entry l.wanted));
  grown : GoesOn l.fn.store l.store (new_of_each (scope_of (map plain_simple_entry (reverse l.locals))) (map type_of_entry (map plain_simple_entry (drop l.entry-index l.wanted))))
      (new_of_each (scope_of (map plain_simple_entry (reverse l.locals))) (map type_of_entry (map plain_simple_entry l.wanted)));
}
