-- What has been read goes before what is left. The locals are as they were.
use Rattle.std.proofs.Common.{◌≡◌, map, drop}
use Rattle.clf_syntax.specs.Plain.{plain_obj}
use Rattle.clf_syntax.specs.PlainSimple.{plain_simple_entry}
use Rattle.clf_sig.specs.Signature.{plain_signature}
use Rattle.celf_sugar.specs.Plain.{desugared_object}
use Rattle.celf_places.specs.Locals.{plain_locals}
use Rattle.celf_places.specs.Along.{with_some, read_along}
use Rattle.celf_explicit.specs.Lists.{later_parts, read_index}
use Rattle.celf_explicit.proofs.types.read_indices.Given as goal

abbrev pub invariant-loop-index : goal.invariant-loop-index
invariant-loop-index l = record {
  read : with_some (map plain_obj l.read) (read_along (read_index (plain_signature l.sig) (plain_locals l.outer)) later_parts (map plain_simple_entry l.wanted) (map desugared_object (drop l.index-index l.indices)))
      ≡ read_along (read_index (plain_signature l.sig) (plain_locals l.outer)) later_parts (map plain_simple_entry l.initial.wanted) (map desugared_object l.indices);
  kept : l.locals ≡ l.outer;
}
