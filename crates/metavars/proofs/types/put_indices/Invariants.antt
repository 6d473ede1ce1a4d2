-- What is done is what becomes of the front of the list.
use Rattle.std.proofs.Common.{take, map}
use Rattle.clf_syntax.specs.Plain.{plain_obj}
use Rattle.metavars.specs.Becoming as becoming
use Rattle.metavars.proofs.types.put_indices.Given as goal

abbrev pub invariant-loop-index : goal.invariant-loop-index
invariant-loop-index l = becoming.Each (becoming.Object l.looking.store.now) (map plain_obj (take l.index-index l.indices)) (map plain_obj l.put)
