-- What is left of the indices follows what has been gathered.
use Rattle.std.proofs.Common.{◌≡◌, map, drop}
use Rattle.clf_syntax.specs.Plain.{plain_obj}
use Rattle.clf_syntax.specs.PlainTypes.{plain_ty}
use Rattle.celf_gather.specs.Formed.{index_after}
use Rattle.celf_gather.specs.Gathered.{each_after}
use Rattle.celf_gather.specs.Walks.{IsBack, scene_of, context_of, found_of}
use Rattle.celf_gather.proofs.known.Known.form_indices.Given as goal

abbrev pub invariant-loop-index : goal.invariant-loop-index
invariant-loop-index l = IsBack l.fn.walk l.walk
    × (each_after (index_after (scene_of l.fn.self) (context_of l.fn.walk)) (map plain_obj l.fn.indices) (map plain_ty l.fn.args, found_of l.fn.walk)
    ≡ each_after (index_after (scene_of l.fn.self) (context_of l.fn.walk)) (map plain_obj (drop l.index-index l.fn.indices)) (map plain_ty l.rest, found_of l.walk))
