-- What is left of the indices follows what has been paired.
use Rattle.std.proofs.Common.{◌≡◌, map, drop, length}
use Rattle.clf_syntax.specs.Plain.{plain_obj}
use Rattle.clf_syntax.specs.PlainTypes.{plain_ty}
use Rattle.clf_syntax.specs.Simple.{erase}
use Rattle.gathering.specs.Setting.{simple_locals}
use Rattle.celf_gather.specs.Gathered.{pairs_after}
use Rattle.celf_gather.specs.Walks.{IsBack, context_of, found_of}
use Rattle.celf_gather.proofs.known.Known.pair_at.Given as goal

abbrev pub invariant-loop-place : goal.invariant-loop-place
invariant-loop-place l = IsBack l.fn.walk l.walk × (length l.found ≡ length l.args) × (length l.wanted ≡ length l.args)
    × (pairs_after (simple_locals (context_of l.fn.walk)) (map erase (map plain_ty l.args)) (map plain_obj l.found) (map plain_obj l.wanted) (found_of l.fn.walk)
    ≡ pairs_after (simple_locals (context_of l.fn.walk)) (map erase (map plain_ty (drop l.place l.args))) (map plain_obj (drop l.place l.found)) (map plain_obj (drop l.place l.wanted)) (found_of l.walk))
