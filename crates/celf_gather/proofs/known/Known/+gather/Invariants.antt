-- What is left of a spine, of steps or of a tuple follows what has been gathered.
use Rattle.std.proofs.Common.{◌≡◌, map, drop}
use Rattle.clf_syntax.specs.Plain.{plain_elim, plain_step, plain_entry}
use Rattle.clf_syntax.specs.PlainTypes.{plain_ty, plain_tele_entry}
use Rattle.clf_syntax.specs.Tree.{tuple_of}
use Rattle.clf_syntax.specs.TypeTree.{telescope_of}
use Rattle.celf_gather.specs.Gathered.{each_after, elimination_after, step_after, tuple_after}
use Rattle.celf_gather.specs.Walks.{IsBack, IsGrown, scene_of, context_of, found_of}
use Rattle.celf_gather.proofs.known.Known.+gather.Given as goal

abbrev pub invariant-enter_steps-loop-step : goal.invariant-enter_steps-loop-step
invariant-enter_steps-loop-step l = IsGrown l.fn.walk l.walk
    × (each_after (step_after (scene_of l.fn.self)) (map plain_step l.fn.steps) (context_of l.fn.walk, found_of l.fn.walk)
    ≡ each_after (step_after (scene_of l.fn.self)) (map plain_step (drop l.step-index l.fn.steps)) (context_of l.walk, found_of l.walk))

abbrev pub invariant-gather_tuple-loop-entry : goal.invariant-gather_tuple-loop-entry
invariant-gather_tuple-loop-entry l = IsBack l.fn.walk l.walk
    × (tuple_after (scene_of l.fn.self) (context_of l.fn.walk) (tuple_of (map plain_entry l.fn.entries)) (telescope_of (map plain_tele_entry l.fn.types)) (found_of l.fn.walk)
    ≡ tuple_after (scene_of l.fn.self) (context_of l.fn.walk) (tuple_of (map plain_entry (drop l.entry-index l.fn.entries))) (telescope_of (map plain_tele_entry l.rest)) (found_of l.walk))

abbrev pub invariant-infer_spine-loop-act : goal.invariant-infer_spine-loop-act
invariant-infer_spine-loop-act l = IsBack l.fn.walk l.walk
    × (each_after (elimination_after (scene_of l.fn.self) (context_of l.fn.walk)) (map plain_elim l.fn.spine) (plain_ty l.fn.head, found_of l.fn.walk)
    ≡ each_after (elimination_after (scene_of l.fn.self) (context_of l.fn.walk)) (map plain_elim (drop l.act-index l.fn.spine)) (plain_ty l.ty, found_of l.walk))
