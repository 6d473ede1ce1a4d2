-- What is left of a spine, of steps or of a tuple follows what has been done.
use Rattle.std.proofs.Common.{◌≡◌, length, drop, map}
use Rattle.clf_syntax.specs.Plain.{plain_elim, plain_step, plain_entry}
use Rattle.clf_syntax.specs.PlainTypes.{plain_tele_entry}
use Rattle.clf_syntax.specs.Tree.{PlainTuple, done, steps_on, tuple_of}
use Rattle.clf_syntax.specs.TypeTree.{PlainTelescope, telescope_of}
use Rattle.clf_syntax.specs.Renaming.{ren_telescope, up}
use Rattle.use_contexts.specs.Marks.{marks}
use Rattle.clf_decision.specs.Checking.{checked_expression, checked_tuple}
use Rattle.clf_decision.specs.Hereditary.{hereditary}
use Rattle.clf_kernel.specs.Spine.{spine_left}
use Rattle.clf_kernel.specs.Answers.{plain_inferred}
use Rattle.clf_kernel.specs.Trail.{closed_steps, opened_by, opened_width}
use Rattle.clf_kernel.specs.TupleEntries.{plain_rest}
use Rattle.clf_kernel.proofs.TupleSteps.{tuple_rest}
use Rattle.clf_kernel.specs.Judge.{IsGrown, IsRowOf, IsWiderBy, signature_of, context_of}
use Rattle.clf_kernel.proofs.judge.Judge.+check.Given as goal

abbrev pub invariant-infer_spine-loop-act : goal.invariant-infer_spine-loop-act
invariant-infer_spine-loop-act l = (l.self ≡ l.fn.self)
    × IsRowOf l.fn.self l.inferred.left.row
    × (l.place ≡ l.act-index)
    × (spine_left hereditary (signature_of l.fn.self) (context_of l.fn.self) 0 (map plain_elim l.fn.spine) (plain_inferred l.fn.found) ≡ spine_left hereditary (signature_of l.fn.self) (context_of l.fn.self) l.act-index (map plain_elim (drop l.act-index l.fn.spine)) (plain_inferred l.inferred))

abbrev pub invariant-open_steps-loop-step : goal.invariant-open_steps-loop-step
invariant-open_steps-loop-step l = (l.place ≡ l.step-index)
    × (length l.opened ≡ l.step-index)
    × IsGrown l.fn.self l.self
    × IsWiderBy (opened_width (opened_by l.opened)) l.fn.self l.self
    × IsRowOf l.self l.row
    × ((t : PlainTuple) (s : PlainTelescope)
    → checked_expression hereditary (signature_of l.fn.self) (context_of l.fn.self) (marks l.fn.row) 0 (steps_on (map plain_step l.fn.steps) (done t)) s
    ≡ closed_steps (length (context_of l.fn.self)) (opened_by l.opened) (checked_expression hereditary (signature_of l.fn.self) (context_of l.self) (marks l.row) l.step-index (steps_on (map plain_step (drop l.step-index l.fn.steps)) (done t)) (ren_telescope (up (opened_width (opened_by l.opened))) s)))

abbrev pub invariant-check_tuple-loop-entry : goal.invariant-check_tuple-loop-entry
invariant-check_tuple-loop-entry l = (l.self ≡ l.fn.self)
    × IsRowOf l.fn.self l.rest.left.row
    × (l.before ≡ l.entry-index)
    × (checked_tuple hereditary (signature_of l.fn.self) (context_of l.fn.self) (marks l.fn.row) l.fn.steps 0 (tuple_of (map plain_entry l.fn.entries)) (telescope_of (map plain_tele_entry l.fn.types))
    ≡ tuple_rest hereditary (signature_of l.fn.self) (context_of l.fn.self) l.fn.steps l.entry-index (tuple_of (map plain_entry (drop l.entry-index l.fn.entries))) (plain_rest l.rest))
