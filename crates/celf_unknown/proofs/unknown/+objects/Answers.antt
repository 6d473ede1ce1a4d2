use Rattle.std.proofs.Common.{arith}
use Rattle.std.specs.Prelude.{option_copied}
use Rattle.std.proofs.lemmas.List.{take_all}
use Rattle.clf_sig.specs.Signature.{plain_signature}
use Rattle.celf_sugar.specs.Plain.{desugared_elim, desugared_step, desugared_marked}
use Rattle.celf_unknown.specs.Unknown.{unknown_in_act}
use Rattle.celf_unknown.specs.UnknownLists.{unknown_in_step, bound_by_step, unknown_in_marked}
use Rattle.celf_unknown.proofs.UnknownLaws.{goes_on, goes_along}
use Rattle.celf_unknown.proofs.unknown.+objects.Goals as goal

pub unknown_in_spine-loop-act-preserved : goal.unknown_in_spine-loop-act-preserved
unknown_in_spine-loop-act-preserved t c =
    goes_on desugared_elim (unknown_in_act (plain_signature c.args.sig.now)) c.args.scope.now c.loop-act.scope c.unknown_in_act.new.scope c.args.spine.now c.loop-act.act-index c.act-item.result
    (option_copied c.loop-act.found) (option_copied c.in_ok-unknown_in_act.field-0) (option_copied c.sooner-found.result) (omega arith) c.act-item.is
    c.loop-act.invariant c.in_ok-unknown_in_act.ensures.first c.in_ok-unknown_in_act.ensures.kept c.sooner-found.ensures

pub unknown_in_steps-loop-step-preserved : goal.unknown_in_steps-loop-step-preserved
unknown_in_steps-loop-step-preserved t c =
    goes_along desugared_step (unknown_in_step (plain_signature c.args.sig.now)) bound_by_step c.args.scope.now c.loop-step.scope c.unknown_in_one_step.new.scope c.args.steps.now c.loop-step.step-index c.step-item.result
    (option_copied c.loop-step.found) (option_copied c.in_ok-unknown_in_one_step.field-0) (option_copied c.sooner-found.result) (omega arith) c.step-item.is
    c.loop-step.invariant c.in_ok-unknown_in_one_step.ensures.first c.in_ok-unknown_in_one_step.ensures.bound c.sooner-found.ensures

pub unknown_in_tuple-loop-entry-preserved : goal.unknown_in_tuple-loop-entry-preserved
unknown_in_tuple-loop-entry-preserved t c =
    goes_on desugared_marked (unknown_in_marked (plain_signature c.args.sig.now)) c.args.scope.now c.loop-entry.scope c.unknown_in_tuple_entry.new.scope c.args.tuple.now c.loop-entry.entry-index c.entry-item.result
    (option_copied c.loop-entry.found) (option_copied c.in_ok-unknown_in_tuple_entry.field-0) (option_copied c.sooner-found.result) (omega arith) c.entry-item.is
    c.loop-entry.invariant c.in_ok-unknown_in_tuple_entry.ensures.first c.in_ok-unknown_in_tuple_entry.ensures.kept c.sooner-found.ensures

pub unknown_in_spine-returns-clause-first : goal.unknown_in_spine-returns-clause-first
unknown_in_spine-returns-clause-first t c = rw (take_all c.loop-act.act-index c.args.spine.now c.loop-act-test.false) at c.loop-act.invariant.0

pub unknown_in_steps-returns-clause-first : goal.unknown_in_steps-returns-clause-first
unknown_in_steps-returns-clause-first t c = rw (take_all c.loop-step.step-index c.args.steps.now c.loop-step-test.false) at c.loop-step.invariant.0

pub unknown_in_steps-returns-clause-bound : goal.unknown_in_steps-returns-clause-bound
unknown_in_steps-returns-clause-bound t c = rw (take_all c.loop-step.step-index c.args.steps.now c.loop-step-test.false) at c.loop-step.invariant.1

pub unknown_in_tuple-returns-clause-first : goal.unknown_in_tuple-returns-clause-first
unknown_in_tuple-returns-clause-first t c = rw (take_all c.loop-entry.entry-index c.args.tuple.now c.loop-entry-test.false) at c.loop-entry.invariant.0
