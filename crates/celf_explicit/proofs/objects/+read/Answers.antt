use Rattle.std.proofs.Common.{ap, sym, ◌∙◌, refl, List}
use Rattle.std.specs.Prelude.{map, option_copied, option_map}
use Rattle.clf_syntax.specs.Plain.{plain_obj, plain_elim, plain_step, plain_entry}
use Rattle.clf_syntax.specs.PlainSimple.{plain_simple_entry}
use Rattle.clf_sig.specs.Signature.{plain_signature}
use Rattle.celf_sugar.specs.Plain.{desugared_elim, desugared_step, desugared_marked, desugared_expression, expression-of}
use Rattle.celf_places.specs.Locals.{plain_place, plain_locals}
use Rattle.celf_sugar.specs.PlainTree.{steps_of, tuple_of}
use Rattle.celf_sugar.specs.declared.plain.PExpr.{out-PExpr}
use Rattle.celf_sugar.specs.declared.plain.PStep.{PStep}
use Rattle.celf_sugar.specs.declared.plain.PMarked.{PMarked}
use Rattle.celf_places.specs.Places.{behind_act}
use Rattle.celf_explicit.specs.Objects.{read_act, expression_of}
use Rattle.celf_places.specs.Along.{read_along, left_along}
use Rattle.celf_explicit.specs.Lists.{later_parts, read_marked, read_step, behind_step}
use Rattle.celf_places.proofs.AlongLaws.{none_along, one_along, all_along, left_next, left_end}
use Rattle.celf_explicit.proofs.PatternLaws.{grown_along}
use Rattle.celf_explicit.proofs.Expressions.{no_steps_read, expression_read, ok_along}
use Rattle.celf_explicit.proofs.objects.+read.Goals as goal

pub read_spine-loop-act-preserved : goal.read_spine-loop-act-preserved
read_spine-loop-act-preserved t c = record {
  read = one_along desugared_elim (read_act (plain_signature c.args.sig.now) (plain_locals c.args.locals.now)) behind_act (plain_place (option_copied c.loop-act.place)) c.args.spine.now c.loop-act.act-index
      plain_elim c.act-item.result c.loop-act.elims c.push.new.self c.in-Some.elim (plain_place (option_copied c.behind_act-place.result))
      (read_along (read_act (plain_signature c.args.sig.now) (plain_locals c.args.locals.now)) behind_act (plain_place (option_copied c.args.place)) (map desugared_elim c.args.spine.now))
      c.loop-act-test.true c.act-item.is c.loop-act.invariant.read
      (sym (ap (option_map plain_elim) c.in-Some.is) ∙ c.in_ok-elim.ensures.read ∙ ap (λ ls. read_act (plain_signature c.args.sig.now) (plain_locals ls) (plain_place (option_copied c.loop-act.place)) (desugared_elim c.act-item.result)) c.loop-act.invariant.kept)
      c.in_ok-push-in-Some.ensures.ok c.behind_act-place.ensures;
  kept = c.in_ok-elim.ensures.kept ∙ c.loop-act.invariant.kept;
}

pub read_spine-returns-in-None-clause-read : goal.read_spine-returns-in-None-clause-read
read_spine-returns-in-None-clause-read t c =
    none_along desugared_elim (read_act (plain_signature c.args.sig.now) (plain_locals c.args.locals.now)) behind_act (plain_place (option_copied c.loop-act.place)) c.args.spine.now c.loop-act.act-index
    c.act-item.result (map plain_elim c.loop-act.elims) (read_along (read_act (plain_signature c.args.sig.now) (plain_locals c.args.locals.now)) behind_act (plain_place (option_copied c.args.place)) (map desugared_elim c.args.spine.now))
    c.loop-act-test.true c.act-item.is c.loop-act.invariant.read
    (sym (ap (option_map plain_elim) c.in-None.is) ∙ c.in_ok-elim.ensures.read ∙ ap (λ ls. read_act (plain_signature c.args.sig.now) (plain_locals ls) (plain_place (option_copied c.loop-act.place)) (desugared_elim c.act-item.result)) c.loop-act.invariant.kept)

pub read_spine-returns-clause-read : goal.read_spine-returns-clause-read
read_spine-returns-clause-read t c =
    all_along desugared_elim (read_act (plain_signature c.args.sig.now) (plain_locals c.args.locals.now)) behind_act (plain_place (option_copied c.loop-act.place)) c.args.spine.now c.loop-act.act-index
    (map plain_elim c.loop-act.elims) (read_along (read_act (plain_signature c.args.sig.now) (plain_locals c.args.locals.now)) behind_act (plain_place (option_copied c.args.place)) (map desugared_elim c.args.spine.now))
    c.loop-act-test.false c.loop-act.invariant.read

pub read_tuple-loop-entry-preserved : goal.read_tuple-loop-entry-preserved
read_tuple-loop-entry-preserved t c = record {
  read = one_along desugared_marked (read_marked (plain_signature c.args.sig.now) (plain_locals c.args.locals.now)) later_parts (map plain_simple_entry c.loop-entry.wanted.now) c.args.tuple.now c.loop-entry.entry-index
      plain_entry c.entry-item.result c.loop-entry.entries c.push.new.self c.in-Some.entry (map plain_simple_entry c.next_part.result.later.now)
      (read_along (read_marked (plain_signature c.args.sig.now) (plain_locals c.args.locals.now)) later_parts (map plain_simple_entry c.args.wanted.now) (map desugared_marked c.args.tuple.now))
      c.loop-entry-test.true c.entry-item.is c.loop-entry.invariant.read
      (sym (ap (option_map plain_entry) c.in-Some.is) ∙ c.in_ok-entry.ensures.read ∙ ap (λ ls. read_marked (plain_signature c.args.sig.now) (plain_locals ls) (map plain_simple_entry c.loop-entry.wanted.now) (desugared_marked c.entry-item.result)) c.loop-entry.invariant.kept)
      c.in_ok-push-in-Some.ensures.ok c.next_part.ensures.later;
  kept = c.in_ok-entry.ensures.kept ∙ c.loop-entry.invariant.kept;
}

pub read_tuple-returns-in-None-clause-read : goal.read_tuple-returns-in-None-clause-read
read_tuple-returns-in-None-clause-read t c =
    none_along desugared_marked (read_marked (plain_signature c.args.sig.now) (plain_locals c.args.locals.now)) later_parts (map plain_simple_entry c.loop-entry.wanted.now) c.args.tuple.now c.loop-entry.entry-index
    c.entry-item.result (map plain_entry c.loop-entry.entries) (read_along (read_marked (plain_signature c.args.sig.now) (plain_locals c.args.locals.now)) later_parts (map plain_simple_entry c.args.wanted.now) (map desugared_marked c.args.tuple.now))
    c.loop-entry-test.true c.entry-item.is c.loop-entry.invariant.read
    (sym (ap (option_map plain_entry) c.in-None.is) ∙ c.in_ok-entry.ensures.read ∙ ap (λ ls. read_marked (plain_signature c.args.sig.now) (plain_locals ls) (map plain_simple_entry c.loop-entry.wanted.now) (desugared_marked c.entry-item.result)) c.loop-entry.invariant.kept)

pub read_tuple-returns-clause-read : goal.read_tuple-returns-clause-read
read_tuple-returns-clause-read t c =
    all_along desugared_marked (read_marked (plain_signature c.args.sig.now) (plain_locals c.args.locals.now)) later_parts (map plain_simple_entry c.loop-entry.wanted.now) c.args.tuple.now c.loop-entry.entry-index
    (map plain_entry c.loop-entry.entries) (read_along (read_marked (plain_signature c.args.sig.now) (plain_locals c.args.locals.now)) later_parts (map plain_simple_entry c.args.wanted.now) (map desugared_marked c.args.tuple.now))
    c.loop-entry-test.false c.loop-entry.invariant.read

pub read_expression-loop-step-preserved : goal.read_expression-loop-step-preserved
read_expression-loop-step-preserved t c = record {
  read = one_along desugared_step (read_step (plain_signature c.args.sig.now)) (behind_step (plain_signature c.args.sig.now)) (plain_locals c.loop-step.locals) c.as_slice-step-items.result.now c.loop-step.step-index
      plain_step c.step-item.result c.loop-step.steps c.push.new.self c.in-Some.step (plain_locals c.read_step.new.locals)
      (read_along (read_step (plain_signature c.args.sig.now)) (behind_step (plain_signature c.args.sig.now)) (plain_locals c.args.locals.now) (map desugared_step c.as_slice-step-items.result.now))
      c.loop-step-test.true c.step-item.is c.loop-step.invariant.read
      (sym (ap (option_map plain_step) c.in-Some.is) ∙ c.in_ok-step.ensures.read)
      c.in_ok-push-in-Some.ensures.ok c.in_ok-step.ensures.bound;
  bound = left_next desugared_step (behind_step (plain_signature c.args.sig.now)) (plain_locals c.loop-step.locals) c.as_slice-step-items.result.now c.loop-step.step-index
      (left_along (behind_step (plain_signature c.args.sig.now)) (plain_locals c.args.locals.now) (map desugared_step c.as_slice-step-items.result.now))
      c.step-item.result (plain_locals c.read_step.new.locals) c.loop-step-test.true c.step-item.is c.loop-step.invariant.bound c.in_ok-step.ensures.bound;
  grown = grown_along c.args.locals.now c.loop-step.locals c.read_step.new.locals c.loop-step.invariant.grown c.in_ok-step.ensures.grown;
}

pub read_expression-returns-in-None-clause-read : goal.read_expression-returns-in-None-clause-read
read_expression-returns-in-None-clause-read t c =
    no_steps_read (plain_signature c.args.sig.now) (plain_locals c.args.locals.now) (map plain_simple_entry c.args.wanted.now) (desugared_expression c.args.expr.now)
    (map desugared_step c.as_slice-step-items.result.now) (map desugared_marked (out-PExpr c.args.expr.now).result)
    (expression-of c.args.expr.now ∙ ap (λ (ss : List PStep). (steps_of (map desugared_step ss), tuple_of (map desugared_marked (out-PExpr c.args.expr.now).result))) (sym c.as_slice-step-items.ensures))
    (none_along desugared_step (read_step (plain_signature c.args.sig.now)) (behind_step (plain_signature c.args.sig.now)) (plain_locals c.loop-step.locals) c.as_slice-step-items.result.now c.loop-step.step-index
    c.step-item.result (map plain_step c.loop-step.steps)
    (read_along (read_step (plain_signature c.args.sig.now)) (behind_step (plain_signature c.args.sig.now)) (plain_locals c.args.locals.now) (map desugared_step c.as_slice-step-items.result.now))
    c.loop-step-test.true c.step-item.is c.loop-step.invariant.read
    (sym (ap (option_map plain_step) c.in-None.is) ∙ c.in_ok-step.ensures.read))

pub read_expression-returns-in-None-clause-grown : goal.read_expression-returns-in-None-clause-grown
read_expression-returns-in-None-clause-grown t c = grown_along c.args.locals.now c.loop-step.locals c.read_step.new.locals c.loop-step.invariant.grown c.in_ok-step.ensures.grown

pub read_expression-returns-clause-read : goal.read_expression-returns-clause-read
read_expression-returns-clause-read t c =
    ok_along (option_map plain_obj) c.monadic.result _ _ c.monadic.ensures
    (expression_read (plain_signature c.args.sig.now) (plain_locals c.args.locals.now) (map plain_simple_entry c.args.wanted.now) (desugared_expression c.args.expr.now)
    (map desugared_step c.as_slice-step-items.result.now) (map desugared_marked c.as_slice.result.now)
    (plain_locals c.loop-step.locals) (map plain_step c.loop-step.steps) (option_map (map plain_entry) c.in_ok-result.result) (option_map (expression_of (map plain_step c.loop-step.steps)) (option_map (map plain_entry) c.in_ok-result.result))
    (expression-of c.args.expr.now
    ∙ ap (λ (ss : List PStep). (steps_of (map desugared_step ss), tuple_of (map desugared_marked (out-PExpr c.args.expr.now).result))) (sym c.as_slice-step-items.ensures)
    ∙ ap (λ (us : List PMarked). (steps_of (map desugared_step c.as_slice-step-items.result.now), tuple_of (map desugared_marked us))) (sym c.as_slice.ensures))
    (all_along desugared_step (read_step (plain_signature c.args.sig.now)) (behind_step (plain_signature c.args.sig.now)) (plain_locals c.loop-step.locals) c.as_slice-step-items.result.now c.loop-step.step-index
    (map plain_step c.loop-step.steps)
    (read_along (read_step (plain_signature c.args.sig.now)) (behind_step (plain_signature c.args.sig.now)) (plain_locals c.args.locals.now) (map desugared_step c.as_slice-step-items.result.now))
    c.loop-step-test.false c.loop-step.invariant.read)
    (left_end desugared_step (behind_step (plain_signature c.args.sig.now)) (plain_locals c.loop-step.locals) c.as_slice-step-items.result.now c.loop-step.step-index
    (left_along (behind_step (plain_signature c.args.sig.now)) (plain_locals c.args.locals.now) (map desugared_step c.as_slice-step-items.result.now))
    c.loop-step-test.false c.loop-step.invariant.bound)
    c.in_ok-result.ensures.read
    refl)
