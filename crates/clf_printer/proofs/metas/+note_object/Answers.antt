use Rattle.std.proofs.Common.{◌≡◌, ◌+◌, ◌<◌, ◌≤◌, length, map, drop, arith, refl, sym, ap, ◌∙◌}
use Rattle.std.proofs.lemmas.List.{at_drop_all}
use Rattle.std.proofs.lemmas.Result.{on_ok_weaker}
use Rattle.clf_syntax.specs.declared.tree.Expr.{out-Expr}
use Rattle.clf_syntax.specs.Plain.{plain_obj, plain_elim, plain_expr, plain_neutral, plain_step, plain_entry, plain-Lam, plain-Pair, plain-Unit, plain-Mon, plain-At, plain-Hole, plain-Arg, plain-First, plain-Second, plain-expr, plain-neutral}
use Rattle.clf_syntax.specs.Tree.{lam, pair, unit, monadic, atomic, hole, arg, first, second, head_alone, done, steps_on, tuple_of}
use Rattle.clf_printer.specs.Metas.{appearing, appearing_head, appearing_neutral, appearing_spine, appearing_expression, appearing_tuple}
use Rattle.clf_syntax.proofs.Next.{dropped}
use Rattle.clf_printer.proofs.Appearances.{appearing-spine}
use Rattle.clf_printer.proofs.Next.{appearing_steps-next, appearing_tuple-next}
use Rattle.clf_printer.proofs.metas.+note_object.Goals as goal

pub note_expression-loop-step-preserved : goal.note_expression-loop-step-preserved
note_expression-loop-step-preserved t c =
    let i = c.loop-step.step-index in
    let steps = c.as_slice-step-items.result.now in
    let rest = done (tuple_of (map plain_entry (out-Expr c.args.expr.now).result)) in
    let lt : i < length steps = omega arith in
    ap (λ m. appearing_expression m (steps_on (map plain_step (drop (i + 1) steps)) rest)) c.in_ok-note_neutral.ensures
    ∙ sym (appearing_steps-next c.loop-step.metas.items i c.step-item.result steps rest lt c.step-item.is)
    ∙ c.loop-step.invariant

pub note_tuple-loop-entry-preserved : goal.note_tuple-loop-entry-preserved
note_tuple-loop-entry-preserved t c =
    let i = c.loop-entry.entry-index in
    let tuple = c.args.tuple.now in
    let lt : i < length tuple = omega arith in
    ap (λ m. appearing_tuple m (tuple_of (map plain_entry (drop (i + 1) tuple)))) c.in_ok-note_object.ensures
    ∙ sym (appearing_tuple-next c.loop-entry.metas.items i c.entry-item.result tuple lt c.entry-item.is)
    ∙ c.loop-entry.invariant

pub note_spine-loop-act-preserved : goal.note_spine-loop-act-preserved
note_spine-loop-act-preserved t c =
    let i = c.loop-act.act-index in
    let spine = c.args.spine.now in
    let lt : i < length spine = omega arith in
    ap (λ m. appearing_spine m (map plain_elim (drop (i + 1) spine))) c.in_ok-note_elimination.ensures
    ∙ sym (ap (λ acts. appearing_spine c.loop-act.metas.items (map plain_elim acts)) (dropped spine i c.act-item.result lt c.act-item.is))
    ∙ c.loop-act.invariant

pub note_spine-returns : goal.note_spine-returns
note_spine-returns t c =
    let i = c.loop-act.act-index in
    let spine = c.args.spine.now in
    let ended : length spine ≤ i = omega arith in
    sym (at_drop_all (λ acts. appearing_spine c.loop-act.metas.items (map plain_elim acts)) spine i ended) ∙ c.loop-act.invariant

pub note_tuple-returns : goal.note_tuple-returns
note_tuple-returns t c =
    let i = c.loop-entry.entry-index in
    let tuple = c.args.tuple.now in
    let ended : length tuple ≤ i = omega arith in
    sym (at_drop_all (λ ts. appearing_tuple c.loop-entry.metas.items (tuple_of (map plain_entry ts))) tuple i ended) ∙ c.loop-entry.invariant

pub note_expression-loop-step-init : goal.note_expression-loop-step-init
note_expression-loop-step-init t c =
    let metas = c.args.metas.now.items in
    ap (λ ss. appearing_expression metas (steps_on (map plain_step ss) (done (tuple_of (map plain_entry (out-Expr c.args.expr.now).result))))) c.as_slice-step-items.ensures
    ∙ ap (λ e. appearing_expression metas e) (sym (plain-expr c.args.expr.now))

pub note_expression-returns : goal.note_expression-returns
note_expression-returns t c =
    let i = c.loop-step.step-index in
    let steps = c.as_slice-step-items.result.now in
    let metas = c.loop-step.metas.items in
    let ended : length steps ≤ i = omega arith in
    on_ok_weaker c.note_tuple.result
    (λ e. e
    ∙ ap (λ ts. appearing_tuple metas (tuple_of (map plain_entry ts))) c.as_slice.ensures
    ∙ sym (at_drop_all (λ ss. appearing_expression metas (steps_on (map plain_step ss) (done (tuple_of (map plain_entry (out-Expr c.args.expr.now).result))))) steps i ended)
    ∙ c.loop-step.invariant)
    c.note_tuple.ensures

pub note_neutral-returns : goal.note_neutral-returns
note_neutral-returns t c =
    let metas = c.args.metas.now.items in
    let neutral = c.args.neutral.now in
    on_ok_weaker c.note_spine.result
    (λ e. e
    ∙ ap (λ m. appearing_spine m (map plain_elim c.as_slice.result.now)) c.in_ok-note_head.ensures
    ∙ ap (λ acts. appearing_spine (appearing_head metas neutral.head) (map plain_elim acts)) c.as_slice.ensures
    ∙ sym (ap (λ n. appearing_neutral metas n) (plain-neutral neutral) ∙ appearing-spine metas (map plain_elim neutral.spine) (head_alone neutral.head)))
    c.note_spine.ensures

pub note_elimination-returns-in-Arg : goal.note_elimination-returns-in-Arg
note_elimination-returns-in-Arg t c =
    let is = c.in-Arg.is in
    let law = plain-Arg c.in-Arg.mode c.in-Arg.obj in
    let plain : plain_elim c.args.act.now ≡ arg c.in-Arg.mode (plain_obj c.in-Arg.obj) = cc in
    rw plain c.note_object.ensures

pub note_elimination-returns-in-First : goal.note_elimination-returns-in-First
note_elimination-returns-in-First t c =
    let is = c.in-First.is in
    let law = plain-First in
    let plain : plain_elim c.args.act.now ≡ first = cc in
    rw plain refl

pub note_elimination-returns-in-Second : goal.note_elimination-returns-in-Second
note_elimination-returns-in-Second t c =
    let is = c.in-Second.is in
    let law = plain-Second in
    let plain : plain_elim c.args.act.now ≡ second = cc in
    rw plain refl

pub note_object-returns-in-Lam : goal.note_object-returns-in-Lam
note_object-returns-in-Lam t c =
    let is = c.in-Lam.is in
    let got = c.get.ensures in
    let law = plain-Lam c.in-Lam.mode c.get.result.now in
    let plain : plain_obj c.args.obj.now ≡ lam c.in-Lam.mode (plain_obj c.get.result.now) = cc in
    rw plain c.note_object.ensures

pub note_object-returns-in_ok-note_object-in-Pair : goal.note_object-returns-in_ok-note_object-in-Pair
note_object-returns-in_ok-note_object-in-Pair t c =
    let left = c.get-in-Pair.result.now in
    let right = c.get-in-Pair-2.result.now in
    let is = c.in-Pair.is in
    let got_left = c.get-in-Pair.ensures in
    let got_right = c.get-in-Pair-2.ensures in
    let law = plain-Pair left right in
    let plain : plain_obj c.args.obj.now ≡ pair (plain_obj left) (plain_obj right) = cc in
    rw plain (on_ok_weaker c.note_object-in-Pair-2.result (λ e. e ∙ ap (λ m. appearing m (plain_obj right)) c.in_ok-note_object-in-Pair.ensures) c.note_object-in-Pair-2.ensures)

pub note_object-returns-in-Unit : goal.note_object-returns-in-Unit
note_object-returns-in-Unit t c =
    let is = c.in-Unit.is in
    let law = plain-Unit in
    let plain : plain_obj c.args.obj.now ≡ unit = cc in
    rw plain refl

pub note_object-returns-in-Mon : goal.note_object-returns-in-Mon
note_object-returns-in-Mon t c =
    let expr = c.get-in-Mon.result.now in
    let is = c.in-Mon.is in
    let got = c.get-in-Mon.ensures in
    let law = plain-Mon expr in
    let plain : plain_obj c.args.obj.now ≡ monadic (plain_expr expr) = cc in
    rw plain c.note_expression.ensures

pub note_object-returns-in-At : goal.note_object-returns-in-At
note_object-returns-in-At t c =
    let is = c.in-At.is in
    let law = plain-At c.in-At.neutral in
    let plain : plain_obj c.args.obj.now ≡ atomic (plain_neutral c.in-At.neutral) = cc in
    rw plain c.note_neutral.ensures

pub note_object-returns-in-Hole : goal.note_object-returns-in-Hole
note_object-returns-in-Hole t c =
    let is = c.in-Hole.is in
    let law = plain-Hole in
    let plain : plain_obj c.args.obj.now ≡ hole = cc in
    rw plain refl
