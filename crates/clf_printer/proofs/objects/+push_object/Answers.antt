use Rattle.std.proofs.Common.{◌≡◌, ◌+◌, ◌-◌, ◌<◌, ◌≤◌, ◌++◌, nat_lt, ◌==◌, not, length, map, take, arith, sym, ap, ◌∙◌, codes, append-nil}
use Rattle.std.proofs.lemmas.Result.{on_ok_weaker}
use Rattle.std.proofs.lemmas.List.{take_all, at_drop_all}
use Rattle.clf_syntax.specs.declared.tree.Mode.TheVariants.{Persistent, Affine, Linear}
use Rattle.clf_syntax.specs.declared.tree.Expr.{out-Expr}
use Rattle.clf_syntax.specs.Plain.{plain_obj, plain_elim, plain_expr, plain_neutral, plain_step, plain_entry, plain-Lam, plain-Pair, plain-Unit, plain-Mon, plain-At, plain-Hole, plain-Arg, plain-First, plain-Second, plain-expr, plain-entry, plain-step-modes, plain-step-rhs}
use Rattle.clf_syntax.specs.Tree.{lam, pair, unit, monadic, atomic, hole, arg, first, second, head_alone, spine_on, steps_on, done, tuple_of}
use Rattle.clf_sig.specs.Signature.{plain_signature}
use Rattle.clf_printer.specs.Text.{when, grouped, is_application, is_atom, listed, mark_text, binder_text, pattern_text, object_text, neutral_text, expression_text, tuple_text}
use Rattle.clf_printer.specs.Spine.{elimination_text, back_text}
use Rattle.clf_printer.proofs.Lists.{joined}
use Rattle.clf_printer.proofs.Texts.{in_parentheses}
use Rattle.clf_printer.proofs.Spines.{longer, is_application-eliminated, neutral-appended, elimination-appended}
use Rattle.clf_printer.proofs.Next.{step-appended, steps-ended, entry-appended}
use Rattle.clf_printer.proofs.objects.+push_object.Goals as goal

pub push_back-loop-act-preserved : goal.push_back-loop-act-preserved
push_back-loop-act-preserved t c h =
    let i = c.loop-act.act-index in
    let act = c.act-item.result in
    let spine = c.args.spine.now in
    let lt : i < length spine = omega arith in
    let known = c.loop-act.invariant h in
    let more = longer spine i (i + 1) act h (omega arith) lt c.act-item.is in (
      c.is_argument-applied.ensures ∙ sym (ap is_application more ∙ is_application-eliminated (plain_elim act) (spine_on (map plain_elim (take i spine)) (head_alone h))),
      elimination-appended (plain_signature c.args.sig.now) c.args.metas.now c.args.level spine i act c.loop-act.applied c.args.out.now.items c.loop-act.out.items c.push_elimination.new.out.items h
          lt c.act-item.is known.0 known.1 c.in_ok-push_elimination.ensures,
    )

pub push_neutral-returns : goal.push_neutral-returns
push_neutral-returns t c =
    let n = c.args.neutral.now in
    on_ok_weaker c.push_back.result
    (λ e. neutral-appended (plain_signature c.args.sig.now) c.args.metas.now c.args.level n c.as_slice-spine.result.now c.args.out.now.items c.push_front.new.out.items c.push_head.new.out.items c.push_back.new.out.items
    c.as_slice-spine.ensures (c.in_ok-push_front.ensures n.head) c.in_ok-push_head.ensures (e n.head))
    c.push_back.ensures

pub push_expression-loop-step-preserved : goal.push_expression-loop-step-preserved
push_expression-loop-step-preserved t c =
    let lt : c.loop-step.step-index < length c.as_slice-step-items.result.now = omega arith in
    step-appended (plain_signature c.args.sig.now) c.args.metas.now c.loop-step.inner c.in_ok-inner.inner c.loop-step.step-index c.step-item.result c.as_slice-step-items.result.now
    (done (tuple_of (map plain_entry (out-Expr c.args.expr.now).result))) c.loop-step.out.items c.push_step.new.out.items
    lt c.step-item.is (c.in_ok-inner.ensures ∙ ap (λ n. c.loop-step.inner + n) c.len.ensures) c.in_ok-push_step.ensures
    ∙ c.loop-step.invariant

pub push_expression-returns : goal.push_expression-returns
push_expression-returns t c =
    let sig = plain_signature c.args.sig.now in
    let metas = c.args.metas.now in
    let inner = c.loop-step.inner in
    let out = c.loop-step.out.items in
    let ge : length c.as_slice-step-items.result.now ≤ c.loop-step.step-index = omega arith in
    on_ok_weaker c.push_tuple.result
    (λ e. e
    ∙ ap (λ ts. out ++ listed (length ts) (tuple_text sig metas inner (tuple_of (map plain_entry ts)))) c.as_slice-result.ensures
    ∙ ap (λ l. out ++ l) (sym (steps-ended sig metas inner c.loop-step.step-index c.as_slice-step-items.result.now (out-Expr c.args.expr.now).result ge))
    ∙ c.loop-step.invariant)
    c.push_tuple.ensures

pub push_entries-loop-entry-preserved : goal.push_entries-loop-entry-preserved
push_entries-loop-entry-preserved t c =
    let lt : c.loop-entry.entry-index < length c.args.tuple.now = omega arith in
    let left : c.loop-entry.left - 1 ≡ length c.args.tuple.now - (c.loop-entry.entry-index + 1) = omega (arith, c.loop-entry.invariant.left) in record {
      left = left;
      written =
          entry-appended (plain_signature c.args.sig.now) c.args.metas.now c.args.level c.loop-entry.entry-index (c.loop-entry.left - 1) c.entry-item.result c.args.tuple.now
          c.loop-entry.out.items c.push_entry.new.out.items c.push_if.new.out.items lt c.entry-item.is left c.in_ok-push_entry.ensures c.in_ok-push_if.ensures
          ∙ c.loop-entry.invariant.written;
    }

pub push_atom-returns : goal.push_atom-returns
push_atom-returns t c =
    let obj = plain_obj c.args.obj.now in
    let text = object_text (plain_signature c.args.sig.now) c.args.metas.now c.args.level obj in
    on_ok_weaker c.push_if-2.result
    (in_parentheses c.args.out.now.items text (not (is_atom obj)) (not c.is_atom-grouped.result) (ap not c.is_atom-grouped.ensures) c.in_ok-push_if.ensures c.in_ok-push_object.ensures)
    c.push_if-2.ensures

pub push_step-returns : goal.push_step-returns
push_step-returns t c =
    let out = c.args.out.now.items in
    let step = c.args.step.now in
    let level = c.args.level in
    let sig = plain_signature c.args.sig.now in
    let metas = c.args.metas.now in
    let pattern = pattern_text level (plain_step step).0 in
    let neutral = neutral_text sig metas level (plain_step step).1 in
    let pattern_written =
    c.in_ok-push_pattern.ensures ∙ ap (λ ms. c.extend_from_slice.new.self.items ++ pattern_text level ms) (c.as_slice.ensures ∙ sym (plain-step-modes step)) in
    let neutral_written =
    c.in_ok-push_neutral.ensures ∙ ap (λ n. c.extend_from_slice-2.new.self.items ++ neutral_text sig metas level n) (sym (plain-step-rhs step)) in
    on_ok_weaker c.push_if.result
    (λ e. joined out (((codes "let {" ++ pattern) ++ codes "} = ") ++ neutral) (codes " in ")
    (joined out ((codes "let {" ++ pattern) ++ codes "} = ") neutral
    (joined out (codes "let {" ++ pattern) (codes "} = ") (joined out (codes "let {") pattern c.in_ok-extend_from_slice.ensures.items pattern_written) c.in_ok-extend_from_slice-2.ensures.items)
    neutral_written)
    e)
    c.push_if.ensures

pub push_tuple-returns : goal.push_tuple-returns
push_tuple-returns t c =
    let out = c.args.out.now.items in
    let tuple = c.args.tuple.now in
    let text = tuple_text (plain_signature c.args.sig.now) c.args.metas.now c.args.level (tuple_of (map plain_entry tuple)) in
    let none = when (length tuple == 0) (codes "1") in
    let several = nat_lt 1 (length tuple) in
    let none_written = c.in_ok-push_if.ensures ∙ ap (λ b. out ++ when b (codes "1")) c.is_empty.ensures in
    on_ok_weaker c.push_if-3.result
    (λ e. joined out ((none ++ when several (codes "[")) ++ text) (when several (codes "]"))
    (joined out (none ++ when several (codes "[")) text (joined out none (when several (codes "[")) none_written c.in_ok-push_if-2.ensures) c.in_ok-push_entries.ensures)
    e)
    c.push_if-3.ensures

pub push_lambda-returns : goal.push_lambda-returns
push_lambda-returns t c =
    let out = c.args.out.now.items in
    let sig = plain_signature c.args.sig.now in
    let metas = c.args.metas.now in
    let level = c.args.level in
    let body = plain_obj c.args.body.now in
    let binder = binder_text level c.args.mode in
    on_ok_weaker c.push_object.result
    (λ e. joined out ((codes "\\" ++ binder) ++ codes ". ") (object_text sig metas (level + 1) body)
    (joined out (codes "\\" ++ binder) (codes ". ") (joined out (codes "\\") binder c.in_ok-push.ensures.items c.in_ok-push_binder.ensures) c.in_ok-extend_from_slice.ensures.items)
    (e ∙ ap (λ n. c.extend_from_slice.new.self.items ++ object_text sig metas n body) c.in_ok-raised.ensures))
    c.push_object.ensures

pub push_object-returns-in-Lam : goal.push_object-returns-in-Lam
push_object-returns-in-Lam t c =
    let is = c.in-Lam.is in
    let got = c.get.ensures in
    let law = plain-Lam c.in-Lam.mode c.get.result.now in
    let plain : plain_obj c.args.obj.now ≡ lam c.in-Lam.mode (plain_obj c.get.result.now) = cc in
    rw plain c.push_lambda.ensures

pub push_object-returns-in_ok-push_object-in-Pair-2 : goal.push_object-returns-in_ok-push_object-in-Pair-2
push_object-returns-in_ok-push_object-in-Pair-2 t c =
    let out = c.args.out.now.items in
    let sig = plain_signature c.args.sig.now in
    let metas = c.args.metas.now in
    let level = c.args.level in
    let left = c.get-in-Pair.result.now in
    let right = c.get-in-Pair-2.result.now in
    let first = object_text sig metas level (plain_obj left) in
    let second = object_text sig metas level (plain_obj right) in
    let is = c.in-Pair.is in
    let got_left = c.get-in-Pair.ensures in
    let got_right = c.get-in-Pair-2.ensures in
    let law = plain-Pair left right in
    let plain : plain_obj c.args.obj.now ≡ pair (plain_obj left) (plain_obj right) = cc in
    rw plain (on_ok_weaker c.push_if.result
    (joined out (((codes "<" ++ first) ++ codes ", ") ++ second) (codes ">")
    (joined out ((codes "<" ++ first) ++ codes ", ") second
    (joined out (codes "<" ++ first) (codes ", ") (joined out (codes "<") first c.in_ok-push-in-Pair.ensures.items c.in_ok-push_object-in-Pair.ensures) c.in_ok-extend_from_slice-in-Pair.ensures.items)
    c.in_ok-push_object-in-Pair-2.ensures))
    c.push_if.ensures)

pub push_object-returns-in-Unit : goal.push_object-returns-in-Unit
push_object-returns-in-Unit t c =
    let is = c.in-Unit.is in
    let law = plain-Unit in
    let plain : plain_obj c.args.obj.now ≡ unit = cc in
    rw plain c.push_if-in-Unit.ensures

pub push_object-returns-in-Hole : goal.push_object-returns-in-Hole
push_object-returns-in-Hole t c =
    let is = c.in-Hole.is in
    let law = plain-Hole in
    let plain : plain_obj c.args.obj.now ≡ hole = cc in
    rw plain c.push_if-in-Hole.ensures

pub push_object-returns-in-At : goal.push_object-returns-in-At
push_object-returns-in-At t c =
    let is = c.in-At.is in
    let law = plain-At c.in-At.neutral in
    let plain : plain_obj c.args.obj.now ≡ atomic (plain_neutral c.in-At.neutral) = cc in
    rw plain c.push_neutral.ensures

pub push_object-returns-in_ok-push_expression-in-Mon : goal.push_object-returns-in_ok-push_expression-in-Mon
push_object-returns-in_ok-push_expression-in-Mon t c =
    let out = c.args.out.now.items in
    let level = c.args.level in
    let sig = plain_signature c.args.sig.now in
    let metas = c.args.metas.now in
    let expr = plain_expr c.get-in-Mon.result.now in
    let text = expression_text sig metas level expr in
    let is = c.in-Mon.is in
    let got = c.get-in-Mon.ensures in
    let law = plain-Mon c.get-in-Mon.result.now in
    let plain : plain_obj c.args.obj.now ≡ monadic expr = cc in
    on_ok_weaker c.push_if-in-Mon.result
    (λ e. joined out (codes "{" ++ text) (codes "}") (joined out (codes "{") text c.in_ok-push-in-Mon.ensures.items c.in_ok-push_expression-in-Mon.ensures) e
    ∙ ap (λ n. out ++ object_text sig metas level n) (sym plain))
    c.push_if-in-Mon.ensures

pub push_back-returns : goal.push_back-returns
push_back-returns t c h =
    let spine = c.args.spine.now in
    let i = c.loop-act.act-index in
    let ended : length spine ≤ i = omega arith in
    (c.loop-act.invariant h).1
    ∙ ap (λ acts. c.args.out.now.items ++ back_text (plain_signature c.args.sig.now) c.args.metas.now c.args.level (spine_on (map plain_elim acts) (head_alone h))) (take_all i spine ended)

pub push_elimination-returns-in-First : goal.push_elimination-returns-in-First
push_elimination-returns-in-First t c =
    let is = c.in-First.is in
    let law = plain-First in
    let plain : plain_elim c.args.act.now ≡ first = cc in
    rw plain c.push_if.ensures

pub push_elimination-returns-in-Second : goal.push_elimination-returns-in-Second
push_elimination-returns-in-Second t c =
    let is = c.in-Second.is in
    let law = plain-Second in
    let plain : plain_elim c.args.act.now ≡ second = cc in
    rw plain c.push_if-in-Second.ensures

pub push_elimination-returns-in_ok-push_mark-in-Arg : goal.push_elimination-returns-in_ok-push_mark-in-Arg
push_elimination-returns-in_ok-push_mark-in-Arg t c =
    let out = c.args.out.now.items in
    let level = c.args.level in
    let sig = plain_signature c.args.sig.now in
    let metas = c.args.metas.now in
    let mode = c.in-Arg.mode in
    let obj = plain_obj c.in-Arg.obj in
    let is = c.in-Arg.is in
    let law = plain-Arg mode c.in-Arg.obj in
    let plain : plain_elim c.args.act.now ≡ arg mode obj = cc in
    on_ok_weaker c.push_atom.result
    (λ e. joined out (codes " " ++ mark_text mode) (grouped (not (is_atom obj)) (object_text sig metas level obj))
    (joined out (codes " ") (mark_text mode) c.in_ok-push-in-Arg.ensures.items c.in_ok-push_mark-in-Arg.ensures)
    e
    ∙ ap (λ a. out ++ elimination_text sig metas level c.args.applied a) (sym plain))
    c.push_atom.ensures

pub push_expression-loop-step-init : goal.push_expression-loop-step-init
push_expression-loop-step-init t c =
    let out = c.args.out.now.items in
    let level = c.args.level in
    let sig = plain_signature c.args.sig.now in
    let metas = c.args.metas.now in
    ap (λ ss. out ++ expression_text sig metas level (steps_on (map plain_step ss) (done (tuple_of (map plain_entry (out-Expr c.args.expr.now).result))))) c.as_slice-step-items.ensures
    ∙ ap (λ e. out ++ expression_text sig metas level e) (sym (plain-expr c.args.expr.now))

pub push_entries-returns : goal.push_entries-returns
push_entries-returns t c =
    let tuple = c.args.tuple.now in
    let i = c.loop-entry.entry-index in
    let out = c.loop-entry.out.items in
    let ended : length tuple ≤ i = omega arith in
    sym (append-nil out)
    ∙ sym (at_drop_all (λ ts. out ++ tuple_text (plain_signature c.args.sig.now) c.args.metas.now c.args.level (tuple_of (map plain_entry ts))) tuple i ended)
    ∙ c.loop-entry.invariant.written

pub push_entry-returns-in-Linear : goal.push_entry-returns-in-Linear
push_entry-returns-in-Linear t c =
    let entry = c.args.entry.now in
    let is = c.in-Linear.is in
    let law = plain-entry entry in
    let plain : plain_entry entry ≡ (Linear, plain_obj entry.obj) = cc in
    rw plain c.push_object.ensures

pub push_entry-returns-in_ok-push-in-Affine : goal.push_entry-returns-in_ok-push-in-Affine
push_entry-returns-in_ok-push-in-Affine t c =
    let entry = c.args.entry.now in
    let obj = plain_obj entry.obj in
    let text = object_text (plain_signature c.args.sig.now) c.args.metas.now c.args.level obj in
    let is = c.in-Affine.is in
    let law = plain-entry entry in
    let plain : plain_entry entry ≡ (Affine, obj) = cc in
    rw plain (on_ok_weaker c.push_atom-in-Affine.result (joined c.args.out.now.items (codes "@") (grouped (not (is_atom obj)) text) c.in_ok-push-in-Affine.ensures.items) c.push_atom-in-Affine.ensures)

pub push_entry-returns-in_ok-push-in-Persistent : goal.push_entry-returns-in_ok-push-in-Persistent
push_entry-returns-in_ok-push-in-Persistent t c =
    let entry = c.args.entry.now in
    let obj = plain_obj entry.obj in
    let text = object_text (plain_signature c.args.sig.now) c.args.metas.now c.args.level obj in
    let is = c.in-Persistent.is in
    let law = plain-entry entry in
    let plain : plain_entry entry ≡ (Persistent, obj) = cc in
    rw plain (on_ok_weaker c.push_atom.result (joined c.args.out.now.items (codes "!") (grouped (not (is_atom obj)) text) c.in_ok-push-in-Persistent.ensures.items) c.push_atom.ensures)
