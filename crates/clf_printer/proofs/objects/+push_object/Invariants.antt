use Rattle.std.proofs.Common.{◌≡◌, ◌++◌, ◌-◌, length, take, drop, map}
use Rattle.clf_syntax.specs.declared.tree.Head.{Head}
use Rattle.clf_syntax.specs.declared.tree.Expr.{out-Expr}
use Rattle.clf_syntax.specs.Plain.{plain_elim, plain_step, plain_entry, plain_expr}
use Rattle.clf_syntax.specs.Tree.{head_alone, spine_on, steps_on, done, tuple_of}
use Rattle.clf_sig.specs.Signature.{plain_signature}
use Rattle.clf_printer.specs.Text.{is_application, expression_text, tuple_text}
use Rattle.clf_printer.specs.Spine.{back_text}
use Rattle.clf_printer.proofs.objects.+push_object.Given as goal

abbrev pub invariant-push_back-loop-act : goal.invariant-push_back-loop-act
invariant-push_back-loop-act l = (h : Head) → (l.applied ≡ is_application (spine_on (map plain_elim (take l.act-index l.spine)) (head_alone h)))
    × (l.out.items ≡ l.fn.out.items ++ back_text (plain_signature l.sig) l.metas l.level (spine_on (map plain_elim (take l.act-index l.spine)) (head_alone h)))

abbrev pub invariant-push_expression-loop-step : goal.invariant-push_expression-loop-step
invariant-push_expression-loop-step l =
    l.out.items ++ expression_text (plain_signature l.sig) l.metas l.inner (steps_on (map plain_step (drop l.step-index l.step-items)) (done (tuple_of (map plain_entry (out-Expr l.expr).result))))
    ≡ l.fn.out.items ++ expression_text (plain_signature l.sig) l.metas l.level (plain_expr l.expr)

abbrev pub invariant-push_entries-loop-entry : goal.invariant-push_entries-loop-entry
invariant-push_entries-loop-entry l = record {
  left : l.left ≡ length l.tuple - l.entry-index;
  written : l.out.items ++ tuple_text (plain_signature l.sig) l.metas l.level (tuple_of (map plain_entry (drop l.entry-index l.tuple))) ≡ l.fn.out.items ++ tuple_text (plain_signature l.sig) l.metas l.level (tuple_of (map plain_entry l.tuple));
}
