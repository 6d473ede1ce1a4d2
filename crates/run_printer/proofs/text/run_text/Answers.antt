use Rattle.std.proofs.Common.{◌≡◌, ◌<◌, ◌^◌, ◌∙◌, ap, subst, IfOk, OnOk}
use Rattle.clf_syntax.specs.Tree.{PlainObject}
use Rattle.clf_syntax.specs.TypeTree.{PlainType}
use Rattle.clf_syntax.specs.Plain.{plain_expr, plain_obj}
use Rattle.clf_syntax.specs.PlainTypes.{plain_tele, plain_ty}
use Rattle.clf_sig.specs.Signature.{plain_signature}
use Rattle.clf_printer.specs.Depth.{scope_depth, type_depth}
use Rattle.clf_printer.specs.Judgment.{judgment_text}
use Rattle.run_printer.specs.Runs.{run_object, run_type}
use Rattle.run_printer.proofs.Binding.{whole}
use Rattle.run_printer.proofs.text.run_text.Goals as goal

object : (c : goal.After-drop-3) → plain_obj c.in_ok-obj.obj ≡ run_object (plain_tele c.args.start.now) (plain_expr c.args.run.now)
object c = c.in_ok-obj.ensures ∙ ap (λ s. run_object s (plain_expr c.args.run.now)) (whole c.args.start.now c.as_slice-entries.result.now c.as_slice-entries.ensures)

type : (c : goal.After-drop-3) → plain_ty c.in_ok-ty.ty ≡ run_type (plain_tele c.args.start.now) (plain_tele c.args.finish.now)
type c = c.in_ok-ty.ensures ∙ ap (λ s. run_type s (plain_tele c.args.finish.now)) (whole c.args.start.now c.as_slice-entries.result.now c.as_slice-entries.ensures)

pub returns-clause-text : goal.returns-clause-text
returns-clause-text c =
    let sig = plain_signature c.args.sig.now in
    let a = run_type (plain_tele c.args.start.now) (plain_tele c.args.finish.now) in
    subst (λ (n : PlainObject). IfOk c.judgment-text.result (λ text. text.items ≡ judgment_text sig n a)) (object c)
    (subst (λ (x : PlainType). IfOk c.judgment-text.result (λ text. text.items ≡ judgment_text sig (plain_obj c.in_ok-obj.obj) x)) (type c) c.judgment-text.ensures.text)

pub returns-clause-object_depth : goal.returns-clause-object_depth
returns-clause-object_depth c = subst (λ (n : PlainObject). OnOk c.judgment-text.result (scope_depth n < 2 ^ 64)) (object c) c.judgment-text.ensures.object_depth

pub returns-clause-type_depth : goal.returns-clause-type_depth
returns-clause-type_depth c = subst (λ (x : PlainType). OnOk c.judgment-text.result (type_depth x < 2 ^ 64)) (type c) c.judgment-text.ensures.type_depth
