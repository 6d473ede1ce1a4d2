use Rattle.std.proofs.Common.{◌≡◌, ◌+◌, map, Err, ap, sym, subst, ◌∙◌, arith}
use Rattle.std.proofs.lemmas.List.{drop_all}
use Rattle.std.proofs.lemmas.Result.{err_from_is_err_and}
use Rattle.clf_syntax.specs.PlainTypes.{plain_ty}
use Rattle.clf_decision.specs.Outcome.{passed, at_part}
use Rattle.clf_decision.specs.Formation.{type_formed, kind_formed}
use Rattle.clf_decision.specs.Hereditary.{hereditary}
use Rattle.clf_kernel.specs.Stops.{Stops, Gives}
use Rattle.clf_kernel.proofs.Growing.{grown_again, grown_by_one, same_signature}
use Rattle.clf_kernel.proofs.Entries.{arguments_more, arguments_stop}
use Rattle.clf_kernel.specs.Judge.{signature_of, context_of}
use Rattle.clf_kernel.proofs.judge.Judge.form_arguments.Goals as goal

pub returns-in_err-form_entry : goal.returns-in_err-form_entry
returns-in_err-form_entry c =
    let v = c.loop-arg.invariant in
    let o = subst (λ n. Stops (at_part n (type_formed hereditary (signature_of c.args.self.now) (context_of c.loop-arg.self) (plain_ty c.arg-item.result))) c.in_err-form_entry.field-0.0) v.0
    (subst (λ s. Stops (at_part c.loop-arg.place (type_formed hereditary s (context_of c.loop-arg.self) (plain_ty c.arg-item.result))) c.in_err-form_entry.field-0.0) (same_signature c.args.self.now c.loop-arg.self v.1) c.in_err-form_entry.ensures.formed) in
    let p = err_from_is_err_and c.from_residual.result c.from_residual.ensures.1 in
    let e : c.from_residual.result ≡ Err c.in_err-form_entry.field-0.0 = cc (p.1, p.2) in
    subst (λ r. Gives (λ x. x) (kind_formed hereditary (signature_of c.args.self.now) (context_of c.args.self.now) 0 (map plain_ty c.args.args.now)) r) (sym e)
    (subst (λ w. Stops w c.in_err-form_entry.field-0.0) (sym v.2)
    (arguments_stop hereditary (signature_of c.args.self.now) c.args.args.now c.loop-arg.arg-index c.arg-item.result (omega (arith, c.loop-arg-test.true)) c.arg-item.is (context_of c.loop-arg.self) c.in_err-form_entry.field-0.0 o))

pub loop-arg-preserved : goal.loop-arg-preserved
loop-arg-preserved c =
    let v = c.loop-arg.invariant in
    let o = subst (λ n. at_part n (type_formed hereditary (signature_of c.args.self.now) (context_of c.loop-arg.self) (plain_ty c.arg-item.result)) ≡ passed tt) v.0
    (subst (λ s. at_part c.loop-arg.place (type_formed hereditary s (context_of c.loop-arg.self) (plain_ty c.arg-item.result)) ≡ passed tt) (same_signature c.args.self.now c.loop-arg.self v.1) c.in_ok-form_entry.ensures.formed) in (
      ap (λ n. n + 1) v.0,
      grown_again c.args.self.now c.loop-arg.self c.form_entry.new.self v.1 (grown_by_one c.loop-arg.self c.form_entry.new.self c.in_ok-form_entry.ensures.entry),
      v.2 ∙ arguments_more hereditary (signature_of c.args.self.now) c.args.args.now c.loop-arg.arg-index c.arg-item.result (omega (arith, c.loop-arg-test.true)) c.arg-item.is (context_of c.loop-arg.self) (context_of c.form_entry.new.self) o c.in_ok-form_entry.ensures.context,
    )

pub returns : goal.returns
returns c =
    let v = c.loop-arg.invariant in
    v.2 ∙ ap (λ k. kind_formed hereditary (signature_of c.args.self.now) (context_of c.loop-arg.self) c.loop-arg.arg-index (map plain_ty k)) (drop_all c.loop-arg.arg-index c.args.args.now (omega arith))
