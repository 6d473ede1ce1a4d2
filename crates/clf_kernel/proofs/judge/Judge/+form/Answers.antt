use Rattle.std.proofs.Common.{◌≡◌, ◌+◌, map, Err, ap, sym, subst, ◌∙◌, OnOk, arith}
use Rattle.std.proofs.lemmas.Result.{err_from_is_err_and}
use Rattle.clf_syntax.specs.declared.tree.TeleEntry.{out-TeleEntry}
use Rattle.clf_syntax.specs.TypeTree.{telescope_of}
use Rattle.clf_syntax.specs.PlainTypes.{plain_ty, plain_tele_entry}
use Rattle.clf_decision.specs.Outcome.{passed, at_part}
use Rattle.clf_decision.specs.Formation.{type_formed, telescope_formed}
use Rattle.clf_decision.specs.Hereditary.{hereditary}
use Rattle.clf_kernel.specs.Stops.{Stops, Gives}
use Rattle.clf_kernel.proofs.Entries.{entries_more, entries_stop}
use Rattle.clf_kernel.specs.Judge.{IsEntered, signature_of, context_of}
use Rattle.clf_kernel.proofs.Growing.{grown_again, grown_by_one, same_signature}
use Rattle.clf_kernel.proofs.judge.Judge.+form.Goals as goal

pub form_entry-returns-clause-entry : goal.form_entry-returns-clause-entry
form_entry-returns-clause-entry t c = subst (λ x. OnOk c.enter_entry.result (IsEntered x c.enter_entry.new.self)) c.in_ok-form_part.ensures.kept c.enter_entry.ensures.entry

pub form_telescope-returns-in_err-form_entry-clause-formed : goal.form_telescope-returns-in_err-form_entry-clause-formed
form_telescope-returns-in_err-form_entry-clause-formed t c =
    let v = c.loop-entry.invariant in
    let o = subst (λ n. Stops (at_part n (type_formed hereditary (signature_of c.args.self.now) (context_of c.loop-entry.self) (plain_ty (out-TeleEntry c.entry-item.result).ty))) c.in_err-form_entry.field-0.0) v.0
    (subst (λ s. Stops (at_part c.loop-entry.place (type_formed hereditary s (context_of c.loop-entry.self) (plain_ty (out-TeleEntry c.entry-item.result).ty))) c.in_err-form_entry.field-0.0) (same_signature c.args.self.now c.loop-entry.self v.1) c.in_err-form_entry.ensures.formed) in
    let p = err_from_is_err_and c.from_residual.result c.from_residual.ensures.1 in
    let e : c.from_residual.result ≡ Err c.in_err-form_entry.field-0.0 = cc (p.1, p.2) in
    subst (λ r. Gives (λ x. x) (telescope_formed hereditary (signature_of c.args.self.now) (context_of c.args.self.now) 0 (telescope_of (map plain_tele_entry c.args.entries.now))) r) (sym e)
    (subst (λ w. Stops w c.in_err-form_entry.field-0.0) (sym v.2)
    (entries_stop hereditary (signature_of c.args.self.now) c.args.entries.now c.loop-entry.entry-index c.entry-item.result (omega (arith, c.loop-entry-test.true)) c.entry-item.is (context_of c.loop-entry.self) c.in_err-form_entry.field-0.0 o))

pub form_telescope-loop-entry-preserved : goal.form_telescope-loop-entry-preserved
form_telescope-loop-entry-preserved t c =
    let v = c.loop-entry.invariant in
    let n = c.in_ok-form_entry.ensures.entry in
    let o = subst (λ n. at_part n (type_formed hereditary (signature_of c.args.self.now) (context_of c.loop-entry.self) (plain_ty (out-TeleEntry c.entry-item.result).ty)) ≡ passed tt) v.0
    (subst (λ s. at_part c.loop-entry.place (type_formed hereditary s (context_of c.loop-entry.self) (plain_ty (out-TeleEntry c.entry-item.result).ty)) ≡ passed tt) (same_signature c.args.self.now c.loop-entry.self v.1) c.in_ok-form_entry.ensures.formed) in (
      ap (λ n. n + 1) v.0,
      grown_again c.args.self.now c.loop-entry.self c.form_entry.new.self v.1 (grown_by_one c.loop-entry.self c.form_entry.new.self n),
      v.2 ∙ entries_more hereditary (signature_of c.args.self.now) c.args.entries.now c.loop-entry.entry-index c.entry-item.result (omega (arith, c.loop-entry-test.true)) c.entry-item.is (context_of c.loop-entry.self) (context_of c.form_entry.new.self) o c.in_ok-form_entry.ensures.context,
    )

pub form_type-returns-in_ok-form_part-in-Fun-clause-kept : goal.form_type-returns-in_ok-form_part-in-Fun-clause-kept
form_type-returns-in_ok-form_part-in-Fun-clause-kept t c =
    c.leave.ensures c.args.self.now (subst (λ x. IsEntered c.args.self.now x) (sym c.in_ok-form_part-in-Fun.ensures.kept) c.in_ok-form_entry-in-Fun.ensures.entry)
