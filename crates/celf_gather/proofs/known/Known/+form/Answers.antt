use Rattle.std.proofs.Common.{◌≡◌, Err, sym, subst, ◌∙◌, arith}
use Rattle.std.proofs.lemmas.Result.{err_from_is_err_and}
use Rattle.celf_gather.specs.Stops.{Stops}
use Rattle.celf_gather.specs.Walks.{scene_of, context_of, found_of}
use Rattle.celf_gather.proofs.Contexts.{grown_again}
use Rattle.celf_gather.proofs.Entries.{entries_more, entries_stop}
use Rattle.celf_gather.proofs.Runs.{gives_stop}
use Rattle.celf_gather.proofs.known.Known.+form.Goals as goal

pub form_telescope-returns-in_err-form_bound-clause-outcome : goal.form_telescope-returns-in_err-form_bound-clause-outcome
form_telescope-returns-in_err-form_bound-clause-outcome t c =
    let p = err_from_is_err_and c.from_residual.result c.from_residual.ensures.1 in
    let e : c.from_residual.result ≡ Err c.in_err-form_bound.field-0.0 = cc (p.1, p.2) in
    gives_stop _ _ e (subst (λ w. Stops w c.in_err-form_bound.field-0.0) (sym c.loop-entry.invariant.1)
    (entries_stop (scene_of c.args.self.now) c.args.entries.now c.loop-entry.entry-index c.entry-item.result (omega (arith, c.loop-entry-test.true)) c.entry-item.is (context_of c.loop-entry.walk) (found_of c.loop-entry.walk)
    c.in_err-form_bound.field-0.0 c.in_err-form_bound.ensures.outcome))

pub form_telescope-loop-entry-preserved : goal.form_telescope-loop-entry-preserved
form_telescope-loop-entry-preserved t c = (
  grown_again c.args.walk.now c.loop-entry.walk c.form_bound.new.walk c.loop-entry.invariant.0 c.in_ok-form_bound.ensures.grown,
  c.loop-entry.invariant.1 ∙ entries_more (scene_of c.args.self.now) c.args.entries.now c.loop-entry.entry-index c.entry-item.result (omega (arith, c.loop-entry-test.true)) c.entry-item.is
      (context_of c.loop-entry.walk) (context_of c.form_bound.new.walk) (found_of c.loop-entry.walk) (found_of c.form_bound.new.walk) c.in_ok-form_bound.ensures.outcome,
)
