use Rattle.std.proofs.Common.{◌≡◌, ℕ, [], length, Result, Ok, Err, IfOk, ap, sym, subst, ◌∙◌, rules, refl}
use Rattle.clf_syntax.specs.PlainTypes.{plain_tele_entry, plain-tele-entry}
use Rattle.use_contexts.specs.declared.holding.Holding.{Holding}
use Rattle.use_contexts.specs.Context.{modes}
use Rattle.use_contexts.specs.Marks.{marks}
use Rattle.use_contexts.proofs.Lookups.{length-taken}
use Rattle.clf_kernel.specs.declared.refusal.Inferred.{Inferred}
use Rattle.clf_kernel.specs.declared.refusal.Stop.{Stop}
use Rattle.clf_rules.specs.Refusal.{not_held}
use Rattle.clf_kernel.specs.Stops.{Ends}
use Rattle.clf_kernel.proofs.Stops.{refusal_stops}
use Rattle.clf_kernel.proofs.Variables.{variable_used, variable_unheld}
use Rattle.clf_kernel.specs.Judge.{context_of}
use Rattle.clf_kernel.proofs.judge.Judge.infer_variable.Goals as goal

same_length : (r : Result Inferred Stop) (row : Holding) (n : ℕ) → IfOk r (λ found. found.left.row ≡ row) → length (marks row) ≡ n → IfOk r (λ found. length (marks found.left.row) ≡ n)
same_length (Ok found) row n e l = ap (λ h. length (marks h)) e ∙ l
same_length (Err stop) row n e l = tt

pub returns-in-Ok-clause-outcome : goal.returns-in-Ok-clause-outcome
returns-in-Ok-clause-outcome c =
    let used = variable_used (context_of c.args.self.now) (marks c.args.row) c.args.var (plain_tele_entry c.entry.result.now) c.requires.marked (search rules) c.entry.ensures (λ e. let f = c.in-Ok.ensures.not_held.1 e in cc) in
    let ty = ap (λ p. p.1) (plain-tele-entry c.entry.result.now) in
    rw (used, ty, sym c.in-Ok.ensures.used) c.variable_of.ensures.outcome

pub returns-in-Ok-clause-marked : goal.returns-in-Ok-clause-marked
returns-in-Ok-clause-marked c = same_length c.variable_of.result _ _ c.variable_of.ensures.row (rw c.in-Ok.ensures.used (length-taken (modes (context_of c.args.self.now)) c.args.var (marks c.args.row) ∙ c.requires.marked))

pub returns-in-Err-clause-outcome : goal.returns-in-Err-clause-outcome
returns-in-Err-clause-outcome c =
    rw (variable_unheld (context_of c.args.self.now) (marks c.args.row) c.args.var (search rules) (c.in-Err.ensures.not_held.0 refl))
    (refusal_stops _ [] _ c.refuse-in-Err.result (subst (λ n. Ends [] (not_held n) c.refuse-in-Err.result) c.level.ensures c.refuse-in-Err.ensures))
