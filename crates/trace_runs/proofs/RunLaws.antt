-- A run is the beginning of an expression, an expression with a result begins with a run, and runs go on.
use Rattle.std.specs.Prelude.{ℕ, ◌+◌, ◌≡◌, [], ◌∷◌, length}
use Rattle.std.proofs.Common.{List, refl, ap, sym, subst, ◌∙◌, arith}
use Rattle.std.proofs.Math.Logic.{◌⊎◌, inl, inr}
use Rattle.clf_syntax.specs.declared.tree.Mode.{Mode}
use Rattle.clf_syntax.proofs.RenamingLaws.{ext}
use Rattle.clf_syntax.proofs.TypeRenaming.{composed_telescope, identity_telescope}
use Rattle.clf_syntax.specs.Renaming.{ren_telescope, up}
use Rattle.clf_syntax.specs.Tree.{PlainExpression, PlainNeutral, steps_on}
use Rattle.clf_syntax.specs.TypeTree.{PlainType, PlainTelescope, monad}
use Rattle.use_contexts.specs.Context.{modes, telescope_modes, with_entries}
use Rattle.use_contexts.specs.Holding.{Holding, all_held}
use Rattle.use_contexts.specs.Rows.{IsSubholding, Leftover}
use Rattle.use_contexts.proofs.RowLaws.{IsSubholding-first, IsSubholding-second}
use Rattle.clf_sig.specs.Entry.{PlainSignature}
use Rattle.clf_rules.specs.Typing.{ExpressionHasType, StepRule, Synthesizes}
use Rattle.clf_rules.specs.Explained.{ExplainedInNeutral}
use Rattle.clf_rules.specs.Refusal.{Cause}
use Rattle.clf_decision.specs.Laws.{InferredIs}
use Rattle.clf_decision.specs.Starts.{Starts}
use Rattle.trace_runs.specs.Laws.{RunGivesExpression, ExpressionBeginsWithRun, MayHaveResult, RunsInTurn}
use Rattle.trace_runs.specs.Run.{IsRun, PlainState, TakesStep, bound, state_after}
use Rattle.trace_runs.proofs.Decided.{neutrals, run-is-one, runs-keep-starts}
use Rattle.trace_runs.proofs.LeastParts.{entered-part}
use Rattle.trace_runs.proofs.Steps.{step-of, step-keeps-starts}

nothing_past : (u : PlainTelescope) → ren_telescope (up 0) u ≡ u
nothing_past u = ap (λ r. ren_telescope r u) (ext (λ i. same i)) ∙ identity_telescope u
  where
    same : (i : ℕ) → i + 0 ≡ i
    same i = omega arith

past_both : (n m : ℕ) (u : PlainTelescope) → ren_telescope (up (n + m)) u ≡ ren_telescope (up n) (ren_telescope (up m) u)
past_both n m u = ap (λ r. ren_telescope r u) (ext (λ i. same i)) ∙ sym (composed_telescope (up n) (up m) u)
  where
    same : (i : ℕ) → i + (n + m) ≡ i + m + n
    same i = omega arith

pub run_gives_expression : RunGivesExpression
run_gives_expression sig [] before after e u h t = subst (λ (s : PlainState). ExpressionHasType sig s.context s.holding e u) h (subst (ExpressionHasType sig after.context after.holding e) (nothing_past u) t)
run_gives_expression sig (x ∷ xs) before after e u (between, step, run) t =
    let v = ren_telescope (up (length x.0)) u in
    let rest = subst (λ (s : PlainState). ExpressionHasType sig s.context s.holding (steps_on xs e) v) step.state
    (run_gives_expression sig xs between after e v run (subst (ExpressionHasType sig after.context after.holding e) (past_both (bound xs) (length x.0) u) t)) in
    record {
      entries = step.entries;
      for_right = step.taken;
      for_rest = step.left;
      split = step.split;
      right = step.right;
      pattern = step.pattern;
      rest = subst (λ (ms : List Mode). ExpressionHasType sig (with_entries step.entries before.context) (all_held ms step.left) (steps_on xs e) v) step.pattern rest;
    }

pub runs_in_turn : RunsInTurn
runs_in_turn sig [] ys before between after h k = subst (λ (s : PlainState). IsRun sig ys s after) h k
runs_in_turn sig (x ∷ xs) ys before between after (next, step, run) k = (next, step, runs_in_turn sig xs ys next between after run k)

-- ---- an expression with a result
module _ (sig : PlainSignature) (e : PlainExpression) where
  -- The step that the rule of steps speaks of under a part of what is held, and the part under which the rest has its result.
  begins : (ms : List Mode) (r : PlainNeutral) (d : PlainExpression) (u : PlainTelescope) (s : PlainState) → Starts sig s.context s.holding → (p : Holding) → IsSubholding (modes s.context) s.holding p
      → (t : StepRule s.context p ms (λ q a. Synthesizes sig s.context q r a) (λ v q. ExpressionHasType sig (with_entries v s.context) (all_held ms q) d u))
      → ((found : PlainType × Leftover) × InferredIs sig s.context s.holding r found) ⊎ ((path : List ℕ) × (why : Cause) × ExplainedInNeutral sig s.context s.holding r path why)
      → (between : PlainState) × TakesStep sig ms r s between × MayHaveResult sig between d u
  begins ms r d u s w p a t (inr x) =
      absurd ((neutrals sig s.context s.holding r w).explained.1 x t.for_right (monad t.entries) (IsSubholding-first (modes s.context) s.holding p t.for_right t.for_rest t.split a) t.right)
  begins ms r d u s w p a t (inl (f, found)) =
      let g = s.context in
      let type : monad t.entries ≡ f.0 = found.1 t.for_right (monad t.entries) t.right in
      let here : InferredIs sig g s.holding r (monad t.entries, f.1) = subst (λ (b : PlainType). InferredIs sig g s.holding r (b, f.1)) (sym type) found in
      let part = IsSubholding-first (modes g) s.holding p t.for_right t.for_rest t.split a in
      let stands = here.0.1 t.for_right part t.right in
      let rest = IsSubholding-second (modes g) s.holding f.1.0 f.1.1 p t.for_right t.for_rest t.split a stands in (
        state_after g f.1.0 t.entries,
        step-of sig ms r s t.entries f.1 w.marked here t.pattern,
        (
          all_held (telescope_modes t.entries) t.for_rest,
          entered-part t.entries g f.1.0 t.for_rest rest,
          subst (λ (ks : List Mode). ExpressionHasType sig (with_entries t.entries g) (all_held ks t.for_rest) d u) (sym t.pattern) t.rest,
        ),
      )

  begins_with : (xs : List (List Mode × PlainNeutral)) (s : PlainState) (u : PlainTelescope) → Starts sig s.context s.holding → MayHaveResult sig s (steps_on xs e) u
      → (after : PlainState) × IsRun sig xs s after × MayHaveResult sig after e (ren_telescope (up (bound xs)) u)
  begins_with [] s u w t = (s, refl, subst (MayHaveResult sig s e) (sym (nothing_past u)) t)
  begins_with (x ∷ xs) s u w (p, a, t) =
      let v = ren_telescope (up (length x.0)) u in
      let (b, step, inner) = begins x.0 x.1 (steps_on xs e) v s w p a t (neutrals sig s.context s.holding x.1 w).decided in
      let (after, run, result) = begins_with xs b v (step-keeps-starts sig x.0 x.1 s b step w) inner in
      (after, (b, step, run), subst (MayHaveResult sig after e) (sym (past_both (bound xs) (length x.0) u)) result)

pub expression_begins_with_run : ExpressionBeginsWithRun
expression_begins_with_run sig xs before e u w t = begins_with sig e xs before u w t

pub ruleset run_laws = (run_gives_expression, expression_begins_with_run, runs_in_turn, run-is-one, runs-keep-starts)
