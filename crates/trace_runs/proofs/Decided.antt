-- Steps and runs are decided: where there is none, one refusal says why.
use Rattle.std.proofs.Common.{◌≡◌, ◌∙◌, ℕ, zero, suc, List, [], ◌∷◌, ◌++◌, length, refl, sym, ap, subst}
use Rattle.std.proofs.Math.Logic.{◌⊎◌, inl, inr}
use Rattle.clf_syntax.specs.declared.tree.Mode.{Mode}
use Rattle.clf_syntax.specs.Tree.{PlainNeutral}
use Rattle.clf_syntax.specs.TypeTree.{PlainType, family, function, both, top, monad, PlainTelescope}
use Rattle.use_contexts.specs.Context.{modes, telescope_modes}
use Rattle.use_contexts.specs.Rows.{Leftover}
use Rattle.clf_sig.specs.Entry.{PlainSignature}
use Rattle.clf_rules.specs.Typing.{Synthesizes}
use Rattle.clf_rules.specs.Refusal.{Cause, not_monad}
use Rattle.clf_rules.specs.Explained.{ExplainedInNeutral, MaySynthesize}
use Rattle.clf_rules.proofs.OneType.{type_is_one}
use Rattle.clf_rules.proofs.UsedParts.{some-part}
use Rattle.clf_decision.specs.Hereditary.{hereditary}
use Rattle.clf_decision.specs.Laws.{InferredIs, NeutralsAreDecided}
use Rattle.clf_decision.specs.Starts.{Starts}
use Rattle.clf_decision.proofs.Decisions.{neutrals_are_decided}
use Rattle.clf_decision.proofs.Hereditary.{are_puts}
use Rattle.trace_runs.specs.Laws.{RunIsOne, RunsKeepStarts, RunsAreDecided}
use Rattle.trace_runs.specs.Refused.{RefusesPattern, RefusesStep, in_right_side, at_no_monad, at_pattern, RefusesAt, RefusesRun}
use Rattle.trace_runs.specs.Run.{PlainState, TakesStep, IsRun, state_after}
use Rattle.trace_runs.proofs.LeastParts.{first-part}
use Rattle.trace_runs.proofs.Patterns.{pattern-fits, pattern-refused, pattern-one}
use Rattle.trace_runs.proofs.Steps.{the-entries, step-of, step-is-one, step-keeps-starts}

-- ---- steps
pub neutrals : NeutralsAreDecided
neutrals = neutrals_are_decided hereditary are_puts

module _ (sig : PlainSignature) (s : PlainState) (ms : List Mode) (r : PlainNeutral) (w : Starts sig s.context s.holding) where
  -- the other types are no monads
  no_monad : (a : PlainType) → ((u : PlainTelescope) → a ≡ monad u → ⊥) → MaySynthesize sig s.context s.holding r a → (path : List ℕ) × (why : Cause) × RefusesStep sig s ms r path why
  no_monad a none may = ([], not_monad a, at_no_monad may none)

  at_monad : (u : PlainTelescope) (x : Leftover) → InferredIs sig s.context s.holding r (monad u, x) → MaySynthesize sig s.context s.holding r (monad u)
      → (telescope_modes u ≡ ms) ⊎ ((why : Cause) × RefusesPattern (telescope_modes u) ms why)
      → ((after : PlainState) × TakesStep sig ms r s after) ⊎ ((path : List ℕ) × (why : Cause) × RefusesStep sig s ms r path why)
  at_monad u x found may (inl e) = inl (state_after s.context x.0 u, step-of sig ms r s u x w.marked found e)
  at_monad u x found may (inr p) = inr ([], p.0, at_pattern u may p.1)

  at_type : (a : PlainType) (x : Leftover) → InferredIs sig s.context s.holding r (a, x) → MaySynthesize sig s.context s.holding r a
      → ((after : PlainState) × TakesStep sig ms r s after) ⊎ ((path : List ℕ) × (why : Cause) × RefusesStep sig s ms r path why)
  at_type (monad u) x found may = at_monad u x found may (pattern-fits (telescope_modes u) ms)
  at_type (family f ns) x found may = inr (no_monad (family f ns) (λ u e. absurd (cc)) may)
  at_type (function m a c) x found may = inr (no_monad (function m a c) (λ u e. absurd (cc)) may)
  at_type (both a c) x found may = inr (no_monad (both a c) (λ u e. absurd (cc)) may)
  at_type top x found may = inr (no_monad top (λ u e. absurd (cc)) may)

  by_right : ((found : PlainType × Leftover) × InferredIs sig s.context s.holding r found) ⊎ ((path : List ℕ) × (why : Cause) × ExplainedInNeutral sig s.context s.holding r path why)
      → ((after : PlainState) × TakesStep sig ms r s after) ⊎ ((path : List ℕ) × (why : Cause) × RefusesStep sig s ms r path why)
  by_right (inl (f, found)) = at_type f.0 f.1 found (some-part (modes s.context) s.holding f.1 (λ p. Synthesizes sig s.context p r f.0) found.0)
  by_right (inr e) = inr (e.0, e.1, in_right_side e.2)

  pub step-decided : ((after : PlainState) × TakesStep sig ms r s after) ⊎ ((path : List ℕ) × (why : Cause) × RefusesStep sig s ms r path why)
  step-decided = by_right (neutrals sig s.context s.holding r w).decided

  -- Where the right side is refused it has no type.
  untyped : (path : List ℕ) (why : Cause) → ExplainedInNeutral sig s.context s.holding r path why → (a : PlainType) → MaySynthesize sig s.context s.holding r a → ⊥
  untyped path why e a may = (neutrals sig s.context s.holding r w).explained.1 (path, why, e) may.0 a may.1 may.2

  one_type : (a b : PlainType) → MaySynthesize sig s.context s.holding r a → MaySynthesize sig s.context s.holding r b → a ≡ b
  one_type a b x y = type_is_one sig s.context x.0 y.0 r a b x.2 y.2

  refused : (path : List ℕ) (why : Cause) → RefusesStep sig s ms r path why → (u : PlainTelescope) → telescope_modes u ≡ ms → MaySynthesize sig s.context s.holding r (monad u) → ⊥
  refused path why (in_right_side e) u m may = untyped path why e (monad u) may
  refused path why (at_no_monad {a = a} has none) u m may = none u (one_type a (monad u) has may)
  refused path why (at_pattern v has p) u m may = pattern-refused (telescope_modes v) ms why p (ap telescope_modes (the-entries (one_type (monad v) (monad u) has may)) ∙ m)

  pub step-refused : (path : List ℕ) (why : Cause) → RefusesStep sig s ms r path why → (after : PlainState) → TakesStep sig ms r s after → ⊥
  step-refused path why x after t = refused path why x t.entries t.pattern (t.taken, first-part (modes s.context) s.holding t.taken t.left w.marked t.split, t.right)

  pub step-refusal-is-one : (path other : List ℕ) (why because : Cause) → RefusesStep sig s ms r path why → RefusesStep sig s ms r other because → (path ≡ other) × (why ≡ because)
  step-refusal-is-one path other why because (in_right_side e) (in_right_side f) = (neutrals sig s.context s.holding r w).one path other why because e f
  step-refusal-is-one path other why because (in_right_side e) (at_no_monad {a = a} has none) = absurd (untyped path why e a has)
  step-refusal-is-one path other why because (in_right_side e) (at_pattern u has p) = absurd (untyped path why e (monad u) has)
  step-refusal-is-one path other why because (at_no_monad {a = a} has none) (in_right_side f) = absurd (untyped other because f a has)
  step-refusal-is-one path other why because (at_no_monad {a = a} has none) (at_no_monad {a = b} had non) = (refl, ap not_monad (one_type a b has had))
  step-refusal-is-one path other why because (at_no_monad {a = a} has none) (at_pattern u had p) = absurd (none u (one_type a (monad u) has had))
  step-refusal-is-one path other why because (at_pattern u has p) (in_right_side f) = absurd (untyped other because f (monad u) has)
  step-refusal-is-one path other why because (at_pattern u has p) (at_no_monad {a = b} had non) = absurd (non u (one_type b (monad u) had has))
  step-refusal-is-one path other why because (at_pattern u has p) (at_pattern v had q) =
      let e = the-entries (one_type (monad v) (monad u) had has) in
      (refl, pattern-one (telescope_modes u) ms why because p (subst (λ k. RefusesPattern (telescope_modes k) ms because) e q))

-- ---- runs
pub run-is-one : RunIsOne
run-is-one sig [] before one other x y = x ∙ sym y
run-is-one sig (x ∷ xs) before one other (b, s, p) (c, t, q) =
    run-is-one sig xs c one other (subst (λ d. IsRun sig xs d one) (step-is-one sig x.0 x.1 before b s c t) p) q

pub runs-keep-starts : RunsKeepStarts
runs-keep-starts sig [] before after w e = subst (λ (s : PlainState). Starts sig s.context s.holding) (sym e) w
runs-keep-starts sig (x ∷ xs) before after w (b, s, p) = runs-keep-starts sig xs b after (step-keeps-starts sig x.0 x.1 before b s w) p

module _ (sig : PlainSignature) where
  run_decided : (xs : List (List Mode × PlainNeutral)) (s : PlainState) → Starts sig s.context s.holding
      → ((after : PlainState) × IsRun sig xs s after) ⊎ ((n : ℕ) × (path : List ℕ) × (why : Cause) × RefusesAt sig xs s n path why)
  run_decided [] s w = inl (s, refl)
  run_decided (x ∷ xs) s w = by (step-decided sig s x.0 x.1 w) (λ b t. run_decided xs b (step-keeps-starts sig x.0 x.1 s b t w))
    where
      on : (b : PlainState) → TakesStep sig x.0 x.1 s b → ((after : PlainState) × IsRun sig xs b after) ⊎ ((n : ℕ) × (path : List ℕ) × (why : Cause) × RefusesAt sig xs b n path why)
          → ((after : PlainState) × IsRun sig (x ∷ xs) s after) ⊎ ((n : ℕ) × (path : List ℕ) × (why : Cause) × RefusesAt sig (x ∷ xs) s n path why)
      on b t (inl p) = inl (p.0, (b, t, p.1))
      on b t (inr e) = inr (suc e.0, e.1, e.2, (b, t, e.3))

      by : ((after : PlainState) × TakesStep sig x.0 x.1 s after) ⊎ ((path : List ℕ) × (why : Cause) × RefusesStep sig s x.0 x.1 path why)
          → ((b : PlainState) → TakesStep sig x.0 x.1 s b → ((after : PlainState) × IsRun sig xs b after) ⊎ ((n : ℕ) × (path : List ℕ) × (why : Cause) × RefusesAt sig xs b n path why))
          → ((after : PlainState) × IsRun sig (x ∷ xs) s after) ⊎ ((n : ℕ) × (path : List ℕ) × (why : Cause) × RefusesAt sig (x ∷ xs) s n path why)
      by (inl t) rest = on t.0 t.1 (rest t.0 t.1)
      by (inr e) rest = inr (0, e.0, e.1, e.2)

  pub refused-at : (xs : List (List Mode × PlainNeutral)) (s : PlainState) → Starts sig s.context s.holding → (n : ℕ) (path : List ℕ) (why : Cause) → RefusesAt sig xs s n path why
      → (after : PlainState) → IsRun sig xs s after → ⊥
  refused-at [] s w n path why e after p = e
  refused-at (x ∷ xs) s w zero path why e after (b, t, p) = step-refused sig s x.0 x.1 w path why e b t
  refused-at (x ∷ xs) s w (suc n) path why (c, u, e) after (b, t, p) =
      refused-at xs c (step-keeps-starts sig x.0 x.1 s c u w) n path why e after (subst (λ d. IsRun sig xs d after) (step-is-one sig x.0 x.1 s b t c u) p)

  one_at : (xs : List (List Mode × PlainNeutral)) (s : PlainState) → Starts sig s.context s.holding → (n m : ℕ) (path other : List ℕ) (why because : Cause)
      → RefusesAt sig xs s n path why → RefusesAt sig xs s m other because → (n ≡ m) × (path ≡ other) × (why ≡ because)
  one_at [] s w n m path other why because e f = absurd e
  one_at (x ∷ xs) s w zero zero path other why because e f = let p = step-refusal-is-one sig s x.0 x.1 w path other why because e f in (refl, p.0, p.1)
  one_at (x ∷ xs) s w zero (suc m) path other why because e (b, t, f) = absurd (step-refused sig s x.0 x.1 w path why e b t)
  one_at (x ∷ xs) s w (suc n) zero path other why because (b, t, e) f = absurd (step-refused sig s x.0 x.1 w other because f b t)
  one_at (x ∷ xs) s w (suc n) (suc m) path other why because (b, t, e) (c, u, f) =
      let p = one_at xs c (step-keeps-starts sig x.0 x.1 s c u w) n m path other why because (subst (λ d. RefusesAt sig xs d n path why) (step-is-one sig x.0 x.1 s b t c u) e) f in
      (ap suc p.0, p.1, p.2)

  pub refused-run : (xs : List (List Mode × PlainNeutral)) (s : PlainState) → Starts sig s.context s.holding → (path : List ℕ) (why : Cause) → RefusesRun sig xs s path why
      → (after : PlainState) → IsRun sig xs s after → ⊥
  refused-run xs s w [] why e after p = e
  refused-run xs s w (n ∷ path) why e after p = refused-at xs s w n path why e after p

  one_run : (xs : List (List Mode × PlainNeutral)) (s : PlainState) → Starts sig s.context s.holding → (path other : List ℕ) (why because : Cause)
      → RefusesRun sig xs s path why → RefusesRun sig xs s other because → (path ≡ other) × (why ≡ because)
  one_run xs s w [] other why because e f = absurd e
  one_run xs s w (n ∷ path) [] why because e f = absurd f
  one_run xs s w (n ∷ path) (m ∷ other) why because e f =
      let p = one_at xs s w n m path other why because e f in
      let head = p.0 in let tail = p.1 in (cc, p.2)

  told : (xs : List (List Mode × PlainNeutral)) (s : PlainState) → ((after : PlainState) × IsRun sig xs s after) ⊎ ((n : ℕ) × (path : List ℕ) × (why : Cause) × RefusesAt sig xs s n path why)
      → ((after : PlainState) × IsRun sig xs s after) ⊎ ((path : List ℕ) × (why : Cause) × RefusesRun sig xs s path why)
  told xs s (inl p) = inl p
  told xs s (inr e) = inr (e.0 ∷ e.1, e.2, e.3)

  or_refused : (xs : List (List Mode × PlainNeutral)) (s : PlainState) → ((after : PlainState) × IsRun sig xs s after) ⊎ ((path : List ℕ) × (why : Cause) × RefusesRun sig xs s path why)
      → ((after : PlainState) → IsRun sig xs s after → ⊥) → (path : List ℕ) × (why : Cause) × RefusesRun sig xs s path why
  or_refused xs s (inl p) none = absurd (none p.0 p.1)
  or_refused xs s (inr e) none = e

  -- After the steps of a run, the refusal of the next step is that of the whole.
  pub refused-behind : (xs : List (List Mode × PlainNeutral)) (x : List Mode × PlainNeutral) (ys : List (List Mode × PlainNeutral)) (s between : PlainState) (path : List ℕ) (why : Cause)
      → IsRun sig xs s between → RefusesStep sig between x.0 x.1 path why → RefusesAt sig (xs ++ x ∷ ys) s (length xs) path why
  refused-behind [] x ys s between path why p e = subst (λ d. RefusesStep sig d x.0 x.1 path why) p e
  refused-behind (y ∷ xs) x ys s between path why (b, t, p) e = (b, t, refused-behind xs x ys b between path why p e)

pub runs-are-decided : RunsAreDecided
runs-are-decided sig xs before w =
    let d = told sig xs before (run_decided sig xs before w) in
    record {
      decided = d;
      explained = ((λ none. or_refused sig xs before d none), (λ e. refused-run sig xs before w e.0 e.1 e.2));
      one = one_run sig xs before w;
    }
