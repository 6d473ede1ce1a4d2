-- From what the kernel answers for a step to what the replay answers.
use Rattle.std.proofs.Common.{◌≡◌, ◌∙◌, ◌+◌, ◌<◌, ◌≤◌, ◌==◌, ℕ, suc, Bool, true, false, if◌then◌else◌, List, [], ◌∷◌, ◌++◌, length, map, take, drop, get_or, Option, None, Some, Result, Err, refl, sym, ap, subst, arith}
use Rattle.std.proofs.Math.Logic.{◌⊎◌, inl, inr}
use Rattle.std.proofs.Math.Seq.{drop-cons}
use Rattle.std.proofs.lemmas.List.{map-append, length-map, length-take-le, take_more, take-append-drop}
use Rattle.clf_syntax.specs.declared.fault.OrWide.{OrWide}
use Rattle.clf_syntax.specs.declared.fault.OrWide.TheVariants.{Fault, NoMemory, TooFar}
use Rattle.clf_syntax.specs.declared.fault.Want.{Want}
use Rattle.clf_syntax.specs.declared.fault.Want.TheVariants.{NoMemory as WantsMemory, TooFar as WantsNumbers}
use Rattle.clf_syntax.specs.declared.tree.Mode.{Mode}
use Rattle.clf_syntax.specs.declared.tree.Obj.{Obj}
use Rattle.clf_syntax.specs.declared.tree.Step.{Step, out-Step}
use Rattle.clf_syntax.specs.declared.tree.Ty.{Ty}
use Rattle.clf_syntax.specs.declared.tree.Ty.TheVariants.{Fam, Fun, With, Top}
use Rattle.clf_syntax.specs.Plain.{plain_neutral, plain_obj, plain_step, plain-step-modes, plain-step-rhs}
use Rattle.clf_syntax.specs.PlainTypes.{plain_ty, plain-Fam, plain-Fun, plain-Top, plain-With}
use Rattle.clf_syntax.specs.Tree.{PlainNeutral}
use Rattle.clf_syntax.specs.TypeTree.{PlainType, family, function, both, top, monad, PlainTelescope}
use Rattle.clf_syntax.specs.Wide.{IsWant, wanting}
use Rattle.use_contexts.specs.Context.{modes, telescope_modes}
use Rattle.use_contexts.specs.Rows.{Leftover}
use Rattle.clf_sig.specs.Entry.{PlainSignature}
use Rattle.clf_rules.specs.Explained.{IsNoMonad, MaySynthesize, telescope_width}
use Rattle.clf_rules.specs.Refusal.{Cause, mode_differs, width}
use Rattle.clf_rules.specs.Typing.{Synthesizes}
use Rattle.clf_rules.proofs.Held.{same_number}
use Rattle.clf_rules.proofs.UsedParts.{some-part}
use Rattle.clf_decision.specs.Checking.{first_other_mode, pattern_left, same_modes_left}
use Rattle.clf_decision.specs.Laws.{InferredIs}
use Rattle.clf_decision.specs.Outcome.{Outcome, passed, refused}
use Rattle.clf_decision.specs.Starts.{Starts}
use Rattle.clf_decision.proofs.AgreementOfMonads.{pattern-decided}
use Rattle.clf_decision.proofs.DecidedOutcomes.{Decided}
use Rattle.clf_decision.proofs.FirstPlaces.{first-modes}
use Rattle.clf_decision.proofs.Tests.{other-number}
use Rattle.clf_kernel.specs.declared.refusal.Inferred.{Inferred}
use Rattle.clf_kernel.specs.declared.refusal.Refusal.{Refusal}
use Rattle.clf_kernel.specs.Answers.{plain_cause}
use Rattle.clf_kernel.specs.Exact.{ChecksPattern, InfersNeutral}
use Rattle.trace_runs.specs.Refused.{RefusesPattern, other_width, other_mode, RefusesStep, in_right_side, at_pattern, RefusesAt, RefusesRun}
use Rattle.trace_runs.specs.Replay.{Replays}
use Rattle.trace_runs.specs.Run.{IsRun, PlainState, TakesStep}
use Rattle.trace_runs.specs.Steps.{IsBehind, IsRefused, Steps, StepsAt}
use Rattle.trace_runs.proofs.Decided.{refused-behind, refused-run}
use Rattle.trace_runs.proofs.RunLaws.{runs_in_turn}

-- ---- patterns
pub fits : (ms : List Mode) (u : PlainTelescope) → pattern_left ms u ≡ passed tt → telescope_modes u ≡ ms
fits ms u e = subst (λ (o : Outcome (Unit {0})). Decided o (telescope_modes u ≡ ms)) e (pattern-decided ms u)

module _ (ms : List Mode) (u : PlainTelescope) (path : List ℕ) (why : Cause) where
  same_refusal : (cause : Cause) (o : Outcome (Unit {0})) → o ≡ refused [] cause → o ≡ refused path why → (path ≡ []) × (cause ≡ why)
  same_refusal cause o d e = (cc, cc)

  misfits_by : (b : Bool) → (length ms == telescope_width u) ≡ b → (o : Option (Mode × Mode)) → first_other_mode (telescope_modes u) ms ≡ o
      → (if b then same_modes_left o else refused [] (width (telescope_width u) (length ms))) ≡ refused path why → (path ≡ []) × RefusesPattern (telescope_modes u) ms why
  misfits_by true e None f q = absurd (cc)
  misfits_by true e (Some d) f q =
      let p = same_refusal (mode_differs d.0 d.1) (refused [] (mode_differs d.0 d.1)) refl q in
      (p.0, subst (RefusesPattern (telescope_modes u) ms) p.1 (other_mode (same_number (length ms) (telescope_width u) e) (first-modes (telescope_modes u) ms d f)))
  misfits_by false e o f q =
      let p = same_refusal (width (telescope_width u) (length ms)) (refused [] (width (telescope_width u) (length ms))) refl q in
      (p.0, subst (RefusesPattern (telescope_modes u) ms) p.1 (other_width (other-number (length ms) (telescope_width u) e)))

  pub misfits : pattern_left ms u ≡ refused path why → (path ≡ []) × RefusesPattern (telescope_modes u) ms why
  misfits q = misfits_by (length ms == telescope_width u) refl (first_other_mode (telescope_modes u) ms) refl q

-- ---- one step
module _ (sig : PlainSignature) (x : List Mode × PlainNeutral) (s : PlainState) where
  -- The right side is refused.
  pub right-side-refused : (r : OrWide Refusal) → InfersNeutral sig s.context s.holding x.1 (Err r) → Steps sig x s (Err r)
  right-side-refused (Fault r) e = in_right_side e.1
  right-side-refused NoMemory e = tt
  right-side-refused (TooFar w) e = e

  -- The type of the right side is one that some part of what is held gives.
  pub may-have : (a : PlainType) (l : Leftover) → InferredIs sig s.context s.holding x.1 (a, l) → MaySynthesize sig s.context s.holding x.1 a
  may-have a l found = some-part (modes s.context) s.holding l (λ p. Synthesizes sig s.context p x.1 a) found.0

  -- The pattern is refused.
  pub pattern-is-refused : (u : PlainTelescope) → MaySynthesize sig s.context s.holding x.1 (monad u) → (r : OrWide Refusal) → ChecksPattern x.0 u (Err r) → Steps sig x s (Err r)
  pattern-is-refused u may (Fault r) e =
      let p = misfits x.0 u r.path.items (plain_cause r.cause) e in
      subst (λ path. RefusesStep sig s x.0 x.1 path (plain_cause r.cause)) (sym p.0) (at_pattern u may p.1)
  pattern-is-refused u may NoMemory e = tt
  pattern-is-refused u may (TooFar w) e = e

  -- The step itself is refused.
  pub step-is-refused : (why : Cause) → RefusesStep sig s x.0 x.1 [] why → (r : OrWide Refusal) → IsRefused [] why r → Steps sig x s (Err r)
  step-is-refused why e (Fault r) p = subst (λ k. RefusesStep sig s x.0 x.1 r.path.items k) (sym p.1) (subst (λ path. RefusesStep sig s x.0 x.1 path why) (sym p.0) e)
  step-is-refused why e NoMemory p = tt
  step-is-refused why e (TooFar w) p = p

  pub step-wants : (want : Want) → IsWant want → Steps sig x s (Err (wanting want))
  step-wants WantsMemory w = tt
  step-wants (WantsNumbers v) w = w

  -- A refusal gets the number of the step.
  pub numbered : (place : ℕ) (r whole : OrWide Refusal) → IsBehind place r whole → Steps sig x s (Err r) → StepsAt place sig x s (Err whole)
  numbered place (Fault r) (Fault q) p e = (r.path.items, p.0, subst (λ k. RefusesStep sig s x.0 x.1 r.path.items k) (sym p.1) e)
  numbered place (Fault r) NoMemory p e = tt
  numbered place (Fault r) (TooFar w) p e = p
  numbered place NoMemory whole p e = subst (λ q. StepsAt place sig x s (Err q)) (sym p) tt
  numbered place (TooFar w) whole p e = subst (λ q. StepsAt place sig x s (Err q)) (sym p) e

-- ---- one step in memory
module _ (sig : PlainSignature) (step : Step) (s : PlainState) where
  pub at-right-side : (r : Result Inferred (OrWide Refusal)) → InfersNeutral sig s.context s.holding (plain_neutral (out-Step step).rhs) r → InfersNeutral sig s.context s.holding (plain_step step).1 r
  at-right-side r e = subst (λ n. InfersNeutral sig s.context s.holding n r) (sym (plain-step-rhs step)) e

  pub at-type : (a b : PlainType) (l : Leftover) → InferredIs sig s.context s.holding (plain_neutral (out-Step step).rhs) (a, l) → a ≡ b → InferredIs sig s.context s.holding (plain_step step).1 (b, l)
  at-type a b l found e =
      subst (λ n. InferredIs sig s.context s.holding n (b, l)) (sym (plain-step-rhs step))
      (subst (λ (c : PlainType). InferredIs sig s.context s.holding (plain_neutral (out-Step step).rhs) (c, l)) e found)

  pub at-modes : (ms : List Mode) (u : PlainTelescope) (r : Result (Unit {0}) (OrWide Refusal)) → ms ≡ step.modes → ChecksPattern ms u r → ChecksPattern (plain_step step).0 u r
  at-modes ms u r e p = subst (λ ks. ChecksPattern ks u r) (e ∙ sym (plain-step-modes step)) p

monad_is : (t : PlainType) (a : PlainType) → t ≡ a → ((u : PlainTelescope) → a ≡ monad u → ⊥) → IsNoMonad t
monad_is t a e f u q = f u (sym e ∙ q)

pub no-monad : (t : Ty) → ((f : ℕ) × (ns : List Obj) × (t ≡ Fam f ns)) ⊎ (((m : Mode) × (a : Ty) × (b : Ty) × (t ≡ Fun m a b)) ⊎ (((a : Ty) × (b : Ty) × (t ≡ With a b)) ⊎ (t ≡ Top))) → IsNoMonad (plain_ty t)
no-monad t (inl (f, ns, e)) = monad_is (plain_ty t) (family f (map plain_obj ns)) (ap plain_ty e ∙ plain-Fam f ns) (λ u q. absurd (cc))
no-monad t (inr (inl (m, a, b, e))) = monad_is (plain_ty t) (function m (plain_ty a) (plain_ty b)) (ap plain_ty e ∙ plain-Fun m a b) (λ u q. absurd (cc))
no-monad t (inr (inr (inl (a, b, e)))) = monad_is (plain_ty t) (both (plain_ty a) (plain_ty b)) (ap plain_ty e ∙ plain-With a b) (λ u q. absurd (cc))
no-monad t (inr (inr (inr e))) = monad_is (plain_ty t) top (ap plain_ty e ∙ plain-Top) (λ u q. absurd (cc))

-- ---- all steps
module _ (sig : PlainSignature) (steps : List Step) (s : PlainState) where
  -- the steps before a place
  abbrev pub before : ℕ → List (List Mode × PlainNeutral)
  before i = map plain_step (take i steps)

  one_more : (i : ℕ) (x : Step) → i < length steps → x ≡ get_or steps i x → before (i + 1) ≡ before i ++ plain_step x ∷ []
  one_more i x l e = ap (map plain_step) (take_more steps i x l) ∙ map-append plain_step (take i steps) (get_or steps i x ∷ []) ∙ ap (λ y. before i ++ plain_step y ∷ []) (sym e)

  pub goes-on : (i : ℕ) (x : Step) → i < length steps → x ≡ get_or steps i x → (between after : PlainState) → IsRun sig (before i) s between
      → TakesStep sig (plain_step x).0 (plain_step x).1 between after → IsRun sig (before (i + 1)) s after
  goes-on i x l e between after p t = subst (λ xs. IsRun sig xs s after) (sym (one_more i x l e)) (runs_in_turn sig (before i) (plain_step x ∷ []) s between after p (after, t, refl))

  all_steps : (i : ℕ) (x : Step) → i < length steps → x ≡ get_or steps i x → before i ++ plain_step x ∷ map plain_step (drop (suc i) steps) ≡ map plain_step steps
  all_steps i x l e =
      ap (λ y. before i ++ plain_step y ∷ map plain_step (drop (suc i) steps)) e
      ∙ ap (λ ys. before i ++ map plain_step ys) (sym (drop-cons steps i x l))
      ∙ sym (map-append plain_step (take i steps) (drop i steps)) ∙ ap (map plain_step) (take-append-drop i steps)

  before_length : (i : ℕ) → i ≤ length steps → length (before i) ≡ i
  before_length i l = length-map (take i steps) plain_step ∙ length-take-le i steps l

  pub stops-at : Starts sig s.context s.holding → (i : ℕ) (x : Step) → i < length steps → x ≡ get_or steps i x → (between : PlainState) → IsRun sig (before i) s between
      → (r : OrWide Refusal) → StepsAt i sig (plain_step x) between (Err r) → Replays sig (map plain_step steps) s (Err r)
  stops-at w i x l e between p (Fault r) q =
      let at = refused-behind sig (before i) (plain_step x) (map plain_step (drop (suc i) steps)) s between q.0 (plain_cause r.cause) p q.2 in
      let there = subst (λ n. RefusesAt sig (map plain_step steps) s n q.0 (plain_cause r.cause)) (before_length i (omega arith)) (subst (λ xs. RefusesAt sig xs s (length (before i)) q.0 (plain_cause r.cause)) (all_steps i x l e) at) in
      let run = subst (λ path. RefusesRun sig (map plain_step steps) s path (plain_cause r.cause)) (sym q.1) there in
      (refused-run sig (map plain_step steps) s w r.path.items (plain_cause r.cause) run, run)
  stops-at w i x l e between p NoMemory q = tt
  stops-at w i x l e between p (TooFar v) q = q
