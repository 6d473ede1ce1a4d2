-- The steps of an expression, one after the other.
use Rattle.std.proofs.Common.{◌≡◌, ℕ, suc, ◌+◌, ◌<◌, Bool, List, [], ◌∷◌, ◌++◌, length, map, drop, get_or, refl, sym, ap, subst, ◌∙◌, arith}
use Rattle.std.proofs.Math.Seq.{drop-cons}
use Rattle.clf_syntax.specs.declared.tree.Mode.{Mode}
use Rattle.clf_syntax.specs.declared.tree.Step.{Step}
use Rattle.clf_syntax.specs.Tree.{PlainExpression, step, done, PlainTuple, PlainNeutral, steps_on}
use Rattle.clf_syntax.specs.TypeTree.{monad, PlainTelescope, end, binding}
use Rattle.clf_syntax.specs.Plain.{plain_step}
use Rattle.clf_syntax.specs.Renaming.{ren_telescope, up}
use Rattle.clf_syntax.proofs.TypeRenaming.{identity_telescope}
use Rattle.use_contexts.specs.Context.{Context, telescope_modes, with_entries}
use Rattle.use_contexts.specs.Holding.{Holding, all_held}
use Rattle.use_contexts.specs.Rows.{Leftover}
use Rattle.clf_sig.specs.Entry.{PlainSignature}
use Rattle.typing_laws.proofs.Carried.{square_telescope}
use Rattle.clf_decision.specs.Outcome.{Outcome, passed, at_part, and_then}
use Rattle.clf_decision.specs.Checking.{Puts, with_slack, pattern_left, closed_scope, closed_scopes, rest_left, step_left, inferred, checked_expression}
use Rattle.clf_decision.proofs.Outcomes.{then_same}
use Rattle.clf_kernel.specs.declared.refusal.Stop.{Stop}
use Rattle.clf_kernel.specs.declared.trail.Opened.{Opened}
use Rattle.clf_kernel.specs.Stops.{Stops}
use Rattle.clf_kernel.specs.Trail.{closed_mode, closed_modes, closed_step, closed_steps, opened_width, opened_by}
use Rattle.clf_kernel.proofs.Closings.{steps_stop, opened_more, length-opened_by}

-- ---- the ends of scopes, without the context
pub scopes_modes : (u : PlainTelescope) (g : Context) (a : Leftover) → closed_scopes u g a ≡ closed_modes (telescope_modes u) (length g) a
scopes_modes end g a = refl
scopes_modes (binding m t s) g a = ap (λ w. and_then w (closed_scope m g)) (scopes_modes s ((m, t) ∷ g) a)
    ∙ then_same (closed_modes (telescope_modes s) (suc (length g)) a) (closed_scope m g) (closed_mode m (suc (length g))) (λ y. refl)

pub rest_step : (place : ℕ) (u : PlainTelescope) (g : Context) (slack : Bool) (o : Outcome Leftover) → rest_left place u g slack o ≡ closed_step place (telescope_modes u) (length g) slack o
rest_step place u g slack o = then_same o (λ y. and_then (at_part place (closed_scopes u g y)) (with_slack slack)) (λ y. and_then (at_part place (closed_modes (telescope_modes u) (length g) y)) (with_slack slack))
    (λ y. ap (λ w. and_then (at_part place w) (with_slack slack)) (scopes_modes u g y))

-- ---- one step
module _ (puts : Puts) (sig : PlainSignature) (place : ℕ) (ms : List Mode) (r : PlainNeutral) (g : Context) (h : Holding) where
  pub opens : (u : PlainTelescope) (x : Leftover) → inferred puts sig g h r ≡ passed (monad u, x) → pattern_left ms u ≡ passed tt → telescope_modes u ≡ ms → (e : PlainExpression) (s : PlainTelescope)
      → checked_expression puts sig g h place (step ms r e) s
      ≡ closed_step place ms (length g) x.1 (checked_expression puts sig (with_entries u g) (all_held ms x.0) (suc place) e (ren_telescope (up (length ms)) s))
  opens u x i p m e s =
      let rest = λ (v : PlainTelescope) (row : Holding). checked_expression puts sig (with_entries v g) row (suc place) e (ren_telescope (up (length ms)) s) in
      ap (λ w. and_then (at_part place w) (λ f. step_left place ms g f rest)) i
      ∙ ap (λ w. and_then (at_part place w) (λ same. rest_left place u g x.1 (rest u (all_held ms x.0)))) p
      ∙ rest_step place u g x.1 (rest u (all_held ms x.0))
      ∙ ap (λ ns. closed_step place ns (length g) x.1 (rest u (all_held ms x.0))) m

-- ---- all steps
risen : (a b : ℕ) (s : PlainTelescope) → ren_telescope (up a) (ren_telescope (up b) s) ≡ ren_telescope (up (a + b)) s
risen a b s = square_telescope (up a) (up b) (up (a + b)) (λ i. i) (λ i. omega arith) s ∙ ap (ren_telescope (up (a + b))) (identity_telescope s)

module _ (puts : Puts) (sig : PlainSignature) (steps : List Step) (i : ℕ) (x : Step) (l : i < length steps) (e : x ≡ get_or steps i x) where
  from_here : map plain_step (drop i steps) ≡ plain_step x ∷ map plain_step (drop (suc i) steps)
  from_here = ap (map plain_step) (drop-cons steps i x l ∙ ap (λ y. y ∷ drop (suc i) steps) (sym e))

  -- The check of what is left is that of one step fewer, and then the end of the step.
  pub open_more : (g inner : Context) (h row : Holding) (n : ℕ) (os : List Opened) (o : Opened) → length os ≡ i → length g ≡ opened_width (opened_by os) + n → o.modes ≡ (plain_step x).0
      → ((e : PlainExpression) (s : PlainTelescope) → checked_expression puts sig g h i (steps_on (plain_step x ∷ []) e) s
      ≡ closed_step i (plain_step x).0 (length g) o.slack (checked_expression puts sig inner row (suc i) e (ren_telescope (up (length (plain_step x).0)) s)))
      → (t : PlainTuple) (s : PlainTelescope)
      → closed_steps n (opened_by os) (checked_expression puts sig g h i (steps_on (map plain_step (drop i steps)) (done t)) (ren_telescope (up (opened_width (opened_by os))) s))
      ≡ closed_steps n (opened_by (os ++ o ∷ [])) (checked_expression puts sig inner row (suc i) (steps_on (map plain_step (drop (suc i) steps)) (done t)) (ren_telescope (up (opened_width (opened_by (os ++ o ∷ [])))) s))
  open_more g inner h row n os o k w m p t s =
      let ds = opened_by os in
      let e = steps_on (map plain_step (drop (suc i) steps)) (done t) in
      let d = plain_step x in
      let s' = ren_telescope (up (opened_width ds)) s in
      let after = checked_expression puts sig inner row (suc i) e (ren_telescope (up (length d.0 + opened_width ds)) s) in
      ap (λ es. closed_steps n ds (checked_expression puts sig g h i (steps_on es (done t)) s')) from_here
      ∙ ap (closed_steps n ds) (p e s')
      ∙ ap (λ v. closed_steps n ds (closed_step i d.0 (length g) o.slack (checked_expression puts sig inner row (suc i) e v))) (risen (length d.0) (opened_width ds) s)
      ∙ ap (λ j. closed_steps n ds (closed_step j d.0 (length g) o.slack after)) (sym (length-opened_by os ∙ k))
      ∙ ap (λ j. closed_steps n ds (closed_step (length ds) d.0 j o.slack after)) w
      ∙ ap (λ ns. closed_steps n ((ns, o.slack) ∷ ds) (checked_expression puts sig inner row (suc i) e (ren_telescope (up (length ns + opened_width ds)) s))) (sym m)
      ∙ ap (λ es. closed_steps n es (checked_expression puts sig inner row (suc i) e (ren_telescope (up (opened_width es)) s))) (sym (opened_more os o))

  pub open_stops : (g : Context) (h : Holding) (n : ℕ) (os : List Opened) (q : Stop) → ((e : PlainExpression) (s : PlainTelescope) → Stops (checked_expression puts sig g h i (steps_on (plain_step x ∷ []) e) s) q)
      → (t : PlainTuple) (s : PlainTelescope)
      → Stops (closed_steps n (opened_by os) (checked_expression puts sig g h i (steps_on (map plain_step (drop i steps)) (done t)) (ren_telescope (up (opened_width (opened_by os))) s))) q
  open_stops g h n os q p t s =
      let s' = ren_telescope (up (opened_width (opened_by os))) s in
      steps_stop n (opened_by os) _ q (subst (λ es. Stops (checked_expression puts sig g h i (steps_on es (done t)) s') q) (sym from_here) (p (steps_on (map plain_step (drop (suc i) steps)) (done t)) s'))
