-- Refusals of expressions and tuples tell the truth, construct by construct.
use Rattle.std.proofs.Common.{◌≡◌, ℕ, suc, ◌+◌, ◌==◌, Bool, true, false, if◌then◌else◌, List, [], ◌∷◌, length, Option, None, Some, refl, sym, subst}
use Rattle.clf_syntax.specs.declared.tree.Mode.{Mode}
use Rattle.clf_syntax.specs.Tree.{PlainObject, PlainNeutral, PlainExpression, step, PlainTuple, empty, entry}
use Rattle.clf_syntax.specs.TypeTree.{PlainType, family, function, both, top, monad, PlainTelescope, end, binding}
use Rattle.clf_syntax.specs.Simple.{erase, extended, SimplyFormed, SimplyFormedTelescope}
use Rattle.clf_syntax.specs.Renaming.{ren_telescope, up}
use Rattle.use_contexts.specs.Context.{Context, modes, telescope_modes, with_entries}
use Rattle.use_contexts.specs.Holding.{Holding, WellMarked, allowed, all_held}
use Rattle.use_contexts.specs.Rows.{IsSubholding, Agrees, outside, slack_outside, Leftover}
use Rattle.use_contexts.proofs.UseLaws.{IsSubholding-self}
use Rattle.hered_subst.specs.Substitution.{single, SubstitutedTelescope}
use Rattle.clf_sig.specs.Entry.{PlainSignature}
use Rattle.clf_rules.proofs.Held.{same_number}
use Rattle.clf_rules.specs.Typing.{HasType, Synthesizes, ExpressionHasType}
use Rattle.clf_rules.specs.Refusal.{mode_differs, width}
use Rattle.clf_rules.specs.Explained.{MayHaveType, MaySynthesize, Leaves, step_at, entry_at, rest_at, at_step, in_right_side, in_later_steps, at_rest, at_entry, in_entry, in_later_entries, telescope_width, IsIdle, step_of_none, pattern_differs, pattern_width, entry_differs, tuple_too_short, tuple_too_long, step_unused}
use Rattle.clf_rules.proofs.UsedParts.{some-part}
use Rattle.clf_rules.proofs.Leavings.{row-leaves}
use Rattle.clf_syntax.specs.Modes.{same_mode}
use Rattle.typing_laws.specs.SimpleTyping.{simple_of, families_of}
use Rattle.clf_decision.specs.Outcome.{Outcome, passed, refused, at_part, and_then, answer_of}
use Rattle.clf_decision.specs.Checking.{Puts, with_slack, first_other_mode, same_modes_left, closed_scopes, rest_left, step_left, end_left, entry_left}
use Rattle.clf_decision.proofs.AgreesWith.{AgreesWithType}
use Rattle.clf_decision.proofs.FirstPlaces.{first-modes, same-modes}
use Rattle.clf_decision.proofs.IdleEntries.{left-is-idle, idle-is-left, entered-held, ScopesEnd, scopes-end}
use Rattle.clf_decision.proofs.EntryRows.{entry-leaves}
use Rattle.clf_decision.proofs.ExplanationForms.{Explained, NeutralExplained, ExpressionExplained, TupleExplained, ExplainedInExpression, synthesized}
use Rattle.trace_equal.proofs.FirstMatching.{mode_sound}
use Rattle.clf_decision.proofs.Tests.{other-mode, other-number}
use Rattle.clf_decision.proofs.Marked.{outside-marked}

-- ---- steps
-- what is known of what follows a step, after a row
abbrev RestExplained : PlainSignature → Context → List Mode → PlainExpression → PlainTelescope → ℕ → PlainTelescope → Holding → Outcome Leftover → Type 0
RestExplained sig g ms e s place u row o =
    Agrees (modes (with_entries u g)) (all_held ms row) (answer_of o) (λ p. ExpressionHasType sig (with_entries u g) p e (ren_telescope (up (length ms)) s))
    × ExpressionExplained sig (with_entries u g) (all_held ms row) e (ren_telescope (up (length ms)) s) (suc place) o

module _ (sig : PlainSignature) (g : Context) (h : Holding) (r : PlainNeutral) (e : PlainExpression) (s : PlainTelescope) (place : ℕ) where
  module _ (u : PlainTelescope) (x : Leftover) (found : AgreesWithType g h (passed (monad u, x)) (λ p a. Synthesizes sig g p r a)) (marked : WellMarked (modes (with_entries u g)) (all_held (telescope_modes u) x.0)) where
    leaves : Leaves g h (λ p. Synthesizes sig g p r (monad u)) x.0
    leaves = row-leaves g h x (λ p. Synthesizes sig g p r (monad u)) found.0

    scopes-explained : (y : Leftover) (o : Outcome Leftover) → ScopesEnd u g y o
        → Agrees (modes (with_entries u g)) (all_held (telescope_modes u) x.0) (Some y) (λ p. ExpressionHasType sig (with_entries u g) p e (ren_telescope (up (length (telescope_modes u))) s))
        → ExpressionExplained sig g h (step (telescope_modes u) r e) s place (and_then (at_part place o) (with_slack x.1))
    scopes-explained y (passed a) c w = tt
    scopes-explained y (refused path why) c w =
        let k = with_entries u g in
        let row = all_held (telescope_modes u) x.0 in
        let t = ren_telescope (up (length (telescope_modes u))) s in
        let self = IsSubholding-self (modes k) row marked in
        let part = some-part (modes k) row y (λ p. ExpressionHasType sig k p e t) w in
        let idle : IsIdle sig g u x.0 e t c.0 = record { entry = c.3; linear = c.4.linear; spared = left-is-idle (modes k) row y (λ p. ExpressionHasType sig k p e t) c.0 w c.4 } in
        subst (λ q. ExplainedInExpression sig g h (step (telescope_modes u) r e) s place (place ∷ q) why) (sym c.1)
        (subst (λ z. ExplainedInExpression sig g h (step (telescope_modes u) r e) s place (place ∷ []) z) (sym c.2) (
          g,
          h,
          step_at (telescope_modes u) r e s,
          at_step,
          step_unused u x.0 part.0 (synthesized sig g h r (monad u, x) found) refl leaves part.1 part.2 idle
              (λ j l i. c.5 j l (idle-is-left k row y (λ p. ExpressionHasType sig k p e t) j w self i.linear (entered-held u x.0 j i.entry) i.spared)),
        ))

    rest-explained : (o : Outcome Leftover) → RestExplained sig g (telescope_modes u) e s place u x.0 o → ExpressionExplained sig g h (step (telescope_modes u) r e) s place (rest_left place u g x.1 o)
    rest-explained (refused path why) (a, v) = (v.0, v.1, v.2, in_later_steps u x.0 (synthesized sig g h r (monad u, x) found) refl leaves v.3, v.4)
    rest-explained (passed y) (a, v) = scopes-explained y (closed_scopes u g y) (scopes-end u g y) a

  module _ (u : PlainTelescope) (x : Leftover) (found : AgreesWithType g h (passed (monad u, x)) (λ p a. Synthesizes sig g p r a)) where
    same-explained : (ms : List Mode) → telescope_modes u ≡ ms → (rest : PlainTelescope → Holding → Outcome Leftover) → WellMarked (modes (with_entries u g)) (all_held ms x.0)
        → RestExplained sig g ms e s place u x.0 (rest u (all_held ms x.0))
        → ExpressionExplained sig g h (step ms r e) s place (rest_left place u g x.1 (rest u (all_held ms x.0)))
    same-explained ms q rest = subst (λ ns. WellMarked (modes (with_entries u g)) (all_held ns x.0) → RestExplained sig g ns e s place u x.0 (rest u (all_held ns x.0))
        → ExpressionExplained sig g h (step ns r e) s place (rest_left place u g x.1 (rest u (all_held ns x.0)))) q
        (λ marked v. rest-explained u x found marked (rest u (all_held (telescope_modes u) x.0)) v)

    modes-explained : (ms : List Mode) (rest : PlainTelescope → Holding → Outcome Leftover) → length ms ≡ telescope_width u → (o : Option (Mode × Mode)) → first_other_mode (telescope_modes u) ms ≡ o
        → (telescope_modes u ≡ ms → WellMarked (modes (with_entries u g)) (all_held ms x.0) × RestExplained sig g ms e s place u x.0 (rest u (all_held ms x.0)))
        → ExpressionExplained sig g h (step ms r e) s place (and_then (at_part place (same_modes_left o)) (λ same. rest_left place u g x.1 (rest u (all_held ms x.0))))
    modes-explained ms rest n (Some d) q v = (g, h, step_at ms r e s, at_step, pattern_differs u (synthesized sig g h r (monad u, x) found) n (first-modes (telescope_modes u) ms d q))
    modes-explained ms rest n None q v = let same = same-modes (telescope_modes u) ms n q in let k = v same in same-explained ms same rest k.0 k.1

    pattern-explained : (ms : List Mode) (rest : PlainTelescope → Holding → Outcome Leftover) (b : Bool) → (length ms == telescope_width u) ≡ b
        → (telescope_modes u ≡ ms → WellMarked (modes (with_entries u g)) (all_held ms x.0) × RestExplained sig g ms e s place u x.0 (rest u (all_held ms x.0)))
        → ExpressionExplained sig g h (step ms r e) s place
        (and_then (at_part place (if b then same_modes_left (first_other_mode (telescope_modes u) ms) else refused [] (width (telescope_width u) (length ms)))) (λ same. rest_left place u g x.1 (rest u (all_held ms x.0))))
    pattern-explained ms rest true q v = modes-explained ms rest (same_number (length ms) (telescope_width u) q) (first_other_mode (telescope_modes u) ms) refl v
    pattern-explained ms rest false q v = (g, h, step_at ms r e s, at_step, pattern_width u (synthesized sig g h r (monad u, x) found) (other-number (length ms) (telescope_width u) q))

  pub step-explained : (ms : List Mode) (o : Outcome (PlainType × Leftover)) (rest : PlainTelescope → Holding → Outcome Leftover)
      → AgreesWithType g h o (λ p a. Synthesizes sig g p r a) → NeutralExplained sig g h r o
      → ((u : PlainTelescope) (row : Holding) → IsSubholding (modes g) h row → MaySynthesize sig g h r (monad u) → telescope_modes u ≡ ms
      → WellMarked (modes (with_entries u g)) (all_held ms row) × RestExplained sig g ms e s place u row (rest u (all_held ms row)))
      → ExpressionExplained sig g h (step ms r e) s place (and_then (at_part place o) (λ f. step_left place ms g f rest))
  step-explained ms (refused path why) rest u v w = (v.0, v.1, v.2, in_right_side v.3, v.4)
  step-explained ms (passed ((monad t), x)) rest u v w =
      pattern-explained t x u ms rest (length ms == telescope_width t) refl (λ q. w t x.0 u.0.0 (synthesized sig g h r (monad t, x) u) q)
  step-explained ms (passed ((family i ns), x)) rest u v w = (g, h, step_at ms r e s, at_step, step_of_none (synthesized sig g h r (family i ns, x) u) (λ z q. absurd (cc)))
  step-explained ms (passed ((function m a c), x)) rest u v w = (g, h, step_at ms r e s, at_step, step_of_none (synthesized sig g h r (function m a c, x) u) (λ z q. absurd (cc)))
  step-explained ms (passed ((both a c), x)) rest u v w = (g, h, step_at ms r e s, at_step, step_of_none (synthesized sig g h r (both a c, x) u) (λ z q. absurd (cc)))
  step-explained ms (passed (top, x)) rest u v w = (g, h, step_at ms r e s, at_step, step_of_none (synthesized sig g h r (top, x) u) (λ z q. absurd (cc)))

-- ---- tuples
module _ (sig : PlainSignature) (g : Context) (h : Holding) (steps before : ℕ) where
  pub end-explained : (s : PlainTelescope) → TupleExplained sig g h empty s steps before (end_left before h s)
  end-explained end = tt
  end-explained (binding m a s) = (g, h, rest_at before empty (binding m a s), at_rest, tuple_too_short)

  module _ (puts : Puts) (n : PlainObject) (t : PlainTuple) (later : Holding → PlainTelescope → Outcome Leftover) where
    -- what is known of the later entries, from every row
    abbrev LaterExplained : Mode → PlainType → PlainTelescope → Type 0
    LaterExplained m a u = (row : Holding) → WellMarked (modes g) row → MayHaveType sig g (allowed m (modes g) h) n a
        → SubstitutedTelescope (single n 0) u (puts.into_telescope n a u) × TupleExplained sig g row t (puts.into_telescope n a u) steps (suc before) (later row (puts.into_telescope n a u))

    later-explained : (m : Mode) (a : PlainType) (u : PlainTelescope) (y : Leftover) (o : Outcome Leftover) → WellMarked (modes g) h
        → Agrees (modes g) (allowed m (modes g) h) (Some y) (λ p. HasType sig g p n a) → SubstitutedTelescope (single n 0) u (puts.into_telescope n a u)
        → TupleExplained sig g (outside m (modes g) h y.0) t (puts.into_telescope n a u) steps (suc before) o
        → TupleExplained sig g h (entry m n t) (binding m a u) steps before (and_then o (with_slack (slack_outside m y.1)))
    later-explained m a u y (passed z) w c p v = tt
    later-explained m a u y (refused path why) w c p v = (
      v.0,
      v.1,
      v.2,
      in_later_entries (puts.into_telescope n a u) (outside m (modes g) h y.0) (some-part (modes g) (allowed m (modes g) h) y (λ q. HasType sig g q n a) c) (entry-leaves g h w (λ q. HasType sig g q n a) m y c) p v.3,
      v.4,
    )

    object-explained : (m : Mode) (a : PlainType) (u : PlainTelescope) (o : Outcome Leftover) → WellMarked (modes g) h
        → Agrees (modes g) (allowed m (modes g) h) (answer_of o) (λ p. HasType sig g p n a) → Explained sig g (allowed m (modes g) h) n a o → LaterExplained m a u
        → TupleExplained sig g h (entry m n t) (binding m a u) steps before
        (and_then (at_part (steps + before) o) (λ y. and_then (later (outside m (modes g) h y.0) (puts.into_telescope n a u)) (with_slack (slack_outside m y.1))))
    object-explained m a u (refused path why) w c v l = (v.0, v.1, v.2, in_entry v.3, v.4)
    object-explained m a u (passed y) w c v l =
        let k = l (outside m (modes g) h y.0) (outside-marked m g h w y (λ q. HasType sig g q n a) c) (some-part (modes g) (allowed m (modes g) h) y (λ q. HasType sig g q n a) c) in
        later-explained m a u y (later (outside m (modes g) h y.0) (puts.into_telescope n a u)) w c k.0 k.1

    entry-at-explained : (m k : Mode) (b : Bool) → same_mode m k ≡ b → (a : PlainType) (u : PlainTelescope) (o : Outcome Leftover) → WellMarked (modes g) h
        → Agrees (modes g) (allowed m (modes g) h) (answer_of o) (λ p. HasType sig g p n a) → Explained sig g (allowed m (modes g) h) n a o → LaterExplained m a u
        → TupleExplained sig g h (entry m n t) (binding k a u) steps before
        (if b then and_then (at_part (steps + before) o) (λ y. and_then (later (outside m (modes g) h y.0) (puts.into_telescope n a u)) (with_slack (slack_outside m y.1))) else refused ((steps + before) ∷ []) (mode_differs k m))
    entry-at-explained m k false e a u o w c v l = (g, h, entry_at m k, at_entry, entry_differs (other-mode m k e))
    entry-at-explained m k true e a u o w c v l =
        subst (λ j. TupleExplained sig g h (entry m n t) (binding j a u) steps before
        (and_then (at_part (steps + before) o) (λ y. and_then (later (outside m (modes g) h y.0) (puts.into_telescope n a u)) (with_slack (slack_outside m y.1))))) (mode_sound m k e) (object-explained m a u o w c v l)

    pub entry-explained : (m : Mode) (s : PlainTelescope) (object : Holding → PlainType → Outcome Leftover) → WellMarked (modes g) h → SimplyFormedTelescope (families_of sig) (simple_of sig g) s
        → ((a : PlainType) → SimplyFormed (families_of sig) (simple_of sig g) a
        → Agrees (modes g) (allowed m (modes g) h) (answer_of (object (allowed m (modes g) h) a)) (λ p. HasType sig g p n a) × Explained sig g (allowed m (modes g) h) n a (object (allowed m (modes g) h) a))
        → ((a : PlainType) (u : PlainTelescope) → SimplyFormedTelescope (families_of sig) (extended (erase a) (simple_of sig g)) u → LaterExplained m a u)
        → TupleExplained sig g h (entry m n t) s steps before (entry_left puts steps before m g h n t s object later)
    entry-explained m end object w f o l = (g, h, rest_at before (entry m n t) end, at_rest, tuple_too_long)
    entry-explained m (binding k a u) object w f o l = let x = o a f.0 in entry-at-explained m k (same_mode m k) refl a u (object (allowed m (modes g) h) a) w x.0 x.1 (l a u f.1)
