-- A part of an expression or a tuple that is refused for a cause is the check's refusal, construct by construct.
use Rattle.std.proofs.Common.{◌≡◌, ◌<◌, ◌≢◌, ℕ, suc, ◌+◌, ◌==◌, true, List, [], ◌∷◌, length, Some, refl, sym, ap, subst, ◌∙◌, arith}
use Rattle.std.proofs.lemmas.Bool.{cond-true, cond-false}
use Rattle.clf_syntax.specs.declared.tree.Mode.{Mode}
use Rattle.clf_syntax.specs.Tree.{PlainObject, PlainNeutral, PlainExpression, step, PlainTuple, entry}
use Rattle.clf_syntax.specs.TypeTree.{PlainType, monad, PlainTelescope, binding}
use Rattle.clf_syntax.specs.Simple.{SimplyFormedTelescope}
use Rattle.clf_syntax.specs.Renaming.{ren_telescope, up}
use Rattle.use_contexts.specs.Context.{Context, modes, telescope_modes, with_entries}
use Rattle.use_contexts.specs.Holding.{Holding, may_use, allowed, all_held}
use Rattle.use_contexts.specs.Rows.{IsSubholding, Agrees, outside, slack_outside, Leftover}
use Rattle.use_contexts.proofs.UseLaws.{IsSubholding-self}
use Rattle.hered_subst.specs.Substitution.{single, SubstitutedTelescope}
use Rattle.hered_subst.proofs.Types.{determined_telescope}
use Rattle.clf_sig.specs.Entry.{PlainSignature}
use Rattle.clf_rules.specs.Typing.{HasType, Synthesizes, ExpressionHasType}
use Rattle.clf_rules.specs.Refusal.{Cause, mode_differs, width, unused, level}
use Rattle.clf_rules.specs.Explained.{MayHaveType, MaySynthesize, Leaves, step_at, entry_at, rest_at, telescope_width, IsIdle, Refuses, step_of_none, pattern_differs, pattern_width, entry_differs, tuple_too_short, tuple_too_long, step_unused}
use Rattle.clf_rules.proofs.Leavings.{row-leaves, leaves-one}
use Rattle.clf_syntax.specs.Modes.{same_mode}
use Rattle.typing_laws.specs.SimpleTyping.{simple_of, families_of}
use Rattle.clf_decision.specs.Outcome.{Outcome, passed, refused, at_part, and_then, answer_of}
use Rattle.clf_decision.specs.Checking.{Puts, with_slack, first_other_mode, same_modes_left, pattern_left, closed_scopes, rest_left, step_left, checked, inferred, checked_expression, checked_tuple}
use Rattle.clf_decision.specs.Puts.{ArePuts}
use Rattle.clf_decision.specs.Starts.{Starts}
use Rattle.clf_decision.proofs.AgreesWith.{ChecksAgree}
use Rattle.clf_decision.proofs.Starting.{starts-from, starts-allowed, formed-entered, telescope-put}
use Rattle.clf_decision.proofs.FirstPlaces.{modes-first, no-other-mode}
use Rattle.clf_decision.proofs.IdleEntries.{left-is-idle, idle-is-left, entered-held, scopes-end, scopes-refused}
use Rattle.clf_decision.proofs.EntryRows.{entry-leaves}
use Rattle.clf_decision.proofs.Explanations.{rest-starts}
use Rattle.clf_decision.proofs.RefusedForms.{typed-passes, step-of-none}
use Rattle.clf_decision.proofs.FirstRefusalsOfObjects.{inferred-as, checked-as}
use Rattle.trace_equal.proofs.FirstMatching.{mode_complete}
use Rattle.clf_decision.proofs.Tests.{modes-differ, numbers-differ, itself-number}
use Rattle.clf_decision.proofs.Marked.{outside-marked}

-- ---- patterns
pattern-passes : (ms : List Mode) (u : PlainTelescope) → telescope_modes u ≡ ms → pattern_left ms u ≡ passed tt
pattern-passes ms u e = subst (λ ns. pattern_left ns u ≡ passed tt) e (
    cond-true (telescope_width u == telescope_width u) (same_modes_left (first_other_mode (telescope_modes u) (telescope_modes u))) (refused [] (width (telescope_width u) (telescope_width u))) (itself-number (telescope_width u))
    ∙ ap same_modes_left (no-other-mode (telescope_modes u)))

pattern-other : (ms : List Mode) (u : PlainTelescope) (k m : Mode) → length ms ≡ telescope_width u → first_other_mode (telescope_modes u) ms ≡ Some (k, m) → pattern_left ms u ≡ refused [] (mode_differs k m)
pattern-other ms u k m n e =
    cond-true (length ms == telescope_width u) (same_modes_left (first_other_mode (telescope_modes u) ms)) (refused [] (width (telescope_width u) (length ms))) (ap (λ i. i == telescope_width u) n ∙ itself-number (telescope_width u))
    ∙ ap same_modes_left e

pattern-wider : (ms : List Mode) (u : PlainTelescope) → length ms ≢ telescope_width u → pattern_left ms u ≡ refused [] (width (telescope_width u) (length ms))
pattern-wider ms u n =
    cond-false (length ms == telescope_width u) (same_modes_left (first_other_mode (telescope_modes u) ms)) (refused [] (width (telescope_width u) (length ms))) (numbers-differ (length ms) (telescope_width u) n)

-- ---- steps
module _ (puts : Puts) (sig : PlainSignature) (agree : ChecksAgree puts sig) (g : Context) (h : Holding) (w : Starts sig g h) where
  module _ (ms : List Mode) (r : PlainNeutral) (e : PlainExpression) (s : PlainTelescope) (place : ℕ) where
    abbrev rest : PlainTelescope → Holding → Outcome Leftover
    rest u row = checked_expression puts sig (with_entries u g) row (suc place) e (ren_telescope (up (length ms)) s)

    -- the step, where its right side has that type
    step-with : (a : PlainType) (x : Leftover) → inferred puts sig g h r ≡ passed (a, x) → checked_expression puts sig g h place (step ms r e) s ≡ step_left place ms g (a, x) rest
    step-with a x q = ap (λ o. and_then (at_part place o) (λ f. step_left place ms g f rest)) q

    step-at-monad : (u : PlainTelescope) (x : Leftover) → inferred puts sig g h r ≡ passed (monad u, x) → telescope_modes u ≡ ms
        → checked_expression puts sig g h place (step ms r e) s ≡ rest_left place u g x.1 (rest u (all_held ms x.0))
    step-at-monad u x q m = step-with (monad u) x q ∙ ap (λ o. and_then (at_part place o) (λ same. rest_left place u g x.1 (rest u (all_held ms x.0)))) (pattern-passes ms u m)

    -- what follows a step starts from what its right side leaves
    pub rest-reached : (u : PlainTelescope) (left : Holding) (path : List ℕ) (why : Cause) → SimplyFormedTelescope (families_of sig) (simple_of sig g) s
        → MaySynthesize sig g h r (monad u) → telescope_modes u ≡ ms → Leaves g h (λ p. Synthesizes sig g p r (monad u)) left
        → (Starts sig (with_entries u g) (all_held ms left) → SimplyFormedTelescope (families_of sig) (simple_of sig (with_entries u g)) (ren_telescope (up (length ms)) s) → rest u (all_held ms left) ≡ refused path why)
        → checked_expression puts sig g h place (step ms r e) s ≡ refused path why
    rest-reached u left path why f t m l v =
        let x = inferred-as puts sig agree g h w r (monad u) t in
        let same = leaves-one g h (λ p. Synthesizes sig g p r (monad u)) x.0.0 left (row-leaves g h x.0 (λ p. Synthesizes sig g p r (monad u)) x.2.0) l in
        let from = subst (λ z. Starts sig (with_entries u g) (all_held ms z)) same (rest-starts sig g h r u x.0.0 ms w x.2.0.0 t m) in
        step-at-monad u x.0 x.1 m
        ∙ ap (λ z. rest_left place u g x.0.1 (rest u (all_held ms z))) same
        ∙ ap (λ o. rest_left place u g x.0.1 o) (v from (formed-entered sig u g ms s m f))

    unused-exact : (u : PlainTelescope) (left p : Holding) (i : ℕ) → SimplyFormedTelescope (families_of sig) (simple_of sig g) s
        → MaySynthesize sig g h r (monad u) → telescope_modes u ≡ ms → Leaves g h (λ q. Synthesizes sig g q r (monad u)) left
        → IsSubholding (modes (with_entries u g)) (all_held ms left) p → ExpressionHasType sig (with_entries u g) p e (ren_telescope (up (length ms)) s)
        → IsIdle sig g u left e (ren_telescope (up (length ms)) s) i → ((j : ℕ) → j < i → IsIdle sig g u left e (ren_telescope (up (length ms)) s) j → ⊥)
        → checked_expression puts sig g h place (step ms r e) s ≡ refused (place ∷ []) (unused (level (with_entries u g) i))
    unused-exact u left p i f t m l d b idle newer =
        let k = with_entries u g in
        let c = ren_telescope (up (length ms)) s in
        let x = inferred-as puts sig agree g h w r (monad u) t in
        let same = leaves-one g h (λ q. Synthesizes sig g q r (monad u)) x.0.0 left (row-leaves g h x.0 (λ q. Synthesizes sig g q r (monad u)) x.2.0) l in
        let from = subst (λ z. Starts sig k (all_held ms z)) same (rest-starts sig g h r u x.0.0 ms w x.2.0.0 t m) in
        let formed = formed-entered sig u g ms s m f in
        let has = agree.expressions e k (all_held ms left) (suc place) c from formed in
        let y = typed-passes (modes k) (all_held ms left) (rest u (all_held ms left)) (λ q. ExpressionHasType sig k q e c) has (p, d, b) in
        let here = subst (λ o. Agrees (modes k) (all_held ms left) (answer_of o) (λ q. ExpressionHasType sig k q e c)) y.1 has in
        let there = subst (λ ns. Agrees (modes k) (all_held ns left) (Some y.0) (λ q. ExpressionHasType sig k q e c)) (sym m) here in
        let self = IsSubholding-self (modes k) (all_held (telescope_modes u) left) (subst (λ ns. Starts sig k (all_held ns left)) (sym m) from).marked in
        let this = idle-is-left k (all_held (telescope_modes u) left) y.0 (λ q. ExpressionHasType sig k q e c) i there self idle.linear (entered-held u left i idle.entry) idle.spared in
        let ended = scopes-refused u g y.0 (closed_scopes u g y.0) i (scopes-end u g y.0) idle.entry this
        (λ j n a. newer j n (record { entry = below j i (telescope_width u) n idle.entry; linear = a.linear; spared = left-is-idle (modes k) (all_held (telescope_modes u) left) y.0 (λ q. ExpressionHasType sig k q e c) j there a })) in
        step-at-monad u x.0 x.1 m
        ∙ ap (λ z. rest_left place u g x.0.1 (rest u (all_held ms z))) same
        ∙ ap (λ o. rest_left place u g x.0.1 o) y.1
        ∙ ap (λ o. and_then (at_part place o) (with_slack x.0.1)) ended
      where
        below : (j i n : ℕ) → j < i → i < n → j < n
        below j i n a b = omega arith

    pub step-exact : (why : Cause) → Refuses sig g h (step_at ms r e s) why → SimplyFormedTelescope (families_of sig) (simple_of sig g) s → checked_expression puts sig g h place (step ms r e) s ≡ refused (place ∷ []) why
    step-exact why (step_of_none {t = t} q n) f = let x = inferred-as puts sig agree g h w r t q in step-with t x.0 x.1 ∙ step-of-none place ms g t x.0 rest n
    step-exact why (pattern_differs {k = k} {m = m} u q n d) f =
        let x = inferred-as puts sig agree g h w r (monad u) q in
        step-with (monad u) x.0 x.1 ∙ ap (λ o. and_then (at_part place o) (λ same. rest_left place u g x.0.1 (rest u (all_held ms x.0.0)))) (pattern-other ms u k m n (modes-first (telescope_modes u) ms k m d))
    step-exact why (pattern_width u q n) f =
        let x = inferred-as puts sig agree g h w r (monad u) q in
        step-with (monad u) x.0 x.1 ∙ ap (λ o. and_then (at_part place o) (λ same. rest_left place u g x.0.1 (rest u (all_held ms x.0.0)))) (pattern-wider ms u n)
    step-exact why (step_unused {i = i} u left p q m l d b idle newer) f = unused-exact u left p i f q m l d b idle newer

-- ---- tuples
module _ (puts : Puts) (are : ArePuts puts) (sig : PlainSignature) (agree : ChecksAgree puts sig) (g : Context) (h : Holding) (w : Starts sig g h) (steps before : ℕ) where
  pub rest-exact : (t : PlainTuple) (s : PlainTelescope) (why : Cause) → Refuses sig g h (rest_at before t s) why → checked_tuple puts sig g h steps before t s ≡ refused [] why
  rest-exact t s why tuple_too_short = refl
  rest-exact t s why tuple_too_long = refl

  module _ (n : PlainObject) (t : PlainTuple) (u : PlainTelescope) (a : PlainType) where
    pub entry-exact : (m k : Mode) (why : Cause) → Refuses sig g h (entry_at m k) why → checked_tuple puts sig g h steps before (entry m n t) (binding k a u) ≡ refused ((steps + before) ∷ []) why
    entry-exact m k why (entry_differs f) = cond-false (same_mode m k)
        (and_then (at_part (steps + before) (checked puts sig g (allowed m (modes g) h) n a))
        (λ y. and_then (checked_tuple puts sig g (outside m (modes g) h y.0) steps (suc before) t (puts.into_telescope n a u)) (with_slack (slack_outside m y.1))))
        (refused ((steps + before) ∷ []) (mode_differs k m)) (modes-differ m k f)

    module _ (m : Mode) where
      -- what follows the entry's own outcome
      abbrev later : Leftover → Outcome Leftover
      later y = and_then (checked_tuple puts sig g (outside m (modes g) h y.0) steps (suc before) t (puts.into_telescope n a u)) (with_slack (slack_outside m y.1))

      entry-same : checked_tuple puts sig g h steps before (entry m n t) (binding m a u) ≡ and_then (at_part (steps + before) (checked puts sig g (allowed m (modes g) h) n a)) later
      entry-same = cond-true (same_mode m m) (and_then (at_part (steps + before) (checked puts sig g (allowed m (modes g) h) n a)) later) (refused ((steps + before) ∷ []) (mode_differs m m)) (mode_complete m)

      pub entry-reached : (path : List ℕ) (why : Cause) → checked puts sig g (allowed m (modes g) h) n a ≡ refused path why
          → checked_tuple puts sig g h steps before (entry m n t) (binding m a u) ≡ refused ((steps + before) ∷ path) why
      entry-reached path why q = entry-same ∙ ap (λ o. and_then (at_part (steps + before) o) later) q

      -- the later entries start from what the entry leaves
      pub later-reached : (v : PlainTelescope) (left : Holding) (path : List ℕ) (why : Cause) → SimplyFormedTelescope (families_of sig) (simple_of sig g) (binding m a u)
          → MayHaveType sig g (allowed m (modes g) h) n a → Leaves g h (λ p. (may_use m (modes g) p ≡ true) × HasType sig g p n a) left → SubstitutedTelescope (single n 0) u v
          → (Starts sig g left → SimplyFormedTelescope (families_of sig) (simple_of sig g) v → checked_tuple puts sig g left steps (suc before) t v ≡ refused path why)
          → checked_tuple puts sig g h steps before (entry m n t) (binding m a u) ≡ refused path why
      later-reached v left path why f has l p next =
          let y = checked-as puts sig agree g (allowed m (modes g) h) (starts-allowed sig g h m w) n a f.0 has in
          let put = telescope-put puts are sig g (allowed m (modes g) h) n a u has f.1 in
          let types : puts.into_telescope n a u ≡ v = determined_telescope put.0 p in
          let row = outside m (modes g) h y.0.0 in
          let same : row ≡ left = leaves-one g h (λ q. (may_use m (modes g) q ≡ true) × HasType sig g q n a) row left (entry-leaves g h w.marked (λ q. HasType sig g q n a) m y.0 y.2) l in
          let from = starts-from sig g h row w (outside-marked m g h w.marked y.0 (λ q. HasType sig g q n a) y.2) in
          let refusal = next (subst (λ z. Starts sig g z) same from) (subst (λ z. SimplyFormedTelescope (families_of sig) (simple_of sig g) z) types put.1) in
          entry-same
          ∙ ap (λ o. and_then (at_part (steps + before) o) later) y.1
          ∙ ap (λ z. and_then (checked_tuple puts sig g z steps (suc before) t (puts.into_telescope n a u)) (with_slack (slack_outside m y.0.1))) same
          ∙ ap (λ z. and_then (checked_tuple puts sig g left steps (suc before) t z) (with_slack (slack_outside m y.0.1))) types
          ∙ ap (λ o. and_then o (with_slack (slack_outside m y.0.1))) refusal
