-- A part at a path that is refused for a cause is the check's refusal: it is the first, and the one that is answered.
use Rattle.std.proofs.Common.{◌≡◌, ℕ, suc, true, List, [], ◌∷◌, length, ap, ◌∙◌, ◌↔◌}
use Rattle.std.proofs.lemmas.Bool.{cond-true}
use Rattle.clf_syntax.specs.Tree.{PlainObject, PlainNeutral, PlainExpression, PlainTuple}
use Rattle.clf_syntax.specs.TypeTree.{PlainType, PlainTelescope}
use Rattle.clf_syntax.specs.Simple.{SimplyFormed, SimplyFormedTelescope}
use Rattle.clf_syntax.specs.Renaming.{ren_telescope, up}
use Rattle.use_contexts.specs.Context.{Context, modes, with_entries}
use Rattle.use_contexts.specs.Holding.{Holding, allowed, all_held}
use Rattle.use_contexts.specs.Rows.{newest_difference}
use Rattle.clf_sig.specs.Entry.{PlainSignature}
use Rattle.clf_rules.specs.Refusal.{Cause, mode_differs, eliminations}
use Rattle.clf_rules.specs.Explained.{CheckedPart, Reaches, ReachesInNeutral, ReachesInExpression, ReachesInTuple, whole, in_body, in_left_part, in_right_part, in_expression, in_neutral, at_head, at_argument, at_first, at_second, before_argument, before_first, before_second, in_argument_part, at_step, in_right_side, in_later_steps, in_tuple, at_rest, at_entry, in_entry, in_later_entries, Refuses, ExplainedAt, ExplainedInNeutral}
use Rattle.clf_syntax.specs.Modes.{same_mode}
use Rattle.typing_laws.specs.SimpleTyping.{simple_of, families_of}
use Rattle.clf_decision.specs.Outcome.{refused, at_part, and_then}
use Rattle.clf_decision.specs.Checking.{Puts, closed_scope, joined_left, atomic_left, argument_left, first_left, second_left, step_left, checked, inferred, checked_expression, checked_tuple}
use Rattle.clf_decision.specs.Puts.{ArePuts}
use Rattle.clf_decision.specs.Starts.{Starts}
use Rattle.clf_decision.proofs.AgreesWith.{ChecksAgree}
use Rattle.clf_decision.proofs.Starting.{starts-under, starts-allowed}
use Rattle.clf_decision.proofs.Explanations.{explained-object, explained-neutral}
use Rattle.clf_decision.proofs.FirstRefusalsOfObjects.{checked-as, whole-exact, head-exact, argument-exact, first-exact, second-exact, argument-reached}
use Rattle.clf_decision.proofs.FirstRefusalsOfSteps.{rest-reached, step-exact, rest-exact, entry-exact, entry-reached, later-reached}
use Rattle.trace_equal.proofs.FirstMatching.{mode_complete}

module _ (puts : Puts) (are : ArePuts puts) (sig : PlainSignature) (agree : ChecksAgree puts sig) where
  mutual
    object-exact : (g : Context) (h : Holding) (n : PlainObject) (t : PlainType) (path : List ℕ) (k : Context) (l : Holding) (x : CheckedPart) (why : Cause)
        → Reaches sig g h n t path k l x → Refuses sig k l x why → Starts sig g h → SimplyFormed (families_of sig) (simple_of sig g) t → checked puts sig g h n t ≡ refused path why
    object-exact g h n t path k l x why whole u w f = whole-exact puts sig agree g h w n t why u f
    object-exact g h n t path k l x why (in_body {m = m} {b = b} {a = a} {c = c} {path = q} v) u w f =
        let r = object-exact ((m, a) ∷ g) (true ∷ h) b c q k l x why v u (starts-under sig g h m a w f.0) f.1 in
        cond-true (same_mode m m) (and_then (at_part 0 (checked puts sig ((m, a) ∷ g) (true ∷ h) b c)) (closed_scope m g)) (refused [] (mode_differs m m)) (mode_complete m)
        ∙ ap (λ o. and_then (at_part 0 o) (closed_scope m g)) r
    object-exact g h n t path k l x why (in_left_part {o = o} {u = r} {a = a} {c = c} {path = q} v) u w f =
        let z = object-exact g h o a q k l x why v u w f.0 in
        ap (λ z. and_then (at_part 0 z) (λ p. and_then (at_part 1 (checked puts sig g h r c)) (λ q. joined_left g p q (newest_difference (modes g) p.0 p.1 q.0 q.1)))) z
    object-exact g h n t path k l x why (in_right_part {o = o} {u = r} {a = a} {c = c} {path = q} s v) u w f =
        let y = checked-as puts sig agree g h w o a f.0 s in
        let z = object-exact g h r c q k l x why v u w f.1 in
        ap (λ z. and_then (at_part 0 z) (λ p. and_then (at_part 1 (checked puts sig g h r c)) (λ q. joined_left g p q (newest_difference (modes g) p.0 p.1 q.0 q.1)))) y.1
        ∙ ap (λ z. and_then (at_part 1 z) (λ q. joined_left g y.0 q (newest_difference (modes g) y.0.0 y.0.1 q.0 q.1))) z
    object-exact g h n t path k l x why (in_expression {e = e} {s = s} v) u w f = expression-exact g h e s 0 path k l x why v u w f
    object-exact g h n t path k l x why (in_neutral {r = r} v) u w f = ap (λ o. and_then o (atomic_left g t)) (neutral-exact g h r path k l x why v u w)

    neutral-exact : (g : Context) (h : Holding) (r : PlainNeutral) (path : List ℕ) (k : Context) (l : Holding) (x : CheckedPart) (why : Cause)
        → ReachesInNeutral sig g h r path k l x → Refuses sig k l x why → Starts sig g h → inferred puts sig g h r ≡ refused path why
    neutral-exact g h r path k l x why (at_head {y = y}) u w = head-exact puts sig agree g h w y why u
    neutral-exact g h r path k l x why (at_argument {m = m} {r = s} {n = n}) u w = argument-exact puts sig agree g h w m s n why u
    neutral-exact g h r path k l x why (at_first {r = s}) u w = first-exact puts sig agree g h w s why u
    neutral-exact g h r path k l x why (at_second {r = s}) u w = second-exact puts sig agree g h w s why u
    neutral-exact g h r path k l x why (before_argument {m = m} {r = s} {n = n} v) u w =
        ap (λ o. and_then o (λ f. argument_left puts m g n (eliminations s) f (λ row a. checked puts sig g row n a))) (neutral-exact g h s path k l x why v u w)
    neutral-exact g h r path k l x why (before_first {r = s} v) u w = ap (λ o. and_then o (first_left (eliminations s))) (neutral-exact g h s path k l x why v u w)
    neutral-exact g h r path k l x why (before_second {r = s} v) u w = ap (λ o. and_then o (second_left (eliminations s))) (neutral-exact g h s path k l x why v u w)
    neutral-exact g h r path k l x why (in_argument_part {m = m} {r = s} {n = n} {path = q} a c left f y v) u w =
        argument-reached puts sig agree g h w m s n a c left q why f y
        (λ from e. object-exact g (allowed m (modes g) left) n a q k l x why v u (starts-allowed sig g left m from) e)

    expression-exact : (g : Context) (h : Holding) (e : PlainExpression) (s : PlainTelescope) (place : ℕ) (path : List ℕ) (k : Context) (l : Holding) (x : CheckedPart) (why : Cause)
        → ReachesInExpression sig g h e s place path k l x → Refuses sig k l x why → Starts sig g h → SimplyFormedTelescope (families_of sig) (simple_of sig g) s
        → checked_expression puts sig g h place e s ≡ refused path why
    expression-exact g h e s place path k l x why (at_step {ms = ms} {r = r} {e = d}) u w f = step-exact puts sig agree g h w ms r d s place why u f
    expression-exact g h e s place path k l x why (in_right_side {ms = ms} {r = r} {e = d} {path = q} v) u w f =
        ap (λ o. and_then (at_part place o) (λ y. step_left place ms g y (λ z row. checked_expression puts sig (with_entries z g) row (suc place) d (ren_telescope (up (length ms)) s))))
        (neutral-exact g h r q k l x why v u w)
    expression-exact g h e s place path k l x why (in_later_steps {ms = ms} {r = r} {e = d} z left t q y v) u w f =
        rest-reached puts sig agree g h w ms r d s place z left path why f t q y
        (λ from i. expression-exact (with_entries z g) (all_held ms left) d (ren_telescope (up (length ms)) s) (suc place) path k l x why v u from i)
    expression-exact g h e s place path k l x why (in_tuple {t = t} v) u w f = tuple-exact g h t s place 0 path k l x why v u w f

    tuple-exact : (g : Context) (h : Holding) (t : PlainTuple) (s : PlainTelescope) (steps before : ℕ) (path : List ℕ) (k : Context) (l : Holding) (x : CheckedPart) (why : Cause)
        → ReachesInTuple sig g h t s steps before path k l x → Refuses sig k l x why → Starts sig g h → SimplyFormedTelescope (families_of sig) (simple_of sig g) s
        → checked_tuple puts sig g h steps before t s ≡ refused path why
    tuple-exact g h t s steps before path k l x why at_rest u w f = rest-exact puts are sig agree g h w steps before t s why u
    tuple-exact g h t s steps before path k l x why (at_entry {m = m} {k = j} {n = n} {t = y} {a = a} {u = z}) u w f = entry-exact puts are sig agree g h w steps before n y z a m j why u
    tuple-exact g h t s steps before path k l x why (in_entry {m = m} {n = n} {t = y} {a = a} {u = z} {path = q} v) u w f =
        entry-reached puts are sig agree g h w steps before n y z a m q why
        (object-exact g (allowed m (modes g) h) n a q k l x why v u (starts-allowed sig g h m w) f.0)
    tuple-exact g h t s steps before path k l x why (in_later_entries {m = m} {n = n} {t = y} {a = a} {u = z} c left p d q v) u w f =
        later-reached puts are sig agree g h w steps before n y z a m c left path why f p d q
        (λ from i. tuple-exact g left y c steps (suc before) path k l x why v u from i)

  -- A refusal comes exactly where at its path stands a part that is refused for its cause.
  pub refuses_exactly : (g : Context) (h : Holding) (n : PlainObject) (t : PlainType) (path : List ℕ) (why : Cause) → Starts sig g h → SimplyFormed (families_of sig) (simple_of sig g) t
      → (checked puts sig g h n t ≡ refused path why) ↔ ExplainedAt sig g h n t path why
  refuses_exactly g h n t path why w f =
      ((λ q. explained-object puts are sig agree g h n t path why w f q), (λ u. object-exact g h n t path u.0 u.1 u.2 why u.3 u.4 w f))

  pub refuses_neutrals_exactly : (g : Context) (h : Holding) (r : PlainNeutral) (path : List ℕ) (why : Cause) → Starts sig g h
      → (inferred puts sig g h r ≡ refused path why) ↔ ExplainedInNeutral sig g h r path why
  refuses_neutrals_exactly g h r path why w =
      ((λ q. explained-neutral puts are sig agree g h r path why w q), (λ u. neutral-exact g h r path u.0 u.1 u.2 why u.3 u.4 w))
