-- Refusals of objects tell the truth, construct by construct: where those of the parts do, at the path stands a part that is refused
-- for the cause.
use Rattle.std.proofs.Common.{◌≡◌, ℕ, suc, ◌==◌, Bool, true, false, not, ◌&&◌, if◌then◌else◌, List, [], ◌∷◌, length, Option, None, Some, refl, sym, subst}
use Rattle.clf_syntax.specs.declared.tree.Mode.{Mode}
use Rattle.clf_syntax.specs.declared.tree.Mode.TheVariants.{Persistent, Affine, Linear}
use Rattle.clf_syntax.specs.Tree.{PlainObject, lam, pair, unit, monadic, atomic, PlainNeutral, PlainExpression}
use Rattle.clf_syntax.specs.TypeTree.{PlainType, family, function, both, top, monad, PlainTelescope}
use Rattle.clf_syntax.specs.Simple.{SimplyFormed, SimplyFormedTelescope}
use Rattle.use_contexts.specs.Context.{Context, modes}
use Rattle.use_contexts.specs.Holding.{Holding}
use Rattle.use_contexts.specs.Rows.{stands, Agrees, newest_difference, is_unused, newest, older, Leftover}
use Rattle.clf_sig.specs.Entry.{PlainSignature}
use Rattle.clf_rules.specs.Typing.{HasType, Synthesizes}
use Rattle.clf_rules.specs.Refusal.{unused, mode_differs, family_differs}
use Rattle.clf_rules.specs.Explained.{MaySynthesize, object_at, whole, in_body, in_left_part, in_right_part, in_expression, in_neutral, lambda_at_none, pair_at_none, unit_at_none, monadic_at_none, neutral_at_none, neutral_of_none, lambda_differs, variable_unused, parts_differ, other_family, other_index}
use Rattle.clf_rules.proofs.Held.{same_number}
use Rattle.typing_laws.specs.SimpleTyping.{simple_of, families_of}
use Rattle.clf_rules.proofs.UsedParts.{some-part}
use Rattle.clf_syntax.specs.Modes.{same_mode}
use Rattle.clf_decision.specs.Outcome.{Outcome, passed, refused, at_part, and_then, answer_of}
use Rattle.clf_decision.specs.Checking.{closed_scope, lambda_left, joined_left, pair_left, unit_left, first_unjoined, indices_left, found_left, atomic_left, monadic_left}
use Rattle.clf_decision.proofs.AgreesWith.{AgreesWithType}
use Rattle.clf_decision.proofs.Differences.{get-now, differ-at, differ-found, rows-differ, parts-differ, not-newer}
use Rattle.clf_decision.proofs.FirstPlaces.{first-indices}
use Rattle.clf_decision.proofs.ExplanationForms.{Explained, NeutralExplained, ExpressionExplained, synthesized}
use Rattle.trace_equal.proofs.FirstMatching.{mode_sound}
use Rattle.clf_decision.proofs.Tests.{other-mode, other-number}

-- ---- lambdas
unheld : (l s p : Bool) → (l && not s) ≡ true → stands Linear true l s p ≡ true → p ≡ false
unheld l s false e q = refl
unheld true true true e q = cc
unheld true false true e q = cc
unheld false s true e q = cc

module _ (sig : PlainSignature) (g : Context) (h : Holding) where
  scope-explained : (m : Mode) (b : PlainObject) (a c : PlainType) (y : Leftover) (x : Bool) → is_unused m (newest y.0) y.1 ≡ x
      → Agrees (m ∷ modes g) (true ∷ h) (Some y) (λ p. HasType sig ((m, a) ∷ g) p b c)
      → Explained sig g h (lam m b) (function m a c) (if x then refused [] (unused (suc (length g))) else passed (older y.0, y.1))
  scope-explained m b a c y false e u = tt
  scope-explained Persistent b a c y true e u = absurd (cc)
  scope-explained Affine b a c y true e u = absurd (cc)
  scope-explained Linear b a c y true e u = (
    g,
    h,
    object_at (lam Linear b) (function Linear a c),
    whole,
    variable_unused (some-part (Linear ∷ modes g) (true ∷ h) y (λ p. HasType sig ((Linear, a) ∷ g) p b c) u)
        (λ p w t. get-now p (length (modes g)) false w.0 (unheld (newest y.0) y.1 (newest p) e (u.1 p w t).1.0)),
  )

  body-explained : (m : Mode) (b : PlainObject) (a c : PlainType) (r : Outcome Leftover)
      → Agrees (m ∷ modes g) (true ∷ h) (answer_of r) (λ p. HasType sig ((m, a) ∷ g) p b c)
      → Explained sig ((m, a) ∷ g) (true ∷ h) b c r
      → Explained sig g h (lam m b) (function m a c) (and_then (at_part 0 r) (closed_scope m g))
  body-explained m b a c (refused path why) u v = (v.0, v.1, v.2, in_body v.3, v.4)
  body-explained m b a c (passed y) u v = scope-explained m b a c y (is_unused m (newest y.0) y.1) refl u

  function-explained : (m k : Mode) (x : Bool) → same_mode m k ≡ x → (b : PlainObject) (a c : PlainType) (r : Outcome Leftover)
      → Agrees (m ∷ modes g) (true ∷ h) (answer_of r) (λ p. HasType sig ((m, a) ∷ g) p b c)
      → Explained sig ((m, a) ∷ g) (true ∷ h) b c r
      → Explained sig g h (lam m b) (function k a c) (if x then and_then (at_part 0 r) (closed_scope m g) else refused [] (mode_differs k m))
  function-explained m k true e b a c r u v =
      subst (λ j. Explained sig g h (lam m b) (function j a c) (and_then (at_part 0 r) (closed_scope m g))) (mode_sound m k e) (body-explained m b a c r u v)
  function-explained m k false e b a c r u v = (g, h, object_at (lam m b) (function k a c), whole, lambda_differs (other-mode m k e))

  pub lambda-explained : (m : Mode) (b : PlainObject) (t : PlainType) (body : PlainType → PlainType → Outcome Leftover) → SimplyFormed (families_of sig) (simple_of sig g) t
      → ((a c : PlainType) → SimplyFormed (families_of sig) (simple_of sig g) a → SimplyFormed (families_of sig) (simple_of sig ((m, a) ∷ g)) c
      → Agrees (m ∷ modes g) (true ∷ h) (answer_of (body a c)) (λ p. HasType sig ((m, a) ∷ g) p b c) × Explained sig ((m, a) ∷ g) (true ∷ h) b c (body a c))
      → Explained sig g h (lam m b) t (lambda_left m g t body)
  lambda-explained m b (function k a c) body e u = let x = u a c e.0 e.1 in function-explained m k (same_mode m k) refl b a c (body a c) x.0 x.1
  lambda-explained m b (family f ns) body e u = (g, h, object_at (lam m b) (family f ns), whole, lambda_at_none (λ k a c q. absurd (cc)))
  lambda-explained m b (both d f) body e u = (g, h, object_at (lam m b) (both d f), whole, lambda_at_none (λ k a c q. absurd (cc)))
  lambda-explained m b top body e u = (g, h, object_at (lam m b) top, whole, lambda_at_none (λ k a c q. absurd (cc)))
  lambda-explained m b (monad s) body e u = (g, h, object_at (lam m b) (monad s), whole, lambda_at_none (λ k a c q. absurd (cc)))

  -- ---- pairs
  joined-explained : (l r : PlainObject) (a c : PlainType) (u v : Leftover) (o : Option ℕ) → newest_difference (modes g) u.0 u.1 v.0 v.1 ≡ o
      → Agrees (modes g) h (Some u) (λ p. HasType sig g p l a) → Agrees (modes g) h (Some v) (λ p. HasType sig g p r c)
      → Explained sig g h (pair l r) (both a c) (joined_left g u v o)
  joined-explained l r a c u v None e x y = tt
  joined-explained l r a c u v (Some i) e x y =
      let d = parts-differ sig g h l a r c u v i x y (differ-at (modes g) h u.0 u.1 v.0 v.1 i e x.0.1 y.0.1) in (
        g,
        h,
        object_at (pair l r) (both a c),
        whole,
        parts_differ (some-part (modes g) h u (λ p. HasType sig g p l a) x) (some-part (modes g) h v (λ p. HasType sig g p r c) y) d
            (λ j q f. not-newer i j (newest_difference (modes g) u.0 u.1 v.0 v.1) e q
            (differ-found (modes g) h u.0 u.1 v.0 v.1 j x.0.0 y.0.0 x.0.1 y.0.1 (rows-differ sig g h l a r c u v j x y f))),
      )

  parts-explained : (l r : PlainObject) (a c : PlainType) (x y : Outcome Leftover)
      → Agrees (modes g) h (answer_of x) (λ p. HasType sig g p l a) → Agrees (modes g) h (answer_of y) (λ p. HasType sig g p r c)
      → Explained sig g h l a x → Explained sig g h r c y
      → Explained sig g h (pair l r) (both a c) (and_then (at_part 0 x) (λ u. and_then (at_part 1 y) (λ v. joined_left g u v (newest_difference (modes g) u.0 u.1 v.0 v.1))))
  parts-explained l r a c (refused path why) y i j u v = (u.0, u.1, u.2, in_left_part u.3, u.4)
  parts-explained l r a c (passed x) (refused path why) i j u v = (v.0, v.1, v.2, in_right_part (some-part (modes g) h x (λ p. HasType sig g p l a) i) v.3, v.4)
  parts-explained l r a c (passed x) (passed y) i j u v = joined-explained l r a c x y (newest_difference (modes g) x.0 x.1 y.0 y.1) refl i j

  pub pair-explained : (l r : PlainObject) (t : PlainType) (left right : PlainType → Outcome Leftover) → SimplyFormed (families_of sig) (simple_of sig g) t
      → ((a : PlainType) → SimplyFormed (families_of sig) (simple_of sig g) a → Agrees (modes g) h (answer_of (left a)) (λ p. HasType sig g p l a) × Explained sig g h l a (left a))
      → ((c : PlainType) → SimplyFormed (families_of sig) (simple_of sig g) c → Agrees (modes g) h (answer_of (right c)) (λ p. HasType sig g p r c) × Explained sig g h r c (right c))
      → Explained sig g h (pair l r) t (pair_left g t left right)
  pair-explained l r (both a c) left right e u v =
      let x = u a e.0 in
      let y = v c e.1 in
      parts-explained l r a c (left a) (right c) x.0 y.0 x.1 y.1
  pair-explained l r (family f ns) left right e u v = (g, h, object_at (pair l r) (family f ns), whole, pair_at_none (λ a c q. absurd (cc)))
  pair-explained l r (function m d f) left right e u v = (g, h, object_at (pair l r) (function m d f), whole, pair_at_none (λ a c q. absurd (cc)))
  pair-explained l r top left right e u v = (g, h, object_at (pair l r) top, whole, pair_at_none (λ a c q. absurd (cc)))
  pair-explained l r (monad s) left right e u v = (g, h, object_at (pair l r) (monad s), whole, pair_at_none (λ a c q. absurd (cc)))

  -- ---- units
  pub unit-explained : (t : PlainType) → Explained sig g h unit t (unit_left h t)
  unit-explained top = tt
  unit-explained (family f ns) = (g, h, object_at unit (family f ns), whole, unit_at_none (λ q. absurd (cc)))
  unit-explained (function m a c) = (g, h, object_at unit (function m a c), whole, unit_at_none (λ q. absurd (cc)))
  unit-explained (both a c) = (g, h, object_at unit (both a c), whole, unit_at_none (λ q. absurd (cc)))
  unit-explained (monad s) = (g, h, object_at unit (monad s), whole, unit_at_none (λ q. absurd (cc)))

  -- ---- monadic objects
  expression-within : (e : PlainExpression) (s : PlainTelescope) (o : Outcome Leftover) → ExpressionExplained sig g h e s 0 o → Explained sig g h (monadic e) (monad s) o
  expression-within e s (passed a) u = tt
  expression-within e s (refused path why) u = (u.0, u.1, u.2, in_expression u.3, u.4)

  pub monadic-explained : (e : PlainExpression) (t : PlainType) (expression : PlainTelescope → Outcome Leftover) → SimplyFormed (families_of sig) (simple_of sig g) t
      → ((s : PlainTelescope) → SimplyFormedTelescope (families_of sig) (simple_of sig g) s → ExpressionExplained sig g h e s 0 (expression s))
      → Explained sig g h (monadic e) t (monadic_left t expression)
  monadic-explained e (monad s) expression f u = expression-within e s (expression s) (u s f)
  monadic-explained e (family i ns) expression f u = (g, h, object_at (monadic e) (family i ns), whole, monadic_at_none (λ s q. absurd (cc)))
  monadic-explained e (function m a c) expression f u = (g, h, object_at (monadic e) (function m a c), whole, monadic_at_none (λ s q. absurd (cc)))
  monadic-explained e (both a c) expression f u = (g, h, object_at (monadic e) (both a c), whole, monadic_at_none (λ s q. absurd (cc)))
  monadic-explained e top expression f u = (g, h, object_at (monadic e) top, whole, monadic_at_none (λ s q. absurd (cc)))

  -- ---- atomic objects
  indices-explained : (r : PlainNeutral) (f : ℕ) (ns os : List PlainObject) (a : Leftover) (o : Option (PlainObject × PlainObject)) → first_unjoined os ns ≡ o → MaySynthesize sig g h r (family f os)
      → Explained sig g h (atomic r) (family f ns) (indices_left g o a)
  indices-explained r f ns os a None e u = tt
  indices-explained r f ns os a (Some d) e u = (g, h, object_at (atomic r) (family f ns), whole, other_index os u (first-indices os ns d e))

  family-explained : (r : PlainNeutral) (wanted found : ℕ) (ns os : List PlainObject) (a : Leftover) (x : Bool) → (wanted == found) ≡ x → MaySynthesize sig g h r (family found os)
      → Explained sig g h (atomic r) (family wanted ns) (if x then indices_left g (first_unjoined os ns) a else refused [] (family_differs found wanted))
  family-explained r wanted found ns os a true e u =
      indices-explained r wanted ns os a (first_unjoined os ns) refl (subst (λ i. MaySynthesize sig g h r (family i os)) (sym (same_number wanted found e)) u)
  family-explained r wanted found ns os a false e u = (g, h, object_at (atomic r) (family wanted ns), whole, other_family os u (other-number wanted found e))

  found-explained : (r : PlainNeutral) (wanted : ℕ) (ns : List PlainObject) (t : PlainType) (a : Leftover) → MaySynthesize sig g h r t
      → Explained sig g h (atomic r) (family wanted ns) (found_left g wanted ns t a)
  found-explained r wanted ns (family found os) a u = family-explained r wanted found ns os a (wanted == found) refl u
  found-explained r wanted ns (function m d c) a u = (g, h, object_at (atomic r) (family wanted ns), whole, neutral_of_none u (λ f os q. absurd (cc)))
  found-explained r wanted ns (both d c) a u = (g, h, object_at (atomic r) (family wanted ns), whole, neutral_of_none u (λ f os q. absurd (cc)))
  found-explained r wanted ns top a u = (g, h, object_at (atomic r) (family wanted ns), whole, neutral_of_none u (λ f os q. absurd (cc)))
  found-explained r wanted ns (monad s) a u = (g, h, object_at (atomic r) (family wanted ns), whole, neutral_of_none u (λ f os q. absurd (cc)))

  pub atomic-explained : (r : PlainNeutral) (t : PlainType) (o : Outcome (PlainType × Leftover)) → AgreesWithType g h o (λ p a. Synthesizes sig g p r a)
      → NeutralExplained sig g h r o → Explained sig g h (atomic r) t (and_then o (atomic_left g t))
  atomic-explained r t (refused path why) u v = (v.0, v.1, v.2, in_neutral v.3, v.4)
  atomic-explained r (family wanted ns) (passed f) u v = found-explained r wanted ns f.0 f.1 (synthesized sig g h r f u)
  atomic-explained r (function m d c) (passed f) u v = (g, h, object_at (atomic r) (function m d c), whole, neutral_at_none f.0 (synthesized sig g h r f u) (λ i os q. absurd (cc)))
  atomic-explained r (both d c) (passed f) u v = (g, h, object_at (atomic r) (both d c), whole, neutral_at_none f.0 (synthesized sig g h r f u) (λ i os q. absurd (cc)))
  atomic-explained r top (passed f) u v = (g, h, object_at (atomic r) top, whole, neutral_at_none f.0 (synthesized sig g h r f u) (λ i os q. absurd (cc)))
  atomic-explained r (monad s) (passed f) u v = (g, h, object_at (atomic r) (monad s), whole, neutral_at_none f.0 (synthesized sig g h r f u) (λ i os q. absurd (cc)))
