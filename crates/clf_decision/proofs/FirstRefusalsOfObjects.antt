-- A part of an object or a neutral that is refused for a cause is the check's refusal, construct by construct.
use Rattle.std.proofs.Common.{◌≡◌, ◌≤◌, ◌<◌, ℕ, suc, ◌-◌, ◌==◌, Bool, true, false, ◌||◌, if◌then◌else◌, List, [], ◌∷◌, length, Option, None, Some, slice_get, refl, ap, subst, ◌∙◌, arith}
use Rattle.std.proofs.lemmas.Bool.{cond-true, cond-false}
use Rattle.clf_syntax.specs.declared.tree.Mode.{Mode}
use Rattle.clf_syntax.specs.declared.tree.Mode.TheVariants.{Linear}
use Rattle.clf_syntax.specs.declared.tree.Head.{Head}
use Rattle.clf_syntax.specs.Tree.{PlainObject, lam, pair, PlainNeutral, head_alone, app, fst, snd}
use Rattle.clf_syntax.specs.TypeTree.{PlainType, family, function, both}
use Rattle.clf_syntax.specs.Simple.{SimplyFormed}
use Rattle.use_contexts.specs.Context.{Context, modes}
use Rattle.use_contexts.specs.Holding.{Holding, allowed}
use Rattle.use_contexts.specs.Rows.{IsSubholding, Agrees, newest_difference, is_unused, newest, older, outside, slack_outside, Leftover}
use Rattle.use_contexts.proofs.UseLaws.{scope-agrees}
use Rattle.clf_sig.specs.Entry.{PlainSignature}
use Rattle.clf_rules.specs.Typing.{HasType, Synthesizes}
use Rattle.clf_rules.specs.Refusal.{Cause, unused, mode_differs, family_differs, pairs_differ, eliminations}
use Rattle.clf_rules.specs.Explained.{MayHaveType, MaySynthesize, object_at, neutral_with, Leaves, DiffersAt, Refuses, lambda_at_none, argument_to_none, pair_at_none, first_of_none, second_of_none, unit_at_none, monadic_at_none, neutral_at_none, neutral_of_none, hole_stands, metavariable_stands, lambda_differs, argument_differs, variable_not_held, variable_unused, parts_differ, other_family, other_index, no_variable, no_constant}
use Rattle.clf_rules.proofs.UsedParts.{some-part}
use Rattle.clf_rules.proofs.Leavings.{row-leaves, leaves-one}
use Rattle.clf_syntax.specs.Modes.{same_mode}
use Rattle.typing_laws.specs.SimpleTyping.{simple_of, families_of}
use Rattle.clf_decision.specs.Outcome.{Outcome, passed, refused, at_part, and_then, answer_of}
use Rattle.clf_decision.specs.Checking.{Puts, constant_left, held_left, variable_left, head_left, closed_scope, joined_left, first_unjoined, indices_left, atomic_left, argument_left, first_left, second_left, checked, inferred, checked_expression}
use Rattle.clf_decision.specs.Starts.{Starts}
use Rattle.clf_decision.proofs.AgreesWith.{AgreesWithType, ChecksAgree}
use Rattle.clf_decision.proofs.Starting.{starts-under, starts-part, formed-synthesized}
use Rattle.clf_decision.proofs.Differences.{differ-at, differ-found, rows-differ, parts-differ}
use Rattle.clf_decision.proofs.FirstPlaces.{indices-first}
use Rattle.clf_decision.proofs.RefusedForms.{typed-passes, synthesized-passes, lambda-at-none, pair-at-none, unit-at-none, monadic-at-none, neutral-at-none, neutral-of-none, argument-to-none, first-of-none, second-of-none}
use Rattle.trace_equal.proofs.FirstMatching.{mode_complete}
use Rattle.clf_decision.proofs.Tests.{modes-differ, numbers-differ, itself-number}

-- ---- a linear variable that no part holds
abbrev unused_at : Context → Outcome Leftover
unused_at g = refused [] (unused (suc (length g)))

unused-scope : (g : Context) (h : Holding) (y : Leftover) (P : Holding → Type 0) → Agrees (Linear ∷ modes g) (true ∷ h) (Some y) P
    → ((p : Holding) → IsSubholding (Linear ∷ modes g) (true ∷ h) p → P p → slice_get p 0 ≡ Some false) → (x : Bool) → is_unused Linear (newest y.0) y.1 ≡ x
    → (if x then unused_at g else passed (older y.0, y.1)) ≡ unused_at g
unused-scope g h y P u f true e = refl
unused-scope g h y P u f false e =
    let rest : Leftover = (older y.0, y.1) in
    let z = subst (λ b. Agrees (modes g) h (if b then None else Some rest) (λ p. P (true ∷ p))) e (scope-agrees Linear (modes g) h (Some y) P u) in
    let p = some-part (modes g) h rest (λ p. P (true ∷ p)) z in
    let q = f (true ∷ p.0) (ap suc p.1.0, (refl, p.1.1)) p.2 in
    absurd (cc)

-- ---- an entry at which the parts of a pair differ
newest-one : (i : ℕ) (o : Option ℕ) → ((j : ℕ) → o ≡ Some j → j < i → ⊥) → (j : ℕ) × (o ≡ Some j) × (j ≤ i) → o ≡ Some i
newest-one i o f d = let e : d.0 ≡ i = same d.0 (d.2) (f d.0 d.1) in d.1 ∙ ap Some e
  where
    same : (j : ℕ) → j ≤ i → (j < i → ⊥) → j ≡ i
    same j a b = grind arith

-- ---- refusals of the whole
-- what follows an argument's outcome
abbrev argument_passed : Mode → Context → PlainNeutral → PlainType → Leftover → Outcome Leftover → Outcome (PlainType × Leftover)
argument_passed m g r d x o = and_then (at_part (eliminations r) o) (λ y. passed (d, (outside m (modes g) x.0 y.0, x.1 || slack_outside m y.1)))

module _ (puts : Puts) (sig : PlainSignature) (agree : ChecksAgree puts sig) (g : Context) (h : Holding) (w : Starts sig g h) where
  -- a neutral that may synthesize a type passes with it, and what it leaves agrees
  pub inferred-as : (r : PlainNeutral) (a : PlainType) → MaySynthesize sig g h r a → (x : Leftover) × (inferred puts sig g h r ≡ passed (a, x)) × AgreesWithType g h (passed (a, x)) (λ p t. Synthesizes sig g p r t)
  inferred-as r a t =
      let (x, e) = synthesized-passes g h (inferred puts sig g h r) (λ p b. Synthesizes sig g p r b) a (agree.neutrals r g h w) t in
      (x, e, subst (λ o. AgreesWithType g h o (λ p b. Synthesizes sig g p r b)) e (agree.neutrals r g h w))

  -- so does an object that may have one
  pub checked-as : (n : PlainObject) (t : PlainType) → SimplyFormed (families_of sig) (simple_of sig g) t → MayHaveType sig g h n t
      → (y : Leftover) × (checked puts sig g h n t ≡ passed y) × Agrees (modes g) h (Some y) (λ p. HasType sig g p n t)
  checked-as n t f u =
      let (y, e) = typed-passes (modes g) h (checked puts sig g h n t) (λ p. HasType sig g p n t) (agree.objects n g h t w f) u in
      (y, e, subst (λ o. Agrees (modes g) h (answer_of o) (λ p. HasType sig g p n t)) e (agree.objects n g h t w f))

  differ-exact : (l r : PlainObject) (a d : PlainType) (i : ℕ) → SimplyFormed (families_of sig) (simple_of sig g) a → SimplyFormed (families_of sig) (simple_of sig g) d
      → MayHaveType sig g h l a → MayHaveType sig g h r d → DiffersAt sig g h l a r d i → ((j : ℕ) → j < i → DiffersAt sig g h l a r d j → ⊥)
      → checked puts sig g h (pair l r) (both a d) ≡ refused [] (pairs_differ (length g - i))
  differ-exact l r a d i e f s t here newer =
      let x = checked-as l a e s in
      let y = checked-as r d f t in
      let u = x.2 in
      let v = y.2 in
      let o = newest_difference (modes g) x.0.0 x.0.1 y.0.0 y.0.1 in
      let found = differ-found (modes g) h x.0.0 x.0.1 y.0.0 y.0.1 i u.0.0 v.0.0 u.0.1 v.0.1 (rows-differ sig g h l a r d x.0 y.0 i u v here) in
      let place = newest-one i o
      (λ j q k. newer j k (parts-differ sig g h l a r d x.0 y.0 j u v (differ-at (modes g) h x.0.0 x.0.1 y.0.0 y.0.1 j q u.0.1 v.0.1))) found in
      ap (λ z. and_then (at_part 0 z) (λ p. and_then (at_part 1 (checked puts sig g h r d)) (λ q. joined_left g p q (newest_difference (modes g) p.0 p.1 q.0 q.1)))) x.1
      ∙ ap (λ z. and_then (at_part 1 z) (λ q. joined_left g x.0 q (newest_difference (modes g) x.0.0 x.0.1 q.0 q.1))) y.1
      ∙ ap (λ z. joined_left g x.0 y.0 z) place

  unused-exact : (b : PlainObject) (a d : PlainType) → SimplyFormed (families_of sig) (simple_of sig g) a → SimplyFormed (families_of sig) (simple_of sig ((Linear, a) ∷ g)) d
      → MayHaveType sig ((Linear, a) ∷ g) (true ∷ h) b d
      → ((p : Holding) → IsSubholding (Linear ∷ modes g) (true ∷ h) p → HasType sig ((Linear, a) ∷ g) p b d → slice_get p 0 ≡ Some false)
      → checked puts sig g h (lam Linear b) (function Linear a d) ≡ refused [] (unused (suc (length g)))
  unused-exact b a d i j t f =
      let body = checked puts sig ((Linear, a) ∷ g) (true ∷ h) b d in
      let u = agree.objects b ((Linear, a) ∷ g) (true ∷ h) d (starts-under sig g h Linear a w i) j in
      let y = typed-passes (Linear ∷ modes g) (true ∷ h) body (λ p. HasType sig ((Linear, a) ∷ g) p b d) u t in
      let v = subst (λ o. Agrees (Linear ∷ modes g) (true ∷ h) (answer_of o) (λ p. HasType sig ((Linear, a) ∷ g) p b d)) y.1 u in
      ap (λ o. and_then (at_part 0 o) (closed_scope Linear g)) y.1
      ∙ unused-scope g h y.0 (λ p. HasType sig ((Linear, a) ∷ g) p b d) v f (is_unused Linear (newest y.0.0) y.0.1) refl

  pub whole-exact : (n : PlainObject) (t : PlainType) (why : Cause) → Refuses sig g h (object_at n t) why → SimplyFormed (families_of sig) (simple_of sig g) t → checked puts sig g h n t ≡ refused [] why
  whole-exact n t why (lambda_at_none {m = m} {b = b} f) k = lambda-at-none m g t (λ a d. checked puts sig ((m, a) ∷ g) (true ∷ h) b d) f
  whole-exact n t why (pair_at_none {l = l} {r = r} f) k = pair-at-none g t (λ a. checked puts sig g h l a) (λ d. checked puts sig g h r d) f
  whole-exact n t why (unit_at_none f) k = unit-at-none h t f
  whole-exact n t why (neutral_at_none {r = r} a s f) k = let x = inferred-as r a s in ap (λ o. and_then o (atomic_left g t)) x.1 ∙ neutral-at-none g t (a, x.0) f
  whole-exact n t why (neutral_of_none {r = r} {f = f} {ns = ns} {a = a} s u) k =
      let x = inferred-as r a s in ap (λ o. and_then o (atomic_left g (family f ns))) x.1 ∙ neutral-of-none g f ns a x.0 u
  whole-exact n t why (monadic_at_none {e = e} f) k = monadic-at-none t (λ s. checked_expression puts sig g h 0 e s) f
  whole-exact n t why hole_stands k = refl
  whole-exact n t why (lambda_differs {m = m} {k = j} {b = b} {a = a} {c = d} f) k =
      cond-false (same_mode m j) (and_then (at_part 0 (checked puts sig ((m, a) ∷ g) (true ∷ h) b d)) (closed_scope m g)) (refused [] (mode_differs j m)) (modes-differ m j f)
  whole-exact n t why (variable_unused {b = b} {a = a} {c = d} s f) k = unused-exact b a d k.0 k.1 s f
  whole-exact n t why (parts_differ {l = l} {r = r} {a = a} {c = d} {i = i} s u f q) k = differ-exact l r a d i k.0 k.1 s u f q
  whole-exact n t why (other_family {r = r} {wanted = wanted} {found = found} {ns = ns} os s f) k =
      let x = inferred-as r (family found os) s in
      ap (λ o. and_then o (atomic_left g (family wanted ns))) x.1 ∙ cond-false (wanted == found) (indices_left g (first_unjoined os ns) x.0) (refused [] (family_differs found wanted)) (numbers-differ wanted found f)
  whole-exact n t why (other_index {r = r} {f = f} {ns = ns} {o = u} {n = v} os s q) k =
      let x = inferred-as r (family f os) s in
      ap (λ o. and_then o (atomic_left g (family f ns))) x.1 ∙ cond-true (f == f) (indices_left g (first_unjoined os ns) x.0) (refused [] (family_differs f f)) (itself-number f)
      ∙ ap (λ o. indices_left g o x.0) (indices-first os ns u v q)

  pub head-exact : (y : Head) (why : Cause) → Refuses sig g h (neutral_with (head_alone y)) why → head_left sig g h y ≡ refused [] why
  head-exact y why metavariable_stands = refl
  head-exact y why (variable_not_held {i = i} m a q x) = ap (variable_left g h i) q ∙ ap (held_left g h i a) x
  head-exact y why (no_variable {i = i} q) = ap (variable_left g h i) q
  head-exact y why (no_constant {k = k} q) = ap (constant_left k h) q

  pub argument-exact : (m : Mode) (r : PlainNeutral) (n : PlainObject) (why : Cause) → Refuses sig g h (neutral_with (app m r n)) why
      → inferred puts sig g h (app m r n) ≡ refused (eliminations r ∷ []) why
  argument-exact m r n why (argument_to_none {t = t} s f) =
      let x = inferred-as r t s in
      ap (λ o. and_then o (λ f. argument_left puts m g n (eliminations r) f (λ row a. checked puts sig g row n a))) x.1
      ∙ argument-to-none puts m g n (eliminations r) t x.0 (λ row a. checked puts sig g row n a) f
  argument-exact m r n why (argument_differs {k = j} a d s f) =
      let x = inferred-as r (function j a d) s in
      ap (λ o. and_then o (λ f. argument_left puts m g n (eliminations r) f (λ row a. checked puts sig g row n a))) x.1
      ∙ cond-false (same_mode m j) (argument_passed m g r (puts.into_type n a d) x.0 (checked puts sig g (allowed m (modes g) x.0.0) n a)) (refused (eliminations r ∷ []) (mode_differs j m)) (modes-differ m j f)

  pub first-exact : (r : PlainNeutral) (why : Cause) → Refuses sig g h (neutral_with (fst r)) why → inferred puts sig g h (fst r) ≡ refused (eliminations r ∷ []) why
  first-exact r why (first_of_none {t = t} s f) = let x = inferred-as r t s in ap (λ o. and_then o (first_left (eliminations r))) x.1 ∙ first-of-none (eliminations r) t x.0 f

  pub second-exact : (r : PlainNeutral) (why : Cause) → Refuses sig g h (neutral_with (snd r)) why → inferred puts sig g h (snd r) ≡ refused (eliminations r ∷ []) why
  second-exact r why (second_of_none {t = t} s f) = let x = inferred-as r t s in ap (λ o. and_then o (second_left (eliminations r))) x.1 ∙ second-of-none (eliminations r) t x.0 f

  -- an argument starts from what its function leaves
  pub argument-reached : (m : Mode) (r : PlainNeutral) (n : PlainObject) (a d : PlainType) (left : Holding) (path : List ℕ) (why : Cause)
      → MaySynthesize sig g h r (function m a d) → Leaves g h (λ p. Synthesizes sig g p r (function m a d)) left
      → (Starts sig g left → SimplyFormed (families_of sig) (simple_of sig g) a → checked puts sig g (allowed m (modes g) left) n a ≡ refused path why)
      → inferred puts sig g h (app m r n) ≡ refused (eliminations r ∷ path) why
  argument-reached m r n a d left path why u s v =
      let x = inferred-as r (function m a d) u in
      let same = leaves-one g h (λ p. Synthesizes sig g p r (function m a d)) x.0.0 left (row-leaves g h x.0 (λ p. Synthesizes sig g p r (function m a d)) x.2.0) s in
      let from = subst (λ z. Starts sig g z) same (starts-part sig g h x.0.0 w x.2.0.0) in
      ap (λ o. and_then o (λ f. argument_left puts m g n (eliminations r) f (λ row a. checked puts sig g row n a))) x.1
      ∙ cond-true (same_mode m m) (argument_passed m g r (puts.into_type n a d) x.0 (checked puts sig g (allowed m (modes g) x.0.0) n a)) (refused (eliminations r ∷ []) (mode_differs m m)) (mode_complete m)
      ∙ ap (λ z. argument_passed m g r (puts.into_type n a d) x.0 (checked puts sig g (allowed m (modes g) z) n a)) same
      ∙ ap (λ o. argument_passed m g r (puts.into_type n a d) x.0 o) (v from (formed-synthesized sig g h r (function m a d) w u).0)
