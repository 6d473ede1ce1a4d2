-- The check of atomic objects agrees with the rules, where that of their neutrals does.
use Rattle.std.proofs.Common.{◌≡◌, ℕ, ◌==◌, Bool, true, false, if◌then◌else◌, List, [], ◌∷◌, length, Option, None, Some, refl, sym, subst, ◌∙◌, arith}
use Rattle.clf_syntax.specs.Tree.{PlainObject}
use Rattle.clf_syntax.specs.TypeTree.{PlainType, family, function, both, top, monad}
use Rattle.use_contexts.specs.Context.{Context, modes}
use Rattle.use_contexts.specs.Holding.{Holding}
use Rattle.use_contexts.specs.Rows.{IsSubholding, Agrees, Leftover}
use Rattle.use_contexts.proofs.RowLaws.{agrees-same}
use Rattle.trace_equal.specs.Exchange.{Joined, JoinedEach}
use Rattle.trace_equal.specs.Search.{is_joined}
use Rattle.trace_equal.proofs.FirstMatching.{same_is_joined}
use Rattle.clf_rules.specs.Typing.{AtomicRule}
use Rattle.clf_rules.specs.Refusal.{family_differs}
use Rattle.clf_rules.proofs.Held.{same_number}
use Rattle.clf_decision.specs.Outcome.{Outcome, passed, refused, and_then, answer_of}
use Rattle.clf_decision.specs.Checking.{first_unjoined, indices_left, found_left, atomic_left}
use Rattle.clf_decision.proofs.AgreesWith.{AgreesWithType}
use Rattle.clf_decision.proofs.Tests.{other-number}

-- ---- indices
-- Without a place that is not joined a statement holds, and with one it does not.
abbrev Tells : Option (PlainObject × PlainObject) → Type 0 → Type 0
Tells None P = P
Tells (Some d) P = P → ⊥

unjoined-tells : (os ns : List PlainObject) → length os ≡ length ns → Tells (first_unjoined os ns) (JoinedEach os ns)
unjoined-tells [] [] e = tt
unjoined-tells [] (n ∷ ns) e = absurd (omega arith)
unjoined-tells (o ∷ os) [] e = absurd (omega arith)
unjoined-tells (o ∷ os) (n ∷ ns) e = by (is_joined o n) refl (first_unjoined os ns) (unjoined-tells os ns (omega arith))
  where
    by : (b : Bool) → is_joined o n ≡ b → (r : Option (PlainObject × PlainObject)) → Tells r (JoinedEach os ns) → Tells (if b then r else Some (o, n)) (Joined o n × JoinedEach os ns)
    by true j None p = ((same_is_joined o n).0 j, p)
    by true j (Some d) p = λ q. p q.1
    by false j r p = λ q. let t = (same_is_joined o n).1 q.0 in absurd (cc)

-- ---- atomic objects
-- the rule of an atomic object, of any property of its neutral
abbrev AtomicHas : (Holding → PlainType → Type 0) → PlainType → Holding → Type 0
AtomicHas P t p = AtomicRule t (λ a. P p a)

family-number : {f i : ℕ} {ns os : List PlainObject} → family f ns ≡ family i os → f ≡ i
family-number e = cc

family-indices : {f i : ℕ} {ns os : List PlainObject} → family f ns ≡ family i os → ns ≡ os
family-indices e = cc

module _ (g : Context) (h : Holding) (P : Holding → PlainType → Type 0) where
  indices-agree : (wanted : ℕ) (ns : List PlainObject) (found : ℕ) (os : List PlainObject) (a : Leftover) → wanted ≡ found → (o : Option (PlainObject × PlainObject)) → Tells o (JoinedEach os ns)
      → Agrees (modes g) h (Some a) (λ p. P p (family found os)) → ((p : Holding) (c : PlainType) → P p c → c ≡ family found os)
      → Agrees (modes g) h (answer_of (indices_left g o a)) (AtomicHas P (family wanted ns))
  indices-agree wanted ns found os a e None j x one =
      agrees-same (modes g) h (Some a) (λ p. P p (family found os)) (AtomicHas P (family wanted ns))
      (λ p y. record { number = wanted; wanted = ns; found = os; type = refl; neutral = subst (λ i. P p (family i os)) (sym e) y; indices = j })
      (λ p y. subst (P p) (one p (family y.number y.found) y.neutral) y.neutral) x
  indices-agree wanted ns found os a e (Some d) j x one = λ p w y.
      j (subst (λ l. JoinedEach l ns) (family-indices (one p (family y.number y.found) y.neutral)) (subst (λ l. JoinedEach y.found l) (sym (family-indices y.type)) y.indices))

  same-family-agrees : (wanted : ℕ) (ns : List PlainObject) (found : ℕ) (os : List PlainObject) (b : Bool) → (wanted == found) ≡ b → (a : Leftover) → (wanted ≡ found → length os ≡ length ns)
      → Agrees (modes g) h (Some a) (λ p. P p (family found os)) → ((p : Holding) (c : PlainType) → P p c → c ≡ family found os)
      → Agrees (modes g) h (answer_of (if b then indices_left g (first_unjoined os ns) a else refused [] (family_differs found wanted))) (AtomicHas P (family wanted ns))
  same-family-agrees wanted ns found os true e a l x one =
      let q = same_number wanted found e in
      indices-agree wanted ns found os a q (first_unjoined os ns) (unjoined-tells os ns (l q)) x one
  same-family-agrees wanted ns found os false e a l x one = λ p w y.
      other-number wanted found e (family-number y.type ∙ family-number (one p (family y.number y.found) y.neutral))

  no-atomic : (t : PlainType) → ((p : Holding) (f : ℕ) (os : List PlainObject) → IsSubholding (modes g) h p → P p (family f os) → ⊥) → Agrees (modes g) h None (AtomicHas P t)
  no-atomic t n = λ p w y. n p y.number y.found w y.neutral

  no-place : (t : PlainType) → ((f : ℕ) (ns : List PlainObject) → t ≡ family f ns → ⊥) → Agrees (modes g) h None (AtomicHas P t)
  no-place t n = λ p w y. n y.number y.wanted y.type

  found-agrees : (wanted : ℕ) (ns : List PlainObject) (t : PlainType) (a : Leftover) → ((os : List PlainObject) → t ≡ family wanted os → length os ≡ length ns)
      → AgreesWithType g h (passed (t, a)) P → Agrees (modes g) h (answer_of (found_left g wanted ns t a)) (AtomicHas P (family wanted ns))
  found-agrees wanted ns (family found os) a l x = same-family-agrees wanted ns found os (wanted == found) refl a (λ e. l os (subst (λ i. family found os ≡ family i os) (sym e) refl)) x.0 x.1
  found-agrees wanted ns (function m d c) a l x = no-atomic (family wanted ns) (λ p f os w y. let e = x.1 p (family f os) y in absurd (cc))
  found-agrees wanted ns (both d c) a l x = no-atomic (family wanted ns) (λ p f os w y. let e = x.1 p (family f os) y in absurd (cc))
  found-agrees wanted ns top a l x = no-atomic (family wanted ns) (λ p f os w y. let e = x.1 p (family f os) y in absurd (cc))
  found-agrees wanted ns (monad s) a l x = no-atomic (family wanted ns) (λ p f os w y. let e = x.1 p (family f os) y in absurd (cc))

  -- Types of one family have as many indices.
  pub atomic-agrees : (t : PlainType) (r : Outcome (PlainType × Leftover))
      → ((f : ℕ) (ns os : List PlainObject) (a : Leftover) → t ≡ family f ns → r ≡ passed (family f os, a) → length os ≡ length ns)
      → AgreesWithType g h r P → Agrees (modes g) h (answer_of (and_then r (atomic_left g t))) (AtomicHas P t)
  atomic-agrees t (refused path cause) l x = no-atomic t (λ p f os w y. x p (family f os) w y)
  atomic-agrees (family wanted ns) (passed f) l x = found-agrees wanted ns f.0 f.1 (λ os e. l wanted ns os f.1 refl (subst (λ t. passed f ≡ passed (t, f.1)) e refl)) x
  atomic-agrees (function m a c) (passed f) l x = no-place (function m a c) (λ i ns q. absurd (cc))
  atomic-agrees (both a c) (passed f) l x = no-place (both a c) (λ i ns q. absurd (cc))
  atomic-agrees top (passed f) l x = no-place top (λ i ns q. absurd (cc))
  atomic-agrees (monad s) (passed f) l x = no-place (monad s) (λ i ns q. absurd (cc))
