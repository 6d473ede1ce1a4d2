-- The check agrees with the rules.
use Rattle.std.proofs.Common.{◌≡◌, ℕ, suc, true, List, [], ◌∷◌, length, refl, sym, ap, subst, ◌∙◌}
use Rattle.std.proofs.lemmas.Option.{same_Some}
use Rattle.clf_syntax.specs.declared.tree.Mode.{Mode}
use Rattle.clf_syntax.specs.Tree.{PlainObject, lam, pair, unit, monadic, atomic, hole, PlainNeutral, head_alone, app, fst, snd, PlainExpression, step, done, PlainTuple, empty, entry}
use Rattle.clf_syntax.specs.TypeTree.{PlainType, family, function, monad, PlainTelescope, SimpleType}
use Rattle.clf_syntax.specs.Renaming.{ren_telescope, up}
use Rattle.clf_syntax.specs.Simple.{Assignment, erase, SimplyTyped, SimplyTypedEach, SimplyFormed, SimplyFormedTelescope}
use Rattle.use_contexts.specs.Context.{Context, modes, with_entries}
use Rattle.use_contexts.specs.Holding.{Holding, allowed, all_held}
use Rattle.use_contexts.specs.Rows.{Agrees, Leftover, outside}
use Rattle.clf_sig.specs.Entry.{PlainSignature}
use Rattle.clf_rules.specs.Typing.{HasType, Synthesizes, ExpressionHasType, TupleHasType}
use Rattle.clf_rules.specs.Refusal.{eliminations}
use Rattle.typing_laws.specs.SimpleTyping.{simple_of, families_of}
use Rattle.typing_laws.proofs.Erased.{typed_is_simply_typed}
use Rattle.clf_rules.proofs.UsedParts.{some-part}
use Rattle.clf_decision.specs.Outcome.{Outcome, passed, answer_of}
use Rattle.clf_decision.specs.Checking.{Puts, checked, inferred, checked_expression, checked_tuple}
use Rattle.clf_decision.specs.Puts.{ArePuts}
use Rattle.clf_decision.specs.Starts.{Starts}
use Rattle.clf_decision.proofs.AgreesWith.{AgreesWithType, ChecksAgree}
use Rattle.clf_decision.proofs.Starting.{starts-under, starts-from, starts-part, starts-allowed, starts-entered, formed-entered, telescope-put, formed-synthesized}
use Rattle.clf_decision.proofs.AgreementOfObjects.{lambda-agrees, pair-left-agrees, unit-left-agrees}
use Rattle.clf_decision.proofs.AgreementOfAtoms.{atomic-agrees}
use Rattle.clf_decision.proofs.AgreementOfNeutrals.{head-agrees, application-agrees, first-agrees, second-agrees}
use Rattle.clf_decision.proofs.AgreementOfMonads.{monadic-left-agrees, step-agrees, end-agrees, entry-left-agrees}
use Rattle.clf_decision.proofs.Marked.{outside-marked}

-- ---- types of one family
as_many : (z : Assignment) (ns : List PlainObject) (ts : List SimpleType) → SimplyTypedEach z ns ts → length ns ≡ length ts
as_many z [] [] p = refl
as_many z [] (t ∷ ts) p = absurd p
as_many z (n ∷ ns) [] p = absurd p
as_many z (n ∷ ns) (t ∷ ts) p = ap suc (as_many z ns ts p.1)

same_length : (sig : PlainSignature) (g : Context) (f : ℕ) (os ns : List PlainObject) → SimplyFormed (families_of sig) (simple_of sig g) (family f os) → SimplyFormed (families_of sig) (simple_of sig g) (family f ns)
    → length os ≡ length ns
same_length sig g f os ns p q = as_many (simple_of sig g) os p.0 p.2 ∙ ap length (same_Some p.0 q.0 (sym p.1 ∙ q.1)) ∙ sym (as_many (simple_of sig g) ns q.0 q.2)

-- ---- what is found of a neutral
module _ (sig : PlainSignature) (g : Context) (h : Holding) (s : Starts sig g h) (r : PlainNeutral) (o : Outcome (PlainType × Leftover)) (u : AgreesWithType g h o (λ p a. Synthesizes sig g p r a)) where
  pub found-formed : (f : PlainType) (x : Leftover) → o ≡ passed (f, x) → SimplyFormed (families_of sig) (simple_of sig g) f
  found-formed f x e =
      let found = subst (λ (y : Outcome (PlainType × Leftover)). AgreesWithType g h y (λ p a. Synthesizes sig g p r a)) e u in
      formed-synthesized sig g h r f s (some-part (modes g) h x (λ p. Synthesizes sig g p r f) found.0)

  pub found-starts : (f : PlainType) (x : Leftover) → o ≡ passed (f, x) → Starts sig g x.0
  found-starts f x e =
      let found = subst (λ (y : Outcome (PlainType × Leftover)). AgreesWithType g h y (λ p a. Synthesizes sig g p r a)) e u in
      starts-part sig g h x.0 s found.0.0

-- ---- all objects and neutrals
module _ (puts : Puts) (are : ArePuts puts) (sig : PlainSignature) where
  simply : (g : Context) (p : Holding) (n : PlainObject) (a : PlainType) → HasType sig g p n a → SimplyTyped (simple_of sig g) n (erase a)
  simply g p n a y = (typed_is_simply_typed true sig g p).objects n a y

  mutual
    object-agrees : (n : PlainObject) (g : Context) (h : Holding) (t : PlainType) → Starts sig g h → SimplyFormed (families_of sig) (simple_of sig g) t
        → Agrees (modes g) h (answer_of (checked puts sig g h n t)) (λ p. HasType sig g p n t)
    object-agrees (lam m b) g h t s f =
        lambda-agrees m g h t (λ a c. checked puts sig ((m, a) ∷ g) (true ∷ h) b c) (λ a c p. HasType sig ((m, a) ∷ g) p b c)
        (λ a c e.
        let q = subst (λ y. SimplyFormed (families_of sig) (simple_of sig g) y) e f in
        object-agrees b ((m, a) ∷ g) (true ∷ h) c (starts-under sig g h m a s q.0) q.1)
    object-agrees (pair l r) g h t s f =
        pair-left-agrees g h t (λ a. checked puts sig g h l a) (λ c. checked puts sig g h r c) (λ a p. HasType sig g p l a) (λ c p. HasType sig g p r c)
        (λ a c e. let q = subst (λ y. SimplyFormed (families_of sig) (simple_of sig g) y) e f in (object-agrees l g h a s q.0, object-agrees r g h c s q.1))
    object-agrees unit g h t s f = unit-left-agrees g h t s.marked
    object-agrees (monadic x) g h t s f =
        monadic-left-agrees g h t (λ u. checked_expression puts sig g h 0 x u) (λ u p. ExpressionHasType sig g p x u)
        (λ u e. expression-agrees x g h 0 u s (subst (λ y. SimplyFormed (families_of sig) (simple_of sig g) y) e f))
    object-agrees (atomic r) g h t s f =
        let u = neutral-agrees r g h s in
        atomic-agrees g h (λ p a. Synthesizes sig g p r a) t (inferred puts sig g h r)
        (λ i ns os a e q. same_length sig g i os ns (found-formed sig g h s r (inferred puts sig g h r) u (family i os) a q) (subst (λ y. SimplyFormed (families_of sig) (simple_of sig g) y) e f)) u
    object-agrees hole g h t s f = λ p u y. y

    neutral-agrees : (r : PlainNeutral) (g : Context) (h : Holding) → Starts sig g h → AgreesWithType g h (inferred puts sig g h r) (λ p a. Synthesizes sig g p r a)
    neutral-agrees (head_alone x) g h s = head-agrees sig g h s.marked x
    neutral-agrees (app m r o) g h s =
        let u = neutral-agrees r g h s in
        application-agrees m g h (eliminations r) o (λ p a. Synthesizes sig g p r a) (λ a p. HasType sig g p o a) puts (inferred puts sig g h r) (λ row a. checked puts sig g row o a) u
        (λ k a c x e.
        object-agrees o g (allowed m (modes g) x.0) a
        (starts-allowed sig g x.0 m (found-starts sig g h s r (inferred puts sig g h r) u (function k a c) x e))
        (found-formed sig g h s r (inferred puts sig g h r) u (function k a c) x e).0)
        (λ k a c x e p y. are.types (families_of sig) (simple_of sig g) o a c (simply g p o a y) (found-formed sig g h s r (inferred puts sig g h r) u (function k a c) x e).1)
    neutral-agrees (fst r) g h s = first-agrees g h (eliminations r) (inferred puts sig g h r) (λ p a. Synthesizes sig g p r a) (neutral-agrees r g h s)
    neutral-agrees (snd r) g h s = second-agrees g h (eliminations r) (inferred puts sig g h r) (λ p a. Synthesizes sig g p r a) (neutral-agrees r g h s)

    expression-agrees : (e : PlainExpression) (g : Context) (h : Holding) (place : ℕ) (t : PlainTelescope) → Starts sig g h → SimplyFormedTelescope (families_of sig) (simple_of sig g) t
        → Agrees (modes g) h (answer_of (checked_expression puts sig g h place e t)) (λ p. ExpressionHasType sig g p e t)
    expression-agrees (step ms r e) g h place t s f =
        let u = neutral-agrees r g h s in
        step-agrees place ms g h (λ p a. Synthesizes sig g p r a) (λ v p. ExpressionHasType sig (with_entries v g) p e (ren_telescope (up (length ms)) t)) (inferred puts sig g h r)
        (λ v row. checked_expression puts sig (with_entries v g) row (suc place) e (ren_telescope (up (length ms)) t)) u
        (λ v x q same.
        expression-agrees e (with_entries v g) (all_held ms x.0) (suc place) (ren_telescope (up (length ms)) t)
        (subst (λ (ns : List Mode). Starts sig (with_entries v g) (all_held ns x.0)) same
        (starts-entered sig v g x.0 (found-starts sig g h s r (inferred puts sig g h r) u (monad v) x q) (found-formed sig g h s r (inferred puts sig g h r) u (monad v) x q)))
        (formed-entered sig v g ms t same f))
    expression-agrees (done t) g h place u s f = tuple-agrees t g h place 0 u s f

    tuple-agrees : (t : PlainTuple) (g : Context) (h : Holding) (steps before : ℕ) (u : PlainTelescope) → Starts sig g h → SimplyFormedTelescope (families_of sig) (simple_of sig g) u
        → Agrees (modes g) h (answer_of (checked_tuple puts sig g h steps before t u)) (λ p. TupleHasType sig g p t u)
    tuple-agrees empty g h steps before u s f = end-agrees before g h u s.marked
    tuple-agrees (entry m n t) g h steps before u s f =
        let row = allowed m (modes g) h in
        let start = starts-allowed sig g h m s in
        entry-left-agrees puts steps before m g h s.marked n t u (λ l a. checked puts sig g l n a) (λ l v. checked_tuple puts sig g l steps (suc before) t v)
        (λ a p. HasType sig g p n a) (λ v p. TupleHasType sig g p t v)
        (λ k a v e p y. are.telescopes (families_of sig) (simple_of sig g) n a v (simply g p n a y) (subst (λ z. SimplyFormedTelescope (families_of sig) (simple_of sig g) z) e f).1)
        (λ k a v e. object-agrees n g row a start (subst (λ z. SimplyFormedTelescope (families_of sig) (simple_of sig g) z) e f).0)
        (λ k a v e y q.
        let whole = subst (λ z. SimplyFormedTelescope (families_of sig) (simple_of sig g) z) e f in
        let found = subst (λ (o : Outcome Leftover). Agrees (modes g) row (answer_of o) (λ p. HasType sig g p n a)) q (object-agrees n g row a start whole.0) in
        let put = telescope-put puts are sig g row n a v (some-part (modes g) row y (λ p. HasType sig g p n a) found) whole.1 in
        tuple-agrees t g (outside m (modes g) h y.0) steps (suc before) (puts.into_telescope n a v)
        (starts-from sig g h (outside m (modes g) h y.0) s (outside-marked m g h s.marked y (λ p. HasType sig g p n a) found)) put.1)

  pub checks_agree : ChecksAgree puts sig
  checks_agree = record { objects = object-agrees; neutrals = neutral-agrees; expressions = expression-agrees; tuples = tuple-agrees }
