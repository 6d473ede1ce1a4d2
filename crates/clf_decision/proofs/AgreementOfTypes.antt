-- The checks of formation agree with the rules: each passes exactly where they hold.
use Rattle.std.proofs.Common.{◌≡◌, ℕ, suc, ◌==◌, Bool, true, false, if◌then◌else◌, List, [], ◌∷◌, length, Option, None, Some, refl, sym, ap, subst, ◌∙◌, arith}
use Rattle.std.proofs.lemmas.Option.{none-some, same_Some}
use Rattle.clf_syntax.specs.declared.tree.Mode.{Mode}
use Rattle.clf_syntax.specs.declared.tree.Mode.TheVariants.{Persistent}
use Rattle.clf_syntax.specs.Tree.{PlainObject}
use Rattle.clf_syntax.specs.TypeTree.{PlainType, family, function, both, top, monad, PlainTelescope, end, binding, PlainKind}
use Rattle.clf_syntax.specs.Simple.{erase, SimplyFormed, SimplyFormedKind, SimplyFormedContext}
use Rattle.use_contexts.specs.Context.{Context, modes}
use Rattle.use_contexts.specs.Holding.{Holding, persistent_alone}
use Rattle.use_contexts.specs.Rows.{Agrees, Leftover}
use Rattle.use_contexts.proofs.ArgumentLaws.{alone_part}
use Rattle.hered_subst.specs.Substitution.{Environment, single, SubstitutedKind, in_no_argument, in_argument}
use Rattle.hered_subst.proofs.Types.{is_determined}
use Rattle.clf_sig.specs.Entry.{PlainSignature, PlainClass, family_of, constant_of, family_kind}
use Rattle.clf_rules.specs.Typing.{HasType}
use Rattle.clf_rules.specs.WellFormed.{WellFormedSignature, IndexRule, IndicesHaveTypes, WellFormedType, WellFormedTelescope, WellFormedKind, WellFormedClass}
use Rattle.clf_rules.specs.Refusal.{family_arity}
use Rattle.clf_rules.proofs.Held.{same_number}
use Rattle.typing_laws.specs.SimpleTyping.{constants_of, simple_of, families_of}
use Rattle.typing_laws.proofs.Erased.{typed_is_simply_typed}
use Rattle.typing_laws.proofs.FormedTypes.{well_formed_is_simply_formed}
use Rattle.clf_decision.specs.Outcome.{Outcome, passed, refused, at_part, and_then, answer_of}
use Rattle.clf_decision.specs.Checking.{Puts, checked}
use Rattle.clf_decision.specs.Formation.{indices_formed, arity_formed, family_formed, parts_formed, type_formed, telescope_formed, kind_formed, class_formed}
use Rattle.clf_decision.specs.Puts.{ArePuts}
use Rattle.clf_decision.proofs.AgreesWith.{ChecksAgree, FormationAgrees}
use Rattle.clf_decision.proofs.EntryRows.{alone-has}
use Rattle.clf_decision.proofs.DecidedOutcomes.{Decided, decided_as, decided_next, decided_part}
use Rattle.clf_decision.proofs.SimpleForms.{put-kind-formed, family-kind-formed}
use Rattle.clf_decision.proofs.Tests.{other-number}
use Rattle.clf_decision.proofs.Marked.{alone-marked}

-- ---- what uses persistent entries alone
pub alone-decided : (ms : List Mode) (o : Outcome Leftover) (P : Holding → Type 0) → Agrees ms (persistent_alone ms) (answer_of o) P → Decided o (P (persistent_alone ms))
alone-decided ms (passed y) P a = alone-has ms y P a
alone-decided ms (refused path cause) P a = a (persistent_alone ms) (alone_part ms)

-- ---- as many indices as arguments
pub put-length : {s : Environment} {k x : PlainKind} → SubstitutedKind s k x → length x ≡ length k
put-length in_no_argument = refl
put-length (in_argument p q) = ap suc (put-length q)

-- The objects are indices for the arguments, as far as there are both.
abbrev pub IndicesFit : PlainSignature → Context → List PlainObject → PlainKind → Type 0
IndicesFit sig g [] k = Unit {0}
IndicesFit sig g (n ∷ ns) [] = Unit {0}
IndicesFit sig g (n ∷ ns) (a ∷ k) = IndexRule sig g n a k (λ l. IndicesFit sig g ns l)

module _ (sig : PlainSignature) (g : Context) where
  fit-types : (ns : List PlainObject) (k : PlainKind) → IndicesFit sig g ns k → length k ≡ length ns → IndicesHaveTypes sig g ns k
  fit-types [] [] y e = tt
  fit-types [] (a ∷ k) y e = absurd (omega arith)
  fit-types (n ∷ ns) [] y e = absurd (omega arith)
  fit-types (n ∷ ns) (a ∷ k) y e = record { after_put = y.after_put; index = y.index; put = y.put; later = fit-types ns y.after_put y.later (put-length y.put ∙ (omega arith)) }

  types-fit : (ns : List PlainObject) (k : PlainKind) → IndicesHaveTypes sig g ns k → IndicesFit sig g ns k × (length k ≡ length ns)
  types-fit [] [] y = (tt, refl)
  types-fit [] (a ∷ k) y = absurd y
  types-fit (n ∷ ns) [] y = absurd y
  types-fit (n ∷ ns) (a ∷ k) y =
      let (fit, e) = types-fit ns y.after_put y.later in
      (record { after_put = y.after_put; index = y.index; put = y.put; later = fit }, ap suc (sym (put-length y.put) ∙ e))

arity-decided : (ns : List PlainObject) (k : PlainKind) → Decided (arity_formed ns k) (length k ≡ length ns)
arity-decided ns k = by (length k == length ns) refl
  where
    by : (b : Bool) → (length k == length ns) ≡ b → Decided {A = Unit {0}} (if b then passed tt else refused [] (family_arity (length k) (length ns))) (length k ≡ length ns)
    by true e = same_number (length k) (length ns) e
    by false e = other-number (length k) (length ns) e

-- ---- families, types, telescopes, kinds and classes
module _ (puts : Puts) (are : ArePuts puts) (sig : PlainSignature) (agree : ChecksAgree puts sig) (well : WellFormedSignature sig) where
  module _ (g : Context) (context : SimplyFormedContext (families_of sig) (constants_of sig) g) where
    pub index-decided : (n : PlainObject) (a : PlainType) → SimplyFormed (families_of sig) (simple_of sig g) a
        → Decided (checked puts sig g (persistent_alone (modes g)) n a) (HasType sig g (persistent_alone (modes g)) n a)
    index-decided n a f =
        alone-decided (modes g) (checked puts sig g (persistent_alone (modes g)) n a) (λ p. HasType sig g p n a)
        (agree.objects n g (persistent_alone (modes g)) a (record { signature = well; context = context; marked = alone-marked (modes g) }) f)

    pub index-put : (n : PlainObject) (a : PlainType) (k : PlainKind) → SimplyFormedKind (families_of sig) (simple_of sig g) (a ∷ k) → HasType sig g (persistent_alone (modes g)) n a
        → SubstitutedKind (single n 0) k (puts.into_kind n a k) × SimplyFormedKind (families_of sig) (simple_of sig g) (puts.into_kind n a k)
    index-put n a k f y =
        let typed = (typed_is_simply_typed true sig g (persistent_alone (modes g))).objects n a y in
        let put = are.kinds (families_of sig) (simple_of sig g) n a k typed f.1 in
        (put, put-kind-formed (families_of sig) (simple_of sig g) n (erase a) typed k (puts.into_kind n a k) f.1 put)

    pub indices-decided : (ns : List PlainObject) (k : PlainKind) (place : ℕ) → SimplyFormedKind (families_of sig) (simple_of sig g) k → Decided (indices_formed puts sig g place ns k) (IndicesFit sig g ns k)
    indices-decided [] k place f = tt
    indices-decided (n ∷ ns) [] place f = tt
    indices-decided (n ∷ ns) (a ∷ k) place f =
        let here = checked puts sig g (persistent_alone (modes g)) n a in
        let rest = indices_formed puts sig g (suc place) ns (puts.into_kind n a k) in
        let typed = HasType sig g (persistent_alone (modes g)) n a in
        let fit = IndicesFit sig g ns (puts.into_kind n a k) in
        decided_as (and_then (at_part place here) (λ x. rest))
        (λ p. record { after_put = puts.into_kind n a k; index = p.0; put = (index-put n a k f p.0).0; later = p.1 })
        (λ y. (y.index, subst (λ l. IndicesFit sig g ns l) ((is_determined (single n 0)).6 k y.after_put (puts.into_kind n a k) y.put (index-put n a k f y.index).0) y.later))
        (decided_next typed fit (at_part place here) rest (decided_part typed place here (index-decided n a f.0)) (λ p. indices-decided ns (puts.into_kind n a k) (suc place) (index-put n a k f p).1))

    family-decided : (f : ℕ) (ns : List PlainObject) (o : Option PlainKind) → family_kind sig f ≡ o → Decided (family_formed puts sig g f ns o) (WellFormedType sig g (family f ns))
    family-decided f ns None e = λ y. none-some y.0 (sym e ∙ y.1)
    family-decided f ns (Some k) e =
        decided_as (and_then (indices_formed puts sig g 0 ns k) (λ x. arity_formed ns k))
        (λ p. (k, e, fit-types sig g ns k p.0 p.1))
        (λ y. types-fit sig g ns k (subst (λ l. IndicesHaveTypes sig g ns l) (same_Some y.0 k (sym y.1 ∙ e)) y.2))
        (decided_next (IndicesFit sig g ns k) (length k ≡ length ns) (indices_formed puts sig g 0 ns k) (arity_formed ns k)
        (indices-decided ns k 0 (family-kind-formed sig well g f k e)) (λ p. arity-decided ns k))

  pub under : (m : Mode) (a : PlainType) (g : Context) → SimplyFormedContext (families_of sig) (constants_of sig) g → WellFormedType sig g a → SimplyFormedContext (families_of sig) (constants_of sig) ((m, a) ∷ g)
  under m a g c p = ((well_formed_is_simply_formed sig g).types true a p, c)

  parts-decided : (P Q : Type 0) (a b : Outcome (Unit {0})) → Decided a P → (P → Decided b Q) → Decided (parts_formed a b) (P × Q)
  parts-decided P Q a b p q = decided_next P Q (at_part 0 a) (at_part 1 b) (decided_part P 0 a p) (λ x. decided_part Q 1 b (q x))

  mutual
    type-decided : (a : PlainType) (g : Context) → SimplyFormedContext (families_of sig) (constants_of sig) g → Decided (type_formed puts sig g a) (WellFormedType sig g a)
    type-decided (family f ns) g c = family-decided g c f ns (family_kind sig f) refl
    type-decided (function m a b) g c =
        parts-decided (WellFormedType sig g a) (WellFormedType sig ((m, a) ∷ g) b) (type_formed puts sig g a) (type_formed puts sig ((m, a) ∷ g) b) (type-decided a g c)
        (λ p. type-decided b ((m, a) ∷ g) (under m a g c p))
    type-decided (both a b) g c =
        parts-decided (WellFormedType sig g a) (WellFormedType sig g b) (type_formed puts sig g a) (type_formed puts sig g b) (type-decided a g c) (λ p. type-decided b g c)
    type-decided top g c = tt
    type-decided (monad s) g c = telescope-decided s g 0 c

    telescope-decided : (s : PlainTelescope) (g : Context) (place : ℕ) → SimplyFormedContext (families_of sig) (constants_of sig) g → Decided (telescope_formed puts sig g place s) (WellFormedTelescope sig g s)
    telescope-decided end g place c = tt
    telescope-decided (binding m a s) g place c =
        decided_next (WellFormedType sig g a) (WellFormedTelescope sig ((m, a) ∷ g) s) (at_part place (type_formed puts sig g a)) (telescope_formed puts sig ((m, a) ∷ g) (suc place) s)
        (decided_part (WellFormedType sig g a) place (type_formed puts sig g a) (type-decided a g c)) (λ p. telescope-decided s ((m, a) ∷ g) (suc place) (under m a g c p))

  kind-decided : (k : PlainKind) (g : Context) (place : ℕ) → SimplyFormedContext (families_of sig) (constants_of sig) g → Decided (kind_formed puts sig g place k) (WellFormedKind sig g k)
  kind-decided [] g place c = tt
  kind-decided (a ∷ k) g place c =
      decided_next (WellFormedType sig g a) (WellFormedKind sig ((Persistent, a) ∷ g) k) (at_part place (type_formed puts sig g a)) (kind_formed puts sig ((Persistent, a) ∷ g) (suc place) k)
      (decided_part (WellFormedType sig g a) place (type_formed puts sig g a) (type-decided a g c)) (λ p. kind-decided k ((Persistent, a) ∷ g) (suc place) (under Persistent a g c p))

  class-decided : (c : PlainClass) → Decided (class_formed puts sig c) (WellFormedClass sig c)
  class-decided (family_of k) = kind-decided k [] 0 tt
  class-decided (constant_of a) = type-decided a [] tt

  pub formation_agrees : FormationAgrees puts sig
  formation_agrees = record { types = type-decided; telescopes = telescope-decided; kinds = kind-decided; classes = class-decided }
