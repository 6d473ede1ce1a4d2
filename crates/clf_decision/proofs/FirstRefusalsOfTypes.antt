-- A part of a type, a telescope, a kind or a class that is refused for a cause is the check's refusal: it is the first.
use Rattle.std.proofs.Common.{◌≡◌, ℕ, suc, ◌==◌, List, [], ◌∷◌, length, take, Some, refl, sym, ap, subst, ◌∙◌, ◌↔◌}
use Rattle.std.proofs.lemmas.Bool.{cond-false}
use Rattle.clf_syntax.specs.declared.tree.Mode.TheVariants.{Persistent}
use Rattle.clf_syntax.specs.Tree.{PlainObject}
use Rattle.clf_syntax.specs.TypeTree.{PlainType, family, PlainTelescope, PlainKind}
use Rattle.clf_syntax.specs.Simple.{SimplyFormed, SimplyFormedKind, SimplyFormedContext}
use Rattle.use_contexts.specs.Context.{Context, modes}
use Rattle.use_contexts.specs.Holding.{Holding, persistent_alone}
use Rattle.hered_subst.proofs.Types.{determined_kind}
use Rattle.clf_sig.specs.Entry.{PlainSignature, PlainClass, family_of, constant_of, family_kind}
use Rattle.clf_rules.specs.Typing.{HasType}
use Rattle.clf_rules.specs.WellFormed.{WellFormedSignature, IndicesHaveTypes, WellFormedType}
use Rattle.clf_rules.specs.Refusal.{Cause, family_arity}
use Rattle.clf_rules.specs.Explained.{CheckedPart, type_at, ReachesInIndices, in_index, in_later_index, ReachesInType, whole_type, in_indices, in_domain, in_range, in_first_type, in_second_type, in_monad, ReachesInTelescope, in_entry_type, in_later_types, ReachesInKind, in_kind_argument, in_later_argument, Refuses, no_family, other_arity, ExplainedInType, ExplainedInKind, ExplainedInClass}
use Rattle.typing_laws.specs.SimpleTyping.{constants_of, simple_of, families_of}
use Rattle.clf_decision.specs.Outcome.{Outcome, passed, refused, at_part, and_then}
use Rattle.clf_decision.specs.Checking.{Puts, checked}
use Rattle.clf_decision.specs.Formation.{indices_formed, arity_formed, family_formed, parts_formed, type_formed, telescope_formed, kind_formed, class_formed}
use Rattle.clf_decision.specs.Puts.{ArePuts}
use Rattle.clf_decision.specs.Starts.{Starts}
use Rattle.clf_decision.proofs.AgreesWith.{ChecksAgree}
use Rattle.clf_decision.proofs.DecidedOutcomes.{Decided}
use Rattle.clf_decision.proofs.SimpleForms.{family-kind-formed}
use Rattle.clf_decision.proofs.AgreementOfTypes.{put-length, index-decided, index-put, under, formation_agrees}
use Rattle.clf_decision.proofs.FittingIndices.{put-take}
use Rattle.clf_decision.proofs.FirstRefusals.{refuses_exactly}
use Rattle.clf_decision.proofs.ExplanationsOfTypes.{explained-type, explained-kind, explained-class}
use Rattle.clf_decision.proofs.Marked.{alone-marked}
use Rattle.clf_decision.proofs.Tests.{numbers-differ}

-- what is decided and holds has passed
decided-passes : {A : Type 0} (o : Outcome A) (P : Type 0) → Decided o P → P → (x : A) × (o ≡ passed x)
decided-passes (passed x) P d p = (x, refl)
decided-passes (refused path why) P d p = absurd (d p)

formed-passes : (o : Outcome (Unit {0})) (P : Type 0) → Decided o P → P → o ≡ passed tt
formed-passes (passed x) P d p = refl
formed-passes (refused path why) P d p = absurd (d p)

module _ (puts : Puts) (are : ArePuts puts) (sig : PlainSignature) (agree : ChecksAgree puts sig) (well : WellFormedSignature sig) where
  -- ---- indices
  module _ (g : Context) (context : SimplyFormedContext (families_of sig) (constants_of sig) g) where
    index-start : Starts sig g (persistent_alone (modes g))
    index-start = record { signature = well; context = context; marked = alone-marked (modes g) }

    -- an index that has its type passes, and what is put for its argument is the substitution's
    index-passes : (n : PlainObject) (ns : List PlainObject) (a : PlainType) (k : PlainKind) (place : ℕ) → SimplyFormed (families_of sig) (simple_of sig g) a → HasType sig g (persistent_alone (modes g)) n a
        → indices_formed puts sig g place (n ∷ ns) (a ∷ k) ≡ indices_formed puts sig g (suc place) ns (puts.into_kind n a k)
    index-passes n ns a k place f t =
        let x = decided-passes (checked puts sig g (persistent_alone (modes g)) n a) (HasType sig g (persistent_alone (modes g)) n a) (index-decided puts are sig agree well g context n a f) t in
        ap (λ o. and_then (at_part place o) (λ z. indices_formed puts sig g (suc place) ns (puts.into_kind n a k))) x.1

    -- as far as there are both, indices that have their types pass
    indices-pass : (ns : List PlainObject) (k : PlainKind) (place : ℕ) → SimplyFormedKind (families_of sig) (simple_of sig g) k → IndicesHaveTypes sig g (take (length k) ns) (take (length ns) k)
        → indices_formed puts sig g place ns k ≡ passed tt
    indices-pass [] k place f y = refl
    indices-pass (n ∷ ns) [] place f y = refl
    indices-pass (n ∷ ns) (a ∷ k) place f y =
        let p = index-put puts are sig agree well g context n a k f y.index in
        let x = puts.into_kind n a k in
        let same : y.after_put ≡ take (length ns) x = determined_kind y.put (put-take (length ns) p.0) in
        let later = subst (λ j. IndicesHaveTypes sig g (take j ns) (take (length ns) x)) (sym (put-length p.0)) (subst (λ l. IndicesHaveTypes sig g (take (length k) ns) l) same y.later) in
        index-passes n ns a k place f.0 y.index ∙ indices-pass ns x (suc place) p.1 later

    indices-exact : (ns : List PlainObject) (k : PlainKind) (place : ℕ) (path : List ℕ) (j : Context) (l : Holding) (x : CheckedPart) (why : Cause)
        → ReachesInIndices sig g ns k place path j l x → Refuses sig j l x why → SimplyFormedKind (families_of sig) (simple_of sig g) k → indices_formed puts sig g place ns k ≡ refused path why
    indices-exact ns k place path j l x why (in_index {n = n} {ns = ms} {a = a} {as' = bs} {path = q} v) u f =
        ap (λ o. and_then (at_part place o) (λ z. indices_formed puts sig g (suc place) ms (puts.into_kind n a bs)))
        ((refuses_exactly puts are sig agree g (persistent_alone (modes g)) n a q why index-start f.0).1 (j, l, x, v, u))
    indices-exact ns k place path j l x why (in_later_index {n = n} {ns = ms} {a = a} {as' = bs} {bs = cs} t p v) u f =
        let q = index-put puts are sig agree well g context n a bs f t in
        let same : puts.into_kind n a bs ≡ cs = determined_kind q.0 p in
        index-passes n ms a bs place f.0 t
        ∙ ap (λ z. indices_formed puts sig g (suc place) ms z) same
        ∙ indices-exact ms cs (suc place) path j l x why v u (subst (λ z. SimplyFormedKind (families_of sig) (simple_of sig g) z) same q.1)

    -- ---- families
    family-as : (f : ℕ) (ns : List PlainObject) (k : PlainKind) → family_kind sig f ≡ Some k → type_formed puts sig g (family f ns) ≡ and_then (indices_formed puts sig g 0 ns k) (λ x. arity_formed ns k)
    family-as f ns k q = ap (family_formed puts sig g f ns) q

    whole-exact : (a : PlainType) (why : Cause) → Refuses sig g (persistent_alone (modes g)) (type_at a) why → type_formed puts sig g a ≡ refused [] why
    whole-exact a why (no_family {f = f} {ns = ns} q) = ap (family_formed puts sig g f ns) q
    whole-exact a why (other_arity {f = f} {ns = ns} {as' = k} q n y) =
        family-as f ns k q
        ∙ ap (λ o. and_then o (λ x. arity_formed ns k)) (indices-pass ns k 0 (family-kind-formed sig well g f k q) y)
        ∙ cond-false (length k == length ns) (passed tt) (refused [] (family_arity (length k) (length ns))) (numbers-differ (length k) (length ns) n)

    family-exact : (f : ℕ) (ns : List PlainObject) (k : PlainKind) (path : List ℕ) (j : Context) (l : Holding) (x : CheckedPart) (why : Cause)
        → family_kind sig f ≡ Some k → ReachesInIndices sig g ns k 0 path j l x → Refuses sig j l x why → type_formed puts sig g (family f ns) ≡ refused path why
    family-exact f ns k path j l x why q v u =
        family-as f ns k q ∙ ap (λ o. and_then o (λ x. arity_formed ns k)) (indices-exact ns k 0 path j l x why v u (family-kind-formed sig well g f k q))

    formed : (a : PlainType) → WellFormedType sig g a → type_formed puts sig g a ≡ passed tt
    formed a w = formed-passes (type_formed puts sig g a) (WellFormedType sig g a) ((formation_agrees puts are sig agree well).types a g context) w

  -- ---- types, telescopes, kinds and classes
  mutual
    type-exact : (g : Context) (a : PlainType) (path : List ℕ) (k : Context) (l : Holding) (x : CheckedPart) (why : Cause)
        → ReachesInType sig g a path k l x → Refuses sig k l x why → SimplyFormedContext (families_of sig) (constants_of sig) g → type_formed puts sig g a ≡ refused path why
    type-exact g a path k l x why whole_type u c = whole-exact g c a why u
    type-exact g a path k l x why (in_indices {f = f} {ns = ns} {as' = as'} q v) u c = family-exact g c f ns as' path k l x why q v u
    type-exact g a path k l x why (in_domain {m = m} {a = d} {b = b} {path = p} v) u c = ap (λ o. parts_formed o (type_formed puts sig ((m, d) ∷ g) b)) (type-exact g d p k l x why v u c)
    type-exact g a path k l x why (in_range {m = m} {a = d} {b = b} {path = p} w v) u c =
        ap (λ o. parts_formed o (type_formed puts sig ((m, d) ∷ g) b)) (formed g c d w)
        ∙ ap (λ o. at_part 1 o) (type-exact ((m, d) ∷ g) b p k l x why v u (under puts are sig agree well m d g c w))
    type-exact g a path k l x why (in_first_type {a = d} {b = b} {path = p} v) u c = ap (λ o. parts_formed o (type_formed puts sig g b)) (type-exact g d p k l x why v u c)
    type-exact g a path k l x why (in_second_type {a = d} {b = b} {path = p} w v) u c =
        ap (λ o. parts_formed o (type_formed puts sig g b)) (formed g c d w) ∙ ap (λ o. at_part 1 o) (type-exact g b p k l x why v u c)
    type-exact g a path k l x why (in_monad {s = s} v) u c = telescope-exact g s 0 path k l x why v u c

    telescope-exact : (g : Context) (s : PlainTelescope) (place : ℕ) (path : List ℕ) (k : Context) (l : Holding) (x : CheckedPart) (why : Cause)
        → ReachesInTelescope sig g s place path k l x → Refuses sig k l x why → SimplyFormedContext (families_of sig) (constants_of sig) g → telescope_formed puts sig g place s ≡ refused path why
    telescope-exact g t place path k l x why (in_entry_type {m = m} {a = a} {s = s} {path = p} v) u c =
        ap (λ o. and_then (at_part place o) (λ z. telescope_formed puts sig ((m, a) ∷ g) (suc place) s)) (type-exact g a p k l x why v u c)
    telescope-exact g t place path k l x why (in_later_types {m = m} {a = a} {s = s} w v) u c =
        ap (λ o. and_then (at_part place o) (λ z. telescope_formed puts sig ((m, a) ∷ g) (suc place) s)) (formed g c a w)
        ∙ telescope-exact ((m, a) ∷ g) s (suc place) path k l x why v u (under puts are sig agree well m a g c w)

  kind-exact : (g : Context) (k : PlainKind) (place : ℕ) (path : List ℕ) (j : Context) (l : Holding) (x : CheckedPart) (why : Cause)
      → ReachesInKind sig g k place path j l x → Refuses sig j l x why → SimplyFormedContext (families_of sig) (constants_of sig) g → kind_formed puts sig g place k ≡ refused path why
  kind-exact g k place path j l x why (in_kind_argument {a = a} {as' = as'} {path = p} v) u c =
      ap (λ o. and_then (at_part place o) (λ z. kind_formed puts sig ((Persistent, a) ∷ g) (suc place) as')) (type-exact g a p j l x why v u c)
  kind-exact g k place path j l x why (in_later_argument {a = a} {as' = as'} w v) u c =
      ap (λ o. and_then (at_part place o) (λ z. kind_formed puts sig ((Persistent, a) ∷ g) (suc place) as')) (formed g c a w)
      ∙ kind-exact ((Persistent, a) ∷ g) as' (suc place) path j l x why v u (under puts are sig agree well Persistent a g c w)

  -- A refusal comes exactly where at its path stands a part that is refused for its cause.
  pub types_refuse_exactly : (g : Context) (a : PlainType) (path : List ℕ) (why : Cause) → SimplyFormedContext (families_of sig) (constants_of sig) g
      → (type_formed puts sig g a ≡ refused path why) ↔ ExplainedInType sig g a path why
  types_refuse_exactly g a path why c = ((λ q. explained-type puts are sig agree well g a path why c q), (λ u. type-exact g a path u.0 u.1 u.2 why u.3 u.4 c))

  pub kinds_refuse_exactly : (g : Context) (k : PlainKind) (path : List ℕ) (why : Cause) → SimplyFormedContext (families_of sig) (constants_of sig) g
      → (kind_formed puts sig g 0 k ≡ refused path why) ↔ ExplainedInKind sig g k path why
  kinds_refuse_exactly g k path why c = ((λ q. explained-kind puts are sig agree well g k path why c q), (λ u. kind-exact g k 0 path u.0 u.1 u.2 why u.3 u.4 c))

  class-exact : (c : PlainClass) (path : List ℕ) (why : Cause) → ExplainedInClass sig c path why → class_formed puts sig c ≡ refused path why
  class-exact (family_of k) path why u = kind-exact [] k 0 path u.0 u.1 u.2 why u.3 u.4 tt
  class-exact (constant_of a) path why u = type-exact [] a path u.0 u.1 u.2 why u.3 u.4 tt

  pub classes_refuse_exactly : (c : PlainClass) (path : List ℕ) (why : Cause) → (class_formed puts sig c ≡ refused path why) ↔ ExplainedInClass sig c path why
  classes_refuse_exactly c path why = ((λ q. explained-class puts are sig agree well c path why q), (λ u. class-exact c path why u))
