-- Refusals of types, telescopes, kinds and classes tell the truth: at the path stands a part that is refused for the cause.
use Rattle.std.proofs.Common.{◌≡◌, ℕ, suc, ◌==◌, Bool, true, false, if◌then◌else◌, List, [], ◌∷◌, length, Option, None, Some, refl, subst}
use Rattle.clf_syntax.specs.declared.tree.Mode.{Mode}
use Rattle.clf_syntax.specs.declared.tree.Mode.TheVariants.{Persistent}
use Rattle.clf_syntax.specs.Tree.{PlainObject}
use Rattle.clf_syntax.specs.TypeTree.{PlainType, family, function, both, top, monad, PlainTelescope, end, binding, PlainKind}
use Rattle.clf_syntax.specs.Simple.{SimplyFormedKind, SimplyFormedContext}
use Rattle.use_contexts.specs.Context.{Context, modes}
use Rattle.use_contexts.specs.Holding.{Holding, persistent_alone}
use Rattle.use_contexts.specs.Rows.{Leftover}
use Rattle.hered_subst.specs.Substitution.{single, SubstitutedKind}
use Rattle.clf_sig.specs.Entry.{PlainSignature, PlainClass, family_of, constant_of, family_kind}
use Rattle.clf_rules.specs.Typing.{HasType}
use Rattle.clf_rules.specs.WellFormed.{WellFormedSignature, WellFormedType}
use Rattle.clf_rules.specs.Refusal.{Cause, family_arity}
use Rattle.clf_rules.specs.Explained.{CheckedPart, type_at, ReachesInIndices, in_index, in_later_index, whole_type, in_indices, in_domain, in_range, in_first_type, in_second_type, in_monad, ReachesInTelescope, in_entry_type, in_later_types, ReachesInKind, in_kind_argument, in_later_argument, Refuses, no_family, other_arity, ExplainedInType, ExplainedInKind, ExplainedInClass}
use Rattle.typing_laws.specs.SimpleTyping.{constants_of, simple_of, families_of}
use Rattle.clf_decision.specs.Outcome.{Outcome, passed, refused, at_part, and_then}
use Rattle.clf_decision.specs.Checking.{Puts, checked}
use Rattle.clf_decision.specs.Formation.{indices_formed, arity_formed, family_formed, parts_formed, type_formed, telescope_formed, kind_formed, class_formed}
use Rattle.clf_decision.specs.Puts.{ArePuts}
use Rattle.clf_decision.specs.Starts.{Starts}
use Rattle.clf_decision.proofs.AgreesWith.{ChecksAgree, FormationAgrees}
use Rattle.clf_decision.proofs.DecidedOutcomes.{Decided}
use Rattle.clf_decision.proofs.SimpleForms.{family-kind-formed}
use Rattle.clf_decision.proofs.AgreementOfTypes.{IndicesFit, index-decided, index-put, indices-decided, under, formation_agrees}
use Rattle.clf_decision.proofs.FittingIndices.{fit-takes}
use Rattle.clf_decision.proofs.ExplanationForms.{Explained}
use Rattle.clf_decision.proofs.Explanations.{object-explained}
use Rattle.clf_decision.proofs.Tests.{other-number}
use Rattle.clf_decision.proofs.Marked.{alone-marked}

-- ---- what it means that a refusal is explained
abbrev pub IndicesExplained : PlainSignature → Context → List PlainObject → PlainKind → ℕ → Outcome (Unit {0}) → Type 0
IndicesExplained sig g ns k place (passed x) = Unit {0}
IndicesExplained sig g ns k place (refused path why) = (j : Context) × (l : Holding) × (x : CheckedPart) × ReachesInIndices sig g ns k place path j l x × Refuses sig j l x why

abbrev pub TypeExplained : PlainSignature → Context → PlainType → Outcome (Unit {0}) → Type 0
TypeExplained sig g a (passed x) = Unit {0}
TypeExplained sig g a (refused path why) = ExplainedInType sig g a path why

abbrev pub TelescopeExplained : PlainSignature → Context → PlainTelescope → ℕ → Outcome (Unit {0}) → Type 0
TelescopeExplained sig g s place (passed x) = Unit {0}
TelescopeExplained sig g s place (refused path why) = (k : Context) × (l : Holding) × (x : CheckedPart) × ReachesInTelescope sig g s place path k l x × Refuses sig k l x why

abbrev pub KindExplained : PlainSignature → Context → PlainKind → ℕ → Outcome (Unit {0}) → Type 0
KindExplained sig g k place (passed x) = Unit {0}
KindExplained sig g k place (refused path why) = (j : Context) × (l : Holding) × (x : CheckedPart) × ReachesInKind sig g k place path j l x × Refuses sig j l x why

-- ---- construct by construct
module _ (sig : PlainSignature) (g : Context) where
  index-explained : (n : PlainObject) (ns : List PlainObject) (a : PlainType) (k bs : PlainKind) (place : ℕ) (x : Outcome Leftover) (y : Outcome (Unit {0}))
      → Decided x (HasType sig g (persistent_alone (modes g)) n a) → Explained sig g (persistent_alone (modes g)) n a x
      → (HasType sig g (persistent_alone (modes g)) n a → SubstitutedKind (single n 0) k bs × IndicesExplained sig g ns bs (suc place) y)
      → IndicesExplained sig g (n ∷ ns) (a ∷ k) place (and_then (at_part place x) (λ z. y))
  index-explained n ns a k bs place (refused path why) y d u v = (u.0, u.1, u.2, in_index u.3, u.4)
  index-explained n ns a k bs place (passed x) (refused path why) d u v = let z = v d in let e = z.1 in (e.0, e.1, e.2, in_later_index d z.0 e.3, e.4)
  index-explained n ns a k bs place (passed x) (passed y) d u v = tt

  arity-explained : (f : ℕ) (ns : List PlainObject) (k : PlainKind) (b : Bool) → (length k == length ns) ≡ b → family_kind sig f ≡ Some k → IndicesFit sig g ns k
      → TypeExplained sig g (family f ns) (if b then passed tt else refused [] (family_arity (length k) (length ns)))
  arity-explained f ns k true e q y = tt
  arity-explained f ns k false e q y = (g, persistent_alone (modes g), type_at (family f ns), whole_type, other_arity q (other-number (length k) (length ns) e) (fit-takes sig g ns k y))

  indices-in-family : (f : ℕ) (ns : List PlainObject) (k : PlainKind) (o : Outcome (Unit {0})) → family_kind sig f ≡ Some k → Decided o (IndicesFit sig g ns k) → IndicesExplained sig g ns k 0 o
      → TypeExplained sig g (family f ns) (and_then o (λ x. arity_formed ns k))
  indices-in-family f ns k (refused path why) q d u = (u.0, u.1, u.2, in_indices q u.3, u.4)
  indices-in-family f ns k (passed x) q d u = arity-explained f ns k (length k == length ns) refl q d

  function-explained : (m : Mode) (a b : PlainType) (x y : Outcome (Unit {0})) → Decided x (WellFormedType sig g a) → TypeExplained sig g a x
      → (WellFormedType sig g a → TypeExplained sig ((m, a) ∷ g) b y) → TypeExplained sig g (function m a b) (parts_formed x y)
  function-explained m a b (refused path why) y d u v = (u.0, u.1, u.2, in_domain u.3, u.4)
  function-explained m a b (passed x) (refused path why) d u v = let z = v d in (z.0, z.1, z.2, in_range d z.3, z.4)
  function-explained m a b (passed x) (passed y) d u v = tt

  both-explained : (a b : PlainType) (x y : Outcome (Unit {0})) → Decided x (WellFormedType sig g a) → TypeExplained sig g a x → TypeExplained sig g b y → TypeExplained sig g (both a b) (parts_formed x y)
  both-explained a b (refused path why) y d u v = (u.0, u.1, u.2, in_first_type u.3, u.4)
  both-explained a b (passed x) (refused path why) d u v = (v.0, v.1, v.2, in_second_type d v.3, v.4)
  both-explained a b (passed x) (passed y) d u v = tt

  monad-explained : (s : PlainTelescope) (x : Outcome (Unit {0})) → TelescopeExplained sig g s 0 x → TypeExplained sig g (monad s) x
  monad-explained s (passed x) u = tt
  monad-explained s (refused path why) u = (u.0, u.1, u.2, in_monad u.3, u.4)

  entry-explained : (m : Mode) (a : PlainType) (s : PlainTelescope) (place : ℕ) (x y : Outcome (Unit {0})) → Decided x (WellFormedType sig g a) → TypeExplained sig g a x
      → (WellFormedType sig g a → TelescopeExplained sig ((m, a) ∷ g) s (suc place) y) → TelescopeExplained sig g (binding m a s) place (and_then (at_part place x) (λ z. y))
  entry-explained m a s place (refused path why) y d u v = (u.0, u.1, u.2, in_entry_type u.3, u.4)
  entry-explained m a s place (passed x) (refused path why) d u v = let z = v d in (z.0, z.1, z.2, in_later_types d z.3, z.4)
  entry-explained m a s place (passed x) (passed y) d u v = tt

  kind-argument-explained : (a : PlainType) (k : PlainKind) (place : ℕ) (x y : Outcome (Unit {0})) → Decided x (WellFormedType sig g a) → TypeExplained sig g a x
      → (WellFormedType sig g a → KindExplained sig ((Persistent, a) ∷ g) k (suc place) y) → KindExplained sig g (a ∷ k) place (and_then (at_part place x) (λ z. y))
  kind-argument-explained a k place (refused path why) y d u v = (u.0, u.1, u.2, in_kind_argument u.3, u.4)
  kind-argument-explained a k place (passed x) (refused path why) d u v = let z = v d in (z.0, z.1, z.2, in_later_argument d z.3, z.4)
  kind-argument-explained a k place (passed x) (passed y) d u v = tt

-- ---- all types, telescopes, kinds and classes
module _ (puts : Puts) (are : ArePuts puts) (sig : PlainSignature) (agree : ChecksAgree puts sig) (well : WellFormedSignature sig) where
  formation : FormationAgrees puts sig
  formation = formation_agrees puts are sig agree well

  indices-explained : (g : Context) → SimplyFormedContext (families_of sig) (constants_of sig) g → (ns : List PlainObject) (k : PlainKind) (place : ℕ) → SimplyFormedKind (families_of sig) (simple_of sig g) k
      → IndicesExplained sig g ns k place (indices_formed puts sig g place ns k)
  indices-explained g c [] k place f = tt
  indices-explained g c (n ∷ ns) [] place f = tt
  indices-explained g c (n ∷ ns) (a ∷ k) place f =
      let from : Starts sig g (persistent_alone (modes g)) = record { signature = well; context = c; marked = alone-marked (modes g) } in
      index-explained sig g n ns a k (puts.into_kind n a k) place (checked puts sig g (persistent_alone (modes g)) n a) (indices_formed puts sig g (suc place) ns (puts.into_kind n a k))
      (index-decided puts are sig agree well g c n a f.0) (object-explained puts are sig agree n g (persistent_alone (modes g)) a from f.0)
      (λ t. let p = index-put puts are sig agree well g c n a k f t in (p.0, indices-explained g c ns (puts.into_kind n a k) (suc place) p.1))

  family-explained : (g : Context) → SimplyFormedContext (families_of sig) (constants_of sig) g → (f : ℕ) (ns : List PlainObject) (o : Option PlainKind) → family_kind sig f ≡ o
      → TypeExplained sig g (family f ns) (family_formed puts sig g f ns o)
  family-explained g c f ns None q = (g, persistent_alone (modes g), type_at (family f ns), whole_type, no_family q)
  family-explained g c f ns (Some k) q =
      let formed = family-kind-formed sig well g f k q in
      indices-in-family sig g f ns k (indices_formed puts sig g 0 ns k) q (indices-decided puts are sig agree well g c ns k 0 formed) (indices-explained g c ns k 0 formed)

  mutual
    type-explained : (a : PlainType) (g : Context) → SimplyFormedContext (families_of sig) (constants_of sig) g → TypeExplained sig g a (type_formed puts sig g a)
    type-explained (family f ns) g c = family-explained g c f ns (family_kind sig f) refl
    type-explained (function m a b) g c =
        function-explained sig g m a b (type_formed puts sig g a) (type_formed puts sig ((m, a) ∷ g) b) (formation.types a g c) (type-explained a g c)
        (λ p. type-explained b ((m, a) ∷ g) (under puts are sig agree well m a g c p))
    type-explained (both a b) g c = both-explained sig g a b (type_formed puts sig g a) (type_formed puts sig g b) (formation.types a g c) (type-explained a g c) (type-explained b g c)
    type-explained top g c = tt
    type-explained (monad s) g c = monad-explained sig g s (telescope_formed puts sig g 0 s) (telescope-explained s g 0 c)

    telescope-explained : (s : PlainTelescope) (g : Context) (place : ℕ) → SimplyFormedContext (families_of sig) (constants_of sig) g → TelescopeExplained sig g s place (telescope_formed puts sig g place s)
    telescope-explained end g place c = tt
    telescope-explained (binding m a s) g place c =
        entry-explained sig g m a s place (type_formed puts sig g a) (telescope_formed puts sig ((m, a) ∷ g) (suc place) s) (formation.types a g c) (type-explained a g c)
        (λ p. telescope-explained s ((m, a) ∷ g) (suc place) (under puts are sig agree well m a g c p))

  kind-explained : (k : PlainKind) (g : Context) (place : ℕ) → SimplyFormedContext (families_of sig) (constants_of sig) g → KindExplained sig g k place (kind_formed puts sig g place k)
  kind-explained [] g place c = tt
  kind-explained (a ∷ k) g place c =
      kind-argument-explained sig g a k place (type_formed puts sig g a) (kind_formed puts sig ((Persistent, a) ∷ g) (suc place) k) (formation.types a g c) (type-explained a g c)
      (λ p. kind-explained k ((Persistent, a) ∷ g) (suc place) (under puts are sig agree well Persistent a g c p))

  -- in words of an equation
  pub explained-type : (g : Context) (a : PlainType) (path : List ℕ) (why : Cause) → SimplyFormedContext (families_of sig) (constants_of sig) g → type_formed puts sig g a ≡ refused path why → ExplainedInType sig g a path why
  explained-type g a path why c q = subst (λ o. TypeExplained sig g a o) q (type-explained a g c)

  pub explained-kind : (g : Context) (k : PlainKind) (path : List ℕ) (why : Cause) → SimplyFormedContext (families_of sig) (constants_of sig) g → kind_formed puts sig g 0 k ≡ refused path why → ExplainedInKind sig g k path why
  explained-kind g k path why c q = subst (λ o. KindExplained sig g k 0 o) q (kind-explained k g 0 c)

  pub explained-class : (c : PlainClass) (path : List ℕ) (why : Cause) → class_formed puts sig c ≡ refused path why → ExplainedInClass sig c path why
  explained-class (family_of k) path why q = explained-kind [] k path why tt q
  explained-class (constant_of a) path why q = explained-type [] a path why tt q
