-- The kinds that a check of formation meets are simply formed: those of the signature, and what is left of them after an index.
use Rattle.std.specs.Prelude.{ℕ, zero, suc, ◌≡◌, true, [], ◌∷◌, Some}
use Rattle.std.proofs.Common.{subst, ◌∙◌}
use Rattle.clf_syntax.specs.declared.tree.Head.{Head}
use Rattle.clf_syntax.specs.declared.tree.Head.TheVariants.{Const, Var, Meta}
use Rattle.clf_syntax.specs.Tree.{PlainObject}
use Rattle.clf_syntax.specs.TypeTree.{PlainKind, SimpleType}
use Rattle.clf_syntax.specs.Simple.{Assignment, Families, erase, extended, SimplyTyped, SimplyFormed, SimplyFormedKind}
use Rattle.clf_syntax.specs.Renaming.{ren_head}
use Rattle.clf_syntax.proofs.TypeRenaming.{identity_type}
use Rattle.use_contexts.specs.Context.{Context}
use Rattle.hered_subst.specs.Substitution.{single, SubstitutedKind}
use Rattle.hered_subst.specs.TypedEnvironments.{TypedEnvironment}
use Rattle.hered_subst.proofs.TypedEnvironments.{keeps_single}
use Rattle.hered_subst.proofs.TypedResults.{result_is_typed}
use Rattle.clf_sig.specs.Entry.{PlainSignature, family_kind}
use Rattle.clf_rules.specs.WellFormed.{WellFormedSignature}
use Rattle.clf_rules.proofs.Signatures.{entries_well_formed}
use Rattle.typing_laws.specs.SimpleTyping.{constants_of, simple_of, families_of}
use Rattle.typing_laws.proofs.Erased.{of_constant}
use Rattle.typing_laws.proofs.FormedTypes.{renamed, as_inserted, well_formed_is_simply_formed}

-- ---- an object that is put into a kind
pub put-kind-formed : (arguments : Families) (z : Assignment) (n : PlainObject) (u : SimpleType) → SimplyTyped z n u → (k x : PlainKind) → SimplyFormedKind arguments (extended u z) k → SubstitutedKind (single n 0) k x
    → SimplyFormedKind arguments z x
put-kind-formed arguments z n u p k x f s =
    let e : TypedEnvironment true (extended u z) z (single n 0) = subst (λ y. TypedEnvironment true y z (single n 0)) (as_inserted u z) (keeps_single true z 0 n u p) in
    (result_is_typed true arguments (extended u z) z (single n 0) e).kind k x f s

-- ---- kinds of the signature
wider : (u : SimpleType) (z y : Assignment) → ((h : Head) (t : SimpleType) → z h ≡ Some t → y h ≡ Some t) → (h : Head) (t : SimpleType) → extended u z h ≡ Some t → extended u y h ≡ Some t
wider u z y f (Const c) t e = f (Const c) t e
wider u z y f (Var zero) t e = e
wider u z y f (Var (suc i)) t e = f (Var i) t e
wider u z y f (Meta k) t e = f (Meta k) t e

same_head : (z y : Assignment) → ((h : Head) (t : SimpleType) → z h ≡ Some t → y h ≡ Some t) → (h : Head) (t : SimpleType) → z h ≡ Some t → y (ren_head (λ i. i) h) ≡ Some t
same_head z y f (Const c) t e = f (Const c) t e
same_head z y f (Var i) t e = f (Var i) t e
same_head z y f (Meta k) t e = f (Meta k) t e

wider_kind : (arguments : Families) (z y : Assignment) → ((h : Head) (t : SimpleType) → z h ≡ Some t → y h ≡ Some t) → (k : PlainKind) → SimplyFormedKind arguments z k → SimplyFormedKind arguments y k
wider_kind arguments z y f [] p = tt
wider_kind arguments z y f (a ∷ k) p = (
  subst (λ b. SimplyFormed arguments y b) (identity_type a) (renamed arguments z y (λ i. i) (same_head z y f) a p.0),
  wider_kind arguments (extended (erase a) z) (extended (erase a) y) (wider (erase a) z y f) k p.1,
)

constants_there : (sig : PlainSignature) (g : Context) (h : Head) (t : SimpleType) → constants_of sig h ≡ Some t → simple_of sig g h ≡ Some t
constants_there sig g (Const c) t e = of_constant (constants_of sig) g c ∙ e
constants_there sig g (Var i) t e = absurd (cc)
constants_there sig g (Meta k) t e = absurd (cc)

-- the kind of a family is simply formed in each context
pub family-kind-formed : (sig : PlainSignature) → WellFormedSignature sig → (g : Context) (f : ℕ) (k : PlainKind) → family_kind sig f ≡ Some k → SimplyFormedKind (families_of sig) (simple_of sig g) k
family-kind-formed sig w g f k e =
    wider_kind (families_of sig) (constants_of sig) (simple_of sig g) (constants_there sig g) k ((well_formed_is_simply_formed sig []).kinds true k ((entries_well_formed sig w).0 f k e))
