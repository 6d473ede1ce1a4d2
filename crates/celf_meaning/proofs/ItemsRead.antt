-- The trees that an entry and a check are printed as are read as these.
use Rattle.std.proofs.Common.{ℕ, zero, suc, ◌≡◌, Bool, true, false, refl, sym, ap, ◌∙◌, List, [], ◌∷◌, Some, None, option_map, slice_get}
use Rattle.std.proofs.lemmas.Option.{slice_get-map}
use Rattle.clf_syntax.specs.Tree.{PlainObject}
use Rattle.clf_syntax.specs.TypeTree.{PlainType}
use Rattle.clf_syntax.specs.Simple.{no_holes, erase, SimplyTypedWith, SimplyFormedWith, KindSimplyFormedWith}
use Rattle.clf_syntax.specs.Occurs.{occurs, occurs_type, occurs_kind}
use Rattle.clf_syntax.specs.Word.{same_bytes}
use Rattle.clf_sig.specs.Entry.{PlainClass, family_of, constant_of, PlainEntry, PlainSignature, names, place_of}
use Rattle.clf_sig.specs.Core.{declares, checks}
use Rattle.celf_lexer.proofs.Signs.{same_bytes-refl}
use Rattle.celf_lexer.proofs.Bounds.{same_bytes-equal}
use Rattle.typing_laws.specs.SimpleTyping.{constants_of, families_of}
use Rattle.clf_rules.specs.Clean.{CleanType}
use Rattle.celf_explicit.specs.Objects.{read_object}
use Rattle.celf_explicit.specs.Types.{kind_of}
use Rattle.celf_explicit.specs.Explicit.{read_class, entry_of, core_of_body}
use Rattle.celf_spelling.specs.Printed.{printed_object, printed_class, printed_entry, printed_check}
use Rattle.celf_spelling.specs.Printable.{IsPrintableObject, IsPrintableType, IsPrintableClass}
use Rattle.celf_meaning.proofs.Made.{mapped, combined_of}
use Rattle.celf_meaning.proofs.Scopes.{NamedWhere}
use Rattle.celf_meaning.proofs.Meanings.{FindsItself}
use Rattle.celf_meaning.proofs.ObjectsRead.{object_read}
use Rattle.celf_meaning.proofs.TypesRead.{CleanKind, simple_read, type_read, kind_read}
use Rattle.celf_meaning.proofs.Closed.{IsTypedIn, object_occurs, type_occurs, kind_occurs}

-- ---- the place of a name, where no two places have the same

abbrev pub NamesOnce : PlainSignature → Type 0
NamesOnce sig = (i j : ℕ) (name : List ℕ) → slice_get (names sig) i ≡ Some name → slice_get (names sig) j ≡ Some name → i ≡ j

named_at : (sig : PlainSignature) (k : ℕ) (e : List ℕ × PlainEntry) → slice_get sig k ≡ Some e → slice_get (names sig) k ≡ Some e.0
named_at sig k e at = slice_get-map (λ d. d.0) sig k ∙ ap (option_map (λ d. d.0)) at

passed : (d : List ℕ × PlainEntry) (ds : PlainSignature) (name : List ℕ) (k : ℕ) (b : Bool) → same_bytes d.0 name ≡ b → (b ≡ true → ⊥) → place_of name ds ≡ Some k → place_of name (d ∷ ds) ≡ Some (suc k)
passed d ds name k true e f h = absurd (f refl)
passed d ds name k false e f h = rw (e, h) refl

pub finds_itself : (sig : PlainSignature) → NamesOnce sig → FindsItself sig
finds_itself [] once k e at = absurd (cc)
finds_itself (d ∷ ds) once zero e at = let same : d ≡ e = cc in rw (ap (λ x. same_bytes d.0 x.0) (sym same) ∙ same_bytes-refl d.0) refl
finds_itself (d ∷ ds) once (suc k) e at =
    passed d ds e.0 k (same_bytes d.0 e.0) refl (λ s. let never : 0 ≡ suc k = once 0 (suc k) e.0 (ap Some (same_bytes-equal d.0 e.0 s)) (named_at ds k e at) in absurd (cc))
    (finds_itself ds (λ i j name p q. let both : suc i ≡ suc j = once (suc i) (suc j) name p q in cc) k e at)

-- ---- without variables

closed : (sig : PlainSignature) (p : ℕ → Bool) → ((i : ℕ) → p i ≡ true → IsTypedIn (constants_of sig) i) → NamedWhere [] p
closed sig p typed i e = let t = typed i e in let none : None ≡ Some t.0 = t.1 in absurd (cc)

-- what is left of the class without indices is simply formed
abbrev pub ClassFormed : PlainSignature → PlainClass → Type 0
ClassFormed sig (family_of k) = KindSimplyFormedWith (no_holes false) (families_of sig) (constants_of sig) k
ClassFormed sig (constant_of a) = SimplyFormedWith (no_holes false) (families_of sig) (constants_of sig) a

abbrev pub CleanClass : PlainClass → Type 0
CleanClass (family_of k) = CleanKind k
CleanClass (constant_of a) = CleanType a

module _ (sig : PlainSignature) (distinct : FindsItself sig) where
  class_read : (c : PlainClass) → ClassFormed sig c → IsPrintableClass sig c → CleanClass c → read_class sig (printed_class sig c) ≡ Some c
  class_read (family_of k) f p clean =
      let read = kind_read sig distinct [] k f p clean (closed sig (λ i. occurs_kind i k) (kind_occurs (no_holes false) (families_of sig) (constants_of sig) k f)) in
      mapped (λ s. family_of (kind_of s)) read.1 ∙ ap (λ l. Some (family_of l)) read.2
  class_read (constant_of a) f p clean = mapped constant_of (type_read sig distinct [] a f p clean (closed sig (λ i. occurs_type i a) (type_occurs (no_holes false) (families_of sig) (constants_of sig) a f)))

  pub entry_read : (name : List ℕ) (e : PlainEntry) → ClassFormed sig e.class → IsPrintableClass sig e.class → CleanClass e.class → core_of_body sig (printed_entry sig name e) ≡ Some (declares name e)
  entry_read name e f p clean = mapped (λ c. declares name (entry_of e.implicit c)) (class_read e.class f p clean)

  pub check_read : (n : PlainObject) (a : PlainType) → SimplyTypedWith (no_holes false) (constants_of sig) n (erase a) → SimplyFormedWith (no_holes false) (families_of sig) (constants_of sig) a
      → IsPrintableObject sig 0 n → IsPrintableType sig 0 a → CleanType a → core_of_body sig (printed_check sig n a) ≡ Some (checks n a)
  check_read n a typed f p q clean = combined_of checks
      (ap (λ t. read_object sig [] t (printed_object sig 0 n)) (simple_read sig distinct (constants_of sig) 0 a f q)
      ∙ object_read sig distinct [] n (erase a) typed p.0 p.1 (closed sig (λ i. occurs i n) (object_occurs (no_holes false) (constants_of sig) n (erase a) typed)))
      (type_read sig distinct [] a f q clean (closed sig (λ i. occurs_type i a) (type_occurs (no_holes false) (families_of sig) (constants_of sig) a f)))
