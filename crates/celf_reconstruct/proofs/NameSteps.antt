-- Metavariables that are solved by constants, one after the other; and types that are made one after the other.
use Rattle.std.proofs.Common.{ℕ, zero, suc, ◌+◌, ◌≡◌, ◌<◌, ◌≤◌, ◌++◌, ◌==◌, nat_eq, if◌then◌else◌, Bool, true, false, refl, sym, ap, subst, ◌∙◌, Option, Some, None, List, [], ◌∷◌, length, map, arith, slice_get, append_assoc, ◌⊎◌, ⊎_elim, inl, inr, Result, Ok, Err, OnOk}
use Rattle.std.proofs.lemmas.List.{map-append, append-nil}
use Rattle.std.specs.List.{position}
use Rattle.clf_syntax.specs.declared.tree.Head.TheVariants.{Const}
use Rattle.clf_syntax.specs.declared.tree.Obj.{Obj}
use Rattle.clf_syntax.specs.Plain.{plain_obj}
use Rattle.clf_syntax.specs.Tree.{PlainObject, head_alone}
use Rattle.clf_syntax.specs.TypeTree.{PlainType, SimpleType}
use Rattle.eta_laws.specs.Eta.{expansion}
use Rattle.store_laws.specs.Additions.{Addition, solved, meta_types, set, given}
use Rattle.store_laws.proofs.Lists.{types-append, given-solved}
use Rattle.metavars.specs.Stored.{Stored, Added, added_solved, additions, constants, plain_added, with_addition, IsPart}
use Rattle.celf_filled.specs.TypedFrom.{new_in, typed_from}
use Rattle.filled_laws.specs.FreshTypes.{types_from}
use Rattle.celf_reconstruct.specs.Left.{naming, named_at}
use Rattle.clf_syntax.specs.PlainSimple.{plain_simple}
use Rattle.metavars.proofs.ScopesLaws.{new-types}
use Rattle.celf_reconstruct.specs.Naming.{metas_of, types_in, IsSolvedBy, NamesOne, IsNamedUntil, IsUnsolvedWith}
use Rattle.celf_reconstruct.proofs.Reading.{none-given}

same_number : (m : ℕ) → nat_eq m m ≡ true
same_number m = grind arith

other_number : (k m : ℕ) → (k ≡ m → ⊥) → (b : Bool) → nat_eq k m ≡ b → nat_eq k m ≡ false
other_number k m n true e = absurd (n (grind arith))
other_number k m n false e = e

one : {X : Type 0} {o : Option X} {x y : X} → o ≡ Some x → o ≡ Some y → x ≡ y
one p q = cc

solved_by : (old : Stored) (m number : ℕ) (o : Obj) (new_one : Stored) (t : SimpleType) → new_one ≡ with_addition old (added_solved m o) → types_in old m ≡ Some t
    → plain_obj o ≡ expansion t (head_alone (Const number)) → given (additions old) m ≡ None → IsSolvedBy old m number new_one
solved_by old m number o new_one t e known form unsolved = record {
  part = (ap (λ (s : Stored). s.constants) e, (added_solved m o ∷ [], ap (λ (s : Stored). s.added) e));
  metas = ap meta_types after ∙ types-append (additions old) (solved m (plain_obj o) ∷ []) ∙ append-nil (meta_types (additions old));
  simple = t;
  known = known;
  solution = ap (λ (zs : List Addition). given zs m) after ∙ given-solved (additions old) m (plain_obj o) unsolved m ∙ ap (λ b. if b then Some (plain_obj o) else given (additions old) m) (same_number m) ∙ ap (λ (x : PlainObject). Some x) form;
  others = λ k n. ap (λ (zs : List Addition). given zs k) after ∙ given-solved (additions old) m (plain_obj o) unsolved k
      ∙ ap (λ b. if b then Some (plain_obj o) else given (additions old) k) (other_number k m n (nat_eq k m) refl);
}
  where
    after : additions new_one ≡ additions old ++ solved m (plain_obj o) ∷ []
    after = ap additions e ∙ map-append plain_added old.added (added_solved m o ∷ [])

pub named_one : (first : ℕ) (left : List ℕ) (m place : ℕ) (old new_one : Stored) → position (λ k. k == m) left ≡ Some place → IsSolvedBy old m (first + place) new_one → NamesOne first left m old new_one
named_one first left m place old new_one p h = record {
  part = h.part;
  metas = h.metas;
  named = h.solution ∙ sym (ap (λ t. named_at first t (position (λ k. k == m) left)) h.known ∙ ap (named_at first (Some h.simple)) p);
  others = h.others;
}

pub known_at : (ts : List SimpleType) (m : ℕ) → m < length ts → (t : SimpleType) × (slice_get ts m ≡ Some t)
known_at [] m l = absurd (omega arith)
known_at (t ∷ ts) zero l = (t, refl)
known_at (t ∷ ts) (suc m) l = known_at ts m (omega arith)

pub named_none : (first : ℕ) (left : List ℕ) (m : ℕ) (old : Stored) → m < length (metas_of old) → given (additions old) m ≡ None → position (λ k. k == m) left ≡ None → NamesOne first left m old old
named_none first left m old l unsolved p = record {
  part = (refl, ([], sym (append-nil old.added)));
  metas = refl;
  named = let (t, e) = known_at (metas_of old) m l in unsolved ∙ sym (ap (λ u. named_at first u (position (λ k. k == m) left)) e ∙ ap (named_at first (Some t)) p);
  others = λ k n. refl;
}

pub until_start : (first : ℕ) (left : List ℕ) (old : Stored) → ((m : ℕ) → given (additions old) m ≡ None) → IsNamedUntil first left old 0 old
until_start first left old unsolved = record {
  part = (refl, ([], sym (append-nil old.added)));
  metas = refl;
  named = λ m l. absurd (omega arith);
  later = λ m l. unsolved m;
}

pub until_next : (first : ℕ) (left : List ℕ) (old : Stored) (m : ℕ) (now later : Stored) → IsNamedUntil first left old m now → NamesOne first left m now later → IsNamedUntil first left old (m + 1) later
until_next first left old m now later h n = record {
  part = (n.part.0 ∙ h.part.0, (h.part.1.0 ++ n.part.1.0, n.part.1.1 ∙ ap (λ (xs : List Added). xs ++ n.part.1.0) h.part.1.1 ∙ append_assoc old.added h.part.1.0 n.part.1.0));
  metas = n.metas ∙ h.metas;
  named = λ k l. ⊎_elim (λ below. n.others k (λ e. absurd (omega arith)) ∙ h.named k below) (λ same. here k same) (split k l);
  later = λ k l. n.others k (λ e. absurd (omega arith)) ∙ h.later k (omega arith);
}
  where
    split : (k : ℕ) → k < m + 1 → (k < m) ⊎ (k ≡ m)
    split k l = grind arith

    here : (k : ℕ) → k ≡ m → given (additions later) k ≡ naming first (types_in old) left k
    here k e = subst (λ i. given (additions later) i ≡ naming first (types_in old) left i) (sym e) (n.named ∙ ap (λ (us : List SimpleType). naming first (slice_get us) left m) h.metas)

-- One type more.
pub type_next : (indices : ℕ → List SimpleType) (k later : ℕ) (t : SimpleType) (ts : List SimpleType) (done new_one whole : List PlainType) (o : PlainType) → done ++ types_from indices k (t ∷ ts) ≡ whole
    → o ≡ typed_from indices k [] t → later ≡ k + length (new_in indices [] t) → new_one ≡ done ++ o ∷ [] → new_one ++ types_from indices later ts ≡ whole
type_next indices k later t ts done new_one whole o v e l n = rw (n, l, e) (append_assoc done (typed_from indices k [] t ∷ []) (types_from indices (k + length (new_in indices [] t)) ts) ∙ v)

pub solved_so : {T E : Type 0} (r : Result T E) (old : Stored) (m number : ℕ) (o : Obj) (new_one : Stored) (t : SimpleType) → OnOk r (new_one ≡ with_addition old (added_solved m o))
    → types_in old m ≡ Some t → plain_obj o ≡ expansion t (head_alone (Const number)) → given (additions old) m ≡ None → OnOk r (IsSolvedBy old m number new_one)
solved_so (Ok x) old m number o new_one t e known form unsolved = solved_by old m number o new_one t e known form unsolved
solved_so (Err w) old m number o new_one t e known form unsolved = tt

-- A store in which nothing is solved, and then the first metavariables are.
pub unsolved_at : (old : Stored) (more : List SimpleType) (s : Stored) → IsUnsolvedWith old more s → (m : ℕ) → given (additions s) m ≡ None
unsolved_at old more s u m = ap (λ (zs : List Addition). given zs m) u.additions_are ∙ none-given (metas_of old) m

pub metas_same : (old : Stored) (more : List SimpleType) (s : Stored) → IsUnsolvedWith old more s → metas_of s ≡ metas_of old
metas_same old more s u = ap meta_types u.additions_are ∙ new-types (metas_of old)

module _ (old : Stored) (more : List SimpleType) (s now : Stored) (first : ℕ) (left : List ℕ) (u : IsUnsolvedWith old more s) (h : IsNamedUntil first left s (length (metas_of s)) now) where
  pub names_metas : metas_of now ≡ metas_of old
  names_metas = h.metas ∙ metas_same old more s u

  pub names_named : (m : ℕ) → m < length (metas_of old) → given (additions now) m ≡ naming first (types_in old) left m
  names_named m l = subst (λ (ts : List SimpleType). given (additions now) m ≡ naming first (slice_get ts) left m) (metas_same old more s u)
      (h.named m (subst (λ (ts : List SimpleType). m < length ts) (sym (metas_same old more s u)) l))

  pub names_later : (m : ℕ) → length (metas_of old) ≤ m → given (additions now) m ≡ None
  names_later m l = h.later m (subst (λ (ts : List SimpleType). length ts ≤ m) (sym (metas_same old more s u)) l)

  pub names_constants : constants now ≡ constants old ++ more
  names_constants = ap (map plain_simple) h.part.0 ∙ u.constants_are
