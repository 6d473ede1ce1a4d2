-- Where the walk over indices leaves a whole state, they are read.
use Rattle.std.specs.Prelude.{ℕ, zero, suc, ◌≡◌, List, [], ◌∷◌, ◌++◌, map, Option, None, Some, option_and_then, refl}
use Rattle.std.proofs.Common.{ap, sym, ◌∙◌, append_assoc, append-nil, subst}
use Rattle.clf_syntax.specs.declared.tree.Mode.{Mode}
use Rattle.clf_syntax.specs.declared.tree.Mode.TheVariants.{Persistent}
use Rattle.clf_syntax.specs.Tree.{PlainObject}
use Rattle.clf_syntax.specs.TypeTree.{SimpleType, PlainKind}
use Rattle.clf_syntax.specs.Simple.{erase}
use Rattle.clf_sig.specs.Entry.{PlainClass, family_of, constant_of, PlainSignature, class_at, kind_in, family_kind, place_of}
use Rattle.celf_sugar.specs.PlainTree.{DesugaredObject}
use Rattle.celf_names.specs.Names.{family_only, family_named}
use Rattle.celf_places.specs.Places.{next_part}
use Rattle.celf_places.specs.Heads.{argument_entry}
use Rattle.celf_places.specs.Along.{left_along}
use Rattle.celf_elaboration.specs.Fillings.{Fillings, Scoped}
use Rattle.celf_elaboration.specs.Names.{ImplicitVariable}
use Rattle.celf_elaboration.specs.Declarations.{declared_heads}
use Rattle.celf_elaboration.specs.Readings.{ReadsObject, ReadsFilled, filled_none, filled_next, ReadsIndices, indices_none, indices_next, indices_beyond}
use Rattle.celf_filled.specs.Scopes.{with_known_type}
use Rattle.celf_filled.specs.States.{State}
use Rattle.celf_filled.specs.Whole.{IsRead}
use Rattle.celf_filled.specs.Walk.{fill_place, fill_object}
use Rattle.celf_filled.specs.WalkTypes.{Indices, with_index, fill_index, fill_first, written_index}
use Rattle.celf_filled.proofs.WholeObjects.{read_alone, read_then, IsFilling, place_read}
use Rattle.celf_filled.proofs.WholeReadings.{object_read}

-- what is wanted of an index
abbrev pub persistent : SimpleType → Mode × SimpleType
persistent t = (Persistent, t)

pub arguments_persistent : (k : PlainKind) → map argument_entry k ≡ map persistent (map erase k)
arguments_persistent [] = refl
arguments_persistent (a ∷ k) = ap (λ ps. argument_entry a ∷ ps) (arguments_persistent k)

-- A name that means a family has its kind.
kind_of_class : (sig : PlainSignature) (k f : ℕ) (c : Option PlainClass) → class_at sig k ≡ c → family_only k c ≡ Some f → (ks : PlainKind) × (family_kind sig f ≡ Some ks)
kind_of_class sig k f None e q = absurd (cc)
kind_of_class sig k f (Some (constant_of a)) e q = absurd (cc)
kind_of_class sig k f (Some (family_of ks)) e q = let same : k ≡ f = cc in (ks, ap (option_and_then kind_in) (ap (class_at sig) (sym same) ∙ e))

kind_of_place : (sig : PlainSignature) (f : ℕ) (p : Option ℕ) → option_and_then (λ k. family_only k (class_at sig k)) p ≡ Some f → (ks : PlainKind) × (family_kind sig f ≡ Some ks)
kind_of_place sig f None q = absurd (cc)
kind_of_place sig f (Some k) q = kind_of_class sig k f (class_at sig k) refl q

pub family_has_kind : (sig : PlainSignature) (name : List ℕ) (f : ℕ) → family_named sig name ≡ Some f → (ks : PlainKind) × (family_kind sig f ≡ Some ks)
family_has_kind sig name f q = kind_of_place sig f (place_of name sig) q

pub unpersistent : (ts : List SimpleType) → map (λ (e : Mode × SimpleType). e.1) (map persistent ts) ≡ ts
unpersistent [] = refl
unpersistent (t ∷ ts) = ap (λ us. t ∷ us) (unpersistent ts)

-- what is wanted after so many
abbrev pub after_first : ℕ → List SimpleType → List SimpleType
after_first zero ts = ts
after_first (suc i) [] = after_first i []
after_first (suc i) (t ∷ ts) = after_first i ts

pub first_wanted : (ls : List Scoped) (i : ℕ) (w : Indices) (ts : List SimpleType) (s : State) → w.wanted ≡ map persistent ts → (fill_first ls i (w, s)).0.wanted ≡ map persistent (after_first i ts)
first_wanted ls zero w ts s e = e
first_wanted ls (suc i) w [] s e = first_wanted ls i (fill_index ls (w, s)).0 [] (fill_index ls (w, s)).1 (ap (λ ps. (next_part ps).later) e)
first_wanted ls (suc i) w (t ∷ ts) s e = first_wanted ls i (fill_index ls (w, s)).0 ts (fill_index ls (w, s)).1 (ap (λ ps. (next_part ps).later) e)

module _ (sig : PlainSignature) (vs : List ImplicitVariable) where
  -- what has been filled in of the first indices
  abbrev pub FirstRead : List Scoped → ℕ → Indices → List SimpleType → Fillings → Indices → Type 0
  FirstRead ls i w ts fs x = (ns : List PlainObject) × (us : List SimpleType) × (x.objects ≡ w.objects ++ ns) × (x.wanted ≡ map persistent us) × ReadsFilled sig (declared_heads sig) vs ls i ts fs ns us

  -- what has been read of the written ones
  abbrev pub WrittenRead : List Scoped → List DesugaredObject → Indices → List SimpleType → Fillings → Indices → Type 0
  WrittenRead ls os w ts fs x = (ns : List PlainObject) × (x.objects ≡ w.objects ++ ns) × ReadsIndices sig (declared_heads sig) vs ls ts os fs ns

  first_next : (ls : List Scoped) (i : ℕ) (w : Indices) (t : SimpleType) (ts : List SimpleType) (o : PlainObject) (s : State) (fs gs : Fillings) (x : Indices) → w.wanted ≡ map persistent (t ∷ ts)
      → IsFilling ls (next_part w.wanted).place fs o → FirstRead ls i (with_index w (o, s)).0 ts gs x → FirstRead ls (suc i) w (t ∷ ts) (fs ++ gs) x
  first_next ls i w t ts o s fs gs x e (u, l, q, k, r) (ns, us, f, g, c) =
      let same : Some t ≡ Some u = sym (ap (λ ps. (next_part ps).place) e) ∙ q in
      let equal : t ≡ u = cc in
      (o ∷ ns, us, f ∙ append_assoc w.objects (o ∷ []) ns, g, rw (r, equal) (filled_next k c))

  pub first_read : (ls : List Scoped) (i : ℕ) (w : Indices) (ts : List SimpleType) (s : State) → w.wanted ≡ map persistent ts → IsRead s (fill_first ls i (w, s)) (FirstRead ls i w ts)
  first_read ls zero w ts s e = read_alone s w _ ([], ts, sym (append-nil w.objects), e, filled_none)
  first_read ls (suc i) w [] s e =
      let o = fill_place ls (next_part w.wanted).place s in
      let rest = fill_first ls i (fill_index ls (w, s)) in
      read_then s o rest rest.0 (IsFilling ls (next_part w.wanted).place) (FirstRead ls i (with_index w o).0 []) (FirstRead ls (suc i) w [])
      (λ fs gs a c. let none : None ≡ Some a.0 = sym (ap (λ ps. (next_part ps).place) e) ∙ a.2 in absurd (cc)) (place_read ls (next_part w.wanted).place s) (first_read ls i (with_index w o).0 [] o.1 (ap (λ ps. (next_part ps).later) e))
  first_read ls (suc i) w (t ∷ ts) s e =
      let o = fill_place ls (next_part w.wanted).place s in
      let rest = fill_first ls i (fill_index ls (w, s)) in
      read_then s o rest rest.0 (IsFilling ls (next_part w.wanted).place) (FirstRead ls i (with_index w o).0 ts) (FirstRead ls (suc i) w (t ∷ ts))
      (λ fs gs a c. first_next ls i w t ts o.0 o.1 fs gs rest.0 e a c) (place_read ls (next_part w.wanted).place s) (first_read ls i (with_index w o).0 ts o.1 (ap (λ ps. (next_part ps).later) e))

  pub written_read : (ls : List Scoped) (os : List DesugaredObject) (w : Indices) (ts : List SimpleType) (s : State) → w.wanted ≡ map persistent ts
      → IsRead s (left_along (written_index sig (map with_known_type vs) ls) (w, s) os) (WrittenRead ls os w ts)
  written_read ls [] w ts s e = read_alone s w _ ([], sym (append-nil w.objects), indices_none)
  written_read ls (o ∷ os) w [] s e =
      let n = fill_object sig (map with_known_type vs) ls (next_part w.wanted).place o s in
      let rest = left_along (written_index sig (map with_known_type vs) ls) (with_index w n) os in
      let here : (next_part w.wanted).place ≡ None = ap (λ ps. (next_part ps).place) e in
      read_then s n rest rest.0 (λ fs x. ReadsObject sig (declared_heads sig) vs ls (next_part w.wanted).place o fs x) (WrittenRead ls os (with_index w n).0 []) (WrittenRead ls (o ∷ os) w [])
      (λ fs gs a c. (n.0 ∷ c.0, c.1 ∙ append_assoc w.objects (n.0 ∷ []) c.0, indices_beyond (subst (λ t. ReadsObject sig (declared_heads sig) vs ls t o fs n.0) here a) c.2 refl))
      (object_read sig vs ls (next_part w.wanted).place o s) (written_read ls os (with_index w n).0 [] n.1 (ap (λ ps. (next_part ps).later) e))
  written_read ls (o ∷ os) w (t ∷ ts) s e =
      let n = fill_object sig (map with_known_type vs) ls (next_part w.wanted).place o s in
      let rest = left_along (written_index sig (map with_known_type vs) ls) (with_index w n) os in
      let here : (next_part w.wanted).place ≡ Some t = ap (λ ps. (next_part ps).place) e in
      read_then s n rest rest.0 (λ fs x. ReadsObject sig (declared_heads sig) vs ls (next_part w.wanted).place o fs x) (WrittenRead ls os (with_index w n).0 ts) (WrittenRead ls (o ∷ os) w (t ∷ ts))
      (λ fs gs a c. (n.0 ∷ c.0, c.1 ∙ append_assoc w.objects (n.0 ∷ []) c.0, indices_next (subst (λ t. ReadsObject sig (declared_heads sig) vs ls t o fs n.0) here a) c.2 refl))
      (object_read sig vs ls (next_part w.wanted).place o s) (written_read ls os (with_index w n).0 ts n.1 (ap (λ ps. (next_part ps).later) e))
