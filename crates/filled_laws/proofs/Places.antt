-- The simple types at places of an item have the families of the signature.
use Rattle.std.proofs.Common.{ap, subst, sym, ⊎_elim}
use Rattle.std.specs.List.{slice_get}
use Rattle.std.specs.Option.{option_map}
use Rattle.std.specs.Prelude.{Bool, List, None, Option, Some, [], drop, false, if◌then◌else◌, map, refl, suc, true, zero, ℕ, ◌+◌, ◌∷◌, ◌≡◌}
use Rattle.clf_syntax.specs.Simple.{SimplyFormedKind, erase, extended, Assignment}
use Rattle.clf_syntax.specs.TypeTree.{PlainKind, PlainType, SimpleTelescope, SimpleType, arrow, base, lax, simple_binding, simple_end, simple_top, simple_with}
use Rattle.clf_syntax.specs.declared.tree.Head.TheVariants.{Var}
use Rattle.clf_syntax.specs.declared.tree.Mode.{Mode}
use Rattle.clf_sig.specs.Entry.{PlainSignature, constant_type, family_kind, simple_types}
use Rattle.clf_rules.proofs.Signatures.{entries_well_formed}
use Rattle.clf_rules.specs.WellFormed.{WellFormedSignature}
use Rattle.typing_laws.proofs.FormedTypes.{well_formed_is_simply_formed}
use Rattle.typing_laws.specs.SimpleTyping.{families_of, simple_of}
use Rattle.celf_sugar.specs.PlainTree.{DesugaredAct, DesugaredSpine, DesugaredTelescope, DesugaredType, and_then, argument, binding, both, end, end_of_spine, family, first, function, monad, second, top}
use Rattle.celf_names.specs.Names.{family_named}
use Rattle.celf_places.specs.Combined.{combined}
use Rattle.celf_places.specs.Heads.{Local, Typed, argument_entries, argument_entry, arguments_of, has_name, local_from}
use Rattle.celf_places.specs.Places.{Place, behind_act, behind_spine, entries_at, entries_of, function_parts, next_part, pair_parts}
use Rattle.celf_places.specs.SimpleTypes.{local_of, simple_telescope, simple_type}
use Rattle.celf_filled.specs.FormedTypes.{EachHasIndices}
use Rattle.celf_filled.specs.TypedFrom.{indices_of}
use Rattle.celf_filled.proofs.WholeIndices.{family_has_kind}
use Rattle.gathered_laws.proofs.SameTypes.{IsSame, constant_same}
use Rattle.filled_laws.specs.Families.{HasFamilies}
use Rattle.filled_laws.proofs.Families.{has_indices, in_type}

module _ (sig : PlainSignature) where
  abbrev pub IsOver : Place → Type 0
  IsOver None = Unit {0}
  IsOver (Some t) = HasFamilies sig t

  abbrev pub EntriesOver : List (Mode × SimpleType) → Type 0
  EntriesOver [] = Unit {0}
  EntriesOver (e ∷ es) = HasFamilies sig e.1 × EntriesOver es

  abbrev pub LocalsOver : List Local → Type 0
  LocalsOver [] = Unit {0}
  LocalsOver (l ∷ ls) = IsOver l.1 × LocalsOver ls

  abbrev pub TelescopeOver : Option SimpleTelescope → Type 0
  TelescopeOver None = Unit {0}
  TelescopeOver (Some s) = EachHasIndices (families_of sig) (indices_of sig) s

  abbrev pub HeadOver : Option Typed → Type 0
  HeadOver None = Unit {0}
  HeadOver (Some h) = IsOver h.1

  -- ---- parts of places

  pub domain_over : (p : Place) → IsOver p → IsOver (function_parts p).domain
  domain_over None h = tt
  domain_over (Some (base f)) h = tt
  domain_over (Some (arrow m d c)) h = h.0
  domain_over (Some (simple_with c d)) h = tt
  domain_over (Some simple_top) h = tt
  domain_over (Some (lax s)) h = tt

  pub codomain_over : (p : Place) → IsOver p → IsOver (function_parts p).codomain
  codomain_over None h = tt
  codomain_over (Some (base f)) h = tt
  codomain_over (Some (arrow m d c)) h = h.1
  codomain_over (Some (simple_with c d)) h = tt
  codomain_over (Some simple_top) h = tt
  codomain_over (Some (lax s)) h = tt

  pub left_over : (p : Place) → IsOver p → IsOver (pair_parts p).left
  left_over None h = tt
  left_over (Some (base f)) h = tt
  left_over (Some (arrow m d c)) h = tt
  left_over (Some (simple_with c d)) h = h.0
  left_over (Some simple_top) h = tt
  left_over (Some (lax s)) h = tt

  pub right_over : (p : Place) → IsOver p → IsOver (pair_parts p).right
  right_over None h = tt
  right_over (Some (base f)) h = tt
  right_over (Some (arrow m d c)) h = tt
  right_over (Some (simple_with c d)) h = h.1
  right_over (Some simple_top) h = tt
  right_over (Some (lax s)) h = tt

  of_telescope : (s : SimpleTelescope) → EachHasIndices (families_of sig) (indices_of sig) s → EntriesOver (entries_of s)
  of_telescope simple_end h = tt
  of_telescope (simple_binding m t s) h = (h.0, of_telescope s h.1)

  pub entries_over : (p : Place) → IsOver p → EntriesOver (entries_at p)
  entries_over None h = tt
  entries_over (Some (base f)) h = tt
  entries_over (Some (arrow m d c)) h = tt
  entries_over (Some (simple_with c d)) h = tt
  entries_over (Some simple_top) h = tt
  entries_over (Some (lax s)) h = of_telescope s h

  pub next_over : (ps : List (Mode × SimpleType)) → EntriesOver ps → IsOver (next_part ps).place × EntriesOver (next_part ps).later
  next_over [] h = (tt, tt)
  next_over (e ∷ es) h = h

  act_over : (p : Place) (a : DesugaredAct) → IsOver p → IsOver (behind_act p a)
  act_over p (argument m o) h = codomain_over p h
  act_over p first h = left_over p h
  act_over p second h = right_over p h

  pub spine_over : (p : Place) (es : DesugaredSpine) → IsOver p → IsOver (behind_spine p es)
  spine_over p end_of_spine h = h
  spine_over p (and_then a es) h = spine_over (behind_act p a) es (act_over p a h)

  pub dropped_over : (n : ℕ) (ps : List (Mode × SimpleType)) → EntriesOver ps → EntriesOver (drop n ps)
  dropped_over zero ps h = h
  dropped_over (suc n) [] h = tt
  dropped_over (suc n) (e ∷ es) h = dropped_over n es h.1

  -- ---- written types

  family_over : (p : Option ℕ) → ((f : ℕ) → p ≡ Some f → (k : PlainKind) × (family_kind sig f ≡ Some k)) → IsOver (option_map base p)
  family_over None g = tt
  family_over (Some f) g = let (k, e) = g f refl in has_indices sig f (map erase k) (ap (option_map (map erase)) e)

  monad_over : (p : Option SimpleTelescope) → TelescopeOver p → IsOver (option_map lax p)
  monad_over None h = tt
  monad_over (Some s) h = h

  binding_over : (m : Mode) (p : Place) (q : Option SimpleTelescope) → IsOver p → TelescopeOver q → TelescopeOver (combined (simple_binding m) p q)
  binding_over m (Some t) (Some s) h k = (h, k)
  binding_over m (Some t) None h k = tt
  binding_over m None q h k = tt

  mutual
    pub type_over : (t : DesugaredType) → IsOver (simple_type sig t)
    type_over (family s h is) = family_over (family_named sig h.name) (family_has_kind sig h.name)
    type_over (function s m n a b) = function_over m (simple_type sig a) (simple_type sig b) (type_over a) (type_over b)
      where
        function_over : (m : Mode) (p q : Place) → IsOver p → IsOver q → IsOver (combined (arrow m) p q)
        function_over m (Some t) (Some u) h k = (h, k)
        function_over m (Some t) None h k = tt
        function_over m None q h k = tt
    type_over (both s a b) = both_over (simple_type sig a) (simple_type sig b) (type_over a) (type_over b)
      where
        both_over : (p q : Place) → IsOver p → IsOver q → IsOver (combined simple_with p q)
        both_over (Some t) (Some u) h k = (h, k)
        both_over (Some t) None h k = tt
        both_over None q h k = tt
    type_over (top s) = tt
    type_over (monad s t) = monad_over (simple_telescope sig t) (telescope_over t)

    telescope_over : (t : DesugaredTelescope) → TelescopeOver (simple_telescope sig t)
    telescope_over end = tt
    telescope_over (binding m n a t) = binding_over m (simple_type sig a) (simple_telescope sig t) (type_over a) (telescope_over t)

  pub local_over : (n : Option (List ℕ)) (a : DesugaredType) → IsOver (local_of sig n a).1
  local_over None a = tt
  local_over (Some n) a = type_over a

  pub local_from_over : (k : ℕ) (name : List ℕ) (ls : List Local) → LocalsOver ls → HeadOver (local_from k name ls)
  local_from_over k name [] h = tt
  local_from_over k name (l ∷ ls) h = here (has_name name l) (local_from_over (k + 1) name ls h.1)
    where
      here : (b : Bool) → HeadOver (local_from (k + 1) name ls) → HeadOver (if b then Some (Var k, l.1) else local_from (k + 1) name ls)
      here true q = h.0
      here false q = q

  -- ---- the signature

  kind_over : (g : Assignment) (k : PlainKind) → SimplyFormedKind (families_of sig) g k → EntriesOver (map argument_entry k)
  kind_over g [] p = tt
  kind_over g (a ∷ k) p = (in_type sig g a p.0, kind_over (extended (erase a) g) k p.1)

  module _ (formed : WellFormedSignature sig) where
    pub arguments_over : (f : ℕ) → EntriesOver (arguments_of sig f)
    arguments_over f = of_kind (family_kind sig f) refl
      where
        of_kind : (k : Option PlainKind) → family_kind sig f ≡ k → EntriesOver (argument_entries k)
        of_kind None e = tt
        of_kind (Some k) e = kind_over (simple_of sig []) k ((well_formed_is_simply_formed sig []).kinds true k ((entries_well_formed sig formed).0 f k e))

    pub constant_over : (c : ℕ) → IsOver (slice_get (simple_types sig) c)
    constant_over c = of_type (constant_type sig c) refl (slice_get (simple_types sig) c) (constant_same sig c)
      where
        of_type : (x : Option PlainType) → constant_type sig c ≡ x → (y : Place) → IsSame y (option_map erase x) → IsOver y
        of_type None e y s = nothing y s
          where
            nothing : (y : Place) → IsSame y None → IsOver y
            nothing y s = ⊎_elim (λ i. subst IsOver (sym i) tt) (λ i. subst IsOver (sym i.0) tt) s
        of_type (Some a) e y s = ⊎_elim
            (λ i. subst IsOver (sym i) (in_type sig (simple_of sig []) a ((well_formed_is_simply_formed sig []).types true a ((entries_well_formed sig formed).1 c a e))))
            (λ i. subst IsOver (sym i.0) tt) s
