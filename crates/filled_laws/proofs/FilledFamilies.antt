-- The simple types of what is filled in have the families of the signature.
use Rattle.std.proofs.Common.{ap, subst, sym, ◌∙◌}
use Rattle.std.proofs.lemmas.List.Elements.{All-append, All-head, All-nil, All-tail}
use Rattle.std.specs.List.{All}
use Rattle.std.specs.Option.{option_map, option_or}
use Rattle.std.specs.Prelude.{Bool, List, None, Option, Some, [], false, if◌then◌else◌, map, refl, true, ℕ, ◌++◌, ◌+◌, ◌∷◌, ◌≡◌}
use Rattle.clf_syntax.specs.Simple.{erase, erase_telescope}
use Rattle.clf_syntax.specs.Tree.{PlainNeutral, PlainObject}
use Rattle.clf_syntax.specs.TypeTree.{PlainKind, PlainTelescope, PlainType, SimpleType}
use Rattle.clf_syntax.specs.Word.{same_bytes}
use Rattle.clf_syntax.specs.declared.tree.Head.{Head}
use Rattle.clf_syntax.specs.declared.tree.Mode.{Mode}
use Rattle.clf_sig.specs.Core.{PlainCore}
use Rattle.clf_sig.specs.Entry.{PlainSignature, family_kind}
use Rattle.clf_rules.specs.WellFormed.{WellFormedSignature}
use Rattle.typing_laws.specs.SimpleTyping.{families_of}
use Rattle.pattern_laws.specs.Equations.{Locals}
use Rattle.metavars.specs.Fresh.{new_types, scope_of}
use Rattle.celf_sugar.specs.PlainTree.{DesugaredBody, DesugaredObject, DesugaredSpine, DesugaredSteps, DesugaredTelescope, DesugaredTuple, DesugaredType}
use Rattle.celf_sugar.specs.declared.plain.PBinder.{PBinder}
use Rattle.celf_sugar.specs.declared.plain.PName.{PName}
use Rattle.celf_names.specs.Names.{constant_named}
use Rattle.celf_places.specs.Heads.{Typed, local_from}
use Rattle.celf_places.specs.Places.{Place, entries_at, marked, next_part}
use Rattle.celf_elaboration.specs.Fillings.{Fillings, KnownLocals, Scoped, types_of_new}
use Rattle.celf_elaboration.specs.Items.{ReadsBody, reads_check, reads_constant_declaration, reads_equation, reads_family_declaration, reads_query, reads_trace}
use Rattle.celf_elaboration.specs.Names.{ImplicitVariable, Meaning, all_arguments, as_local, constant_meaning, implicit_from, meaning}
use Rattle.celf_elaboration.specs.Readings.{ReadsFilled, ReadsHead, ReadsImplicit, ReadsIndices, ReadsObject, ReadsSpine, ReadsSteps, ReadsTelescope, ReadsTuple, ReadsType, filled_next, filled_none, implicit_next, implicit_none, indices_beyond, indices_next, indices_none, reads_atomic, reads_binding, reads_both, reads_dropped, reads_end, reads_family, reads_function, reads_head, reads_hole, reads_lam, reads_monad, reads_monadic, reads_pair, reads_top, reads_unit, spine_argument, spine_end, spine_first, spine_second, steps_next, steps_none, tuple_end, tuple_entry, with_pattern}
use Rattle.celf_filled.specs.FormedTypes.{EachHasIndices}
use Rattle.celf_filled.specs.TypedFrom.{indices_of}
use Rattle.filled_laws.specs.Families.{HasFamilies}
use Rattle.filled_laws.specs.Laws.{FillingsHaveFamilies}
use Rattle.filled_laws.proofs.Families.{has_indices}
use Rattle.filled_laws.proofs.NewFamilies.{LocalsHave, indices_have, new_at}
use Rattle.filled_laws.proofs.Places.{EntriesOver, HeadOver, IsOver, LocalsOver, codomain_over, constant_over, domain_over, entries_over, left_over, local_from_over, next_over, right_over}

module _ (sig : PlainSignature) where
  abbrev ScopedOver : List Scoped → Type 0
  ScopedOver [] = Unit {0}
  ScopedOver (l ∷ ls) = IsOver sig l.place × ScopedOver ls

  abbrev FillingsOver : Fillings → Type 0
  FillingsOver [] = Unit {0}
  FillingsOver (f ∷ fs) = (LocalsHave sig f.locals × HasFamilies sig f.type) × FillingsOver fs

  abbrev MeaningOver : Option Meaning → Type 0
  MeaningOver None = Unit {0}
  MeaningOver (Some m) = IsOver sig m.place

  both_over : (fs gs hs : Fillings) → hs ≡ fs ++ gs → FillingsOver fs → FillingsOver gs → FillingsOver hs
  both_over fs gs hs e h k = subst FillingsOver (sym e) (joined fs h)
    where
      joined : (fs : Fillings) → FillingsOver fs → FillingsOver (fs ++ gs)
      joined [] h = k
      joined (f ∷ fs) h = (h.0, joined fs h.1)

  types_have : (fs : Fillings) → FillingsOver fs → All (HasFamilies sig) (types_of_new fs)
  types_have [] h = All-nil (HasFamilies sig)
  types_have (f ∷ fs) h = All-append (HasFamilies sig) (new_types (scope_of f.locals) f.type) (types_of_new fs) (new_at sig f.locals f.type h.0.0 h.0.1)
      (types_have fs h.1)

  known_over : (ls : List Scoped) (l : Locals) → KnownLocals ls l → ScopedOver ls → LocalsHave sig l
  known_over [] l p h = subst (LocalsHave sig) (sym p) tt
  known_over (x ∷ ls) l p h = let (t, k, e, f, q) = p in subst (LocalsHave sig) (sym f) (subst (IsOver sig) e h.0, known_over ls k q h.1)

  pattern_over : (ps : List (Mode × SimpleType)) (bs : List PBinder) (ls : List Scoped) → EntriesOver sig ps → ScopedOver ls
      → ScopedOver (with_pattern ls ps bs)
  pattern_over ps [] ls h k = k
  pattern_over ps (b ∷ bs) ls h k = let (x, y) = next_over sig ps h in
      pattern_over (next_part ps).later bs (record { mode = marked b.mode (next_part ps).mode; name = b.name; place = (next_part ps).place } ∷ ls) y (x, k)

  -- ---- what names mean

  local_places : (ls : List Scoped) → ScopedOver ls → LocalsOver sig (map as_local ls)
  local_places [] h = tt
  local_places (l ∷ ls) h = (h.0, local_places ls h.1)

  as_head : (h : Option Typed) → HeadOver sig h → MeaningOver (option_map all_arguments h)
  as_head None h = tt
  as_head (Some x) h = h

  one_of : (x y : Option Meaning) → MeaningOver x → MeaningOver y → MeaningOver (option_or x y)
  one_of None y h k = k
  one_of (Some m) y h k = h

  module _ (formed : WellFormedSignature sig) (heads : ℕ → Head) (vs : List ImplicitVariable) (have : All (λ v. HasFamilies sig v.type) vs) where
    as_constant : (dollar : Bool) (c : Option ℕ) → MeaningOver (option_map (constant_meaning sig dollar) c)
    as_constant dollar None = tt
    as_constant dollar (Some c) = constant_over sig formed c

    as_implicit : (x : ℕ) (name : List ℕ) (ws : List ImplicitVariable) → All (λ v. HasFamilies sig v.type) ws → MeaningOver (implicit_from heads x name ws)
    as_implicit x name [] h = tt
    as_implicit x name (v ∷ ws) h = here (same_bytes name v.name) (as_implicit (x + 1) name ws (All-tail (λ v. HasFamilies sig v.type) v ws h))
      where
        here : (b : Bool) → MeaningOver (implicit_from heads (x + 1) name ws)
            → MeaningOver (if b then Some (record { head = heads x; place = Some v.type; implicit = 0 }) else implicit_from heads (x + 1) name ws)
        here true k = All-head (λ v. HasFamilies sig v.type) v ws h
        here false k = k

    meaning_over : (ls : List Scoped) (n : PName) → ScopedOver ls → MeaningOver (meaning sig heads vs ls n)
    meaning_over ls n h = here n.dollar
      where
        here : (b : Bool) → MeaningOver (if b then option_map (constant_meaning sig true) (constant_named sig n.name)
            else option_or (option_map all_arguments (local_from 0 n.name (map as_local ls)))
            (option_or (option_map (constant_meaning sig false) (constant_named sig n.name)) (implicit_from heads 0 n.name vs)))
        here true = as_constant true (constant_named sig n.name)
        here false = one_of (option_map all_arguments (local_from 0 n.name (map as_local ls)))
            (option_or (option_map (constant_meaning sig false) (constant_named sig n.name)) (implicit_from heads 0 n.name vs))
            (as_head (local_from 0 n.name (map as_local ls)) (local_from_over sig 0 n.name (map as_local ls) (local_places ls h)))
            (one_of (option_map (constant_meaning sig false) (constant_named sig n.name)) (implicit_from heads 0 n.name vs) (as_constant false (constant_named sig n.name)) (as_implicit 0 n.name vs have))

    -- ---- readings

    implicit_over : {ls : List Scoped} {i : ℕ} {r x : PlainNeutral} {p u : Place} {fs : Fillings} → ReadsImplicit sig heads vs ls i r p fs x u
        → ScopedOver ls → IsOver sig p → FillingsOver fs × IsOver sig u
    implicit_over implicit_none h k = (tt, k)
    implicit_over {ls = ls} (implicit_next {l = l} known p) h k = let (x, y) = implicit_over p h k.1 in (((known_over ls l known h, k.0), x), y)

    head_over : {ls : List Scoped} {n : PName} {fs : Fillings} {r : PlainNeutral} {p : Place} → ReadsHead sig heads vs ls n fs r p → ScopedOver ls
        → FillingsOver fs × IsOver sig p
    head_over {ls = ls} {n = n} (reads_head e p) h = implicit_over p h (subst MeaningOver e (meaning_over ls n h))

    mutual
      object_over : {ls : List Scoped} {t : Place} {o : DesugaredObject} {fs : Fillings} {n : PlainObject} → ReadsObject sig heads vs ls t o fs n
          → ScopedOver ls → IsOver sig t → FillingsOver fs
      object_over (reads_lam {t = t} p) h k = object_over p (domain_over sig t k, h) (codomain_over sig t k)
      object_over (reads_pair {t = t} {fs = fs} {gs = gs} {hs = hs} p q e) h k = both_over fs gs hs e (object_over p h (left_over sig t k))
          (object_over q h (right_over sig t k))
      object_over reads_unit h k = tt
      object_over (reads_monadic {t = t} {fs = fs} {gs = gs} {hs = hs} p q e) h k = let (x, y) = steps_over p h in
          both_over fs gs hs e x (tuple_over q y (entries_over sig t k))
      object_over (reads_atomic {fs = fs} {gs = gs} {hs = hs} b p q e) h k = let (x, y) = head_over p h in both_over fs gs hs e x (spine_over q h y).0
      object_over (reads_dropped b) h k = tt
      object_over {ls = ls} (reads_hole {l = l} known) h k = ((known_over ls l known h, k), tt)

      spine_over : {ls : List Scoped} {r x : PlainNeutral} {p u : Place} {es : DesugaredSpine} {fs : Fillings} → ReadsSpine sig heads vs ls r p es fs x u
          → ScopedOver ls → IsOver sig p → FillingsOver fs × IsOver sig u
      spine_over spine_end h k = (tt, k)
      spine_over (spine_argument {p = p} {fs = fs} {gs = gs} {hs = hs} r q e) h k = let (x, y) = spine_over q h (codomain_over sig p k) in
          (both_over fs gs hs e (object_over r h (domain_over sig p k)) x, y)
      spine_over (spine_first {p = p} q) h k = spine_over q h (left_over sig p k)
      spine_over (spine_second {p = p} q) h k = spine_over q h (right_over sig p k)

      steps_over : {ls ks : List Scoped} {ss : DesugaredSteps} {fs : Fillings} {xs : List (List Mode × PlainNeutral)}
          → ReadsSteps sig heads vs ls ss fs xs ks → ScopedOver ls → FillingsOver fs × ScopedOver ks
      steps_over steps_none h = (tt, h)
      steps_over {ls = ls} (steps_next {u = u} {b = b} {fs = fs} {gs = gs} {ks' = ks'} {hs = hs} p q r e) h =
          let (x1, y1) = head_over p h in let (x2, y2) = spine_over q h y1 in
          let (x3, y3) = steps_over r (pattern_over (entries_at u) b ls (entries_over sig u y2) h) in
          (both_over (fs ++ gs) ks' hs e (both_over fs gs (fs ++ gs) refl x1 x2) x3, y3)

      tuple_over : {ls : List Scoped} {ps : List (Mode × SimpleType)} {u : DesugaredTuple} {fs : Fillings} {es : List (Mode × PlainObject)}
          → ReadsTuple sig heads vs ls ps u fs es → ScopedOver ls → EntriesOver sig ps → FillingsOver fs
      tuple_over tuple_end h k = tt
      tuple_over (tuple_entry {ps = ps} {fs = fs} {gs = gs} {hs = hs} p q e) h k = let (x, y) = next_over sig ps k in
          both_over fs gs hs e (object_over p h x) (tuple_over q h y)

    filled_over : {ls : List Scoped} {i : ℕ} {ts us : List SimpleType} {fs : Fillings} {ns : List PlainObject} → ReadsFilled sig heads vs ls i ts fs ns us
        → ScopedOver ls → All (HasFamilies sig) ts
        → FillingsOver fs × All (HasFamilies sig) us
    filled_over filled_none h k = (tt, k)
    filled_over {ls = ls} (filled_next {t = t} {ts = ts} {l = l} known p) h k = let (x, y) = filled_over p h (All-tail (HasFamilies sig) t ts k) in
        (((known_over ls l known h, All-head (HasFamilies sig) t ts k), x), y)

    indices_over : {ls : List Scoped} {ts : List SimpleType} {os : List DesugaredObject} {fs : Fillings} {ns : List PlainObject}
        → ReadsIndices sig heads vs ls ts os fs ns → ScopedOver ls → All (HasFamilies sig) ts → FillingsOver fs
    indices_over indices_none h k = tt
    indices_over (indices_next {t = t} {ts = ts} {fs = fs} {gs = gs} {hs = hs} p q e) h k = both_over fs gs hs e
        (object_over p h (All-head (HasFamilies sig) t ts k)) (indices_over q h (All-tail (HasFamilies sig) t ts k))
    indices_over (indices_beyond {fs = fs} {gs = gs} {hs = hs} p q e) h k = both_over fs gs hs e (object_over p h tt) (indices_over q h k)

    kind_have : (f : ℕ) (k : PlainKind) → family_kind sig f ≡ Some k → All (HasFamilies sig) (map erase k)
    kind_have f k e = subst (All (HasFamilies sig)) (the_types (sym (has_indices sig f (map erase k) e') ∙ e')) (indices_have sig formed f)
      where
        e' : families_of sig f ≡ Some (map erase k)
        e' = ap (option_map (map erase)) e

        the_types : {a b : List SimpleType} → Some a ≡ Some b → a ≡ b
        the_types e = cc

    mutual
      type_over : {ls : List Scoped} {t : DesugaredType} {fs : Fillings} {a : PlainType} → ReadsType sig heads vs ls t fs a → ScopedOver ls
          → FillingsOver fs × HasFamilies sig (erase a)
      type_over (reads_family {f = f} {k = k} {fs = fs} {gs = gs} {hs = hs} i j p q e) h = let (x, y) = filled_over p h (kind_have f k j) in
          (both_over fs gs hs e x (indices_over q h y), has_indices sig f (map erase k) (ap (option_map (map erase)) j))
      type_over (reads_function {fs = fs} {gs = gs} {hs = hs} p q e) h = let (x1, y1) = type_over p h in let (x2, y2) = type_over q (y1, h) in
          (both_over fs gs hs e x1 x2, (y1, y2))
      type_over (reads_both {fs = fs} {gs = gs} {hs = hs} p q e) h = let (x1, y1) = type_over p h in let (x2, y2) = type_over q h in
          (both_over fs gs hs e x1 x2, (y1, y2))
      type_over reads_top h = (tt, tt)
      type_over (reads_monad p) h = telescope_over p h

      telescope_over : {ls : List Scoped} {t : DesugaredTelescope} {fs : Fillings} {s : PlainTelescope} → ReadsTelescope sig heads vs ls t fs s → ScopedOver ls
          → FillingsOver fs × EachHasIndices (families_of sig) (indices_of sig) (erase_telescope s)
      telescope_over reads_end h = (tt, tt)
      telescope_over (reads_binding {fs = fs} {gs = gs} {hs = hs} p q e) h = let (x1, y1) = type_over p h in let (x2, y2) = telescope_over q (y1, h) in
          (both_over fs gs hs e x1 x2, (y1, y2))

    body_over : {body : DesugaredBody} {fs : Fillings} {c : PlainCore} → ReadsBody sig heads vs body fs c → FillingsOver fs
    body_over (reads_family_declaration p) = (telescope_over p tt).0
    body_over (reads_constant_declaration p) = (type_over p tt).0
    body_over (reads_query p) = (type_over p tt).0
    body_over (reads_trace p) = (telescope_over p tt).0
    body_over (reads_equation {fs = fs} {gs = gs} {hs = hs} p q r) = let (x, y) = type_over p tt in
        both_over (fs ++ gs) hs ((fs ++ gs) ++ hs) refl (both_over fs gs (fs ++ gs) refl x (object_over q tt y)) (object_over r tt y)
    body_over (reads_check {fs = fs} {gs = gs} p q) = let (x, y) = type_over p tt in both_over fs gs (fs ++ gs) refl x (object_over q tt y)

pub fillings_have_families : FillingsHaveFamilies
fillings_have_families sig heads vs body fs core formed have p = types_have sig fs (body_over sig formed heads vs have p)
