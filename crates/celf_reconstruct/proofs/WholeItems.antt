-- Where an item has a reading, the walk over it fills in all.
use Rattle.std.proofs.Common.{ℕ, zero, suc, ◌≡◌, ◌∙◌, Bool, true, refl, sym, ap, subst, List, [], ◌∷◌, map, Option, Some, None}
use Rattle.clf_syntax.specs.Tree.{PlainObject}
use Rattle.clf_syntax.specs.TypeTree.{SimpleType, PlainType, PlainTelescope, PlainKind}
use Rattle.clf_syntax.specs.Simple.{erase}
use Rattle.clf_syntax.specs.declared.tree.Mode.{Mode}
use Rattle.clf_sig.specs.Entry.{PlainSignature, entry_at}
use Rattle.clf_sig.specs.Core.{PlainCore}
use Rattle.celf_sugar.specs.PlainTree.{DesugaredObject, DesugaredType, DesugaredTelescope, DesugaredBody}
use Rattle.celf_places.specs.Places.{Place, next_part}
use Rattle.celf_places.specs.SimpleTypes.{simple_type}
use Rattle.celf_places.specs.Heads.{argument_entries, arguments_of}
use Rattle.celf_places.specs.Along.{left_along}
use Rattle.celf_elaboration.specs.Fillings.{Fillings, Scoped}
use Rattle.celf_elaboration.specs.Names.{ImplicitVariable}
use Rattle.celf_elaboration.specs.Declarations.{declared_heads}
use Rattle.celf_elaboration.specs.Items.{ReadsBody, reads_family_declaration, reads_constant_declaration, reads_query, reads_trace, reads_equation, reads_check}
use Rattle.celf_elaboration.specs.Readings.{ReadsObject, ReadsFilled, filled_none, filled_next, ReadsIndices, indices_none, indices_next, indices_beyond, ReadsType, reads_family, reads_function, reads_both, reads_top, reads_monad, ReadsTelescope, reads_end, reads_binding}
use Rattle.celf_filled.specs.Scopes.{with_known_type, implicit_after}
use Rattle.celf_filled.specs.States.{State}
use Rattle.celf_filled.specs.Walk.{fill_place, fill_object}
use Rattle.celf_filled.specs.WalkTypes.{Indices, no_indices_yet, with_index, fill_index, fill_first, written_index, fill_family, Bindings, no_bindings_yet, bound_local, with_binding, entry_with, fill_type, fill_telescope}
use Rattle.celf_filled.specs.WalkItems.{fill_against, fill_body}
use Rattle.celf_filled.proofs.WholeIndices.{persistent, arguments_persistent}
use Rattle.celf_filled.proofs.WholeTypes.{simple_known, type_read}
use Rattle.celf_reconstruct.proofs.WholeObjects.{IsWhole, place_whole, object_whole}

module _ (sig : PlainSignature) (vs : List ImplicitVariable) where
  abbrev xs : List (List ℕ × Place)
  xs = map with_known_type vs

  first_whole : {ls : List Scoped} {i : ℕ} {ts us : List SimpleType} {fs : Fillings} {ns : List PlainObject} → ReadsFilled sig (declared_heads sig) vs ls i ts fs ns us
      → (v : Indices) → v.wanted ≡ map persistent ts → (s : State) → IsWhole s → IsWhole (fill_first ls i (v, s)).1 × ((fill_first ls i (v, s)).0.wanted ≡ map persistent us)
  first_whole filled_none v e s w = (w, e)
  first_whole (filled_next {ls = ls} {t = t} {l = l} k q) v e s w =
      let next = fill_index ls (v, s) in
      first_whole q next.0 (ap (λ ps. (next_part ps).later) e) next.1 (subst (λ ps. IsWhole (fill_place ls (next_part ps).place s).1) (sym e) (place_whole ls t l k s w))

  written_whole : {ls : List Scoped} {ts : List SimpleType} {os : List DesugaredObject} {fs : Fillings} {ns : List PlainObject} → ReadsIndices sig (declared_heads sig) vs ls ts os fs ns
      → (v : Indices) → v.wanted ≡ map persistent ts → (s : State) → IsWhole s → IsWhole (left_along (written_index sig xs ls) (v, s) os).1
  written_whole indices_none v e s w = w
  written_whole (indices_next {ls = ls} {o = o} q rest i) v e s w =
      let next = written_index sig xs ls (v, s) o in
      written_whole rest next.0 (ap (λ ps. (next_part ps).later) e) next.1 (subst (λ ps. IsWhole (fill_object sig xs ls (next_part ps).place o s).1) (sym e) (object_whole sig vs q s w))
  written_whole (indices_beyond {ls = ls} {o = o} q rest i) v e s w =
      let next = written_index sig xs ls (v, s) o in
      written_whole rest next.0 (ap (λ ps. (next_part ps).later) e) next.1 (subst (λ ps. IsWhole (fill_object sig xs ls (next_part ps).place o s).1) (sym e) (object_whole sig vs q s w))

  family_whole : (ls : List Scoped) (dollar : Bool) (is : List DesugaredObject) (f : ℕ) (k : PlainKind) (ts : List SimpleType) (fs gs : Fillings) (ns os : List PlainObject)
      → arguments_of sig f ≡ map persistent (map erase k) → ReadsFilled sig (declared_heads sig) vs ls (implicit_after dollar (entry_at sig f)) (map erase k) fs ns ts
      → ReadsIndices sig (declared_heads sig) vs ls ts is gs os → (s : State) → IsWhole s → IsWhole (fill_family sig xs ls dollar is (Some f) s).1
  family_whole ls dollar is f k ts fs gs ns os e q r s w =
      let first = fill_first ls (implicit_after dollar (entry_at sig f)) (no_indices_yet (arguments_of sig f), s) in
      let there = first_whole q (no_indices_yet (arguments_of sig f)) e s w in
      written_whole r first.0 there.1 first.1 there.0

  mutual
    type_whole : {ls : List Scoped} {t : DesugaredType} {fs : Fillings} {a : PlainType} → ReadsType sig (declared_heads sig) vs ls t fs a → (s : State) → IsWhole s → IsWhole (fill_type sig xs ls t s).1
    type_whole (reads_family {ls = ls} {h = h} {is = is} {f = f} {k = k} {ts = ts} {fs = fs} {gs = gs} {ns = ns} {os = os} named kind q r e) s w =
        subst (λ o. IsWhole (fill_family sig xs ls h.dollar is o s).1) (sym named) (family_whole ls h.dollar is f k ts fs gs ns os (ap argument_entries kind ∙ arguments_persistent k) q r s w)
    type_whole (reads_function {ls = ls} {m = m} {n = n} {a = a} {b = b} {fs = fs} {c = c} q r e) s w =
        let first = fill_type sig xs ls a s in
        subst (λ t. IsWhole (fill_type sig xs (bound_local m n t ∷ ls) b first.1).1) (sym (simple_known sig vs ls a fs c q)) (type_whole r first.1 (type_whole q s w))
    type_whole (reads_both q r e) s w = type_whole r _ (type_whole q s w)
    type_whole reads_top s w = w
    type_whole (reads_monad {ls = ls} q) s w = telescope_whole q (no_bindings_yet ls) refl s w

    telescope_whole : {ls : List Scoped} {t : DesugaredTelescope} {fs : Fillings} {u : PlainTelescope} → ReadsTelescope sig (declared_heads sig) vs ls t fs u
        → (v : Bindings) → v.locals ≡ ls → (s : State) → IsWhole s → IsWhole (fill_telescope sig xs (v, s) t).1
    telescope_whole reads_end v e s w = w
    telescope_whole (reads_binding {ls = ls} {m = m} {n = n} {a = a} {t = t} {fs = fs} {c = c} q r i) v e s w =
        let next = with_binding v (bound_local m n (simple_type sig a)) (entry_with m (fill_type sig xs v.locals a s)) in
        telescope_whole r next.0 (ap (λ p. bound_local m n p ∷ v.locals) (simple_known sig vs ls a fs c q) ∙ ap (λ (k : List Scoped). bound_local m n (Some (erase c)) ∷ k) e) next.1
        (subst (λ (k : List Scoped). IsWhole (fill_type sig xs k a s).1) (sym e) (type_whole q s w))

  -- the simple type of what the walk makes of a type that has a reading
  same_simple : {t : DesugaredType} {fs : Fillings} {a : PlainType} → ReadsType sig (declared_heads sig) vs [] t fs a → (s : State) → IsWhole s → Some (erase (fill_type sig xs [] t s).0) ≡ Some (erase a)
  same_simple {t = t} {fs = fs} {a = a} q s w =
      let read = type_read sig vs [] t s in
      sym (simple_known sig vs [] t read.fillings (fill_type sig xs [] t s).0 (read.reads (type_whole q s w)).1) ∙ simple_known sig vs [] t fs a q

  against_whole : {t : DesugaredType} {fs gs : Fillings} {a : PlainType} {o : DesugaredObject} {n : PlainObject} → ReadsType sig (declared_heads sig) vs [] t fs a → (s : State) → IsWhole s
      → ReadsObject sig (declared_heads sig) vs [] (Some (erase a)) o gs n → (r : State) → IsWhole r → IsWhole (fill_against sig xs (fill_type sig xs [] t s).0 o r).1
  against_whole {o = o} q s w p r v = subst (λ u. IsWhole (fill_object sig xs [] u o r).1) (sym (same_simple q s w)) (object_whole sig vs p r v)

  pub body_whole : {body : DesugaredBody} {fs : Fillings} {core : PlainCore} → ReadsBody sig (declared_heads sig) vs body fs core → (s : State) → IsWhole s → IsWhole (fill_body sig xs body s).1
  body_whole (reads_family_declaration q) s w = telescope_whole q (no_bindings_yet []) refl s w
  body_whole (reads_constant_declaration q) s w = type_whole q s w
  body_whole (reads_query q) s w = type_whole q s w
  body_whole (reads_trace q) s w = telescope_whole q (no_bindings_yet []) refl s w
  body_whole (reads_equation {t = t} q l r) s w =
      let first = against_whole q s w l (fill_type sig xs [] t s).1 (type_whole q s w) in
      against_whole q s w r _ first
  body_whole (reads_check {t = t} q p) s w = against_whole q s w p (fill_type sig xs [] t s).1 (type_whole q s w)
