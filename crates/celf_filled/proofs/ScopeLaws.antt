-- Local binders as they are kept: as locals, and their simple types, if these are known.
use Rattle.std.specs.Prelude.{ℕ, ◌+◌, ◌≡◌, ◌<◌, List, [], ◌∷◌, ◌++◌, map, reverse, length, take, drop, get_or, Option, None, Some, option_map, refl}
use Rattle.std.proofs.Common.{ap, sym, ◌∙◌}
use Rattle.std.proofs.lemmas.List.{take_more, map-append, reverse-append, take-append-drop}
use Rattle.clf_syntax.specs.declared.tree.Mode.{Mode}
use Rattle.clf_syntax.specs.TypeTree.{SimpleType}
use Rattle.pattern_laws.specs.Equations.{Locals}
use Rattle.celf_places.specs.Places.{Place}
use Rattle.celf_places.specs.Combined.{combined}
use Rattle.celf_places.specs.Locals.{Declared, plain_place, plain_locals}
use Rattle.celf_elaboration.specs.Fillings.{Scoped}
use Rattle.celf_elaboration.specs.Names.{as_local}
use Rattle.celf_filled.specs.Scopes.{DeclaredScope, declared_local, plain_scoped, plain_scope, known_local, known_locals}

pub as-locals : (ls : DeclaredScope) → map as_local (plain_scope ls) ≡ plain_locals (map declared_local ls)
as-locals [] = refl
as-locals (l ∷ ls) = ap (λ xs. as_local (plain_scoped l) ∷ xs) (as-locals ls)

pub ruleset scope_laws = (as-locals)

view_reversed : {W : Type 0} (view : W → Mode × Declared) (ws : List W) → map declared_local (reverse (map view ws)) ≡ reverse (map (λ w. (view w).1) ws)
view_reversed view [] = refl
view_reversed view (w ∷ ws) =
    ap (map declared_local) (reverse-append (view w ∷ []) (map view ws)) ∙ map-append declared_local (reverse (map view ws)) (view w ∷ []) ∙ ap (λ xs. xs ++ (view w).1 ∷ []) (view_reversed view ws)
    ∙ sym (reverse-append ((view w).1 ∷ []) (map (λ w. (view w).1) ws))

pub seen_locals : {W : Type 0} (view : W → Mode × Declared) (ws : List W) (self : DeclaredScope) → reverse (map view ws) ≡ self → reverse (map (λ w. (view w).1) ws) ≡ map declared_local self
seen_locals view ws self v = sym (view_reversed view ws) ∙ ap (map declared_local) v

none_last : (m : Mode) (p : Place) → combined (known_local m) p None ≡ None
none_last m None = refl
none_last m (Some t) = refl

-- One of the older ones is not known.
known_later : (front old : List Scoped) → known_locals old ≡ None → known_locals (front ++ old) ≡ None
known_later [] old e = e
known_later (x ∷ front) old e = rw (known_later front old e) (none_last x.mode x.place)

unknown : (m : Mode) (p : Place) (l : Option Locals) → ◌≡◌ {A = Option (Mode × SimpleType)} None (option_map (λ t. (m, t)) p) → combined (known_local m) p l ≡ None
unknown m None l e = refl
unknown m (Some t) l e = absurd (cc)

-- a binder whose simple type is not known, in a list that has the oldest first
pub not_known : {W : Type 0} (view : W → Mode × Declared) (ws given : List W) (i : ℕ) (w : W) (self : DeclaredScope) → i < length ws → w ≡ get_or ws i w → ws ≡ given → reverse (map view given) ≡ self
    → ◌≡◌ {A = Option (Mode × SimpleType)} None (option_map (λ t. ((view w).0, t)) (plain_place (view w).1.1)) → None ≡ known_locals (plain_scope self)
not_known view ws given i w self h e q v p =
    let older = plain_scope (reverse (map view (take i ws))) in
    let newer = plain_scope (reverse (map view (drop (i + 1) ws))) in
    let here : reverse (map view (take (i + 1) ws)) ≡ view w ∷ reverse (map view (take i ws)) =
    ap (λ xs. reverse (map view xs)) (take_more ws i w h ∙ ap (λ x. take i ws ++ x ∷ []) (sym e)) ∙ ap reverse (map-append view (take i ws) (w ∷ [])) ∙ reverse-append (map view (take i ws)) (view w ∷ []) in
    let all : self ≡ reverse (map view (drop (i + 1) ws)) ++ reverse (map view (take (i + 1) ws)) =
    sym v ∙ ap (λ xs. reverse (map view xs)) (sym q) ∙ ap (λ xs. reverse (map view xs)) (sym (take-append-drop (i + 1) ws)) ∙ ap reverse (map-append view (take (i + 1) ws) (drop (i + 1) ws)) ∙ reverse-append (map view (take (i + 1) ws)) (map view (drop (i + 1) ws)) in
    let parts : plain_scope self ≡ newer ++ plain_scoped (view w) ∷ older =
    ap plain_scope (all ∙ ap (λ xs. reverse (map view (drop (i + 1) ws)) ++ xs) here) ∙ map-append plain_scoped (reverse (map view (drop (i + 1) ws))) (view w ∷ reverse (map view (take i ws))) in
    sym (ap known_locals parts ∙ known_later newer (plain_scoped (view w) ∷ older) (unknown (view w).0 (plain_place (view w).1.1) (known_locals older) p))
