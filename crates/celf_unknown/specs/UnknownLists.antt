-- Inner: the names without a meaning in the parts of a list, as one list.
use Rattle.std.specs.Prelude.{ℕ, ◌≡◌, List, [], ◌∷◌, ◌++◌, refl}
use Rattle.std.specs.List.{flat_map}
use Rattle.std.proofs.Common.{ap}
use Rattle.celf_surface.specs.declared.surface.SMode.{SMode}
use Rattle.celf_sugar.specs.declared.plain.PName.{PName}
use Rattle.celf_sugar.specs.declared.plain.PBinder.{PBinder}
use Rattle.clf_sig.specs.Entry.{PlainSignature}
use Rattle.celf_sugar.specs.PlainTree.{DesugaredObject, DesugaredSpine, DesugaredAct, DesugaredEntry, spine_of, steps_of, tuple_of, telescope_of}
use Rattle.celf_names.specs.Names.{bound, bound_by_pattern}
use Rattle.celf_unknown.specs.Unknown.{bound_by_steps, unknown_head, unknown_in_object, unknown_in_spine, unknown_in_act, unknown_in_steps, unknown_in_tuple, unknown_in_type, unknown_in_telescope}

-- those of parts each of which binds names in the later ones
abbrev pub unknown_along : {X : Type 0} → (List (List ℕ) → X → List PName) → (X → List (List ℕ)) → List (List ℕ) → List X → List PName
unknown_along names binds scope [] = []
unknown_along names binds scope (x ∷ xs) = names scope x ++ unknown_along names binds (scope ++ binds x) xs

-- those of an entry of a tuple
abbrev pub unknown_in_marked : PlainSignature → List (List ℕ) → SMode × DesugaredObject → List PName
unknown_in_marked sig scope e = unknown_in_object sig scope e.1

-- those of a step, and the names that it binds
abbrev pub unknown_in_step : PlainSignature → List (List ℕ) → List PBinder × PName × DesugaredSpine → List PName
unknown_in_step sig scope s = unknown_head sig scope s.1 ++ unknown_in_spine sig scope s.2

abbrev pub bound_by_step : List PBinder × PName × DesugaredSpine → List (List ℕ)
bound_by_step s = bound_by_pattern s.0

-- those of an entry of a telescope, and the name that it binds
abbrev pub unknown_in_entry : PlainSignature → List (List ℕ) → DesugaredEntry → List PName
unknown_in_entry sig scope e = unknown_in_type sig scope e.2

abbrev pub bound_by_entry : DesugaredEntry → List (List ℕ)
bound_by_entry e = bound e.1

pub spine-listed : (sig : PlainSignature) (scope : List (List ℕ)) (as_ : List DesugaredAct) → unknown_in_spine sig scope (spine_of as_) ≡ flat_map (unknown_in_act sig scope) as_
spine-listed sig scope [] = refl
spine-listed sig scope (a ∷ as_) = ap (λ xs. unknown_in_act sig scope a ++ xs) (spine-listed sig scope as_)

pub tuple-listed : (sig : PlainSignature) (scope : List (List ℕ)) (es : List (SMode × DesugaredObject)) → unknown_in_tuple sig scope (tuple_of es) ≡ flat_map (unknown_in_marked sig scope) es
tuple-listed sig scope [] = refl
tuple-listed sig scope (e ∷ es) = ap (λ xs. unknown_in_object sig scope e.1 ++ xs) (tuple-listed sig scope es)

pub steps-listed : (sig : PlainSignature) (scope : List (List ℕ)) (ss : List (List PBinder × PName × DesugaredSpine)) → unknown_in_steps sig scope (steps_of ss) ≡ unknown_along (unknown_in_step sig) bound_by_step scope ss
steps-listed sig scope [] = refl
steps-listed sig scope (s ∷ ss) = ap (λ xs. unknown_in_step sig scope s ++ xs) (steps-listed sig (scope ++ bound_by_step s) ss)

pub steps-bound : (ss : List (List PBinder × PName × DesugaredSpine)) → bound_by_steps (steps_of ss) ≡ flat_map bound_by_step ss
steps-bound [] = refl
steps-bound (s ∷ ss) = ap (λ xs. bound_by_step s ++ xs) (steps-bound ss)

pub telescope-listed : (sig : PlainSignature) (scope : List (List ℕ)) (es : List DesugaredEntry) → unknown_in_telescope sig scope (telescope_of es) ≡ unknown_along (unknown_in_entry sig) bound_by_entry scope es
telescope-listed sig scope [] = refl
telescope-listed sig scope (e ∷ es) = ap (λ xs. unknown_in_entry sig scope e ++ xs) (telescope-listed sig (scope ++ bound_by_entry e) es)

pub ruleset listed_laws = (spine-listed, tuple-listed, steps-listed, steps-bound, telescope-listed)
