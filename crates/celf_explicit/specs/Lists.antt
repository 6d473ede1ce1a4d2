-- Inner: the readings of lists, each part in the state that those before it left.
use Rattle.std.specs.Prelude.{◌≡◌, List, [], ◌∷◌, Option, Some, None, option_map, refl}
use Rattle.std.proofs.Common.{ap}
use Rattle.clf_syntax.specs.declared.tree.Mode.{Mode}
use Rattle.clf_syntax.specs.Tree.{PlainObject, PlainNeutral}
use Rattle.clf_syntax.specs.TypeTree as core_type
use Rattle.clf_syntax.specs.TypeTree.{SimpleType, PlainType, PlainTelescope}
use Rattle.clf_sig.specs.Entry.{PlainSignature}
use Rattle.celf_surface.specs.declared.surface.SMode.{SMode}
use Rattle.celf_sugar.specs.declared.plain.PName.{PName}
use Rattle.celf_sugar.specs.declared.plain.PBinder.{PBinder}
use Rattle.celf_sugar.specs.PlainTree.{DesugaredObject, DesugaredAct, DesugaredSpine, DesugaredEntry, spine_of, steps_of, tuple_of, telescope_of}
use Rattle.celf_places.specs.Places.{Place, marked, next_part, behind_act}
use Rattle.celf_places.specs.Heads.{Local, place_of_head, head}
use Rattle.celf_places.specs.Combined.{combined, with_mode}
use Rattle.celf_explicit.specs.Objects.{under_spine, step_entries, pattern_modes, with_pattern, with_steps, read_object, read_spine, read_act, read_steps, read_tuple}
use Rattle.celf_places.specs.SimpleTypes.{local_of}
use Rattle.celf_places.specs.Along.{read_along, left_along}
use Rattle.celf_explicit.specs.Types.{read_indices, read_type, read_telescope}

-- ---- the parts

abbrev pub PlainStep : Type 0
PlainStep = List PBinder × PName × DesugaredSpine

abbrev pub entries_of_step : PlainSignature → List Local → PlainStep → List (Mode × SimpleType)
entries_of_step sig ls s = step_entries sig ls s.1 s.2

abbrev pub read_applied : PlainSignature → List Local → PName → DesugaredSpine → Option PlainNeutral
read_applied sig ls h es = combined under_spine (head sig ls h) (read_spine sig ls (place_of_head (head sig ls h)) es)

abbrev pub read_step : PlainSignature → List Local → PlainStep → Option (List Mode × PlainNeutral)
read_step sig ls s = option_map (with_mode (pattern_modes (entries_of_step sig ls s) s.0)) (read_applied sig ls s.1 s.2)

abbrev pub behind_step : PlainSignature → List Local → PlainStep → List Local
behind_step sig ls s = with_pattern ls (entries_of_step sig ls s) s.0

-- what is wanted of parts after one of them
abbrev pub later_parts : {X : Type 0} → List (Mode × SimpleType) → X → List (Mode × SimpleType)
later_parts ps x = (next_part ps).later

abbrev pub read_marked : PlainSignature → List Local → List (Mode × SimpleType) → SMode × DesugaredObject → Option (Mode × PlainObject)
read_marked sig ls ps e = option_map (with_mode (marked e.0 (next_part ps).mode)) (read_object sig ls (next_part ps).place e.1)

abbrev pub read_index : PlainSignature → List Local → List (Mode × SimpleType) → DesugaredObject → Option PlainObject
read_index sig ls ps o = read_object sig ls (next_part ps).place o

abbrev pub read_entry : PlainSignature → List Local → DesugaredEntry → Option (Mode × PlainType)
read_entry sig ls e = option_map (with_mode e.0) (read_type sig ls e.2)

abbrev pub behind_entry : PlainSignature → List Local → DesugaredEntry → List Local
behind_entry sig ls e = local_of sig e.1 e.2 ∷ ls

-- ---- the lists

pub spine-along : (sig : PlainSignature) (ls : List Local) (t : Place) (as_ : List DesugaredAct) → read_spine sig ls t (spine_of as_) ≡ read_along (read_act sig ls) behind_act t as_
spine-along sig ls t [] = refl
spine-along sig ls t (a ∷ as_) = ap (combined (◌∷◌) (read_act sig ls t a)) (spine-along sig ls (behind_act t a) as_)

pub steps-along : (sig : PlainSignature) (ls : List Local) (ss : List PlainStep) → read_steps sig ls (steps_of ss) ≡ read_along (read_step sig) (behind_step sig) ls ss
steps-along sig ls [] = refl
steps-along sig ls (s ∷ ss) = ap (combined (◌∷◌) (read_step sig ls s)) (steps-along sig (behind_step sig ls s) ss)

pub locals-along : (sig : PlainSignature) (ls : List Local) (ss : List PlainStep) → with_steps sig ls (steps_of ss) ≡ left_along (behind_step sig) ls ss
locals-along sig ls [] = refl
locals-along sig ls (s ∷ ss) = locals-along sig (behind_step sig ls s) ss

pub tuple-along : (sig : PlainSignature) (ls : List Local) (ps : List (Mode × SimpleType)) (es : List (SMode × DesugaredObject)) → read_tuple sig ls ps (tuple_of es) ≡ read_along (read_marked sig ls) later_parts ps es
tuple-along sig ls ps [] = refl
tuple-along sig ls ps (e ∷ es) = ap (combined (◌∷◌) (read_marked sig ls ps e)) (tuple-along sig ls (next_part ps).later es)

pub indices-along : (sig : PlainSignature) (ls : List Local) (ps : List (Mode × SimpleType)) (os : List DesugaredObject) → read_indices sig ls ps os ≡ read_along (read_index sig ls) later_parts ps os
indices-along sig ls ps [] = refl
indices-along sig ls ps (o ∷ os) = ap (combined (◌∷◌) (read_index sig ls ps o)) (indices-along sig ls (next_part ps).later os)

into-entry : (m : Mode) (a : Option PlainType) (s : Option PlainTelescope) (es : Option (List (Mode × PlainType))) → s ≡ option_map core_type.telescope_of es
    → combined (core_type.binding m) a s ≡ option_map core_type.telescope_of (combined (◌∷◌) (option_map (with_mode m) a) es)
into-entry m None s es e = refl
into-entry m (Some a) s None e = ap (combined (core_type.binding m) (Some a)) e
into-entry m (Some a) s (Some es) e = ap (combined (core_type.binding m) (Some a)) e

pub telescope-along : (sig : PlainSignature) (ls : List Local) (es : List DesugaredEntry) → read_telescope sig ls (telescope_of es) ≡ option_map core_type.telescope_of (read_along (read_entry sig) (behind_entry sig) ls es)
telescope-along sig ls [] = refl
telescope-along sig ls (e ∷ es) =
    into-entry e.0 (read_type sig ls e.2) (read_telescope sig (behind_entry sig ls e) (telescope_of es)) (read_along (read_entry sig) (behind_entry sig) (behind_entry sig ls e) es) (telescope-along sig (behind_entry sig ls e) es)

pub ruleset object_list_laws = (spine-along)

pub ruleset expression_list_laws = (steps-along, locals-along, tuple-along)

pub ruleset type_list_laws = (telescope-along)

pub ruleset index_list_laws = (indices-along)
