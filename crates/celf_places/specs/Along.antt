-- Inner: the reading of a list whose parts each leave a state for the later ones; and spines, and the simple types of entries, as such ones.
use Rattle.std.specs.Prelude.{◌≡◌, List, [], ◌∷◌, ◌++◌, Option, Some, None, option_map, refl}
use Rattle.std.proofs.Common.{ap}
use Rattle.clf_syntax.specs.declared.tree.Mode.{Mode}
use Rattle.clf_syntax.specs.TypeTree as core_type
use Rattle.clf_syntax.specs.TypeTree.{SimpleType, SimpleTelescope}
use Rattle.clf_syntax.specs.PlainSimple.{simple_telescope_of}
use Rattle.clf_sig.specs.Entry.{PlainSignature}
use Rattle.celf_sugar.specs.PlainTree.{DesugaredAct, DesugaredEntry, spine_of, telescope_of}
use Rattle.celf_places.specs.Combined.{combined, with_mode}
use Rattle.celf_places.specs.Places.{Place, behind_act, behind_spine}
use Rattle.celf_places.specs.SimpleTypes.{simple_type, simple_telescope, local_of}

-- each part is read in the state that those before it left
abbrev pub read_along : {S X Y : Type 0} → (S → X → Option Y) → (S → X → S) → S → List X → Option (List Y)
read_along read next s [] = Some []
read_along read next s (x ∷ xs) = combined (◌∷◌) (read s x) (read_along read next (next s x) xs)

-- parts with more after them, if these are there
abbrev pub with_some : {Y : Type 0} → List Y → Option (List Y) → Option (List Y)
with_some es more = option_map (λ fs. es ++ fs) more

-- the state that all of them leave
abbrev pub left_along : {S X : Type 0} → (S → X → S) → S → List X → S
left_along next s [] = s
left_along next s (x ∷ xs) = left_along next (next s x) xs

-- ---- the parts

-- the place of what an entry binds
abbrev pub bound_place : PlainSignature → DesugaredEntry → Place
bound_place sig e = (local_of sig e.1 e.2).1

abbrev pub simple_entry : PlainSignature → Unit {0} → DesugaredEntry → Option (Mode × SimpleType)
simple_entry sig u e = option_map (with_mode e.0) (simple_type sig e.2)

-- there is no state
abbrev pub stateless : {X : Type 0} → Unit {0} → X → Unit {0}
stateless u x = u

-- ---- the lists

pub behind-along : (t : Place) (as_ : List DesugaredAct) → behind_spine t (spine_of as_) ≡ left_along behind_act t as_
behind-along t [] = refl
behind-along t (a ∷ as_) = behind-along (behind_act t a) as_

into-simple : (m : Mode) (a : Place) (s : Option SimpleTelescope) (es : Option (List (Mode × SimpleType))) → s ≡ option_map simple_telescope_of es
    → combined (core_type.simple_binding m) a s ≡ option_map simple_telescope_of (combined (◌∷◌) (option_map (with_mode m) a) es)
into-simple m None s es e = refl
into-simple m (Some a) s None e = ap (combined (core_type.simple_binding m) (Some a)) e
into-simple m (Some a) s (Some es) e = ap (combined (core_type.simple_binding m) (Some a)) e

pub simple-along : (sig : PlainSignature) (u : Unit {0}) (es : List DesugaredEntry) → simple_telescope sig (telescope_of es) ≡ option_map simple_telescope_of (read_along (simple_entry sig) stateless u es)
simple-along sig u [] = refl
simple-along sig u (e ∷ es) =
    into-simple e.0 (simple_type sig e.2) (simple_telescope sig (telescope_of es)) (read_along (simple_entry sig) stateless u es) (simple-along sig u es)

pub ruleset simple_list_laws = (simple-along)
