-- Inner: locals that were added to, and the types of a telescope's entries.
use Rattle.std.specs.Prelude.{◌≡◌, List, [], ◌∷◌, ◌++◌, map, refl}
use Rattle.std.proofs.Common.{ap}
use Rattle.clf_syntax.specs.declared.tree.Mode.{Mode}
use Rattle.clf_syntax.specs.TypeTree.{PlainType, telescope_of}
use Rattle.celf_explicit.specs.Types.{kind_of}

-- the newer locals stand in front of the older ones
abbrev pub GrownFrom : {X : Type 0} → List X → List X → Type 0
GrownFrom {X = X} old new = (front : List X) × (new ≡ front ++ old)

-- the type of an entry
abbrev pub entry_type : Mode × PlainType → PlainType
entry_type e = e.1

pub kind-listed : (es : List (Mode × PlainType)) → kind_of (telescope_of es) ≡ map entry_type es
kind-listed [] = refl
kind-listed (e ∷ es) = ap (λ ts. e.1 ∷ ts) (kind-listed es)

pub ruleset kind_laws = (kind-listed)
