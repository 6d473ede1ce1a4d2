-- Erasure, entry by entry.
use Rattle.std.specs.Prelude.{List, [], ◌∷◌, map, ◌≡◌, refl}
use Rattle.std.proofs.Common.{ap}
use Rattle.clf_syntax.specs.declared.tree.Mode.{Mode}
use Rattle.clf_syntax.specs.TypeTree.{PlainType, telescope_of, SimpleType, simple_binding}
use Rattle.clf_syntax.specs.Simple.{erase, erase_telescope}
use Rattle.clf_syntax.specs.PlainSimple.{simple_telescope_of}

-- the simple type of an entry of a telescope
abbrev pub erase_entry : Mode × PlainType → Mode × SimpleType
erase_entry e = (e.0, erase e.1)

pub erase-telescope_of : (es : List (Mode × PlainType)) → erase_telescope (telescope_of es) ≡ simple_telescope_of (map erase_entry es)
erase-telescope_of [] = refl
erase-telescope_of (e ∷ es) = ap (simple_binding e.0 (erase e.1)) (erase-telescope_of es)

pub ruleset erasure_laws = (erase-telescope_of)
