-- Inner: what contracts see of the entries of a monad's place.
use Rattle.std.specs.Prelude.{◌≡◌, List, [], ◌∷◌, refl}
use Rattle.std.proofs.Common.{ap}
use Rattle.clf_syntax.specs.declared.tree.Mode.{Mode}
use Rattle.clf_syntax.specs.TypeTree.{SimpleType}
use Rattle.clf_syntax.specs.PlainSimple.{simple_telescope_of}
use Rattle.celf_places.specs.Places.{entries_of}

pub entries-listed : (es : List (Mode × SimpleType)) → entries_of (simple_telescope_of es) ≡ es
entries-listed [] = refl
entries-listed (e ∷ es) = ap (λ xs. e ∷ xs) (entries-listed es)

pub ruleset entry_laws = (entries-listed)
