-- Inner: what contracts see of local binders: the name and the simple type of each; and their plain forms.
use Rattle.std.specs.Prelude.{ℕ, List, map, Option, option_map}
use Rattle.clf_syntax.specs.declared.tree.Simple.{Simple}
use Rattle.clf_syntax.specs.PlainSimple.{plain_simple}
use Rattle.celf_places.specs.Places.{Place}
use Rattle.celf_places.specs.Heads.{Local}

abbrev pub Declared : Type 0
Declared = Option (List ℕ) × Option Simple

abbrev pub plain_place : Option Simple → Place
plain_place t = option_map plain_simple t

abbrev pub plain_local : Declared → Local
plain_local l = (l.0, plain_place l.1)

abbrev pub plain_locals : List Declared → List Local
plain_locals ls = map plain_local ls
