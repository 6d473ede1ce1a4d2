-- The explicit reading of types, telescopes and kinds.
use Rattle.std.specs.Prelude.{ℕ, List, [], ◌∷◌, Option, Some, None, option_map, option_and_then}
use Rattle.clf_syntax.specs.declared.tree.Mode.{Mode}
use Rattle.clf_syntax.specs.Tree.{PlainObject}
use Rattle.clf_syntax.specs.TypeTree as core
use Rattle.clf_syntax.specs.TypeTree.{SimpleType}
use Rattle.clf_sig.specs.Entry.{PlainSignature}
use Rattle.celf_sugar.specs.PlainTree.{DesugaredObject, DesugaredType, family, function, both, top, monad, DesugaredTelescope, end, binding}
use Rattle.celf_places.specs.Places.{next_part}
use Rattle.celf_places.specs.Heads.{Local, family_head, arguments_of}
use Rattle.celf_places.specs.SimpleTypes.{local_of}
use Rattle.celf_places.specs.Combined.{combined}
use Rattle.celf_explicit.specs.Objects.{read_object}

-- the indices of a family, each at what is wanted of it
abbrev pub read_indices : PlainSignature → List Local → List (Mode × SimpleType) → List DesugaredObject → Option (List PlainObject)
read_indices sig ls ps [] = Some []
read_indices sig ls ps (o ∷ os) = combined (◌∷◌) (read_object sig ls (next_part ps).place o) (read_indices sig ls (next_part ps).later os)

abbrev pub at_indices : PlainSignature → List Local → List DesugaredObject → ℕ → Option core.PlainType
at_indices sig ls is f = option_map (core.family f) (read_indices sig ls (arguments_of sig f) is)

-- The type that is written, over these locals. None where something would have to be found, or a name has no meaning.
abbrev mutual
  pub read_type : PlainSignature → List Local → DesugaredType → Option core.PlainType
  read_type sig ls (family s h is) = option_and_then (at_indices sig ls is) (family_head sig h)
  read_type sig ls (function s m n a b) = combined (core.function m) (read_type sig ls a) (read_type sig (local_of sig n a ∷ ls) b)
  read_type sig ls (both s a b) = combined core.both (read_type sig ls a) (read_type sig ls b)
  read_type sig ls (top s) = Some core.top
  read_type sig ls (monad s t) = option_map core.monad (read_telescope sig ls t)

  pub read_telescope : PlainSignature → List Local → DesugaredTelescope → Option core.PlainTelescope
  read_telescope sig ls end = Some core.end
  read_telescope sig ls (binding m n a t) = combined (core.binding m) (read_type sig ls a) (read_telescope sig (local_of sig n a ∷ ls) t)

-- the types of a telescope's entries, as those of a kind's arguments
abbrev pub kind_of : core.PlainTelescope → core.PlainKind
kind_of core.end = []
kind_of (core.binding m a s) = a ∷ kind_of s
