-- Inner: the types of binders in front as lists, the oldest first.
use Rattle.std.specs.Prelude.{ℕ, List, [], ◌∷◌, ◌++◌}
use Rattle.std.specs.List.{slice_index_or}
use Rattle.clf_syntax.specs.declared.tree.Mode.TheVariants.{Persistent}
use Rattle.clf_syntax.specs.TypeTree.{PlainType, function, top}
use Rattle.celf_front.specs.InFront.{front_head}
use Rattle.celf_front.specs.Replaced.{replaced_type}

-- the type of binder x after the binders of the list, the newest first
abbrev pub binder_type : ℕ → List PlainType → ℕ → List ℕ → PlainType
binder_type n types x front = replaced_type (front_head n front) 0 (slice_index_or types x top)

abbrev pub binder_types : ℕ → List PlainType → List ℕ → List PlainType
binder_types n types [] = []
binder_types n types (x ∷ front) = binder_types n types front ++ binder_type n types x front ∷ []

-- persistent functions from types to a type
abbrev pub functions_to : List PlainType → PlainType → PlainType
functions_to [] b = b
functions_to (a ∷ rest) b = function Persistent a (functions_to rest b)
