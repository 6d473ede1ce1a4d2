-- The types made of these simple types, one after the other, in which new metavariables stand for the indices of families; and the simple types of these.
use Rattle.std.specs.Prelude.{ℕ, ◌+◌, List, [], ◌∷◌, ◌++◌, length}
use Rattle.clf_syntax.specs.TypeTree.{PlainType, SimpleType}
use Rattle.celf_filled.specs.TypedFrom.{new_in, typed_from}

-- where these are the simple types of each family's indices
module _ (indices : ℕ → List SimpleType) where
  -- The new metavariables are numbered in order from k on.
  abbrev pub types_from : ℕ → List SimpleType → List PlainType
  types_from k [] = []
  types_from k (t ∷ ts) = typed_from indices k [] t ∷ types_from (k + length (new_in indices [] t)) ts

  abbrev pub new_in_each : List SimpleType → List SimpleType
  new_in_each [] = []
  new_in_each (t ∷ ts) = new_in indices [] t ++ new_in_each ts
