-- A store as the list of what was added: metavariables, numbered in order, each with its simple type; and solutions.
use Rattle.std.specs.Prelude.{ℕ, nat_eq, if◌then◌else◌, List, [], ◌∷◌, Option, Some, None}
use Rattle.std.specs.List.{slice_get}
use Rattle.clf_syntax.specs.Tree.{PlainObject}
use Rattle.clf_syntax.specs.TypeTree.{SimpleType}
use Rattle.clf_syntax.specs.Simple.{Assignment, assigned}
use Rattle.subst_laws.specs.Environments.{Instantiation}

pub data Addition : Type 0 where
  -- a new metavariable of a simple type
  new : SimpleType → Addition
  -- the solution of a metavariable
  solved : ℕ → PlainObject → Addition

-- the simple types of the metavariables, by number
abbrev pub meta_types : List Addition → List SimpleType
meta_types [] = []
meta_types (new t ∷ zs) = t ∷ meta_types zs
meta_types (solved m o ∷ zs) = meta_types zs

-- what stands at each number, with one more, or with another one, at a number
abbrev pub set : {X : Type 0} → ℕ → X → (ℕ → Option X) → ℕ → Option X
set m o g k = if nat_eq k m then Some o else g k

-- The solutions, as they were given: the metavariables in them may have solutions in turn.
abbrev pub given : List Addition → Instantiation
given [] m = None
given (new t ∷ zs) m = given zs m
given (solved k o ∷ zs) m = if nat_eq m k then Some o else given zs m

-- the assignment of the constants and the metavariables, without variables
abbrev pub heads_of : List SimpleType → List Addition → Assignment
heads_of constants zs = assigned constants (meta_types zs) []
