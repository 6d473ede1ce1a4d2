-- Inner: how a store grows by new metavariables, and the state of a walk that makes them.
use Rattle.std.specs.Prelude.{ℕ, ◌≡◌, ◌++◌, Bool, false, List, length, map}
use Rattle.clf_syntax.specs.TypeTree.{SimpleType}
use Rattle.store_laws.specs.Additions.{Addition, new, meta_types}
use Rattle.metavars.specs.Stored.{Stored, constants, additions}

-- how many metavariables there are
abbrev pub count : Stored → ℕ
count s = length (meta_types (additions s))

-- Metavariables of these simple types were added, in order, and nothing else.
pub record IsGrownBy (old new_one : Stored) (types : List SimpleType) : Type 0 where
  pub constants_kept : constants new_one ≡ constants old
  pub added : additions new_one ≡ additions old ++ map new types

-- the store, and whether all that was left to be found has been filled in
pub record State : Type 0 where
  pub constants : List SimpleType
  pub added : List Addition
  pub whole : Bool

abbrev pub state_of : Stored → Bool → State
state_of s w = record { constants = constants s; added = additions s; whole = w }

abbrev pub count_in : State → ℕ
count_in s = length (meta_types s.added)

abbrev pub not_whole : State → State
not_whole s = record { constants = s.constants; added = s.added; whole = false }

abbrev pub with_new : State → List SimpleType → State
with_new s ts = record { constants = s.constants; added = s.added ++ map new ts; whole = s.whole }
