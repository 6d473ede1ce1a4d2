-- The setting of an item that is not explicit: its implicit variables are constants, numbered past those of the signature, of the types that are read for them.
use Rattle.std.specs.Prelude.{ℕ, ◌-◌, ◌≡◌, nat_lt, if◌then◌else◌, true, List, length, Option, Some, None, option_map, slice_get}
use Rattle.clf_syntax.specs.TypeTree.{PlainType}
use Rattle.clf_syntax.specs.Simple.{erase, SimplyFormed}
use Rattle.clf_sig.specs.Entry.{PlainSignature, constant_type}
use Rattle.typing_laws.specs.SimpleTyping.{families_of}
use Rattle.pattern_laws.specs.Instantiations.{Types, closed}
use Rattle.gathering.specs.Shape.{unmarked_shape}
use Rattle.gathering.specs.Setting.{Setting}
use Rattle.gathering.specs.Instances.{HasNoVariables}

-- the types of the constants, and then those of the implicit variables
abbrev pub given_type : PlainSignature → List PlainType → ℕ → Option PlainType
given_type sig xs c = if nat_lt c (length sig) then constant_type sig c else slice_get xs (c - length sig)

abbrev pub item_constants : PlainSignature → List PlainType → Types
item_constants sig xs c = option_map erase (given_type sig xs c)

-- Nothing is passed over, and what is to be filled in is a metavariable.
abbrev pub item_setting : PlainSignature → List PlainType → Types → Setting
item_setting sig xs metas = record { given = given_type sig xs; implicit = λ k. None; shape = unmarked_shape; simple = closed (item_constants sig xs) metas; arguments = families_of sig; fills = true }

-- The types that are read for implicit variables are simply formed without variables. Metavariables and implicit variables may stand in them.
pub record ReadType (sig : PlainSignature) (xs : List PlainType) (metas : Types) (a : PlainType) : Type 0 where
  pub formed : SimplyFormed (families_of sig) (closed (item_constants sig xs) metas) a
  pub closed_type : HasNoVariables a

abbrev pub ReadTypes : PlainSignature → List PlainType → Types → Type 0
ReadTypes sig xs metas = (x : ℕ) (a : PlainType) → slice_get xs x ≡ Some a → ReadType sig xs metas a
