-- Implicit variables: which names are those of implicit variables, and the simple types of heads while some of them are determined.
use Rattle.std.specs.Prelude.{ℕ, zero, suc, Bool, true, false, not, ◌&&◌, if◌then◌else◌, List, [], ◌∷◌, Option, Some, None, is_none, slice_get}
use Rattle.std.specs.List.{list_any}
use Rattle.clf_syntax.specs.Word.{same_bytes}
use Rattle.clf_sig.specs.Entry.{PlainEntry, PlainSignature, entry_at, simple_types}
use Rattle.celf_sugar.specs.declared.plain.PName.{PName}
use Rattle.celf_names.specs.Names.{constant_named, begins_with_capital}
use Rattle.celf_places.specs.Places.{Place, function_parts}
use Rattle.celf_places.specs.Heads.{Local, Typed, local_from}
use Rattle.celf_implicit.specs.declared.variable.Argument.{Argument}

-- An implicit variable that is determined: its name, the byte at which the occurrence stands that determines it, the locals that it is
-- applied to there, and its simple type, if that is known.
pub record PlainImplicit : Type 0 where
  pub name : List ℕ
  pub start : ℕ
  pub arguments : List Argument
  pub place : Place

-- An implicit variable is a name that begins with a capital letter, without `$`, that is no local and no constant.
abbrev pub is_variable : PlainSignature → List Local → PName → Bool
is_variable sig ls n = not n.dollar && (begins_with_capital n.name && (is_none (local_from 0 n.name ls) && is_none (constant_named sig n.name)))

abbrev pub has_name : List ℕ → PlainImplicit → Bool
has_name n x = same_bytes n x.name

-- a name is that of one of these variables
abbrev pub is_among : List PlainImplicit → List ℕ → Bool
is_among xs n = list_any (has_name n) xs

-- an implicit variable that is not among these
abbrev pub is_open_name : PlainSignature → List PlainImplicit → List Local → PName → Bool
is_open_name sig xs ls n = is_variable sig ls n && not (is_among xs n.name)

-- the simple type of the first of them that has the name
abbrev pub variable_place : List PlainImplicit → List ℕ → Place
variable_place [] n = None
variable_place (x ∷ xs) n = if has_name n x then x.place else variable_place xs n

-- the simple type after so many arguments
abbrev pub after_arguments : ℕ → Place → Place
after_arguments zero t = t
after_arguments (suc k) t = after_arguments k (function_parts t).codomain

-- how many arguments of an entry are not written: none after `$`
abbrev pub left_out : Bool → Option PlainEntry → ℕ
left_out dollar None = 0
left_out dollar (Some e) = if dollar then 0 else e.implicit

-- the simple type of a constant after its implicit arguments
abbrev pub constant_place : PlainSignature → Bool → ℕ → Place
constant_place sig dollar c = after_arguments (left_out dollar (entry_at sig c)) (slice_get (simple_types sig) c)

-- that of a local, where there is one; else that of a constant; else that of a variable
abbrev pub constant_or : PlainSignature → Bool → Option ℕ → Place → Place
constant_or sig dollar (Some c) t = constant_place sig dollar c
constant_or sig dollar None t = t

abbrev pub local_or : Option Typed → Place → Place
local_or (Some h) t = h.1
local_or None t = t

-- The simple type of a head, of whose name the meaning is the newest local, or else the constant, or else the implicit variable; after `$`
-- it is the constant. None where the variable is not among these, or where the simple type is not known.
abbrev pub head_place : PlainSignature → List PlainImplicit → List Local → PName → Place
head_place sig xs ls n =
    if n.dollar then constant_or sig true (constant_named sig n.name) None
    else local_or (local_from 0 n.name ls) (constant_or sig false (constant_named sig n.name) (variable_place xs n.name))
