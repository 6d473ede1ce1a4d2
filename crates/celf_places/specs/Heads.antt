-- Local binders, and what the names of objects and types mean where all is written: heads with their simple types, and families.
use Rattle.std.specs.Prelude.{ℕ, ◌+◌, zero, suc, Bool, true, false, ◌||◌, if◌then◌else◌, List, [], ◌∷◌, map, Option, Some, None, option_map, option_and_then, slice_get}
use Rattle.std.specs.Option.{option_or}
use Rattle.clf_syntax.specs.declared.tree.Mode.{Mode}
use Rattle.clf_syntax.specs.declared.tree.Mode.TheVariants.{Persistent}
use Rattle.clf_syntax.specs.declared.tree.Head.{Head}
use Rattle.clf_syntax.specs.declared.tree.Head.TheVariants.{Const, Var}
use Rattle.clf_syntax.specs.Word.{same_bytes}
use Rattle.clf_syntax.specs.TypeTree.{PlainType, PlainKind, SimpleType}
use Rattle.clf_syntax.specs.Simple.{erase}
use Rattle.clf_sig.specs.Entry.{PlainEntry, PlainSignature, entry_at, family_kind, simple_types}
use Rattle.celf_sugar.specs.declared.plain.PName.{PName}
use Rattle.celf_names.specs.Names.{family_named, constant_named}
use Rattle.celf_places.specs.Places.{Place}

-- a local binder: its name, if it has one, and its simple type, if that is known
abbrev pub Local : Type 0
Local = Option (List ℕ) × Place

abbrev pub is_named : List ℕ → Option (List ℕ) → Bool
is_named name None = false
is_named name (Some n) = same_bytes name n

abbrev pub has_name : List ℕ → Local → Bool
has_name name l = is_named name l.0

-- a head with its simple type, if that is known
abbrev pub Typed : Type 0
Typed = Head × Place

-- the newest local of a name, where the newest one of all has this number
abbrev pub local_from : ℕ → List ℕ → List Local → Option Typed
local_from k name [] = None
local_from k name (l ∷ ls) = if has_name name l then Some (Var k, l.1) else local_from (k + 1) name ls

abbrev pub is_zero : ℕ → Bool
is_zero zero = true
is_zero (suc n) = false

-- an entry without implicit arguments
abbrev pub has_no_implicit : Option PlainEntry → Bool
has_no_implicit None = true
has_no_implicit (Some e) = is_zero e.implicit

-- The place of a constant or family that leaves nothing to be found: after `$` every argument is written, and elsewhere there are no implicit ones.
abbrev pub all_written : PlainSignature → Bool → ℕ → Option ℕ
all_written sig dollar k = if dollar || has_no_implicit (entry_at sig k) then Some k else None

-- a constant as a head, with its simple type
abbrev pub constant_typed : PlainSignature → ℕ → Typed
constant_typed sig c = (Const c, slice_get (simple_types sig) c)

abbrev pub constant_head : PlainSignature → PName → Option Typed
constant_head sig n = option_map (constant_typed sig) (option_and_then (all_written sig n.dollar) (constant_named sig n.name))

-- What the name of an object means: `$c` the constant c; another name the newest local of that name, or else the constant of that name.
-- None where it means nothing, or leaves something to be found.
abbrev pub head : PlainSignature → List Local → PName → Option Typed
head sig ls n = if n.dollar then constant_head sig n else option_or (local_from 0 n.name ls) (constant_head sig n)

abbrev pub place_of_head : Option Typed → Place
place_of_head None = None
place_of_head (Some h) = h.1

-- what the name of a type means
abbrev pub family_head : PlainSignature → PName → Option ℕ
family_head sig n = option_and_then (all_written sig n.dollar) (family_named sig n.name)

-- an argument of a family: it is persistent
abbrev pub argument_entry : PlainType → Mode × SimpleType
argument_entry a = (Persistent, erase a)

abbrev pub argument_entries : Option PlainKind → List (Mode × SimpleType)
argument_entries None = []
argument_entries (Some k) = map argument_entry k

-- what is wanted of the indices of a family
abbrev pub arguments_of : PlainSignature → ℕ → List (Mode × SimpleType)
arguments_of sig f = argument_entries (family_kind sig f)
