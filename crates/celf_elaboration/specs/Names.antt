-- What the name of an object means, with how many implicit arguments.
use Rattle.std.specs.Prelude.{ℕ, ◌+◌, Bool, true, false, if◌then◌else◌, List, [], ◌∷◌, map, Option, None, Some, option_map, option_and_then, slice_get}
use Rattle.std.specs.Option.{option_or}
use Rattle.clf_syntax.specs.declared.tree.Head.{Head}
use Rattle.clf_syntax.specs.declared.tree.Head.TheVariants.{Const}
use Rattle.clf_syntax.specs.Word.{same_bytes}
use Rattle.clf_syntax.specs.TypeTree.{PlainType, SimpleType}
use Rattle.clf_syntax.specs.Simple.{erase}
use Rattle.clf_sig.specs.Entry.{PlainEntry, PlainSignature, entry_at, simple_types}
use Rattle.celf_sugar.specs.declared.plain.PName.{PName}
use Rattle.celf_names.specs.Names.{constant_named}
use Rattle.celf_places.specs.Places.{Place}
use Rattle.celf_places.specs.Heads.{Local, Typed, local_from}
use Rattle.celf_elaboration.specs.Fillings.{Scoped}

-- an implicit variable: its name and its simple type
pub record ImplicitVariable : Type 0 where
  pub name : List ℕ
  pub type : SimpleType

-- an implicit variable with the type that is read for it, in which the indices of its result are new metavariables
pub record TypedVariable : Type 0 where
  pub name : List ℕ
  pub type : PlainType

abbrev pub with_simple_type : TypedVariable → ImplicitVariable
with_simple_type v = record { name = v.name; type = erase v.type }

abbrev pub types_read : List TypedVariable → List PlainType
types_read vs = map (λ (v : TypedVariable). v.type) vs

-- a head, its simple type, if that is known, and how many arguments are implicit
pub record Meaning : Type 0 where
  pub head : Head
  pub place : Place
  pub implicit : ℕ

-- with every argument written
abbrev pub all_arguments : Typed → Meaning
all_arguments h = record { head = h.0; place = h.1; implicit = 0 }

abbrev pub as_local : Scoped → Local
as_local l = (l.name, l.place)

abbrev pub implicit_arguments : Option PlainEntry → ℕ
implicit_arguments None = 0
implicit_arguments (Some e) = e.implicit

-- a constant; after `$` every argument is written
abbrev pub constant_meaning : PlainSignature → Bool → ℕ → Meaning
constant_meaning sig dollar c = record { head = Const c; place = slice_get (simple_types sig) c; implicit = if dollar then 0 else implicit_arguments (entry_at sig c) }

-- the implicit variable of a name, where the first of these has the number x and `head` says which head each number is
abbrev pub implicit_from : (ℕ → Head) → ℕ → List ℕ → List ImplicitVariable → Option Meaning
implicit_from head x name [] = None
implicit_from head x name (v ∷ vs) = if same_bytes name v.name then Some (record { head = head x; place = Some v.type; implicit = 0 }) else implicit_from head (x + 1) name vs

-- `$c` is the constant c. Another name is the newest local of that name, or else the constant, or else the implicit variable.
abbrev pub meaning : PlainSignature → (ℕ → Head) → List ImplicitVariable → List Scoped → PName → Option Meaning
meaning sig head vs ls n = if n.dollar then option_map (constant_meaning sig true) (constant_named sig n.name)
    else option_or (option_map all_arguments (local_from 0 n.name (map as_local ls))) (option_or (option_map (constant_meaning sig false) (constant_named sig n.name)) (implicit_from head 0 n.name vs))
