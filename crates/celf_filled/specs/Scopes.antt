-- Inner: the local binders around a part, as they are kept, and implicit variables; and what contracts see of heads.
use Rattle.std.specs.Prelude.{ℕ, ◌+◌, Bool, true, false, if◌then◌else◌, List, [], ◌∷◌, map, Option, None, Some, option_map}
use Rattle.std.specs.Option.{option_or}
use Rattle.clf_syntax.specs.declared.tree.Mode.{Mode}
use Rattle.clf_syntax.specs.declared.tree.Head.{Head}
use Rattle.clf_syntax.specs.Word.{same_bytes}
use Rattle.clf_syntax.specs.TypeTree.{SimpleType}
use Rattle.clf_sig.specs.Entry.{PlainEntry, PlainSignature}
use Rattle.pattern_laws.specs.Equations.{Locals}
use Rattle.celf_sugar.specs.declared.plain.PName.{PName}
use Rattle.celf_names.specs.Names.{constant_named}
use Rattle.celf_places.specs.Places.{Place}
use Rattle.celf_places.specs.Heads.{local_from}
use Rattle.celf_places.specs.Combined.{combined}
use Rattle.celf_places.specs.Locals.{Declared, plain_place}
use Rattle.celf_implicit.specs.declared.variable.Implicit.{Implicit}
use Rattle.celf_elaboration.specs.Fillings.{Scoped}
use Rattle.celf_elaboration.specs.Names.{ImplicitVariable, Meaning, all_arguments, as_local, constant_meaning, implicit_arguments}
use Rattle.celf_elaboration.specs.Declarations.{declared_heads}

-- what contracts see of local binders, the newest first
abbrev pub DeclaredScope : Type 0
DeclaredScope = List (Mode × Declared)

abbrev pub declared_local : Mode × Declared → Declared
declared_local l = l.1

abbrev pub plain_scoped : Mode × Declared → Scoped
plain_scoped l = record { mode = l.0; name = l.1.0; place = plain_place l.1.1 }

abbrev pub plain_scope : DeclaredScope → List Scoped
plain_scope ls = map plain_scoped ls

-- an implicit variable: its name, and its simple type, if that is known
abbrev pub Named : Type 0
Named = List ℕ × Place

abbrev pub plain_named : Implicit → Named
plain_named x = (x.name, plain_place x.simple)

abbrev pub with_known_type : ImplicitVariable → Named
with_known_type v = (v.name, Some v.type)

abbrev pub known_local : Mode → SimpleType → Locals → Locals
known_local m t l = (m, t) ∷ l

-- the simple types of all locals, if these are known
abbrev pub known_locals : List Scoped → Option Locals
known_locals [] = Some []
known_locals (x ∷ ls) = combined (known_local x.mode) x.place (known_locals ls)

-- the implicit variable of a name, where the first of these has the number x
abbrev pub variable_from : (ℕ → Head) → ℕ → List ℕ → List Named → Option Meaning
variable_from head x name [] = None
variable_from head x name (v ∷ vs) = if same_bytes name v.0 then Some (record { head = head x; place = v.1; implicit = 0 }) else variable_from head (x + 1) name vs

-- what a name means that no local has
abbrev pub outer_meaning : PlainSignature → List Named → List ℕ → Option Meaning
outer_meaning sig xs name = option_or (option_map (constant_meaning sig false) (constant_named sig name)) (variable_from (declared_heads sig) 0 name xs)

-- what a name means
abbrev pub meaning_of : PlainSignature → List Named → List Scoped → PName → Option Meaning
meaning_of sig xs ls n = if n.dollar then option_map (constant_meaning sig true) (constant_named sig n.name)
    else option_or (option_map all_arguments (local_from 0 n.name (map as_local ls))) (outer_meaning sig xs n.name)

-- how many arguments of an entry are implicit; none after `$`
abbrev pub implicit_after : Bool → Option PlainEntry → ℕ
implicit_after dollar e = if dollar then 0 else implicit_arguments e
