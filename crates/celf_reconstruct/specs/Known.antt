-- Inner: the simple types of implicit variables, where these are known, and of metavariables.
use Rattle.std.specs.Prelude.{ℕ, ◌≡◌, Bool, true, false, List, unwrap_or, Option, Some, None}
use Rattle.std.specs.List.{list_all}
use Rattle.clf_syntax.specs.TypeTree.{SimpleType, simple_top}
use Rattle.pattern_laws.specs.Instantiations.{Types}
use Rattle.celf_places.specs.Places.{Place}
use Rattle.celf_implicit.specs.declared.variable.Implicit.{Implicit}
use Rattle.celf_implicit.specs.Answers.{plain_implicit}
use Rattle.celf_implicit.specs.Variables.{PlainImplicit}

-- one that is not known is never read
abbrev pub simple_or_unit : PlainImplicit → SimpleType
simple_or_unit x = unwrap_or x.place simple_top

abbrev pub is_place : Place → Bool
is_place None = false
is_place (Some t) = true

abbrev pub is_known : Implicit → Bool
is_known x = is_place (plain_implicit x).place

abbrev pub are_known : List Implicit → Bool
are_known xs = list_all is_known xs

-- The metavariable has a simple type.
abbrev pub HasSimple : Types → ℕ → Type 0
HasSimple metas m = (t : SimpleType) × (metas m ≡ Some t)
