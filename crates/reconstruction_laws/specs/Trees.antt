-- Trees of declarations of families, and the simple types of the metavariables of a tree.
use Rattle.std.specs.Prelude.{ℕ, ◌+◌, ◌≡◌, List, [], ◌∷◌, length, map, Some}
use Rattle.std.specs.List.{slice_get}
use Rattle.clf_syntax.specs.declared.tree.Mode.{Mode}
use Rattle.clf_syntax.specs.declared.tree.Mode.TheVariants.{Persistent}
use Rattle.clf_syntax.specs.TypeTree.{PlainType, function, top, PlainTelescope, PlainKind, SimpleType}
use Rattle.use_contexts.specs.Context.{Context}
use Rattle.clf_sig.specs.Entry.{PlainSignature, PlainEntry, family_of}
use Rattle.pattern_laws.specs.Instantiations.{Types}
use Rattle.celf_sugar.specs.PlainTree.{DesugaredTelescope}
use Rattle.celf_explicit.specs.Types.{kind_of}
use Rattle.elaboration_laws.specs.InFront.{ElaboratesType}
use Rattle.celf_elaboration.specs.Fillings.{Fillings, AreNew, types_of_new}
use Rattle.celf_elaboration.specs.Names.{TypedVariable, with_simple_type, types_read}
use Rattle.celf_elaboration.specs.Readings.{ReadsTelescope}
use Rattle.celf_elaboration.specs.Declarations.{declared_heads}

-- The new metavariables, numbered from 0 on, have their simple types.
abbrev pub HasNewTypes : Types → Fillings → Type 0
HasNewTypes metas fillings = (m : ℕ) (t : SimpleType) → slice_get (types_of_new fillings) m ≡ Some t → metas m ≡ Some t

-- The tree of the arguments of a family: the reading of them whose fillings are new metavariables.
pub record IsKindTreeOf (sig : PlainSignature) (vs : List TypedVariable) (written : DesugaredTelescope) (fillings : Fillings) (tree : PlainKind) : Type 0 where
  pub new : AreNew 0 fillings
  pub arguments : PlainTelescope
  pub reading : ReadsTelescope sig (declared_heads sig) (map with_simple_type vs) [] written fillings arguments
  pub is_kind : tree ≡ kind_of arguments

-- A kind is elaborated as the type of the functions from its arguments, all of them persistent, to <T>: nothing stands in a kind beside its arguments.
abbrev pub as_type : PlainKind → PlainType
as_type [] = top
as_type (a ∷ k) = function Persistent a (as_type k)

abbrev pub ElaboratesKind : PlainSignature → List PlainType → Types → PlainKind → Context → PlainKind → Type 0
ElaboratesKind sig xs metas tree front k = ElaboratesType sig xs metas (as_type tree) front (as_type k)

-- the arguments for the variables of a front context, the newest first, and then those of a kind
abbrev pub kind_with_binders : Context → PlainKind → PlainKind
kind_with_binders [] k = k
kind_with_binders (e ∷ front) k = kind_with_binders front (e.1 ∷ k)

-- An elaboration of the declaration of a family: one of its tree, with the binders in front, which are implicit beside those that are written as such.
pub record ElaboratesFamily (sig : PlainSignature) (vs : List TypedVariable) (written_implicit : ℕ) (metas : Types) (tree : PlainKind) (entry : PlainEntry) : Type 0 where
  pub front : Context
  pub kind : PlainKind
  pub elaborates : ElaboratesKind sig (types_read vs) metas tree front kind
  pub persistent : (i : ℕ) (e : Mode × PlainType) → slice_get front i ≡ Some e → e.0 ≡ Persistent
  pub implicit : entry.implicit ≡ length front + written_implicit
  pub class : entry.class ≡ family_of (kind_with_binders front kind)
