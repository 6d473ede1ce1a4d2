-- Declarations of constants that are not explicit: the tree of the written type, and its elaborations.
use Rattle.std.specs.Prelude.{ℕ, ◌+◌, ◌≡◌, ◌∷◌, List, [], length, map, Some}
use Rattle.std.specs.List.{slice_get}
use Rattle.clf_syntax.specs.declared.tree.Mode.{Mode}
use Rattle.clf_syntax.specs.declared.tree.Mode.TheVariants.{Persistent}
use Rattle.clf_syntax.specs.declared.tree.Head.{Head}
use Rattle.clf_syntax.specs.declared.tree.Head.TheVariants.{Const}
use Rattle.clf_syntax.specs.TypeTree.{PlainType, function}
use Rattle.use_contexts.specs.Context.{Context}
use Rattle.clf_sig.specs.Entry.{PlainSignature, PlainEntry, constant_of}
use Rattle.pattern_laws.specs.Instantiations.{Types}
use Rattle.celf_sugar.specs.PlainTree.{DesugaredType}
use Rattle.elaboration_laws.specs.InFront.{ElaboratesType}
use Rattle.celf_elaboration.specs.Fillings.{Fillings, AreNew}
use Rattle.celf_elaboration.specs.Names.{TypedVariable, with_simple_type, types_read}
use Rattle.celf_elaboration.specs.Readings.{ReadsType}

-- In a declaration the implicit variables are constants, numbered past those of the signature.
abbrev pub declared_heads : PlainSignature → ℕ → Head
declared_heads sig x = Const (length sig + x)

-- The tree of a written type: the reading of it whose fillings are new metavariables.
pub record IsTreeOf (sig : PlainSignature) (vs : List TypedVariable) (written : DesugaredType) (fillings : Fillings) (tree : PlainType) : Type 0 where
  pub new : AreNew 0 fillings
  pub reading : ReadsType sig (declared_heads sig) (map with_simple_type vs) [] written fillings tree

-- the functions from the variables of a front context, the newest first, to a type
abbrev pub with_binders : Context → PlainType → PlainType
with_binders [] b = b
with_binders (e ∷ front) b = with_binders front (function e.0 e.1 b)

-- An elaboration of the declaration: one of its tree, with the binders in front, all of them persistent and implicit beside those that are written as such.
pub record ElaboratesDeclaration (sig : PlainSignature) (vs : List TypedVariable) (written_implicit : ℕ) (metas : Types) (tree : PlainType) (entry : PlainEntry) : Type 0 where
  pub front : Context
  pub type : PlainType
  pub elaborates : ElaboratesType sig (types_read vs) metas tree front type
  pub persistent : (i : ℕ) (e : Mode × PlainType) → slice_get front i ≡ Some e → e.0 ≡ Persistent
  pub implicit : entry.implicit ≡ length front + written_implicit
  pub class : entry.class ≡ constant_of (with_binders front type)
