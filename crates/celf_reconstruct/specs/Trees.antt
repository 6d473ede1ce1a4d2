-- The tree of an item in which something is not written: what is read of it with new metavariables in those places, and the implicit variables as
-- constants past those of the signature.
use Rattle.std.specs.Prelude.{ℕ, ◌≡◌, List, ◌++◌, length, map, Some, None, slice_get}
use Rattle.clf_syntax.specs.TypeTree.{PlainType, SimpleType}
use Rattle.clf_syntax.specs.Simple.{erase}
use Rattle.clf_sig.specs.Entry.{PlainSignature}
use Rattle.clf_sig.specs.Core.{PlainCore}
use Rattle.pattern_laws.specs.Instantiations.{Types}
use Rattle.celf_sugar.specs.PlainTree.{DesugaredBody}
use Rattle.celf_places.specs.Places.{Place}
use Rattle.celf_implicit.specs.Variables.{PlainImplicit}
use Rattle.celf_implicit.specs.Rounds.{determined, undetermined}
use Rattle.celf_elaboration.specs.Fillings.{Fillings, AreNew, types_of_new}
use Rattle.celf_elaboration.specs.Names.{TypedVariable, with_simple_type, types_read}
use Rattle.celf_elaboration.specs.Declarations.{declared_heads}
use Rattle.celf_elaboration.specs.Items.{ReadsBody}
use Rattle.celf_filled.specs.TypedFrom.{indices_of}
use Rattle.filled_laws.specs.FreshTypes.{types_from, new_in_each}

-- a name with a simple type, if that is known
abbrev pub determined_name : PlainImplicit → List ℕ × Place
determined_name x = (x.name, x.place)

abbrev pub read_name : TypedVariable → List ℕ × Place
read_name v = (v.name, Some (erase v.type))

abbrev pub simple_types_read : List TypedVariable → List SimpleType
simple_types_read vs = map erase (types_read vs)

-- The implicit variables of the item are all determined, and these are they, each with a type of the simple type that it is determined with, whose indices are
-- new metavariables.
pub record IsItemTree (sig : PlainSignature) (body : DesugaredBody) (vs : List TypedVariable) (metas : Types) (tree : PlainCore) : Type 0 where
  pub all : undetermined sig body ≡ None
  pub these : map determined_name (determined sig body) ≡ map read_name vs
  pub fillings : Fillings
  pub new : AreNew 0 fillings
  pub reading : ReadsBody sig (declared_heads sig) (map with_simple_type vs) body fillings tree
  pub types : types_read vs ≡ types_from (indices_of sig) (length (types_of_new fillings)) (simple_types_read vs)
  pub metavariables : (m : ℕ) → metas m ≡ slice_get (types_of_new fillings ++ new_in_each (indices_of sig) (simple_types_read vs)) m
