-- When an item is read with new metavariables as its fillings; and that what a walk makes of it is such a reading, where all was filled in.
use Rattle.std.specs.Prelude.{◌≡◌, Bool, true, List, map}
use Rattle.clf_sig.specs.Entry.{PlainSignature}
use Rattle.clf_sig.specs.Core.{PlainCore}
use Rattle.metavars.specs.Stored.{Stored}
use Rattle.celf_sugar.specs.PlainTree.{DesugaredBody}
use Rattle.celf_elaboration.specs.Fillings.{Fillings, AreNew, types_of_new}
use Rattle.celf_elaboration.specs.Names.{ImplicitVariable}
use Rattle.celf_elaboration.specs.Declarations.{declared_heads}
use Rattle.celf_elaboration.specs.Items.{ReadsBody}
use Rattle.celf_filled.specs.Scopes.{Named, with_known_type}
use Rattle.celf_filled.specs.States.{count, IsGrownBy, state_of}
use Rattle.celf_filled.specs.WalkItems.{fill_body}

-- The core is a reading of the item whose fillings are new metavariables, numbered from those of the old store on; and the new store has these more.
pub record ReadsWithNew (sig : PlainSignature) (vs : List ImplicitVariable) (body : DesugaredBody) (old new_one : Stored) (core : PlainCore) : Type 0 where
  pub fillings : Fillings
  pub numbered : AreNew (count old) fillings
  pub grown : IsGrownBy old new_one (types_of_new fillings)
  pub reading : ReadsBody sig (declared_heads sig) vs body fillings core

-- What a walk makes is such a reading, where all was filled in and the simple types of the implicit variables are known.
abbrev pub WholeIsRead : Type 0
WholeIsRead = (sig : PlainSignature) (xs : List Named) (vs : List ImplicitVariable) (body : DesugaredBody) (old new_one : Stored) (whole : Bool) (core : PlainCore)
    → (core, state_of new_one whole) ≡ fill_body sig xs body (state_of old true) → xs ≡ map with_known_type vs → whole ≡ true → ReadsWithNew sig vs body old new_one core
