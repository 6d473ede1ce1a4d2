-- What `first_misfit` answers: nothing exactly where an item's core conforms, and else what is wrong at the first place where it does not.
use Rattle.std.specs.Prelude.{◌≡◌, ◌++◌, List, [], Option, Some, None}
use Rattle.clf_syntax.specs.TypeTree.{SimpleType}
use Rattle.clf_sig.specs.Entry.{PlainSignature, simple_types}
use Rattle.clf_sig.specs.Core.{PlainCore}
use Rattle.celf_conform.specs.declared.misfit.Misfit.{Misfit}
use Rattle.celf_conform.specs.Known.{PlainKnown, heads_in}
use Rattle.celf_conform.specs.Fits.{CoreFits}
use Rattle.celf_conform.specs.Misses.{CoreMisses}

-- The constants are those of the signature, and then the implicit variables of an item.
abbrev pub IsOver : PlainSignature → List SimpleType → Type 0
IsOver sig constants = (variables : List SimpleType) × (constants ≡ simple_types sig ++ variables)

-- The core does not conform, and this is wrong at the first place.
pub record IsFirstMisfit (k : PlainKnown) (core : PlainCore) (w : Misfit) : Type 0 where
  pub found : CoreMisses k.arguments (heads_in k []) core w
  pub conforms_not : CoreFits k.arguments (heads_in k []) core → ⊥

abbrev pub JudgesCore : PlainKnown → PlainCore → Option Misfit → Type 0
JudgesCore k core None = CoreFits k.arguments (heads_in k []) core
JudgesCore k core (Some w) = IsFirstMisfit k core w
