-- Simply formed cores, and the simple types of the constants of an item as a store has them.
use Rattle.std.specs.Prelude.{List, ◌++◌, map}
use Rattle.clf_syntax.specs.TypeTree.{PlainType, SimpleType}
use Rattle.clf_syntax.specs.Simple.{erase, Assignment, Families, SimplyTyped, SimplyFormed, SimplyFormedTelescope, SimplyFormedKind}
use Rattle.clf_sig.specs.Entry.{PlainClass, family_of, constant_of, PlainSignature, simple_types}
use Rattle.clf_sig.specs.Core.{PlainCore, declares, queries, traces, equates, checks}

abbrev pub ClassIsFormed : Families → Assignment → PlainClass → Type 0
ClassIsFormed arguments g (family_of k) = SimplyFormedKind arguments g k
ClassIsFormed arguments g (constant_of a) = SimplyFormed arguments g a

-- The types in the core are simply formed, and its objects have the erasure of their type.
abbrev pub CoreIsFormed : Families → Assignment → PlainCore → Type 0
CoreIsFormed arguments g (declares name e) = ClassIsFormed arguments g e.class
CoreIsFormed arguments g (queries a) = SimplyFormed arguments g a
CoreIsFormed arguments g (traces s) = SimplyFormedTelescope arguments g s
CoreIsFormed arguments g (equates m n a) = SimplyFormed arguments g a × SimplyTyped g m (erase a) × SimplyTyped g n (erase a)
CoreIsFormed arguments g (checks n a) = SimplyFormed arguments g a × SimplyTyped g n (erase a)

-- the simple types of the constants, where <T> stands for that of a family, and then those of the implicit variables
abbrev pub store_constants : PlainSignature → List PlainType → List SimpleType
store_constants sig xs = simple_types sig ++ map erase xs
