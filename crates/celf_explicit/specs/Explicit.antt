-- The core that an item has over a signature, read from its text alone, and what a reading of it answers.
use Rattle.std.specs.Prelude.{ℕ, ◌≡◌, [], Option, None, Some, Result, Ok, Err, option_map}
use Rattle.clf_syntax.specs.Tree.{PlainObject}
use Rattle.clf_syntax.specs.TypeTree.{PlainType}
use Rattle.clf_syntax.specs.declared.fault.OrWide.{OrWide}
use Rattle.clf_syntax.specs.declared.fault.OrWide.TheVariants.{Fault, NoMemory, TooFar}
use Rattle.clf_syntax.specs.Wide.{IsWide}
use Rattle.clf_sig.specs.Entry.{PlainClass, family_of, constant_of, PlainEntry, PlainSignature}
use Rattle.clf_sig.specs.declared.item.Core.{Core}
use Rattle.clf_sig.specs.Core.{PlainCore, declares, queries, traces, equates, checks, plain_core}
use Rattle.celf_sugar.specs.PlainTree.{DesugaredObject, DesugaredType, DesugaredClass, of_family, of_constant, DesugaredBody, declare, query, trace, equal, check, DesugaredItem}
use Rattle.celf_unknown.specs.declared.fault.UnknownName.{UnknownName}
use Rattle.celf_unknown.specs.Unknown.{first_unknown}
use Rattle.celf_unknown.specs.Fault.{standing}
use Rattle.celf_places.specs.Combined.{combined}
use Rattle.celf_places.specs.SimpleTypes.{simple_type}
use Rattle.celf_explicit.specs.Objects.{read_object}
use Rattle.celf_explicit.specs.Types.{read_type, read_telescope, kind_of}

-- a kind, by the telescope of its arguments, or a type
abbrev pub read_class : PlainSignature → DesugaredClass → Option PlainClass
read_class sig (of_family t) = option_map (λ s. family_of (kind_of s)) (read_telescope sig [] t)
read_class sig (of_constant a) = option_map constant_of (read_type sig [] a)

-- with so many implicit arguments
abbrev pub entry_of : ℕ → PlainClass → PlainEntry
entry_of n class = record { implicit = n; class = class }

-- an object without locals, at the simple type that is left of a type
abbrev pub read_against : PlainSignature → DesugaredType → DesugaredObject → Option PlainObject
read_against sig t o = read_object sig [] (simple_type sig t) o

-- two objects and their type
abbrev pub equates_both : PlainObject × PlainObject → PlainType → PlainCore
equates_both p a = equates p.0 p.1 a

abbrev pub both_objects : PlainObject → PlainObject → PlainObject × PlainObject
both_objects m n = (m, n)

-- None where something would have to be found first, or a name has no meaning.
abbrev pub core_of_body : PlainSignature → DesugaredBody → Option PlainCore
core_of_body sig (declare name count class) = option_map (λ c. declares name (entry_of count c)) (read_class sig class)
core_of_body sig (query d e l a t) = option_map queries (read_type sig [] t)
core_of_body sig (trace n t) = option_map traces (read_telescope sig [] t)
core_of_body sig (equal l r t) = combined equates_both (combined both_objects (read_against sig t l) (read_against sig t r)) (read_type sig [] t)
core_of_body sig (check o t) = combined checks (read_against sig t o) (read_type sig [] t)

-- What the item says over the signature, where all of it is written.
abbrev pub explicit : PlainSignature → DesugaredItem → Option PlainCore
explicit sig item = core_of_body sig item.body

-- The item is read so: each of its names has a meaning, and this is its core, if it is explicit; or this is the first name that has none.
abbrev pub IsReading : PlainSignature → DesugaredItem → Result (Option Core) (OrWide UnknownName) → Type 0
IsReading sig item (Ok core) = (first_unknown sig item ≡ None) × (option_map plain_core core ≡ explicit sig item)
IsReading sig item (Err (Fault u)) = option_map standing (first_unknown sig item) ≡ Some (u.name, u.span)
IsReading sig item (Err NoMemory) = Unit {0}
IsReading sig item (Err (TooFar w)) = IsWide w
