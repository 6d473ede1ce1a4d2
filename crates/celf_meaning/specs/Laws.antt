-- What printed trees and printed lines mean, as statements; the functions of the crate's `laws` state them.
use Rattle.std.specs.Prelude.{ℕ, ◌≡◌, List, [], ◌++◌, Some, codes}
use Rattle.clf_syntax.specs.Tree.{PlainObject}
use Rattle.clf_syntax.specs.TypeTree.{PlainType}
use Rattle.clf_sig.specs.Entry.{PlainEntry, PlainSignature}
use Rattle.clf_sig.specs.Core.{declares, checks}
use Rattle.clf_printer.specs.declared.place.Place.TheVariants.{Whole}
use Rattle.clf_printer.specs.Text.{object_text, type_text, declaration_text}
use Rattle.clf_rules.specs.Typing.{HasType}
use Rattle.clf_rules.specs.WellFormed.{WellFormedType, WellFormedEntry, WellFormedSignature}
use Rattle.celf_sugar.specs.PlainTree.{DesugaredBody}
use Rattle.celf_explicit.specs.Explicit.{core_of_body}
use Rattle.celf_spelling.specs.Printed.{printed_entry, printed_check}
use Rattle.celf_spelling.specs.Placeless.{placeless_body}
use Rattle.celf_spelling.specs.Printable.{IsPrintableObject, IsPrintableType, IsPrintableClass}
use Rattle.celf_spelling.specs.Laws.{IsPrintableEntry}
use Rattle.celf_meaning.specs.ReadingBack.{ReadsAs}

-- Where the parts of an item stand does not matter to its core.
abbrev pub PlacesDoNotMatter : Type 0
PlacesDoNotMatter = (sig : PlainSignature) (body : DesugaredBody) → core_of_body sig (placeless_body body) ≡ core_of_body sig body

-- Over a well-formed signature, the tree that a well-formed entry is printed as declares the entry.
abbrev pub EntriesMeanThemselves : Type 0
EntriesMeanThemselves = (sig : PlainSignature) (name : List ℕ) (e : PlainEntry) → WellFormedSignature sig → WellFormedEntry sig e → IsPrintableClass sig e.class
    → core_of_body sig (printed_entry sig name e) ≡ Some (declares name e)

-- Over a well-formed signature, the tree that an object of a well-formed type and the type are printed as asks whether the object has the type.
abbrev pub ChecksMeanThemselves : Type 0
ChecksMeanThemselves = (sig : PlainSignature) (n : PlainObject) (a : PlainType) → WellFormedSignature sig → WellFormedType sig [] a → HasType sig [] [] n a
    → IsPrintableObject sig 0 n → IsPrintableType sig 0 a → core_of_body sig (printed_check sig n a) ≡ Some (checks n a)

-- So the line of the entry reads back as the entry,
abbrev pub PrintableEntriesReadBack : Type 0
PrintableEntriesReadBack = (sig : PlainSignature) (metas name : List ℕ) (e : PlainEntry) → WellFormedSignature sig → WellFormedEntry sig e → IsPrintableEntry sig name e
    → ReadsAs sig (declaration_text sig metas name e ++ codes "\n") (declares name e)

-- and what is printed of the object and the type reads back, after the word of a check, as both.
abbrev pub PrintableChecksReadBack : Type 0
PrintableChecksReadBack = (sig : PlainSignature) (metas others : List ℕ) (n : PlainObject) (a : PlainType) → WellFormedSignature sig → WellFormedType sig [] a → HasType sig [] [] n a
    → IsPrintableObject sig 0 n → IsPrintableType sig 0 a
    → ReadsAs sig (codes "#check " ++ (object_text sig metas 0 n ++ codes " : " ++ type_text sig others 0 Whole a ++ codes ".\n")) (checks n a)
