-- What the printed lines spell.
use Rattle.std.specs.Prelude.{ℕ, ◌<◌, ◌≤◌, ◌^◌, List, length, ◌++◌, IsTrue, codes}
use Rattle.clf_syntax.specs.Tree.{PlainObject}
use Rattle.clf_syntax.specs.TypeTree.{PlainType}
use Rattle.clf_syntax.specs.Word.{is_declarable}
use Rattle.clf_sig.specs.Entry.{PlainClass, family_of, constant_of, PlainEntry, PlainSignature}
use Rattle.celf_sugar.specs.Faults.{leading}
use Rattle.clf_printer.specs.declared.place.Place.TheVariants.{Whole}
use Rattle.clf_printer.specs.Text.{object_text, type_text, declaration_text}
use Rattle.celf_spelling.specs.Printed.{printed_type, printed_entry, printed_check}
use Rattle.celf_spelling.specs.Printable.{IsPrintableObject, IsPrintableType, IsPrintableClass}
use Rattle.celf_spelling.specs.Spelling.{SpellsItem}

-- how many arguments may be written as implicit: those of a kind, or the persistent functions that a type is printed with in front
abbrev pub in_front : PlainSignature → PlainClass → ℕ
in_front sig (family_of k) = length k
in_front sig (constant_of a) = leading (printed_type sig 0 a)

-- The entry can be written under the name, and no more of its arguments are implicit than are persistent in front.
pub record IsPrintableEntry (sig : PlainSignature) (name : List ℕ) (e : PlainEntry) : Type 0 where
  pub declarable : IsTrue (is_declarable name)
  pub printable : IsPrintableClass sig e.class
  pub counted : e.implicit < 2 ^ 32
  pub leads : e.implicit ≤ in_front sig e.class

-- The line of an entry spells the entry.
abbrev pub EntriesAreSpelled : Type 0
EntriesAreSpelled = (sig : PlainSignature) (metas name : List ℕ) (e : PlainEntry) → IsPrintableEntry sig name e → SpellsItem (declaration_text sig metas name e ++ codes "\n") (printed_entry sig name e)

-- An object under no binders and a type, with a colon between and after the word of a check, spell the question whether the object has the type.
abbrev pub ChecksAreSpelled : Type 0
ChecksAreSpelled = (sig : PlainSignature) (metas others : List ℕ) (n : PlainObject) (a : PlainType) → IsPrintableObject sig 0 n → IsPrintableType sig 0 a
    → SpellsItem (codes "#check " ++ (object_text sig metas 0 n ++ codes " : " ++ type_text sig others 0 Whole a ++ codes ".\n")) (printed_check sig n a)
