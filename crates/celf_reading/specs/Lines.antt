-- The lines of what is well formed, for the whole calculus.
use Rattle.std.specs.Prelude.{ℕ, ◌<◌, ◌^◌, List, [], ◌++◌, IsTrue, codes}
use Rattle.clf_syntax.specs.Tree.{PlainObject}
use Rattle.clf_syntax.specs.TypeTree.{PlainType}
use Rattle.clf_syntax.specs.Word.{is_declarable}
use Rattle.clf_sig.specs.Entry.{PlainEntry, PlainSignature}
use Rattle.clf_rules.specs.Typing.{HasType}
use Rattle.clf_rules.specs.WellFormed.{WellFormedType, WellFormedEntry, WellFormedSignature}
use Rattle.clf_printer.specs.Depth.{scope_depth, type_depth, class_depth}
use Rattle.celf_spelling.specs.Printed.{printed_entry, printed_check}
use Rattle.celf_spelling.specs.Spelling.{SpellsItem}
use Rattle.clf_sig.specs.Core.{declares, checks}
use Rattle.celf_meaning.specs.ReadingBack.{ReadsAs}
use Rattle.clf_printer.specs.Text.{declaration_text}
use Rattle.clf_printer.specs.Judgment.{judgment_text}

-- the line of an entry, over the entries before it
abbrev pub entry_line : PlainSignature → List ℕ → PlainEntry → List ℕ
entry_line sig name entry = declaration_text sig [] name entry ++ codes "\n"

-- Over a well-formed signature the line of a well-formed entry, under a name that can be declared, spells the entry. Fewer than 2 ^ 32
-- arguments are implicit, and no part has 2 ^ 64 or more variables bound around it.
abbrev pub EntryLinesAreSpelled : Type 0
EntryLinesAreSpelled = (sig : PlainSignature) (name : List ℕ) (e : PlainEntry) → WellFormedSignature sig → IsTrue (is_declarable name) → WellFormedEntry sig e → e.implicit < 2 ^ 32 → class_depth e.class < 2 ^ 64
    → SpellsItem (entry_line sig name e) (printed_entry sig name e)

-- The same of an object without free variables that has a well-formed type: what is printed of both spells the question whether it has it.
abbrev pub CheckLinesAreSpelled : Type 0
CheckLinesAreSpelled = (sig : PlainSignature) (n : PlainObject) (a : PlainType) → WellFormedSignature sig → WellFormedType sig [] a → HasType sig [] [] n a → scope_depth n < 2 ^ 64 → type_depth a < 2 ^ 64
    → SpellsItem (codes "#check " ++ (judgment_text sig n a ++ codes ".\n")) (printed_check sig n a)

-- So the line of the entry reads back as the entry,
abbrev pub EntryLinesReadBack : Type 0
EntryLinesReadBack = (sig : PlainSignature) (name : List ℕ) (e : PlainEntry) → WellFormedSignature sig → IsTrue (is_declarable name) → WellFormedEntry sig e → e.implicit < 2 ^ 32 → class_depth e.class < 2 ^ 64
    → ReadsAs sig (entry_line sig name e) (declares name e)

-- and what is printed of the object and its type reads back, after the word of a check, as both.
abbrev pub CheckLinesReadBack : Type 0
CheckLinesReadBack = (sig : PlainSignature) (n : PlainObject) (a : PlainType) → WellFormedSignature sig → WellFormedType sig [] a → HasType sig [] [] n a → scope_depth n < 2 ^ 64 → type_depth a < 2 ^ 64
    → ReadsAs sig (codes "#check " ++ (judgment_text sig n a ++ codes ".\n")) (checks n a)
