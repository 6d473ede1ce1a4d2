-- The lines of what is well formed read back.
use Rattle.std.proofs.Common.{ℕ, ◌<◌, ◌^◌, List, [], ◌++◌, IsTrue, arith}
use Rattle.std.specs.Prelude.{codes}
use Rattle.clf_syntax.specs.Word.{is_declarable}
use Rattle.clf_sig.specs.Entry.{PlainSignature, PlainEntry}
use Rattle.clf_sig.specs.Core.{declares, checks}
use Rattle.clf_rules.specs.WellFormed.{WellFormedSignature, WellFormedEntry}
use Rattle.clf_printer.specs.Depth.{class_depth}
use Rattle.clf_printer.specs.Text.{declaration_text}
use Rattle.clf_printer.specs.Judgment.{judgment_text}
use Rattle.celf_spelling.specs.Printed.{printed_check}
use Rattle.celf_meaning.specs.ReadingBack.{ReadsAs}
use Rattle.celf_meaning.proofs.LinesRead.{printable_entries_read_back, checks_mean_themselves, read_as}
use Rattle.celf_reading.specs.Lines.{entry_line, EntryLinesReadBack, CheckLinesReadBack}
use Rattle.celf_reading.proofs.Named.{typed-named, formed-printable}
use Rattle.celf_reading.proofs.WellFormedLines.{printable-entry, check_lines_are_spelled}

-- whatever the numbers of the metavariables, of which there are none
pub entry_reads_back : (sig : PlainSignature) (metas name : List ℕ) (e : PlainEntry) → WellFormedSignature sig → IsTrue (is_declarable name) → WellFormedEntry sig e → e.implicit < 2 ^ 32 → class_depth e.class < 2 ^ 64
    → ReadsAs sig (declaration_text sig metas name e ++ codes "\n") (declares name e)
entry_reads_back sig metas name e formed fit h counted small =
    printable_entries_read_back sig metas name e formed h (printable-entry sig name e formed fit h counted small)

pub entry_lines_read_back : EntryLinesReadBack
entry_lines_read_back sig name e formed fit h counted small = entry_reads_back sig [] name e formed fit h counted small

pub check_lines_read_back : CheckLinesReadBack
check_lines_read_back sig n a formed type_formed typed object_fits type_fits =
    read_as sig (codes "#check " ++ (judgment_text sig n a ++ codes ".\n")) (printed_check sig n a) (checks n a)
    (checks_mean_themselves sig n a formed type_formed typed (typed-named sig formed n [] [] a typed, omega arith) (formed-printable sig formed a [] (omega arith) type_formed))
    (check_lines_are_spelled sig n a formed type_formed typed object_fits type_fits)
