-- The lines of what is well formed are spelled.
use Rattle.std.proofs.Common.{ℕ, ◌≡◌, ◌+◌, ◌<◌, ◌^◌, refl, ap, List, [], IsTrue, arith}
use Rattle.clf_syntax.specs.declared.tree.Mode.TheVariants.{Persistent, Affine, Linear}
use Rattle.clf_syntax.specs.TypeTree.{PlainType, family, function, both, top, monad}
use Rattle.clf_syntax.specs.Word.{is_declarable}
use Rattle.clf_sig.specs.Entry.{PlainClass, family_of, constant_of, PlainEntry, PlainSignature}
use Rattle.clf_rules.specs.WellFormed.{leading_persistent, may_be_implicit, WellFormedSignature, WellFormedEntry}
use Rattle.clf_printer.specs.Depth.{class_depth}
use Rattle.clf_printer.specs.Metas.{appearing, appearing_type}
use Rattle.celf_sugar.specs.Faults.{leading}
use Rattle.celf_spelling.specs.Printed.{printed_type}
use Rattle.celf_spelling.specs.Laws.{in_front, IsPrintableEntry}
use Rattle.celf_spelling.proofs.Spelled.{entries_are_spelled, checks_are_spelled}
use Rattle.celf_reading.specs.Lines.{EntryLinesAreSpelled, CheckLinesAreSpelled}
use Rattle.celf_reading.proofs.Named.{typed-named, formed-printable, class-formed-printable}

-- a type is printed with as many persistent functions in front as it has
leading-printed : (sig : PlainSignature) (a : PlainType) (level : ℕ) → leading (printed_type sig level a) ≡ leading_persistent a
leading-printed sig (family f ns) level = refl
leading-printed sig (function Persistent a b) level = ap (λ n. n + 1) (leading-printed sig b (level + 1))
leading-printed sig (function Affine a b) level = refl
leading-printed sig (function Linear a b) level = refl
leading-printed sig (both a b) level = refl
leading-printed sig top level = refl
leading-printed sig (monad s) level = refl

front-printed : (sig : PlainSignature) (c : PlainClass) → in_front sig c ≡ may_be_implicit c
front-printed sig (family_of k) = refl
front-printed sig (constant_of a) = leading-printed sig a 0

pub printable-entry : (sig : PlainSignature) (name : List ℕ) (e : PlainEntry) → WellFormedSignature sig → IsTrue (is_declarable name) → WellFormedEntry sig e → e.implicit < 2 ^ 32 → class_depth e.class < 2 ^ 64
    → IsPrintableEntry sig name e
printable-entry sig name e formed fit h counted small =
    record { declarable = fit; printable = class-formed-printable sig formed e.class small h.0; counted = counted; leads = omega (arith, h.1, front-printed sig e.class) }

pub entry_lines_are_spelled : EntryLinesAreSpelled
entry_lines_are_spelled sig name e formed fit h counted small = entries_are_spelled sig [] name e (printable-entry sig name e formed fit h counted small)

pub check_lines_are_spelled : CheckLinesAreSpelled
check_lines_are_spelled sig n a formed type_formed typed object_fits type_fits =
    checks_are_spelled sig (appearing [] n) (appearing_type [] a) n a (typed-named sig formed n [] [] a typed, omega arith) (formed-printable sig formed a [] (omega arith) type_formed)
