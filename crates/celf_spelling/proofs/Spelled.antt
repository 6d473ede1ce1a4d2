-- Entries and checks are spelled by their lines.
use Rattle.std.proofs.Common.{ℕ, ◌≡◌, ◌+◌, refl, [], ◌∷◌, length, arith}
use Rattle.clf_syntax.specs.TypeTree.{PlainKind}
use Rattle.clf_sig.specs.Entry.{PlainClass, family_of, constant_of, PlainSignature}
use Rattle.celf_sugar.specs.ClassLeading.{telescope_length, class_leading}
use Rattle.clf_printer.specs.declared.place.Place.TheVariants.{Whole as whole}
use Rattle.clf_printer.specs.Text.{is_atom, object_text, type_text, class_text}
use Rattle.celf_spelling.specs.Laws.{in_front, EntriesAreSpelled, ChecksAreSpelled}
use Rattle.celf_spelling.specs.Printed.{printed_object, printed_type, printed_kind, printed_class}
use Rattle.celf_spelling.proofs.ObjectSpelled.{as-object}
use Rattle.celf_spelling.proofs.Written.{IsWritten}
use Rattle.celf_spelling.proofs.Objects.{object-spelled}
use Rattle.celf_spelling.proofs.Types.{type-spelled}
use Rattle.celf_spelling.proofs.Classes.{class-spelled}
use Rattle.celf_spelling.proofs.Lines.{declaration-spelled}
use Rattle.celf_spelling.proofs.CheckLines.{check-spelled}

kind-length : (sig : PlainSignature) (k : PlainKind) (level : ℕ) → telescope_length (printed_kind sig level k) ≡ length k
kind-length sig [] level = refl
kind-length sig (a ∷ k) level = omega (arith, kind-length sig k (level + 1))

class-leads : (sig : PlainSignature) (c : PlainClass) → class_leading (printed_class sig c) ≡ in_front sig c
class-leads sig (family_of k) = kind-length sig k 0
class-leads sig (constant_of a) = refl

pub entries_are_spelled : EntriesAreSpelled
entries_are_spelled sig metas name e h =
    declaration-spelled name e.implicit (printed_class sig e.class) (class_text sig metas e.class) h.declarable h.counted (omega (arith, h.leads, class-leads sig e.class)) (class-spelled sig metas e.class h.printable)

pub checks_are_spelled : ChecksAreSpelled
checks_are_spelled sig metas others n a object type =
    check-spelled (printed_object sig 0 n) (printed_type sig 0 a) (object_text sig metas 0 n) (type_text sig others 0 whole a)
    (as-object (is_atom n) (IsWritten (printed_object sig 0 n)) (object_text sig metas 0 n) (object-spelled sig metas n 0 object.1 object.0)) (type-spelled sig others a 0 whole type)
