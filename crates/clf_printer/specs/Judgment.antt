-- The text of an object and its type.
use Rattle.std.specs.Prelude.{ℕ, List, [], ◌++◌, codes}
use Rattle.clf_syntax.specs.Tree.{PlainObject}
use Rattle.clf_syntax.specs.TypeTree.{PlainType}
use Rattle.clf_sig.specs.Entry.{PlainSignature}
use Rattle.clf_printer.specs.declared.place.Place.TheVariants.{Whole}
use Rattle.clf_printer.specs.Text.{object_text, type_text}
use Rattle.clf_printer.specs.Metas.{appearing, appearing_type}

-- an object and its type, with a colon between
abbrev pub judgment_text : PlainSignature → PlainObject → PlainType → List ℕ
judgment_text sig n a = object_text sig (appearing [] n) 0 n ++ codes " : " ++ type_text sig (appearing_type [] a) 0 Whole a
