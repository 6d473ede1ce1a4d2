-- What holds of the text of a run, as a statement.
use Rattle.std.specs.Prelude.{◌<◌, ◌^◌, [], ◌++◌, codes}
use Rattle.clf_syntax.specs.Tree.{PlainExpression}
use Rattle.clf_syntax.specs.TypeTree.{PlainTelescope}
use Rattle.clf_sig.specs.Entry.{PlainSignature}
use Rattle.clf_sig.specs.Core.{checks}
use Rattle.clf_rules.specs.Typing.{HasType}
use Rattle.clf_rules.specs.WellFormed.{WellFormedType, WellFormedSignature}
use Rattle.clf_printer.specs.Depth.{scope_depth, type_depth}
use Rattle.celf_meaning.specs.ReadingBack.{ReadsAs}
use Rattle.run_printer.specs.Runs.{run_object, run_type, run_text}

-- a run whose closed object has its well-formed type, in which no part has 2 ^ 64 or more variables bound around it
pub record IsTypedRun (sig : PlainSignature) (start : PlainTelescope) (e : PlainExpression) (finish : PlainTelescope) : Type 0 where
  pub formed : WellFormedType sig [] (run_type start finish)
  pub typed : HasType sig [] [] (run_object start e) (run_type start finish)
  pub object_depth : scope_depth (run_object start e) < 2 ^ 64
  pub type_depth : type_depth (run_type start finish) < 2 ^ 64

-- Over a well-formed signature the text of such a run reads back, after the word of a check, as its object and its type.
abbrev pub RunLinesReadBack : Type 0
RunLinesReadBack = (sig : PlainSignature) (start : PlainTelescope) (e : PlainExpression) (finish : PlainTelescope) → WellFormedSignature sig → IsTypedRun sig start e finish
    → ReadsAs sig (codes "#check " ++ (run_text sig start e finish ++ codes ".\n")) (checks (run_object start e) (run_type start finish))
