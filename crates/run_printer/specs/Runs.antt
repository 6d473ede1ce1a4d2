-- The closed object that a run makes, its type, and their text.
use Rattle.std.specs.Prelude.{ℕ, List}
use Rattle.clf_syntax.specs.Tree.{PlainObject, lam, monadic, PlainExpression}
use Rattle.clf_syntax.specs.TypeTree.{PlainType, function, monad, PlainTelescope, end, binding}
use Rattle.clf_sig.specs.Entry.{PlainSignature}
use Rattle.clf_printer.specs.Judgment.{judgment_text}

-- the steps and the result of a run, with what is there at its start bound around them
abbrev pub run_object : PlainTelescope → PlainExpression → PlainObject
run_object end e = monadic e
run_object (binding m a s) e = lam m (run_object s e)

-- from what is there at the start, in a monad, to what the result has; finish may mention the variables of the start
abbrev pub run_type : PlainTelescope → PlainTelescope → PlainType
run_type end finish = monad finish
run_type (binding m a s) finish = function m a (run_type s finish)

abbrev pub run_text : PlainSignature → PlainTelescope → PlainExpression → PlainTelescope → List ℕ
run_text sig start e finish = judgment_text sig (run_object start e) (run_type start finish)
