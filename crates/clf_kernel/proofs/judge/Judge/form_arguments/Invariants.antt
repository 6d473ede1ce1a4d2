-- What is left of the arguments follows what has been done.
use Rattle.std.proofs.Common.{◌≡◌, drop, map}
use Rattle.clf_syntax.specs.PlainTypes.{plain_ty}
use Rattle.clf_decision.specs.Formation.{kind_formed}
use Rattle.clf_decision.specs.Hereditary.{hereditary}
use Rattle.clf_kernel.specs.Judge.{IsGrown, signature_of, context_of}
use Rattle.clf_kernel.proofs.judge.Judge.form_arguments.Given as goal

abbrev pub invariant-loop-arg : goal.invariant-loop-arg
invariant-loop-arg l = (l.place ≡ l.arg-index) × IsGrown l.fn.self l.self
    × (kind_formed hereditary (signature_of l.fn.self) (context_of l.fn.self) 0 (map plain_ty l.fn.args) ≡ kind_formed hereditary (signature_of l.fn.self) (context_of l.self) l.arg-index (map plain_ty (drop l.arg-index l.fn.args)))
