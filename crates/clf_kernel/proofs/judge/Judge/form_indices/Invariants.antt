-- What is left of the indices follows what has been done.
use Rattle.std.proofs.Common.{◌≡◌, drop, map}
use Rattle.clf_syntax.specs.Plain.{plain_obj}
use Rattle.clf_syntax.specs.PlainTypes.{plain_ty, plain_kind}
use Rattle.clf_decision.specs.Formation.{indices_formed}
use Rattle.clf_decision.specs.Hereditary.{hereditary}
use Rattle.clf_kernel.specs.Judge.{signature_of, context_of}
use Rattle.clf_kernel.proofs.judge.Judge.form_indices.Given as goal

abbrev pub invariant-loop-obj : goal.invariant-loop-obj
invariant-loop-obj l = (l.self ≡ l.fn.self) × (l.place ≡ l.obj-index)
    × (indices_formed hereditary (signature_of l.fn.self) (context_of l.fn.self) 0 (map plain_obj l.fn.indices) (plain_kind l.fn.kind)
    ≡ indices_formed hereditary (signature_of l.fn.self) (context_of l.fn.self) l.obj-index (map plain_obj (drop l.obj-index l.fn.indices)) (map plain_ty l.rest))
