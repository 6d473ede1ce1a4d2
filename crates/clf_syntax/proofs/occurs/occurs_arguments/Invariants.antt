use Rattle.std.proofs.Common.{◌≡◌, ◌≤◌, ℕ, drop, map, min}
use Rattle.clf_syntax.specs.declared.number.TheConstants.{BEYOND}
use Rattle.clf_syntax.specs.PlainTypes.{plain_ty}
use Rattle.clf_syntax.specs.Occurs as spec
use Rattle.clf_syntax.proofs.occurs.occurs_arguments.Given as goal

abbrev pub invariant-loop-arg : goal.invariant-loop-arg
invariant-loop-arg l = record {
  within : l.inner ≤ BEYOND;
  same : (v : ℕ) → min v BEYOND ≡ l.var → (w : ℕ) × (min w BEYOND ≡ l.inner)
      × (spec.occurs_kind v (map plain_ty l.args) ≡ spec.occurs_kind w (map plain_ty (drop l.arg-index l.args)));
}
