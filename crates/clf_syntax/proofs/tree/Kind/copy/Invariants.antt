use Rattle.std.proofs.Common.{◌≡◌, take}
use Rattle.clf_syntax.proofs.tree.Kind.copy.Given as goal

abbrev pub invariant-loop-arg : goal.invariant-loop-arg
invariant-loop-arg l = l.args ≡ take l.arg-index l.arg-items
