-- What has been copied is the front of the list.
use Rattle.std.proofs.Common.{◌≡◌, take}
use Rattle.clf_kernel.proofs.putting.copied_arguments.Given as goal

abbrev pub invariant-loop-arg : goal.invariant-loop-arg
invariant-loop-arg l = l.copied ≡ take l.arg-index l.fn.args
