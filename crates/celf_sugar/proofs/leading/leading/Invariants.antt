-- What has been counted, and what is left.
use Rattle.std.proofs.Common.{◌≡◌, ◌+◌, ◌-◌, ◌^◌, ◌≤◌, min}
use Rattle.celf_sugar.specs.Plain.{desugared_type}
use Rattle.celf_sugar.specs.Faults.{leading}
use Rattle.celf_sugar.proofs.leading.leading.Given as goal

abbrev pub invariant-loop-next : goal.invariant-loop-next
invariant-loop-next l = (l.count ≤ 2 ^ 64 - 1) × (min (l.count + leading (desugared_type l.rest)) (2 ^ 64 - 1) ≡ min (leading (desugared_type l.fn.ty)) (2 ^ 64 - 1))

abbrev pub decreases-loop-next : goal.decreases-loop-next
decreases-loop-next l = leading (desugared_type l.rest)
