use Rattle.std.proofs.Common.{◌≡◌, map, take}
use Rattle.trace_equal.proofs.choice.Choice.places.Given as goal

abbrev pub invariant-loop-taken : goal.invariant-loop-taken
invariant-loop-taken l = l.places ≡ map (λ taken. taken.place) (take l.taken-index l.self.taken)
