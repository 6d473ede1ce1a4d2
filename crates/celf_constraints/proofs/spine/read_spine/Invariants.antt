use Rattle.std.proofs.Common.{map, drop}
use Rattle.clf_syntax.specs.Plain.{plain_elim}
use Rattle.clf_syntax.specs.PlainSimple.{plain_simple}
use Rattle.clf_simple.specs.Scope.{scope}
use Rattle.celf_constraints.specs.Read.{plain_reading}
use Rattle.celf_constraints.proofs.Arguments.{SoFar}
use Rattle.celf_constraints.proofs.spine.read_spine.Given as goal

abbrev pub invariant-loop-act : goal.invariant-loop-act
invariant-loop-act l = SoFar (scope l.types) (map plain_elim l.spine) (plain_simple l.function) (map plain_reading l.places.items) (map plain_elim (drop l.act-index l.spine)) (plain_simple l.ty)
