use Rattle.std.proofs.Common.{not}
use Rattle.std.specs.List.{list_any}
use Rattle.celf_constraints.specs.Reading.{plain_place}
use Rattle.celf_reach.specs.Masks.{has_local}
use Rattle.celf_reach.proofs.Masking.{MarkedTo}
use Rattle.celf_reach.proofs.masks.foreign_marks.Given as goal

abbrev pub invariant-loop-local : goal.invariant-loop-local
invariant-loop-local l = MarkedTo (λ j. not (list_any (λ p. has_local j (plain_place p)) l.places.places.items)) l.local l.marks.items
