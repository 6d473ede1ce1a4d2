-- The neutral so far is on the places that were passed.
use Rattle.std.proofs.Common.{◌≡◌, ◌≤◌, length, map, drop}
use Rattle.clf_syntax.specs.declared.tree.Head.TheVariants.{Meta}
use Rattle.clf_syntax.specs.Tree.{head_alone}
use Rattle.clf_syntax.specs.Plain.{plain_neutral}
use Rattle.pattern_laws.specs.Patterns.{on}
use Rattle.celf_constraints.specs.Reading.{plain_place}
use Rattle.celf_unify.proofs.places.applied.Given as goal

abbrev pub invariant-loop-left : goal.invariant-loop-left
invariant-loop-left l = (l.left ≤ length l.places) × (plain_neutral l.neutral ≡ on (map plain_place (drop l.left l.places)) (head_alone (Meta l.meta)))

abbrev pub decreases-loop-left : goal.decreases-loop-left
decreases-loop-left l = l.left
