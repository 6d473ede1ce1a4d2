-- The neutral so far is applied to the oldest variables.
use Rattle.std.proofs.Common.{◌≡◌, ◌+◌, length, take}
use Rattle.clf_syntax.specs.declared.tree.Head.TheVariants.{Meta}
use Rattle.clf_syntax.specs.Tree.{head_alone}
use Rattle.clf_syntax.specs.Plain.{plain_neutral}
use Rattle.metavars.specs.Fresh.{applied_from}
use Rattle.metavars.specs.Scopes.{plain_scope}
use Rattle.metavars.proofs.fresh.apply_to.Given as goal

abbrev pub invariant-loop-local : goal.invariant-loop-local
invariant-loop-local l = (l.left + l.local-index ≡ length l.scope) × (plain_neutral l.neutral ≡ applied_from l.left (plain_scope (take l.local-index l.scope)) (head_alone (Meta l.meta)))
