-- The type so far is a function of the variables that were passed, the newest first.
use Rattle.std.proofs.Common.{◌≡◌, ◌≤◌, length, take}
use Rattle.clf_syntax.specs.PlainSimple.{plain_simple}
use Rattle.metavars.specs.Fresh.{functions}
use Rattle.metavars.specs.Scopes.{plain_scope}
use Rattle.metavars.proofs.fresh.function_of.Given as goal

abbrev pub invariant-loop-left : goal.invariant-loop-left
invariant-loop-left l = (l.left ≤ length l.scope) × (functions (plain_scope (take l.left l.scope)) (plain_simple l.ty) ≡ functions (plain_scope l.scope) (plain_simple l.fn.cod))

abbrev pub decreases-loop-left : goal.decreases-loop-left
decreases-loop-left l = l.left
