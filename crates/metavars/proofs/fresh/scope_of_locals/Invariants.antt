-- The scope so far is that of the oldest locals.
use Rattle.std.proofs.Common.{◌≡◌, map, reverse, take}
use Rattle.clf_syntax.specs.PlainSimple.{plain_simple_entry}
use Rattle.metavars.specs.Fresh.{scope_of}
use Rattle.metavars.specs.Scopes.{plain_scope}
use Rattle.metavars.proofs.fresh.scope_of_locals.Given as goal

abbrev pub invariant-loop-local : goal.invariant-loop-local
invariant-loop-local l = plain_scope l.scope.items ≡ scope_of (map plain_simple_entry (reverse (take l.local-index l.locals)))
