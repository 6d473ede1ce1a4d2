use Rattle.std.proofs.Common.{◌≡◌, ◌++◌, map, drop, reverse}
use Rattle.clf_syntax.specs.PlainSimple.{plain_simple_entry}
use Rattle.clf_simple.specs.Scope.{scope}
use Rattle.celf_constraints.proofs.places.scope_of.Given as goal

abbrev pub invariant-loop-local : goal.invariant-loop-local
invariant-loop-local l = map (λ e. (plain_simple_entry e).1) (reverse (drop l.local-index l.locals)) ++ scope l.types.items ≡ map (λ e. (plain_simple_entry e).1) (reverse l.locals)
