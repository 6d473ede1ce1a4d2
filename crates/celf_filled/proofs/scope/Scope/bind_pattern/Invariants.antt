-- The binders so far go before those that are left.
use Rattle.std.proofs.Common.{◌≡◌, map, drop}
use Rattle.clf_syntax.specs.PlainSimple.{plain_simple_entry}
use Rattle.celf_elaboration.specs.Readings.{with_pattern}
use Rattle.celf_filled.specs.Scopes.{plain_scope}
use Rattle.celf_filled.proofs.scope.Scope.bind_pattern.Given as goal

abbrev pub invariant-loop-binder : goal.invariant-loop-binder
invariant-loop-binder l = with_pattern (plain_scope l.self) (map plain_simple_entry l.wanted) (drop l.binder-index l.pattern) ≡ with_pattern (plain_scope l.fn.self) (map plain_simple_entry l.entries) l.pattern
