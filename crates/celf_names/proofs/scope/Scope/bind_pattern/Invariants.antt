-- The names of the front of the pattern are bound.
use Rattle.std.proofs.Common.{◌≡◌, ◌++◌, take}
use Rattle.celf_names.specs.Names.{bound_by_pattern}
use Rattle.celf_names.proofs.scope.Scope.bind_pattern.Given as goal

abbrev pub invariant-loop-binder : goal.invariant-loop-binder
invariant-loop-binder l = l.self ≡ l.initial.self ++ bound_by_pattern (take l.binder-index l.pattern)
