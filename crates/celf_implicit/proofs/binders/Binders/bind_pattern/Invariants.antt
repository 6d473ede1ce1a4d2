-- What is left of the pattern leads from here to where the whole does.
use Rattle.std.proofs.Common.{◌≡◌, map, drop}
use Rattle.clf_syntax.specs.PlainSimple.{plain_simple_entry}
use Rattle.celf_implicit.specs.Scopes.{bind_pattern}
use Rattle.celf_implicit.specs.Noting.{plain_binders}
use Rattle.celf_implicit.proofs.binders.Binders.bind_pattern.Given as goal

abbrev pub invariant-loop-binder : goal.invariant-loop-binder
invariant-loop-binder l =
    bind_pattern (map plain_simple_entry l.wanted) (drop l.binder-index l.pattern) (plain_binders l.self)
    ≡ bind_pattern (map plain_simple_entry l.entries) l.pattern (plain_binders l.fn.self)
