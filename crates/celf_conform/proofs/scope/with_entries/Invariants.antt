use Rattle.std.proofs.Common.{◌≡◌, map, drop}
use Rattle.clf_syntax.specs.PlainSimple.{plain_simple_entry, simple_telescope_of}
use Rattle.clf_simple.specs.Decision.{behind}
use Rattle.celf_conform.specs.Seen.{scope}
use Rattle.celf_conform.proofs.scope.with_entries.Given as goal

abbrev pub invariant-loop-entry : goal.invariant-loop-entry
invariant-loop-entry l = behind (simple_telescope_of (map plain_simple_entry (drop l.entry-index l.entries))) (scope l.inner.items) ≡ behind (simple_telescope_of (map plain_simple_entry l.entries)) (scope l.fn.locals.items)
