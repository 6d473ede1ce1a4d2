-- What has been erased stands in front of what is left.
use Rattle.std.proofs.Common.{◌≡◌, ◌++◌, map, drop}
use Rattle.clf_syntax.specs.PlainSimple.{plain_simple_entry}
use Rattle.clf_syntax.specs.PlainTypes.{plain_tele_entry}
use Rattle.celf_gather.specs.Walks.{erased_entry}
use Rattle.celf_gather.proofs.locals.simple_locals.Given as goal

abbrev pub invariant-loop-entry : goal.invariant-loop-entry
invariant-loop-entry l = map plain_simple_entry l.locals.items ++ map (λ e. erased_entry (plain_tele_entry e)) (drop l.entry-index l.ctx.entries) ≡ map (λ e. erased_entry (plain_tele_entry e)) l.ctx.entries
