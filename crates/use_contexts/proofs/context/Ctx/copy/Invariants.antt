-- What has been copied is the front of the list.
use Rattle.std.proofs.Common.{◌≡◌, take}
use Rattle.use_contexts.proofs.context.Ctx.copy.Given as goal

abbrev pub invariant-loop-entry : goal.invariant-loop-entry
invariant-loop-entry l = l.entries ≡ take l.entry-index l.entry-items
