use Rattle.std.proofs.Common.{arith, sym}
use Rattle.clf_simple.proofs.Lists.{entries_differ}
use Rattle.celf_reach.proofs.types.+same.Goals as goal

pub same_entries-returns-then-entries-others : goal.same_entries-returns-then-entries-others
same_entries-returns-then-entries-others t c = sym (entries_differ c.args.entries.now c.args.others.now (λ e. grind (arith, c.if-entries-others.true)))
