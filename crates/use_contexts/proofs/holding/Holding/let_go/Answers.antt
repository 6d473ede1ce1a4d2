use Rattle.std.proofs.Common.{reverse, false, ap, ◌∙◌}
use Rattle.std.proofs.lemmas.List.{length-reverse}
use Rattle.use_contexts.proofs.Lookups.{reverse-set}
use Rattle.use_contexts.proofs.holding.Holding.let_go.Goals as goal

pub returns : goal.returns
returns c =
    ap reverse c.set.ensures
    ∙ rw c.len.ensures (reverse-set c.args.self.now.held c.args.var false (simp length-reverse at c.requires))
