use Rattle.celf_unify.proofs.examine.examine.Goals as goal

pub returns-clause-examined : goal.returns-clause-examined
returns-clause-examined c = c.after.ensures c.args.store.now c.in_ok-verdict.ensures.judged
