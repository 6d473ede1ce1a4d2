use Rattle.clf_sig.proofs.Names.{distinct}
use Rattle.clf_sig.proofs.signature.Signature.len.Goals as goal

pub returns-clause-distinct : goal.returns-clause-distinct
returns-clause-distinct c = rw (← c.self.view_is) (distinct c.self.inside.declared.entries c.len.ensures.unique)
