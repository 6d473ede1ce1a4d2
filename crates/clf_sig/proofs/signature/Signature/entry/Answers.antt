use Rattle.clf_sig.proofs.Names.{at_entry, at_plain, at_class}
use Rattle.clf_sig.proofs.signature.Signature.entry.Goals as goal

pub returns-clause-declared : goal.returns-clause-declared
returns-clause-declared c = rw (← c.self.view_is) (at_entry c.self.inside.declared.entries c.args.k c.in_ok-entry.field-0-0.now c.in_ok-entry.entry.now c.in_ok-entry.ensures.entry)

pub returns-clause-plain : goal.returns-clause-plain
returns-clause-plain c = rw (← c.self.view_is) (at_plain c.self.inside.declared.entries c.args.k c.in_ok-entry.field-0-0.now c.in_ok-entry.entry.now c.in_ok-entry.ensures.entry)

pub returns-clause-class : goal.returns-clause-class
returns-clause-class c = rw (← c.self.view_is) (at_class c.self.inside.declared.entries c.args.k c.in_ok-entry.field-0-0.now c.in_ok-entry.entry.now c.in_ok-entry.ensures.entry)
