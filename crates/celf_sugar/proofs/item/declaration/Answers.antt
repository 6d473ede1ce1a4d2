use Rattle.std.proofs.Common.{sym, ◌∙◌}
use Rattle.celf_sugar.proofs.AnswerLaws.{fault-first}
use Rattle.celf_sugar.proofs.item.declaration.Goals as goal

pub returns-in-Some-clause-fault : goal.returns-in-Some-clause-fault
returns-in-Some-clause-fault c = fault-first c.in-Some.fault _ (sym (c.declaration_fault.ensures c.args.name.now) ∙ c.in-Some.is)

pub returns-clause-clean : goal.returns-clause-clean
returns-clause-clean c = sym (c.declaration_fault.ensures c.args.name.now) ∙ c.in_default.is
