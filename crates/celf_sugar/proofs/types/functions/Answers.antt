use Rattle.std.proofs.Common.{◌∙◌}
use Rattle.celf_sugar.proofs.FunctionLaws.{last_entry}
use Rattle.celf_sugar.proofs.types.functions.Goals as goal

pub loop-entry-preserved : goal.loop-entry-preserved
loop-entry-preserved c = last_entry c.args.span c.loop-entry.doms c.pop.new.self c.in-Some.entry c.loop-entry.cod c.in_ok-cod.cod c.in-Some.ensures c.in_ok-cod.ensures ∙ c.loop-entry.invariant
