use Rattle.celf_gather.proofs.Heads.{variable_gives}
use Rattle.celf_gather.proofs.known.Known.infer_variable.Goals as goal

pub returns-in-Some : goal.returns-in-Some
returns-in-Some c = variable_gives c.args.walk.now c.args.var c.entry.result.now c.raised_type.result c.entry.ensures c.in-Some.ensures.1 c.raised_type.ensures.raised c.raised_type.ensures.short
