use Rattle.metavars.proofs.TablesLaws.{front-all}
use Rattle.metavars.proofs.tables.Tables.cut.Goals as goal

pub loop-self-init : goal.loop-self-init
loop-self-init c = front-all c.args.count c.args.self.now c.requires.tables c.requires.count
