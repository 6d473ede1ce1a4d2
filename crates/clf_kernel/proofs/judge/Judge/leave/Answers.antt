use Rattle.clf_kernel.proofs.Growing.{entries_of, same_entries}
use Rattle.clf_kernel.proofs.RowSteps.{popped}
use Rattle.clf_kernel.proofs.judge.Judge.leave.Goals as goal

pub returns : goal.returns
returns c = λ outer entered.
    same_entries outer _ entered.1.alloc entered.1.signature
    (popped c.pop.result (entries_of c.args.self.now) c.pop.new.self (entries_of outer) entered.0 c.pop.ensures entered.1.entries)
