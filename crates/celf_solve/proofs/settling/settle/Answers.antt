use Rattle.celf_constraints.specs.Equated.{equations_in}
use Rattle.celf_solve.proofs.Settled.{can_put_in, ends_so}
use Rattle.celf_solve.proofs.Starts.{ready}
use Rattle.celf_solve.proofs.settling.settle.Goals as goal

pub unify-requires : goal.unify-requires
unify-requires c = record { ready = ready c.args.scene (equations_in c.args.equations.now) c.requires.typed }

pub ended-requires : goal.ended-requires
ended-requires c = let there = c.in-Ok.ensures in record {
  formed = can_put_in c.args.scene (equations_in c.args.equations.now) c.requires.typed c.unify.new.store there.ready there.added c.in-Ok.unified there.answers;
}

pub returns-in-Ok-clause-ends : goal.returns-in-Ok-clause-ends
returns-in-Ok-clause-ends c = let there = c.in-Ok.ensures in
    ends_so c.args.scene (equations_in c.args.equations.now) c.requires.typed c.unify.new.store there.ready there.added c.in-Ok.unified there.answers c.ended.result c.ended.ensures.end
