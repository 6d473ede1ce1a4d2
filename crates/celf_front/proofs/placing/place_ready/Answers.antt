use Rattle.std.proofs.Common.{subst}
use Rattle.celf_front.specs.Needs.{mentions}
use Rattle.celf_front.specs.Listed.{IsListed}
use Rattle.celf_front.proofs.Placed.{comes_next}
use Rattle.celf_front.proofs.placing.place_ready.Goals as goal

pub loop-binder-preserved : goal.loop-binder-preserved
loop-binder-preserved c = record {
  listed = subst (λ n. IsListed n c.add.new.self) c.loop-binder.invariant.listed.size c.in_ok-add.ensures.listed;
  comes = rw c.in_ok-add.ensures.numbers (comes_next c.args.count (mentions c.args.needs.now) c.loop-binder.placed.numbers c.in-Some.binder c.loop-binder.invariant.comes c.in-Some.ensures);
}
