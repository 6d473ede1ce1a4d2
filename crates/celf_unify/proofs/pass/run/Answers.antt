use Rattle.std.proofs.Common.{subst, map}
use Rattle.celf_constraints.specs.Equated.{plain_equation}
use Rattle.celf_unify.proofs.Grown.{part_then}
use Rattle.celf_unify.proofs.Passing.{Run, run_advances, state_advances, run_left, run_clash}
use Rattle.celf_unify.proofs.pass.run.Goals as goal

pub returns-in-Left-clause-runs : goal.returns-in-Left-clause-runs
returns-in-Left-clause-runs c = run_left c.args.store.now c.args.first c.loop-state.store c.in-Left._left
    (subst (λ g. Run c.args.store.now c.args.first c.loop-state.store g) c.in-Left.is (record { same = c.loop-state.invariant.same; lighter = c.loop-state.invariant.lighter; goes = c.loop-state.invariant.goes; flat = c.loop-state.invariant.flat }))

pub returns-in-Clash-clause-runs : goal.returns-in-Clash-clause-runs
returns-in-Clash-clause-runs c = run_clash c.args.store.now c.args.first c.loop-state.store c.in-Clash.clash
    (subst (λ g. Run c.args.store.now c.args.first c.loop-state.store g) c.in-Clash.is (record { same = c.loop-state.invariant.same; lighter = c.loop-state.invariant.lighter; goes = c.loop-state.invariant.goes; flat = c.loop-state.invariant.flat }))

pub loop-state-preserved : goal.loop-state-preserved
loop-state-preserved c = record {
  may = state_advances c.args.store.now c.loop-state.store c.advance.new.store c.in-Step.step (map plain_equation c.in-Step.rest.items) c.in_ok-state-in-Step.state c.loop-state.invariant.same c.in_ok-state-in-Step.ensures.advanced;
  part = part_then c.args.store.now c.loop-state.store c.advance.new.store c.loop-state.invariant.part c.in_ok-state-in-Step.ensures.part;
  same = next.same;
  lighter = next.lighter;
  goes = next.goes;
  flat = next.flat;
}
  where
    next : Run c.args.store.now c.args.first c.advance.new.store c.in_ok-state-in-Step.state
    next = run_advances c.args.store.now c.args.first c.loop-state.store c.advance.new.store c.in-Step.step c.in-Step.rest c.in_ok-state-in-Step.state
        (subst (λ g. Run c.args.store.now c.args.first c.loop-state.store g) c.in-Step.is (record { same = c.loop-state.invariant.same; lighter = c.loop-state.invariant.lighter; goes = c.loop-state.invariant.goes; flat = c.loop-state.invariant.flat }))
        c.in_ok-state-in-Step.ensures.advanced
