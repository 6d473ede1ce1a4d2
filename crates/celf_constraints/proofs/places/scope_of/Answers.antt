use Rattle.std.proofs.Common.{◌<◌, length, arith, ◌∙◌}
use Rattle.clf_simple.specs.Scope.{scope}
use Rattle.celf_constraints.proofs.Meeting.{more_types, last_types}
use Rattle.celf_constraints.proofs.places.scope_of.Goals as goal

pub loop-local-preserved : goal.loop-local-preserved
loop-local-preserved c =
    let lt : c.loop-local.local-index < length c.args.locals.now = omega arith in
    more_types c.args.locals.now c.loop-local.local-index c.local-item.result (scope c.loop-local.types.items) (scope c.in_ok-types.types.items) lt c.local-item.is c.in_ok-types.ensures ∙ c.loop-local.invariant

pub returns : goal.returns
returns c = last_types c.args.locals.now c.loop-local.local-index (scope c.loop-local.types.items) (λ l. absurd (omega (arith, l, c.loop-local-test.false))) c.loop-local.invariant
