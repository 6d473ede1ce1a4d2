use Rattle.std.proofs.Common.{arith, ℕ, List, subst, sym, ◌∙◌}
use Rattle.std.proofs.lemmas.Grind.{common_steps}
use Rattle.celf_front.specs.Needs.{mentions}
use Rattle.celf_front.specs.Listed.{IsListed}
use Rattle.celf_front.proofs.Circles.{absent, leads_on, way_next, circle_made}
use Rattle.celf_front.proofs.circle.circle_from.Goals as goal

pub loop-way-preserved : goal.loop-way-preserved
loop-way-preserved c =
    let made = c.first_missing-binder.ensures in
    let at = c.loop-way.invariant.way in
    let to = leads_on c.args.count (mentions c.args.needs.now) c.args.placed.now.numbers c.loop-way.binder c.first_missing-binder.result c.requires.stuck at.unplaced made.within made.before made.found in
    let new = absent c.args.count c.loop-way.way c.loop-way.binder c.loop-way.invariant.listed at.unplaced.0 (sym c.has.ensures ∙ c.loop-way-test.true) in record {
      listed = subst (λ n. IsListed n c.add.new.self) c.loop-way.invariant.listed.size c.in_ok-add.ensures.listed;
      way = rw c.in_ok-add.ensures.numbers (way_next c.args.count (mentions c.args.needs.now) c.args.placed.now.numbers c.args.first c.loop-way.way.numbers c.loop-way.binder c.first_missing-binder.result at new to);
    }

pub returns : goal.returns
returns c =
    let at = c.loop-way.invariant in
    let has = at.listed.came c.loop-way.binder (sym c.has.ensures ∙ c.loop-way-test.false) in
    let made = λ (circle : List ℕ). circle_made c.args.count (mentions c.args.needs.now) c.args.placed.now.numbers c.args.first c.loop-way.way.numbers c.loop-way.binder circle c.requires.placed c.requires.stuck c.requires.unplaced c.requires.earliest at.way has in
    let part = rw c.as_slice.ensures at c.from_on.ensures in
    grind (arith, common_steps, made, part)
