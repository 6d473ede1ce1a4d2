use Rattle.std.proofs.Common.{map, ap, sym, subst, ◌∙◌, ◌++◌, refl}
use Rattle.celf_constraints.specs.Equated.{plain_equation, equations_in}
use Rattle.metavars.specs.Stored.{constants, additions}
use Rattle.celf_unify.specs.Gathered.{consts_in, metas_in}
use Rattle.celf_unify.specs.Searched.{GathersOnce}
use Rattle.celf_unify.proofs.Gathering.{none_left, popped}
use Rattle.celf_unify.proofs.Searching.{so_far_start, so_far_left, so_far_next, clash_after, step_after, below_here, ready_one, may_advance, flat_left, flat_step}
use Rattle.celf_unify.proofs.search.search.Goals as goal

pub gather_one-requires : goal.gather_one-requires
gather_one-requires c = record {
  ready = ready_one (constants c.args.store.now) (additions c.args.store.now) (map plain_equation c.args.stack.items) c.requires.ready (map plain_equation c.loop-equation.work.items) (map plain_equation c.pop.new.self.items)
      (plain_equation c.in-Some.equation) (popped c.loop-equation.work.items c.pop.new.self.items c.in-Some.equation c.in-Some.ensures.items) c.loop-equation.invariant.inside;
}

pub returns-in-Clash-clause-searched : goal.returns-in-Clash-clause-searched
returns-in-Clash-clause-searched c v all_in closed = let (d, put, h) = subst (λ g. GathersOnce c.args.store.now (plain_equation c.in-Some.equation) g) c.in-Clash.is c.in_ok-more.ensures.once in
    clash_after (consts_in c.args.store.now) (metas_in c.args.store.now) v (map plain_equation c.args.stack.items) (map plain_equation c.loop-equation.work.items) (map plain_equation c.pop.new.self.items)
    (plain_equation c.in-Some.equation) d (popped c.loop-equation.work.items c.pop.new.self.items c.in-Some.equation c.in-Some.ensures.items) c.loop-equation.invariant.inside (put v all_in closed) c.in-Clash.clash h

pub returns-in-Step-clause-searched : goal.returns-in-Step-clause-searched
returns-in-Step-clause-searched c v all_in closed = let (d, put, h) = subst (λ g. GathersOnce c.args.store.now (plain_equation c.in-Some.equation) g) c.in-Step.is c.in_ok-more.ensures.once in
    step_after (consts_in c.args.store.now) (metas_in c.args.store.now) v (map plain_equation c.args.stack.items) (map plain_equation c.loop-equation.work.items) (map plain_equation c.pop.new.self.items)
    (plain_equation c.in-Some.equation) d (popped c.loop-equation.work.items c.pop.new.self.items c.in-Some.equation c.in-Some.ensures.items) c.loop-equation.invariant.inside (put v all_in closed)
    (map plain_equation c.in-Step.rest.items) (map plain_equation c.in_ok-with_each-in-Step.field-0.items) c.in-Step.step c.in_ok-with_each-in-Step.ensures h

pub returns-in-Step-clause-may : goal.returns-in-Step-clause-may
returns-in-Step-clause-may c = let (d, put, h) = subst (λ g. GathersOnce c.args.store.now (plain_equation c.in-Some.equation) g) c.in-Step.is c.in_ok-more.ensures.once in
    may_advance (constants c.args.store.now) (additions c.args.store.now) (map plain_equation c.args.stack.items) c.requires.ready (map plain_equation c.loop-equation.work.items) (map plain_equation c.pop.new.self.items)
    (plain_equation c.in-Some.equation) (popped c.loop-equation.work.items c.pop.new.self.items c.in-Some.equation c.in-Some.ensures.items) c.loop-equation.invariant.inside d put
    (map plain_equation c.in-Step.rest.items) (map plain_equation c.in_ok-with_each-in-Step.field-0.items) c.in-Step.step c.in_ok-with_each-in-Step.ensures h

pub returns-in-Step-clause-flat : goal.returns-in-Step-clause-flat
returns-in-Step-clause-flat c f = let (d, put, h) = subst (λ g. GathersOnce c.args.store.now (plain_equation c.in-Some.equation) g) c.in-Step.is c.in_ok-more.ensures.once in
    flat_step (constants c.args.store.now) (additions c.args.store.now) (map plain_equation c.args.stack.items) c.requires.ready (map plain_equation c.loop-equation.work.items) (map plain_equation c.pop.new.self.items)
    (plain_equation c.in-Some.equation) (popped c.loop-equation.work.items c.pop.new.self.items c.in-Some.equation c.in-Some.ensures.items) c.loop-equation.invariant.inside d put f
    (map plain_equation c.in-Step.rest.items) (map plain_equation c.in_ok-with_each-in-Step.field-0.items) c.in-Step.step c.in_ok-with_each-in-Step.ensures h

pub loop-equation-preserved : goal.loop-equation-preserved
loop-equation-preserved c = let (d, put, h) = subst (λ g. GathersOnce c.args.store.now (plain_equation c.in-Some.equation) g) c.in-Left.is c.in_ok-more.ensures.once in record {
  inside = below_here (constants c.args.store.now) (additions c.args.store.now) (map plain_equation c.args.stack.items) c.requires.ready (map plain_equation c.loop-equation.work.items) (map plain_equation c.pop.new.self.items)
      (plain_equation c.in-Some.equation) (popped c.loop-equation.work.items c.pop.new.self.items c.in-Some.equation c.in-Some.ensures.items) c.loop-equation.invariant.inside;
  so_far = (λ v all_in closed. so_far_next (consts_in c.args.store.now) (metas_in c.args.store.now) v (map plain_equation c.args.stack.items) (map plain_equation c.loop-equation.work.items) (map plain_equation c.pop.new.self.items)
      (plain_equation c.in-Some.equation) d (popped c.loop-equation.work.items c.pop.new.self.items c.in-Some.equation c.in-Some.ensures.items) c.loop-equation.invariant.inside (put v all_in closed)
      (equations_in c.loop-equation.left) (equations_in c.in-Left.more) (equations_in c.in_ok-left-in-Left.left) c.in_ok-left-in-Left.ensures h (c.loop-equation.invariant.so_far v all_in closed));
  flat = (λ f. c.in_ok-left-in-Left.ensures ∙ ap (λ l. l ++ equations_in c.in-Left.more) (c.loop-equation.invariant.flat f)
      ∙ flat_left (constants c.args.store.now) (additions c.args.store.now) (map plain_equation c.args.stack.items) c.requires.ready (map plain_equation c.loop-equation.work.items) (map plain_equation c.pop.new.self.items)
      (plain_equation c.in-Some.equation) (popped c.loop-equation.work.items c.pop.new.self.items c.in-Some.equation c.in-Some.ensures.items) c.loop-equation.invariant.inside d put f (equations_in c.in-Left.more) h);
}

pub loop-equation-init : goal.loop-equation-init
loop-equation-init c = record {
  inside = (λ e l. l);
  so_far = (λ v all_in closed. so_far_start (consts_in c.args.store.now) (metas_in c.args.store.now) v (map plain_equation c.args.stack.items) (map plain_equation c.args.stack.items) (equations_in c.new-left.result) refl c.new-left.ensures);
  flat = (λ f. c.new-left.ensures);
}

pub returns-clause-searched : goal.returns-clause-searched
returns-clause-searched c v all_in closed = so_far_left (consts_in c.args.store.now) (metas_in c.args.store.now) v (map plain_equation c.args.stack.items) (map plain_equation c.loop-equation.work.items) (equations_in c.loop-equation.left)
    (none_left c.loop-equation.work.items (sym c.loop-equation.work.ok.0 ∙ c.in_default.ensures.cases.0)) (c.loop-equation.invariant.so_far v all_in closed)
