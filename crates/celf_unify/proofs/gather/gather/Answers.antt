use Rattle.std.proofs.Common.{subst, map, ◌∙◌, ap, ◌++◌, ◌∷◌, [], sym}
use Rattle.solver_laws.proofs.Reducing.{work_is_reduced}
use Rattle.solver_laws.specs.Reduced.{Reduced}
use Rattle.celf_constraints.specs.Equated.{plain_equation, equations_in}
use Rattle.celf_unify.specs.Gathered.{consts_in, metas_in}
use Rattle.celf_unify.specs.Examined.{Examines}
use Rattle.celf_unify.proofs.Gathering.{popped, parts_smaller, one_smaller, last_typed, with_parts, with_left_over, clash_in, step_in, over_more, none_over}
use Rattle.celf_unify.proofs.gather.gather.Goals as goal

pub loop-equation-init : goal.loop-equation-init
loop-equation-init c = record {
  reduced = subst (λ l. Reduced (consts_in c.args.store.now) (metas_in c.args.store.now) (map plain_equation c.args.work.items) (l ++ (map plain_equation c.args.work.items))) (sym c.new-left.ensures) ((work_is_reduced (consts_in c.args.store.now) (metas_in c.args.store.now)).nothing (map plain_equation c.args.work.items));
  over = none_over (consts_in c.args.store.now) (metas_in c.args.store.now) (equations_in c.new-left.result) c.new-left.ensures;
}

pub examine-requires : goal.examine-requires
examine-requires c = record { typed = record { typed = (last_typed (consts_in c.args.store.now) (metas_in c.args.store.now) (map plain_equation c.args.work.items) (equations_in c.loop-equation.left) (map plain_equation c.loop-equation.work.items) (map plain_equation c.pop.new.self.items) (plain_equation c.in-Some.equation) c.loop-equation.invariant.reduced (popped c.loop-equation.work.items c.pop.new.self.items c.in-Some.equation c.in-Some.ensures.items) c.requires.typed.typed, tt); final = c.requires.typed.final } }

pub loop-equation-smaller-in-Parts : goal.loop-equation-smaller-in-Parts
loop-equation-smaller-in-Parts c = parts_smaller (map plain_equation c.loop-equation.work.items) (map plain_equation c.pop.new.self.items) (map plain_equation c.in-Parts.parts.items) (map plain_equation c.in_ok-work-in-Parts.work.items) (plain_equation c.in-Some.equation)
    (popped c.loop-equation.work.items c.pop.new.self.items c.in-Some.equation c.in-Some.ensures.items) c.in_ok-work-in-Parts.ensures (subst (λ x. Examines c.args.store.now (plain_equation c.in-Some.equation) x) c.in-Parts.is c.in_ok-parts.ensures.examined).smaller

pub loop-equation-preserved-in-Parts : goal.loop-equation-preserved-in-Parts
loop-equation-preserved-in-Parts c = record {
  reduced = with_parts (consts_in c.args.store.now) (metas_in c.args.store.now) (map plain_equation c.args.work.items) (equations_in c.loop-equation.left) (map plain_equation c.loop-equation.work.items) (map plain_equation c.pop.new.self.items) (plain_equation c.in-Some.equation)
      c.loop-equation.invariant.reduced (popped c.loop-equation.work.items c.pop.new.self.items c.in-Some.equation c.in-Some.ensures.items) (map plain_equation c.in-Parts.parts.items) (map plain_equation c.in_ok-work-in-Parts.work.items) c.in_ok-work-in-Parts.ensures
      (subst (λ x. Examines c.args.store.now (plain_equation c.in-Some.equation) x) c.in-Parts.is c.in_ok-parts.ensures.examined).reduced;
  over = c.loop-equation.invariant.over;
}

pub loop-equation-smaller : goal.loop-equation-smaller
loop-equation-smaller c = one_smaller (map plain_equation c.loop-equation.work.items) (map plain_equation c.pop.new.self.items) (plain_equation c.in-Some.equation) (popped c.loop-equation.work.items c.pop.new.self.items c.in-Some.equation c.in-Some.ensures.items)

pub loop-equation-preserved : goal.loop-equation-preserved
loop-equation-preserved c = record {
  reduced = with_left_over (consts_in c.args.store.now) (metas_in c.args.store.now) (map plain_equation c.args.work.items) (equations_in c.loop-equation.left) (map plain_equation c.loop-equation.work.items) (map plain_equation c.pop.new.self.items) (plain_equation c.in-Some.equation) c.loop-equation.invariant.reduced (popped c.loop-equation.work.items c.pop.new.self.items c.in-Some.equation c.in-Some.ensures.items) (equations_in c.in_ok-left-in-Left.left) (c.in_ok-left-in-Left.ensures ∙ ap (λ d. (equations_in c.loop-equation.left) ++ d ∷ []) (subst (λ x. Examines c.args.store.now (plain_equation c.in-Some.equation) x) c.in-Left.is c.in_ok-parts.ensures.examined).0);
  over = over_more (consts_in c.args.store.now) (metas_in c.args.store.now) (equations_in c.loop-equation.left) (equations_in c.in_ok-left-in-Left.left) (plain_equation c.in-Some.equation) (c.in_ok-left-in-Left.ensures ∙ ap (λ d. (equations_in c.loop-equation.left) ++ d ∷ []) (subst (λ x. Examines c.args.store.now (plain_equation c.in-Some.equation) x) c.in-Left.is c.in_ok-parts.ensures.examined).0) c.loop-equation.invariant.over (subst (λ x. Examines c.args.store.now (plain_equation c.in-Some.equation) x) c.in-Left.is c.in_ok-parts.ensures.examined).1;
}

pub returns-in-Clash-clause-gathered : goal.returns-in-Clash-clause-gathered
returns-in-Clash-clause-gathered c = clash_in (consts_in c.args.store.now) (metas_in c.args.store.now) (map plain_equation c.args.work.items) (equations_in c.loop-equation.left) (map plain_equation c.loop-equation.work.items) (map plain_equation c.pop.new.self.items) (plain_equation c.in-Some.equation) c.loop-equation.invariant.reduced (popped c.loop-equation.work.items c.pop.new.self.items c.in-Some.equation c.in-Some.ensures.items) c.in-Clash.clash (subst (λ x. Examines c.args.store.now (plain_equation c.in-Some.equation) x) c.in-Clash.is c.in_ok-parts.ensures.examined)

pub returns-in-Step-clause-gathered : goal.returns-in-Step-clause-gathered
returns-in-Step-clause-gathered c = step_in (consts_in c.args.store.now) (metas_in c.args.store.now) (map plain_equation c.args.work.items) (equations_in c.loop-equation.left) (map plain_equation c.loop-equation.work.items) (map plain_equation c.pop.new.self.items) (plain_equation c.in-Some.equation) c.loop-equation.invariant.reduced (popped c.loop-equation.work.items c.pop.new.self.items c.in-Some.equation c.in-Some.ensures.items) c.in-Step.step (map plain_equation c.in_ok-with_equation-in-Step.field-0.items) (c.in_ok-with_equation-in-Step.ensures ∙ ap (λ d. (map plain_equation c.pop.new.self.items) ++ d ∷ []) (subst (λ x. Examines c.args.store.now (plain_equation c.in-Some.equation) x) c.in-Step.is c.in_ok-parts.ensures.examined).0) (subst (λ x. Examines c.args.store.now (plain_equation c.in-Some.equation) x) c.in-Step.is c.in_ok-parts.ensures.examined).1
