use Rattle.std.proofs.Common.{refl, subst, ◌∙◌}
use Rattle.solver_laws.specs.Solving.{Ready}
use Rattle.solver_laws.proofs.Works.{work_starts}
use Rattle.celf_constraints.specs.Equated.{equations_in}
use Rattle.metavars.specs.Stored.{constants, additions}
use Rattle.celf_unify.specs.Passes.{PassAnswers, FlatEnds}
use Rattle.celf_unify.proofs.Passing.{pass_follows, pass_flat, left_answers, left_decided}
use Rattle.celf_unify.proofs.Grown.{part_same, part_then}
use Rattle.celf_unify.proofs.whole.unify.Goals as goal

pub loop-left-init : goal.loop-left-init
loop-left-init c = record {
  part = part_same c.args.store.now;
  same = refl;
  ready = c.requires.ready;
  solving = work_starts (constants c.args.store.now) (additions c.args.store.now) (equations_in c.args.equations.now) c.requires.ready;
  flat = (λ f. f.store);
}

pub loop-left-preserved : goal.loop-left-preserved
loop-left-preserved c = record {
  part = part_then c.args.store.now c.loop-left.store c.one_pass.new.store c.loop-left.invariant.part c.in_ok-one_pass.ensures.part;
  same = c.in_ok-one_pass.ensures.ends.same ∙ c.loop-left.invariant.same;
  ready = subst (λ cs. Ready cs (additions c.one_pass.new.store) (equations_in c.args.equations.now)) c.loop-left.invariant.same c.in_ok-one_pass.ensures.ends.ready;
  solving = subst (λ p. PassAnswers (constants c.args.store.now) (additions c.args.store.now) (additions c.one_pass.new.store) (equations_in c.args.equations.now) p) c.in-Again.is
      (pass_follows c.args.store.now c.loop-left.store c.one_pass.new.store (equations_in c.args.equations.now) c.in_ok-one_pass.field-0 c.requires.ready c.loop-left.invariant.same c.loop-left.invariant.solving c.in_ok-one_pass.ensures.ends);
  flat = (λ f. subst (λ p. FlatEnds (constants c.args.store.now) (additions c.one_pass.new.store) p) c.in-Again.is
      (pass_flat c.args.store.now c.loop-left.store c.one_pass.new.store (equations_in c.args.equations.now) c.in_ok-one_pass.field-0 c.loop-left.invariant.same c.loop-left.invariant.solving c.in_ok-one_pass.ensures.ends f (c.loop-left.invariant.flat f)));
}

pub returns-in-Left-clause-answers : goal.returns-in-Left-clause-answers
returns-in-Left-clause-answers c = left_answers c.args.store.now c.one_pass.new.store (equations_in c.args.equations.now) (equations_in c.in-Left.left) c.with_left.result c.with_left.ensures
    (subst (λ p. PassAnswers (constants c.args.store.now) (additions c.args.store.now) (additions c.one_pass.new.store) (equations_in c.args.equations.now) p) c.in-Left.is
    (pass_follows c.args.store.now c.loop-left.store c.one_pass.new.store (equations_in c.args.equations.now) c.in_ok-one_pass.field-0 c.requires.ready c.loop-left.invariant.same c.loop-left.invariant.solving c.in_ok-one_pass.ensures.ends))

pub returns-in-Clash-clause-answers : goal.returns-in-Clash-clause-answers
returns-in-Clash-clause-answers c = subst (λ p. PassAnswers (constants c.args.store.now) (additions c.args.store.now) (additions c.one_pass.new.store) (equations_in c.args.equations.now) p) c.in-Clash.is
    (pass_follows c.args.store.now c.loop-left.store c.one_pass.new.store (equations_in c.args.equations.now) c.in_ok-one_pass.field-0 c.requires.ready c.loop-left.invariant.same c.loop-left.invariant.solving c.in_ok-one_pass.ensures.ends)

pub returns-in-Left-clause-flat : goal.returns-in-Left-clause-flat
returns-in-Left-clause-flat c f = let (h, e) = subst (λ p. FlatEnds (constants c.args.store.now) (additions c.one_pass.new.store) p) c.in-Left.is
    (pass_flat c.args.store.now c.loop-left.store c.one_pass.new.store (equations_in c.args.equations.now) c.in_ok-one_pass.field-0 c.loop-left.invariant.same c.loop-left.invariant.solving c.in_ok-one_pass.ensures.ends f (c.loop-left.invariant.flat f)) in
    (h, left_decided (equations_in c.in-Left.left) c.with_left.result c.with_left.ensures e)

pub returns-in-Clash-clause-flat : goal.returns-in-Clash-clause-flat
returns-in-Clash-clause-flat c f = (
  subst (λ p. FlatEnds (constants c.args.store.now) (additions c.one_pass.new.store) p) c.in-Clash.is
      (pass_flat c.args.store.now c.loop-left.store c.one_pass.new.store (equations_in c.args.equations.now) c.in_ok-one_pass.field-0 c.loop-left.invariant.same c.loop-left.invariant.solving c.in_ok-one_pass.ensures.ends f (c.loop-left.invariant.flat f)),
  tt,
)
