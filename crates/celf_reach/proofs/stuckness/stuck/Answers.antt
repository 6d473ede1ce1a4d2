use Rattle.std.proofs.Common.{ap, subst}
use Rattle.std.proofs.lemmas.Result.{IfErr-weaker, IfOk-weaker}
use Rattle.clf_syntax.specs.Plain.{plain_obj}
use Rattle.clf_syntax.specs.PlainSimple.{plain_simple}
use Rattle.clf_syntax.proofs.OccursLaws.{not_both}
use Rattle.celf_constraints.specs.Equated.{plain_equation, plain_locals}
use Rattle.celf_reach.specs.Answered.{types_in, heads_of}
use Rattle.celf_reach.specs.Passed.{PassesEither}
use Rattle.celf_reach.specs.Stuckness.{SaysApart}
use Rattle.celf_reach.proofs.StuckTests.{stuck_apart, stuck_monadic}
use Rattle.celf_reach.proofs.stuckness.stuck.Goals as goal

pub returns-then-has_flexible : goal.returns-then-has_flexible
returns-then-has_flexible c = record {
  exact = IfOk-weaker c.are_apart.result _ _
      (λ b h t. stuck_apart (types_in c.args.consts.now) (types_in c.args.metas.now) (plain_equation c.args.equation.now) b (c.has_flexible.ensures.0 c.if-has_flexible.true)
      (subst (λ l. SaysApart (heads_of c.args.consts.now c.args.metas.now) l (plain_simple c.args.equation.now.ty) (plain_obj c.args.equation.now.left) (plain_obj c.args.equation.now.right) b) (ap plain_locals c.as_slice.ensures.value) h t.0 t.1))
      c.are_apart.ensures.exact;
  too_far = IfErr-weaker c.are_apart.result _ _
      (λ e h t. subst (λ l. PassesEither (heads_of c.args.consts.now c.args.metas.now) l (plain_simple c.args.equation.now.ty) (plain_obj c.args.equation.now.left) (plain_obj c.args.equation.now.right) e) (ap plain_locals c.as_slice.ensures.value) h t.0 t.1)
      c.are_apart.ensures.too_far;
}

pub returns-else-has_flexible : goal.returns-else-has_flexible
returns-else-has_flexible c = record {
  exact = λ t. stuck_monadic (types_in c.args.consts.now) (types_in c.args.metas.now) (plain_equation c.args.equation.now) c.are_left_monadic.result
      (λ f. not_both (c.has_flexible.ensures.1 f) c.if-has_flexible.false) c.are_left_monadic.ensures;
  too_far = tt;
}
