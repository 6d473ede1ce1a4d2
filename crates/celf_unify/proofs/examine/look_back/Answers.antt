use Rattle.std.proofs.Common.{subst, sym}
use Rattle.clf_syntax.specs.Plain.{plain_obj}
use Rattle.clf_syntax.specs.PlainSimple.{plain_simple}
use Rattle.celf_constraints.specs.Equated.{plain_equation}
use Rattle.celf_unify.specs.Gathered.{consts_in, metas_in}
use Rattle.celf_unify.specs.Sided.{IsPosed, SaysLeft, posed}
use Rattle.celf_unify.proofs.Insides.{step_right, clashes_flipped, posed_flipped}
use Rattle.celf_unify.proofs.examine.look_back.Goals as goal

pub returns-in-Step-clause-judged : goal.returns-in-Step-clause-judged
returns-in-Step-clause-judged c = step_right (consts_in c.args.store.now) (metas_in c.args.store.now) (plain_equation c.args.equation.now) c.in-Step.step
    (subst (SaysLeft (consts_in c.args.store.now) (metas_in c.args.store.now) (posed c.args.equation.now.locals.items (plain_simple c.args.equation.now.ty) (plain_obj c.args.equation.now.right) (plain_obj c.args.equation.now.left))) c.in-Step.is
    (subst (λ ls. SaysLeft (consts_in c.args.store.now) (metas_in c.args.store.now) (posed ls (plain_simple c.args.equation.now.ty) (plain_obj c.args.equation.now.right) (plain_obj c.args.equation.now.left)) c.in_ok-from_side.field-0) c.as_slice-locals.ensures.value c.in_ok-from_side.ensures.says))

pub returns-in-Clash-clause-judged : goal.returns-in-Clash-clause-judged
returns-in-Clash-clause-judged c = clashes_flipped (consts_in c.args.store.now) (metas_in c.args.store.now) (plain_equation c.args.equation.now)
    (subst (SaysLeft (consts_in c.args.store.now) (metas_in c.args.store.now) (posed c.args.equation.now.locals.items (plain_simple c.args.equation.now.ty) (plain_obj c.args.equation.now.right) (plain_obj c.args.equation.now.left))) c.in-Clash.is
    (subst (λ ls. SaysLeft (consts_in c.args.store.now) (metas_in c.args.store.now) (posed ls (plain_simple c.args.equation.now.ty) (plain_obj c.args.equation.now.right) (plain_obj c.args.equation.now.left)) c.in_ok-from_side.field-0) c.as_slice-locals.ensures.value c.in_ok-from_side.ensures.says))

pub look_inside-requires-clause-right : goal.look_inside-requires-clause-right
look_inside-requires-clause-right c = subst (SaysLeft (consts_in c.args.store.now) (metas_in c.args.store.now) (posed c.args.equation.now.locals.items (plain_simple c.args.equation.now.ty) (plain_obj c.args.equation.now.right) (plain_obj c.args.equation.now.left))) c.in-Nothing.is
    (subst (λ ls. SaysLeft (consts_in c.args.store.now) (metas_in c.args.store.now) (posed ls (plain_simple c.args.equation.now.ty) (plain_obj c.args.equation.now.right) (plain_obj c.args.equation.now.left)) c.in_ok-from_side.field-0) c.as_slice-locals.ensures.value c.in_ok-from_side.ensures.says)

pub from_side-requires : goal.from_side-requires
from_side-requires c = record {
  posed = subst (λ ls. IsPosed c.args.store.now (posed ls (plain_simple c.args.equation.now.ty) (plain_obj c.args.equation.now.right) (plain_obj c.args.equation.now.left))) (sym c.as_slice-locals.ensures.value)
      (posed_flipped c.args.store.now (plain_equation c.args.equation.now) c.requires.posed);
}
