use Rattle.std.proofs.Common.{subst}
use Rattle.clf_syntax.specs.Plain.{plain_obj}
use Rattle.clf_syntax.specs.PlainSimple.{plain_simple}
use Rattle.celf_constraints.specs.Equated.{plain_equation}
use Rattle.celf_unify.specs.Gathered.{consts_in, metas_in}
use Rattle.celf_unify.specs.Sided.{SaysLeft, posed}
use Rattle.celf_unify.proofs.Insides.{step_left}
use Rattle.celf_unify.proofs.examine.look.Goals as goal

pub returns-in-Step-clause-judged : goal.returns-in-Step-clause-judged
returns-in-Step-clause-judged c = step_left (consts_in c.args.store.now) (metas_in c.args.store.now) (plain_equation c.args.equation.now) c.in-Step.step
    (subst (SaysLeft (consts_in c.args.store.now) (metas_in c.args.store.now) (posed c.args.equation.now.locals.items (plain_simple c.args.equation.now.ty) (plain_obj c.args.equation.now.left) (plain_obj c.args.equation.now.right))) c.in-Step.is
    (subst (λ ls. SaysLeft (consts_in c.args.store.now) (metas_in c.args.store.now) (posed ls (plain_simple c.args.equation.now.ty) (plain_obj c.args.equation.now.left) (plain_obj c.args.equation.now.right)) c.in_ok-from_side.field-0) c.as_slice-locals.ensures.value c.in_ok-from_side.ensures.says))
