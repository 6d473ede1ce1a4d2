use Rattle.std.proofs.Common.{sym, subst, length, ap, ◌∙◌}
use Rattle.hered_subst.specs.Substitution.{Substituted}
use Rattle.celf_constraints.specs.Equated.{plain_locals}
use Rattle.clf_syntax.specs.Plain.{plain_obj}
use Rattle.clf_syntax.specs.PlainSimple.{plain_simple}
use Rattle.metavars.proofs.Becomings.{under-closed}
use Rattle.celf_constraints.specs.Equated.{plain_equation}
use Rattle.celf_unify.proofs.Readiness.{left_typed, right_typed}
use Rattle.celf_unify.proofs.put_in.put_in.Goals as goal

pub with_solutions-requires : goal.with_solutions-requires
with_solutions-requires c = record { typed = left_typed c.args.store.now (plain_equation c.args.equation.now) c.requires.ready }

pub with_solutions-requires-2 : goal.with_solutions-requires-2
with_solutions-requires-2 c = record { typed = right_typed c.args.store.now (plain_equation c.args.equation.now) c.requires.ready }

pub returns-clause-put_in : goal.returns-clause-put_in
returns-clause-put_in c s all closed = record {
  locals = ap plain_locals (c.in_ok-copy_locals.ensures ∙ c.as_slice.ensures.value);
  type = ap plain_simple c.in_ok-copy.ensures;
  left = subst (λ e. Substituted e (plain_obj c.args.equation.now.left) (plain_obj c.in_ok-with_solutions.field-0)) (sym (under-closed s closed (length (plain_locals c.args.equation.now.locals.items)))) (c.in_ok-with_solutions.ensures.put_in s all closed);
  right = subst (λ e. Substituted e (plain_obj c.args.equation.now.right) (plain_obj c.in_ok-with_solutions-2.field-0)) (sym (under-closed s closed (length (plain_locals c.args.equation.now.locals.items)))) (c.in_ok-with_solutions-2.ensures.put_in s all closed);
}
