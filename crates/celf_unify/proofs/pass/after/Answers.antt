use Rattle.std.proofs.Common.{map, subst}
use Rattle.celf_constraints.specs.Equated.{plain_equation}
use Rattle.celf_unify.specs.Passes.{Runs}
use Rattle.celf_unify.proofs.Passing.{works_again, works_clash}
use Rattle.celf_unify.proofs.pass.after.Goals as goal

pub returns-in-None-clause-works : goal.returns-in-None-clause-works
returns-in-None-clause-works c = works_again c.args.store.now c.advance.new.store c.run.new.store c.args.step (map plain_equation c.args.rest.items) c.in_ok-first.first c.in_ok-first.ensures.advanced
    (subst (λ e. Runs c.advance.new.store c.in_ok-first.first c.run.new.store e) c.in-None.is c.in_ok-run.ensures.runs)

pub returns-in-Some-clause-works : goal.returns-in-Some-clause-works
returns-in-Some-clause-works c = works_clash c.args.store.now c.advance.new.store c.run.new.store c.args.step (map plain_equation c.args.rest.items) c.in_ok-first.first c.in-Some.clash c.in_ok-first.ensures.advanced
    (subst (λ e. Runs c.advance.new.store c.in_ok-first.first c.run.new.store e) c.in-Some.is c.in_ok-run.ensures.runs)
