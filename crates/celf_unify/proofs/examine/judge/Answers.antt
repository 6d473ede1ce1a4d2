use Rattle.std.proofs.Common.{subst, sym, map}
use Rattle.celf_constraints.specs.Equated.{plain_equation}
use Rattle.celf_unify.specs.Gathered.{consts_in, metas_in}
use Rattle.celf_unify.specs.Examined.{TakenApart}
use Rattle.celf_unify.proofs.Bodies.{apart_joined}
use Rattle.celf_unify.proofs.examine.judge.Goals as goal

pub returns-then-branch-clause-judged : goal.returns-then-branch-clause-judged
returns-then-branch-clause-judged c = subst (λ ds. TakenApart (consts_in c.args.store.now) (metas_in c.args.store.now) (plain_equation c.args.equation.now) (map plain_equation ds)) (sym c.new.ensures.items)
    (apart_joined (consts_in c.args.store.now) (metas_in c.args.store.now) (plain_equation c.args.equation.now) (c.in_ok-equal.ensures.0 c.if-branch.true))
