use Rattle.std.proofs.Common.{IsTrue}
use Rattle.clf_syntax.proofs.OccursLaws.{not_both}
use Rattle.celf_constraints.specs.Equated.{plain_equation}
use Rattle.celf_unify.proofs.Insides.{stuck_there, stuck_monads, clash_monads}
use Rattle.celf_unify.proofs.apart.monads.Goals as goal

pub returns-in-Ok-true-clause-judged : goal.returns-in-Ok-true-clause-judged
returns-in-Ok-true-clause-judged c = let h = stuck_there c.args.store.now (plain_equation c.args.equation.now) c.consts.result.now c.metas.result.now (IsTrue c.in-Ok-true.field-0) c.consts.ensures c.metas.ensures c.requires.rigid.typed c.in-Ok-true.ensures.exact in
    stuck_monads c.args.store.now (plain_equation c.args.equation.now) c.requires.rigid (h.0 c.in-Ok-true.field-0-test)

pub returns-in-Ok-false-clause-judged : goal.returns-in-Ok-false-clause-judged
returns-in-Ok-false-clause-judged c = let h = stuck_there c.args.store.now (plain_equation c.args.equation.now) c.consts.result.now c.metas.result.now (IsTrue c.in-Ok-false.field-0) c.consts.ensures c.metas.ensures c.requires.rigid.typed c.in-Ok-false.ensures.exact in
    clash_monads c.args.store.now (plain_equation c.args.equation.now) c.requires.rigid c.requires.monad.0 c.requires.monad.1 (λ s. not_both (h.1 s) c.in-Ok-false.field-0-test)
