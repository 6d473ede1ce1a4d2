use Rattle.std.proofs.Common.{ℕ, ◌≡◌, ◌+◌, subst, arith, OnOk}
use Rattle.clf_syntax.specs.PlainSimple.{plain_simple}
use Rattle.celf_reconstruct.specs.Naming.{metas_of, IsSolvedBy}
use Rattle.celf_reconstruct.proofs.NameSteps.{known_at, solved_so}
use Rattle.celf_reconstruct.proofs.naming.solve_by.Goals as goal

pub simple_of_meta-requires : goal.simple_of_meta-requires
simple_of_meta-requires c = record { known = known_at (metas_of c.args.store.now) c.args.meta c.requires.there }

pub returns-clause-solved : goal.returns-clause-solved
returns-clause-solved c =
    let sum : c.in-Some.number ≡ c.args.first + c.args.place = grind (arith, c.in-Some.ensures) in
    subst (λ (n : ℕ). OnOk c.solve.result (IsSolvedBy c.args.store.now c.args.meta n c.solve.new.self)) sum
    (solved_so c.solve.result c.args.store.now c.args.meta c.in-Some.number c.in_ok-obj.obj c.solve.new.self (plain_simple c.simple_of_meta.result.now)
    c.solve.ensures.added c.simple_of_meta.ensures c.in_ok-obj.ensures.form c.requires.unsolved)
