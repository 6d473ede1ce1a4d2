use Rattle.std.proofs.Common.{rules, map, subst}
use Rattle.std.proofs.lemmas.Result.{IfOk-weaker}
use Rattle.clf_syntax.specs.PlainSimple.{plain_simple}
use Rattle.pattern_laws.specs.Equations.{TypedEquations}
use Rattle.celf_constraints.specs.Equated.{equations_in}
use Rattle.celf_unify.specs.Gathered.{consts_in, metas_in}
use Rattle.unify_tests.proofs.Beginnings.{ready_there}
use Rattle.unify_tests.proofs.ready.are_ready.Goals as goal

pub returns : goal.returns
returns c = IfOk-weaker c.are_typed.result _ _
    (λ b h t. ready_there c.args.store.now (equations_in c.args.given.now) (map plain_simple c.metas.result.now) c.requires.none c.metas.ensures (c.have_final_results.ensures (search rules))
    (subst (TypedEquations (consts_in c.args.store.now) (metas_in c.args.store.now)) c.as_slice.ensures (h t)))
    c.are_typed.ensures
