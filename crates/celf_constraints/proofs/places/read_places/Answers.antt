use Rattle.std.proofs.Common.{ap, ◌∙◌}
use Rattle.std.proofs.lemmas.Result.{IfOk-weaker}
use Rattle.clf_simple.specs.Scope.{scope}
use Rattle.celf_constraints.specs.Equated.{assigned_in}
use Rattle.celf_constraints.proofs.InScope.{types_there}
use Rattle.celf_constraints.proofs.places.read_places.Goals as goal

pub returns-clause-places : goal.returns-clause-places
returns-clause-places c = IfOk-weaker c.read_in_scope.result _ _ (λ found f constants t q. f (assigned_in constants c.args.metas.now c.args.locals.now) t (types_there constants c.args.metas.now c.args.locals.now (scope c.as_slice.result.now) (ap scope c.as_slice.ensures.value ∙ c.in_ok-types.ensures)) q) c.read_in_scope.ensures.places
