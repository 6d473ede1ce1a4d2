use Rattle.std.proofs.Common.{ap, ◌∙◌}
use Rattle.clf_syntax.specs.Tree.{atomic}
use Rattle.clf_syntax.specs.Plain.{plain-At}
use Rattle.metavars.specs.Fresh.{on_scope}
use Rattle.metavars.specs.Scopes.{plain_scope}
use Rattle.metavars.proofs.fresh.make_meta.Goals as goal

pub returns-clause-object : goal.returns-clause-object
returns-clause-object c = plain-At c.in_ok-apply_to.field-0 ∙ ap atomic c.in_ok-apply_to.ensures.neutral ∙ ap (λ k. on_scope k (plain_scope c.args.scope.now)) c.in_ok-meta.ensures.number
