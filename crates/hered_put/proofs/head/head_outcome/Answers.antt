use Rattle.std.proofs.Common.{ap, sym, ◌∙◌}
use Rattle.hered_put.specs.Function.{made}
use Rattle.hered_put.specs.Environments.{environment_of}
use Rattle.hered_put.specs.Pieces.{head_of_environment}
use Rattle.hered_put.proofs.Environments.{head-const, head-meta}
use Rattle.hered_put.proofs.head.head_outcome.Goals as goal

pub returns-in-Const : goal.returns-in-Const
returns-in-Const c = ap (head_of_environment (environment_of c.args.environment.now)) c.in-Const.is ∙ head-const c.args.environment.now c.in-Const.place ∙ ap made (sym c.kept_head.ensures)

pub returns-in-Meta : goal.returns-in-Meta
returns-in-Meta c = ap (head_of_environment (environment_of c.args.environment.now)) c.in-Meta.is ∙ head-meta c.args.environment.now c.in-Meta.meta ∙ ap made (sym c.kept_head-in-Meta.ensures)
