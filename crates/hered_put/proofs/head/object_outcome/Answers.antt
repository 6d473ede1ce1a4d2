use Rattle.std.proofs.Common.{ap, sym, ◌∙◌, arith}
use Rattle.clf_syntax.specs.Plain.{plain_obj}
use Rattle.hered_put.specs.Function.{made}
use Rattle.hered_put.proofs.Environments.{object-low, object-high}
use Rattle.hered_put.proofs.head.object_outcome.Goals as goal

pub returns-then-index-var : goal.returns-then-index-var
returns-then-index-var c = object-low c.args.binders (plain_obj c.args.obj.now) c.args.var c.args.index c.if-index-var.true (omega arith) ∙ ap made (sym c.kept_head.ensures)

pub returns-then-index-var-2 : goal.returns-then-index-var-2
returns-then-index-var-2 c = object-high c.args.binders (plain_obj c.args.obj.now) c.args.var c.args.index c.if-index-var-2.true (omega arith) ∙ ap made (sym c.kept_head-then-index-var-2.ensures)
