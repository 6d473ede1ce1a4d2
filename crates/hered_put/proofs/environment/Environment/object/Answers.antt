use Rattle.clf_syntax.specs.Plain.{plain_obj}
use Rattle.hered_subst.specs.Substitution.{single}
use Rattle.hered_subst.proofs.SimpleTyping.{under_zero}
use Rattle.hered_put.specs.Environments.{environment_of}
use Rattle.hered_put.proofs.environment.Environment.object.Goals as goal

pub returns : goal.returns
unfolding environment_of
returns c = under_zero (single (plain_obj c.args.obj.now) c.args.var)
