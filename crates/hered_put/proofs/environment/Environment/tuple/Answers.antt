use Rattle.std.proofs.Common.{map}
use Rattle.clf_syntax.specs.Tree.{tuple_of}
use Rattle.clf_syntax.specs.Plain.{plain_entry}
use Rattle.hered_subst.specs.Substitution.{objects}
use Rattle.hered_subst.proofs.SimpleTyping.{under_zero}
use Rattle.hered_put.specs.Tupled.{tupled}
use Rattle.hered_put.specs.Environments.{environment_of}
use Rattle.hered_put.proofs.environment.Environment.tuple.Goals as goal

pub returns : goal.returns
unfolding environment_of
returns c = under_zero (tupled (objects (tuple_of (map plain_entry c.args.tuple.now))) c.args.raised)
