use Rattle.std.proofs.Common.{ap, sym, ◌∙◌}
use Rattle.hered_subst.specs.Substitution.{under}
use Rattle.hered_put.specs.Environments.{environment_of, images_of}
use Rattle.hered_put.proofs.Environments.{under-more}
use Rattle.hered_put.proofs.environment.Environment.under.Goals as goal

pub returns : goal.returns
unfolding environment_of
returns c = ap (λ n. under n (images_of c.args.self.now.images)) c.in_ok-deeper.ensures ∙ sym (under-more c.args.binders c.args.self.now.binders (images_of c.args.self.now.images))
