use Rattle.std.proofs.Common.{◌∙◌, ap, take, arith}
use Rattle.celf_names.proofs.ScopeLaws.{kept_alone}
use Rattle.celf_names.proofs.scope.Scope.keep.Goals as goal

pub returns : goal.returns
returns c = kept_alone (λ n. n.now) c.args.count c.loop-self.self-inside.names c.self.inside.names (omega arith) c.loop-self.invariant ∙ ap (take c.args.count) c.self.view_is
