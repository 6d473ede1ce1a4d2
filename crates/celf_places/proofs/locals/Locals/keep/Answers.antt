use Rattle.std.proofs.Common.{arith}
use Rattle.std.specs.Prelude.{option_copied}
use Rattle.celf_places.proofs.LocalsLaws.{kept_oldest}
use Rattle.celf_places.proofs.locals.Locals.keep.Goals as goal

pub returns : goal.returns
returns c = kept_oldest (λ l. (l.name.now, option_copied l.place)) c.args.count c.loop-self.self-inside.locals c.self.inside.locals c.args.self.now (omega arith) c.loop-self.invariant c.self.view_is
