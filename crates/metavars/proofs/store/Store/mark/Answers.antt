use Rattle.std.proofs.Common.{ap, sym, ◌∙◌, length}
use Rattle.metavars.specs.Stored.{Stored}
use Rattle.metavars.proofs.TablesLaws.{listed-length}
use Rattle.metavars.proofs.store.Store.mark.Goals as goal

pub returns : goal.returns
returns c = c.len.ensures ∙ sym (listed-length c.self.inside.tables c.self.invariant) ∙ ap (λ (s : Stored). length s.added) c.self.view_is
