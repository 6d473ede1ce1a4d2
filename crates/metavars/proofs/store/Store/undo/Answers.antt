use Rattle.std.proofs.Common.{ap, sym, ◌∙◌, ◌≡◌, length, arith}
use Rattle.metavars.specs.Stored.{Stored}
use Rattle.metavars.proofs.TablesLaws.{listed-length}
use Rattle.metavars.proofs.store.Store.undo.Goals as goal

pub cut-requires-clause-count : goal.cut-requires-clause-count
cut-requires-clause-count c =
    let n : length c.args.self.now.added ≡ length c.self.inside.tables.added = ap (λ (s : Stored). length s.added) (sym c.self.view_is) ∙ listed-length c.self.inside.tables c.self.invariant in
    omega (arith, n, c.requires)
