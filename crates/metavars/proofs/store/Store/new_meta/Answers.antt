use Rattle.std.proofs.Common.{ap, sym, subst, ◌∙◌, length}
use Rattle.store_laws.specs.Additions.{meta_types}
use Rattle.metavars.specs.declared.tables.Tables.{Tables}
use Rattle.metavars.specs.Stored.{Stored, additions, added_new, with_addition}
use Rattle.metavars.specs.Tables.{AreTables, listed}
use Rattle.metavars.proofs.TablesLaws.{new-tables, listed-new, types-count, seen}
use Rattle.metavars.proofs.store.Store.new_meta.Goals as goal

pub invariant_of-self-2 : goal.invariant_of-self-2
invariant_of-self-2 c = subst AreTables (sym c.in_ok-add_new.ensures.added) (new-tables c.self.inside.tables c.args.ty c.self.invariant)

pub returns-clause-number : goal.returns-clause-number
returns-clause-number c = c.len-number.ensures ∙ sym (types-count c.self.inside.tables c.self.invariant) ∙ ap (λ (s : Stored). length (meta_types (additions s))) c.self.view_is

pub returns-clause-added : goal.returns-clause-added
returns-clause-added c = ap (λ (t : Tables). seen c.self.inside.consts (listed t)) c.in_ok-add_new.ensures.added
    ∙ ap (seen c.self.inside.consts) (listed-new c.self.inside.tables c.args.ty c.self.invariant)
    ∙ ap (λ (s : Stored). with_addition s (added_new c.args.ty)) c.self.view_is
