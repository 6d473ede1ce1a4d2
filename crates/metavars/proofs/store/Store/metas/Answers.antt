use Rattle.std.proofs.Common.{ap, sym, ◌∙◌, map}
use Rattle.clf_syntax.specs.PlainSimple.{plain_simple}
use Rattle.store_laws.specs.Additions.{meta_types}
use Rattle.metavars.specs.Stored.{Stored, additions}
use Rattle.metavars.proofs.TablesLaws.{listed-types}
use Rattle.metavars.proofs.store.Store.metas.Goals as goal

pub returns : goal.returns
returns c = ap (map plain_simple) c.as_slice.ensures ∙ sym (listed-types c.self.inside.tables c.self.invariant) ∙ ap (λ (s : Stored). meta_types (additions s)) c.self.view_is
