use Rattle.std.proofs.Common.{ap, sym, ◌∙◌}
use Rattle.std.specs.Prelude.{option_copied, option_map}
use Rattle.clf_syntax.specs.PlainSimple.{plain_simple_entry}
use Rattle.celf_filled.proofs.ScopeLaws.{not_known}
use Rattle.celf_filled.proofs.scope.Scope.known.Goals as goal

pub returns-in-None : goal.returns-in-None
returns-in-None c =
    not_known (λ b. (b.mode, (b.name.now, option_copied b.place))) c.as_slice-local-items.result.now c.self.inside.locals c.loop-local.local-index c.local-item.result c.args.self.now c.loop-local-test.true c.local-item.is
    c.as_slice-local-items.ensures c.self.view_is (sym (ap (option_map plain_simple_entry) c.in-None.is) ∙ c.in_ok-entry.ensures)
