use Rattle.std.proofs.Common.{ap, ◌∙◌, ◌∷◌, reverse, map}
use Rattle.clf_syntax.specs.PlainSimple.{plain_simple, plain_simple_entry}
use Rattle.celf_places.specs.Combined.{with_mode}
use Rattle.celf_filled.proofs.Grown.{one_more}
use Rattle.celf_filled.proofs.typed.with_local.Goals as goal

pub returns : goal.returns
returns c = one_more c.args.locals.now c.in_ok-inner.inner c.push.new.self _ c.in_ok-inner.ensures c.in_ok-push.ensures.ok ∙ ap (λ e. e ∷ map plain_simple_entry (reverse c.args.locals.now)) (c.entry_of.ensures ∙ ap (λ t. with_mode c.args.mode (plain_simple t)) c.in_ok-copy.ensures)
