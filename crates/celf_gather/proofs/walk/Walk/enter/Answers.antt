use Rattle.std.proofs.Common.{◌∷◌, ap, ◌∙◌, map, reverse}
use Rattle.clf_syntax.specs.PlainTypes.{plain_ty, plain_tele_entry, plain-tele-entry}
use Rattle.celf_gather.specs.Walks.{context_of, entries_of}
use Rattle.celf_gather.proofs.Contexts.{context_pushed}
use Rattle.celf_gather.proofs.walk.Walk.enter.Goals as goal

pub returns-clause-context : goal.returns-clause-context
returns-clause-context c =
    ap (λ es. reverse (map plain_tele_entry es)) (c.in_ok-push.ensures.ok) ∙ context_pushed (entries_of c.args.self.now) _
    ∙ ap (λ e. e ∷ context_of c.args.self.now) (plain-tele-entry _ ∙ ap (λ t. (c.args.mode, plain_ty t)) c.in_ok-ty.ensures)
