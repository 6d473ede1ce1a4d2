use Rattle.std.proofs.Common.{◌∷◌, ap, ◌∙◌, map, refl, reverse}
use Rattle.clf_syntax.specs.PlainTypes.{plain_ty, plain_tele_entry, plain-tele-entry}
use Rattle.clf_kernel.proofs.Growing.{entries_of}
use Rattle.clf_kernel.proofs.RowSteps.{context_pushed}
use Rattle.clf_kernel.specs.Judge.{context_of}
use Rattle.clf_kernel.proofs.judge.Judge.enter_entry.Goals as goal

pub returns-clause-context : goal.returns-clause-context
returns-clause-context c =
    ap (λ es. reverse (map plain_tele_entry es)) c.in_ok-push.ensures.ok ∙ context_pushed (entries_of c.args.self.now) _
    ∙ ap (λ e. e ∷ context_of c.args.self.now) (plain-tele-entry _ ∙ ap (λ t. (c.args.mode, plain_ty t)) c.in_ok-ty.ensures)

pub returns-clause-entry : goal.returns-clause-entry
returns-clause-entry c = (_, record { alloc = refl; signature = refl; entries = c.in_ok-push.ensures.ok })
