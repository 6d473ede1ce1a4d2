use Rattle.std.proofs.Common.{◌∙◌, [], ◌∷◌, ap}
use Rattle.clf_syntax.specs.declared.tree.Mode.TheVariants.{Linear, Persistent}
use Rattle.clf_syntax.specs.declared.tree.TeleEntry.{TeleEntry, roll-TeleEntry}
use Rattle.clf_syntax.specs.PlainTypes.{plain-tele-entry}
use Rattle.clf_syntax.specs.TypeTree.{binding, end, monad, top}
use Rattle.celf_tests.proofs.Starting.{one_more}
use Rattle.celf_tests.proofs.runs.start.Goals as goal

pub returns-clause-context : goal.returns-clause-context
returns-clause-context c =
    let d : TeleEntry = roll-TeleEntry (record { mode = Persistent; ty = c.in_ok-ty.ty }) in
    let e : TeleEntry = roll-TeleEntry (record { mode = Linear; ty = c.in_ok-ty-2.ty }) in
    one_more c.push.new.self c.push-2.new.self e (Linear, monad (binding Linear top end)) ((Persistent, monad (binding Linear top end)) ∷ [])
    c.in_ok-push-2.ensures.ok (plain-tele-entry e ∙ ap (λ t. (Linear, t)) c.in_ok-ty-2.ensures)
    (one_more c.empty-ctx.result.entries c.push.new.self d (Persistent, monad (binding Linear top end)) [] c.in_ok-push.ensures.ok (plain-tele-entry d ∙ ap (λ t. (Persistent, t)) c.in_ok-ty.ensures) c.empty-ctx.ensures)
