use Rattle.std.proofs.Common.{◌∙◌, [], ◌∷◌, ◌++◌, ap}
use Rattle.clf_syntax.specs.declared.tree.Mode.TheVariants.{Linear}
use Rattle.clf_syntax.specs.declared.tree.TeleEntry.{TeleEntry, roll-TeleEntry}
use Rattle.clf_syntax.specs.declared.tree.Ty.TheVariants.{Top}
use Rattle.clf_syntax.specs.PlainTypes.{plain-tele-entry, plain-Top}
use Rattle.celf_tests.proofs.Starting.{one_token}
use Rattle.celf_tests.proofs.runs.token.Goals as goal

pub returns : goal.returns
returns c =
    let e : TeleEntry = roll-TeleEntry (record { mode = Linear; ty = Top }) in
    one_token c.push.new.self e (c.in_ok-push.ensures.ok ∙ ap (λ xs. xs ++ e ∷ []) c.new-entries.ensures) (plain-tele-entry e ∙ ap (λ t. (Linear, t)) plain-Top)
