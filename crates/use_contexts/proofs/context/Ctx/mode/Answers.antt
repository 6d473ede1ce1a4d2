use Rattle.std.proofs.Common.{Some, ap, ◌∙◌}
use Rattle.std.specs.Option.{option_map}
use Rattle.std.proofs.lemmas.Option.{slice_get-map}
use Rattle.clf_syntax.specs.declared.tree.Mode.{Mode}
use Rattle.clf_syntax.specs.TypeTree.{PlainType}
use Rattle.clf_syntax.specs.PlainTypes.{plain-tele-entry}
use Rattle.use_contexts.specs.Marks.{context}
use Rattle.use_contexts.proofs.context.Ctx.mode.Goals as goal

pub returns : goal.returns
returns c =
    slice_get-map (λ (e : Mode × PlainType). e.0) (context c.args.self.now) c.args.var
    ∙ ap (option_map (λ (e : Mode × PlainType). e.0)) c.entry.ensures
    ∙ ap Some (ap (λ (e : Mode × PlainType). e.0) (plain-tele-entry c.entry.result.now))
