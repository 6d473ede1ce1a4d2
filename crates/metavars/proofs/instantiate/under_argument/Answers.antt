use Rattle.std.proofs.Common.{ap, subst, sym, ◌∙◌}
use Rattle.clf_syntax.specs.Tree.{eliminated}
use Rattle.clf_syntax.specs.Plain.{plain_obj, plain_neutral, plain-Arg}
use Rattle.metavars.specs.declared.value.Outcome.TheVariants.{Kept}
use Rattle.metavars.specs.Outcomes.{UnderArgument}
use Rattle.metavars.proofs.instantiate.under_argument.Goals as goal

pub returns-in-Kept : goal.returns-in-Kept
returns-in-Kept c = subst (λ o. UnderArgument c.args.mode (plain_obj c.args.argument) o (Kept c.in_ok-with_elimination-in-Kept.field-0)) (sym c.in-Kept.is)
    (c.in_ok-with_elimination-in-Kept.ensures ∙ ap (λ e. eliminated e (plain_neutral c.in-Kept.neutral)) (plain-Arg c.args.mode c.args.argument))
