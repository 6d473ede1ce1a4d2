use Rattle.std.proofs.Common.{ap, subst, sym, ◌∙◌}
use Rattle.clf_syntax.specs.Tree.{eliminated}
use Rattle.clf_syntax.specs.Plain.{plain_neutral, plain-First}
use Rattle.metavars.specs.declared.value.Outcome.TheVariants.{Kept, Solved}
use Rattle.metavars.specs.Outcomes.{plain_value, UnderFirst}
use Rattle.metavars.proofs.instantiate.under_first.Goals as goal

pub returns-in_ok-with_elimination-in-Kept : goal.returns-in_ok-with_elimination-in-Kept
returns-in_ok-with_elimination-in-Kept c = subst (λ o. UnderFirst o (Kept c.in_ok-with_elimination-in-Kept.field-0)) (sym c.in-Kept.is)
    (c.in_ok-with_elimination-in-Kept.ensures ∙ ap (λ e. eliminated e (plain_neutral c.in-Kept.neutral)) plain-First)

pub returns-in_ok-parts-in-Solved : goal.returns-in_ok-parts-in-Solved
returns-in_ok-parts-in-Solved c = subst (λ o. UnderFirst o (Solved c.in_ok-parts-in-Solved.field-0.first)) (sym c.in-Solved.is) (plain_value c.in_ok-parts-in-Solved.field-0.second, c.in_ok-parts-in-Solved.ensures)
