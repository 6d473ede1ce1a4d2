use Rattle.std.proofs.Common.{Some, None, sym, ap, ◌∙◌, refl}
use Rattle.clf_syntax.proofs.OccursLaws.{not_both}
use Rattle.celf_constraints.proofs.Growing.{at_place, inner}
use Rattle.celf_constraints.proofs.ways.is_open.Goals as goal

pub returns-then-is_held : goal.returns-then-is_held
returns-then-is_held c = ((λ e. absurd (not_both e refl)), (λ o. absurd (not_both (sym c.is_held.ensures ∙ c.if-is_held.true) o.unheld)))

pub returns : goal.returns
returns c =
    let here = at_place c.args.from.now c.args.place None c.requires in (
      (λ e. let (v, l, h) = c.is_ended.ensures.0 e in record { local = v; stands = here ∙ ap (λ o. Some o) l; unheld = sym c.is_held.ensures ∙ c.if-is_held.false; leads = h }),
      (λ o. c.is_ended.ensures.1 (o.local, inner (sym here ∙ o.stands), o.leads)),
    )
