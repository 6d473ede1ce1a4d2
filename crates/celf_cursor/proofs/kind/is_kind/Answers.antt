use Rattle.std.proofs.Common.{sym, ap, ◌∙◌, eqb-true, eq-eqb}
use Rattle.celf_grammar.specs.KindNumbers.{kind_number}
use Rattle.celf_grammar.proofs.KindNumbers.{kind_at, kind_at-number}
use Rattle.celf_cursor.proofs.kind.is_kind.Goals as goal

pub returns : goal.returns
returns c = (
  λ h. sym (kind_at-number _) ∙ ap kind_at (sym c.number_of.ensures ∙ eqb-true _ _ h ∙ c.number_of-2.ensures) ∙ kind_at-number _,
  λ h. eq-eqb _ _ (c.number_of.ensures ∙ ap kind_number h ∙ sym c.number_of-2.ensures),
)
