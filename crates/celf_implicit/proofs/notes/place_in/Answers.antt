use Rattle.std.proofs.Common.{◌∙◌, ap, sym}
use Rattle.std.proofs.lemmas.List.{take_all}
use Rattle.celf_implicit.specs.declared.variable.Implicit.{Implicit}
use Rattle.celf_implicit.specs.Variables.{has_name}
use Rattle.celf_implicit.specs.Answers.{plain_implicit}
use Rattle.celf_implicit.proofs.Replaced.{same_item}
use Rattle.celf_implicit.proofs.notes.place_in.Goals as goal

pub returns-then-same_name : goal.returns-then-same_name
returns-then-same_name c =
    rw (← c.as_slice-variable-items.ensures) (
      c.loop-index-test.true,
      c.loop-index.invariant,
      λ x e. ap (λ (v : Implicit). has_name c.args.name.now (plain_implicit v)) (same_item c.as_slice-variable-items.result.now c.loop-index.index c.variable-item.result x c.loop-index-test.true c.variable-item.is e)
          ∙ (sym c.same_name.ensures ∙ c.if-same_name.true),
    )

pub returns : goal.returns
returns c = rw (← c.as_slice-variable-items.ensures) (rw (take_all c.loop-index.index c.as_slice-variable-items.result.now c.loop-index-test.false) at c.loop-index.invariant)
