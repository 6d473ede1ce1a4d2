use Rattle.std.proofs.Common.{◌≡◌, ◌∙◌, ◌+◌, ◌<◌, ◌≤◌, ℕ, ap, arith, below_more, false, min, refl, sym, true}
use Rattle.clf_syntax.specs.declared.number.TheConstants.{BEYOND}
use Rattle.clf_syntax.specs.Plain.{plain_neutral}
use Rattle.clf_syntax.specs.Occurs.{occurs_neutral}
use Rattle.clf_syntax.proofs.tree.Neutral.lacks_newest.Goals as goal

-- the number that the variable's own is kept as
kept : (v u b : ℕ) → min (0 + v) b ≡ u → min v b ≡ u
kept v u b e = ap (λ i. min i b) (sym none) ∙ e
  where
    none : 0 + v ≡ v
    none = omega arith

false_true : false ≡ true → ⊥
false_true e = cc

pub returns-then-occurs_neutral : goal.returns-then-occurs_neutral
returns-then-occurs_neutral c = (
  λ e. absurd (false_true e),
  λ h. absurd (false_true (sym (h c.loop-var.var c.loop-var-test.true) ∙ sym (c.occurs_neutral.ensures c.loop-var.var (kept c.loop-var.var c.under.result BEYOND (c.under.ensures.same 0 refl))) ∙ c.if-occurs_neutral.true)),
)

pub loop-var-preserved : goal.loop-var-preserved
loop-var-preserved c = below_more _ _ c.loop-var.invariant (sym (c.occurs_neutral.ensures c.loop-var.var (kept c.loop-var.var c.under.result BEYOND (c.under.ensures.same 0 refl))) ∙ c.if-occurs_neutral.false)

pub returns : goal.returns
returns c = ((λ e v h. c.loop-var.invariant v (omega arith)), (λ h. refl))
