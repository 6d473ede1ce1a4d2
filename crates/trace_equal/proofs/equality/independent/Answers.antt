use Rattle.std.proofs.Common.{◌≡◌, ◌<◌, ◌↔◌, ℕ, false, length, subst, sym}
use Rattle.clf_syntax.specs.Occurs.{occurs_neutral}
use Rattle.clf_syntax.specs.Plain.{plain-step-modes, plain-step-rhs, plain_neutral, plain_step}
use Rattle.clf_syntax.specs.Renaming.{ren_neutral, up}
use Rattle.clf_syntax.specs.Tree.{PlainNeutral}
use Rattle.clf_syntax.specs.declared.tree.Step.{Step, out-Step}
use Rattle.trace_equal.specs.Exchange.{IsIndependent}
use Rattle.trace_equal.proofs.Joined.{independence_in_words}
use Rattle.trace_equal.proofs.equality.independent.Goals as goal

words : (x y : Step) (n : ℕ) → n ≡ length x.modes → ((v : ℕ) → v < n → occurs_neutral v (plain_neutral (out-Step y).rhs) ≡ false) ↔ IsIndependent (plain_step x) (plain_step y)
words x y n e = subst (λ ms. ((v : ℕ) → v < n → occurs_neutral v (plain_neutral (out-Step y).rhs) ≡ false) ↔ ((v : PlainNeutral) × ((plain_step y).1 ≡ ren_neutral (up (length ms)) v))) (sym (plain-step-modes x))
    (subst (λ r. ((v : ℕ) → v < n → occurs_neutral v (plain_neutral (out-Step y).rhs) ≡ false) ↔ ((v : PlainNeutral) × (r ≡ ren_neutral (up (length x.modes)) v))) (sym (plain-step-rhs y))
    (subst (λ k. ((v : ℕ) → v < n → occurs_neutral v (plain_neutral (out-Step y).rhs) ≡ false) ↔ ((v : PlainNeutral) × (plain_neutral (out-Step y).rhs ≡ ren_neutral (up k) v))) e (independence_in_words n (plain_neutral (out-Step y).rhs))))

pub returns : goal.returns
returns c = let w = words c.args.first.now c.args.second.now c.len.result c.len.ensures in
    ((λ t. w.0 (c.lacks_newest.ensures.0 t)), (λ h. c.lacks_newest.ensures.1 (w.1 h)))
