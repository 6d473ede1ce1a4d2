use Rattle.std.proofs.Common.{refl, sym, ◌∙◌, true≢false, arith}
use Rattle.clf_sig.proofs.signature.Signature.add.Goals as goal

pub returns-then-is_some-clause-duplicate : goal.returns-then-is_some-clause-duplicate
returns-then-is_some-clause-duplicate c = (λ e. c.find.ensures.is_named.0 (sym c.if-is_some.ensures), λ e. refl)

pub returns-then-place-ge-MAX_ENTRIES-clause-full : goal.returns-then-place-ge-MAX_ENTRIES-clause-full
returns-then-place-ge-MAX_ENTRIES-clause-full c = (λ _. ((λ named. true≢false (sym (c.find.ensures.is_named.1 named) ∙ sym c.if-is_some.ensures)), omega (arith, c.len-place.ensures.len, c.len-place.ensures.bounded)), λ _. refl)

pub returns-in-Ok-clause-place : goal.returns-in-Ok-clause-place
returns-in-Ok-clause-place c = c.len-place.ensures.len

pub returns-in-Ok-clause-full : goal.returns-in-Ok-clause-full
returns-in-Ok-clause-full c = (λ e. absurd (grind (arith, e)), λ both. absurd (omega (arith, both.1, c.len-place.ensures.len)))

pub returns-in-Err-clause-full : goal.returns-in-Err-clause-full
returns-in-Err-clause-full c = (λ e. absurd (grind (arith, e)), λ both. absurd (omega (arith, both.1, c.len-place.ensures.len)))
