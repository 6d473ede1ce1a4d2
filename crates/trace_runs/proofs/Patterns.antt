-- A pattern fits the modes of a telescope's entries, or one refusal says why it does not.
use Rattle.std.proofs.Common.{◌≡◌, ◌∙◌, ◌==◌, Bool, true, false, List, length, Option, None, Some, refl, sym, ap}
use Rattle.std.proofs.Math.Logic.{◌⊎◌, inl, inr}
use Rattle.std.proofs.lemmas.Option.{none-some}
use Rattle.clf_syntax.specs.declared.tree.Mode.{Mode}
use Rattle.clf_rules.specs.Refusal.{Cause, mode_differs, width}
use Rattle.clf_rules.proofs.Held.{same_number}
use Rattle.clf_decision.specs.Checking.{first_other_mode}
use Rattle.clf_decision.proofs.FirstPlaces.{first-modes, modes-first, same-modes, no-other-mode}
use Rattle.clf_decision.proofs.Tests.{other-number}
use Rattle.trace_runs.specs.Refused.{RefusesPattern, other_width, other_mode}

same_cause : (d e : Mode × Mode) → Some d ≡ Some e → mode_differs d.0 d.1 ≡ mode_differs e.0 e.1
same_cause d e s = let p : d ≡ e = cc in ap (λ (x : Mode × Mode). mode_differs x.0 x.1) p

module _ (wanted found : List Mode) where
  modes_decided : length found ≡ length wanted → (o : Option (Mode × Mode)) → first_other_mode wanted found ≡ o → (wanted ≡ found) ⊎ ((why : Cause) × RefusesPattern wanted found why)
  modes_decided n None e = inl (same-modes wanted found n e)
  modes_decided n (Some d) e = inr (mode_differs d.0 d.1, other_mode n (first-modes wanted found d e))

  widths_decided : (b : Bool) → (length found == length wanted) ≡ b → (wanted ≡ found) ⊎ ((why : Cause) × RefusesPattern wanted found why)
  widths_decided true e = modes_decided (same_number (length found) (length wanted) e) (first_other_mode wanted found) refl
  widths_decided false e = inr (width (length wanted) (length found), other_width (other-number (length found) (length wanted) e))

  pub pattern-fits : (wanted ≡ found) ⊎ ((why : Cause) × RefusesPattern wanted found why)
  pattern-fits = widths_decided (length found == length wanted) refl

  pub pattern-refused : (why : Cause) → RefusesPattern wanted found why → wanted ≡ found → ⊥
  pattern-refused why (other_width n) e = n (sym (ap length e))
  pattern-refused why (other_mode {k = k} {m = m} n f) e =
      none-some (k, m) (sym (no-other-mode wanted) ∙ ap (first_other_mode wanted) e ∙ modes-first wanted found k m f)

  pub pattern-one : (why because : Cause) → RefusesPattern wanted found why → RefusesPattern wanted found because → why ≡ because
  pattern-one why because (other_width n) (other_width k) = refl
  pattern-one why because (other_width n) (other_mode k f) = absurd (n k)
  pattern-one why because (other_mode n f) (other_width k) = absurd (k n)
  pattern-one why because (other_mode {k = j} {m = m} n f) (other_mode {k = k} {m = l} i e) = same_cause (j, m) (k, l) (sym (modes-first wanted found j m f) ∙ modes-first wanted found k l e)
