-- Laws of renaming, as statements; the function of the crate's `laws` states them.
use Rattle.std.specs.Prelude.{ℕ, ◌≡◌, true}
use Rattle.clf_syntax.specs.Tree.{PlainObject, PlainNeutral, PlainExpression}
use Rattle.clf_syntax.specs.TypeTree.{PlainType}
use Rattle.clf_syntax.specs.Renaming.{Renumbering, ren, ren_neutral, ren_expression, ren_type, raise}
use Rattle.clf_syntax.specs.Shift.{shift, shift_neutral, shift_expression, shift_type}
use Rattle.clf_syntax.specs.Occurs.{occurs}

-- The shift is the renaming that raises the variables from a number on.
abbrev pub ShiftIsRenaming : Type 0
ShiftIsRenaming = (by from : ℕ)
    → ((o : PlainObject) → shift by from o ≡ ren (raise by from) o)
    × ((n : PlainNeutral) → shift_neutral by from n ≡ ren_neutral (raise by from) n)
    × ((e : PlainExpression) → shift_expression by from e ≡ ren_expression (raise by from) e)
    × ((a : PlainType) → shift_type by from a ≡ ren_type (raise by from) a)

-- One renaming after another is the renaming by one function after the other, and the identity changes nothing.
abbrev pub RenamingsCompose : Type 0
RenamingsCompose = ((r s : Renumbering) (o : PlainObject) → ren r (ren s o) ≡ ren (λ i. r (s i)) o) × ((o : PlainObject) → ren (λ i. i) o ≡ o)
    × ((r s : Renumbering) (a : PlainType) → ren_type r (ren_type s a) ≡ ren_type (λ i. r (s i)) a) × ((a : PlainType) → ren_type (λ i. i) a ≡ a)

-- A renaming looks at the variables that occur alone, and what occurs after it comes from them.
abbrev pub RenamingAndOccurrence : Type 0
RenamingAndOccurrence = ((r s : Renumbering) (o : PlainObject) → ((i : ℕ) → occurs i o ≡ true → r i ≡ s i) → ren r o ≡ ren s o)
    × ((r : Renumbering) (o : PlainObject) (i : ℕ) → occurs i (ren r o) ≡ true → (j : ℕ) × (r j ≡ i) × (occurs j o ≡ true))
