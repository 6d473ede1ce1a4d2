-- The digits that are left, after a number whose least with the greatest value has been reached, spell the whole.
use Rattle.std.proofs.Common.{◌≡◌, ◌^◌, ◌-◌, ℕ, min, drop}
use Rattle.celf_grammar.specs.State.{digits_behind}
use Rattle.celf_cursor.proofs.word.number_of.Given as goal

abbrev pub invariant-loop-digit : goal.invariant-loop-digit
invariant-loop-digit l = (n : ℕ) × (min n (2 ^ 64 - 1) ≡ l.number) × (digits_behind n (drop l.digit-index l.digits) ≡ digits_behind 0 l.digits)
