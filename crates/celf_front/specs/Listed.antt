-- Inner: numbers below a count in the order in which they came, and a flag for each.
use Rattle.std.specs.Prelude.{ℕ, ◌≡◌, ◌<◌, true, not, length}
use Rattle.std.specs.List.{Contains, count_by}
use Rattle.celf_front.specs.declared.listed.Listed.{Listed}
use Rattle.celf_front.specs.Needs.{flag}

-- Flags are set at those that came, and only there.
pub record IsListed (count : ℕ) (l : Listed) : Type 0 where
  pub size : length l.flags.items ≡ count
  pub came : (j : ℕ) → flag l.flags.items j ≡ true → Contains l.numbers j
  pub flagged : (j : ℕ) → j < count → Contains l.numbers j → flag l.flags.items j ≡ true

-- how many did not come
abbrev pub left : Listed → ℕ
left l = count_by not l.flags.items
