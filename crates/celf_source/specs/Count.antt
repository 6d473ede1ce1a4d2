-- Counts of faults, of lacks and of calls. A count never falls, and stands still at the end of its type.
use Rattle.std.specs.Prelude.{ℕ, ◌+◌, ◌-◌, ◌^◌, ◌<◌, ◌≡◌, ◌⊎◌, min}

-- the last number of a count's type
abbrev pub last_count : ℕ
last_count = 2 ^ 64 - 1

-- one more, or the last number
abbrev pub counted_on : ℕ → ℕ
counted_on count = min (count + 1) last_count

-- A count rose, or it stands at its last number.
abbrev pub Rose : ℕ → ℕ → Type 0
Rose old new = (old < new) ⊎ (new ≡ last_count)
