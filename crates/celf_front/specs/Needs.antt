-- Which binder's type mentions which, as a table.
use Rattle.std.specs.Prelude.{ℕ, Bool, false, List, [], length, unwrap_or}
use Rattle.std.specs.List.{slice_get, slice_index_or}
use Rattle.celf_front.specs.declared.needs.Needs.{Needs}

-- the flag at a place, where none is set past the end
abbrev pub flag : List Bool → ℕ → Bool
flag flags i = slice_index_or flags i false

-- how many binders there are
abbrev pub count_of : Needs → ℕ
count_of t = length t.rows

-- The type of binder i mentions binder j.
abbrev pub mentions : Needs → ℕ → ℕ → Bool
mentions t i j = flag (unwrap_or (slice_get t.rows i) []) j
