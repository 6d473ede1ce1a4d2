-- How much of a substitution is left: what may still be put into values, then the parts that may be entered, then the functions of one part.
use Rattle.std.specs.Prelude.{ℕ, ◌+◌, ◌*◌}
use Rattle.hered_put.specs.declared.bound.Bound.{Bound}

abbrev pub left : Bound → ℕ → ℕ
left b place = (b.rank * 18446744073709551616 + b.room) * 8 + place
