-- How much of a walk is left: the parts that may be entered, then the functions of one part.
use Rattle.std.specs.Prelude.{ℕ, ◌+◌, ◌*◌}
use Rattle.metavars.specs.declared.instantiate.Looking.{Looking}

abbrev pub left : Looking → ℕ → ℕ
left l place = l.room * 8 + place
