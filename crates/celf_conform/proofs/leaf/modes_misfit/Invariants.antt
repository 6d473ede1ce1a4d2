use Rattle.std.proofs.Common.{◌≡◌, length, drop}
use Rattle.celf_conform.specs.Decision.{first_other_mode}
use Rattle.celf_conform.proofs.Modes.{wanted}
use Rattle.celf_conform.proofs.leaf.modes_misfit.Given as goal

abbrev pub invariant-loop-place : goal.invariant-loop-place
invariant-loop-place l = first_other_mode (wanted (drop l.place l.entries)) (drop l.place l.modes) ≡ first_other_mode (wanted l.entries) l.modes
