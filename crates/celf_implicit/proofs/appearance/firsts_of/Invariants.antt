-- What is made, with what is made of those that are left, is the whole.
use Rattle.std.proofs.Common.{◌≡◌, ◌++◌, map, drop}
use Rattle.celf_implicit.specs.Answers.{plain_implicit}
use Rattle.celf_implicit.specs.FirstBytes.{numbered, bytes_in}
use Rattle.celf_implicit.proofs.appearance.firsts_of.Given as goal

abbrev pub invariant-loop-variable : goal.invariant-loop-variable
invariant-loop-variable l = l.firsts ++ numbered l.number (bytes_in (map plain_implicit l.appeared) (map plain_implicit (drop l.variable-index l.variables)))
    ≡ numbered 0 (bytes_in (map plain_implicit l.appeared) (map plain_implicit l.variables))
