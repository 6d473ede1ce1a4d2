use Rattle.std.proofs.Common.{◌≡◌, drop}
use Rattle.celf_source.specs.Files.{told_in}
use Rattle.celf_source.proofs.files.place_of.Given as goal

abbrev pub invariant-loop-place : goal.invariant-loop-place
invariant-loop-place l = told_in l.files l.name ≡ told_in (drop l.place l.files) l.name
