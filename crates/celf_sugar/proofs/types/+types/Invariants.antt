-- What has been found goes before the entries of the factors that are left.
use Rattle.std.proofs.Common.{◌≡◌, ◌≤◌, ◌++◌, map}
use Rattle.celf_surface.specs.declared.surface.SType.{size-SType}
use Rattle.celf_surface.specs.Surface.{surface}
use Rattle.celf_sugar.specs.Plain.{desugared_entry}
use Rattle.celf_sugar.specs.Sugar.{reading}
use Rattle.celf_sugar.proofs.types.+types.Given as goal

abbrev pub invariant-entries_of_factors-loop-rest : goal.invariant-entries_of_factors-loop-rest
invariant-entries_of_factors-loop-rest l =
    (size-SType l.rest ≤ size-SType l.fn.factors) ×
    (map desugared_entry l.found ++ (reading (surface l.rest)).as_entries ≡ map desugared_entry l.initial.found ++ (reading (surface l.fn.factors)).as_entries)
