-- The functions that are left onto what has been made are the whole.
use Rattle.std.proofs.Common.{◌≡◌, map, length}
use Rattle.celf_sugar.specs.Plain.{desugared_type, desugared_entry}
use Rattle.celf_sugar.specs.Sugar.{functions}
use Rattle.celf_sugar.proofs.types.functions.Given as goal

abbrev pub invariant-loop-entry : goal.invariant-loop-entry
invariant-loop-entry l = functions l.span (map desugared_entry l.doms) (desugared_type l.cod) ≡ functions l.span (map desugared_entry l.initial.doms) (desugared_type l.initial.cod)

abbrev pub decreases-loop-entry : goal.decreases-loop-entry
decreases-loop-entry l = length l.doms
