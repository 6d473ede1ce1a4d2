-- The modes so far go before those that are left.
use Rattle.std.proofs.Common.{◌≡◌, ◌++◌, map, drop}
use Rattle.clf_syntax.specs.PlainSimple.{plain_simple_entry}
use Rattle.celf_explicit.specs.Objects.{pattern_modes}
use Rattle.celf_filled.proofs.objects.modes_of.Given as goal

abbrev pub invariant-loop-binder : goal.invariant-loop-binder
invariant-loop-binder l = l.modes ++ pattern_modes (map plain_simple_entry l.wanted) (drop l.binder-index l.pattern) ≡ pattern_modes (map plain_simple_entry l.entries) l.pattern
