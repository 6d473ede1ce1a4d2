-- The modes and the binders so far go before those that are left.
use Rattle.std.proofs.Common.{◌≡◌, ◌++◌, map, drop}
use Rattle.clf_syntax.specs.PlainSimple.{plain_simple_entry}
use Rattle.celf_places.specs.Locals.{plain_locals}
use Rattle.celf_explicit.specs.Objects.{pattern_modes, with_pattern}
use Rattle.celf_explicit.specs.Parts.{GrownFrom}
use Rattle.celf_explicit.proofs.objects.bind_pattern.Given as goal

abbrev pub invariant-loop-binder : goal.invariant-loop-binder
invariant-loop-binder l = record {
  modes : l.modes ++ pattern_modes (map plain_simple_entry l.wanted) (drop l.binder-index l.pattern) ≡ pattern_modes (map plain_simple_entry l.entries) l.pattern;
  bound : with_pattern (plain_locals l.locals) (map plain_simple_entry l.wanted) (drop l.binder-index l.pattern) ≡ with_pattern (plain_locals l.fn.locals) (map plain_simple_entry l.entries) l.pattern;
  grown : GrownFrom l.fn.locals l.locals;
}
