use Rattle.std.proofs.Common.{◌≡◌, ◌==◌, drop}
use Rattle.std.specs.List.{list_any}
use Rattle.clf_printer.proofs.metas.has_appeared.Given as goal

abbrev pub invariant-loop-known : goal.invariant-loop-known
invariant-loop-known l = list_any (λ n. n == l.meta) (drop l.known-index l.metas) ≡ list_any (λ n. n == l.meta) l.metas
