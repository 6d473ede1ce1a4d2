use Rattle.std.proofs.Common.{◌≡◌, ◌+◌, drop}
use Rattle.clf_printer.specs.Text.{meta_number}
use Rattle.clf_printer.proofs.words.meta_number.Given as goal

abbrev pub invariant-loop-known : goal.invariant-loop-known
invariant-loop-known l = meta_number l.metas l.meta + 1 ≡ l.number + meta_number (drop l.known-index l.metas) l.meta
