-- What is listed, with what is still to be listed, is the whole.
use Rattle.std.proofs.Common.{◌≡◌, ◌≤◌, ◌++◌, ◌-◌}
use Rattle.std.specs.List.{range_with_len}
use Rattle.celf_reconstruct.proofs.declared.numbers_from.Given as goal

abbrev pub invariant-loop-number : goal.invariant-loop-number
invariant-loop-number l = record {
  before : l.number ≤ l.end;
  listed : l.all ++ range_with_len l.number (l.end - l.number) ≡ range_with_len l.first l.count;
}
