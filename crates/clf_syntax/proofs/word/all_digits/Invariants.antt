use Rattle.std.proofs.Common.{◌≡◌, drop}
use Rattle.clf_syntax.specs.Word.{all_digits}
use Rattle.clf_syntax.proofs.word.all_digits.Given as goal

abbrev pub invariant-loop-byte : goal.invariant-loop-byte
invariant-loop-byte l = all_digits l.bytes ≡ all_digits (drop l.byte-index l.bytes)
