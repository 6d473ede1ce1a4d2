use Rattle.std.proofs.Common.{◌≡◌, drop}
use Rattle.clf_syntax.specs.Word.{all_digits}
use Rattle.celf_lexer.proofs.word.all_digits.Given as goal

abbrev pub invariant-loop-byte : goal.invariant-loop-byte
invariant-loop-byte l = all_digits l.word ≡ all_digits (drop l.byte-index l.word)
