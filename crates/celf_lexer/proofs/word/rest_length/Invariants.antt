use Rattle.std.proofs.Common.{◌≡◌, ◌+◌, drop}
use Rattle.celf_lexer.specs.Sign.{rest_length}
use Rattle.celf_lexer.proofs.word.rest_length.Given as goal

abbrev pub invariant-loop-i : goal.invariant-loop-i
invariant-loop-i l = rest_length l.bytes ≡ l.i + rest_length (drop l.i l.bytes)
