use Rattle.std.proofs.Common.{◌≡◌, ◌+◌, drop, if◌then◌else◌}
use Rattle.celf_lexer.specs.Gap.{gap, comment}
use Rattle.celf_lexer.proofs.gap.gap_length.Given as goal

abbrev pub invariant-loop-i : goal.invariant-loop-i
invariant-loop-i l = gap l.bytes ≡ l.i + (if l.in_comment then comment (drop l.i l.bytes) else gap (drop l.i l.bytes))
