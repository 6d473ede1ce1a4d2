-- The names so far are the bytes of the words so far.
use Rattle.std.proofs.Common.{◌≡◌, map, string_bytes, take}
use Rattle.celf.proofs.names.Given as goal

abbrev pub invariant-loop-word : goal.invariant-loop-word
invariant-loop-word l = l.names.items ≡ map string_bytes (take l.word-index l.words)
