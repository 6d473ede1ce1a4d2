-- What has been read, and how far. Each call goes to a later byte, or to a production further down.
use Rattle.std.proofs.Common.{◌+◌, ◌-◌, ◌*◌, ◌<◌, length, map}
use Rattle.celf_surface.specs.Surface.{pattern_tree}
use Rattle.celf_grammar.specs.Grammar.{IsPatterns}
use Rattle.celf_cursor.specs.Cursor.{IsCursorOf, state_of}
use Rattle.celf_objects.proofs.pattern.+patterns.Given as goal

abbrev pub decreases-pattern_at : goal.decreases-pattern_at
decreases-pattern_at l = (length l.bytes.now - l.cursor.end) * 4 + 2

abbrev pub decreases-pattern_list_at : goal.decreases-pattern_list_at
decreases-pattern_list_at l = (length l.bytes.now - l.cursor.end) * 4 + 1

abbrev pub decreases-patterns_at : goal.decreases-patterns_at
decreases-patterns_at l = (length l.bytes.now - l.cursor.end) * 4 + 3

abbrev pub invariant-patterns_at-loop-alloc : goal.invariant-patterns_at-loop-alloc
invariant-patterns_at-loop-alloc l =
    IsPatterns (state_of l.bytes l.fn.cursor) (map pattern_tree l.patterns) (state_of l.bytes l.last)
    × IsCursorOf l.bytes l.last × (l.fn.cursor.end < l.last.end)

abbrev pub decreases-patterns_at-loop-alloc : goal.decreases-patterns_at-loop-alloc
decreases-patterns_at-loop-alloc l = length l.bytes - l.last.end
