-- The indices that have been read, and how far.
use Rattle.std.proofs.Common.{◌-◌, ◌≤◌, length, map}
use Rattle.celf_surface.specs.Surface.{object_tree}
use Rattle.celf_grammar.specs.Grammar.{IsIndices}
use Rattle.celf_cursor.specs.Cursor.{IsCursorOf, state_of}
use Rattle.celf_objects.proofs.arguments.indices_at.Given as goal

abbrev pub invariant-loop-alloc : goal.invariant-loop-alloc
invariant-loop-alloc l =
    IsIndices (state_of l.bytes l.fn.cursor) (map object_tree l.indices) (state_of l.bytes l.last)
    × IsCursorOf l.bytes l.last × (l.fn.cursor.end ≤ l.last.end)

abbrev pub decreases-loop-alloc : goal.decreases-loop-alloc
decreases-loop-alloc l = length l.bytes - l.last.end
