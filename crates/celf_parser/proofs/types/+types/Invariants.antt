-- What has been read, and how far. Each call goes to a later byte, or to a production further down.
use Rattle.std.proofs.Common.{◌+◌, ◌-◌, ◌*◌, ◌≤◌, ◌<◌, length, map}
use Rattle.celf_surface.specs.Surface.{surface}
use Rattle.celf_grammar.specs.Grammar.{IsBackward}
use Rattle.celf_cursor.specs.Cursor.{IsCursorOf, state_of}
use Rattle.celf_parser.specs.Product.{IsFactors, factor_of}
use Rattle.celf_parser.proofs.types.+types.Given as goal

abbrev pub decreases-type_at : goal.decreases-type_at
decreases-type_at l = (length l.bytes.now - l.cursor.end) * 9 + 8

abbrev pub decreases-forward_at : goal.decreases-forward_at
decreases-forward_at l = (length l.bytes.now - l.cursor.end) * 9 + 7

abbrev pub decreases-pi_at : goal.decreases-pi_at
decreases-pi_at l = (length l.bytes.now - l.cursor.end) * 9 + 6

abbrev pub decreases-sync_at : goal.decreases-sync_at
decreases-sync_at l = (length l.bytes.now - l.cursor.end) * 9 + 6

abbrev pub decreases-exists_at : goal.decreases-exists_at
decreases-exists_at l = (length l.bytes.now - l.cursor.end) * 9 + 5

abbrev pub decreases-factor_at : goal.decreases-factor_at
decreases-factor_at l = (length l.bytes.now - l.cursor.end) * 9 + 5

abbrev pub decreases-marked_at : goal.decreases-marked_at
decreases-marked_at l = (length l.bytes.now - l.cursor.end) * 9 + 4

abbrev pub decreases-with_at : goal.decreases-with_at
decreases-with_at l = (length l.bytes.now - l.cursor.end) * 9 + 3

abbrev pub decreases-atom_at : goal.decreases-atom_at
decreases-atom_at l = (length l.bytes.now - l.cursor.end) * 9 + 2

abbrev pub decreases-braces_at : goal.decreases-braces_at
decreases-braces_at l = (length l.bytes.now - l.cursor.end) * 9 + 1

abbrev pub decreases-enclosed_at : goal.decreases-enclosed_at
decreases-enclosed_at l = (length l.bytes.now - l.cursor.end) * 9

abbrev pub invariant-type_at-loop-left : goal.invariant-type_at-loop-left
invariant-type_at-loop-left l =
    IsBackward (state_of l.bytes l.fn.cursor) (surface l.left) (state_of l.bytes l.behind)
    × IsCursorOf l.bytes l.behind × (l.fn.cursor.end < l.behind.end)

abbrev pub decreases-type_at-loop-left : goal.decreases-type_at-loop-left
decreases-type_at-loop-left l = length l.bytes - l.behind.end

abbrev pub invariant-sync_at-loop-alloc : goal.invariant-sync_at-loop-alloc
invariant-sync_at-loop-alloc l =
    IsFactors (state_of l.bytes l.fn.cursor) (map (factor_of l.bytes) l.factors) (state_of l.bytes l.at)
    × IsCursorOf l.bytes l.at × (l.fn.cursor.end ≤ l.at.end)

abbrev pub decreases-sync_at-loop-alloc : goal.decreases-sync_at-loop-alloc
decreases-sync_at-loop-alloc l = length l.bytes - l.at.end
