use Rattle.std.proofs.Common.{◌≡◌, ◌≤◌, ◌+◌, ◌-◌, length}
use Rattle.celf_source.specs.Shelf.{CountsLack}
use Rattle.celf_source.proofs.Reading.{Began}
use Rattle.celf_source.proofs.read.read_all.Given as goal

abbrev pub invariant-loop-piece : goal.invariant-loop-piece
invariant-loop-piece g l =
    (l.most ≡ l.limit)
    × (length l.file.items ≤ l.limit + 1)
    × Began (g.F.Shelf.told l.fn.shelf l.name) l.file.items (g.F.Shelf.left l.shelf)
    × (g.F.Shelf.faults l.fn.shelf ≤ g.F.Shelf.faults l.shelf)
    × CountsLack (g.F.Shelf.told l.fn.shelf l.name) (g.F.Shelf.lacks l.fn.shelf) (g.F.Shelf.lacks l.shelf)
    × (g.F.Shelf.told l.shelf ≡ g.F.Shelf.told l.fn.shelf)

abbrev pub decreases-loop-piece : goal.decreases-loop-piece
decreases-loop-piece g l = l.limit + 1 - length l.file.items
