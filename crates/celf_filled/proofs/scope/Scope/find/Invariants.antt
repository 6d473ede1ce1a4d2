-- The binder that is looked for is among those that are left.
use Rattle.std.proofs.Common.{◌≡◌, ◌≤◌, map, take, reverse, length}
use Rattle.std.specs.Prelude.{option_copied}
use Rattle.celf_places.specs.Heads.{local_from}
use Rattle.celf_places.specs.Locals.{plain_locals}
use Rattle.celf_filled.specs.Scopes.{declared_local}
use Rattle.celf_filled.proofs.scope.Scope.find.Given as goal

abbrev pub invariant-loop-left : goal.invariant-loop-left
invariant-loop-left l =
    (l.left ≤ length l.self-inside.locals) ×
    (local_from l.number l.name (plain_locals (reverse (map (λ b. (b.name.now, option_copied b.place)) (take l.left l.self-inside.locals)))) ≡ local_from 0 l.name (plain_locals (map declared_local l.self)))

abbrev pub decreases-loop-left : goal.decreases-loop-left
decreases-loop-left l = l.left
