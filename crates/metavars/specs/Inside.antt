-- Inner: how the room of a walk falls.
use Rattle.std.specs.Prelude.{◌≡◌, ◌<◌}
use Rattle.metavars.specs.declared.instantiate.Looking.{Looking}

-- inside a part, over the same store
pub record IsInside (outer inner : Looking) : Type 0 where
  pub store : inner.store ≡ outer.store
  pub room : inner.room < outer.room
