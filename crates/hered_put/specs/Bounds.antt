-- Inner: how the bound of a substitution falls.
use Rattle.std.specs.Prelude.{◌≡◌, ◌+◌, ◌<◌, Ok, Err, Result}
use Rattle.hered_put.specs.declared.bound.Bound.{Bound}
use Rattle.hered_put.specs.declared.fault.PutFault.{PutFault}
use Rattle.hered_put.specs.declared.fault.PutFault.TheVariants.{Untyped}

-- inside a part, as deep may be nested
pub record IsInside (outer inner : Bound) : Type 0 where
  pub rank : inner.rank ≡ outer.rank
  pub room : inner.room < outer.room

-- one less may nest; where nothing may nest, nothing is put
abbrev pub Nests : Bound → Result Bound PutFault → Type 0
Nests outer (Ok inner) = (outer.rank ≡ inner.rank + 1) × (inner.room < 18446744073709551616)
Nests outer (Err fault) = (outer.rank ≡ 0) × (fault ≡ Untyped)
