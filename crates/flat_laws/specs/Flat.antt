-- Flat objects: each metavariable stands on distinct locals, in the order in which these are bound, and no monadic object stands in them.
use Rattle.std.specs.Prelude.{ℕ, ◌≡◌, ◌⊎◌, ◌&&◌, Bool, true, false, List}
use Rattle.clf_syntax.specs.Tree.{PlainObject, lam, pair, unit, monadic, atomic, hole, PlainNeutral, head_alone, app, fst, snd, head_of}
use Rattle.clf_syntax.specs.TypeTree.{SimpleType, base, arrow, simple_with, simple_top, lax}
use Rattle.clf_syntax.specs.Simple.{Assignment, extended, SimplyTypedNeutral}
use Rattle.hered_subst.specs.TypedEnvironments.{is_metavariable}
use Rattle.pattern_laws.specs.Patterns.{Place, OnDistinct, Ordered}

-- no monad in a simple type
abbrev pub flat_type : SimpleType → Bool
flat_type (base a) = true
flat_type (arrow m d c) = flat_type d && flat_type c
flat_type (simple_with c d) = flat_type c && flat_type d
flat_type simple_top = true
flat_type (lax ts) = false

abbrev mutual
  pub Flat : Assignment → PlainObject → SimpleType → Type 0
  Flat g (lam m b) t = (d c : SimpleType) × (t ≡ arrow m d c) × Flat (extended d g) b c
  Flat g (pair l r) t = (c d : SimpleType) × (t ≡ simple_with c d) × Flat g l c × Flat g r d
  Flat g unit t = Unit {0}
  Flat g (monadic e) t = ⊥
  Flat g (atomic n) t = ((is_metavariable (head_of n) ≡ false) × FlatBelow g n) ⊎ ((k : ℕ) × (zs : List Place) × OnDistinct g n k zs t × Ordered zs)
  Flat g hole t = ⊥

  pub FlatBelow : Assignment → PlainNeutral → Type 0
  FlatBelow g (head_alone h) = Unit {0}
  FlatBelow g (app m r o) = FlatBelow g r × ((d e : SimpleType) × SimplyTypedNeutral g r (arrow m d e) × Flat g o d)
  FlatBelow g (fst r) = FlatBelow g r
  FlatBelow g (snd r) = FlatBelow g r
