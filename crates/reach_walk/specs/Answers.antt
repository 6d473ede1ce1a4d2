-- What a side that is a metavariable on distinct locals makes of an equation whose other side is in reach: one of four answers.
use Rattle.std.specs.Prelude.{ℕ, ◌≡◌, ◌<◌, ◌⊎◌, Bool, true, false, List, [], ◌++◌, length, Some, None}
use Rattle.clf_syntax.specs.Tree.{PlainObject, atomic, PlainNeutral}
use Rattle.clf_syntax.specs.TypeTree.{SimpleType}
use Rattle.clf_syntax.specs.Simple.{Assignment}
use Rattle.store_laws.specs.Mentions.{mentions}
use Rattle.pattern_laws.specs.Equations.{Locals, scoped}
use Rattle.pattern_laws.specs.Patterns.{Place, OnDistinct, OnLocals, LacksMisfits, Covers, SameTypes, Foreign, NoCircle, Ends, local_at, mask_at}
use Rattle.reach_laws.specs.Reach.{Prunable}
use Rattle.reach_walk.specs.Somewhere.{Somewhere, Clashing}

-- The side is metavariable m on locals at the places ps, with the locals' own types in qs, and no misfit occurs in the other side.
pub record IsPattern (g : Assignment) (ls : Locals) (a : SimpleType) (side : PlainObject) (m : ℕ) (ps qs : List Place) (other : PlainObject) : Type 0 where
  pub neutral : PlainNeutral
  pub is_neutral : side ≡ atomic neutral
  pub on_locals : OnLocals (scoped ls g) neutral m ps qs a
  pub lacks : LacksMisfits ps qs other

-- No instantiation joins the sides.
pub record IsClash (g : Assignment) (ls : Locals) (a : SimpleType) (side other : PlainObject) : Type 0 where
  pub meta : ℕ
  pub places : List Place
  pub own : List Place
  pub pattern : IsPattern g ls a side meta places own other
  -- The other side is not the same metavariable.
  pub differs : (n : PlainNeutral) (zs ws : List Place) → other ≡ atomic n → OnLocals (scoped ls g) n meta zs ws a → ⊥
  pub clashing : Somewhere (Clashing g ls meta places) g ls [] other a

-- At each place the mask keeps the place, or the way from it comes to an end and it is taken away; a blank place is kept.
abbrev pub KeepsAgreeing : List Place → List Place → List Bool → Type 0
KeepsAgreeing ps zs bs = (length bs ≡ length ps)
    × ((u : ℕ) → u < length ps → local_at ps u ≡ None → mask_at bs u ≡ true)
    × ((u w : ℕ) → local_at ps u ≡ Some w → ((local_at zs u ≡ Some w) × (mask_at bs u ≡ true)) ⊎ ((local_at zs u ≡ Some w → ⊥) × Ends ps zs u × (mask_at bs u ≡ false)))

-- The other side is the same metavariable on distinct locals, without a circle, and the mask keeps the places with the same local on both sides.
pub record IsSame (g : Assignment) (ls : Locals) (a : SimpleType) (side other : PlainObject) (bs : List Bool) : Type 0 where
  pub meta : ℕ
  pub places : List Place
  pub own : List Place
  pub others : List Place
  pub others_own : List Place
  pub pattern : IsPattern g ls a side meta places own other
  pub back : IsPattern g ls a other meta others others_own side
  pub types : SameTypes places others
  pub no_circle : NoCircle places others
  pub keeps : KeepsAgreeing places others bs

-- Of the places zs, under d binders, the mask takes away exactly those with a foreign local, and there is one. A blank place is kept.
pub record TakesForeign (n : ℕ) (ps : List Place) (d : ℕ) (zs : List Place) (bs : List Bool) : Type 0 where
  pub long : length bs ≡ length zs
  pub blank : (u : ℕ) → u < length zs → local_at zs u ≡ None → mask_at bs u ≡ true
  pub sorts : (u w : ℕ) → local_at zs u ≡ Some w → (Foreign n ps d w × (mask_at bs u ≡ false)) ⊎ ((Foreign n ps d w → ⊥) × (mask_at bs u ≡ true))
  pub takes : (u w : ℕ) × (local_at zs u ≡ Some w) × Foreign n ps d w

-- The neutral is metavariable k on distinct locals, and the mask takes away the foreign ones.
abbrev pub IsTaken : Assignment → Locals → List Place → ℕ → List Bool → Locals → PlainNeutral → SimpleType → Type 0
IsTaken g ls ps k bs ds q c = (zs : List Place) × OnDistinct (scoped (ds ++ ls) g) q k zs c × TakesForeign (length ls) ps (length ds) zs bs

-- The other side is free of the metavariable, and its foreign locals can be taken from others: from metavariable k those outside the mask.
pub record IsPrune (g : Assignment) (ls : Locals) (a : SimpleType) (side other : PlainObject) (k : ℕ) (bs : List Bool) : Type 0 where
  pub meta : ℕ
  pub places : List Place
  pub own : List Place
  pub pattern : IsPattern g ls a side meta places own other
  pub free : mentions meta other ≡ false
  pub prunable : Prunable g ls places [] other a
  pub taken : Somewhere (IsTaken g ls places k bs) g ls [] other a

-- The other side is free of the metavariable, and each of its variables stands at a place: it may be given to the metavariable.
pub record IsAssign (g : Assignment) (ls : Locals) (a : SimpleType) (side other : PlainObject) (m : ℕ) (ps qs : List Place) : Type 0 where
  pub pattern : IsPattern g ls a side m ps qs other
  pub free : mentions m other ≡ false
  pub prunable : Prunable g ls ps [] other a
  pub covers : Covers ps other
