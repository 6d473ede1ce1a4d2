-- Inner: what one walk over the other side finds.
use Rattle.std.specs.Prelude.{ℕ, ◌≡◌, ◌⊎◌, ◌↔◌, ◌||◌, ◌&&◌, Bool, true, false, List, length, Option, Some, None}
use Rattle.clf_syntax.specs.Tree.{PlainObject, PlainNeutral}
use Rattle.clf_syntax.specs.TypeTree.{SimpleType}
use Rattle.clf_syntax.specs.Simple.{Assignment}
use Rattle.clf_syntax.specs.Occurs.{occurs_neutral}
use Rattle.store_laws.specs.Mentions.{mentions, mentions_neutral}
use Rattle.pattern_laws.specs.Equations.{Locals}
use Rattle.pattern_laws.specs.Patterns.{Place, Foreign, NoForeign}
use Rattle.reach_laws.specs.Reach.{Prunable, PrunableBelow}
use Rattle.reach_walk.specs.Somewhere.{Somewhere, SomewhereBelow, ForeignHead, Clashing}
use Rattle.reach_walk.specs.Answers.{IsTaken}

-- clash: a foreign local is a head at a rigid place, or the metavariable stands there on distinct locals.
-- free: the metavariable is not mentioned, and foreign locals can be taken away.
-- prune: a metavariable from which some can be taken, with the mask of its other places.
pub record Found : Type 0 where
  pub clash : Bool
  pub free : Bool
  pub prune : Option (ℕ × List Bool)

-- what is found where there is nothing to find
abbrev pub nothing : Found
nothing = record { clash = false; free = true; prune = None }

abbrev pub first_of : Option (ℕ × List Bool) → Option (ℕ × List Bool) → Option (ℕ × List Bool)
first_of None y = y
first_of (Some x) y = Some x

-- what is found in two parts
abbrev pub both : Found → Found → Found
both f h = record { clash = f.clash || h.clash; free = f.free && h.free; prune = first_of f.prune h.prune }

-- With nothing to prune no foreign local occurs.
abbrev pub IsPruned : Assignment → Locals → List Place → Locals → PlainObject → SimpleType → Option (ℕ × List Bool) → Type 0
IsPruned g ls ps ds x t None = NoForeign (length ls) ps (length ds) x
IsPruned g ls ps ds x t (Some p) = Somewhere (IsTaken g ls ps p.0 p.1) g ls ds x t

abbrev pub IsPrunedBelow : Assignment → Locals → List Place → Locals → PlainNeutral → Option (ℕ × List Bool) → Type 0
IsPrunedBelow g ls ps ds n None = (w : ℕ) → occurs_neutral w n ≡ true → Foreign (length ls) ps (length ds) w → ⊥
IsPrunedBelow g ls ps ds n (Some p) = SomewhereBelow (IsTaken g ls ps p.0 p.1) g ls ds n

-- This is found in the object of type t, under the binders ds.
pub record Walked (g : Assignment) (ls : Locals) (m : ℕ) (ps : List Place) (ds : Locals) (x : PlainObject) (t : SimpleType) (f : Found) : Type 0 where
  pub clash : (f.clash ≡ true) ↔ Somewhere (Clashing g ls m ps) g ls ds x t
  pub free : (f.free ≡ true) ↔ ((mentions m x ≡ false) × Prunable g ls ps ds x t)
  pub pruned : f.free ≡ true → IsPruned g ls ps ds x t f.prune

-- This is found in the neutral, its head and its arguments.
pub record WalkedBelow (g : Assignment) (ls : Locals) (m : ℕ) (ps : List Place) (ds : Locals) (n : PlainNeutral) (f : Found) : Type 0 where
  pub clash : (f.clash ≡ true) ↔ (ForeignHead ls ps ds n ⊎ SomewhereBelow (Clashing g ls m ps) g ls ds n)
  pub free : (f.free ≡ true) ↔ ((mentions_neutral m n ≡ false) × PrunableBelow g ls ps ds n)
  pub pruned : f.free ≡ true → IsPrunedBelow g ls ps ds n f.prune
