-- Laws of unification in flat systems, as statements; the functions of the crate's `laws` state them.
use Rattle.std.specs.Prelude.{ℕ, Bool, true, ◌≡◌, List, length, Some}
use Rattle.clf_syntax.specs.declared.tree.Head.TheVariants.{Meta}
use Rattle.clf_syntax.specs.Tree.{PlainObject, atomic, PlainNeutral, head_alone}
use Rattle.clf_syntax.specs.TypeTree.{SimpleType}
use Rattle.clf_syntax.specs.Simple.{Assignment}
use Rattle.clf_syntax.specs.Renaming.{Renumbering, ren}
use Rattle.clf_syntax.specs.Occurs.{occurs}
use Rattle.pattern_laws.specs.Renumberings.{Suited, Rises}
use Rattle.pattern_laws.specs.Instantiations.{Types, closed}
use Rattle.pattern_laws.specs.Equations.{Locals, scoped}
use Rattle.pattern_laws.specs.Patterns.{IsFinal, Place, on, lams, arrows, OnDistinct, Covers, inverted, Ordered, masked}
use Rattle.reach_laws.specs.Reach.{InReach}
use Rattle.flat_laws.specs.Flat.{Flat}

-- In a flat system a metavariable on distinct locals in order has every flat atomic object in reach.
abbrev pub FlatReaches : Type 0
FlatReaches = (g : Assignment) (ls : Locals) (r : PlainNeutral) (m : ℕ) (ps : List Place) (a : SimpleType) → IsFinal a → scoped ls g (Meta m) ≡ Some (arrows ps a) → Ordered ps
    → (n : PlainNeutral) → Flat (scoped ls g) (atomic n) a → InReach g ls r m ps a (atomic n)

-- The inverted side of an equation of flat sides is flat.
abbrev pub FlatIsInverted : Type 0
FlatIsInverted = (constants metas : Types) (ls : Locals) (r : PlainNeutral) (m : ℕ) (ps : List Place) (a : SimpleType) → OnDistinct (scoped ls (closed constants metas)) r m ps a → Ordered ps
    → (x : PlainObject) → Flat (scoped ls (closed constants metas)) x a → Covers ps x → Flat (closed constants metas) (inverted (length ls) ps x) (arrows ps a)

-- The solution by a new metavariable is flat.
abbrev pub FlatIsNarrowed : Type 0
FlatIsNarrowed = (constants metas : Types) (k : ℕ) (bs : List Bool) (ps : List Place) (a : SimpleType) → metas k ≡ Some (arrows (masked 0 bs ps) a)
    → Flat (closed constants metas) (lams ps (atomic (on (masked 0 bs ps) (head_alone (Meta k))))) (arrows ps a)

-- A renaming that keeps the order of the variables that occur keeps objects flat.
abbrev pub FlatIsRenamed : Type 0
FlatIsRenamed = (z : Assignment) (r : Renumbering) (g : Assignment) (x : PlainObject) (t : SimpleType) → Flat g x t → Suited (λ i. occurs i x ≡ true) z r g → Rises (λ i. occurs i x ≡ true) r → Flat z (ren r x) t
