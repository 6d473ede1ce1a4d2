-- Inner: the tests whose answers say that an equation is stuck.
use Rattle.std.specs.Prelude.{Bool, true, false, ◌↔◌, IsTrue}
use Rattle.clf_syntax.specs.Tree.{PlainObject, lam, pair, unit, monadic, atomic, hole, head_of}
use Rattle.clf_syntax.specs.TypeTree.{SimpleType}
use Rattle.clf_syntax.specs.Simple.{Assignment, SimplyTyped}
use Rattle.hered_subst.specs.TypedEnvironments.{is_metavariable}
use Rattle.pattern_laws.specs.Equations.{Locals, scoped}
use Rattle.reach_laws.specs.Reach.{Reaches}
use Rattle.celf_reach.specs.declared.answer.Reach.{Reach}
use Rattle.celf_reach.specs.declared.answer.Reach.TheVariants.{No, Clash, Same, Prune, Assign}

-- the answer says that the other side is in reach
abbrev pub is_in_reach : Reach → Bool
is_in_reach No = false
is_in_reach Clash = true
is_in_reach (Same mask) = true
is_in_reach (Prune k mask) = true
is_in_reach (Assign p) = true

-- the head is a metavariable
abbrev pub is_flexible : PlainObject → Bool
is_flexible (lam m b) = false
is_flexible (pair l r) = false
is_flexible unit = false
is_flexible (monadic e) = false
is_flexible (atomic n) = is_metavariable (head_of n)
is_flexible hole = false

abbrev pub is_monadic : PlainObject → Bool
is_monadic (lam m b) = false
is_monadic (pair l r) = false
is_monadic unit = false
is_monadic (monadic e) = true
is_monadic (atomic n) = false
is_monadic hole = false

-- Of typed sides, the side reaches the other.
abbrev pub SaysReach : Assignment → Locals → SimpleType → PlainObject → PlainObject → Bool → Type 0
SaysReach g ls a side other b = SimplyTyped (scoped ls g) side a → SimplyTyped (scoped ls g) other a → (IsTrue b ↔ Reaches g ls a side other)

-- Of typed sides, neither reaches the other.
abbrev pub SaysApart : Assignment → Locals → SimpleType → PlainObject → PlainObject → Bool → Type 0
SaysApart g ls a left right b = SimplyTyped (scoped ls g) left a → SimplyTyped (scoped ls g) right a → (IsTrue b ↔ ((Reaches g ls a left right → ⊥) × (Reaches g ls a right left → ⊥)))
