-- Laws of the answers, as statements; the functions of the crate's `laws` state them.
use Rattle.std.specs.Prelude.{ℕ, Bool, true, false, ◌≡◌, ◌<◌, List, [], length}
use Rattle.clf_syntax.specs.declared.tree.Head.TheVariants.{Meta}
use Rattle.clf_syntax.specs.Tree.{PlainObject, atomic, PlainNeutral, head_of}
use Rattle.clf_syntax.specs.TypeTree.{SimpleType}
use Rattle.clf_syntax.specs.Simple.{Assignment, SimplyTyped}
use Rattle.subst_laws.specs.Environments.{Instantiation}
use Rattle.store_laws.specs.Mentions.{mentions}
use Rattle.pattern_laws.specs.Instantiations.{Types, closed}
use Rattle.pattern_laws.specs.Equations.{Locals, scoped, Equation}
use Rattle.pattern_laws.specs.Patterns.{Place, IsFinal, OnLocals, masked}
use Rattle.unify_laws.specs.Problems.{Consequence, HasNone}
use Rattle.reach_laws.specs.Reach.{Reaches}
use Rattle.reach_walk.specs.Answers.{IsPattern, IsClash, IsSame, IsPrune, IsAssign}
use Rattle.reach_walk.specs.Premises.{Pruning}
use Rattle.reach_walk.specs.Marks.{MarksForeign}
use Rattle.reach_walk.specs.Walked.{Found, Walked}

-- Each answer comes only where the equation reaches.
pub record OnlyInReach (constants metas : Types) (ls : Locals) (a : SimpleType) (side other : PlainObject) : Type 0 where
  pub clash : IsFinal a → IsClash (closed constants metas) ls a side other → Reaches (closed constants metas) ls a side other
  pub same : (bs : List Bool) → IsSame (closed constants metas) ls a side other bs → Reaches (closed constants metas) ls a side other
  pub prune : (k : ℕ) (bs : List Bool) → IsPrune (closed constants metas) ls a side other k bs → Reaches (closed constants metas) ls a side other
  pub assign : (m : ℕ) (ps qs : List Place) → IsAssign (closed constants metas) ls a side other m ps qs → Reaches (closed constants metas) ls a side other

abbrev pub AnswersReach : Type 0
AnswersReach = (constants metas : Types) (ls : Locals) (a : SimpleType) (side other : PlainObject) → OnlyInReach constants metas ls a side other

-- Where a walk over the other side, whose head is not the same metavariable, finds no clash and finds it not free, the equation does not reach.
abbrev pub NothingFound : Type 0
NothingFound = (constants metas : Types) (ls : Locals) (a : SimpleType) (r : PlainNeutral) (m : ℕ) (ps qs : List Place) (x : PlainObject) (bs : List Bool) (f : Found) → IsFinal a
    → OnLocals (scoped ls (closed constants metas)) r m ps qs a → MarksForeign (length ls) ps bs → ((n : PlainNeutral) → x ≡ atomic n → head_of n ≡ Meta m → ⊥)
    → ((zs : List Place) → MarksForeign (length ls) zs bs → Walked (closed constants metas) ls m zs [] x a f) → f.clash ≡ false → f.free ≡ false → Reaches (closed constants metas) ls a (atomic r) x → ⊥

-- After the answer that the sides clash there is no solution.
abbrev pub ClashHasNone : Type 0
ClashHasNone = (constants metas : Types) (ls : Locals) (a : SimpleType) (given : Instantiation) (es : List Equation) (side other : PlainObject) → IsFinal a → SimplyTyped (scoped ls (closed constants metas)) other a
    → Consequence constants (record { metas = metas; given = given; equations = es }) (record { locals = ls; left = side; right = other; type = a })
    → IsClash (closed constants metas) ls a side other → HasNone constants (record { metas = metas; given = given; equations = es })

-- The answer to prune has the premises of that step, and at least one argument goes.
abbrev pub PruneNarrows : Type 0
PruneNarrows = (constants metas : Types) (ls : Locals) (a : SimpleType) (side other : PlainObject) (k : ℕ) (bs : List Bool) → SimplyTyped (scoped ls (closed constants metas)) other a
    → (c : IsPrune (closed constants metas) ls a side other k bs) → Pruning constants metas ls c.places other k bs

-- With the same metavariable on both sides at least one argument goes, where the sides differ.
abbrev pub SameNarrows : Type 0
SameNarrows = (constants metas : Types) (ls : Locals) (a : SimpleType) (side other : PlainObject) (bs : List Bool) → (c : IsSame (closed constants metas) ls a side other bs) → (side ≡ other → ⊥)
    → length (masked 0 bs c.places) < length c.places

-- A side that is a metavariable on distinct locals mentions it.
abbrev pub PatternMentions : Type 0
PatternMentions = (g : Assignment) (ls : Locals) (a : SimpleType) (side : PlainObject) (m : ℕ) (ps qs : List Place) (other : PlainObject) → IsPattern g ls a side m ps qs other → mentions m side ≡ true
