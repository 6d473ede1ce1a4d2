-- Inner: where a walk over the other side may meet a number that goes too far. Lack of memory is free.
use Rattle.std.specs.Prelude.{◌⊎◌, List, ◌++◌}
use Rattle.std.specs.Borrow.{Bor}
use Rattle.clf_syntax.specs.declared.fault.Or.{Or}
use Rattle.clf_syntax.specs.declared.fault.Or.TheVariants.{Fault, NoMemory}
use Rattle.clf_syntax.specs.declared.fault.TooFar.{TooFar}
use Rattle.clf_syntax.specs.declared.tree.Simple.{Simple}
use Rattle.clf_syntax.specs.Tree.{PlainObject, PlainNeutral}
use Rattle.clf_syntax.specs.TypeTree.{SimpleType}
use Rattle.clf_syntax.specs.Simple.{Assignment, SimplyTyped, SimplyTypedNeutral}
use Rattle.pattern_laws.specs.Equations.{Locals, scoped}
use Rattle.pattern_laws.specs.Patterns.{Place}
use Rattle.reach_walk.specs.Somewhere.{Somewhere, SomewhereBelow}
use Rattle.celf_constraints.specs.Equated.{plain_locals}
use Rattle.celf_reach.specs.declared.tables.Sought.{Sought}
use Rattle.celf_reach.specs.declared.tables.Tables.{Tables}
use Rattle.celf_reach.specs.Answered.{heads_of}
use Rattle.celf_reach.specs.Limits.{IsTooFarAt, ReachTooFar}
use Rattle.celf_reach.specs.Sought.{Situated, sought_heads}

-- in an object that is typed
abbrev pub PassesIn : Sought → List (Bor Simple) → PlainObject → SimpleType → Or TooFar → Type 0
PassesIn s types x t (Fault f) = (ls ds : Locals) (ps : List Place) → Situated s types ls ds ps → SimplyTyped (scoped (ds ++ ls) (sought_heads s)) x t → Somewhere (IsTooFarAt ls (Fault f)) (sought_heads s) ls ds x t
PassesIn s types x t NoMemory = Unit {0}

-- in a neutral that is typed
abbrev pub PassesBelow : Sought → List (Bor Simple) → PlainNeutral → Or TooFar → Type 0
PassesBelow s types n (Fault f) = (ls ds : Locals) (ps : List Place) → Situated s types ls ds ps → (t : SimpleType) → SimplyTypedNeutral (scoped (ds ++ ls) (sought_heads s)) n t → SomewhereBelow (IsTooFarAt ls (Fault f)) (sought_heads s) ls ds n
PassesBelow s types n NoMemory = Unit {0}

-- over tables, where the other side is typed
abbrev pub PassesFor : Tables → SimpleType → PlainObject → Or TooFar → Type 0
PassesFor t a other e = SimplyTyped (scoped (plain_locals t.locals.now) (heads_of t.consts.now t.metas.now)) other a → ReachTooFar (heads_of t.consts.now t.metas.now) (plain_locals t.locals.now) a other e

-- from both sides, where they are typed
abbrev pub PassesEither : Assignment → Locals → SimpleType → PlainObject → PlainObject → Or TooFar → Type 0
PassesEither g ls a left right e = SimplyTyped (scoped ls g) left a → SimplyTyped (scoped ls g) right a → ReachTooFar g ls a right e ⊎ ReachTooFar g ls a left e
