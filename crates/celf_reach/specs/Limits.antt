-- Where a number may go too far while an equation is looked at from one of its sides.
use Rattle.std.specs.Prelude.{◌≡◌, ◌⊎◌, true, [], ◌++◌, map}
use Rattle.clf_syntax.specs.declared.fault.Or.{Or}
use Rattle.clf_syntax.specs.declared.fault.TooFar.{TooFar}
use Rattle.clf_syntax.specs.Tree.{PlainObject, PlainNeutral, head_of}
use Rattle.clf_syntax.specs.TypeTree.{SimpleType}
use Rattle.clf_syntax.specs.Simple.{Assignment}
use Rattle.hered_subst.specs.TypedEnvironments.{is_metavariable}
use Rattle.pattern_laws.specs.Equations.{Locals, Equation}
use Rattle.celf_constraints.specs.Reading.{FormTooFar}
use Rattle.reach_walk.specs.Somewhere.{Somewhere}

-- Under the binders ds the neutral's head is a metavariable, and a number goes too far in the eta-long form of some variable in scope.
abbrev pub IsTooFarAt : Locals → Or TooFar → Locals → PlainNeutral → SimpleType → Type 0
IsTooFarAt ls e ds q c = (is_metavariable (head_of q) ≡ true) × FormTooFar (map (λ l. l.1) (ds ++ ls)) e

-- A number goes too far only in the eta-long form of some local, or of some variable in scope where a metavariable stands at a rigid place of the other side. Lack of memory is free.
abbrev pub ReachTooFar : Assignment → Locals → SimpleType → PlainObject → Or TooFar → Type 0
ReachTooFar g ls a other e = FormTooFar (map (λ l. l.1) ls) e ⊎ Somewhere (IsTooFarAt ls e) g ls [] other a

-- The same while an equation is looked at from both of its sides.
abbrev pub EitherTooFar : Assignment → Equation → Or TooFar → Type 0
EitherTooFar g q e = ReachTooFar g q.locals q.type q.right e ⊎ ReachTooFar g q.locals q.type q.left e
