-- Inner: what becomes of neutrals and of steps, as contracts see it.
use Rattle.std.specs.Prelude.{map, reverse}
use Rattle.clf_syntax.specs.declared.tree.Step.{out-Step}
use Rattle.clf_syntax.specs.Tree.{PlainObject, PlainExpression, steps_on, done, tuple_of}
use Rattle.clf_syntax.specs.Plain.{plain_obj, plain_neutral, plain_expr, plain_step, plain_entry}
use Rattle.hered_put.specs.declared.environment.Outcome.{Outcome as DeclaredOutcome}
use Rattle.hered_put.specs.declared.environment.Outcome.TheVariants.{Kept, Value}
use Rattle.hered_put.specs.declared.step.Coming.{Coming as DeclaredComing}
use Rattle.hered_put.specs.declared.step.Coming.TheVariants.{Stays, Gives}
use Rattle.hered_put.specs.declared.step.Rest.{Rest}
use Rattle.hered_put.specs.declared.object.PairParts.{PairParts}
use Rattle.hered_put.specs.Function.{Outcome, kept, value}
use Rattle.hered_put.specs.Pieces.{Coming, staying, giving}

abbrev pub plain_outcome : DeclaredOutcome → Outcome
plain_outcome (Kept n) = kept (plain_neutral n)
plain_outcome (Value o) = value (plain_obj o)

abbrev pub plain_coming : DeclaredComing → Coming
plain_coming (Stays s) = staying s.modes (plain_neutral (out-Step s).rhs)
plain_coming (Gives n e) = giving n (plain_expr e)

abbrev pub plain_rest : Rest → PlainExpression
plain_rest r = steps_on (map plain_step (reverse r.reversed)) (done (tuple_of (map plain_entry r.tuple)))

abbrev pub plain_parts : PairParts → PlainObject × PlainObject
plain_parts p = (plain_obj p.left, plain_obj p.right)
