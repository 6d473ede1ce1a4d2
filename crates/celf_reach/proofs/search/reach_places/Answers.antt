use Rattle.std.proofs.Common.{sym, subst, ◌∙◌}
use Rattle.std.proofs.lemmas.Result.{IfOk-weaker}
use Rattle.clf_syntax.specs.Plain.{plain_obj}
use Rattle.clf_syntax.specs.PlainSimple.{plain_simple}
use Rattle.clf_syntax.specs.Simple.{SimplyTyped}
use Rattle.pattern_laws.specs.Equations.{scoped}
use Rattle.pattern_laws.specs.Patterns.{LacksMisfits}
use Rattle.celf_constraints.specs.Equated.{plain_locals}
use Rattle.celf_constraints.specs.Reading.{plain_places, own_places}
use Rattle.reach_laws.specs.Reach.{Reaches}
use Rattle.reach_walk.proofs.OneReading.{stands_final}
use Rattle.reach_walk.proofs.Reaching.{misfit_no}
use Rattle.celf_reach.specs.Answered.{types_in, heads_of}
use Rattle.celf_reach.specs.Asked.{AnswersAt}
use Rattle.celf_reach.proofs.Misfitting.{lacks_each, lacks_not}
use Rattle.celf_reach.proofs.search.reach_places.Goals as goal

pub returns-then-branch-clause-answer : goal.returns-then-branch-clause-answer
returns-then-branch-clause-answer c n e o s d = subst (λ y. Reaches (heads_of c.args.tables.now.consts.now c.args.tables.now.metas.now) (plain_locals c.args.tables.now.locals.now) (plain_simple c.args.ty.now) y (plain_obj c.args.other.now) → ⊥) (sym e)
    (misfit_no (types_in c.args.tables.now.consts.now) (types_in c.args.tables.now.metas.now) (plain_locals c.args.tables.now.locals.now) (plain_simple c.args.ty.now) n c.args.places.meta (plain_places c.args.places) (own_places c.args.places) (plain_obj c.args.other.now) (stands_final (scoped (plain_locals c.args.tables.now.locals.now) (heads_of c.args.tables.now.consts.now c.args.tables.now.metas.now)) n (plain_simple c.args.ty.now) (subst (λ y. SimplyTyped (scoped (plain_locals c.args.tables.now.locals.now) (heads_of c.args.tables.now.consts.now c.args.tables.now.metas.now)) y (plain_simple c.args.ty.now)) e s)) o (lacks_not c.args.places.places.items (plain_obj c.args.other.now) (sym c.in_ok-misfit_occurs.ensures ∙ c.if-branch.true)))

pub returns-in-Some-clause-answer : goal.returns-in-Some-clause-answer
returns-in-Some-clause-answer c = IfOk-weaker c.reach_same.result _ _
    (λ r h n. subst (λ x. AnswersAt c.args.tables.now (plain_simple c.args.ty.now) (plain_obj c.args.side.now) n c.args.places x r) (sym c.in-Some.ensures.0) (h n (plain_simple c.args.ty.now) c.in-Some.ensures.1 (subst (LacksMisfits (plain_places c.args.places) (own_places c.args.places)) c.in-Some.ensures.0 (lacks_each c.args.places.places.items (plain_obj c.args.other.now) (sym c.in_ok-misfit_occurs.ensures ∙ c.if-branch.false))))) c.reach_same.ensures.answer

pub returns-in-None-clause-answer : goal.returns-in-None-clause-answer
returns-in-None-clause-answer c = IfOk-weaker c.reach_other.result _ _ (λ r h n. h (plain_obj c.args.side.now) n c.in-None.ensures (lacks_each c.args.places.places.items (plain_obj c.args.other.now) (sym c.in_ok-misfit_occurs.ensures ∙ c.if-branch.false))) c.reach_other.ensures.answer
