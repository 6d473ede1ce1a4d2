use Rattle.std.proofs.Common.{sym, subst, ◌∙◌}
use Rattle.clf_syntax.specs.Plain.{plain_obj, plain_neutral}
use Rattle.clf_syntax.specs.Simple.{SimplyTyped}
use Rattle.clf_syntax.specs.Tree.{atomic}
use Rattle.pattern_laws.specs.Equations.{scoped}
use Rattle.pattern_laws.specs.Patterns.{LacksMisfits}
use Rattle.celf_constraints.specs.Equated.{plain_locals}
use Rattle.celf_constraints.specs.Reading.{ReadsLocals, plain_places, own_places}
use Rattle.reach_laws.specs.Reach.{Reaches}
use Rattle.reach_walk.proofs.OneReading.{stands_final}
use Rattle.reach_walk.proofs.Reaching.{same_unread_no, same_misfit_no, circle_no}
use Rattle.celf_reach.specs.Answered.{types_in, heads_of}
use Rattle.celf_reach.proofs.Agreed.{agreeing_none, agreeing_some}
use Rattle.celf_reach.proofs.Composing.{same_answers}
use Rattle.celf_reach.proofs.Misfitting.{lacks_each, lacks_not}
use Rattle.celf_reach.proofs.search.reach_same.Goals as goal

pub returns-in-None-clause-answer : goal.returns-in-None-clause-answer
returns-in-None-clause-answer c n a h l e o s d = subst (λ y. Reaches (heads_of c.args.tables.now.consts.now c.args.tables.now.metas.now) (plain_locals c.args.tables.now.locals.now) a y (atomic (plain_neutral c.args.neutral.now)) → ⊥) (sym e)
    (same_unread_no (types_in c.args.tables.now.consts.now) (types_in c.args.tables.now.metas.now) (plain_locals c.args.tables.now.locals.now) a n (plain_neutral c.args.neutral.now) c.args.places.meta (plain_places c.args.places) (own_places c.args.places) (stands_final (scoped (plain_locals c.args.tables.now.locals.now) (heads_of c.args.tables.now.consts.now c.args.tables.now.metas.now)) n a (subst (λ y. SimplyTyped (scoped (plain_locals c.args.tables.now.locals.now) (heads_of c.args.tables.now.consts.now c.args.tables.now.metas.now)) y a) e s)) o h (subst (ReadsLocals (scoped (plain_locals c.args.tables.now.locals.now) (heads_of c.args.tables.now.consts.now c.args.tables.now.metas.now)) (plain_neutral c.args.neutral.now) a) c.in-None.is (c.in_ok-read_places.ensures.places (types_in c.args.tables.now.consts.now) a d.1)))

pub returns-then-branch-clause-answer : goal.returns-then-branch-clause-answer
returns-then-branch-clause-answer c n a h l e o s d = subst (λ y. Reaches (heads_of c.args.tables.now.consts.now c.args.tables.now.metas.now) (plain_locals c.args.tables.now.locals.now) a y (atomic (plain_neutral c.args.neutral.now)) → ⊥) (sym e)
    (same_misfit_no (types_in c.args.tables.now.consts.now) (types_in c.args.tables.now.metas.now) (plain_locals c.args.tables.now.locals.now) a n (plain_neutral c.args.neutral.now) c.args.places.meta (plain_places c.args.places) (own_places c.args.places) c.in-Some.others.meta (plain_places c.in-Some.others) (own_places c.in-Some.others) (stands_final (scoped (plain_locals c.args.tables.now.locals.now) (heads_of c.args.tables.now.consts.now c.args.tables.now.metas.now)) n a (subst (λ y. SimplyTyped (scoped (plain_locals c.args.tables.now.locals.now) (heads_of c.args.tables.now.consts.now c.args.tables.now.metas.now)) y a) e s)) o h (subst (ReadsLocals (scoped (plain_locals c.args.tables.now.locals.now) (heads_of c.args.tables.now.consts.now c.args.tables.now.metas.now)) (plain_neutral c.args.neutral.now) a) c.in-Some.is (c.in_ok-read_places.ensures.places (types_in c.args.tables.now.consts.now) a d.1))
    (λ m. lacks_not c.in-Some.others.places.items (plain_obj c.args.side.now) (sym c.in_ok-misfit_occurs-in-Some.ensures ∙ c.if-branch.true) (subst (LacksMisfits (plain_places c.in-Some.others) (own_places c.in-Some.others)) (sym e) m)))

pub returns-in-None-2-clause-answer : goal.returns-in-None-2-clause-answer
returns-in-None-2-clause-answer c n a h l e o s d = subst (λ y. Reaches (heads_of c.args.tables.now.consts.now c.args.tables.now.metas.now) (plain_locals c.args.tables.now.locals.now) a y (atomic (plain_neutral c.args.neutral.now)) → ⊥) (sym e)
    (circle_no (types_in c.args.tables.now.consts.now) (types_in c.args.tables.now.metas.now) (plain_locals c.args.tables.now.locals.now) a n (plain_neutral c.args.neutral.now) c.args.places.meta (plain_places c.args.places) (own_places c.args.places) c.in-Some.others.meta (plain_places c.in-Some.others) (own_places c.in-Some.others) (stands_final (scoped (plain_locals c.args.tables.now.locals.now) (heads_of c.args.tables.now.consts.now c.args.tables.now.metas.now)) n a (subst (λ y. SimplyTyped (scoped (plain_locals c.args.tables.now.locals.now) (heads_of c.args.tables.now.consts.now c.args.tables.now.metas.now)) y a) e s)) o h (subst (ReadsLocals (scoped (plain_locals c.args.tables.now.locals.now) (heads_of c.args.tables.now.consts.now c.args.tables.now.metas.now)) (plain_neutral c.args.neutral.now) a) c.in-Some.is (c.in_ok-read_places.ensures.places (types_in c.args.tables.now.consts.now) a d.1))
    (agreeing_none c.in_ok-agreeing-in-Some.field-0 (λ v. v.items) (plain_places c.args.places) (plain_places c.in-Some.others) c.in_ok-agreeing-in-Some.ensures c.in-None-2.is))

pub returns-clause-answer : goal.returns-clause-answer
returns-clause-answer c n a h l e o s d = same_answers c.args.tables.now a c.args.places c.in-Some.others (plain_neutral c.args.neutral.now) c.in-Some-2.mask.items (plain_obj c.args.side.now) n h l (subst (ReadsLocals (scoped (plain_locals c.args.tables.now.locals.now) (heads_of c.args.tables.now.consts.now c.args.tables.now.metas.now)) (plain_neutral c.args.neutral.now) a) c.in-Some.is (c.in_ok-read_places.ensures.places (types_in c.args.tables.now.consts.now) a d.1))
    (lacks_each c.in-Some.others.places.items (plain_obj c.args.side.now) (sym c.in_ok-misfit_occurs-in-Some.ensures ∙ c.if-branch.false))
    (agreeing_some c.in_ok-agreeing-in-Some.field-0 c.in-Some-2.mask (λ v. v.items) (plain_places c.args.places) (plain_places c.in-Some.others) c.in_ok-agreeing-in-Some.ensures c.in-Some-2.is) e o s
