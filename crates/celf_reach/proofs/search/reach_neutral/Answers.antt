use Rattle.std.proofs.Common.{sym, subst}
use Rattle.std.proofs.lemmas.Result.{IfOk-weaker}
use Rattle.clf_syntax.specs.Plain.{plain_obj, plain_neutral}
use Rattle.clf_syntax.specs.PlainSimple.{plain_simple}
use Rattle.clf_syntax.specs.Simple.{SimplyTyped}
use Rattle.pattern_laws.specs.Equations.{scoped}
use Rattle.celf_constraints.specs.Equated.{plain_locals}
use Rattle.celf_constraints.specs.Reading.{ReadsLocals}
use Rattle.reach_laws.specs.Reach.{Reaches}
use Rattle.reach_walk.proofs.Reaching.{unread_no}
use Rattle.celf_reach.specs.Answered.{types_in, heads_of}
use Rattle.celf_reach.proofs.search.reach_neutral.Goals as goal

pub returns-in-None-clause-answer : goal.returns-in-None-clause-answer
returns-in-None-clause-answer c e s d = subst (λ y. Reaches (heads_of c.args.tables.now.consts.now c.args.tables.now.metas.now) (plain_locals c.args.tables.now.locals.now) (plain_simple c.args.ty.now) y (plain_obj c.args.other.now) → ⊥) (sym e) (unread_no (types_in c.args.tables.now.consts.now) (types_in c.args.tables.now.metas.now) (plain_locals c.args.tables.now.locals.now) (plain_simple c.args.ty.now) (plain_neutral c.args.neutral.now) (plain_obj c.args.other.now) (subst (ReadsLocals (scoped (plain_locals c.args.tables.now.locals.now) (heads_of c.args.tables.now.consts.now c.args.tables.now.metas.now)) (plain_neutral c.args.neutral.now) (plain_simple c.args.ty.now)) c.in-None.is (c.in_ok-read_places.ensures.places (types_in c.args.tables.now.consts.now) (plain_simple c.args.ty.now) (subst (λ y. SimplyTyped (scoped (plain_locals c.args.tables.now.locals.now) (heads_of c.args.tables.now.consts.now c.args.tables.now.metas.now)) y (plain_simple c.args.ty.now)) e s).1)))

pub returns-in-Some-clause-answer : goal.returns-in-Some-clause-answer
returns-in-Some-clause-answer c = IfOk-weaker c.reach_places.result _ _ (λ r h e s d. h (plain_neutral c.args.neutral.now) e (subst (ReadsLocals (scoped (plain_locals c.args.tables.now.locals.now) (heads_of c.args.tables.now.consts.now c.args.tables.now.metas.now)) (plain_neutral c.args.neutral.now) (plain_simple c.args.ty.now)) c.in-Some.is (c.in_ok-read_places.ensures.places (types_in c.args.tables.now.consts.now) (plain_simple c.args.ty.now) (subst (λ y. SimplyTyped (scoped (plain_locals c.args.tables.now.locals.now) (heads_of c.args.tables.now.consts.now c.args.tables.now.metas.now)) y (plain_simple c.args.ty.now)) e s).1)) s d) c.reach_places.ensures.answer
