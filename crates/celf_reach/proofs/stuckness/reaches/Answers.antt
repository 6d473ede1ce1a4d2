use Rattle.std.specs.Prelude.{◌↔◌, IsTrue}
use Rattle.std.proofs.Common.{sym, subst}
use Rattle.clf_syntax.specs.Plain.{plain_obj}
use Rattle.clf_syntax.specs.PlainSimple.{plain_simple}
use Rattle.reach_laws.specs.Reach.{Reaches}
use Rattle.celf_constraints.specs.Equated.{plain_locals}
use Rattle.celf_reach.specs.Answered.{types_in, heads_of}
use Rattle.celf_reach.proofs.StuckTests.{reach_told}
use Rattle.celf_reach.proofs.stuckness.reaches.Goals as goal

pub returns-clause-exact : goal.returns-clause-exact
returns-clause-exact c s d =
    subst (λ b. IsTrue b ↔ Reaches (heads_of c.args.tables.now.consts.now c.args.tables.now.metas.now) (plain_locals c.args.tables.now.locals.now) (plain_simple c.args.ty.now) (plain_obj c.args.side.now) (plain_obj c.args.other.now))
    (sym c.is_in_reach.ensures)
    (reach_told (types_in c.args.tables.now.consts.now) (types_in c.args.tables.now.metas.now) (plain_locals c.args.tables.now.locals.now) (plain_simple c.args.ty.now) (plain_obj c.args.side.now) (plain_obj c.args.other.now) s
    c.in_ok-answer.answer (c.in_ok-answer.ensures.answer s d))
