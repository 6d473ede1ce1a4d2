use Rattle.std.proofs.Common.{◌<◌, subst}
use Rattle.std.proofs.lemmas.Result.{IfOk-weaker}
use Rattle.clf_syntax.specs.Plain.{plain_obj}
use Rattle.clf_syntax.specs.PlainSimple.{plain_simple}
use Rattle.celf_unify.specs.Sided.{posed}
use Rattle.celf_unify.proofs.Siding.{within, says_nothing, says_posed, locals_counted}
use Rattle.celf_unify.proofs.side.from_side.Goals as goal

pub said-requires : goal.said-requires
said-requires c = record { within = λ v o. subst (λ n. v < n) (locals_counted c.args.locals.now) (within c.args.store.now (posed c.args.locals.now (plain_simple c.args.ty.now) (plain_obj c.args.side.now) (plain_obj c.args.other.now)) c.requires.posed v o) }

pub returns-in-None-clause-says : goal.returns-in-None-clause-says
returns-in-None-clause-says c = says_nothing c.args.store.now (posed c.args.locals.now (plain_simple c.args.ty.now) (plain_obj c.args.side.now) (plain_obj c.args.other.now)) c.requires.posed c.in-None.ensures

pub returns-in-Ok-clause-says : goal.returns-in-Ok-clause-says
returns-in-Ok-clause-says c = IfOk-weaker c.said.result _ _
    (λ r h. says_posed c.args.store.now c.args.locals.now (plain_simple c.args.ty.now) (plain_obj c.args.side.now) (plain_obj c.args.other.now) c.consts.result.now c.metas.result.now c.in-Some.meta c.in-Ok.found r c.requires.posed c.in-Some.ensures
    c.consts.ensures c.metas.ensures c.in-Ok.ensures.answer h)
    c.said.ensures.said
