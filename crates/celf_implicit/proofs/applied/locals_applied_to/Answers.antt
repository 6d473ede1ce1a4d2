use Rattle.std.proofs.Common.{ap, sym, ◌∙◌, map, refl}
use Rattle.std.specs.Prelude.{option_map}
use Rattle.celf_sugar.specs.Plain.{desugared_elim}
use Rattle.celf_places.specs.Along.{read_along, stateless}
use Rattle.celf_places.proofs.AlongLaws.{none_along, one_along, all_along}
use Rattle.celf_implicit.specs.Noting.{plain_applied, plain_binders, local_along, locals-along}
use Rattle.celf_implicit.proofs.applied.locals_applied_to.Goals as goal

pub returns-in-None : goal.returns-in-None
returns-in-None c =
    none_along desugared_elim (local_along (plain_binders c.args.binders.now)) stateless tt c.args.spine.now c.loop-act.act-index c.act-item.result (map plain_applied c.loop-act.locals)
    (read_along (local_along (plain_binders c.args.binders.now)) stateless tt (map desugared_elim c.args.spine.now))
    c.loop-act-test.true c.act-item.is c.loop-act.invariant (sym (ap (option_map plain_applied) c.in-None.is) ∙ c.in_ok-local.ensures)
    ∙ sym (locals-along (plain_binders c.args.binders.now) tt (map desugared_elim c.args.spine.now))

pub loop-act-preserved : goal.loop-act-preserved
loop-act-preserved c =
    one_along desugared_elim (local_along (plain_binders c.args.binders.now)) stateless tt c.args.spine.now c.loop-act.act-index plain_applied c.act-item.result c.loop-act.locals c.push.new.self c.in-Some.local tt
    (read_along (local_along (plain_binders c.args.binders.now)) stateless tt (map desugared_elim c.args.spine.now))
    c.loop-act-test.true c.act-item.is c.loop-act.invariant (sym (ap (option_map plain_applied) c.in-Some.is) ∙ c.in_ok-local.ensures) c.in_ok-push-in-Some.ensures.ok refl

pub returns : goal.returns
returns c =
    all_along desugared_elim (local_along (plain_binders c.args.binders.now)) stateless tt c.args.spine.now c.loop-act.act-index (map plain_applied c.loop-act.locals)
    (read_along (local_along (plain_binders c.args.binders.now)) stateless tt (map desugared_elim c.args.spine.now)) c.loop-act-test.false c.loop-act.invariant
    ∙ sym (locals-along (plain_binders c.args.binders.now) tt (map desugared_elim c.args.spine.now))
