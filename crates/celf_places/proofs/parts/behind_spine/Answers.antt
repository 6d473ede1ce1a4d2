use Rattle.std.proofs.Common.{sym, ◌∙◌, map}
use Rattle.std.specs.Prelude.{option_copied}
use Rattle.celf_sugar.specs.Plain.{desugared_elim}
use Rattle.celf_places.specs.Locals.{plain_place}
use Rattle.celf_places.specs.Places.{behind_act}
use Rattle.celf_places.specs.Along.{left_along, behind-along}
use Rattle.celf_places.proofs.AlongLaws.{left_end}
use Rattle.celf_places.proofs.parts.behind_spine.Goals as goal

pub returns : goal.returns
returns c =
    left_end desugared_elim behind_act (plain_place (option_copied c.loop-act.place)) c.args.spine.now c.loop-act.act-index (left_along behind_act (plain_place (option_copied c.args.simple)) (map desugared_elim c.args.spine.now))
    c.loop-act-test.false c.loop-act.invariant ∙ sym (behind-along (plain_place (option_copied c.args.simple)) (map desugared_elim c.args.spine.now))
