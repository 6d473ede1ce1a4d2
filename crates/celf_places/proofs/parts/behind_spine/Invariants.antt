-- What is left of the spine leads from here to where the whole does.
use Rattle.std.proofs.Common.{◌≡◌, map, drop}
use Rattle.std.specs.Prelude.{option_copied}
use Rattle.celf_sugar.specs.Plain.{desugared_elim}
use Rattle.celf_places.specs.Locals.{plain_place}
use Rattle.celf_places.specs.Places.{behind_act}
use Rattle.celf_places.specs.Along.{left_along}
use Rattle.celf_places.proofs.parts.behind_spine.Given as goal

abbrev pub invariant-loop-act : goal.invariant-loop-act
invariant-loop-act l =
    left_along behind_act (plain_place (option_copied l.place)) (map desugared_elim (drop l.act-index l.spine)) ≡ left_along behind_act (plain_place (option_copied l.simple)) (map desugared_elim l.spine)
