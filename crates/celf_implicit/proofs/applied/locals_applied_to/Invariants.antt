-- The locals so far go before those that are left.
use Rattle.std.proofs.Common.{◌≡◌, map, drop}
use Rattle.celf_sugar.specs.Plain.{desugared_elim}
use Rattle.celf_places.specs.Along.{with_some, read_along, stateless}
use Rattle.celf_implicit.specs.Noting.{plain_applied, plain_binders, local_along}
use Rattle.celf_implicit.proofs.applied.locals_applied_to.Given as goal

abbrev pub invariant-loop-act : goal.invariant-loop-act
invariant-loop-act l =
    with_some (map plain_applied l.locals) (read_along (local_along (plain_binders l.binders)) stateless tt (map desugared_elim (drop l.act-index l.spine)))
    ≡ read_along (local_along (plain_binders l.binders)) stateless tt (map desugared_elim l.spine)
