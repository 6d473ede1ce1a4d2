use Rattle.std.proofs.Common.{◌≡◌, ap, arith, get_or, map}
use Rattle.std.specs.Prelude.{option_copied}
use Rattle.celf_places.specs.Locals.{plain_place}
use Rattle.celf_implicit.specs.declared.variable.Implicit.{Implicit}
use Rattle.celf_implicit.specs.Noting.{plain_applied, determined_name}
use Rattle.celf_implicit.proofs.Replaced.{replaced, kept, added}
use Rattle.celf_implicit.proofs.Walks.{on_ok}
use Rattle.celf_implicit.proofs.notes.keep_earlier.Goals as goal

pub returns-in_ok-variable-in-Some : goal.returns-in_ok-variable-in-Some
returns-in_ok-variable-in-Some c =
    let same : c.index-as_slice-index.result.start ≡ (get_or c.as_slice.result.now c.in-Some.index c.index-as_slice-index.result).start = ap (λ (v : Implicit). v.start) c.index-as_slice-index.is in
    replaced c.args.noted.now c.set.new.self c.in-Some.index c.index-as_slice-index.result c.in_ok-variable-in-Some.variable
    (determined_name c.args.name.now (map plain_applied c.args.locals.now) (plain_place (option_copied c.args.place)))
    (rw c.in-Some.is at c.place_in.ensures) (rw c.as_slice.ensures at c.index-as_slice-index.is) (omega (arith, same, c.if-name-as_slice.true)) c.in_ok-variable-in-Some.ensures c.set.ensures

pub returns-else-name-as_slice : goal.returns-else-name-as_slice
returns-else-name-as_slice c =
    let same : c.index-as_slice-index.result.start ≡ (get_or c.as_slice.result.now c.in-Some.index c.index-as_slice-index.result).start = ap (λ (v : Implicit). v.start) c.index-as_slice-index.is in
    kept c.args.noted.now c.in-Some.index c.index-as_slice-index.result
    (determined_name c.args.name.now (map plain_applied c.args.locals.now) (plain_place (option_copied c.args.place)))
    (rw c.in-Some.is at c.place_in.ensures) (rw c.as_slice.ensures at c.index-as_slice-index.is) (λ l. omega (arith, same, l, c.if-name-as_slice.false))

pub returns-in_ok-variable-in-None : goal.returns-in_ok-variable-in-None
returns-in_ok-variable-in-None c =
    on_ok c.push.result _ _ c.push.ensures.ok
    (λ e. added c.args.noted.now c.push.new.self c.in_ok-variable-in-None.variable
    (determined_name c.args.name.now (map plain_applied c.args.locals.now) (plain_place (option_copied c.args.place)))
    (rw c.in-None.is at c.place_in.ensures) c.in_ok-variable-in-None.ensures e)
