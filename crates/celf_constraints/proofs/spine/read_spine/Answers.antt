use Rattle.std.proofs.Common.{◌+◌, ◌<◌, length, map, drop, arith, sym, subst}
use Rattle.std.specs.Option.{option_map}
use Rattle.clf_syntax.specs.Plain.{plain_elim}
use Rattle.clf_syntax.specs.PlainSimple.{plain_simple}
use Rattle.clf_simple.specs.Scope.{scope}
use Rattle.clf_simple.proofs.Lists.{from_place}
use Rattle.celf_constraints.specs.Read.{plain_next, plain_reading, ReadsOne}
use Rattle.celf_constraints.proofs.Arguments.{SoFar, further, stopped, finished}
use Rattle.celf_constraints.proofs.Meeting.{nothing_left}
use Rattle.celf_constraints.proofs.spine.read_spine.Goals as goal

pub returns-in-None-clause-read : goal.returns-in-None-clause-read
returns-in-None-clause-read c =
    let i = c.loop-act.act-index in
    let e = c.act-item.result in
    let lt : c.loop-act.act-index < length c.args.spine.now = omega arith in
    let vs = scope c.args.types.now in
    let es = map plain_elim c.args.spine.now in
    let t = plain_simple c.args.function.now in
    let w = plain_simple c.loop-act.ty.now in
    let found = map plain_reading c.loop-act.places.items in
    stopped vs es t found (plain_elim e) (map plain_elim (drop (i + 1) c.args.spine.now)) w
    (subst (λ n. ReadsOne vs (plain_elim e) w (option_map plain_next n)) c.in-None.is c.in_ok-next.ensures.read)
    (subst (λ fs. SoFar vs es t found fs w) (from_place plain_elim c.args.spine.now i e lt c.act-item.is) c.loop-act.invariant)

pub loop-act-preserved : goal.loop-act-preserved
loop-act-preserved c =
    let i = c.loop-act.act-index in
    let e = c.act-item.result in
    let lt : c.loop-act.act-index < length c.args.spine.now = omega arith in
    let vs = scope c.args.types.now in
    let es = map plain_elim c.args.spine.now in
    let t = plain_simple c.args.function.now in
    let w = plain_simple c.loop-act.ty.now in
    let found = map plain_reading c.loop-act.places.items in
    let fs = map plain_elim (drop (i + 1) c.args.spine.now) in
    let x = plain_simple c.in-Some.next.rest.now in
    subst (λ l. SoFar vs es t l fs x) (sym c.in_ok-places-in-Some.ensures)
    (further vs es t found (plain_elim e) fs w (plain_reading c.in-Some.next.place) x
    (subst (λ n. ReadsOne vs (plain_elim e) w (option_map plain_next n)) c.in-Some.is c.in_ok-next.ensures.read)
    (subst (λ l. SoFar vs es t found l w) (from_place plain_elim c.args.spine.now i e lt c.act-item.is) c.loop-act.invariant))

pub returns-clause-read : goal.returns-clause-read
returns-clause-read c =
    let vs = scope c.args.types.now in
    let es = map plain_elim c.args.spine.now in
    let t = plain_simple c.args.function.now in
    let w = plain_simple c.loop-act.ty.now in
    let found = map plain_reading c.loop-act.places.items in
    finished vs es t found w (subst (λ fs. SoFar vs es t found fs w) (nothing_left plain_elim c.args.spine.now c.loop-act.act-index (λ l. absurd (omega (arith, l, c.loop-act-test.false)))) c.loop-act.invariant)
