use Rattle.std.proofs.Common.{arith, map, subst, get_or}
use Rattle.clf_syntax.specs.PlainTypes.{plain_ty}
use Rattle.celf_front.specs.Marking.{IsRow}
use Rattle.celf_front.proofs.Marks.{rows_more, needs_made, type_read}
use Rattle.celf_front.proofs.mentions.needs_of.Goals as goal

pub loop-binder-preserved : goal.loop-binder-preserved
loop-binder-preserved c =
    let types = map plain_ty c.args.types.now in
    let binders = c.args.binders.now in
    let i = c.loop-binder.binder-index in
    let row = c.in_ok-row_of.field-0 in
    let read = type_read c.args.types.now (get_or binders i 0) c.index-types-binder.result (c.requires i c.loop-binder-test.true) c.index-types-binder.is in
    let made = subst (λ a. IsRow c.args.first binders a row) read c.in_ok-row_of.ensures in
    rw c.in_ok-push.ensures.ok (rows_more c.args.first types binders i c.loop-binder.rows row c.loop-binder.invariant made)

pub returns : goal.returns
returns c = needs_made c.args.first (map plain_ty c.args.types.now) c.args.binders.now c.loop-binder.binder-index c.loop-binder.rows (omega arith) c.loop-binder.invariant
