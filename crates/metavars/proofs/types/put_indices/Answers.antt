use Rattle.std.proofs.Common.{sym, subst, ◌<◌, ◌+◌, [], map, length, take, arith}
use Rattle.clf_syntax.specs.Plain.{plain_obj}
use Rattle.metavars.specs.Becoming as becoming
use Rattle.metavars.proofs.Becomings.{each-next, no-index}
use Rattle.metavars.proofs.Values.{refused-by}
use Rattle.metavars.proofs.types.put_indices.Goals as goal

pub loop-index-init : goal.loop-index-init
loop-index-init c = subst (λ ns. becoming.Each (becoming.Object c.args.looking.now.store.now) [] (map plain_obj ns)) (sym c.new-put.ensures) becoming.none

pub loop-index-preserved : goal.loop-index-preserved
loop-index-preserved c =
    let i = c.loop-index.index-index in
    let xs = c.args.indices.now in
    let lt : i < length xs = omega arith in
    subst (λ ns. becoming.Each (becoming.Object c.args.looking.now.store.now) (map plain_obj (take (i + 1) xs)) (map plain_obj ns)) (sym c.in_ok-push.ensures.ok)
    (each-next plain_obj (becoming.Object c.args.looking.now.store.now) xs i c.index-item.result c.loop-index.put c.in_ok-put_object.field-0 c.loop-index.invariant lt c.index-item.is c.in_ok-put_object.ensures)

pub returns-in_err-put_object : goal.returns-in_err-put_object
returns-in_err-put_object c =
    let store = c.args.looking.now.store.now in
    let i = c.loop-index.index-index in
    let xs = c.args.indices.now in
    let lt : i < length xs = omega arith in
    refused-by _ _ _ _ _ c.from_residual.ensures.1 (λ h. no-index store xs i c.index-item.result lt c.index-item.is h) c.in_err-put_object.ensures
