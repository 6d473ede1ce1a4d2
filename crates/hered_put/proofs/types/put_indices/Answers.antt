use Rattle.std.proofs.Common.{arith, ◌≡◌, ◌<◌, ◌+◌, map, length, drop, sym, ◌∙◌, ap, Err}
use Rattle.std.proofs.lemmas.Result.{err_from_is_err_and}
use Rattle.clf_syntax.specs.Plain.{plain_obj}
use Rattle.hered_put.specs.Environments.{environment_of}
use Rattle.hered_put.specs.Pieces.{object_of, in_front}
use Rattle.hered_put.specs.TypePieces.{indices_of}
use Rattle.hered_put.proofs.Answered.{erred, fails-through}
use Rattle.hered_put.proofs.TuplePieces.{one_more, in_front-untyped, in_front-too_far, in_front-more, pushed}
use Rattle.hered_put.proofs.TypePieces.{indices-next}
use Rattle.hered_put.proofs.types.put_indices.Goals as goal

pub returns-in_err-put_object : goal.returns-in_err-put_object
returns-in_err-put_object c =
    let k = c.args.bound.rank in
    let s = environment_of c.args.environment.now in
    let i = c.loop-index.index-index in
    let x = c.index-item.result in
    let xs = c.args.indices.now in
    let lt : i < length xs = omega arith in
    let ys = map plain_obj c.loop-index.put in
    let later = indices_of k s (map plain_obj (drop (i + 1) xs)) in
    let p = err_from_is_err_and c.from_residual.result c.from_residual.ensures.1 in
    let e : c.from_residual.result ≡ Err c.in_err-put_object.field-0.0 = cc (p.1, p.2) in
    erred (λ ns. map plain_obj ns) (indices_of k s (map plain_obj xs)) c.from_residual.result c.in_err-put_object.field-0.0 e
    (fails-through (λ a. in_front ys (one_more a later)) (object_of k s (plain_obj x)) (indices_of k s (map plain_obj xs)) c.in_err-put_object.field-0.0
    (c.loop-index.invariant ∙ ap (in_front ys) (indices-next k s i x xs lt c.index-item.is)) (in_front-untyped ys later) (in_front-too_far ys later) c.in_err-put_object.ensures)

pub loop-index-preserved : goal.loop-index-preserved
loop-index-preserved c =
    let k = c.args.bound.rank in
    let s = environment_of c.args.environment.now in
    let i = c.loop-index.index-index in
    let x = c.index-item.result in
    let xs = c.args.indices.now in
    let lt : i < length xs = omega arith in
    let ys = map plain_obj c.loop-index.put in
    let later = indices_of k s (map plain_obj (drop (i + 1) xs)) in
    let y = c.in_ok-put_object.field-0 in
    c.loop-index.invariant
    ∙ ap (in_front ys) (indices-next k s i x xs lt c.index-item.is)
    ∙ ap (λ a. in_front ys (one_more a later)) c.in_ok-put_object.ensures
    ∙ in_front-more ys (plain_obj y) later
    ∙ ap (λ zs. in_front zs later) (sym (pushed plain_obj c.loop-index.put y c.push.new.self c.in_ok-push.ensures.ok))
