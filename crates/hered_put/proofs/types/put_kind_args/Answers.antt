use Rattle.std.proofs.Common.{arith, ◌≡◌, ◌<◌, ◌+◌, map, length, drop, sym, ◌∙◌, ap, Err}
use Rattle.std.proofs.lemmas.Result.{err_from_is_err_and}
use Rattle.clf_syntax.specs.PlainTypes.{plain_ty}
use Rattle.hered_subst.specs.Substitution.{under}
use Rattle.hered_put.specs.Environments.{environment_of}
use Rattle.hered_put.specs.Pieces.{in_front}
use Rattle.hered_put.specs.TypePieces.{type_of, kind_of}
use Rattle.hered_put.proofs.Answered.{erred, fails-through}
use Rattle.hered_put.proofs.TuplePieces.{one_more, in_front-untyped, in_front-too_far, in_front-more, pushed}
use Rattle.hered_put.proofs.TypePieces.{kind-next}
use Rattle.hered_put.proofs.types.put_kind_args.Goals as goal

pub returns-in_err-put_type : goal.returns-in_err-put_type
returns-in_err-put_type c =
    let k = c.args.bound.rank in
    let s = environment_of c.loop-arg.inner in
    let i = c.loop-arg.arg-index in
    let x = c.arg-item.result in
    let xs = c.args.args.now in
    let lt : i < length xs = omega arith in
    let ys = map plain_ty c.loop-arg.put in
    let later = kind_of k (under 1 s) (map plain_ty (drop (i + 1) xs)) in
    let whole = kind_of k (environment_of c.args.environment.now) (map plain_ty xs) in
    let p = err_from_is_err_and c.from_residual.result c.from_residual.ensures.1 in
    let e : c.from_residual.result ≡ Err c.in_err-put_type.field-0.0 = cc (p.1, p.2) in
    erred (λ ts. map plain_ty ts) whole c.from_residual.result c.in_err-put_type.field-0.0 e
    (fails-through (λ a. in_front ys (one_more a later)) (type_of k s (plain_ty x)) whole c.in_err-put_type.field-0.0
    (c.loop-arg.invariant ∙ ap (in_front ys) (kind-next k s i x xs lt c.arg-item.is)) (in_front-untyped ys later) (in_front-too_far ys later) c.in_err-put_type.ensures)

pub loop-arg-preserved : goal.loop-arg-preserved
loop-arg-preserved c =
    let k = c.args.bound.rank in
    let s = environment_of c.loop-arg.inner in
    let i = c.loop-arg.arg-index in
    let x = c.arg-item.result in
    let xs = c.args.args.now in
    let lt : i < length xs = omega arith in
    let ys = map plain_ty c.loop-arg.put in
    let rest = map plain_ty (drop (i + 1) xs) in
    let later = kind_of k (under 1 s) rest in
    let y = c.in_ok-put_type.field-0 in
    c.loop-arg.invariant
    ∙ ap (in_front ys) (kind-next k s i x xs lt c.arg-item.is)
    ∙ ap (λ a. in_front ys (one_more a later)) c.in_ok-put_type.ensures
    ∙ in_front-more ys (plain_ty y) later
    ∙ ap (λ zs. in_front zs later) (sym (pushed plain_ty c.loop-arg.put y c.push.new.self c.in_ok-push.ensures.ok))
    ∙ ap (λ z. in_front (map plain_ty c.push.new.self) (kind_of k z rest)) (sym c.in_ok-inner.ensures)
