use Rattle.std.proofs.Common.{arith, ◌≡◌, ◌<◌, ◌+◌, map, length, drop, sym, ◌∙◌, ap, Err}
use Rattle.std.proofs.lemmas.Result.{err_from_is_err_and}
use Rattle.clf_syntax.specs.declared.tree.Ty.{Fun}
use Rattle.clf_syntax.specs.TypeTree.{telescope_of}
use Rattle.clf_syntax.specs.PlainTypes.{plain_ty, plain_tele_entry, plain-Fun, plain-tele, plain-Tele}
use Rattle.hered_subst.specs.Substitution.{under}
use Rattle.hered_put.specs.Function.{made}
use Rattle.hered_put.specs.Environments.{environment_of}
use Rattle.hered_put.specs.TypePieces.{type_of, tele_of, tele_entry_of}
use Rattle.hered_put.proofs.Answered.{erred, fails-through}
use Rattle.hered_put.proofs.TuplePieces.{pushed}
use Rattle.hered_put.proofs.TypePieces.{function-under, functions, functions-made, functions-right_untyped, functions-right_too_far, tele-next, bind_next, entries_before, entries_before-more, entries_before-untyped, entries_before-too_far}
use Rattle.hered_put.proofs.types.+put_type.Goals as goal

-- ---- functions

pub put_type-returns-in_err-cod-in-Fun : goal.put_type-returns-in_err-cod-in-Fun
put_type-returns-in_err-cod-in-Fun t c =
    let k = c.args.bound.rank in
    let s = environment_of c.args.environment.now in
    let z = environment_of c.in_ok-inner-in-Fun.inner in
    let m = c.in-Fun.mode in
    let dom = plain_ty c.in_ok-dom-in-Fun.dom in
    let cod = type_of k z (plain_ty c.get-in-Fun.result.now) in
    let whole = type_of k s (plain_ty c.args.ty.now) in
    let p = err_from_is_err_and c.from_residual-in_err-cod-in-Fun.result c.from_residual-in_err-cod-in-Fun.ensures.1 in
    let e : c.from_residual-in_err-cod-in-Fun.result ≡ Err c.in_err-cod-in-Fun.field-0.0 = cc (p.1, p.2) in
    erred plain_ty whole c.from_residual-in_err-cod-in-Fun.result c.in_err-cod-in-Fun.field-0.0 e
    (fails-through (functions m (made dom)) cod whole c.in_err-cod-in-Fun.field-0.0
    (function-under k s z c.args.ty.now m c.in-Fun.dom c.in-Fun.cod c.get.result.now c.get-in-Fun.result.now c.in-Fun.is c.in_ok-inner-in-Fun.ensures c.get.ensures c.get-in-Fun.ensures ∙ ap (λ a. functions m a cod) c.in_ok-dom-in-Fun.ensures)
    (functions-right_untyped m dom) (functions-right_too_far m dom) c.in_err-cod-in-Fun.ensures)

pub put_type-returns-in_ok-new-in-Fun-2 : goal.put_type-returns-in_ok-new-in-Fun-2
put_type-returns-in_ok-new-in-Fun-2 t c =
    let k = c.args.bound.rank in
    let s = environment_of c.args.environment.now in
    let z = environment_of c.in_ok-inner-in-Fun.inner in
    let m = c.in-Fun.mode in
    let dom = c.in_ok-dom-in-Fun.dom in
    let cod = c.in_ok-cod-in-Fun.cod in
    function-under k s z c.args.ty.now m c.in-Fun.dom c.in-Fun.cod c.get.result.now c.get-in-Fun.result.now c.in-Fun.is c.in_ok-inner-in-Fun.ensures c.get.ensures c.get-in-Fun.ensures
    ∙ ap (λ a. functions m a (type_of k z (plain_ty c.get-in-Fun.result.now))) c.in_ok-dom-in-Fun.ensures
    ∙ ap (functions m (made (plain_ty dom))) c.in_ok-cod-in-Fun.ensures
    ∙ functions-made m (plain_ty dom) (plain_ty cod)
    ∙ ap made (sym (plain-Fun m dom cod) ∙ ap (λ a. plain_ty (Fun m a cod)) (sym c.in_ok-new-in-Fun.ensures) ∙ ap (λ b. plain_ty (Fun m c.in_ok-new-in-Fun.field-0 b)) (sym c.in_ok-new-in-Fun-2.ensures))

-- ---- telescopes

pub put_telescope-returns : goal.put_telescope-returns
put_telescope-returns t c =
    let k = c.args.bound.rank in
    let s = environment_of c.args.environment.now in
    ap (tele_of k s) (plain-tele c.args.tele.now ∙ ap (λ es. telescope_of (map plain_tele_entry es)) (sym c.as_slice.ensures))
    ∙ c.in_ok-put_tele_entries.ensures
    ∙ ap made (sym (plain-Tele c.in_ok-put_tele_entries.field-0))

pub put_tele_entries-returns-in_err-put_tele_entry : goal.put_tele_entries-returns-in_err-put_tele_entry
put_tele_entries-returns-in_err-put_tele_entry t c =
    let k = c.args.bound.rank in
    let s = environment_of c.loop-entry.inner in
    let i = c.loop-entry.entry-index in
    let x = c.entry-item.result in
    let xs = c.args.entries.now in
    let lt : i < length xs = omega arith in
    let ys = map plain_tele_entry c.loop-entry.put in
    let later = tele_of k (under 1 s) (telescope_of (map plain_tele_entry (drop (i + 1) xs))) in
    let whole = tele_of k (environment_of c.args.environment.now) (telescope_of (map plain_tele_entry xs)) in
    let p = err_from_is_err_and c.from_residual.result c.from_residual.ensures.1 in
    let e : c.from_residual.result ≡ Err c.in_err-put_tele_entry.field-0.0 = cc (p.1, p.2) in
    erred (λ es. telescope_of (map plain_tele_entry es)) whole c.from_residual.result c.in_err-put_tele_entry.field-0.0 e
    (fails-through (λ a. entries_before ys (bind_next a later)) (tele_entry_of k s (plain_tele_entry x)) whole c.in_err-put_tele_entry.field-0.0
    (c.loop-entry.invariant ∙ ap (entries_before ys) (tele-next k s i x xs lt c.entry-item.is)) (entries_before-untyped ys later) (entries_before-too_far ys later) c.in_err-put_tele_entry.ensures)

pub put_tele_entries-loop-entry-preserved : goal.put_tele_entries-loop-entry-preserved
put_tele_entries-loop-entry-preserved t c =
    let k = c.args.bound.rank in
    let s = environment_of c.loop-entry.inner in
    let i = c.loop-entry.entry-index in
    let x = c.entry-item.result in
    let xs = c.args.entries.now in
    let lt : i < length xs = omega arith in
    let ys = map plain_tele_entry c.loop-entry.put in
    let rest = telescope_of (map plain_tele_entry (drop (i + 1) xs)) in
    let later = tele_of k (under 1 s) rest in
    let y = c.in_ok-put_tele_entry.field-0 in
    c.loop-entry.invariant
    ∙ ap (entries_before ys) (tele-next k s i x xs lt c.entry-item.is)
    ∙ ap (λ a. entries_before ys (bind_next a later)) c.in_ok-put_tele_entry.ensures
    ∙ entries_before-more ys (plain_tele_entry y) later
    ∙ ap (λ zs. entries_before zs later) (sym (pushed plain_tele_entry c.loop-entry.put y c.push.new.self c.in_ok-push.ensures.ok))
    ∙ ap (λ z. entries_before (map plain_tele_entry c.push.new.self) (tele_of k z rest)) (sym c.in_ok-inner.ensures)
