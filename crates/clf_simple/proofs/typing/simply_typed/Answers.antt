use Rattle.std.proofs.Common.{map, ap, ◌∙◌, ◌≡◌}
use Rattle.clf_syntax.specs.Plain.{plain_obj}
use Rattle.clf_syntax.specs.PlainSimple.{plain_simple, plain_simple_entry, simple_telescope_of}
use Rattle.clf_simple.specs.Decision.{behind}
use Rattle.clf_simple.specs.Scope.{scope}
use Rattle.clf_simple.proofs.Decided.{decided}
use Rattle.clf_simple.proofs.typing.simply_typed.Goals as goal

pub returns : goal.returns
returns c =
    let s = simple_telescope_of (map plain_simple_entry c.args.ctx.now) in
    let e : c.as_slice.result.now ≡ c.in_ok-locals.locals.items = cc (c.as_slice.ensures.value) in
    decided (record { constants = map plain_simple c.args.consts.now; metavariables = map plain_simple c.args.metas.now }) s (plain_obj c.args.obj.now) (plain_simple c.args.ty.now) (scope c.as_slice.result.now) c.check.result c.check.ensures
    (ap scope e ∙ c.in_ok-locals.ensures ∙ ap (λ ls. behind s (scope ls)) c.new.ensures.items)
