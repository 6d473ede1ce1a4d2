use Rattle.std.proofs.lemmas.Result.{IfOk-weaker}
use Rattle.clf_syntax.specs.Plain.{plain_obj}
use Rattle.clf_syntax.specs.PlainSimple.{plain_simple}
use Rattle.unify_tests.proofs.Beginnings.{typed_there}
use Rattle.unify_tests.proofs.ready.has_type.Goals as goal

pub returns : goal.returns
returns c = IfOk-weaker c.simply_typed.result _ _
    (λ b h t. typed_there c.args.store.now c.args.equation.now.locals.items c.as_slice-locals.result.now c.consts.result.now c.metas.result.now (plain_obj c.args.side.now) (plain_simple c.args.equation.now.ty) c.as_slice-locals.ensures.value c.consts.ensures c.metas.ensures (h.0 t))
    c.simply_typed.ensures
