use Rattle.std.proofs.lemmas.Result.{IfOk-weaker}
use Rattle.clf_syntax.specs.PlainSimple.{plain_simple}
use Rattle.clf_simple.specs.Scope.{scope}
use Rattle.celf_constraints.proofs.InScope.{other_unread, unknown_unread, read_so}
use Rattle.celf_constraints.proofs.places.read_in_scope.Goals as goal

pub returns-in-Const : goal.returns-in-Const
returns-in-Const c = record { places = λ z t h q. other_unread z c.args.neutral.now t c.in-Const.is; too_far = tt }

pub returns-in-None-clause-places : goal.returns-in-None-clause-places
returns-in-None-clause-places c z t h q = unknown_unread z c.args.metas.now (scope c.args.types.now) h c.args.neutral.now c.in-Meta.meta c.in-Meta.is c.in-None.ensures t

pub returns-in-Some-clause-places : goal.returns-in-Some-clause-places
returns-in-Some-clause-places c = IfOk-weaker c.read_meta.result _ _
    (read_so c.args.metas.now (scope c.args.types.now) c.args.neutral.now c.as_slice.result.now c.in-Meta.meta (plain_simple c.in-Some.ty.now) c.in-Meta.is c.as_slice.ensures c.in-Some.ensures) c.read_meta.ensures.places
