use Rattle.std.proofs.Common.{subst}
use Rattle.clf_syntax.specs.Plain.{plain_obj}
use Rattle.clf_syntax.specs.Simple.{SimplyTyped}
use Rattle.metavars.specs.Becoming.{Object, NoObject}
use Rattle.metavars.proofs.Values.{kept-fault}
use Rattle.metavars.proofs.store.Store.instantiate.Goals as goal

pub returns-in-Ok-clause-put_in : goal.returns-in-Ok-clause-put_in
unfolding Object
returns-in-Ok-clause-put_in c = (subst (λ s. Object s (plain_obj c.args.obj.now) (plain_obj c.in-Ok.instance)) c.at.ensures c.in-Ok.ensures).0

pub returns-in-Ok-clause-typed : goal.returns-in-Ok-clause-typed
unfolding Object
returns-in-Ok-clause-typed c = (subst (λ s. Object s (plain_obj c.args.obj.now) (plain_obj c.in-Ok.instance)) c.at.ensures c.in-Ok.ensures).1

pub returns-in-Err-clause-typed : goal.returns-in-Err-clause-typed
unfolding NoObject
returns-in-Err-clause-typed c = λ z t w p. kept-fault (NoObject c.at.result.store.now (plain_obj c.args.obj.now)) (λ x. SimplyTyped z (plain_obj x) t) c.in-Err.fault c.fault_of.result c.in-Err.ensures c.fault_of.ensures
    (λ h. subst (λ s. NoObject s (plain_obj c.args.obj.now)) c.at.ensures h z t w p)
