use Rattle.std.proofs.Common.{subst}
use Rattle.clf_syntax.specs.PlainTypes.{plain_ty}
use Rattle.clf_syntax.specs.Simple.{SimplyFormed}
use Rattle.metavars.specs.Becoming.{Typing, NoTyping}
use Rattle.metavars.proofs.Values.{kept-fault}
use Rattle.metavars.proofs.store.Store.instantiate_ty.Goals as goal

pub returns-in-Ok-clause-put_in : goal.returns-in-Ok-clause-put_in
unfolding Typing
returns-in-Ok-clause-put_in c = (subst (λ s. Typing s (plain_ty c.args.ty.now) (plain_ty c.in-Ok.instance)) c.at.ensures c.in-Ok.ensures).0

pub returns-in-Ok-clause-formed : goal.returns-in-Ok-clause-formed
unfolding Typing
returns-in-Ok-clause-formed c = (subst (λ s. Typing s (plain_ty c.args.ty.now) (plain_ty c.in-Ok.instance)) c.at.ensures c.in-Ok.ensures).2

pub returns-in-Err-clause-formed : goal.returns-in-Err-clause-formed
unfolding NoTyping
returns-in-Err-clause-formed c = λ f z w p. kept-fault (NoTyping c.at.result.store.now (plain_ty c.args.ty.now)) (λ x. SimplyFormed f z (plain_ty x)) c.in-Err.fault c.fault_of.result c.in-Err.ensures c.fault_of.ensures
    (λ h. subst (λ s. NoTyping s (plain_ty c.args.ty.now)) c.at.ensures h f z w p)
