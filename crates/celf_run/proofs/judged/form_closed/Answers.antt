use Rattle.std.proofs.Common.{[], subst, Result, Ok, Err}
use Rattle.clf_syntax.specs.PlainTypes.{plain_ty}
use Rattle.clf_syntax.specs.TypeTree.{PlainType}
use Rattle.clf_syntax.specs.declared.fault.OrWide.{OrWide}
use Rattle.clf_syntax.specs.declared.fault.OrWide.TheVariants.{Fault, NoMemory, TooFar}
use Rattle.clf_sig.specs.Entry.{PlainSignature}
use Rattle.clf_sig.specs.Signature.{plain_signature}
use Rattle.use_contexts.specs.Context.{Context}
use Rattle.clf_kernel.specs.declared.refusal.Refusal.{Refusal}
use Rattle.clf_kernel.specs.Exact.{ChecksType}
use Rattle.celf_run.specs.Answering.{FormsClosed}
use Rattle.celf_run.proofs.Closed.{formation-starts}
use Rattle.celf_run.proofs.judged.form_closed.Goals as goal

pub check_type-judged-requires : goal.check_type-judged-requires
check_type-judged-requires c = record { starts = formation-starts (plain_signature c.args.sig.now) _ c.empty-ctx.ensures c.requires }

told-of-type : (sig : PlainSignature) (a : PlainType) (r : Result (Unit {0}) (OrWide Refusal)) → ChecksType sig [] a r → FormsClosed sig a r
told-of-type sig a (Ok x) told = told
told-of-type sig a (Err (Fault r)) told = record { formed_not = told.0; explained = told.1 }
told-of-type sig a (Err NoMemory) told = tt
told-of-type sig a (Err (TooFar w)) told = told

pub returns : goal.returns
returns c =
    let sig = plain_signature c.args.sig.now in
    told-of-type sig (plain_ty c.args.ty.now) _ (subst (λ (g : Context). ChecksType sig g (plain_ty c.args.ty.now) c.check_type-judged.result) c.empty-ctx.ensures c.check_type-judged.ensures.exact)
