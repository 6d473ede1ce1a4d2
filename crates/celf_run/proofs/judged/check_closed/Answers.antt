use Rattle.std.proofs.Common.{◌≡◌, [], ap, refl, subst, reverse, Result, Err}
use Rattle.clf_syntax.specs.PlainTypes.{plain_ty}
use Rattle.clf_syntax.specs.declared.fault.OrWide.{OrWide}
use Rattle.clf_syntax.specs.declared.fault.OrWide.TheVariants.{Fault, NoMemory, TooFar}
use Rattle.clf_syntax.specs.Tree.{PlainObject}
use Rattle.clf_syntax.specs.TypeTree.{PlainType}
use Rattle.clf_sig.specs.Entry.{PlainSignature}
use Rattle.clf_sig.specs.Signature.{plain_signature}
use Rattle.clf_rules.specs.WellFormed.{WellFormedType}
use Rattle.use_contexts.specs.Context.{Context}
use Rattle.use_contexts.specs.Holding.{Holding}
use Rattle.use_contexts.specs.declared.join.Left.{Left}
use Rattle.clf_kernel.specs.declared.refusal.Refusal.{Refusal}
use Rattle.clf_kernel.specs.Exact.{ChecksObject}
use Rattle.celf_run.specs.Answering.{JudgesClosed}
use Rattle.celf_run.proofs.Closed.{closed-starts, closed-formed}
use Rattle.celf_run.proofs.judged.check_closed.Goals as goal

pub check_object-judged-requires : goal.check_object-judged-requires
check_object-judged-requires c =
    let sig = plain_signature c.args.sig.now in
    record {
      starts = closed-starts sig _ _ c.empty-ctx.ensures (ap reverse c.new.ensures) c.requires.formed;
      formed = closed-formed sig _ (plain_ty c.args.ty.now) c.empty-ctx.ensures c.requires.type_formed;
    }

-- what the kernel answers in the empty context and its holding
answers-empty : (sig : PlainSignature) (g : Context) (h : Holding) (n : PlainObject) (a : PlainType) (r : Result Left (OrWide Refusal)) → g ≡ [] → h ≡ [] → ChecksObject sig g h n a r → ChecksObject sig [] [] n a r
answers-empty sig g h n a r e f x = subst (λ (k : Holding). ChecksObject sig [] k n a r) f (subst (λ (k : Context). ChecksObject sig k h n a r) e x)

fault-empty : (sig : PlainSignature) (g : Context) (h : Holding) (n : PlainObject) (a : PlainType) (f : OrWide Refusal) → WellFormedType sig [] a → g ≡ [] → h ≡ []
    → ChecksObject sig g h n a (Err f) → JudgesClosed sig n a (Err f)
fault-empty sig g h n a (Fault r) w e k x =
    let told = answers-empty sig g h n a (Err (Fault r)) e k x in record { formed = w; has_not = told.0 [] (refl, tt); explained = told.1 }
fault-empty sig g h n a NoMemory w e k x = tt
fault-empty sig g h n a (TooFar v) w e k x = x
