use Rattle.std.proofs.Common.{sym, subst}
use Rattle.clf_syntax.specs.PlainTypes.{plain_ty, plain_kind}
use Rattle.subst_laws.specs.Environments.{instant}
use Rattle.clf_sig.specs.declared.entry.Class.{Class}
use Rattle.clf_sig.specs.Entry.{family_of, constant_of}
use Rattle.clf_sig.specs.Signature.{plain_class}
use Rattle.celf_elaboration.specs.Items.{SubstitutedClass, in_family_class, in_constant_class}
use Rattle.celf_solve.proofs.put.class_in.Goals as goal

pub returns-in_ok-kind_in-in-Family-clause-put_in : goal.returns-in_ok-kind_in-in-Family-clause-put_in
returns-in_ok-kind_in-in-Family-clause-put_in c = λ s p k.
    subst (λ (x : Class). SubstitutedClass (instant s) (plain_class x) (family_of (plain_kind c.in_ok-kind_in-in-Family.field-0))) (sym c.in-Family.is)
    (in_family_class (c.in_ok-kind_in-in-Family.ensures.put_in s p k))

pub returns-in_ok-type_in-in-Constant-clause-put_in : goal.returns-in_ok-type_in-in-Constant-clause-put_in
returns-in_ok-type_in-in-Constant-clause-put_in c = λ s p k.
    subst (λ (x : Class). SubstitutedClass (instant s) (plain_class x) (constant_of (plain_ty c.in_ok-type_in-in-Constant.field-0))) (sym c.in-Constant.is)
    (in_constant_class (c.in_ok-type_in-in-Constant.ensures.put_in s p k))
