use Rattle.std.proofs.Common.{ℕ, sym, subst}
use Rattle.clf_syntax.specs.Plain.{plain_obj}
use Rattle.clf_syntax.specs.PlainTypes.{plain_ty, plain_tele}
use Rattle.subst_laws.specs.Environments.{instant}
use Rattle.clf_sig.specs.declared.item.Core.{Core}
use Rattle.clf_sig.specs.Core.{declares, queries, traces, equates, checks, plain_core}
use Rattle.clf_sig.specs.Signature.{plain_class, plain_entry}
use Rattle.celf_explicit.specs.Explicit.{entry_of}
use Rattle.celf_elaboration.specs.Items.{SubstitutedCore, in_declaration, in_query, in_trace, in_equation, in_check}
use Rattle.celf_solve.proofs.put.core_in.Goals as goal

pub returns-in_ok-entry-in-Declare-clause-put_in : goal.returns-in_ok-entry-in-Declare-clause-put_in
returns-in_ok-entry-in-Declare-clause-put_in c = λ s p k.
    let name = c.in-Declare.name in
    let here = c.in-Declare.entry in
    let there = c.in_ok-entry-in-Declare.entry in
    subst (λ (x : Core). SubstitutedCore (instant s) (plain_core x) (declares name (plain_entry there))) (sym c.in-Declare.is)
    (subst (λ (n : ℕ). SubstitutedCore (instant s) (declares name (plain_entry here)) (declares name (entry_of n (plain_class there.class))))
    (sym c.in_ok-entry-in-Declare.ensures.implicit)
    (in_declaration (c.in_ok-entry-in-Declare.ensures.put_in s p k)))

pub returns-in_ok-type_in-in-Query-clause-put_in : goal.returns-in_ok-type_in-in-Query-clause-put_in
returns-in_ok-type_in-in-Query-clause-put_in c = λ s p k.
    subst (λ (x : Core). SubstitutedCore (instant s) (plain_core x) (queries (plain_ty c.in_ok-type_in-in-Query.field-0))) (sym c.in-Query.is)
    (in_query (c.in_ok-type_in-in-Query.ensures.put_in s p k))

pub returns-in_ok-telescope_in-in-Trace-clause-put_in : goal.returns-in_ok-telescope_in-in-Trace-clause-put_in
returns-in_ok-telescope_in-in-Trace-clause-put_in c = λ s p k.
    subst (λ (x : Core). SubstitutedCore (instant s) (plain_core x) (traces (plain_tele c.in_ok-telescope_in-in-Trace.field-0))) (sym c.in-Trace.is)
    (in_trace (c.in_ok-telescope_in-in-Trace.ensures.put_in s p k))

pub returns-in_ok-object_in-in-Equal-2-clause-put_in : goal.returns-in_ok-object_in-in-Equal-2-clause-put_in
returns-in_ok-object_in-in-Equal-2-clause-put_in c = λ s p k.
    subst (λ (x : Core). SubstitutedCore (instant s) (plain_core x)
    (equates (plain_obj c.in_ok-object_in-in-Equal.field-0) (plain_obj c.in_ok-object_in-in-Equal-2.field-0) (plain_ty c.in_ok-type_in-in-Equal.field-0)))
    (sym c.in-Equal.is)
    (in_equation (c.in_ok-object_in-in-Equal.ensures.put_in s p k) (c.in_ok-object_in-in-Equal-2.ensures.put_in s p k) (c.in_ok-type_in-in-Equal.ensures.put_in s p k))

pub returns-in_ok-object_in-in-Check-clause-put_in : goal.returns-in_ok-object_in-in-Check-clause-put_in
returns-in_ok-object_in-in-Check-clause-put_in c = λ s p k.
    subst (λ (x : Core). SubstitutedCore (instant s) (plain_core x) (checks (plain_obj c.in_ok-object_in-in-Check.field-0) (plain_ty c.in_ok-type_in-in-Check.field-0)))
    (sym c.in-Check.is)
    (in_check (c.in_ok-object_in-in-Check.ensures.put_in s p k) (c.in_ok-type_in-in-Check.ensures.put_in s p k))
