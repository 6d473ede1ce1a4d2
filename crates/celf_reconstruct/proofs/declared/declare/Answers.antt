use Rattle.std.proofs.Common.{ℕ, List, ap, sym, subst, map}
use Rattle.clf_syntax.specs.PlainTypes.{plain_ty}
use Rattle.clf_syntax.specs.declared.tree.Ty.{Ty}
use Rattle.clf_sig.specs.Core.{plain_core}
use Rattle.clf_sig.specs.Signature.{plain_class, plain_entry, plain_signature}
use Rattle.celf_sugar.specs.Plain.{desugared_item}
use Rattle.celf_reconstruct.specs.Reconstructed.{IsDeclared}
use Rattle.celf_reconstruct.specs.Steps.{AreWithin, IsCircular, IsFor}
use Rattle.celf_reconstruct.proofs.Answering.{circle_done, declared_done, declared_as, circular_as, within_as, within_done}
use Rattle.celf_reconstruct.proofs.declared.declare.Goals as goal

pub declared-requires : goal.declared-requires
declared-requires c = record {
  within = within_as c.args.found.types c.as_slice-in-Declare.result.now c.as_slice-in-Declare.ensures c.in_ok-binders.binders c.as_slice.result.now c.as_slice.ensures
      (within_done (plain_signature c.args.sig.now) (desugared_item c.args.plain.now) c.args.variables.now c.args.unnamed c.args.found c.requires.found c.in_ok-binders.binders c.in_ok-binders.ensures.binders);
}

pub returns-in-Ok : goal.returns-in-Ok
returns-in-Ok c = declared_done (plain_signature c.args.sig.now) (desugared_item c.args.plain.now) c.args.variables.now c.args.unnamed c.args.found c.requires.found
    c.in-Declare.name c.in-Declare.entry.implicit (plain_class c.in-Declare.entry.class) (ap plain_core c.in-Declare.is) c.requires.none c.in_ok-binders.binders c.in_ok-binders.ensures.binders
    (plain_entry c.in-Ok.entry)
    (declared_as (plain_signature c.args.sig.now) c.args.found.types c.as_slice-in-Declare.result.now c.as_slice-in-Declare.ensures c.in_ok-binders.binders c.as_slice.result.now c.as_slice.ensures
    c.in-Declare.entry.implicit (plain_class c.in-Declare.entry.class) (plain_entry c.in-Ok.entry) c.in-Ok.ensures.declared)

pub returns-in-Declare : goal.returns-in-Declare
returns-in-Declare c = circle_done (plain_signature c.args.sig.now) (desugared_item c.args.plain.now) c.args.variables.now c.args.unnamed c.args.found c.requires.found c.requires.none
    c.in_ok-binders.binders c.in_ok-binders.ensures.binders c.in-Err.fault
    (circular_as (plain_signature c.args.sig.now) c.args.variables.now c.args.found.types c.as_slice-in-Declare.result.now c.as_slice-in-Declare.ensures c.in_ok-binders.binders c.as_slice.result.now
    c.as_slice.ensures c.in-Err.fault c.in-Err.ensures.circle)
