use Rattle.clf_sig.specs.Signature.{plain_signature, plain_entry}
use Rattle.clf_sig.specs.Core.{declares}
use Rattle.celf_run.proofs.Answering.{core-accepted, entry-fault, fault-told}
use Rattle.celf_run.proofs.judged.declare.Goals as goal

pub check_entry-requires : goal.check_entry-requires
check_entry-requires c = record { starts = record { signature = c.requires.formed; implicit = c.requires.added.3 } }

pub returns-in-Ok-clause-answered : goal.returns-in-Ok-clause-answered
returns-in-Ok-clause-answered c =
    core-accepted c.args.options.now (plain_signature c.args.sig.now) (plain_signature c.accept.new.sig) c.args.at c.args.name.now (plain_entry c.args.entry) c.accept.result
    c.requires.added c.in-Ok.ensures.exact c.accept.ensures.place c.accept.ensures.added

pub returns-in-Err-clause-answered : goal.returns-in-Err-clause-answered
returns-in-Err-clause-answered c =
    let sig = plain_signature c.args.sig.now in
    let e = plain_entry c.args.entry in
    (fault-told c.args.options.now sig c.args.at 0 (declares c.args.name.now e) c.in-Err.fault c.refusal_of.result (entry-fault sig c.args.name.now e c.in-Err.fault c.in-Err.ensures.exact) c.refusal_of.ensures).0

pub returns-in-Err-clause-wide : goal.returns-in-Err-clause-wide
returns-in-Err-clause-wide c =
    let sig = plain_signature c.args.sig.now in
    let e = plain_entry c.args.entry in
    (fault-told c.args.options.now sig c.args.at 0 (declares c.args.name.now e) c.in-Err.fault c.refusal_of.result (entry-fault sig c.args.name.now e c.in-Err.fault c.in-Err.ensures.exact) c.refusal_of.ensures).1
