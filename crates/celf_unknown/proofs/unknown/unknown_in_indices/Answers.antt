use Rattle.std.proofs.Common.{arith}
use Rattle.std.specs.Prelude.{option_copied}
use Rattle.std.proofs.lemmas.List.{take_all}
use Rattle.clf_sig.specs.Signature.{plain_signature}
use Rattle.celf_sugar.specs.Plain.{desugared_object}
use Rattle.celf_unknown.specs.Unknown.{unknown_in_object}
use Rattle.celf_unknown.proofs.UnknownLaws.{goes_on}
use Rattle.celf_unknown.proofs.unknown.unknown_in_indices.Goals as goal

pub loop-index-preserved : goal.loop-index-preserved
loop-index-preserved c =
    goes_on desugared_object (unknown_in_object (plain_signature c.args.sig.now)) c.args.scope.now c.loop-index.scope c.unknown_in_object.new.scope c.args.indices.now c.loop-index.index-index c.index-item.result
    (option_copied c.loop-index.found) (option_copied c.in_ok-unknown_in_object.field-0) (option_copied c.sooner-found.result) (omega arith) c.index-item.is
    c.loop-index.invariant c.in_ok-unknown_in_object.ensures.first c.in_ok-unknown_in_object.ensures.kept c.sooner-found.ensures

pub returns-clause-first : goal.returns-clause-first
returns-clause-first c = rw (take_all c.loop-index.index-index c.args.indices.now c.loop-index-test.false) at c.loop-index.invariant.0
