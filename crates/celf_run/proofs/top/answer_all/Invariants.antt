-- The run has come to a place, with a well-formed signature, and no fault was taken back.
use Rattle.std.proofs.Common.{◌≤◌, ◌-◌, length}
use Rattle.clf_sig.specs.Signature.{plain_signature}
use Rattle.clf_rules.specs.WellFormed.{WellFormedSignature}
use Rattle.celf_run.specs.Allowed.{holding}
use Rattle.celf_run.specs.Turning.{Reached}
use Rattle.celf_run.proofs.top.answer_all.Given as goal

abbrev pub invariant-items : goal.invariant-items
invariant-items g l = record {
  place : l.at ≤ length l.bytes;
  formed : WellFormedSignature (plain_signature l.sig);
  faults : g.W.Sink.faults l.fn.out ≤ g.W.Sink.faults l.out;
  reached : Reached l.options l.bytes l.at (holding (plain_signature l.sig)) (g.W.Sink.written l.fn.out) (g.W.Sink.written l.out);
}

abbrev pub decreases-items : goal.decreases-items
decreases-items g l = length l.bytes - l.at
