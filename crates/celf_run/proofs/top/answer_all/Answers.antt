use Rattle.std.proofs.Common.{arith, subst}
use Rattle.clf_sig.specs.Signature.{plain_signature}
use Rattle.celf_run.specs.declared.turn.Turn.{Turn}
use Rattle.celf_run.specs.Allowed.{holding}
use Rattle.celf_run.specs.Turning.{Turns}
use Rattle.celf_run.proofs.Turns.{reached-onward, reached-finishes}
use Rattle.celf_run.proofs.top.answer_all.Goals as goal

pub items-preserved : goal.items-preserved
items-preserved g c =
    let onward = c.next_turn.ensures.onward c.in-Next.end c.in-Next.is in
    let old = holding (plain_signature c.items.sig) in
    let new = holding (plain_signature c.next_turn.new.sig) in
    let taken = subst (λ (t : Turn). Turns c.args.options.now c.args.bytes.now c.items.at old new (g.W.Sink.written c.items.out) (g.W.Sink.written c.next_turn.new.out) t) c.in-Next.is c.next_turn.ensures.turned in
    let faults = c.next_turn.ensures.faults in
    record {
      place = onward.1;
      formed = c.next_turn.ensures.formed;
      faults = omega arith;
      reached = reached-onward c.args.options.now c.args.bytes.now c.items.at c.in-Next.end old new _ _ _ c.items.invariant.reached taken;
    }

pub returns-in-Ended-clause-ended : goal.returns-in-Ended-clause-ended
returns-in-Ended-clause-ended g c =
    let old = holding (plain_signature c.items.sig) in
    let new = holding (plain_signature c.next_turn.new.sig) in
    let ended = subst (λ (t : Turn). Turns c.args.options.now c.args.bytes.now c.items.at old new (g.W.Sink.written c.items.out) (g.W.Sink.written c.next_turn.new.out) t) c.in-Ended.is c.next_turn.ensures.turned in
    reached-finishes c.args.options.now c.args.bytes.now c.items.at old _ _ _ c.in-Ended.status c.items.invariant.reached ended
