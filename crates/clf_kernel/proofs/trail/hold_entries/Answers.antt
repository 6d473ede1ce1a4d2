use Rattle.std.proofs.Common.{◌∷◌, true, reverse, ap, ◌∙◌, sym, arith}
use Rattle.use_contexts.specs.Marks.{marks}
use Rattle.clf_kernel.proofs.Held.{held_more, held_pushed}
use Rattle.clf_kernel.proofs.trail.hold_entries.Goals as goal

pub loop-entry-preserved : goal.loop-entry-preserved
loop-entry-preserved c = λ ms e.
    let k = held_more ms (marks c.args.row) c.loop-entry._entry (omega (arith, e)) in
    ap reverse c.in_ok-push.ensures.ok ∙ held_pushed c.loop-entry.row.held ∙ ap (λ h. true ∷ h) (c.loop-entry.invariant k.0 k.1) ∙ sym k.2

pub returns : goal.returns
returns c = λ ms e. c.loop-entry.invariant ms (omega (arith, e, c.loop-entry-test.false, c.loop-entry.auto._entry-end))
