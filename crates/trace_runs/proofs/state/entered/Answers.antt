use Rattle.std.proofs.Common.{◌∷◌, true, map, reverse, ap, sym, ◌∙◌, arith}
use Rattle.clf_syntax.specs.PlainTypes.{plain_tele, plain_tele_entry}
use Rattle.use_contexts.specs.Context.{Context, telescope_modes, with_entries}
use Rattle.use_contexts.specs.Holding.{Holding}
use Rattle.use_contexts.specs.Marks.{context, marks}
use Rattle.clf_kernel.proofs.Entering.{entered_context}
use Rattle.clf_kernel.proofs.Held.{held_more, held_pushed}
use Rattle.clf_kernel.proofs.Patterns.{wanted_width}
use Rattle.trace_runs.specs.Run.{PlainState}
use Rattle.trace_runs.proofs.state.entered.Goals as goal

pub loop-entry-preserved : goal.loop-entry-preserved
loop-entry-preserved c = λ ms e.
    let k = held_more ms (marks c.args.row) c.loop-entry._entry (omega (arith, e)) in
    ap reverse c.in_ok-push.ensures.ok ∙ held_pushed c.loop-entry.row.held ∙ ap (λ h. true ∷ h) (c.loop-entry.invariant k.0 k.1) ∙ sym k.2

pub returns-clause-state : goal.returns-clause-state
returns-clause-state c =
    let held = c.loop-entry.invariant (telescope_modes (plain_tele c.args.tele)) (let n = wanted_width c.args.tele in let k = c.len-count.ensures in omega (arith, n, k, c.loop-entry-test.false, c.loop-entry.auto._entry-end)) in
    let grown = ap (λ es. reverse (map plain_tele_entry es)) c.in_ok-append.ensures ∙ entered_context c.args.ctx.entries c.args.tele in
    ap (λ (g : Context). state g (marks c.loop-entry.row)) grown ∙ ap (λ (h : Holding). state (with_entries (plain_tele c.args.tele) (context c.args.ctx)) h) held
  where
    state : Context → Holding → PlainState
    state g h = record { context = g; holding = h }
