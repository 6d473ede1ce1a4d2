use Rattle.std.proofs.Common.{arith, ◌<◌, ◌+◌, length}
use Rattle.std.proofs.lemmas.Grind.{common_steps}
use Rattle.clf_syntax.proofs.Next.{occurs_telescope-next}
use Rattle.clf_syntax.proofs.occurs.+occurs_type.Goals as goal

pub occurs_entries-returns-then-occurs_type : goal.occurs_entries-returns-then-occurs_type
occurs_entries-returns-then-occurs_type t c v e =
    let lt : c.loop-entry.entry-index < length c.args.entries.now = omega arith in
    let at = c.loop-entry.invariant.same v e in
    let next = occurs_telescope-next at.0 c.loop-entry.entry-index c.entry-item.result c.args.entries.now lt c.entry-item.is in
    grind (arith, common_steps, next, at.2, c.occurs_type.ensures at.0 at.1)

pub occurs_entries-loop-entry-preserved : goal.occurs_entries-loop-entry-preserved
occurs_entries-loop-entry-preserved t c = record {
  within = c.under-inner.ensures.within;
  same = λ v e.
      let lt : c.loop-entry.entry-index < length c.args.entries.now = omega arith in
      let at = c.loop-entry.invariant.same v e in
      let next = occurs_telescope-next at.0 c.loop-entry.entry-index c.entry-item.result c.args.entries.now lt c.entry-item.is in
      (at.0 + 1, c.under-inner.ensures.same at.0 at.1, grind (arith, common_steps, next, at.2, c.occurs_type.ensures at.0 at.1));
}
