use Rattle.std.proofs.Common.{arith, ◌≡◌, ◌<◌, ◌+◌, map, length, drop, sym, ◌∙◌, ap}
use Rattle.clf_syntax.specs.PlainTypes.{plain_tele_entry}
use Rattle.clf_syntax.specs.TypeTree.{PlainTelescope, telescope_of}
use Rattle.clf_syntax.specs.Renumbered.{entries_on}
use Rattle.clf_syntax.proofs.Renumbered.{entries_on-end}
use Rattle.celf_front.specs.FrontHeads.{heads_by}
use Rattle.celf_front.specs.Replaced as spec
use Rattle.celf_front.proofs.Replacing.{entries-next, entry-pushed, entries-ended}
use Rattle.celf_front.proofs.types.+front_type.Goals as goal

pub front_entries-loop-entry-preserved : goal.front_entries-loop-entry-preserved
front_entries-loop-entry-preserved t c =
    let i = c.loop-entry.entry-index in
    let r = heads_by c.args.front.now in
    let d = c.loop-entry.inner in
    let e = c.entry-item.result in
    let xs = c.args.entries.now in
    let lt : i < length xs = omega arith in
    let next = entries-next r d i e xs lt c.entry-item.is in
    let later : PlainTelescope = telescope_of (map plain_tele_entry (drop (i + 1) xs)) in
    let rest : PlainTelescope = spec.replaced_telescope r (d + 1) later in
    let pushed = entry-pushed c.loop-entry.placed c.in_ok-front_entry.field-0 e r d rest c.in_ok-front_entry.ensures in
    let deep : d + 1 ≡ c.in_ok-inner.inner = sym c.in_ok-inner.ensures in
    let shape : spec.replaced_telescope r c.args.depth (telescope_of (map plain_tele_entry xs)) ≡ entries_on (map plain_tele_entry c.push.new.self) rest
    = rw c.in_ok-push.ensures.ok (c.loop-entry.invariant ∙ ap (entries_on (map plain_tele_entry c.loop-entry.placed)) next ∙ sym pushed) in
    shape ∙ ap (λ n. entries_on (map plain_tele_entry c.push.new.self) (spec.replaced_telescope r n later)) deep

pub front_entries-returns : goal.front_entries-returns
front_entries-returns t c =
    let r = heads_by c.args.front.now in
    let end = entries-ended r c.loop-entry.inner c.loop-entry.entry-index c.args.entries.now (omega arith) in
    sym (c.loop-entry.invariant ∙ ap (entries_on (map plain_tele_entry c.loop-entry.placed)) end ∙ entries_on-end (map plain_tele_entry c.loop-entry.placed))
