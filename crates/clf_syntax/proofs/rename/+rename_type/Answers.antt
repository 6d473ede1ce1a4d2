use Rattle.std.proofs.Common.{arith, ◌≡◌, ◌<◌, ◌+◌, ◌&&◌, map, length, drop, sym, ◌∙◌, ap}
use Rattle.clf_syntax.specs.PlainTypes.{plain_tele_entry}
use Rattle.clf_syntax.specs.TypeTree.{PlainTelescope, telescope_of}
use Rattle.clf_syntax.specs.Renamings.{renumbering_by}
use Rattle.clf_syntax.specs.Written.{fits_telescope}
use Rattle.clf_syntax.specs.Renumbered as spec
use Rattle.clf_syntax.proofs.Renumbered.{entries_on-end, entries-next, entry-pushed, entries-ended}
use Rattle.clf_syntax.proofs.rename.+rename_type.Goals as goal

pub rename_entries-loop-entry-preserved : goal.rename_entries-loop-entry-preserved
rename_entries-loop-entry-preserved t c =
    let i = c.loop-entry.entry-index in
    let r = renumbering_by c.args.names.now in
    let d = c.loop-entry.inner in
    let e = c.entry-item.result in
    let xs = c.args.entries.now in
    let lt : i < length xs = omega arith in
    let at = c.loop-entry.invariant in
    let made = c.in_ok-rename_entry.ensures in
    let next = entries-next r d i e xs lt c.entry-item.is in
    let later : PlainTelescope = telescope_of (map plain_tele_entry (drop (i + 1) xs)) in
    let rest : PlainTelescope = spec.renumber_telescope r (d + 1) later in
    let pushed = entry-pushed c.loop-entry.renamed c.in_ok-rename_entry.field-0 e r d rest made.0 in
    let deep : d + 1 ≡ c.in_ok-inner.inner = sym c.in_ok-inner.ensures in
    let shape : spec.renumber_telescope r c.args.depth (telescope_of (map plain_tele_entry xs)) ≡ spec.entries_on (map plain_tele_entry c.push.new.self) rest
    = rw c.in_ok-push.ensures.ok (at.shape ∙ ap (spec.entries_on (map plain_tele_entry c.loop-entry.renamed)) next ∙ sym pushed) in
    let fits : fits_telescope (spec.renumber_telescope r c.args.depth (telescope_of (map plain_tele_entry xs))) ≡ fits_telescope rest
    = at.fits ∙ ap fits_telescope next ∙ ap (λ b. b && fits_telescope rest) made.1 in record {
      shape = shape ∙ ap (λ n. spec.entries_on (map plain_tele_entry c.push.new.self) (spec.renumber_telescope r n later)) deep;
      fits = fits ∙ ap (λ n. fits_telescope (spec.renumber_telescope r n later)) deep;
    }

pub rename_entries-returns : goal.rename_entries-returns
rename_entries-returns t c =
    let r = renumbering_by c.args.names.now in
    let at = c.loop-entry.invariant in
    let end = entries-ended r c.loop-entry.inner c.loop-entry.entry-index c.args.entries.now (omega arith) in (
      sym (at.shape ∙ ap (spec.entries_on (map plain_tele_entry c.loop-entry.renamed)) end ∙ entries_on-end (map plain_tele_entry c.loop-entry.renamed)),
      at.fits ∙ ap fits_telescope end,
    )
