use Rattle.std.proofs.Common.{◌≡◌, ◌+◌, ◌<◌, ◌≤◌, length, map, drop, arith, refl, sym, ap, ◌∙◌}
use Rattle.std.proofs.lemmas.List.{at_drop_all}
use Rattle.std.proofs.lemmas.Result.{on_ok_weaker}
use Rattle.clf_syntax.specs.Plain.{plain_obj}
use Rattle.clf_syntax.specs.PlainTypes.{plain_ty, plain_tele_entry, plain-Fam, plain-Fun, plain-With, plain-Top, plain-Monad, plain-tele}
use Rattle.clf_syntax.specs.TypeTree.{family, function, both, top, monad, telescope_of}
use Rattle.clf_printer.specs.Metas.{appearing_type, appearing_telescope}
use Rattle.clf_printer.proofs.Next.{appearing_telescope-next}
use Rattle.clf_printer.proofs.metas.+note_type.Goals as goal

pub note_telescope-loop-entry-preserved : goal.note_telescope-loop-entry-preserved
note_telescope-loop-entry-preserved t c =
    let i = c.loop-entry.entry-index in
    let entries = c.args.entries.now in
    let lt : i < length entries = omega arith in
    ap (λ m. appearing_telescope m (telescope_of (map plain_tele_entry (drop (i + 1) entries)))) c.in_ok-note_type.ensures
    ∙ sym (appearing_telescope-next c.loop-entry.metas.items i c.entry-item.result entries lt c.entry-item.is)
    ∙ c.loop-entry.invariant

pub note_telescope-returns : goal.note_telescope-returns
note_telescope-returns t c =
    let i = c.loop-entry.entry-index in
    let entries = c.args.entries.now in
    let ended : length entries ≤ i = omega arith in
    sym (at_drop_all (λ es. appearing_telescope c.loop-entry.metas.items (telescope_of (map plain_tele_entry es))) entries i ended) ∙ c.loop-entry.invariant

pub note_type-returns-in-Top : goal.note_type-returns-in-Top
note_type-returns-in-Top t c =
    let is = c.in-Top.is in
    let law = plain-Top in
    let plain : plain_ty c.args.ty.now ≡ top = cc in
    rw plain refl

pub note_type-returns-in-Fam : goal.note_type-returns-in-Fam
note_type-returns-in-Fam t c =
    let indices = c.as_slice.result.now in
    let is = c.in-Fam.is in
    let got = c.as_slice.ensures in
    let law = plain-Fam c.in-Fam.family indices in
    let plain : plain_ty c.args.ty.now ≡ family c.in-Fam.family (map plain_obj indices) = cc in
    rw plain c.note_indices.ensures

pub note_type-returns-in-Monad : goal.note_type-returns-in-Monad
note_type-returns-in-Monad t c =
    let tele = c.in-Monad.tele in
    let entries = c.as_slice-in-Monad.result.now in
    let is = c.in-Monad.is in
    let got = c.as_slice-in-Monad.ensures in
    let law = plain-Monad tele in
    let law_tele = plain-tele tele in
    let plain : plain_ty c.args.ty.now ≡ monad (telescope_of (map plain_tele_entry entries)) = cc in
    rw plain c.note_telescope.ensures

pub note_type-returns-in_ok-note_type-in-Fun : goal.note_type-returns-in_ok-note_type-in-Fun
note_type-returns-in_ok-note_type-in-Fun t c =
    let dom = c.get.result.now in
    let cod = c.get-in-Fun.result.now in
    let is = c.in-Fun.is in
    let got_left = c.get.ensures in
    let got_right = c.get-in-Fun.ensures in
    let law = plain-Fun c.in-Fun.mode dom cod in
    let plain : plain_ty c.args.ty.now ≡ function c.in-Fun.mode (plain_ty dom) (plain_ty cod) = cc in
    rw plain (on_ok_weaker c.note_type-in-Fun.result (λ e. e ∙ ap (λ m. appearing_type m (plain_ty cod)) c.in_ok-note_type-in-Fun.ensures) c.note_type-in-Fun.ensures)

pub note_type-returns-in_ok-note_type-in-With : goal.note_type-returns-in_ok-note_type-in-With
note_type-returns-in_ok-note_type-in-With t c =
    let left = c.get-in-With.result.now in
    let right = c.get-in-With-2.result.now in
    let is = c.in-With.is in
    let got_left = c.get-in-With.ensures in
    let got_right = c.get-in-With-2.ensures in
    let law = plain-With left right in
    let plain : plain_ty c.args.ty.now ≡ both (plain_ty left) (plain_ty right) = cc in
    rw plain (on_ok_weaker c.note_type-in-With-2.result (λ e. e ∙ ap (λ m. appearing_type m (plain_ty right)) c.in_ok-note_type-in-With.ensures) c.note_type-in-With-2.ensures)
