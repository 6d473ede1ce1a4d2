use Rattle.std.proofs.Common.{ap, sym, subst, ◌∙◌, ◌≡◌, ◌<◌, ◌+◌, List, [], map, length, take, arith}
use Rattle.clf_syntax.specs.declared.tree.TeleEntry.{TeleEntry}
use Rattle.clf_syntax.specs.declared.tree.TeleEntry.{out-TeleEntry}
use Rattle.clf_syntax.specs.TypeTree.{family, function, both, monad, telescope_of}
use Rattle.clf_syntax.specs.Plain.{plain_obj}
use Rattle.clf_syntax.specs.PlainTypes.{plain_ty, plain_tele, plain_tele_entry, plain-Fam, plain-Fun, plain-With, plain-Monad, plain-tele, plain-Tele, plain-tele-entry}
use Rattle.metavars.specs.Becoming as becoming
use Rattle.metavars.proofs.Becomings.{each-next, telescope-entries, no-typing-entry, no-typing-entry-done, no-family, no-domain, no-codomain, no-left-type, no-right-type, no-monad}
use Rattle.metavars.proofs.Values.{refused-by}
use Rattle.metavars.proofs.types.+put_type.Goals as goal

pub put_entries-loop-entry-init : goal.put_entries-loop-entry-init
put_entries-loop-entry-init t c = subst (λ es. becoming.Each (becoming.TypingEntry c.args.looking.now.store.now) [] (map plain_tele_entry es)) (sym c.new-put.ensures) becoming.none

pub put_entries-loop-entry-preserved : goal.put_entries-loop-entry-preserved
put_entries-loop-entry-preserved t c =
    let i = c.loop-entry.entry-index in
    let xs = c.args.entries.now in
    let lt : i < length xs = omega arith in
    subst (λ es. becoming.Each (becoming.TypingEntry c.args.looking.now.store.now) (map plain_tele_entry (take (i + 1) xs)) (map plain_tele_entry es)) (sym c.in_ok-push.ensures.ok)
    (each-next plain_tele_entry (becoming.TypingEntry c.args.looking.now.store.now) xs i c.entry-item.result c.loop-entry.put c.in_ok-put_entry.field-0 c.loop-entry.invariant lt c.entry-item.is c.in_ok-put_entry.ensures)

pub put_telescope-returns : goal.put_telescope-returns
put_telescope-returns t c =
    let store = c.args.looking.now.store.now in
    let put = telescope_of (map plain_tele_entry c.in_ok-put_entries.field-0) in
    subst (λ x. becoming.TelescopeOf store (plain_tele c.args.tele.now) x) (sym (plain-Tele c.in_ok-put_entries.field-0))
    (subst (λ a. becoming.TelescopeOf store a put) (sym (plain-tele c.args.tele.now ∙ ap (λ (es : List TeleEntry). telescope_of (map plain_tele_entry es)) (sym c.as_slice.ensures))) (telescope-entries store _ _ c.in_ok-put_entries.ensures))

-- ---- refusals

pub put_entries-returns-in_err-put_entry : goal.put_entries-returns-in_err-put_entry
put_entries-returns-in_err-put_entry t c =
    let store = c.args.looking.now.store.now in
    let i = c.loop-entry.entry-index in
    let xs = c.args.entries.now in
    let lt : i < length xs = omega arith in
    refused-by _ _ _ _ _ c.from_residual.ensures.1 (λ h. no-typing-entry store xs i c.entry-item.result lt c.entry-item.is h) c.in_err-put_entry.ensures

pub put_entry-returns-in_err-put_type : goal.put_entry-returns-in_err-put_type
put_entry-returns-in_err-put_type t c =
    let store = c.args.looking.now.store.now in
    let x = out-TeleEntry c.args.entry.now in
    refused-by _ _ _ _ _ c.from_residual.ensures.1 (λ h. subst (becoming.NoTypingEntry store) (sym (plain-tele-entry c.args.entry.now)) (no-typing-entry-done store x.mode (plain_ty x.ty) h)) c.in_err-put_type.ensures

pub put_type-returns-in_err-put_indices-in-Fam : goal.put_type-returns-in_err-put_indices-in-Fam
put_type-returns-in_err-put_indices-in-Fam t c =
    let store = c.args.looking.now.store.now in
    let ns = map plain_obj c.as_slice.result.now in
    let is : plain_ty c.args.ty.now ≡ family c.in-Fam.family ns = cc (plain-Fam c.in-Fam.family c.in-Fam.indices, c.as_slice.ensures) in
    refused-by _ _ _ _ _ c.from_residual.ensures.1 (λ h. subst (becoming.NoTyping store) (sym is) (no-family store c.in-Fam.family ns h)) c.in_err-put_indices-in-Fam.ensures

pub put_type-returns-in_err-dom-in-Fun : goal.put_type-returns-in_err-dom-in-Fun
put_type-returns-in_err-dom-in-Fun t c =
    let store = c.args.looking.now.store.now in
    let a = plain_ty c.get.result.now in
    let b = plain_ty c.in-Fun.cod in
    let is : plain_ty c.args.ty.now ≡ function c.in-Fun.mode a b = cc (plain-Fun c.in-Fun.mode c.in-Fun.dom c.in-Fun.cod, c.get.ensures) in
    refused-by _ _ _ _ _ c.from_residual-in_err-dom-in-Fun.ensures.1 (λ h. subst (becoming.NoTyping store) (sym is) (no-domain store c.in-Fun.mode a b h)) c.in_err-dom-in-Fun.ensures

pub put_type-returns-in_err-cod-in-Fun : goal.put_type-returns-in_err-cod-in-Fun
put_type-returns-in_err-cod-in-Fun t c =
    let store = c.args.looking.now.store.now in
    let a = plain_ty c.in-Fun.dom in
    let b = plain_ty c.get-in-Fun.result.now in
    let is : plain_ty c.args.ty.now ≡ function c.in-Fun.mode a b = cc (plain-Fun c.in-Fun.mode c.in-Fun.dom c.in-Fun.cod, c.get-in-Fun.ensures) in
    refused-by _ _ _ _ _ c.from_residual-in_err-cod-in-Fun.ensures.1 (λ h. subst (becoming.NoTyping store) (sym is) (no-codomain store c.in-Fun.mode a b h)) c.in_err-cod-in-Fun.ensures

pub put_type-returns-in_err-left-in-With : goal.put_type-returns-in_err-left-in-With
put_type-returns-in_err-left-in-With t c =
    let store = c.args.looking.now.store.now in
    let a = plain_ty c.get-in-With.result.now in
    let b = plain_ty c.in-With.right in
    let is : plain_ty c.args.ty.now ≡ both a b = cc (plain-With c.in-With.left c.in-With.right, c.get-in-With.ensures) in
    refused-by _ _ _ _ _ c.from_residual-in_err-left-in-With.ensures.1 (λ h. subst (becoming.NoTyping store) (sym is) (no-left-type store a b h)) c.in_err-left-in-With.ensures

pub put_type-returns-in_err-right-in-With : goal.put_type-returns-in_err-right-in-With
put_type-returns-in_err-right-in-With t c =
    let store = c.args.looking.now.store.now in
    let a = plain_ty c.in-With.left in
    let b = plain_ty c.get-in-With-2.result.now in
    let is : plain_ty c.args.ty.now ≡ both a b = cc (plain-With c.in-With.left c.in-With.right, c.get-in-With-2.ensures) in
    refused-by _ _ _ _ _ c.from_residual-in_err-right-in-With.ensures.1 (λ h. subst (becoming.NoTyping store) (sym is) (no-right-type store a b h)) c.in_err-right-in-With.ensures

pub put_type-returns-in_err-put_telescope-in-Monad : goal.put_type-returns-in_err-put_telescope-in-Monad
put_type-returns-in_err-put_telescope-in-Monad t c =
    let store = c.args.looking.now.store.now in
    let u = plain_tele c.in-Monad.tele in
    let is : plain_ty c.args.ty.now ≡ monad u = cc (plain-Monad c.in-Monad.tele) in
    refused-by _ _ _ _ _ c.from_residual-in_err-put_telescope-in-Monad.ensures.1 (λ h. subst (becoming.NoTyping store) (sym is) (no-monad store u h)) c.in_err-put_telescope-in-Monad.ensures
