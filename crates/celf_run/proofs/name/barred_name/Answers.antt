use Rattle.std.proofs.Common.{◌≡◌, ◌∙◌, sym, ap, subst, length, option_copied, List, ℕ, Some}
use Rattle.clf_sig.specs.Entry.{entry_limit, place_of}
use Rattle.clf_sig.specs.Signature.{plain_signature}
use Rattle.celf_sugar.specs.Plain.{desugared_item}
use Rattle.celf_replies.specs.Reply.{duplicate}
use Rattle.celf_run.specs.Allowed.{declared_name, NameBarred, is_full}
use Rattle.celf_run.proofs.Answering.{not-placed, plain-length, nameless-passes, name-placed}
use Rattle.celf_run.proofs.name.barred_name.Goals as goal

pub returns-in_default : goal.returns-in_default
returns-in_default c = nameless-passes (plain_signature c.args.sig.now) (desugared_item c.args.plain.now) (sym c.declared_name.ensures ∙ ap option_copied c.in_default.is)

pub returns-then-is_some : goal.returns-then-is_some
returns-then-is_some c =
    let sig = plain_signature c.args.sig.now in
    let item = desugared_item c.args.plain.now in
    let name = c.in-Some.name.now in
    let declared : declared_name item.body ≡ Some name = sym c.declared_name.ensures ∙ ap option_copied c.in-Some.is in
    let place = c.find.ensures.place in
    let barred : NameBarred sig item (duplicate c.as_str.result.now) =
    subst (λ (n : List ℕ). NameBarred sig item (duplicate n)) (sym c.as_str.ensures)
    (name-placed sig item name c.find.result declared (place ∙ ap (λ (n : List ℕ). place_of n sig) c.as_str.ensures) (sym c.is_some.ensures ∙ c.if-is_some.true)) in
    subst (λ (n : List ℕ). NameBarred sig item (duplicate n)) (c.as_str.ensures ∙ sym c.in_ok-copy.ensures) barred

pub returns-then-len-eq-MAX_ENTRIES : goal.returns-then-len-eq-MAX_ENTRIES
returns-then-len-eq-MAX_ENTRIES c =
    let sig = plain_signature c.args.sig.now in
    let item = desugared_item c.args.plain.now in
    let name = c.in-Some.name.now in
    let declared : declared_name item.body ≡ Some name = sym c.declared_name.ensures ∙ ap option_copied c.in-Some.is in
    let new = not-placed sig name c.find.result (c.find.ensures.place ∙ ap (λ (n : List ℕ). place_of n sig) c.as_str.ensures) (sym c.is_some.ensures ∙ c.if-is_some.false) in
    let whole : length sig ≡ entry_limit = plain-length c.args.sig.now ∙ sym c.len.ensures.len ∙ c.if-len-eq-MAX_ENTRIES.true in
    is_full declared new whole
