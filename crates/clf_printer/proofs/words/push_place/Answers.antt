use Rattle.std.proofs.Common.{◌∙◌, ap, sym, ◌++◌, append_assoc, nat_lt, ◌||◌, codes}
use Rattle.clf_syntax.specs.Word.{is_variable_word}
use Rattle.clf_sig.specs.Signature.{plain_signature, plain_entry}
use Rattle.clf_printer.specs.Text.{when}
use Rattle.clf_printer.proofs.Places.{place_text-named}
use Rattle.clf_printer.proofs.words.push_place.Goals as goal

pub returns : goal.returns
returns c =
    let out = c.args.out.now.items in
    let name = c.in-Some.name.now in
    let entry = c.in-Some-entry.entry.now in
    let dollar = when (nat_lt 0 entry.implicit || is_variable_word name) (codes "$") in
    let text = place_text-named (plain_signature c.args.sig.now) c.args.place name (plain_entry entry) c.in-Some.ensures c.in-Some-entry.ensures.plain in
    let pushed = c.in_ok-push_if.ensures ∙ ap (λ b. out ++ when b (codes "$")) c.has_dollar.ensures in
    c.in_ok-extend_from_slice.ensures.items ∙ ap (λ l. l ++ c.as_bytes.result.now) pushed ∙ ap (λ n. (out ++ dollar) ++ n) c.as_bytes.ensures.value
    ∙ append_assoc out dollar name ∙ ap (λ l. out ++ l) (sym text)
