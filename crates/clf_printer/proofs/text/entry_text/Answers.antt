use Rattle.std.proofs.Common.{◌≡◌, ◌<◌, ◌^◌, ap, subst, ◌++◌, ◌∙◌, length, Some, arith}
use Rattle.clf_sig.specs.Signature.{plain_signature, plain_entry}
use Rattle.clf_printer.specs.Depth.{class_depth}
use Rattle.clf_printer.specs.Text.{declaration_text}
use Rattle.clf_printer.proofs.Depths.{depth-declaration}
use Rattle.clf_printer.proofs.text.entry_text.Goals as goal

-- The text lies in memory.
pub returns-clause-depth : goal.returns-clause-depth
returns-clause-depth c = λ e at.
    let sig = plain_signature c.args.sig.now in
    let metas = c.as_slice.result.now in
    let name = c.in-Some.name.now in
    let printed = plain_entry c.in-Some-entry.entry.now in
    let both : Some printed ≡ Some e = c.in-Some-entry.ensures.plain ∙ at in
    let same : printed ≡ e = cc in
    let text = c.push_declaration.new.out in
    let written = ap length (c.in_ok-push_declaration.ensures ∙ ap (λ l. l ++ declaration_text sig metas name printed) c.new-text.ensures.items) in
    subst (λ x. class_depth x.class < 2 ^ 64) same (omega (arith, depth-declaration sig metas name printed, written, text.ok.0, text.ok.1, text.small))
