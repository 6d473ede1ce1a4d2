use Rattle.std.proofs.Common.{ap, [], ◌++◌, ◌∙◌, length, arith}
use Rattle.clf_sig.specs.Signature.{plain_signature, plain_entry}
use Rattle.clf_printer.specs.Text.{declaration_text}
use Rattle.clf_printer.proofs.Depths.{depth-declaration}
use Rattle.clf_printer.proofs.text.declaration_text.Goals as goal

-- The text lies in memory.
pub returns-clause-depth : goal.returns-clause-depth
returns-clause-depth c =
    let sig = plain_signature c.args.sig.now in
    let name = c.args.name.now in
    let e = plain_entry c.args.entry.now in
    let text = c.push_declaration.new.out in
    let written = ap length (c.in_ok-push_declaration.ensures ∙ ap (λ l. l ++ declaration_text sig [] name e) c.new-text.ensures.items) in
    omega (arith, depth-declaration sig [] name e, written, text.ok.0, text.ok.1, text.small)
