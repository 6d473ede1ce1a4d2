use Rattle.std.proofs.Common.{ap, ◌++◌, ◌∙◌, length, arith}
use Rattle.clf_syntax.specs.PlainTypes.{plain_ty}
use Rattle.clf_sig.specs.Signature.{plain_signature}
use Rattle.clf_printer.specs.declared.place.Place.TheVariants.{Whole}
use Rattle.clf_printer.specs.Text.{type_text}
use Rattle.clf_printer.proofs.Depths.{depth-type}
use Rattle.clf_printer.proofs.text.type_text.Goals as goal

-- The text lies in memory.
pub returns-clause-depth : goal.returns-clause-depth
returns-clause-depth c =
    let sig = plain_signature c.args.sig.now in
    let metas = c.as_slice.result.now in
    let level = c.from.result in
    let ty = plain_ty c.args.ty.now in
    let text = c.push_type.new.out in
    let written = ap length (c.in_ok-push_type.ensures ∙ ap (λ l. l ++ type_text sig metas level Whole ty) c.new-text.ensures.items) in
    omega (arith, c.ranges.level.fits, depth-type sig metas level Whole ty, written, text.ok.0, text.ok.1, text.small)
