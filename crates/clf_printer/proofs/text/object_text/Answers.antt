use Rattle.std.proofs.Common.{ap, ◌++◌, ◌∙◌, length, arith}
use Rattle.clf_syntax.specs.Plain.{plain_obj}
use Rattle.clf_sig.specs.Signature.{plain_signature}
use Rattle.clf_printer.specs.Text.{object_text}
use Rattle.clf_printer.proofs.Depths.{depth-object}
use Rattle.clf_printer.proofs.text.object_text.Goals as goal

-- The text lies in memory.
pub returns-clause-depth : goal.returns-clause-depth
returns-clause-depth c =
    let sig = plain_signature c.args.sig.now in
    let metas = c.as_slice.result.now in
    let level = c.from.result in
    let obj = plain_obj c.args.obj.now in
    let text = c.push_object.new.out in
    let written = ap length (c.in_ok-push_object.ensures ∙ ap (λ l. l ++ object_text sig metas level obj) c.new-text.ensures.items) in
    omega (arith, c.ranges.level.fits, depth-object sig metas level obj, written, text.ok.0, text.ok.1, text.small)
