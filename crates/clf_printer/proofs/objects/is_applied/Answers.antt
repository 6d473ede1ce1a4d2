use Rattle.std.proofs.Common.{◌-◌, ◌∙◌, sym, ap, arith, map, take}
use Rattle.clf_syntax.specs.Plain.{plain_elim}
use Rattle.clf_syntax.specs.Tree.{head_alone, spine_on}
use Rattle.clf_printer.specs.Text.{is_application}
use Rattle.clf_printer.proofs.Spines.{longer, is_application-eliminated}
use Rattle.clf_printer.proofs.objects.is_applied.Goals as goal

pub returns-then-end-gt0 : goal.returns-then-end-gt0
returns-then-end-gt0 c h =
    let i = c.args.end - 1 in
    let act = c.index-spine-end.result in
    let spine = c.args.spine.now in
    let more = longer spine i c.args.end act h (omega (arith, c.if-end-gt0.true)) (omega (arith, c.requires, c.if-end-gt0.true)) c.index-spine-end.is in
    c.is_argument.ensures ∙ sym (ap is_application more ∙ is_application-eliminated (plain_elim act) (spine_on (map plain_elim (take i spine)) (head_alone h)))
