use Rattle.std.proofs.Common.{◌-◌, ◌++◌, ◌∙◌, sym, ap, arith, map, take, append_assoc}
use Rattle.clf_syntax.specs.Plain.{plain_elim}
use Rattle.clf_syntax.specs.Tree.{head_alone, spine_on}
use Rattle.clf_printer.specs.Text.{is_application}
use Rattle.clf_printer.specs.Spine.{front_text, projection_text}
use Rattle.clf_printer.proofs.Spines.{longer, front_text-eliminated}
use Rattle.clf_printer.proofs.objects.push_front.Goals as goal

pub loop-end-preserved : goal.loop-end-preserved
loop-end-preserved c = record {
  in_range = omega (arith, c.loop-end.invariant.in_range);
  written = λ h.
      let i = c.loop-end.end - 1 in
      let act = c.index-spine-end.result in
      let spine = c.args.spine.now in
      let out = c.loop-end.out.items in
      let before = spine_on (map plain_elim (take i spine)) (head_alone h) in
      let sign = projection_text (is_application before) (plain_elim act) in
      let more = longer spine i c.loop-end.end act h (omega (arith, c.loop-end-test.true)) (omega (arith, c.loop-end.invariant.in_range, c.loop-end-test.true)) c.index-spine-end.is in
      let front = ap front_text more ∙ front_text-eliminated (plain_elim act) before in
      let pushed = c.in_ok-push_projection.ensures ∙ ap (λ b. out ++ projection_text b (plain_elim act)) (c.is_applied.ensures h) in
      ap (λ l. l ++ front_text before) pushed ∙ append_assoc out sign (front_text before) ∙ ap (λ l. out ++ l) (sym front) ∙ c.loop-end.invariant.written h;
}
