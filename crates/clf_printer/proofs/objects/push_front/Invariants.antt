use Rattle.std.proofs.Common.{◌≡◌, ◌≤◌, ◌++◌, length, take, map}
use Rattle.clf_syntax.specs.declared.tree.Head.{Head}
use Rattle.clf_syntax.specs.Plain.{plain_elim}
use Rattle.clf_syntax.specs.Tree.{head_alone, spine_on}
use Rattle.clf_printer.specs.Spine.{front_text}
use Rattle.clf_printer.proofs.objects.push_front.Given as goal

abbrev pub invariant-loop-end : goal.invariant-loop-end
invariant-loop-end l = record {
  in_range : l.end ≤ length l.spine;
  written : (h : Head) → l.out.items ++ front_text (spine_on (map plain_elim (take l.end l.spine)) (head_alone h)) ≡ l.fn.out.items ++ front_text (spine_on (map plain_elim l.spine) (head_alone h));
}

abbrev pub decreases-loop-end : goal.decreases-loop-end
decreases-loop-end l = l.end
