use Rattle.std.proofs.Common.{map, drop}
use Rattle.clf_syntax.specs.Plain.{plain_elim}
use Rattle.clf_syntax.specs.PlainSimple.{plain_simple}
use Rattle.clf_syntax.specs.Tree.{PlainNeutral}
use Rattle.celf_reach.specs.Scanned.{plain_found, SoFar}
use Rattle.celf_reach.proofs.Situations.{Along}
use Rattle.celf_reach.proofs.scan.+scan.Given as goal

abbrev pub invariant-scan_spine-loop-act : goal.invariant-scan_spine-loop-act
invariant-scan_spine-loop-act l = (n : PlainNeutral) → SoFar l.sought l.types n (plain_simple l.initial.walking.ty.now) (plain_found l.initial.walking.found)
    → Along l.sought l.types (map plain_elim l.spine) n (map plain_elim (drop l.act-index l.spine)) (plain_simple l.walking.ty.now) (plain_found l.walking.found)
