use Rattle.std.proofs.Common.{◌≡◌, ◌∙◌, map, ap, sym, subst}
use Rattle.clf_syntax.specs.TypeTree.{family}
use Rattle.clf_syntax.specs.Plain.{plain_obj}
use Rattle.clf_syntax.specs.PlainTypes.{plain_ty, plain-Fam}
use Rattle.clf_decision.specs.Checking.{found_left, indices_left, first_unjoined}
use Rattle.clf_kernel.specs.Answers.{plain_left}
use Rattle.clf_kernel.specs.Stops.{Gives}
use Rattle.clf_kernel.proofs.Differences.{own_family}
use Rattle.clf_kernel.specs.Judge.{context_of}
use Rattle.clf_kernel.proofs.judge.Judge.check_family.Goals as goal

pub returns-else-family-wanted-clause-outcome : goal.returns-else-family-wanted-clause-outcome
returns-else-family-wanted-clause-outcome c =
    let g = context_of c.args.self.now in
    let ns = map plain_obj c.args.indices.now in
    let a = plain_left c.args.found.left in
    let t : plain_ty c.args.found.ty ≡ family c.args.wanted (map plain_obj c.in-Fam.found) =
    ap plain_ty c.in-Fam.is ∙ plain-Fam c.in-Fam.family c.in-Fam.found ∙ ap (λ f. family f (map plain_obj c.in-Fam.found)) c.if-family-wanted.false in
    subst (λ o. Gives plain_left o c.check_indices.result) (sym (ap (λ u. found_left g c.args.wanted ns u a) t ∙ own_family g c.args.wanted ns (map plain_obj c.in-Fam.found) a))
    (subst (λ os. Gives plain_left (indices_left g (first_unjoined (map plain_obj os) ns) a) c.check_indices.result) c.as_slice.ensures c.check_indices.ensures.outcome)
