use Rattle.std.proofs.Common.{subst, List, map}
use Rattle.clf_syntax.specs.declared.tree.Ty.{Ty}
use Rattle.clf_syntax.specs.PlainTypes.{plain_ty}
use Rattle.metavars.specs.Stored.{additions}
use Rattle.celf_solve.specs.Puts.{KindBecomes}
use Rattle.celf_solve.proofs.Puts.{kind_becomes}
use Rattle.celf_solve.proofs.put.kind_in.Goals as goal

pub returns-clause-put_in : goal.returns-clause-put_in
returns-clause-put_in c =
    let zs = additions c.args.store.now in
    subst (λ (ks : List Ty). KindBecomes zs (map plain_ty ks) (map plain_ty c.in_ok-types_in.field-0)) c.as_slice.ensures
    (kind_becomes zs c.in_ok-types_in.ensures.put_in)
