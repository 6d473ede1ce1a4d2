use Rattle.std.proofs.Common.{sym, subst, ⊎_elim}
use Rattle.clf_syntax.specs.TypeTree.{PlainType, monad}
use Rattle.clf_syntax.specs.declared.tree.Ty.{Ty}
use Rattle.clf_syntax.specs.PlainTypes.{plain_ty, plain_tele, plain-Monad}
use Rattle.metavars.specs.Stored.{additions}
use Rattle.celf_solve.specs.Puts.{IsFormedIn, TypeBecomes}
use Rattle.celf_solve.proofs.Puts.{telescope_becomes, stays_monad, no_family, no_function, no_pair, no_top}
use Rattle.celf_solve.proofs.put.telescope_in.Goals as goal

pub type_in-requires : goal.type_in-requires
type_in-requires c = record { formed = subst (λ (a : PlainType). IsFormedIn (additions c.args.store.now) a) (sym (plain-Monad c.args.tele)) c.requires.formed }

pub unreachable-requires : goal.unreachable-requires
unreachable-requires c =
    let zs = additions c.args.store.now in
    let x = c.in_ok-tele.field-0 in
    let t = plain_tele c.args.tele in
    let (u, e) = stays_monad zs c.requires.solved t (plain_ty x)
    (subst (λ (a : PlainType). TypeBecomes zs a (plain_ty x)) (plain-Monad c.args.tele) c.in_ok-tele.ensures.put_in) in
    ⊎_elim (λ h. no_family x u e h.0 h.1 h.2)
    (λ r. ⊎_elim (λ h. no_function x u e h.0 h.1 h.2 h.3) (λ q. ⊎_elim (λ h. no_pair x u e h.0 h.1 h.2) (λ h. no_top x u e h) q) r) c.in-Fam.is

pub returns-clause-put_in : goal.returns-clause-put_in
returns-clause-put_in c =
    let zs = additions c.args.store.now in
    let there = c.in-Monad.tele in
    let t = plain_tele c.args.tele in
    telescope_becomes zs t (plain_tele there)
    (subst (λ (a : PlainType). TypeBecomes zs (monad t) a) (plain-Monad there)
    (subst (λ (x : Ty). TypeBecomes zs (monad t) (plain_ty x)) c.in-Monad.is
    (subst (λ (a : PlainType). TypeBecomes zs a (plain_ty c.in_ok-tele.field-0)) (plain-Monad c.args.tele) c.in_ok-tele.ensures.put_in)))
