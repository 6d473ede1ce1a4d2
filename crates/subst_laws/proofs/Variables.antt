-- The type of a neutral, and the place of a new variable.
use Rattle.clf_syntax.proofs.RenamingLaws.{ext}
use Rattle.clf_syntax.specs.Simple.{Assignment, extended}
use Rattle.clf_syntax.specs.Tree.{app, fst, head_alone, snd}
use Rattle.clf_syntax.specs.TypeTree.{SimpleType, arrow, simple_with}
use Rattle.clf_syntax.specs.declared.tree.Head.{Head}
use Rattle.clf_syntax.specs.declared.tree.Head.TheVariants.{Const, Meta, Var}
use Rattle.clf_syntax.specs.declared.tree.Mode.{Mode}
use Rattle.std.proofs.Common.{add-one, ap, arith, sym, ⊎_elim, ◌∙◌}
use Rattle.std.specs.Prelude.{refl, suc, zero, ℕ, ◌+◌, ◌-◌, ◌<◌, ◌≡◌}
use Rattle.hered_subst.proofs.Total.{the_type}
use Rattle.hered_subst.proofs.TypedEnvironments.{cut3, inserted_at, inserted_high, inserted_low}
use Rattle.hered_subst.specs.Laws.{inserted}
use Rattle.subst_laws.specs.Laws.{InsertedUnder, NeutralHasOneType}

arrow_types : {m : Mode} {a b c d : SimpleType} → arrow m a c ≡ arrow m b d → c ≡ d
arrow_types e = cc

first_types : {a b c d : SimpleType} → simple_with a c ≡ simple_with b d → a ≡ b
first_types e = cc

second_types : {a b c d : SimpleType} → simple_with a c ≡ simple_with b d → c ≡ d
second_types e = cc

pub neutral_has_one_type : NeutralHasOneType
neutral_has_one_type w g (head_alone h) t u p q = the_type (sym p ∙ q)
neutral_has_one_type w g (app m r n) t u p q = let (d, a, b) = p in let (c, e, f) = q in arrow_types (neutral_has_one_type w g r (arrow m d t) (arrow m c u) a e)
neutral_has_one_type w g (fst r) t u p q = let (d, a) = p in let (c, e) = q in first_types (neutral_has_one_type w g r (simple_with t d) (simple_with u c) a e)
neutral_has_one_type w g (snd r) t u p q = let (d, a) = p in let (c, e) = q in second_types (neutral_has_one_type w g r (simple_with d t) (simple_with c u) a e)

inserted_newest : (a : SimpleType) (z : Assignment) (h : Head) → inserted 0 a z h ≡ extended a z h
inserted_newest a z (Const c) = refl
inserted_newest a z (Meta m) = refl
inserted_newest a z (Var zero) = refl
inserted_newest a z (Var (suc i)) = ap (λ j. inserted 0 a z (Var j)) (sym (add-one i)) ∙ inserted_high 0 a z i (omega arith)

inserted_next : (a d : SimpleType) (z : Assignment) (k : ℕ) (h : Head) → inserted (k + 1) a (extended d z) h ≡ extended d (inserted k a z) h
inserted_next a d z k (Const c) = refl
inserted_next a d z k (Meta m) = refl
inserted_next a d z k (Var zero) = inserted_low (k + 1) a (extended d z) 0 (omega arith)
inserted_next a d z k (Var (suc i)) = ⊎_elim
    (λ h. inserted_low (k + 1) a (extended d z) (suc i) (omega arith) ∙ sym (inserted_low k a z i h))
    (λ x. ⊎_elim
    (λ h. ap (λ j. inserted (k + 1) a (extended d z) (Var j)) (here h) ∙ inserted_at (k + 1) a (extended d z) ∙ sym (ap (λ j. inserted k a z (Var j)) h ∙ inserted_at k a z))
    (λ h. ap (λ j. inserted (k + 1) a (extended d z) (Var j)) (above h) ∙ inserted_high (k + 1) a (extended d z) (suc (i - 1)) (omega arith) ∙ sym (ap (λ j. inserted k a z (Var j)) (before h) ∙ inserted_high k a z (i - 1) (omega arith)))
    x)
    (cut3 k i)
  where
    here : i ≡ k → suc i ≡ k + 1
    here h = omega arith

    above : k < i → suc i ≡ suc (i - 1) + 1
    above h = omega arith

    before : k < i → i ≡ i - 1 + 1
    before h = omega arith

pub inserted_under : InsertedUnder
inserted_under a d z = (ext (inserted_newest a z), (λ k. ext (inserted_next a d z k)))
