-- An equation of two neutrals at a family, in memory.
use Rattle.std.specs.Prelude.{ℕ, ◌≡◌, false, List, map, Option, Some, None}
use Rattle.std.proofs.Common.{ap, sym, subst, ◌∙◌}
use Rattle.clf_syntax.specs.declared.tree.Elim.{Elim}
use Rattle.clf_syntax.specs.declared.tree.Head.{Head}
use Rattle.clf_syntax.specs.declared.tree.Neutral.{Neutral}
use Rattle.clf_syntax.specs.declared.tree.SimpleEntry.{SimpleEntry}
use Rattle.clf_syntax.specs.Tree.{atomic, head_alone, spine_on}
use Rattle.clf_syntax.specs.TypeTree.{SimpleType, base}
use Rattle.clf_syntax.specs.Plain.{plain_neutral, plain_elim, plain-neutral}
use Rattle.clf_syntax.specs.Simple.{Assignment, SimplyTyped, SimplyTypedNeutral}
use Rattle.clf_simple.proofs.Lists.{neutral_head}
use Rattle.hered_subst.specs.TypedEnvironments.{is_metavariable}
use Rattle.pattern_laws.specs.Instantiations.{closed}
use Rattle.pattern_laws.specs.Equations.{Equation, scoped}
use Rattle.unify_laws.specs.Parts.{SameShape}
use Rattle.solver_laws.specs.Reduced.{Clashes}
use Rattle.celf_constraints.specs.Equated.{plain_locals}
use Rattle.metavars.specs.Stored.{Stored}
use Rattle.celf_unify.specs.Gathered.{consts_in, metas_in}
use Rattle.celf_unify.specs.Examined.{TakenApart}
use Rattle.celf_unify.specs.Judged.{IsRigid, Matched, Pairs}
use Rattle.celf_unify.specs.Sided.{LacksMetaHead}
use Rattle.celf_unify.proofs.Insides.{rigid_head, clash_neutrals, parts_neutrals}
use Rattle.celf_unify.proofs.Together.{typed_front, shape_same_head}

module _ (s : Stored) (e : Equation) (rigid : IsRigid s e) (l r : Neutral) (is_left : e.left ≡ atomic (plain_neutral l)) (is_right : e.right ≡ atomic (plain_neutral r)) where
  pub spine_typed : SimplyTypedNeutral (scoped e.locals (closed (consts_in s) (metas_in s))) (spine_on (map plain_elim l.spine) (head_alone l.head)) e.type
  spine_typed = subst (λ n. SimplyTypedNeutral (scoped e.locals (closed (consts_in s) (metas_in s))) n e.type) (plain-neutral l) (subst (λ o. SimplyTyped (scoped e.locals (closed (consts_in s) (metas_in s))) o e.type) is_left rigid.typed.0).1

  pub no_type : scoped e.locals (closed (consts_in s) (metas_in s)) l.head ≡ None → ⊥
  no_type h = let (u, p) = typed_front (scoped e.locals (closed (consts_in s) (metas_in s))) (map plain_elim l.spine) (head_alone l.head) e.type spine_typed in none (sym p ∙ h)
    where
      none : {u : SimpleType} → Some u ≡ None → ⊥
      none e = cc

  pub left_rigid : is_metavariable l.head ≡ false
  left_rigid = ap is_metavariable (sym (neutral_head l)) ∙ rigid_head (plain_neutral l) (subst LacksMetaHead is_left rigid.left)

  pub other_heads : (l.head ≡ r.head → ⊥) → Clashes (consts_in s) (metas_in s) e
  other_heads d = clash_neutrals s e rigid (plain_neutral l) (plain_neutral r) is_left is_right (λ h. d (sym (neutral_head l) ∙ shape_same_head h ∙ neutral_head r))

  module _ (same : l.head ≡ r.head) where
    right_spine : spine_on (map plain_elim r.spine) (head_alone l.head) ≡ plain_neutral r
    right_spine = ap (λ h. spine_on (map plain_elim r.spine) (head_alone h)) same ∙ sym (plain-neutral r)

    pub unmatched : Pairs (scoped e.locals (closed (consts_in s) (metas_in s))) e.locals (spine_on (map plain_elim l.spine) (head_alone l.head)) (spine_on (map plain_elim r.spine) (head_alone l.head)) None → Clashes (consts_in s) (metas_in s) e
    unmatched d = clash_neutrals s e rigid (plain_neutral l) (plain_neutral r) is_left is_right (λ h. d (subst (λ n. SameShape n (spine_on (map plain_elim r.spine) (head_alone l.head))) (plain-neutral l) (subst (SameShape (plain_neutral l)) (sym right_spine) h)))

    pub paired : (ds : List Equation) → ((n : ℕ) × (e.type ≡ base n)) → Pairs (scoped e.locals (closed (consts_in s) (metas_in s))) e.locals (spine_on (map plain_elim l.spine) (head_alone l.head)) (spine_on (map plain_elim r.spine) (head_alone l.head)) (Some ds)
        → TakenApart (consts_in s) (metas_in s) e ds
    paired ds (n, i) (t, m) = parts_neutrals s e rigid (plain_neutral l) (plain_neutral r) is_left is_right n t ds i
        (subst (λ x. Matched (scoped e.locals (closed (consts_in s) (metas_in s))) e.locals x (plain_neutral r) t ds) (sym (plain-neutral l)) (subst (λ x. Matched (scoped e.locals (closed (consts_in s) (metas_in s))) e.locals (spine_on (map plain_elim l.spine) (head_alone l.head)) x t ds) right_spine m))

-- the same lists, read from memory
pub pairs_there : (g : Assignment) (locals given : List SimpleEntry) (xs ys ls rs : List Elim) (h : Head) (o : Option (List Equation)) → locals ≡ given → xs ≡ ls → ys ≡ rs
    → Pairs g (plain_locals locals) (spine_on (map plain_elim xs) (head_alone h)) (spine_on (map plain_elim ys) (head_alone h)) o → Pairs g (plain_locals given) (spine_on (map plain_elim ls) (head_alone h)) (spine_on (map plain_elim rs) (head_alone h)) o
pairs_there g locals given xs ys ls rs h o e f i p = subst (λ l. Pairs g (plain_locals l) (spine_on (map plain_elim ls) (head_alone h)) (spine_on (map plain_elim rs) (head_alone h)) o) e
    (subst (λ l. Pairs g (plain_locals locals) (spine_on (map plain_elim l) (head_alone h)) (spine_on (map plain_elim rs) (head_alone h)) o) f (subst (λ l. Pairs g (plain_locals locals) (spine_on (map plain_elim xs) (head_alone h)) (spine_on (map plain_elim l) (head_alone h)) o) i p))
