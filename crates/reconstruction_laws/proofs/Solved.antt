-- Where unification leaves nothing, its solutions are all put in.
use Rattle.std.specs.Prelude.{ℕ, ◌+◌, ◌≡◌, ◌<◌, true, false, List, [], length, Option, Some, None, refl}
use Rattle.std.proofs.Common.{arith, subst, sym, ⊎_elim, ◌∙◌}
use Rattle.clf_syntax.specs.declared.tree.Head.{Head}
use Rattle.clf_syntax.specs.declared.tree.Head.TheVariants.{Const, Meta, Var}
use Rattle.clf_syntax.specs.Tree.{PlainObject}
use Rattle.clf_syntax.specs.TypeTree.{PlainType, SimpleType}
use Rattle.clf_syntax.specs.Simple.{Assignment, SimplyTyped}
use Rattle.hered_subst.specs.TypedEnvironments.{is_metavariable}
use Rattle.hered_subst.proofs.SimpleTyping.{of_typed, to_typed}
use Rattle.subst_laws.specs.Environments.{Instantiation}
use Rattle.store_laws.specs.Mentions.{mentions}
use Rattle.store_laws.proofs.Mentioned.{typed_where}
use Rattle.pattern_laws.specs.Instantiations.{Instantiates, Types, closed, over}
use Rattle.clf_sig.specs.Entry.{PlainSignature}
use Rattle.unify_laws.specs.Problems.{Grows}
use Rattle.reach_laws.specs.Unified.{IsPutIn}
use Rattle.elaboration_laws.specs.ItemSetting.{item_constants}
use Rattle.celf_elaboration.specs.Directives.{no_parameters}
use Rattle.reconstruction_laws.specs.Fronts.{NothingLeft, binder_constants}
use Rattle.reconstruction_laws.specs.Laws.{SolvedIsAllPutIn}
use Rattle.reconstruction_laws.proofs.Fronted.{get_below, given_bound}

no_type : {u : SimpleType} → None ≡ Some u → ⊥
no_type e = cc

module _ (sig : PlainSignature) (xs : List PlainType) (metas after : Types) (given s : Instantiation) (grows : Grows metas after) (put_in : IsPutIn (item_constants sig xs) after given s)
    (nothing : NothingLeft metas after given s) where
  abbrev g : Assignment
  g = closed (item_constants sig xs) after

  abbrev c : Assignment
  c = over (binder_constants sig xs []) no_parameters

  -- no metavariable with a type is mentioned
  silent : (m : ℕ) (a : SimpleType) (o : PlainObject) → metas m ≡ Some a → s m ≡ Some o → (k : ℕ) (u : SimpleType) → after k ≡ Some u → mentions k o ≡ false
  silent m a o i j k u p = at (given k) refl
    where
      the_object : {x y : PlainObject} → Some x ≡ Some y → x ≡ y
      the_object e = cc

      at : (x : Option PlainObject) → given k ≡ x → mentions k o ≡ false
      at None e = let (x, q, f) = nothing m a i in subst (λ (v : PlainObject). mentions k v ≡ false) (the_object (sym q ∙ j)) (f k u p e)
      at (Some x) e = put_in.put_in.finished m o j k x e

  typed : (m : ℕ) (a : SimpleType) (o : PlainObject) → metas m ≡ Some a → s m ≡ Some o → SimplyTyped g o a → SimplyTyped c o a
  typed m a o i j p = of_typed (typed_where c (to_typed true g o a p) ordinary (λ k u e q. absurd (never (sym (silent m a o i j k u q) ∙ e))))
    where
      never : false ≡ true → ⊥
      never e = cc

      ordinary : (h : Head) (u : SimpleType) → is_metavariable h ≡ false → g h ≡ Some u → c h ≡ Some u
      ordinary (Const k) u n e = given_bound sig xs [] k u e
      ordinary (Var i) u n e = absurd (no_type e)
      ordinary (Meta k) u n e = absurd (cc)

  pub instantiates : Instantiates (binder_constants sig xs []) metas no_parameters s
  instantiates m a i = let (o, j, f) = nothing m a i in
      ⊎_elim (λ p. absurd (unsolved (sym p.0 ∙ j))) (λ p. (p.0, p.1, typed m a p.0 i p.1 p.2)) (put_in.assigns.2 m a (grows m a i))
    where
      unsolved : {x : PlainObject} → None ≡ Some x → ⊥
      unsolved e = cc

pub solved_is_all_put_in : SolvedIsAllPutIn
solved_is_all_put_in sig xs metas after given s grows put_in nothing types become = record {
  instantiates = instantiates sig xs metas after given s grows put_in nothing;
  implicit = become.becomes;
  others = λ j b e. absurd (past (length xs) j (length types) become.count (get_below types (length xs + j) b e));
  count = become.count ∙ none (length xs);
}
  where
    past : (n j k : ℕ) → k ≡ n → n + j < k → ⊥
    past n j k e h = omega (arith, e, h)

    none : (n : ℕ) → n ≡ n + 0
    none n = omega arith
