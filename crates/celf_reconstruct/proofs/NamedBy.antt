-- Metavariables that are solved by constants.
use Rattle.std.proofs.Common.{ℕ, zero, suc, ◌+◌, ◌-◌, ◌≡◌, ◌<◌, ◌≤◌, ◌++◌, ◌==◌, Bool, true, false, refl, sym, ap, subst, ◌∙◌, inl, inr, ◌⊎◌, ⊎_elim, Option, Some, None, List, [], ◌∷◌, length, map, arith, slice_get}
use Rattle.std.specs.List.{position, slice_index_or}
use Rattle.std.proofs.lemmas.List.Quantifiers.{position-Some}
use Rattle.clf_syntax.specs.declared.tree.Head.{Head}
use Rattle.clf_syntax.specs.declared.tree.Head.TheVariants.{Const, Var, Meta}
use Rattle.clf_syntax.specs.Tree.{PlainObject, head_alone}
use Rattle.clf_syntax.specs.TypeTree.{PlainType, SimpleType}
use Rattle.clf_syntax.specs.Simple.{erase, Assignment, Families, SimplyTyped}
use Rattle.hered_subst.specs.Substitution.{Substituted, keep}
use Rattle.hered_subst.proofs.SimpleTyping.{to_typed}
use Rattle.subst_laws.specs.Environments.{Instantiation, instant, TypedInstantiation}
use Rattle.subst_laws.proofs.Results.{unmoved}
use Rattle.eta_laws.specs.Eta.{expansion}
use Rattle.eta_laws.proofs.Expansions.{expansion_laws}
use Rattle.store_laws.specs.Additions.{Addition, meta_types, given}
use Rattle.store_laws.specs.Mentions.{mentions}
use Rattle.store_laws.specs.PutIn.{PutIn, IsClosed}
use Rattle.store_laws.proofs.Closing.{Gives, gives_typed}
use Rattle.store_laws.proofs.Mentioned.{mentioned}
use Rattle.solver_laws.proofs.Allowed.{gives_closed}
use Rattle.pattern_laws.specs.Instantiations.{Types, closed}
use Rattle.metavars.specs.Typed.{TypesStore, without_variables}
use Rattle.celf_reconstruct.specs.Left.{naming, named_at}

module _ (first : ℕ) (metas : Types) (left : List ℕ) where
  abbrev n : Instantiation
  n = naming first metas left

  -- what a metavariable is named by
  pub record IsNamedBy (m : ℕ) (o : PlainObject) : Type 0 where
    pub simple : SimpleType
    pub place : ℕ
    pub known : metas m ≡ Some simple
    pub at : position (λ k. k == m) left ≡ Some place
    pub form : o ≡ expansion simple (head_alone (Const (first + place)))

  pub named-by : (m : ℕ) (o : PlainObject) → n m ≡ Some o → IsNamedBy m o
  named-by m o e = by (metas m) (position (λ k. k == m) left) refl refl e
    where
      by : (t : Option SimpleType) (i : Option ℕ) → metas m ≡ t → position (λ k. k == m) left ≡ i → named_at first t i ≡ Some o → IsNamedBy m o
      by None i h k f = absurd (cc)
      by (Some t) None h k f = absurd (cc)
      by (Some t) (Some i) h k f = record { simple = t; place = i; known = h; at = k; form = sym (inside f) }
        where
          inside : Some (expansion t (head_alone (Const (first + i)))) ≡ Some o → expansion t (head_alone (Const (first + i))) ≡ o
          inside f = cc

  -- Where the constants have the simple types of what they name:
  module _ (constants : Types) (typed : (m i : ℕ) (t : SimpleType) → metas m ≡ Some t → position (λ k. k == m) left ≡ Some i → constants (first + i) ≡ Some t) where
    abbrev g : Assignment
    g = closed constants metas

    abbrev alone : Assignment
    alone = closed constants (λ m. None)

    object_typed : (z : Assignment) → ((c : ℕ) → z (Const c) ≡ constants c) → (m : ℕ) (o : PlainObject) (h : IsNamedBy m o) → SimplyTyped z o h.simple
    object_typed z same m o h = subst (λ (x : PlainObject). SimplyTyped z x h.simple) (sym h.form)
        (expansion_laws.typed z (head_alone (Const (first + h.place))) h.simple (same (first + h.place) ∙ typed m h.place h.simple h.known h.at))

    stays : (m : ℕ) (o : PlainObject) → n m ≡ Some o → Substituted (instant n) o o
    stays m o e = let h = named-by m o e in (unmoved (λ f. None) alone (instant n) kept).object o h.simple (object_typed alone (λ c. refl) m o h)
      where
        kept : (h : Head) (t : SimpleType) → alone h ≡ Some t → instant n h ≡ keep h
        kept (Const c) t e = refl
        kept (Var i) t e = refl
        kept (Meta m) t e = absurd (cc)

    mentions_none : (m : ℕ) (o : PlainObject) → n m ≡ Some o → (k : ℕ) → mentions k o ≡ false
    mentions_none m o e k = let h = named-by m o e in by (mentions k o) refl (λ q. no_meta (mentioned (to_typed true alone o h.simple (object_typed alone (λ c. refl) m o h)) k q))
      where
        no_meta : (u : SimpleType) × (alone (Meta k) ≡ Some u) → ⊥
        no_meta (u, q) = cc

        by : (b : Bool) → mentions k o ≡ b → (mentions k o ≡ true → ⊥) → mentions k o ≡ false
        by true q r = absurd (r q)
        by false q r = q

    pub put_in : PutIn n n
    put_in = record {
      unsolved = λ m e. e;
      solved = λ m o e. (o, e, stays m o e);
      finished = λ m x e k o f. mentions_none m x e k;
    }

    gives : Gives g n
    gives m o e = let h = named-by m o e in (h.simple, h.known, object_typed g (λ c. refl) m o h)

    pub is_typed : TypedInstantiation g g n
    is_typed = gives_typed g n gives

    pub is_closed : IsClosed n
    is_closed = gives_closed constants metas n gives

    -- A store in which these are the solutions is typed.
    pub types-store : (zs : List Addition) → ((m : ℕ) → slice_get (meta_types zs) m ≡ metas m) → ((m : ℕ) → given zs m ≡ n m) → TypesStore g zs
    types-store zs same solutions = record {
      metavariables = λ m t e. sym (same m) ∙ e;
      solutions = λ m o e. let h = named-by m o (sym (solutions m) ∙ e) in (h.simple, same m ∙ h.known, object_typed (without_variables g) (λ c. refl) m o h);
    }

-- The place among those that become constants is that of the simple type.
pub simple-at : (metas : Types) (left : List ℕ) (simples : List SimpleType) → map metas left ≡ map Some simples → (m i : ℕ) (t : SimpleType)
    → metas m ≡ Some t → position (λ k. k == m) left ≡ Some i → slice_get simples i ≡ Some t
simple-at metas left simples e m i t h p =
    let there = position-Some (λ k. k == m) left i 0 p in
    by left simples e i there.0 there.1
  where
    same_number : (k j : ℕ) → k == j ≡ true → k ≡ j
    same_number k j q = grind arith

    first_of : {x y : Option SimpleType} {xs ys : List (Option SimpleType)} → x ∷ xs ≡ y ∷ ys → (x ≡ y) × (xs ≡ ys)
    first_of q = (cc, cc)

    by : (ks : List ℕ) (ts : List SimpleType) → map metas ks ≡ map Some ts → (j : ℕ) → j < length ks → slice_index_or ks j 0 == m ≡ true → slice_get ts j ≡ Some t
    by [] ts q j l s = absurd (omega arith)
    by (k ∷ ks) [] q j l s = absurd (cc)
    by (k ∷ ks) (u ∷ ts) q zero l s = sym (first_of q).0 ∙ ap metas (same_number k m s) ∙ h
    by (k ∷ ks) (u ∷ ts) q (suc j) l s = by ks ts (first_of q).1 j (omega arith) s
