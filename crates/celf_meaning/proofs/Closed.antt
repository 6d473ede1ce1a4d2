-- A variable that occurs in what is simply typed or formed has a simple type; so what is typed without variables is closed.
use Rattle.std.proofs.Common.{ℕ, suc, ◌≡◌, ◌+◌, Bool, true, false, ◌||◌, ◌⊎◌, inl, inr, ⊎_elim, refl, ap, subst, ◌∙◌, List, [], ◌∷◌, length, Some, arith, add-one}
use Rattle.std.specs.List.{list_any}
use Rattle.std.proofs.lemmas.Bool.{eqb-true}
use Rattle.clf_syntax.specs.declared.tree.Head.TheVariants.{Const, Var, Meta}
use Rattle.clf_syntax.specs.Tree.{PlainObject, lam, pair, unit, monadic, atomic, hole, PlainNeutral, head_alone, app, fst, snd, PlainExpression, step, done, PlainTuple, empty, entry}
use Rattle.clf_syntax.specs.TypeTree.{PlainType, family, function, both, top, monad, PlainTelescope, end, binding, PlainKind, SimpleType, arrow, simple_with, lax, SimpleTelescope, simple_end, simple_binding}
use Rattle.clf_syntax.specs.Simple.{Assignment, Allowance, Families, extended, extended_by, erase, simple_modes, SimplyTypedWith, NeutralSimplyTypedWith, ExpressionSimplyTypedWith, TupleSimplyTypedWith, EachSimplyTypedWith, SimplyFormedWith, TelescopeSimplyFormedWith, KindSimplyFormedWith}
use Rattle.clf_syntax.specs.Occurs.{occurs, occurs_neutral, occurs_expression, occurs_tuple, occurs_type, occurs_telescope, occurs_kind}

-- the variable has a simple type
abbrev pub IsTypedIn : Assignment → ℕ → Type 0
IsTypedIn k i = (u : SimpleType) × (k (Var i) ≡ Some u)

either : (a b : Bool) → a || b ≡ true → (a ≡ true) ⊎ (b ≡ true)
either true b e = inl refl
either false b e = inr e

beneath : (k : Assignment) (d : SimpleType) (i : ℕ) → IsTypedIn (extended d k) (i + 1) → IsTypedIn k i
beneath k d i h = subst (λ j. IsTypedIn (extended d k) j) (add-one i) h

beneath_all : (s : SimpleTelescope) (k : Assignment) (i : ℕ) → IsTypedIn (extended_by s k) (i + length (simple_modes s)) → IsTypedIn k i
beneath_all simple_end k i h = subst (IsTypedIn k) (none i) h
  where
    none : (i : ℕ) → i + 0 ≡ i
    none i = omega arith
beneath_all (simple_binding m t s) k i h = beneath k t i (beneath_all s (extended t k) (i + 1) (subst (IsTypedIn (extended_by s (extended t k))) (sum i (length (simple_modes s))) h))
  where
    sum : (i k : ℕ) → i + suc k ≡ i + 1 + k
    sum i k = omega arith

module _ (w : Allowance) where
  mutual
    pub object_occurs : (k : Assignment) (n : PlainObject) (t : SimpleType) → SimplyTypedWith w k n t → (i : ℕ) → occurs i n ≡ true → IsTypedIn k i
    object_occurs k (lam m b) t (d, c, e, p) i h = beneath k d i (object_occurs (extended d k) b c p (i + 1) h)
    object_occurs k (pair l r) t (c, d, e, p, q) i h = ⊎_elim (λ x. object_occurs k l c p i x) (λ y. object_occurs k r d q i y) (either (occurs i l) (occurs i r) h)
    object_occurs k unit t p i h = absurd (cc)
    object_occurs k (monadic x) t (s, e, p) i h = expression_occurs k x s p i h
    object_occurs k (atomic n) t (stands, p) i h = neutral_occurs k n t p i h
    object_occurs k hole t p i h = absurd (cc)

    neutral_occurs : (k : Assignment) (r : PlainNeutral) (t : SimpleType) → NeutralSimplyTypedWith w k r t → (i : ℕ) → occurs_neutral i r ≡ true → IsTypedIn k i
    neutral_occurs k (head_alone (Const c)) t p i h = absurd (cc)
    neutral_occurs k (head_alone (Var j)) t p i h = subst (IsTypedIn k) (eqb-true j i h) (t, p)
    neutral_occurs k (head_alone (Meta m)) t p i h = absurd (cc)
    neutral_occurs k (app m r n) t (d, p, q) i h = ⊎_elim (λ x. neutral_occurs k r (arrow m d t) p i x) (λ y. object_occurs k n d q i y) (either (occurs_neutral i r) (occurs i n) h)
    neutral_occurs k (fst r) t (d, p) i h = neutral_occurs k r (simple_with t d) p i h
    neutral_occurs k (snd r) t (c, p) i h = neutral_occurs k r (simple_with c t) p i h

    expression_occurs : (k : Assignment) (x : PlainExpression) (s : SimpleTelescope) → ExpressionSimplyTypedWith w k x s → (i : ℕ) → occurs_expression i x ≡ true → IsTypedIn k i
    expression_occurs k (step ms r x) s (u, p, m, q) i h = ⊎_elim (λ y. neutral_occurs k r (lax u) p i y)
        (λ y. beneath_all u k i (expression_occurs (extended_by u k) x s q (i + length (simple_modes u)) (ap (λ ks. occurs_expression (i + length ks) x) m ∙ y)))
        (either (occurs_neutral i r) (occurs_expression (i + length ms) x) h)
    expression_occurs k (done t) s p i h = tuple_occurs k t s p i h

    tuple_occurs : (k : Assignment) (t : PlainTuple) (s : SimpleTelescope) → TupleSimplyTypedWith w k t s → (i : ℕ) → occurs_tuple i t ≡ true → IsTypedIn k i
    tuple_occurs k empty s p i h = absurd (cc)
    tuple_occurs k (entry m n t) s (d, u, e, p, q) i h = ⊎_elim (λ x. object_occurs k n d p i x) (λ y. tuple_occurs k t u q i y) (either (occurs i n) (occurs_tuple i t) h)

  indices_occur : (k : Assignment) (ns : List PlainObject) (ts : List SimpleType) → EachSimplyTypedWith w k ns ts → (i : ℕ) → list_any (occurs i) ns ≡ true → IsTypedIn k i
  indices_occur k [] ts p i h = absurd (cc)
  indices_occur k (n ∷ ns) [] p i h = absurd p
  indices_occur k (n ∷ ns) (t ∷ ts) p i h = ⊎_elim (λ x. object_occurs k n t p.0 i x) (λ y. indices_occur k ns ts p.1 i y) (either (occurs i n) (list_any (occurs i) ns) h)

  mutual
    pub type_occurs : (f : Families) (k : Assignment) (a : PlainType) → SimplyFormedWith w f k a → (i : ℕ) → occurs_type i a ≡ true → IsTypedIn k i
    type_occurs f k (family c ns) (ts, e, p) i h = indices_occur k ns ts p i h
    type_occurs f k (function m a b) p i h = ⊎_elim (λ x. type_occurs f k a p.0 i x) (λ y. beneath k (erase a) i (type_occurs f (extended (erase a) k) b p.1 (i + 1) y)) (either (occurs_type i a) (occurs_type (i + 1) b) h)
    type_occurs f k (both a b) p i h = ⊎_elim (λ x. type_occurs f k a p.0 i x) (λ y. type_occurs f k b p.1 i y) (either (occurs_type i a) (occurs_type i b) h)
    type_occurs f k top p i h = absurd (cc)
    type_occurs f k (monad s) p i h = telescope_occurs f k s p i h

    telescope_occurs : (f : Families) (k : Assignment) (s : PlainTelescope) → TelescopeSimplyFormedWith w f k s → (i : ℕ) → occurs_telescope i s ≡ true → IsTypedIn k i
    telescope_occurs f k end p i h = absurd (cc)
    telescope_occurs f k (binding m a s) p i h = ⊎_elim (λ x. type_occurs f k a p.0 i x) (λ y. beneath k (erase a) i (telescope_occurs f (extended (erase a) k) s p.1 (i + 1) y)) (either (occurs_type i a) (occurs_telescope (i + 1) s) h)

  pub kind_occurs : (f : Families) (k : Assignment) (c : PlainKind) → KindSimplyFormedWith w f k c → (i : ℕ) → occurs_kind i c ≡ true → IsTypedIn k i
  kind_occurs f k [] p i h = absurd (cc)
  kind_occurs f k (a ∷ c) p i h = ⊎_elim (λ x. type_occurs f k a p.0 i x) (λ y. beneath k (erase a) i (kind_occurs f (extended (erase a) k) c p.1 (i + 1) y)) (either (occurs_type i a) (occurs_kind (i + 1) c) h)
