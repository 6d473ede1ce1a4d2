-- What is mentioned has a type, and types matter only of what is mentioned.
use Rattle.std.specs.Prelude.{ℕ, zero, suc, ◌≡◌, ◌==◌, ◌||◌, Bool, true, false, Some, refl}
use Rattle.std.proofs.Common.{ap, sym, ⊎_elim, ◌∙◌, arith}
use Rattle.clf_syntax.specs.declared.tree.Head.{Head}
use Rattle.clf_syntax.specs.declared.tree.Head.TheVariants.{Const, Var, Meta}
use Rattle.clf_syntax.specs.Tree.{PlainObject, PlainNeutral, PlainExpression, PlainTuple}
use Rattle.clf_syntax.specs.TypeTree.{SimpleType, SimpleTelescope, simple_end, simple_binding}
use Rattle.clf_syntax.specs.Simple.{Assignment, extended, extended_by}
use Rattle.clf_syntax.proofs.OccursLaws.{or_first, or_second, either}
use Rattle.hered_subst.specs.TypedEnvironments.{is_metavariable}
use Rattle.hered_subst.proofs.SimpleTyping.{Typed, typed_lam, typed_pair, typed_unit, typed_monadic, typed_metavariable, typed_atomic, TypedNeutral, typed_bare, typed_app, typed_fst, typed_snd, TypedExpression, typed_step, typed_done, TypedTuple, typed_empty, typed_entry}
use Rattle.hered_subst.proofs.Total.{extended_metavariable}
use Rattle.store_laws.specs.Mentions.{mentions, mentions_neutral, mentions_expression, mentions_tuple}

same_number : (i v : ℕ) → i == v ≡ true → i ≡ v
same_number i v e = grind arith

own : (m : ℕ) → m == m ≡ true
own m = grind arith

-- A metavariable that a typed tree mentions has a type.
mutual
  pub mentioned : {w : Bool} {g : Assignment} {o : PlainObject} {t : SimpleType} → Typed w g o t → (k : ℕ) → mentions k o ≡ true → (u : SimpleType) × (g (Meta k) ≡ Some u)
  mentioned (typed_lam p) k e = mentioned p k e
  mentioned (typed_pair {l = l} {r = r} p q) k e = ⊎_elim (λ f. mentioned p k f) (λ f. mentioned q k f) (either (mentions k l) (mentions k r) e)
  mentioned typed_unit k e = absurd (cc)
  mentioned (typed_monadic p) k e = mentioned_expression p k e
  mentioned (typed_metavariable i p j) k e = mentioned_neutral p k e
  mentioned (typed_atomic p) k e = mentioned_neutral p k e

  mentioned_neutral : {w : Bool} {g : Assignment} {n : PlainNeutral} {t : SimpleType} → TypedNeutral w g n t → (k : ℕ) → mentions_neutral k n ≡ true → (u : SimpleType) × (g (Meta k) ≡ Some u)
  mentioned_neutral (typed_bare {h = Const c} f) k e = absurd (cc)
  mentioned_neutral (typed_bare {h = Var i} f) k e = absurd (cc)
  mentioned_neutral (typed_bare {g = g} {h = Meta m} {t = t} f) k e = (t, ap (λ j. g (Meta j)) (sym (same_number m k e)) ∙ f)
  mentioned_neutral (typed_app {r = r} {o = o} p q) k e = ⊎_elim (λ f. mentioned_neutral p k f) (λ f. mentioned q k f) (either (mentions_neutral k r) (mentions k o) e)
  mentioned_neutral (typed_fst p) k e = mentioned_neutral p k e
  mentioned_neutral (typed_snd p) k e = mentioned_neutral p k e

  mentioned_expression : {w : Bool} {g : Assignment} {x : PlainExpression} {ts : SimpleTelescope} → TypedExpression w g x ts → (k : ℕ) → mentions_expression k x ≡ true → (u : SimpleType) × (g (Meta k) ≡ Some u)
  mentioned_expression (typed_step {g = g} {r = r} {e = x} {ts = ts} p m q) k e = ⊎_elim (λ f. mentioned_neutral p k f) (λ f. let (u, h) = mentioned_expression q k f in (u, sym (extended_metavariable ts g k) ∙ h)) (either (mentions_neutral k r) (mentions_expression k x) e)
  mentioned_expression (typed_done p) k e = mentioned_tuple p k e

  mentioned_tuple : {w : Bool} {g : Assignment} {x : PlainTuple} {ts : SimpleTelescope} → TypedTuple w g x ts → (k : ℕ) → mentions_tuple k x ≡ true → (u : SimpleType) × (g (Meta k) ≡ Some u)
  mentioned_tuple typed_empty k e = absurd (cc)
  mentioned_tuple (typed_entry {o = o} {t = t} p q) k e = ⊎_elim (λ f. mentioned p k f) (λ f. mentioned_tuple q k f) (either (mentions k o) (mentions_tuple k t) e)

-- z has the types of g, but perhaps for metavariables
abbrev pub Ordinary : Assignment → Assignment → Type 0
Ordinary g z = (h : Head) (u : SimpleType) → is_metavariable h ≡ false → g h ≡ Some u → z h ≡ Some u

-- and of those metavariables
abbrev pub Where : (ℕ → Bool) → Assignment → Assignment → Type 0
Where f g z = (m : ℕ) (u : SimpleType) → f m ≡ true → g (Meta m) ≡ Some u → z (Meta m) ≡ Some u

ordinary_bound : (d : SimpleType) (g z : Assignment) → Ordinary g z → Ordinary (extended d g) (extended d z)
ordinary_bound d g z f (Const c) u n e = f (Const c) u n e
ordinary_bound d g z f (Var zero) u n e = e
ordinary_bound d g z f (Var (suc i)) u n e = f (Var i) u n e
ordinary_bound d g z f (Meta m) u n e = absurd (cc)

ordinary_bounds : (ts : SimpleTelescope) (g z : Assignment) → Ordinary g z → Ordinary (extended_by ts g) (extended_by ts z)
ordinary_bounds simple_end g z f = f
ordinary_bounds (simple_binding m t ts) g z f = ordinary_bounds ts (extended t g) (extended t z) (ordinary_bound t g z f)

where_first : (a b : ℕ → Bool) (g z : Assignment) → Where (λ m. a m || b m) g z → Where a g z
where_first a b g z w m u e = w m u (or_first (a m) (b m) e)

where_second : (a b : ℕ → Bool) (g z : Assignment) → Where (λ m. a m || b m) g z → Where b g z
where_second a b g z w m u e = w m u (or_second (a m) (b m) e)

where_bounds : (f : ℕ → Bool) (ts : SimpleTelescope) (g z : Assignment) → Where f g z → Where f (extended_by ts g) (extended_by ts z)
where_bounds f ts g z w m u e k = extended_metavariable ts z m ∙ w m u e (sym (extended_metavariable ts g m) ∙ k)

-- Types matter only of what is mentioned.
mutual
  pub typed_where : (z : Assignment) {w : Bool} {g : Assignment} {o : PlainObject} {t : SimpleType} → Typed w g o t → Ordinary g z → Where (λ m. mentions m o) g z → Typed w z o t
  typed_where z (typed_lam {g = g} {d = d} p) f k = typed_lam (typed_where (extended d z) p (ordinary_bound d g z f) k)
  typed_where z (typed_pair {g = g} {l = l} {r = r} p q) f k = typed_pair (typed_where z p f (where_first (λ m. mentions m l) (λ m. mentions m r) g z k)) (typed_where z q f (where_second (λ m. mentions m l) (λ m. mentions m r) g z k))
  typed_where z typed_unit f k = typed_unit
  typed_where z (typed_monadic p) f k = typed_monadic (typed_where_expression z p f k)
  typed_where z (typed_metavariable i p e) f k = typed_metavariable i (typed_where_neutral z p f k) e
  typed_where z (typed_atomic p) f k = typed_atomic (typed_where_neutral z p f k)

  typed_where_neutral : (z : Assignment) {w : Bool} {g : Assignment} {n : PlainNeutral} {t : SimpleType} → TypedNeutral w g n t → Ordinary g z → Where (λ m. mentions_neutral m n) g z → TypedNeutral w z n t
  typed_where_neutral z (typed_bare {h = Const c} {t = t} e) f k = typed_bare (f (Const c) t refl e)
  typed_where_neutral z (typed_bare {h = Var i} {t = t} e) f k = typed_bare (f (Var i) t refl e)
  typed_where_neutral z (typed_bare {h = Meta m} {t = t} e) f k = typed_bare (k m t (own m) e)
  typed_where_neutral z (typed_app {g = g} {r = r} {o = o} p q) f k = typed_app (typed_where_neutral z p f (where_first (λ m. mentions_neutral m r) (λ m. mentions m o) g z k)) (typed_where z q f (where_second (λ m. mentions_neutral m r) (λ m. mentions m o) g z k))
  typed_where_neutral z (typed_fst p) f k = typed_fst (typed_where_neutral z p f k)
  typed_where_neutral z (typed_snd p) f k = typed_snd (typed_where_neutral z p f k)

  typed_where_expression : (z : Assignment) {w : Bool} {g : Assignment} {x : PlainExpression} {ts : SimpleTelescope} → TypedExpression w g x ts → Ordinary g z → Where (λ m. mentions_expression m x) g z → TypedExpression w z x ts
  typed_where_expression z (typed_step {g = g} {r = r} {e = x} {ts = ts} p i q) f k = typed_step (typed_where_neutral z p f (where_first (λ m. mentions_neutral m r) (λ m. mentions_expression m x) g z k)) i
      (typed_where_expression (extended_by ts z) q (ordinary_bounds ts g z f) (where_bounds (λ m. mentions_expression m x) ts g z (where_second (λ m. mentions_neutral m r) (λ m. mentions_expression m x) g z k)))
  typed_where_expression z (typed_done p) f k = typed_done (typed_where_tuple z p f k)

  typed_where_tuple : (z : Assignment) {w : Bool} {g : Assignment} {x : PlainTuple} {ts : SimpleTelescope} → TypedTuple w g x ts → Ordinary g z → Where (λ m. mentions_tuple m x) g z → TypedTuple w z x ts
  typed_where_tuple z typed_empty f k = typed_empty
  typed_where_tuple z (typed_entry {g = g} {o = o} {t = t} p q) f k = typed_entry (typed_where z p f (where_first (λ m. mentions m o) (λ m. mentions_tuple m t) g z k)) (typed_where_tuple z q f (where_second (λ m. mentions m o) (λ m. mentions_tuple m t) g z k))
