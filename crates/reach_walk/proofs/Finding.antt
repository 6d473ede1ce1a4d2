-- What is found in an object, from what is found in its parts.
use Rattle.std.specs.Prelude.{ℕ, Bool, true, false, ◌+◌, ◌≡◌, ◌↔◌, ◌||◌, ◌&&◌, not, List, ◌∷◌, ◌++◌, length, Option, Some, None, refl}
use Rattle.std.proofs.Common.{ap, sym, subst, arith, inl, inr, ⊎_elim}
use Rattle.clf_syntax.specs.declared.tree.Mode.{Mode}
use Rattle.clf_syntax.specs.declared.tree.Head.TheVariants.{Const, Var}
use Rattle.clf_syntax.specs.Tree.{PlainObject, lam, pair, unit, monadic, atomic, PlainNeutral, head_alone, app, fst, snd, PlainExpression, head_of}
use Rattle.clf_syntax.specs.TypeTree.{SimpleType, arrow, simple_with}
use Rattle.clf_syntax.specs.Simple.{Assignment, SimplyTypedNeutral, no_holes}
use Rattle.clf_syntax.specs.Occurs.{occurs, occurs_neutral}
use Rattle.clf_syntax.proofs.OccursLaws.{or_first, or_second, either, not_both, not_true}
use Rattle.hered_subst.specs.TypedEnvironments.{is_metavariable}
use Rattle.store_laws.specs.Mentions.{mentions, mentions_neutral}
use Rattle.subst_laws.proofs.Variables.{neutral_has_one_type}
use Rattle.pattern_laws.specs.Equations.{scoped, Locals}
use Rattle.pattern_laws.specs.Patterns.{Place, OnDistinct, Foreign, NoForeign}
use Rattle.reach_laws.specs.Reach.{Prunable}
use Rattle.reach_walk.specs.Somewhere.{Somewhere, IsItself, Clashing}
use Rattle.reach_walk.specs.Answers.{IsTaken}
use Rattle.reach_walk.specs.Walked.{Found, nothing, first_of, both, IsPruned, IsPrunedBelow, Walked, WalkedBelow}
use Rattle.reach_walk.proofs.Standings.{into_body, from_body, into_left, into_right, from_pair, not_in_unit, not_in_monadic, here, below, from_atomic, not_in_bare, into_function, into_argument, from_app, into_fst, from_fst, into_snd, from_snd}

and_first : (a b : Bool) → a && b ≡ true → a ≡ true
and_first true b e = refl
and_first false b e = absurd (cc)

and_second : (a b : Bool) → a && b ≡ true → b ≡ true
and_second true b e = e
and_second false b e = absurd (cc)

and_true : (a b : Bool) → a ≡ true → b ≡ true → a && b ≡ true
and_true a b e f = rw (e, f) refl

neither : {a b : Bool} → a ≡ false → b ≡ false → a || b ≡ false
neither {a} {b} e f = rw (e, f) refl

first_not : (a b : Bool) → a || b ≡ false → a ≡ false
first_not true b e = absurd (cc)
first_not false b e = refl

second_not : (a b : Bool) → a || b ≡ false → b ≡ false
second_not true b e = absurd (cc)
second_not false b e = e

from_type : {m k : Mode} {d c e f : SimpleType} → arrow m d c ≡ arrow k e f → e ≡ d
from_type h = cc

to_type : {m k : Mode} {d c e f : SimpleType} → arrow m d c ≡ arrow k e f → f ≡ c
to_type h = cc

first_type : {a b c d : SimpleType} → simple_with a b ≡ simple_with c d → c ≡ a
first_type h = cc

second_type : {a b c d : SimpleType} → simple_with a b ≡ simple_with c d → d ≡ b
second_type h = cc

pub foreign_under : (n : ℕ) (ps : List Place) (d w : ℕ) → Foreign n ps d w → Foreign n ps (d + 1) (w + 1)
foreign_under n ps d w f = (f.0, up f.0 f.1, f.2, f.3)
  where
    up : (v : ℕ) → w ≡ v + d → w + 1 ≡ v + (d + 1)
    up v e = omega arith

one_longer : (ds : Locals) (d : Mode × SimpleType) → length ds + 1 ≡ length (d ∷ ds)
one_longer ds d = omega arith

module _ (g : Assignment) (ls : Locals) (m : ℕ) (ps : List Place) where
  -- ---- lambdas

  pruned_body : (ds : Locals) (k : Mode) (d c : SimpleType) (b : PlainObject) (o : Option (ℕ × List Bool)) → IsPruned g ls ps ((k, d) ∷ ds) b c o → IsPruned g ls ps ds (lam k b) (arrow k d c) o
  pruned_body ds k d c b None h = λ w e f. h (w + 1) e (subst (λ i. Foreign (length ls) ps i (w + 1)) (one_longer ds (k, d)) (foreign_under (length ls) ps (length ds) w f))
  pruned_body ds k d c b (Some p) h = into_body (IsTaken g ls ps p.0 p.1) g ls ds k d c b h

  pub walked_lam : (ds : Locals) (k : Mode) (d c : SimpleType) (b : PlainObject) (f : Found) → Walked g ls m ps ((k, d) ∷ ds) b c f → Walked g ls m ps ds (lam k b) (arrow k d c) f
  walked_lam ds k d c b f h = record {
    clash = (λ e. into_body (Clashing g ls m ps) g ls ds k d c b (h.clash.0 e), λ s. h.clash.1 (from_body (Clashing g ls m ps) g ls ds k d c b s));
    free = (λ e. let (n, p) = h.free.0 e in (n, (d, c, refl, p)), λ p. h.free.1 (p.0, prunable p.1));
    pruned = λ e. pruned_body ds k d c b f.prune (h.pruned e);
  }
    where
      prunable : Prunable g ls ps ds (lam k b) (arrow k d c) → Prunable g ls ps ((k, d) ∷ ds) b c
      prunable p = let (d', c', e, q) = p in subst (λ y. Prunable g ls ps ((k, y) ∷ ds) b c) (from_type e) (subst (λ y. Prunable g ls ps ((k, d') ∷ ds) b y) (to_type e) q)

  -- ---- pairs

  pruned_pair : (ds : Locals) (c d : SimpleType) (l r : PlainObject) (o u : Option (ℕ × List Bool)) → IsPruned g ls ps ds l c o → IsPruned g ls ps ds r d u → IsPruned g ls ps ds (pair l r) (simple_with c d) (first_of o u)
  pruned_pair ds c d l r None None h k = λ w e f. ⊎_elim (λ a. h w a f) (λ a. k w a f) (either (occurs w l) (occurs w r) e)
  pruned_pair ds c d l r None (Some p) h k = into_right (IsTaken g ls ps p.0 p.1) g ls ds c d l r k
  pruned_pair ds c d l r (Some p) u h k = into_left (IsTaken g ls ps p.0 p.1) g ls ds c d l r h

  pub walked_pair : (ds : Locals) (c d : SimpleType) (l r : PlainObject) (f k : Found) → Walked g ls m ps ds l c f → Walked g ls m ps ds r d k → Walked g ls m ps ds (pair l r) (simple_with c d) (both f k)
  walked_pair ds c d l r f k a b = record {
    clash = (
      λ e. ⊎_elim (λ h. into_left (Clashing g ls m ps) g ls ds c d l r (a.clash.0 h)) (λ h. into_right (Clashing g ls m ps) g ls ds c d l r (b.clash.0 h)) (either f.clash k.clash e),
      λ s. ⊎_elim (λ h. or_first f.clash k.clash (a.clash.1 h)) (λ h. or_second f.clash k.clash (b.clash.1 h)) (from_pair (Clashing g ls m ps) g ls ds c d l r s),
    );
    free = (
      λ e. let (n, p) = a.free.0 (and_first f.free k.free e) in let (o, q) = b.free.0 (and_second f.free k.free e) in (neither n o, (c, d, refl, p, q)),
      λ p. and_true f.free k.free (a.free.1 (first_not (mentions m l) (mentions m r) p.0, left p.1)) (b.free.1 (second_not (mentions m l) (mentions m r) p.0, right p.1)),
    );
    pruned = λ e. pruned_pair ds c d l r f.prune k.prune (a.pruned (and_first f.free k.free e)) (b.pruned (and_second f.free k.free e));
  }
    where
      left : Prunable g ls ps ds (pair l r) (simple_with c d) → Prunable g ls ps ds l c
      left p = let (c', d', e, q, o) = p in subst (Prunable g ls ps ds l) (first_type e) q

      right : Prunable g ls ps ds (pair l r) (simple_with c d) → Prunable g ls ps ds r d
      right p = let (c', d', e, q, o) = p in subst (Prunable g ls ps ds r) (second_type e) o

  -- ---- unit

  pub walked_unit : (ds : Locals) (t : SimpleType) → Walked g ls m ps ds unit t nothing
  walked_unit ds t = record {
    clash = (λ e. absurd (cc), λ s. absurd (not_in_unit (Clashing g ls m ps) g ls ds t s));
    free = (λ e. (refl, tt), λ p. refl);
    pruned = λ e w o f. absurd (cc);
  }

  -- ---- monads, and metavariables that are not on distinct locals

  not_false : (a : Bool) → not a ≡ true → a ≡ false
  not_false true e = absurd (cc)
  not_false false e = refl

  false_not : (a : Bool) → a ≡ false → not a ≡ true
  false_not true e = absurd (cc)
  false_not false e = refl

  walked_loose : (ds : Locals) (x : PlainObject) (t : SimpleType) (u : Bool) → (Somewhere (Clashing g ls m ps) g ls ds x t → ⊥)
      → (NoForeign (length ls) ps (length ds) x → Prunable g ls ps ds x t) → (Prunable g ls ps ds x t → NoForeign (length ls) ps (length ds) x)
      → (u ≡ false → NoForeign (length ls) ps (length ds) x) → (NoForeign (length ls) ps (length ds) x → u ≡ false)
      → Walked g ls m ps ds x t (record { clash = false; free = not (mentions m x) && not u; prune = None })
  walked_loose ds x t u none make take found back = record {
    clash = (λ e. absurd (cc), λ s. absurd (none s));
    free = (
      λ e. (not_false (mentions m x) (and_first (not (mentions m x)) (not u) e), make (found (not_false u (and_second (not (mentions m x)) (not u) e)))),
      λ p. and_true (not (mentions m x)) (not u) (false_not (mentions m x) p.0) (false_not u (back (take p.1))),
    );
    pruned = λ e. found (not_false u (and_second (not (mentions m x)) (not u) e));
  }

  pub walked_monadic : (ds : Locals) (e : PlainExpression) (t : SimpleType) (u : Bool) → (u ≡ false → NoForeign (length ls) ps (length ds) (monadic e)) → (NoForeign (length ls) ps (length ds) (monadic e) → u ≡ false)
      → Walked g ls m ps ds (monadic e) t (record { clash = false; free = not (mentions m (monadic e)) && not u; prune = None })
  walked_monadic ds e t u found back = walked_loose ds (monadic e) t u (λ s. not_in_monadic (Clashing g ls m ps) g ls ds e t s) (λ h. h) (λ p. p) found back

  rigid_no : {b : Bool} → b ≡ true → b ≡ false → ⊥
  rigid_no e f = not_both e f

  variable_rigid : (n : PlainNeutral) (w : ℕ) → head_of n ≡ Var w → is_metavariable (head_of n) ≡ false
  variable_rigid n w e = ap is_metavariable e

  pub walked_undistinct : (ds : Locals) (n : PlainNeutral) (t : SimpleType) (u : Bool) → is_metavariable (head_of n) ≡ true → ((k : ℕ) (zs : List Place) → OnDistinct (scoped (ds ++ ls) g) n k zs t → ⊥)
      → (u ≡ false → NoForeign (length ls) ps (length ds) (atomic n)) → (NoForeign (length ls) ps (length ds) (atomic n) → u ≡ false)
      → Walked g ls m ps ds (atomic n) t (record { clash = false; free = not (mentions m (atomic n)) && not u; prune = None })
  walked_undistinct ds n t u e none found back = walked_loose ds (atomic n) t u
      (λ s. ⊎_elim (λ c. ⊎_elim (λ f. rigid_no e (variable_rigid n f.0 f.1)) (λ i. none m i.0 i.1) c) (λ b. rigid_no e b.0) (from_atomic (Clashing g ls m ps) g ls ds n t s))
      (λ h. inr (e, inl h))
      (λ p. ⊎_elim (λ a. absurd (rigid_no e a.0)) (λ a. ⊎_elim (λ h. h) (λ d. absurd (none d.0 d.1 d.2)) a.1) p)
      found back

  -- ---- metavariables on distinct locals

  pub walked_distinct : (ds : Locals) (n : PlainNeutral) (t : SimpleType) (k : ℕ) (zs : List Place) (u : Bool) (o : Option (ℕ × List Bool)) → is_metavariable (head_of n) ≡ true → OnDistinct (scoped (ds ++ ls) g) n k zs t
      → (u ≡ true → k ≡ m) → (IsItself g ls m ds n t → u ≡ true) → IsPruned g ls ps ds (atomic n) t o
      → Walked g ls m ps ds (atomic n) t (record { clash = u; free = not (mentions m (atomic n)); prune = o })
  walked_distinct ds n t k zs u o e d same itself pruned = record {
    clash = (
      λ h. here (Clashing g ls m ps) g ls ds n t (inr (zs, subst (λ j. OnDistinct (scoped (ds ++ ls) g) n j zs t) (same h) d)),
      λ s. ⊎_elim (λ c. ⊎_elim (λ f. absurd (rigid_no e (variable_rigid n f.0 f.1))) (λ i. itself i) c) (λ b. absurd (rigid_no e b.0)) (from_atomic (Clashing g ls m ps) g ls ds n t s),
    );
    free = (λ h. (not_false (mentions m (atomic n)) h, inr (e, inr (k, zs, d))), λ p. false_not (mentions m (atomic n)) p.0);
    pruned = λ h. pruned;
  }

  -- ---- other heads

  rigid_pruned : (ds : Locals) (n : PlainNeutral) (t : SimpleType) → is_metavariable (head_of n) ≡ false → (o : Option (ℕ × List Bool)) → IsPrunedBelow g ls ps ds n o → IsPruned g ls ps ds (atomic n) t o
  rigid_pruned ds n t e None h = h
  rigid_pruned ds n t e (Some p) h = below (IsTaken g ls ps p.0 p.1) g ls ds n t e h

  pub walked_rigid : (ds : Locals) (n : PlainNeutral) (t : SimpleType) (f : Found) → is_metavariable (head_of n) ≡ false → (IsItself g ls m ds n t → ⊥) → WalkedBelow g ls m ps ds n f → Walked g ls m ps ds (atomic n) t f
  walked_rigid ds n t f e not_itself h = record {
    clash = (
      λ c. ⊎_elim (λ a. here (Clashing g ls m ps) g ls ds n t (inl a)) (λ a. below (Clashing g ls m ps) g ls ds n t e a) (h.clash.0 c),
      λ s. h.clash.1 (⊎_elim (λ c. ⊎_elim (λ a. inl a) (λ i. absurd (not_itself i)) c) (λ b. inr b.1) (from_atomic (Clashing g ls m ps) g ls ds n t s)),
    );
    free = (λ c. let (o, p) = h.free.0 c in (o, inl (e, p)), λ p. h.free.1 (p.0, ⊎_elim (λ a. a.1) (λ a. absurd (not_both a.0 e)) p.1));
    pruned = λ c. rigid_pruned ds n t e f.prune (h.pruned c);
  }

  -- ---- spines

  number_of : {i w : ℕ} → Var i ≡ Var w → i ≡ w
  number_of e = cc

  pub walked_constant : (ds : Locals) (c : ℕ) → WalkedBelow g ls m ps ds (head_alone (Const c)) nothing
  walked_constant ds c = record {
    clash = (λ e. absurd (cc), λ s. absurd (⊎_elim (λ f. no f.0 f.1) (λ a. not_in_bare (Clashing g ls m ps) g ls ds (Const c) a) s));
    free = (λ e. (refl, λ w h f. no w h), λ p. refl);
    pruned = λ e w o f. absurd (cc);
  }
    where
      no : (w : ℕ) → Const c ≡ Var w → ⊥
      no w e = cc

  -- u says whether the variable is a foreign local.
  pub walked_variable : (ds : Locals) (i : ℕ) (u : Bool) → (u ≡ true) ↔ Foreign (length ls) ps (length ds) i → WalkedBelow g ls m ps ds (head_alone (Var i)) (record { clash = u; free = not u; prune = None })
  walked_variable ds i u k = record {
    clash = (
      λ e. inl (i, refl, k.0 e),
      λ s. ⊎_elim (λ f. k.1 (subst (Foreign (length ls) ps (length ds)) (sym (number_of f.1)) f.2)) (λ a. absurd (not_in_bare (Clashing g ls m ps) g ls ds (Var i) a)) s,
    );
    free = (
      λ e. (refl, λ w h f. not_both (k.1 (subst (Foreign (length ls) ps (length ds)) (sym (number_of h)) f)) (not_false u e)),
      λ p. false_not u (not_true u (λ e. p.1 i refl (k.0 e))),
    );
    pruned = λ e w o f. not_both (k.1 (subst (Foreign (length ls) ps (length ds)) (sym (the_number i w o)) f)) (not_false u e);
  }
    where
      the_number : (i v : ℕ) → occurs_neutral v (head_alone (Var i)) ≡ true → i ≡ v
      the_number i v e = grind arith

  pruned_app : (ds : Locals) (k : Mode) (r : PlainNeutral) (x : PlainObject) (d e : SimpleType) → SimplyTypedNeutral (scoped (ds ++ ls) g) r (arrow k d e) → (o u : Option (ℕ × List Bool))
      → IsPrunedBelow g ls ps ds r o → IsPruned g ls ps ds x d u → IsPrunedBelow g ls ps ds (app k r x) (first_of o u)
  pruned_app ds k r x d e p None None h j = λ w a f. ⊎_elim (λ b. h w b f) (λ b. j w b f) (either (occurs_neutral w r) (occurs w x) a)
  pruned_app ds k r x d e p None (Some q) h j = into_argument (IsTaken g ls ps q.0 q.1) g ls ds k r x d e p j
  pruned_app ds k r x d e p (Some q) u h j = into_function (IsTaken g ls ps q.0 q.1) g ls ds k r x h

  pub walked_app : (ds : Locals) (k : Mode) (r : PlainNeutral) (x : PlainObject) (d e : SimpleType) → SimplyTypedNeutral (scoped (ds ++ ls) g) r (arrow k d e) → (f h : Found)
      → WalkedBelow g ls m ps ds r f → Walked g ls m ps ds x d h → WalkedBelow g ls m ps ds (app k r x) (both f h)
  walked_app ds k r x d e p f h a b = record {
    clash = (
      λ c. ⊎_elim
          (λ i. ⊎_elim (λ j. inl j) (λ j. inr (into_function (Clashing g ls m ps) g ls ds k r x j)) (a.clash.0 i))
          (λ i. inr (into_argument (Clashing g ls m ps) g ls ds k r x d e p (b.clash.0 i))) (either f.clash h.clash c),
      λ s. ⊎_elim
          (λ i. or_first f.clash h.clash (a.clash.1 (inl i)))
          (λ i. ⊎_elim (λ j. or_first f.clash h.clash (a.clash.1 (inr j))) (λ j. or_second f.clash h.clash (b.clash.1 j)) (from_app (Clashing g ls m ps) g ls ds k r x d e p i)) s,
    );
    free = (
      λ c. let (n, q) = a.free.0 (and_first f.free h.free c) in let (o, u) = b.free.0 (and_second f.free h.free c) in (neither n o, (q, (d, e, p, u))),
      λ c. and_true f.free h.free (a.free.1 (first_not (mentions_neutral m r) (mentions m x) c.0, c.1.0)) (b.free.1 (second_not (mentions_neutral m r) (mentions m x) c.0, argument c.1.1)),
    );
    pruned = λ c. pruned_app ds k r x d e p f.prune h.prune (a.pruned (and_first f.free h.free c)) (b.pruned (and_second f.free h.free c));
  }
    where
      argument : (d' e' : SimpleType) × SimplyTypedNeutral (scoped (ds ++ ls) g) r (arrow k d' e') × Prunable g ls ps ds x d' → Prunable g ls ps ds x d
      argument q = subst (Prunable g ls ps ds x) (from_type (neutral_has_one_type (no_holes true) (scoped (ds ++ ls) g) r (arrow k d e) (arrow k q.0 q.1) p q.2)) q.3

  pruned_fst : (ds : Locals) (r : PlainNeutral) (o : Option (ℕ × List Bool)) → IsPrunedBelow g ls ps ds r o → IsPrunedBelow g ls ps ds (fst r) o
  pruned_fst ds r None h = h
  pruned_fst ds r (Some q) h = into_fst (IsTaken g ls ps q.0 q.1) g ls ds r h

  pub walked_fst : (ds : Locals) (r : PlainNeutral) (f : Found) → WalkedBelow g ls m ps ds r f → WalkedBelow g ls m ps ds (fst r) f
  walked_fst ds r f a = record {
    clash = (λ c. ⊎_elim (λ i. inl i) (λ i. inr (into_fst (Clashing g ls m ps) g ls ds r i)) (a.clash.0 c), λ s. a.clash.1 (⊎_elim (λ i. inl i) (λ i. inr (from_fst (Clashing g ls m ps) g ls ds r i)) s));
    free = a.free;
    pruned = λ c. pruned_fst ds r f.prune (a.pruned c);
  }

  pruned_snd : (ds : Locals) (r : PlainNeutral) (o : Option (ℕ × List Bool)) → IsPrunedBelow g ls ps ds r o → IsPrunedBelow g ls ps ds (snd r) o
  pruned_snd ds r None h = h
  pruned_snd ds r (Some q) h = into_snd (IsTaken g ls ps q.0 q.1) g ls ds r h

  pub walked_snd : (ds : Locals) (r : PlainNeutral) (f : Found) → WalkedBelow g ls m ps ds r f → WalkedBelow g ls m ps ds (snd r) f
  walked_snd ds r f a = record {
    clash = (λ c. ⊎_elim (λ i. inl i) (λ i. inr (into_snd (Clashing g ls m ps) g ls ds r i)) (a.clash.0 c), λ s. a.clash.1 (⊎_elim (λ i. inl i) (λ i. inr (from_snd (Clashing g ls m ps) g ls ds r i)) s));
    free = a.free;
    pruned = λ c. pruned_snd ds r f.prune (a.pruned c);
  }
