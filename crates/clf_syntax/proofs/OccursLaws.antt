-- Occurrence and renaming.
use Rattle.std.specs.Prelude.{ℕ, ◌+◌, ◌-◌, ◌≡◌, ◌<◌, ◌≤◌, ◌⊎◌, ◌||◌, nat_eq, Bool, true, false, length, refl}
use Rattle.std.proofs.Common.{ap, sym, subst, ◌∙◌, arith, inl, inr, ⊎_elim}
use Rattle.clf_syntax.specs.declared.tree.Head.TheVariants.{Const, Var, Meta}
use Rattle.clf_syntax.specs.Tree.{PlainObject, lam, pair, unit, monadic, atomic, hole, PlainNeutral, head_alone, app, fst, snd, PlainExpression, step, done, PlainTuple, empty, entry}
use Rattle.clf_syntax.specs.Renaming.{Renumbering, lifted, ren, ren_neutral, ren_expression, ren_tuple, up, down}
use Rattle.clf_syntax.specs.Occurs.{occurs, occurs_neutral, occurs_expression, occurs_tuple}
use Rattle.clf_syntax.proofs.RenamingLaws.{pairs, apps, binds, entries, cut, lift_in, lift_out, composed_neutral, identity_neutral}

pub or_first : (a b : Bool) → a ≡ true → a || b ≡ true
or_first true b e = refl
or_first false b e = cc

pub or_second : (a b : Bool) → b ≡ true → a || b ≡ true
or_second true b e = refl
or_second false b e = e

pub either : (a b : Bool) → a || b ≡ true → (a ≡ true) ⊎ (b ≡ true)
either true b e = inl refl
either false b e = inr e

pub not_true : (b : Bool) → (b ≡ true → ⊥) → b ≡ false
not_true true h = absurd (h refl)
not_true false h = refl

pub not_both : {b : Bool} → b ≡ true → b ≡ false → ⊥
not_both e f = cc

same_number : (i v : ℕ) → nat_eq i v ≡ true → i ≡ v
same_number i v e = grind arith

pub own_number : (i : ℕ) → nat_eq i i ≡ true
own_number i = grind arith

pub lift_agrees : (n : ℕ) (r s : Renumbering) (P : ℕ → Type 0) → ((i : ℕ) → P (i + n) → r i ≡ s i) → (i : ℕ) → P i → lifted n r i ≡ lifted n s i
lift_agrees n r s P h i p = ⊎_elim
    (λ k. lift_in n r i k ∙ sym (lift_in n s i k))
    (λ k. lift_out n r i k ∙ ap (λ j. j + n) (h (i - n) (subst P (back k) p)) ∙ sym (lift_out n s i k))
    (cut i n)
  where
    back : n ≤ i → i ≡ i - n + n
    back k = omega arith

-- Renamings that agree on the variables that occur give the same tree.
mutual
  pub agreeing : (r s : Renumbering) (o : PlainObject) → ((i : ℕ) → occurs i o ≡ true → r i ≡ s i) → ren r o ≡ ren s o
  agreeing r s (lam m b) h = ap (lam m) (agreeing (lifted 1 r) (lifted 1 s) b (lift_agrees 1 r s (λ i. occurs i b ≡ true) h))
  agreeing r s (pair x y) h = pairs (agreeing r s x (λ i e. h i (or_first (occurs i x) (occurs i y) e))) (agreeing r s y (λ i e. h i (or_second (occurs i x) (occurs i y) e)))
  agreeing r s unit h = refl
  agreeing r s (monadic e) h = ap monadic (agreeing_expression r s e h)
  agreeing r s (atomic n) h = ap atomic (agreeing_neutral r s n h)
  agreeing r s hole h = refl

  pub agreeing_neutral : (r s : Renumbering) (o : PlainNeutral) → ((i : ℕ) → occurs_neutral i o ≡ true → r i ≡ s i) → ren_neutral r o ≡ ren_neutral s o
  agreeing_neutral r s (head_alone (Const c)) h = refl
  agreeing_neutral r s (head_alone (Var i)) h = ap (λ j. head_alone (Var j)) (h i (own_number i))
  agreeing_neutral r s (head_alone (Meta m)) h = refl
  agreeing_neutral r s (app m x n) h = apps m (agreeing_neutral r s x (λ i e. h i (or_first (occurs_neutral i x) (occurs i n) e))) (agreeing r s n (λ i e. h i (or_second (occurs_neutral i x) (occurs i n) e)))
  agreeing_neutral r s (fst x) h = ap fst (agreeing_neutral r s x h)
  agreeing_neutral r s (snd x) h = ap snd (agreeing_neutral r s x h)

  pub agreeing_expression : (r s : Renumbering) (o : PlainExpression) → ((i : ℕ) → occurs_expression i o ≡ true → r i ≡ s i) → ren_expression r o ≡ ren_expression s o
  agreeing_expression r s (step ms x e) h = binds ms (agreeing_neutral r s x (λ i k. h i (or_first (occurs_neutral i x) (occurs_expression (i + length ms) e) k)))
      (agreeing_expression (lifted (length ms) r) (lifted (length ms) s) e (lift_agrees (length ms) r s (λ i. occurs_expression i e ≡ true) (λ i k. h i (or_second (occurs_neutral i x) (occurs_expression (i + length ms) e) k))))
  agreeing_expression r s (done t) h = ap done (agreeing_tuple r s t h)

  pub agreeing_tuple : (r s : Renumbering) (o : PlainTuple) → ((i : ℕ) → occurs_tuple i o ≡ true → r i ≡ s i) → ren_tuple r o ≡ ren_tuple s o
  agreeing_tuple r s empty h = refl
  agreeing_tuple r s (entry m n t) h = entries m (agreeing r s n (λ i e. h i (or_first (occurs i n) (occurs_tuple i t) e))) (agreeing_tuple r s t (λ i e. h i (or_second (occurs i n) (occurs_tuple i t) e)))

unlift : (n : ℕ) (r : Renumbering) (i j : ℕ) → lifted n r j ≡ i + n → (n ≤ j) × (r (j - n) ≡ i)
unlift n r i j e = ⊎_elim (λ k. absurd (low k)) (λ k. (k, high k)) (cut j n)
  where
    low : j < n → ⊥
    low k = let f : j ≡ i + n = sym (lift_in n r j k) ∙ e in omega arith

    high : n ≤ j → r (j - n) ≡ i
    high k = let f : r (j - n) + n ≡ i + n = sym (lift_out n r j k) ∙ e in omega arith

-- what occurs after a renaming comes from what occurred before
abbrev pub Source : Renumbering → ℕ → (ℕ → Bool) → Type 0
Source r i f = (j : ℕ) × (r j ≡ i) × (f j ≡ true)

pub from_first : (r : Renumbering) (i : ℕ) (f g : ℕ → Bool) → Source r i f → Source r i (λ j. f j || g j)
from_first r i f g s = (s.0, s.1, or_first (f s.0) (g s.0) s.2)

pub from_second : (r : Renumbering) (i : ℕ) (f g : ℕ → Bool) → Source r i g → Source r i (λ j. f j || g j)
from_second r i f g s = (s.0, s.1, or_second (f s.0) (g s.0) s.2)

pub from_under : (n : ℕ) (r : Renumbering) (i : ℕ) (f : ℕ → Bool) → Source (lifted n r) (i + n) f → Source r i (λ j. f (j + n))
from_under n r i f s = let u = unlift n r i s.0 s.1 in (s.0 - n, u.1, subst (λ j. f j ≡ true) (back s.0 u.0) s.2)
  where
    back : (j : ℕ) → n ≤ j → j ≡ j - n + n
    back j k = omega arith

mutual
  pub source : (r : Renumbering) (o : PlainObject) (i : ℕ) → occurs i (ren r o) ≡ true → Source r i (λ j. occurs j o)
  source r (lam m b) i e = from_under 1 r i (λ j. occurs j b) (source (lifted 1 r) b (i + 1) e)
  source r (pair x y) i e = ⊎_elim (λ k. from_first r i (λ j. occurs j x) (λ j. occurs j y) (source r x i k)) (λ k. from_second r i (λ j. occurs j x) (λ j. occurs j y) (source r y i k)) (either (occurs i (ren r x)) (occurs i (ren r y)) e)
  source r unit i e = absurd (cc)
  source r (monadic x) i e = source_expression r x i e
  source r (atomic n) i e = source_neutral r n i e
  source r hole i e = absurd (cc)

  pub source_neutral : (r : Renumbering) (o : PlainNeutral) (i : ℕ) → occurs_neutral i (ren_neutral r o) ≡ true → Source r i (λ j. occurs_neutral j o)
  source_neutral r (head_alone (Const c)) i e = absurd (cc)
  source_neutral r (head_alone (Var v)) i e = (v, same_number (r v) i e, own_number v)
  source_neutral r (head_alone (Meta m)) i e = absurd (cc)
  source_neutral r (app m x n) i e = ⊎_elim (λ k. from_first r i (λ j. occurs_neutral j x) (λ j. occurs j n) (source_neutral r x i k)) (λ k. from_second r i (λ j. occurs_neutral j x) (λ j. occurs j n) (source r n i k)) (either (occurs_neutral i (ren_neutral r x)) (occurs i (ren r n)) e)
  source_neutral r (fst x) i e = source_neutral r x i e
  source_neutral r (snd x) i e = source_neutral r x i e

  pub source_expression : (r : Renumbering) (o : PlainExpression) (i : ℕ) → occurs_expression i (ren_expression r o) ≡ true → Source r i (λ j. occurs_expression j o)
  source_expression r (step ms x y) i e = ⊎_elim (λ k. from_first r i (λ j. occurs_neutral j x) (λ j. occurs_expression (j + length ms) y) (source_neutral r x i k))
      (λ k. from_second r i (λ j. occurs_neutral j x) (λ j. occurs_expression (j + length ms) y) (from_under (length ms) r i (λ j. occurs_expression j y) (source_expression (lifted (length ms) r) y (i + length ms) k)))
      (either (occurs_neutral i (ren_neutral r x)) (occurs_expression (i + length ms) (ren_expression (lifted (length ms) r) y)) e)
  source_expression r (done t) i e = source_tuple r t i e

  pub source_tuple : (r : Renumbering) (o : PlainTuple) (i : ℕ) → occurs_tuple i (ren_tuple r o) ≡ true → Source r i (λ j. occurs_tuple j o)
  source_tuple r empty i e = absurd (cc)
  source_tuple r (entry m n t) i e = ⊎_elim (λ k. from_first r i (λ j. occurs j n) (λ j. occurs_tuple j t) (source r n i k)) (λ k. from_second r i (λ j. occurs j n) (λ j. occurs_tuple j t) (source_tuple r t i k)) (either (occurs i (ren r n)) (occurs_tuple i (ren_tuple r t)) e)

-- A neutral mentions none of the n newest variables exactly where it is one renumbered past them.
pub past : (n : ℕ) (w : PlainNeutral) → ((i : ℕ) → i < n → occurs_neutral i w ≡ false) → w ≡ ren_neutral (up n) (ren_neutral (down n) w)
past n w h = sym (composed_neutral (up n) (down n) w ∙ agreeing_neutral (λ i. up n (down n i)) (λ i. i) w same ∙ identity_neutral w)
  where
    same : (i : ℕ) → occurs_neutral i w ≡ true → up n (down n i) ≡ i
    same i e = ⊎_elim (λ k. absurd (not_both e (h i k))) (λ k. back k) (cut i n)
      where
        back : n ≤ i → i - n + n ≡ i
        back k = omega arith

pub absent_past : (n : ℕ) (v : PlainNeutral) (i : ℕ) → i < n → occurs_neutral i (ren_neutral (up n) v) ≡ false
absent_past n v i k = not_true (occurs_neutral i (ren_neutral (up n) v)) (λ e. far (source_neutral (up n) v i e))
  where
    far : Source (up n) i (λ j. occurs_neutral j v) → ⊥
    far s = let f : s.0 + n ≡ i = s.1 in omega arith
