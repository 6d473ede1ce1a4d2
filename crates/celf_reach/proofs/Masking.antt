-- Masks that grow by one mark.
use Rattle.std.specs.Prelude.{ℕ, Bool, true, false, zero, suc, ◌+◌, ◌≡◌, ◌<◌, ◌≤◌, ◌⊎◌, ◌&&◌, ◌||◌, not, nat_eq, if◌then◌else◌, List, [], ◌∷◌, ◌++◌, length, map, get_or, Some, None, refl}
use Rattle.std.specs.List.{list_any}
use Rattle.std.proofs.Common.{ap, sym, subst, ◌∙◌, arith, ⊎_elim}
use Rattle.clf_syntax.specs.Occurs.{occurs}
use Rattle.clf_syntax.specs.Tree.{PlainObject}
use Rattle.clf_syntax.proofs.OccursLaws.{not_both, not_true}
use Rattle.pattern_laws.specs.Patterns.{Place, blank, local_at, mask_at}
use Rattle.reach_walk.specs.Marks.{MarksForeign, marked_in}
use Rattle.reach_walk.proofs.Marking.{marked_out, marked_there}
use Rattle.celf_reach.specs.Masks.{has_local}

pub mask_there : (bs : List Bool) (i : ℕ) → i < length bs → get_or bs i false ≡ mask_at bs i
mask_there [] i h = absurd (omega arith)
mask_there (b ∷ bs) zero h = refl
mask_there (b ∷ bs) (suc i) h = mask_there bs i (omega arith)

pub mask_past : (bs : List Bool) (i : ℕ) → length bs ≤ i → false ≡ mask_at bs i
mask_past [] i h = refl
mask_past (b ∷ bs) zero h = absurd (omega arith)
mask_past (b ∷ bs) (suc i) h = mask_past bs i (omega arith)

pub push_there : (xs : List Bool) (b : Bool) → mask_at (xs ++ b ∷ []) (length xs) ≡ b
push_there [] b = refl
push_there (x ∷ xs) b = push_there xs b

pub push_before : (xs : List Bool) (b : Bool) (j : ℕ) → j < length xs → mask_at (xs ++ b ∷ []) j ≡ mask_at xs j
push_before [] b j h = absurd (omega arith)
push_before (x ∷ xs) b zero h = refl
push_before (x ∷ xs) b (suc j) h = push_before xs b j (omega arith)

pub push_length : (xs : List Bool) (b : Bool) → length (xs ++ b ∷ []) ≡ length xs + 1
push_length [] b = refl
push_length (x ∷ xs) b = more (length (xs ++ b ∷ [])) (length xs) (push_length xs b)
  where
    more : (n k : ℕ) → n ≡ k + 1 → suc n ≡ suc k + 1
    more n k e = omega arith

-- So many marks, each as p says.
pub record MarkedTo (p : ℕ → Bool) (n : ℕ) (xs : List Bool) : Type 0 where
  pub long : length xs ≡ n
  pub each : (j : ℕ) → j < n → mask_at xs j ≡ p j

pub marked_none : (p : ℕ → Bool) → MarkedTo p 0 []
marked_none p = record { long = refl; each = λ j h. absurd (omega arith) }

pub marked_more : (p : ℕ → Bool) (n : ℕ) (xs ys : List Bool) (b : Bool) → MarkedTo p n xs → b ≡ p n → ys ≡ xs ++ b ∷ [] → MarkedTo p (n + 1) ys
marked_more p n xs ys b m e f = record {
  long = ap length f ∙ push_length xs b ∙ ap (λ k. k + 1) m.long;
  each = λ j h. ap (λ l. mask_at l j) f ∙ ⊎_elim
      (λ k. push_before xs b j (subst (λ i. j < i) (sym m.long) k) ∙ m.each j k)
      (λ k. ap (mask_at (xs ++ b ∷ [])) (k ∙ sym m.long) ∙ push_there xs b ∙ e ∙ ap p (sym k)) (last j n h);
}
  where
    last : (j n : ℕ) → j < n + 1 → (j < n) ⊎ (j ≡ n)
    last j n h = grind arith

-- ---- the places of a local

both_parts : (a b : Bool) → a && b ≡ true → (a ≡ true) × (b ≡ true)
both_parts true b e = (refl, e)
both_parts false b e = absurd (cc)

the_number : (i v : ℕ) → nat_eq i v ≡ true → i ≡ v
the_number i v e = grind arith

own_number : (i : ℕ) → nat_eq i i ≡ true
own_number i = grind arith

here_out : (b : Bool) (x v : ℕ) → not b && nat_eq x v ≡ true → (if b then None else Some x) ≡ Some v
here_out true x v e = absurd (cc)
here_out false x v e = ap (λ n. Some n) (the_number x v e)

here_in : (b : Bool) (x v : ℕ) → (if b then None else Some x) ≡ Some v → not b && nat_eq x v ≡ true
here_in true x v e = absurd (cc)
here_in false x v e = subst (λ n. nat_eq x n ≡ true) (one e) (own_number x)
  where
    one : {i j : ℕ} → Some i ≡ Some j → i ≡ j
    one e = cc

module _ {X : Type 0} (f : X → Place) where
  among_out : (xs : List X) (v : ℕ) → list_any (λ x. has_local v (f x)) xs ≡ true → (i : ℕ) × (local_at (map f xs) i ≡ Some v)
  among_out [] v e = absurd (cc)
  among_out (x ∷ xs) v e = of (has_local v (f x)) refl (among_out xs v)
    where
      later : (a b : Bool) → a || b ≡ true → a ≡ false → b ≡ true
      later true b e h = absurd (cc)
      later false b e h = e

      of : (b : Bool) → has_local v (f x) ≡ b → (list_any (λ x. has_local v (f x)) xs ≡ true → (i : ℕ) × (local_at (map f xs) i ≡ Some v)) → (i : ℕ) × (local_at (map f (x ∷ xs)) i ≡ Some v)
      of true h g = (0, here_out (blank (f x).1) (f x).2 v h)
      of false h g = let (i, k) = g (later (has_local v (f x)) (list_any (λ x. has_local v (f x)) xs) e h) in (suc i, k)

  among_in : (xs : List X) (v i : ℕ) → local_at (map f xs) i ≡ Some v → list_any (λ x. has_local v (f x)) xs ≡ true
  among_in [] v i e = absurd (cc)
  among_in (x ∷ xs) v zero e = first (has_local v (f x)) (list_any (λ x. has_local v (f x)) xs) (here_in (blank (f x).1) (f x).2 v e)
    where
      first : (a b : Bool) → a ≡ true → a || b ≡ true
      first true b e = refl
      first false b e = absurd (cc)
  among_in (x ∷ xs) v (suc i) e = second (has_local v (f x)) (list_any (λ x. has_local v (f x)) xs) (among_in xs v i e)
    where
      second : (a b : Bool) → b ≡ true → a || b ≡ true
      second true b e = refl
      second false b e = e

  not_false : (a : Bool) → not a ≡ true → a ≡ false
  not_false true e = absurd (cc)
  not_false false e = refl

  false_not : (a : Bool) → a ≡ false → not a ≡ true
  false_not true e = absurd (cc)
  false_not false e = refl

  pub marks_foreign : (xs : List X) (n : ℕ) (bs : List Bool) → MarkedTo (λ j. not (list_any (λ x. has_local j (f x)) xs)) n bs → MarksForeign n (map f xs) bs
  marks_foreign xs n bs m = (
    λ v e. ⊎_elim
        (λ l. (l, λ i h. not_both (among_in xs v i h) (not_false (list_any (λ x. has_local v (f x)) xs) (sym (m.each v l) ∙ e))))
        (λ l. absurd (not_both e (sym (mask_past bs v (subst (λ k. k ≤ v) (sym m.long) l))))) (cut v n),
    λ v l h. m.each v l ∙ false_not (list_any (λ x. has_local v (f x)) xs) (not_true (list_any (λ x. has_local v (f x)) xs) (λ e. let (i, k) = among_out xs v e in h i k)),
  )
    where
      cut : (v n : ℕ) → (v < n) ⊎ (n ≤ v)
      cut v n = grind arith

-- One mark after others that are not set.
pub single : (n : ℕ) (xs ys : List Bool) → MarkedTo (λ j. false) n xs → ys ≡ xs ++ true ∷ [] → (j : ℕ) → mask_at ys j ≡ nat_eq j n
single n xs ys m e j = ap (λ l. mask_at l j) e ∙ ⊎_elim
    (λ h. push_before xs true j (subst (λ k. j < k) (sym m.long) h) ∙ m.each j h ∙ below j n h)
    (λ h. ⊎_elim
    (λ k. ap (mask_at (xs ++ true ∷ [])) (k ∙ sym m.long) ∙ push_there xs true ∙ sym (ap (λ i. nat_eq i n) k ∙ own_number n))
    (λ k. sym (mask_past (xs ++ true ∷ []) j (beyond (length (xs ++ true ∷ [])) (length xs) n j (push_length xs true) m.long k)) ∙ past j n k) h)
    (cut j n)
  where
    cut : (j n : ℕ) → (j < n) ⊎ ((j ≡ n) ⊎ (n < j))
    cut j n = grind arith

    below : (j n : ℕ) → j < n → false ≡ nat_eq j n
    below j n h = grind arith

    past : (j n : ℕ) → n < j → false ≡ nat_eq j n
    past j n h = grind arith

    beyond : (l k n j : ℕ) → l ≡ k + 1 → k ≡ n → n < j → l ≤ j
    beyond l k n j e f h = omega arith

same_test : (a b : Bool) → (a ≡ true → b ≡ true) → (b ≡ true → a ≡ true) → a ≡ b
same_test true b f g = sym (f refl)
same_test false true f g = g refl
same_test false false f g = refl

-- With a mark at one local alone it is marked where that one occurs.
pub marked_single : (bs : List Bool) (v : ℕ) (x : PlainObject) → ((j : ℕ) → mask_at bs j ≡ nat_eq j v) → marked_in bs 0 x ≡ occurs v x
marked_single bs v x m = same_test (marked_in bs 0 x) (occurs v x)
    (λ e. let (w, k, o) = marked_out bs 0 x e in subst (λ i. occurs i x ≡ true) (at_none w v (the_number w v (sym (m w) ∙ k))) o)
    (λ e. marked_there bs 0 x v (m v ∙ own_number v) (subst (λ i. occurs i x ≡ true) (sym (at_none v v refl)) e))
  where
    at_none : (w v : ℕ) → w ≡ v → w + 0 ≡ v
    at_none w v e = omega arith
