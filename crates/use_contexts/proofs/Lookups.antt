-- Reads and writes of contexts and holdings by a variable's number, and the walks over them from the newest entry on.
use Rattle.std.proofs.Common.{◌≡◌, ℕ, zero, suc, ◌+◌, ◌-◌, ◌<◌, Bool, true, false, not, ◌&&◌, if◌then◌else◌, List, [], ◌∷◌, ◌++◌, length, reverse, take, drop, get_or, slice_get, slice_set, Option, None, Some, option_map, inl, inr, refl, sym, ap, subst, ◌∙◌, add-one, arith}
use Rattle.std.proofs.lemmas.Bool.{cases_eq}
use Rattle.std.proofs.lemmas.List.{get_or-reverse, get_or-set_same, get_or-set_other, length-set, length-reverse, ext_get_or}
use Rattle.clf_syntax.specs.declared.tree.Mode.{Mode}
use Rattle.clf_syntax.specs.declared.tree.Mode.TheVariants.{Persistent, Affine, Linear}
use Rattle.use_contexts.specs.Holding.{Holding, WellMarked, is_weak, is_linear, is_persistent}
use Rattle.use_contexts.specs.Rows.{taken, left_in_both, differs, newest_difference}

-- a write by a variable's number is a write to the list with the newest entry first
pub reverse-set : (xs : List Bool) (i : ℕ) (x : Bool) → i < length xs → reverse (slice_set xs (length xs - 1 - i) x) ≡ slice_set (reverse xs) i x
reverse-set xs i x l =
    let at = length xs - 1 - i in
    let left : length (reverse (slice_set xs at x)) ≡ length xs = length-reverse (slice_set xs at x) ∙ length-set xs at x in
    let right : length (slice_set (reverse xs) i x) ≡ length xs = length-set (reverse xs) i x ∙ length-reverse xs in
    ext_get_or false (reverse (slice_set xs at x)) (slice_set (reverse xs) i x) (left ∙ sym right)
    (λ k h. same k (subst (λ n. k < n) left h))
  where
    same : (k : ℕ) → k < length xs → get_or (reverse (slice_set xs (length xs - 1 - i) x)) k false ≡ get_or (slice_set (reverse xs) i x) k false
    same k h = elim (cases_eq k i) [
      | inl e ↦ rw e (get_or-reverse (slice_set xs (length xs - 1 - i) x) i false (rw length-set l) ∙ rw length-set (get_or-set_same xs (length xs - 1 - i) x false (omega arith)) ∙ sym (get_or-set_same (reverse xs) i x false (rw length-reverse l)))
      | inr n ↦ get_or-reverse (slice_set xs (length xs - 1 - i) x) k false (rw length-set h) ∙ rw length-set (get_or-set_other xs (length xs - 1 - i) (length xs - 1 - k) x false (λ q. n (omega arith))) ∙ sym (get_or-reverse xs k false h) ∙ sym (get_or-set_other (reverse xs) i k x false n)
    ]

-- the rest of a list from a place that is there
pub drop_at : {X : Type 0} (xs : List X) (i : ℕ) (x : X) → slice_get xs i ≡ Some x → drop i xs ≡ x ∷ drop (suc i) xs
drop_at [] i x h = cc
drop_at (y ∷ ys) zero x h = let e : y ≡ x = cc in ap (λ z. z ∷ ys) e
drop_at (y ∷ ys) (suc i) x h = drop_at ys i x h

-- ---- weak holdings
weak_more : (ms : List Mode) (hs : Holding) (i : ℕ) (m : Mode) (h : Bool) → slice_get ms i ≡ Some m → slice_get hs i ≡ Some h
    → is_weak (drop i ms) (drop i hs) ≡ (not (is_linear m && h) && is_weak (drop (suc i) ms) (drop (suc i) hs))
weak_more ms hs i m h p q = rw (drop_at ms i m p, drop_at hs i h q) refl

pub weak_stops : (ms : List Mode) (hs : Holding) (i : ℕ) (m : Mode) (h : Bool) → slice_get ms i ≡ Some m → slice_get hs i ≡ Some h → (is_linear m && h) ≡ true
    → is_weak (drop i ms) (drop i hs) ≡ false
weak_stops ms hs i m h p q e = weak_more ms hs i m h p q ∙ ap (λ b. not b && is_weak (drop (suc i) ms) (drop (suc i) hs)) e

pub weak_goes_on : (ms : List Mode) (hs : Holding) (i : ℕ) (m : Mode) (h : Bool) → slice_get ms i ≡ Some m → slice_get hs i ≡ Some h → (is_linear m && h) ≡ false
    → is_weak (drop i ms) (drop i hs) ≡ is_weak (drop (i + 1) ms) (drop (i + 1) hs)
weak_goes_on ms hs i m h p q e = rw add-one (weak_more ms hs i m h p q ∙ ap (λ b. not b && is_weak (drop (suc i) ms) (drop (suc i) hs)) e)

-- ---- the entries of a pair
later : (i : ℕ) (r : Option ℕ) → option_map (λ k. i + k) (option_map suc r) ≡ option_map (λ k. suc i + k) r
later i None = refl
later i (Some k) = ap Some (omega arith)

module _ (s t : Bool) where
  onward : (i : ℕ) (b : Bool) (r : Option ℕ) → b ≡ false → option_map (λ k. i + k) (if b then Some 0 else option_map suc r) ≡ option_map (λ k. suc i + k) r
  onward i true r e = cc
  onward i false r e = later i r

  stopped : (i : ℕ) (b : Bool) (r : Option ℕ) → b ≡ true → option_map (λ k. i + k) (if b then Some 0 else option_map suc r) ≡ Some i
  stopped i true r e = ap Some (omega arith)
  stopped i false r e = cc

  pub difference_later : (ms : List Mode) (as' bs : Holding) (i : ℕ) (m : Mode) (a b : Bool) → slice_get ms i ≡ Some m → slice_get as' i ≡ Some a → slice_get bs i ≡ Some b → differs m a s b t ≡ false
      → option_map (λ k. i + k) (newest_difference (drop i ms) (drop i as') s (drop i bs) t)
      ≡ option_map (λ k. (i + 1) + k) (newest_difference (drop (i + 1) ms) (drop (i + 1) as') s (drop (i + 1) bs) t)
  difference_later ms as' bs i m a b p q r e =
      rw (add-one, drop_at ms i m p, drop_at as' i a q, drop_at bs i b r)
      (onward i (differs m a s b t) (newest_difference (drop (suc i) ms) (drop (suc i) as') s (drop (suc i) bs) t) e)

  pub difference_here : (ms : List Mode) (as' bs : Holding) (i : ℕ) (m : Mode) (a b : Bool) → slice_get ms i ≡ Some m → slice_get as' i ≡ Some a → slice_get bs i ≡ Some b → differs m a s b t ≡ true
      → option_map (λ k. i + k) (newest_difference (drop i ms) (drop i as') s (drop i bs) t) ≡ Some i
  difference_here ms as' bs i m a b p q r e =
      rw (drop_at ms i m p, drop_at as' i a q, drop_at bs i b r)
      (stopped i (differs m a s b t) (newest_difference (drop (suc i) ms) (drop (suc i) as') s (drop (suc i) bs) t) e)

-- a whole row, in terms of what is done and of the rest
abbrev pub half_joined : ℕ → Holding → Holding → Holding
half_joined i row bs = take i row ++ left_in_both (drop i row) (drop i bs)

and-true : (a : Bool) → (a && true) ≡ a
and-true true = refl
and-true false = refl

and-false : (a : Bool) → (a && false) ≡ false
and-false true = refl
and-false false = refl

pub joined_kept : (row bs : Holding) (i : ℕ) → length row ≡ length bs → slice_get bs i ≡ Some true → half_joined i row bs ≡ half_joined (suc i) row bs
joined_kept row [] i l h = cc
joined_kept [] (b ∷ bs) i l h = cc
joined_kept (r ∷ row) (b ∷ bs) zero l h = let e : b ≡ true = cc in ap (λ x. x ∷ left_in_both row bs) (ap (λ x. r && x) e ∙ and-true r)
joined_kept (r ∷ row) (b ∷ bs) (suc i) l h = ap (λ xs. r ∷ xs) (joined_kept row bs i (omega arith) h)

pub joined_cut : (row bs : Holding) (i : ℕ) → length row ≡ length bs → slice_get bs i ≡ Some false → half_joined i row bs ≡ half_joined (suc i) (slice_set row i false) bs
joined_cut row [] i l h = cc
joined_cut [] (b ∷ bs) i l h = cc
joined_cut (r ∷ row) (b ∷ bs) zero l h = let e : b ≡ false = cc in ap (λ x. x ∷ left_in_both row bs) (ap (λ x. r && x) e ∙ and-false r)
joined_cut (r ∷ row) (b ∷ bs) (suc i) l h = ap (λ xs. r ∷ xs) (joined_cut row bs i (omega arith) h)

-- a step of the walk over the rows
pub joined_more : (row bs : Holding) (i : ℕ) (b : Bool) → length row ≡ length bs → slice_get bs i ≡ Some b
    → half_joined i row bs ≡ half_joined (i + 1) (if b then row else slice_set row i false) bs
joined_more row bs i true l h = rw add-one (joined_kept row bs i l h)
joined_more row bs i false l h = rw add-one (joined_cut row bs i l h)

pub length-kept : (row : Holding) (i : ℕ) (b : Bool) → length (if b then row else slice_set row i false) ≡ length row
length-kept row i true = refl
length-kept row i false = length-set row i false

-- ---- one use
taken-other : (ms : List Mode) (i : ℕ) (hs : Holding) (m : Mode) → slice_get ms i ≡ Some m → is_persistent m ≡ false → taken ms i hs ≡ slice_set hs i false
taken-other [] i hs m p e = cc
taken-other (n ∷ ms) i [] m p e = refl
taken-other (n ∷ ms) zero (h ∷ hs) m p e = let q : n ≡ m = cc in ap (λ b. (b && h) ∷ hs) (ap is_persistent q ∙ e)
taken-other (n ∷ ms) (suc i) (h ∷ hs) m p e = ap (λ xs. h ∷ xs) (taken-other ms i hs m p e)

taken-persistent : (ms : List Mode) (i : ℕ) (hs : Holding) (m : Mode) → slice_get ms i ≡ Some m → is_persistent m ≡ true → taken ms i hs ≡ hs
taken-persistent [] i hs m p e = refl
taken-persistent (n ∷ ms) i [] m p e = refl
taken-persistent (n ∷ ms) zero (h ∷ hs) m p e = let q : n ≡ m = cc in ap (λ b. (b && h) ∷ hs) (ap is_persistent q ∙ e)
taken-persistent (n ∷ ms) (suc i) (h ∷ hs) m p e = ap (λ xs. h ∷ xs) (taken-persistent ms i hs m p e)

pub taken_by_mode : (ms : List Mode) (i : ℕ) (hs : Holding) (m : Mode) → slice_get ms i ≡ Some m → (if is_persistent m then hs else slice_set hs i false) ≡ taken ms i hs
taken_by_mode ms i hs Persistent p = sym (taken-persistent ms i hs Persistent p refl)
taken_by_mode ms i hs Affine p = sym (taken-other ms i hs Affine p refl)
taken_by_mode ms i hs Linear p = sym (taken-other ms i hs Linear p refl)

pub length-taken : (ms : List Mode) (i : ℕ) (hs : Holding) → length (taken ms i hs) ≡ length hs
length-taken [] i hs = refl
length-taken (m ∷ ms) i [] = refl
length-taken (m ∷ ms) zero (h ∷ hs) = refl
length-taken (m ∷ ms) (suc i) (h ∷ hs) = ap suc (length-taken ms i hs)
