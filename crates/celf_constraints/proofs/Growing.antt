-- A set of places that grows: what is held comes to an end, and what comes to an end is held when nothing is added.
use Rattle.std.specs.Prelude.{ℕ, zero, suc, ◌≡◌, ◌<◌, ◌+◌, ◌⊎◌, Bool, true, false, List, [], ◌∷◌, ◌++◌, length, map, drop, Option, Some, None, if◌then◌else◌, get_or, set, Result, Ok, Err, IfOk, ◌↔◌, refl}
use Rattle.std.specs.List.{slice_get}
use Rattle.std.proofs.Common.{ap, sym, ◌∙◌, subst, inl, inr, ⊎_elim, arith}
use Rattle.pattern_laws.specs.Patterns.{Place as PlainPlace, blank, local_at, mask_at, Ends, ends_here, ends_later}
use Rattle.celf_constraints.specs.declared.places.Place.{Place}
use Rattle.celf_constraints.specs.Reading.{plain_place}
use Rattle.celf_constraints.specs.Ended.{local_of, StandsAt, IsOpen, EndsIn, ends_there, ends_beyond}

-- how many places are not held
abbrev pub unheld : List Bool → ℕ
unheld [] = 0
unheld (true ∷ bs) = unheld bs
unheld (false ∷ bs) = suc (unheld bs)

pub at_place : (xs : List (Option ℕ)) (i : ℕ) (d : Option ℕ) → i < length xs → slice_get xs i ≡ Some (get_or xs i d)
at_place [] i d l = absurd (omega (arith, l))
at_place (x ∷ xs) zero d l = refl
at_place (x ∷ xs) (suc i) d l = at_place xs i d (omega (arith, l))

pub stands_within : (xs : List (Option ℕ)) (i v : ℕ) → StandsAt xs i v → i < length xs
stands_within [] i v e = absurd (cc)
stands_within (x ∷ xs) zero v e = omega arith
stands_within (x ∷ xs) (suc i) v e = let k : i < length xs = stands_within xs i v e in omega (arith, k)

pub mask_get : (bs : List Bool) (i : ℕ) → mask_at bs i ≡ get_or bs i false
mask_get [] i = refl
mask_get (b ∷ bs) zero = refl
mask_get (b ∷ bs) (suc i) = mask_get bs i

pub mask_beyond : (bs : List Bool) (i : ℕ) → (i < length bs → ⊥) → mask_at bs i ≡ false
mask_beyond [] i h = refl
mask_beyond (b ∷ bs) zero h = absurd (h (omega arith))
mask_beyond (b ∷ bs) (suc i) h = mask_beyond bs i (λ l. h (omega (arith, l)))

pub mask_more : (bs : List Bool) (j : ℕ) → mask_at bs j ≡ false → mask_at (bs ++ false ∷ []) j ≡ false
mask_more [] zero e = refl
mask_more [] (suc j) e = refl
mask_more (b ∷ bs) zero e = e
mask_more (b ∷ bs) (suc j) e = mask_more bs j e

-- what is held after one place was added
pub held_more : (bs : List Bool) (i j : ℕ) → mask_at (set bs i true) j ≡ true → (j ≡ i) ⊎ (mask_at bs j ≡ true)
held_more [] i j e = absurd (cc)
held_more (b ∷ bs) zero zero e = inl refl
held_more (b ∷ bs) zero (suc j) e = inr e
held_more (b ∷ bs) (suc i) zero e = inr e
held_more (b ∷ bs) (suc i) (suc j) e = ⊎_elim (λ k. inl (ap suc k)) (λ k. inr k) (held_more bs i j e)

pub fewer : (bs : List Bool) (i : ℕ) → i < length bs → mask_at bs i ≡ false → unheld (set bs i true) < unheld bs
fewer [] i l e = absurd (omega (arith, l))
fewer (true ∷ bs) zero l e = absurd (cc)
fewer (false ∷ bs) zero l e = omega arith
fewer (true ∷ bs) (suc i) l e = fewer bs i (omega (arith, l)) e
fewer (false ∷ bs) (suc i) l e = let k : unheld (set bs i true) < unheld bs = fewer bs i (omega (arith, l)) e in omega (arith, k)

-- The place that is added comes to an end.
pub added_ends : (xs zs : List (Option ℕ)) (held : List Bool) → ((j : ℕ) → mask_at held j ≡ true → EndsIn xs zs j) → (i : ℕ) → IsOpen xs zs held i → (j : ℕ) → mask_at (set held i true) j ≡ true → EndsIn xs zs j
added_ends xs zs held f i o j e = ⊎_elim (λ k. subst (EndsIn xs zs) (sym k) now) (λ h. f j h) (held_more held i j e)
  where
    now : EndsIn xs zs i
    now = ⊎_elim (λ h. ends_there o.stands h) (λ a. ends_beyond o.stands a.1 (f a.0 a.2)) o.leads

cases_of : (b : Bool) → (b ≡ true) ⊎ (b ≡ false)
cases_of true = inl refl
cases_of false = inr refl

-- Where nothing is to be added, all that comes to an end is held.
pub all_held : (xs zs : List (Option ℕ)) (held : List Bool) → ((j : ℕ) → IsOpen xs zs held j → ⊥) → {j : ℕ} → EndsIn xs zs j → mask_at held j ≡ true
all_held xs zs held f (ends_there {j = j} {v = v} s h) = ⊎_elim (λ e. e) (λ e. absurd (f j (record { local = v; stands = s; unheld = e; leads = inl h }))) (cases_of (mask_at held j))
all_held xs zs held f (ends_beyond {j = j} {i = i} {v = v} s t n) = ⊎_elim (λ e. e) (λ e. absurd (f j (record { local = v; stands = s; unheld = e; leads = inr (i, t, all_held xs zs held f n) }))) (cases_of (mask_at held j))

-- The local at a place, in the list of the locals.
some_local : (b : Bool) (x v : ℕ) → (if b then None else Some x) ≡ Some v → Some (if b then None else Some x) ≡ Some (Some v)
some_local b x v e = ap (λ o. Some o) e

pub to_list : (ps : List PlainPlace) (i v : ℕ) → local_at ps i ≡ Some v → StandsAt (map local_of ps) i v
to_list [] i v e = absurd (cc)
to_list (p ∷ ps) zero v e = some_local (blank p.1) p.2 v e
to_list (p ∷ ps) (suc i) v e = to_list ps i v e

pub inner : {a b : Option ℕ} → Some a ≡ Some b → a ≡ b
inner e = cc

pub from_list : (ps : List PlainPlace) (i v : ℕ) → StandsAt (map local_of ps) i v → local_at ps i ≡ Some v
from_list [] i v e = absurd (cc)
from_list (p ∷ ps) zero v e = inner e
from_list (p ∷ ps) (suc i) v e = from_list ps i v e

pub ends_out : (ps zs : List PlainPlace) {j : ℕ} → EndsIn (map local_of ps) (map local_of zs) j → Ends ps zs j
ends_out ps zs (ends_there {j = j} {v = v} s h) = ends_here (from_list ps j v s) (λ i k. h i (to_list zs i v k))
ends_out ps zs (ends_beyond {j = j} {i = i} {v = v} s t n) = ends_later (from_list ps j v s) (from_list zs i v t) (ends_out ps zs n)

pub ends_in : (ps zs : List PlainPlace) {j : ℕ} → Ends ps zs j → EndsIn (map local_of ps) (map local_of zs) j
ends_in ps zs (ends_here {j = j} {v = v} e h) = ends_there (to_list ps j v e) (λ i k. h i (from_list zs i v k))
ends_in ps zs (ends_later {j = j} {i = i} {v = v} e f n) = ends_beyond (to_list ps j v e) (to_list zs i v f) (ends_in ps zs n)

pub none_lengths : (xs : List (Option ℕ)) → length (map (λ (x : Option ℕ). false) xs) ≡ length xs
none_lengths [] = refl
none_lengths (x ∷ xs) = ap suc (none_lengths xs)

pub none_ends : (xs : List (Option ℕ)) (j : ℕ) → mask_at (map (λ (x : Option ℕ). false) xs) j ≡ true → {A : Type 0} → A
none_ends [] j e = absurd (cc)
none_ends (x ∷ xs) zero e = absurd (cc)
none_ends (x ∷ xs) (suc j) e = none_ends xs j e

pub both_maps : (ps : List Place) → map (λ (p : Place). local_of (plain_place p)) ps ≡ map local_of (map plain_place ps)
both_maps [] = refl
both_maps (p ∷ ps) = ap (λ xs. local_of (plain_place p) ∷ xs) (both_maps ps)

pub ends_of : {V E : Type 0} (f : V → List Bool) (r : Result V E) (xs zs : List (Option ℕ)) (ps qs : List PlainPlace) → xs ≡ map local_of ps → zs ≡ map local_of qs
    → IfOk r (λ v. (j : ℕ) → (mask_at (f v) j ≡ true) ↔ EndsIn xs zs j) → IfOk r (λ v. (j : ℕ) → (mask_at (f v) j ≡ true) ↔ Ends ps qs j)
ends_of f (Ok v) xs zs ps qs e h k = λ j. (
  (λ m. ends_out ps qs (subst (λ ys. EndsIn (map local_of ps) ys j) h (subst (λ ys. EndsIn ys zs j) e ((k j).0 m)))),
  (λ n. (k j).1 (subst (λ ys. EndsIn xs ys j) (sym h) (subst (λ ys. EndsIn ys (map local_of qs) j) (sym e) (ends_in ps qs n)))),
)
ends_of f (Err x) xs zs ps qs e h k = tt

pub next_false : (xs : List (Option ℕ)) (i : ℕ) → i < length xs → map (λ (x : Option ℕ). false) (drop i xs) ≡ false ∷ map (λ (x : Option ℕ). false) (drop (i + 1) xs)
next_false [] i l = absurd (omega (arith, l))
next_false (x ∷ xs) zero l = refl
next_false (x ∷ xs) (suc i) l = next_false xs i (omega (arith, l)) ∙ ap (λ k. false ∷ map (λ (y : Option ℕ). false) (drop k (x ∷ xs))) (over i)
  where
    over : (i : ℕ) → suc (i + 1) ≡ suc i + 1
    over i = omega arith
