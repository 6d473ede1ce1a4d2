-- Tables of ids: a comparison under tables is one of renamed trees.
use Rattle.std.specs.Prelude.{ℕ, zero, suc, ◌+◌, ◌-◌, ◌≡◌, ◌<◌, ◌≤◌, List, [], ◌∷◌, ◌++◌, length, refl, Some, None, slice_get}
use Rattle.std.proofs.Common.{Option, ap, sym, subst, ◌∙◌, arith, ⊎_elim}
use Rattle.clf_syntax.proofs.RenamingLaws.{composed_neutral, cut, ext, lift_out}
use Rattle.clf_syntax.specs.Renaming.{lifted, ren_expression, ren_neutral, ren_tuple, up}
use Rattle.clf_syntax.specs.Tree.{PlainExpression, PlainNeutral, PlainTuple, done, steps_on}
use Rattle.clf_syntax.specs.declared.tree.Mode.{Mode}
use Rattle.trace_equal.proofs.Fitting.{entered_in, entered_out}
use Rattle.trace_equal.proofs.Places.{all_places_cover, first_is_one, search_finds}
use Rattle.trace_equal.proofs.FirstMatching.{is_first}
use Rattle.trace_equal.proofs.WideSteps.{lift_lift, size_ren}
use Rattle.trace_equal.specs.Laws.{AllPlacesCover, FirstIsFoundUnderTables}
use Rattle.trace_equal.specs.Places.{Covers, Right, entered, right, rights, search}
use Rattle.trace_equal.specs.Search.{first}
use Rattle.trace_equal.specs.Steps.{result_of, size}
use Rattle.trace_equal.specs.Ids.{EachUnder, by, by_id, ids, rights_by, table_after, total}

pub under_at : (d : ℕ) (t : List ℕ) (i k : ℕ) → EachUnder d t → slice_get t i ≡ Some k → k < d
under_at d [] i k h e = absurd (cc)
under_at d (j ∷ t) zero k (l, h) e = subst (λ x. x < d) (first_of_some e) l
  where
    first_of_some : Some j ≡ Some k → j ≡ k
    first_of_some e = cc
under_at d (j ∷ t) (suc i) k (l, h) e = under_at d t i k h e

pub under_more : (d e : ℕ) (t : List ℕ) → d ≤ e → EachUnder d t → EachUnder e t
under_more d e [] l h = tt
under_more d e (i ∷ t) l (k, h) = (less l k, under_more d e t l h)
  where
    less : d ≤ e → i < d → i < e
    less l k = omega arith

pub under_ids : (d n e : ℕ) (t : List ℕ) → d + n ≤ e → EachUnder e t → EachUnder e (ids d n ++ t)
under_ids d zero e t l h = h
under_ids d (suc n) e t l h = (omega arith, under_ids d n e t (omega arith) h)

past_one : (d : ℕ) (t : List ℕ) (i : ℕ) (o : Option ℕ) → ((k : ℕ) → o ≡ Some k → k < d) → by_id (d + 1) (d ∷ t) (suc i) o ≡ by_id d t i o + 1
past_one d t i None h = omega arith
past_one d t i (Some k) h = less (h k refl)
  where
    less : k < d → d + 1 - 1 - k ≡ d - 1 - k + 1
    less l = omega arith

-- a new variable on both sides
pub by_new : (d : ℕ) (t : List ℕ) → EachUnder d t → by (d + 1) (d ∷ t) ≡ lifted 1 (by d t)
by_new d t h = ext (λ i. at i)
  where
    at : (i : ℕ) → by (d + 1) (d ∷ t) i ≡ lifted 1 (by d t) i
    at zero = zeros
      where
        zeros : d + 1 - 1 - d ≡ lifted 1 (by d t) zero
        zeros = grind arith
    at (suc i) = past_one d t i (slice_get t i) (λ k e. under_at d t i k h e) ∙ sym (lift_out 1 (by d t) (suc i) (omega arith) ∙ ap (λ j. by d t j + 1) fall)
      where
        fall : suc i - 1 ≡ i
        fall = omega arith

by_id_more : (d k : ℕ) (t : List ℕ) (i : ℕ) (o : Option ℕ) → ((j : ℕ) → o ≡ Some j → j < d) → by_id (d + k) t i o ≡ by_id d t i o + k
by_id_more d k t i None h = omega arith
by_id_more d k t i (Some j) h = less (h j refl)
  where
    less : j < d → d + k - 1 - j ≡ d - 1 - j + k
    less l = omega arith

-- ids that are given and stand in no table
pub by_more : (d k : ℕ) (t : List ℕ) → EachUnder d t → (i : ℕ) → by (d + k) t i ≡ by d t i + k
by_more d k t h i = by_id_more d k t i (slice_get t i) (λ j e. under_at d t i j h e)

-- several new variables
pub by_several : (d n : ℕ) (t : List ℕ) → EachUnder d t → by (d + n) (ids d n ++ t) ≡ lifted n (by d t)
by_several d zero t h = ap (λ k. by k t) (nothing) ∙ ext (λ i. same i)
  where
    nothing : d + 0 ≡ d
    nothing = omega arith

    same : (i : ℕ) → by d t i ≡ lifted 0 (by d t) i
    same i = grind arith
by_several d (suc n) t h =
    ap (λ k. by k (ids d (suc n) ++ t)) sum ∙ ap (λ k. by (d + n + 1) (k ∷ (ids d n ++ t))) swap ∙ by_new (d + n) (ids d n ++ t) (under_ids d n (d + n) t (omega arith) (under_more d (d + n) t (omega arith) h))
    ∙ ap (lifted 1) (by_several d n t h) ∙ lift_lift 1 n (by d t) ∙ ap (λ k. lifted k (by d t)) back
  where
    sum : d + suc n ≡ d + n + 1
    sum = omega arith

    swap : n + d ≡ d + n
    swap = omega arith

    back : 1 + n ≡ suc n
    back = omega arith

pub get_new : (d n : ℕ) (t : List ℕ) (i : ℕ) → i < n → slice_get (ids d n ++ t) i ≡ Some (d + (n - 1 - i))
get_new d zero t i h = absurd (omega arith)
get_new d (suc n) t zero h = ap (λ k. Some k) (omega arith)
get_new d (suc n) t (suc i) h = get_new d n t i (omega arith) ∙ ap (λ k. Some (d + k)) (omega arith)

pub get_past : (d n : ℕ) (t : List ℕ) (i : ℕ) → slice_get (ids d n ++ t) (i + n) ≡ slice_get t i
get_past d zero t i = ap (slice_get t) (omega arith)
get_past d (suc n) t i = ap (slice_get ((n + d) ∷ (ids d n ++ t))) sum ∙ get_past d n t i
  where
    sum : i + suc n ≡ suc (i + n)
    sum = omega arith

pub length_ids : (d n : ℕ) (t : List ℕ) → length (ids d n ++ t) ≡ n + length t
length_ids d zero t = omega arith
length_ids d (suc n) t = ap suc (length_ids d n t) ∙ omega arith

-- Variables that get ids which were given before, from f on, are entered at the number of these ids.
pub by_entered : (d f n a : ℕ) (t : List ℕ) → d ≡ a + n + f → by d (ids f n ++ t) ≡ entered n a (by d t)
by_entered d f n a t e = ext (λ i. ⊎_elim (λ h. inner i h) (λ h. outer i h) (cut i n))
  where
    count : (i : ℕ) → i < n → d - 1 - (f + (n - 1 - i)) ≡ i + a
    count i h = omega arith

    inner : (i : ℕ) → i < n → by d (ids f n ++ t) i ≡ entered n a (by d t) i
    inner i h = ap (by_id d (ids f n ++ t) i) (get_new f n t i h) ∙ count i h ∙ sym (entered_in n a (by d t) i h)

    fall : (i : ℕ) → n ≤ i → i ≡ i - n + n
    fall i h = omega arith

    below_all : (i l k : ℕ) → n ≤ i → l ≡ n + k → i - l + d ≡ i - n - k + d
    below_all i l k h g = omega arith

    same : (i : ℕ) → n ≤ i → (o : Option ℕ) → by_id d (ids f n ++ t) i o ≡ by_id d t (i - n) o
    same i h (Some k) = refl
    same i h None = below_all i (length (ids f n ++ t)) (length t) h (length_ids f n t)

    outer : (i : ℕ) → n ≤ i → by d (ids f n ++ t) i ≡ entered n a (by d t) i
    outer i h = ap (by_id d (ids f n ++ t) i) (ap (slice_get (ids f n ++ t)) (fall i h) ∙ get_past f n t (i - n)) ∙ same i h (slice_get t (i - n)) ∙ sym (entered_out n a (by d t) i h)

-- ---- the steps of the right side
pub size_of_steps : (ss : List (List Mode × PlainNeutral)) (t : PlainTuple) → size (steps_on ss (done t)) ≡ total ss
size_of_steps [] t = refl
size_of_steps (s ∷ ss) t = ap (λ k. k + length s.0) (size_of_steps ss t)

pub ids_under : (d n : ℕ) (u : List ℕ) → EachUnder d u → EachUnder (d + n) (ids d n ++ u)
ids_under d n u h = under_ids d n (d + n) u (omega arith) (under_more d (d + n) u (omega arith) h)

one_right : (a b : ℕ) (q : List Mode) {v w : PlainNeutral} {xs ys : List Right} → a ≡ b → v ≡ w → xs ≡ ys → (right a q v ∷ xs) ≡ (right b q w ∷ ys)
one_right a b q x y z = cc

pub rights_by_tables : (e d : ℕ) (u : List ℕ) (ss : List (List Mode × PlainNeutral)) (t : PlainTuple) → EachUnder d u → e ≡ d + total ss
    → rights (ren_expression (by d u) (steps_on ss (done t))) ≡ rights_by e d u ss
rights_by_tables e d u [] t h g = refl
rights_by_tables e d u (s ∷ ss) t h g = one_right (size (ren_expression (lifted (length s.0) (by d u)) (steps_on ss (done t)))) (e - d - length s.0) s.0 (bound sizes) (side sizes)
    (ap (λ r. rights (ren_expression r (steps_on ss (done t)))) (sym (by_several d (length s.0) u h)) ∙ rights_by_tables e (d + length s.0) (ids d (length s.0) ++ u) ss t (ids_under d (length s.0) u h) (rest g))
  where
    sizes : size (ren_expression (lifted (length s.0) (by d u)) (steps_on ss (done t))) ≡ total ss
    sizes = size_ren (lifted (length s.0) (by d u)) (steps_on ss (done t)) ∙ size_of_steps ss t

    bound : size (ren_expression (lifted (length s.0) (by d u)) (steps_on ss (done t))) ≡ total ss → size (ren_expression (lifted (length s.0) (by d u)) (steps_on ss (done t))) ≡ e - d - length s.0
    bound l = omega arith

    rest : e ≡ d + (total ss + length s.0) → e ≡ d + length s.0 + total ss
    rest l = omega arith

    side : size (ren_expression (lifted (length s.0) (by d u)) (steps_on ss (done t))) ≡ total ss
        → ren_neutral (up (size (ren_expression (lifted (length s.0) (by d u)) (steps_on ss (done t))) + length s.0)) (ren_neutral (by d u) s.1) ≡ ren_neutral (by e u) s.1
    side l = composed_neutral (up (size (ren_expression (lifted (length s.0) (by d u)) (steps_on ss (done t))) + length s.0)) (by d u) s.1
        ∙ ap (λ r. ren_neutral r s.1) (ext (λ i. ap (λ k. by d u i + (k + length s.0)) l ∙ sym (by_more d (total ss + length s.0) u h i) ∙ ap (λ k. by k u i) (sym g)))

pub result_by_tables : (e d : ℕ) (u : List ℕ) (ss : List (List Mode × PlainNeutral)) (t : PlainTuple) → EachUnder d u → e ≡ d + total ss
    → result_of (ren_expression (by d u) (steps_on ss (done t))) ≡ ren_tuple (by e (table_after d u ss)) t
result_by_tables e d u [] t h g = ap (λ k. ren_tuple (by k u) t) (sum g)
  where
    sum : e ≡ d + 0 → d ≡ e
    sum g = omega arith
result_by_tables e d u (s ∷ ss) t h g = ap (λ r. result_of (ren_expression r (steps_on ss (done t)))) (sym (by_several d (length s.0) u h))
    ∙ result_by_tables e (d + length s.0) (ids d (length s.0) ++ u) ss t (ids_under d (length s.0) u h) (rest g)
  where
    rest : e ≡ d + (total ss + length s.0) → e ≡ d + length s.0 + total ss
    rest l = omega arith

-- The search under tables finds the first matching.
pub found_by_tables : (e d : ℕ) (t u : List ℕ) (l : PlainExpression) (ss : List (List Mode × PlainNeutral)) (w : PlainTuple) (cs : List (List ℕ))
    → EachUnder d t → EachUnder d u → e ≡ d + total ss → Covers cs (ren_expression (by d t) l) (ren_expression (by d u) (steps_on ss (done w)))
    → search (rights_by e d u ss) (ren_tuple (by e (table_after d u ss)) w) cs (by e t) [] l ≡ first (ren_expression (by d t) l) (ren_expression (by d u) (steps_on ss (done w)))
found_by_tables e d t u l ss w cs h k g c =
    sym (ap (λ ys. search ys (result_of f) cs (λ i. by d t i + size f) [] l) (rights_by_tables e d u ss w k g)
    ∙ ap (λ x. search (rights_by e d u ss) x cs (λ i. by d t i + size f) [] l) (result_by_tables e d u ss w k g)
    ∙ ap (λ r. search (rights_by e d u ss) (ren_tuple (by e (table_after d u ss)) w) cs r [] l) (ext (λ i. ap (λ j. by d t i + j) sizes ∙ sym (by_more d (total ss) t h i) ∙ ap (λ j. by j t i) (sym g))))
    ∙ first_is_one (ren_expression (by d t) l) f (search (rights f) (result_of f) cs (λ i. by d t i + size f) [] l) (first (ren_expression (by d t) l) f) (search_finds (by d t) l f cs c) (is_first (ren_expression (by d t) l) f)
  where
    f : PlainExpression
    f = ren_expression (by d u) (steps_on ss (done w))

    sizes : size f ≡ total ss
    sizes = size_ren (by d u) (steps_on ss (done w)) ∙ size_of_steps ss w

pub first_under_tables : FirstIsFoundUnderTables
first_under_tables d t u l ss w cs h k c = found_by_tables (d + total ss) d t u l ss w cs h k refl c

pub all_are_candidates : AllPlacesCover
all_are_candidates = all_places_cover

pub ruleset table_laws = (first_under_tables)
