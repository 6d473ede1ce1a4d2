-- A comparison under tables is one of renamed trees.
use Rattle.std.specs.Prelude.{ℕ, zero, suc, ◌+◌, ◌-◌, ◌≡◌, ◌<◌, ◌≤◌, ◌&&◌, nat_eq, nat_lt, if◌then◌else◌, Bool, true, false, List, [], ◌∷◌, ◌++◌, length, map, reverse, refl, Option, Some, None, is_some, slice_get, IsTrue, ◌↔◌}
use Rattle.std.proofs.Common.{ap, sym, subst, ◌∙◌, arith}
use Rattle.std.proofs.lemmas.List.{reverse-append}
use Rattle.clf_syntax.proofs.RenamingLaws.{ext, identity, identity_expression}
use Rattle.clf_syntax.specs.Renaming.{Renumbering, lifted, ren, ren_expression, ren_head, ren_neutral, ren_tuple}
use Rattle.clf_syntax.specs.Tree.{PlainExpression, PlainNeutral, PlainObject, PlainTuple, app, atomic, done, empty, entry, fst, head_alone, hole, lam, monadic, pair, snd, step, steps_on, unit}
use Rattle.clf_syntax.specs.declared.tree.Head.{Head}
use Rattle.clf_syntax.specs.declared.tree.Head.TheVariants.{Const, Meta, Var}
use Rattle.clf_syntax.specs.declared.tree.Mode.{Mode}
use Rattle.trace_equal.specs.declared.tables.Place.{Place}
use Rattle.trace_equal.specs.declared.tables.Place.TheVariants.{Bound, Outside}
use Rattle.trace_equal.specs.declared.tables.Run.{Run}
use Rattle.trace_equal.specs.declared.tables.Tables.{Tables}
use Rattle.trace_equal.proofs.Bijections.{map_length, wide_length_ren}
use Rattle.trace_equal.proofs.FirstMatching.{is_first, modes_sound, same_is_joined}
use Rattle.trace_equal.proofs.Fronts.{halves}
use Rattle.trace_equal.proofs.Ids.{by_entered, by_several, first_under_tables, get_new, get_past, ids_under, length_ids, under_at, under_ids, under_more}
use Rattle.trace_equal.proofs.Places.{all_places_cover}
use Rattle.trace_equal.specs.Bijection.{IsFirstMatching, IsMatching}
use Rattle.trace_equal.specs.Comparing.{Right, compared, compared_head, compared_neutral, compared_tuple, count_from, first_under, no_ids, onward, own_run, place, place_in, rights_from, run_of, same_count, same_place, serving, sought, steps_of, taken, with_both, with_fresh, with_left, with_right}
use Rattle.trace_equal.specs.Exchange.{Joined}
use Rattle.trace_equal.specs.Ids.{EachUnder, by, by_id, ids, rights_by, table_after, total}
use Rattle.trace_equal.specs.Places.{Covers, Right as NumberedRight, all_places, chosen, each, entered, is_absent, right, search, serves, tried}
use Rattle.clf_syntax.specs.Modes.{same_mode, same_modes}
use Rattle.trace_equal.specs.Search.{first, is_joined, is_joined_neutral, is_joined_tuple, same_head}
use Rattle.trace_equal.specs.Steps.{result_of, wide_steps}

-- ---- the ids of a table, the newest first
abbrev pub ids_in : List Run → List ℕ
ids_in [] = []
ids_in (r ∷ rs) = ids r.first r.count ++ ids_in rs

abbrev pub table : List Run → List ℕ
table runs = ids_in (reverse runs)

table-snoc : (runs : List Run) (r : Run) → table (runs ++ r ∷ []) ≡ ids r.first r.count ++ table runs
table-snoc runs r = ap ids_in (reverse-append runs (r ∷ []))

-- each id is given
pub record Given (s : Tables) : Type 0 where
  pub left : EachUnder s.fresh (table s.left)
  pub right : EachUnder s.fresh (table s.right)

abbrev pub left_by : Tables → Renumbering
left_by s = by s.fresh (table s.left)

abbrev pub right_by : Tables → Renumbering
right_by s = by s.fresh (table s.right)

-- ---- variables
abbrev IsPlace : Place → List ℕ → ℕ → Type 0
IsPlace (Bound k) t i = slice_get t i ≡ Some k
IsPlace (Outside m) t i = (slice_get t i ≡ None) × (i ≡ m + length t)

below_count : (i n : ℕ) → nat_lt i n ≡ true → i < n
below_count i n e = grind arith

past_count : (i n : ℕ) → nat_lt i n ≡ false → n ≤ i
past_count i n e = grind arith

back : (i n : ℕ) → n ≤ i → i - n + n ≡ i
back i n h = omega arith

place_is : (rs : List Run) (i : ℕ) → IsPlace (place_in rs i) (ids_in rs) i
place_is [] i = (refl, omega arith)
place_is (r ∷ rs) i = at (nat_lt i r.count) refl (place_is rs (i - r.count))
  where
    deeper : (n : ℕ) → n ≤ i → (p : Place) → IsPlace p (ids_in rs) (i - n) → n ≡ r.count → IsPlace p (ids r.first n ++ ids_in rs) i
    deeper n h (Bound k) e f = ap (slice_get (ids r.first n ++ ids_in rs)) (sym (back i n h)) ∙ get_past r.first n (ids_in rs) (i - n) ∙ e
    deeper n h (Outside m) (e, g) f = (ap (slice_get (ids r.first n ++ ids_in rs)) (sym (back i n h)) ∙ get_past r.first n (ids_in rs) (i - n) ∙ e, count h g (length_ids r.first n (ids_in rs)))
      where
        count : n ≤ i → i - n ≡ m + length (ids_in rs) → length (ids r.first n ++ ids_in rs) ≡ n + length (ids_in rs) → i ≡ m + length (ids r.first n ++ ids_in rs)
        count h g l = omega arith

    at : (b : Bool) → nat_lt i r.count ≡ b → IsPlace (place_in rs (i - r.count)) (ids_in rs) (i - r.count) → IsPlace (if b then Bound (r.first + (r.count - 1 - i)) else place_in rs (i - r.count)) (ids r.first r.count ++ ids_in rs) i
    at true e h = get_new r.first r.count (ids_in rs) i (below_count i r.count e)
    at false e h = deeper r.count (past_count i r.count e) (place_in rs (i - r.count)) h refl

places_same : (d : ℕ) (t u : List ℕ) (i j : ℕ) (p q : Place) → EachUnder d t → EachUnder d u → IsPlace p t i → IsPlace q u j → same_place p q ≡ nat_eq (by d t i) (by d u j)
places_same d t u i j (Bound k) (Bound l) h g e f = numbers (under_at d t i k h e) (under_at d u j l g f) ∙ sym (ap (λ o. nat_eq (by_id d t i o) (by d u j)) e ∙ ap (λ o. nat_eq (d - 1 - k) (by_id d u j o)) f)
  where
    numbers : k < d → l < d → nat_eq k l ≡ nat_eq (d - 1 - k) (d - 1 - l)
    numbers a b = grind arith
places_same d t u i j (Bound k) (Outside n) h g e (f, m) = numbers (under_at d t i k h e) m ∙ sym (ap (λ o. nat_eq (by_id d t i o) (by d u j)) e ∙ ap (λ o. nat_eq (d - 1 - k) (by_id d u j o)) f)
  where
    numbers : k < d → j ≡ n + length u → false ≡ nat_eq (d - 1 - k) (j - length u + d)
    numbers a b = grind arith
places_same d t u i j (Outside n) (Bound l) h g (e, m) f = numbers (under_at d u j l g f) m ∙ sym (ap (λ o. nat_eq (by_id d t i o) (by d u j)) e ∙ ap (λ o. nat_eq (i - length t + d) (by_id d u j o)) f)
  where
    numbers : l < d → i ≡ n + length t → false ≡ nat_eq (i - length t + d) (d - 1 - l)
    numbers a b = grind arith
places_same d t u i j (Outside n) (Outside m) h g (e, x) (f, y) = numbers x y ∙ sym (ap (λ o. nat_eq (by_id d t i o) (by d u j)) e ∙ ap (λ o. nat_eq (i - length t + d) (by_id d u j o)) f)
  where
    numbers : i ≡ n + length t → j ≡ m + length u → nat_eq n m ≡ nat_eq (i - length t + d) (j - length u + d)
    numbers a b = grind arith

heads : (s : Tables) → Given s → (h j : Head) → compared_head s h j ≡ same_head (ren_head (left_by s) h) (ren_head (right_by s) j)
heads s g (Const c) (Const d) = refl
heads s g (Const c) (Var j) = refl
heads s g (Const c) (Meta d) = refl
heads s g (Var i) (Const d) = refl
heads s g (Var i) (Var j) = places_same s.fresh (table s.left) (table s.right) i j (place s.left i) (place s.right j) g.left g.right (place_is (reverse s.left) i) (place_is (reverse s.right) j)
heads s g (Var i) (Meta d) = refl
heads s g (Meta c) (Const d) = refl
heads s g (Meta c) (Var j) = refl
heads s g (Meta c) (Meta d) = refl

-- ---- what is entered
entered_table : (d n : ℕ) (runs : List Run) → EachUnder d (table runs) → by (d + n) (table (runs ++ run_of d n ∷ [])) ≡ lifted n (by d (table runs))
entered_table d n runs h = ap (by (d + n)) (table-snoc runs (run_of d n)) ∙ by_several d n (table runs) h

given_both : (s : Tables) → Given s → Given (with_both s)
given_both s g = record {
  left = subst (EachUnder (s.fresh + 1)) (sym (table-snoc s.left (run_of s.fresh 1))) (ids_under s.fresh 1 (table s.left) g.left);
  right = subst (EachUnder (s.fresh + 1)) (sym (table-snoc s.right (run_of s.fresh 1))) (ids_under s.fresh 1 (table s.right) g.right);
}

given_right : (s : Tables) (r : Run) → Given s → r.first + r.count ≤ s.fresh → Given (with_right s r)
given_right s r g h = record {
  left = g.left;
  right = subst (EachUnder s.fresh) (sym (table-snoc s.right r)) (under_ids r.first r.count s.fresh (table s.right) h g.right);
}

given_left : (s : Tables) (r : Run) → Given s → r.first + r.count ≤ s.fresh → Given (with_left s r)
given_left s r g h = record {
  left = subst (EachUnder s.fresh) (sym (table-snoc s.left r)) (under_ids r.first r.count s.fresh (table s.left) h g.left);
  right = g.right;
}

-- ---- the right steps
-- a right step over the variables of all of them
abbrev pub numbered : Tables → Right → NumberedRight
numbered s y = right (s.fresh - (y.0.first + y.0.count) - length y.1.0) y.1.0 (ren_neutral (right_by (with_right s y.0)) y.1.1)

-- The ids of the step's variables are given.
abbrev pub Fits : Tables → List Right → Type 0
Fits s ys = (j : ℕ) (y : Right) → slice_get ys j ≡ Some y → y.0.first + y.0.count + length y.1.0 ≤ s.fresh

get_map : {X Y : Type 0} (f : X → Y) (xs : List X) (j : ℕ) (o : Option X) → slice_get xs j ≡ o → (o ≡ None → slice_get (map f xs) j ≡ None) × ((x : X) → o ≡ Some x → slice_get (map f xs) j ≡ Some (f x))
get_map f [] j o e = ((λ h. refl), (λ x h. absurd (no (e ∙ h))))
  where
    no : {A : Type 0} {x : A} → None ≡ Some x → ⊥
    no e = cc
get_map {X = X} f (y ∷ xs) zero o e = ((λ h. absurd (no (e ∙ h))), (λ x h. ap (λ z. Some (f z)) (same (e ∙ h))))
  where
    no : Some y ≡ None → ⊥
    no e = cc

    same : {x : X} → Some y ≡ Some x → y ≡ x
    same e = cc
get_map f (y ∷ xs) (suc j) o e = get_map f xs j o e

-- how many steps
abbrev count : PlainExpression → ℕ
count (step p n e) = suc (count e)
count (done t) = 0

module _ (ys : List Right) (v : Run) (w : PlainTuple) (p : List Mode) (n : PlainNeutral) (e : PlainExpression) (cs : List (List ℕ)) (used : List ℕ) (s : Tables) (given : Given s) (fits : Fits s ys)
    (neutral : (x : Tables) → Given x → (o : PlainNeutral) → compared_neutral x n o ≡ is_joined_neutral (ren_neutral (left_by x) n) (ren_neutral (right_by x) o))
    (rest : (r : Run) (j : ℕ) → Given (with_left s r) → sought ys v w (with_left s r) cs (j ∷ used) e ≡ search (map (numbered s) ys) (ren_tuple (right_by (with_right s v)) w) cs (left_by (with_left s r)) (j ∷ used) e) where
  serving_is : (y : Right) → y.0.first + y.0.count + length y.1.0 ≤ s.fresh → serving (λ x o. compared_neutral x n o) s p y ≡ serves (left_by s) p n (numbered s y)
  serving_is y h = ap (λ b. same_modes p y.1.0 && b) (neutral (with_right s y.0) (given_right s y.0 given (less h)) y.1.1)
    where
      less : y.0.first + y.0.count + length y.1.0 ≤ s.fresh → y.0.first + y.0.count ≤ s.fresh
      less h = omega arith

  entered_is : (y : Right) → y.0.first + y.0.count + length y.1.0 ≤ s.fresh → same_modes p y.1.0 ≡ true
      → left_by (with_left s (own_run y)) ≡ entered (length p) (s.fresh - (y.0.first + y.0.count) - length y.1.0) (left_by s)
  entered_is y h m = ap (by s.fresh) (table-snoc s.left (own_run y)) ∙ by_entered s.fresh (y.0.first + y.0.count) (length y.1.0) (s.fresh - (y.0.first + y.0.count) - length y.1.0) (table s.left) (sum h)
      ∙ ap (λ k. entered k (s.fresh - (y.0.first + y.0.count) - length y.1.0) (left_by s)) (sym (ap length (modes_sound p y.1.0 m)))
    where
      sum : y.0.first + y.0.count + length y.1.0 ≤ s.fresh → s.fresh ≡ s.fresh - (y.0.first + y.0.count) - length y.1.0 + length y.1.0 + (y.0.first + y.0.count)
      sum h = omega arith

  step_is : (j : ℕ) (y : Right) → y.0.first + y.0.count + length y.1.0 ≤ s.fresh → (b : Bool) → serving (λ x o. compared_neutral x n o) s p y ≡ b
      → onward (λ x. sought ys v w x cs (j ∷ used) e) s j (if b then Some (own_run y) else None)
      ≡ (if b then chosen j (search (map (numbered s) ys) (ren_tuple (right_by (with_right s v)) w) cs (entered (length p) (s.fresh - (y.0.first + y.0.count) - length y.1.0) (left_by s)) (j ∷ used) e) else None)
  step_is j y h true m = ap (chosen j) (rest (own_run y) j (given_left s (own_run y) given h)
      ∙ ap (λ r. search (map (numbered s) ys) (ren_tuple (right_by (with_right s v)) w) cs r (j ∷ used) e) (entered_is y h (halves (same_modes p y.1.0) (compared_neutral (with_right s y.0) n y.1.1) m).0))
  step_is j y h false m = refl

  attempt_is : (j : ℕ) → taken (λ x o. compared_neutral x n o) (λ x. sought ys v w x cs (j ∷ used) e) s p j (slice_get ys j)
      ≡ tried (left_by s) p n (λ r. search (map (numbered s) ys) (ren_tuple (right_by (with_right s v)) w) cs r (j ∷ used) e) j (slice_get (map (numbered s) ys) j)
  attempt_is j = at (slice_get ys j) refl
    where
      at : (o : Option Right) → slice_get ys j ≡ o → taken (λ x o. compared_neutral x n o) (λ x. sought ys v w x cs (j ∷ used) e) s p j o
          ≡ tried (left_by s) p n (λ r. search (map (numbered s) ys) (ren_tuple (right_by (with_right s v)) w) cs r (j ∷ used) e) j (slice_get (map (numbered s) ys) j)
      at None h = sym (ap (tried (left_by s) p n (λ r. search (map (numbered s) ys) (ren_tuple (right_by (with_right s v)) w) cs r (j ∷ used) e) j) ((get_map (numbered s) ys j None h).0 refl))
      at (Some y) h = step_is j y (fits j y h) (serving (λ x o. compared_neutral x n o) s p y) refl
          ∙ ap (λ (b : Bool). if b then chosen j (search (map (numbered s) ys) (ren_tuple (right_by (with_right s v)) w) cs (entered (length p) (s.fresh - (y.0.first + y.0.count) - length y.1.0) (left_by s)) (j ∷ used) e) else None) (serving_is y (fits j y h))
          ∙ sym (ap (tried (left_by s) p n (λ r. search (map (numbered s) ys) (ren_tuple (right_by (with_right s v)) w) cs r (j ∷ used) e) j) ((get_map (numbered s) ys j (Some y) h).1 y refl))

  steps_are : (c : List ℕ) → sought ys v w s (c ∷ cs) used (step p n e) ≡ search (map (numbered s) ys) (ren_tuple (right_by (with_right s v)) w) (c ∷ cs) (left_by s) used (step p n e)
  steps_are c = ap (λ f. each (λ j. is_absent j used) f c) (ext attempt_is)

ended : (ys : List Right) (s : Tables) (u : PlainTuple) (r : Renumbering) (used : List ℕ) (t : PlainTuple) (b : Bool) → b ≡ is_joined_tuple (ren_tuple r t) u → length used ≡ length ys
    → (if b then Some [] else None) ≡ search (map (numbered s) ys) u [] r used (done t)
ended ys s u r used t b h e = ap (λ (x : Bool). if x then Some [] else None) (h ∙ sym (ap (λ x. x && is_joined_tuple (ren_tuple r t) u) (full (map_length (numbered s) ys))))
  where
    full : length (map (numbered s) ys) ≡ length ys → nat_eq (length used) (length (map (numbered s) ys)) ≡ true
    full f = grind arith

-- ---- the steps from the first on
ids_sum : (d n m : ℕ) (u : List ℕ) → ids (d + n) m ++ (ids d n ++ u) ≡ ids d (n + m) ++ u
ids_sum d n zero u = ap (λ k. ids d k ++ u) (omega arith)
ids_sum d n (suc m) u = ap (λ l. (m + (d + n)) ∷ l) (ids_sum d n m u) ∙ ap (λ k. k ∷ (ids d (n + m) ++ u)) swap ∙ ap (λ k. ids d k ++ u) (sym next)
  where
    swap : m + (d + n) ≡ n + m + d
    swap = omega arith

    next : n + suc m ≡ suc (n + m)
    next = omega arith

numbered_rights : (s : Tables) (d n : ℕ) (ss : List (List Mode × PlainNeutral)) → map (numbered s) (rights_from d n ss) ≡ rights_by s.fresh (d + n) (ids d n ++ table s.right) ss
numbered_rights s d n [] = refl
numbered_rights s d n (x ∷ ss) = ap (λ t. right (s.fresh - (d + n) - length x.0) x.0 (ren_neutral (by s.fresh t) x.1) ∷ map (numbered s) (rights_from d (n + length x.0) ss)) (table-snoc s.right (run_of d n))
    ∙ ap (λ l. right (s.fresh - (d + n) - length x.0) x.0 (ren_neutral (by s.fresh (ids d n ++ table s.right)) x.1) ∷ l) (numbered_rights s d (n + length x.0) ss
    ∙ ap (λ k. rights_by s.fresh k (ids d (n + length x.0) ++ table s.right) ss) sum ∙ ap (λ t. rights_by s.fresh (d + n + length x.0) t ss) (sym (ids_sum d n (length x.0) (table s.right))))
  where
    sum : d + (n + length x.0) ≡ d + n + length x.0
    sum = omega arith

numbered_after : (d n : ℕ) (u : List ℕ) (ss : List (List Mode × PlainNeutral)) → ids d (count_from n ss) ++ u ≡ table_after (d + n) (ids d n ++ u) ss
numbered_after d n u [] = refl
numbered_after d n u (x ∷ ss) = numbered_after d (n + length x.0) u ss ∙ ap (λ k. table_after k (ids d (n + length x.0) ++ u) ss) sum ∙ ap (λ t. table_after (d + n + length x.0) t ss) (sym (ids_sum d n (length x.0) u))
  where
    sum : d + (n + length x.0) ≡ d + n + length x.0
    sum = omega arith

count_total : (n : ℕ) (ss : List (List Mode × PlainNeutral)) → count_from n ss ≡ n + total ss
count_total n [] = omega arith
count_total n (x ∷ ss) = count_total (n + length x.0) ss ∙ sum
  where
    sum : n + length x.0 + total ss ≡ n + (total ss + length x.0)
    sum = omega arith

rights_fit : (d n e : ℕ) (ss : List (List Mode × PlainNeutral)) → d + n + total ss ≤ e → (j : ℕ) (y : Right) → slice_get (rights_from d n ss) j ≡ Some y → y.0.first + y.0.count + length y.1.0 ≤ e
rights_fit d n e [] h j y f = absurd (cc)
rights_fit d n e (x ∷ ss) h zero y f = subst (λ (z : Right). z.0.first + z.0.count + length z.1.0 ≤ e) (same f) (less h)
  where
    same : Some (run_of d n, (x.0, x.1)) ≡ Some y → (run_of d n, (x.0, x.1)) ≡ y
    same f = cc

    less : d + n + (total ss + length x.0) ≤ e → d + n + length x.0 ≤ e
    less h = omega arith
rights_fit d n e (x ∷ ss) h (suc j) y f = rights_fit d (n + length x.0) e ss (less h) j y f
  where
    less : d + n + (total ss + length x.0) ≤ e → d + (n + length x.0) + total ss ≤ e
    less h = omega arith

rights_count : (d n : ℕ) (ss : List (List Mode × PlainNeutral)) → length (rights_from d n ss) ≡ length ss
rights_count d n [] = refl
rights_count d n (x ∷ ss) = ap suc (rights_count d (n + length x.0) ss)

count_steps : (f : PlainExpression) → length (steps_of f) ≡ count f
count_steps (step p n f) = ap suc (count_steps f)
count_steps (done t) = refl

count_wide : (f : PlainExpression) → length (wide_steps f) ≡ count f
count_wide (step p n f) = ap suc (count_wide f)
count_wide (done t) = refl

parts_back : (f : PlainExpression) → steps_on (steps_of f) (done (result_of f)) ≡ f
parts_back (step p n f) = ap (step p n) (parts_back f)
parts_back (done t) = refl

count_same : (e f : PlainExpression) → same_count e f ≡ true → count e ≡ count f
count_same (step p n e) (step q v f) h = ap suc (count_same e f h)
count_same (step p n e) (done u) h = absurd (cc)
count_same (done t) (step q v f) h = absurd (cc)
count_same (done t) (done u) h = refl

same_counts : (e f : PlainExpression) → count e ≡ count f → same_count e f ≡ true
same_counts (step p n e) (step q v f) h = same_counts e f (less h)
  where
    less : suc (count e) ≡ suc (count f) → count e ≡ count f
    less h = omega arith
same_counts (step p n e) (done u) h = absurd (omega arith)
same_counts (done t) (step q v f) h = absurd (omega arith)
same_counts (done t) (done u) h = refl

-- Expressions with different numbers of steps have no matching.
none_first : (e f : PlainExpression) (r q : Renumbering) → same_count e f ≡ false → None ≡ first (ren_expression r e) (ren_expression q f)
none_first e f r q h = at (first (ren_expression r e) (ren_expression q f)) (is_first (ren_expression r e) (ren_expression q f))
  where
    apart : count e ≡ count f → ⊥
    apart g = no (sym (same_counts e f g) ∙ h)
      where
        no : true ≡ false → ⊥
        no e = cc

    counted : (m : List ℕ) → IsMatching m (ren_expression r e) (ren_expression q f) → count e ≡ count f
    counted m (s, out, len, dis, pairs, tup) = sym (wide_length_ren r e ∙ count_wide e) ∙ len ∙ wide_length_ren q f ∙ count_wide f

    at : (o : Option (List ℕ)) → IsFirstMatching (ren_expression r e) (ren_expression q f) o → None ≡ o
    at None g = refl
    at (Some m) (g, best) = absurd (apart (counted m g))

module _ (s : Tables) (given : Given s) (e f : PlainExpression)
    (searched : (ys : List Right) (v : Run) (w : PlainTuple) (x : Tables) (cs : List (List ℕ)) → Given x → Fits x ys → v.first + v.count ≤ x.fresh → count e ≡ length ys
    → sought ys v w x cs [] e ≡ search (map (numbered x) ys) (ren_tuple (right_by (with_right x v)) w) cs (left_by x) [] e) where
  found : count e ≡ count f → sought (rights_from s.fresh 0 (steps_of f)) (run_of s.fresh (count_from 0 (steps_of f))) (result_of f) (with_fresh s (s.fresh + count_from 0 (steps_of f))) (all_places (length (steps_of f)) e) [] e
      ≡ first (ren_expression (left_by s) e) (ren_expression (right_by s) f)
  found h = ap (λ n. sought (rights_from s.fresh 0 (steps_of f)) (run_of s.fresh n) (result_of f) (with_fresh s (s.fresh + n)) (all_places (length (steps_of f)) e) [] e) all
      ∙ searched (rights_from s.fresh 0 (steps_of f)) (run_of s.fresh (total (steps_of f))) (result_of f) (with_fresh s (s.fresh + total (steps_of f))) (all_places (length (steps_of f)) e) given_all
      (rights_fit s.fresh 0 (s.fresh + total (steps_of f)) (steps_of f) (omega arith)) (omega arith) (h ∙ sym (rights_count s.fresh 0 (steps_of f) ∙ count_steps f))
      ∙ ap (λ ys. search ys (ren_tuple (right_by (with_right (with_fresh s (s.fresh + total (steps_of f))) (run_of s.fresh (total (steps_of f))))) (result_of f)) (all_places (length (steps_of f)) e) (by (s.fresh + total (steps_of f)) (table s.left)) [] e)
      (numbered_rights (with_fresh s (s.fresh + total (steps_of f))) s.fresh 0 (steps_of f) ∙ ap (λ k. rights_by (s.fresh + total (steps_of f)) k (table s.right) (steps_of f)) (nothing s.fresh))
      ∙ ap (λ t. search (rights_by (s.fresh + total (steps_of f)) s.fresh (table s.right) (steps_of f)) (ren_tuple (by (s.fresh + total (steps_of f)) t) (result_of f)) (all_places (length (steps_of f)) e) (by (s.fresh + total (steps_of f)) (table s.left)) [] e)
      (table-snoc s.right (run_of s.fresh (total (steps_of f))) ∙ ap (λ n. ids s.fresh n ++ table s.right) (sym all) ∙ numbered_after s.fresh 0 (table s.right) (steps_of f) ∙ ap (λ k. table_after k (table s.right) (steps_of f)) (nothing s.fresh))
      ∙ first_under_tables s.fresh (table s.left) (table s.right) e (steps_of f) (result_of f) (all_places (length (steps_of f)) e) given.left given.right covered
      ∙ ap (λ g. first (ren_expression (left_by s) e) (ren_expression (right_by s) g)) (parts_back f)
    where
      nothing : (n : ℕ) → n + 0 ≡ n
      nothing n = omega arith

      none : 0 + total (steps_of f) ≡ total (steps_of f)
      none = omega arith

      all : count_from 0 (steps_of f) ≡ total (steps_of f)
      all = count_total 0 (steps_of f) ∙ none

      given_all : Given (with_fresh s (s.fresh + total (steps_of f)))
      given_all = record {
        left = under_more s.fresh (s.fresh + total (steps_of f)) (table s.left) (omega arith) given.left;
        right = under_more s.fresh (s.fresh + total (steps_of f)) (table s.right) (omega arith) given.right;
      }

      counted : length (wide_steps (ren_expression (right_by s) (steps_on (steps_of f) (done (result_of f))))) ≡ length (steps_of f)
      counted = wide_length_ren (right_by s) (steps_on (steps_of f) (done (result_of f))) ∙ ap (λ g. length (wide_steps g)) (parts_back f) ∙ count_wide f ∙ sym (count_steps f)

      covered : Covers (all_places (length (steps_of f)) e) (ren_expression (left_by s) e) (ren_expression (right_by s) (steps_on (steps_of f) (done (result_of f))))
      covered = subst (λ n. Covers (all_places n e) (ren_expression (left_by s) e) (ren_expression (right_by s) (steps_on (steps_of f) (done (result_of f))))) counted
          (all_places_cover (left_by s) e (ren_expression (right_by s) (steps_on (steps_of f) (done (result_of f)))))

  firsts : first_under s e f ≡ first (ren_expression (left_by s) e) (ren_expression (right_by s) f)
  firsts = at (same_count e f) refl
    where
      at : (b : Bool) → same_count e f ≡ b → (if b then sought (rights_from s.fresh 0 (steps_of f)) (run_of s.fresh (count_from 0 (steps_of f))) (result_of f) (with_fresh s (s.fresh + count_from 0 (steps_of f))) (all_places (length (steps_of f)) e) [] e else None)
          ≡ first (ren_expression (left_by s) e) (ren_expression (right_by s) f)
      at true h = found (count_same e f h)
      at false h = none_first e f (left_by s) (right_by s) h

mutual
  pub objects : (s : Tables) → Given s → (o u : PlainObject) → compared s o u ≡ is_joined (ren (left_by s) o) (ren (right_by s) u)
  objects s g (lam m b) (lam k c) = ap (λ x. same_mode m k && x) (objects (with_both s) (given_both s g) b c
      ∙ ap (λ r. is_joined (ren r b) (ren (right_by (with_both s)) c)) (entered_table s.fresh 1 s.left g.left)
      ∙ ap (λ r. is_joined (ren (lifted 1 (left_by s)) b) (ren r c)) (entered_table s.fresh 1 s.right g.right))
  objects s g (pair l r) (pair k q) = ap (λ x. x && compared s r q) (objects s g l k) ∙ ap (λ x. is_joined (ren (left_by s) l) (ren (right_by s) k) && x) (objects s g r q)
  objects s g unit unit = refl
  objects s g (monadic e) (monadic f) = ap is_some (firsts s g e f (λ ys v w x cs gx fits h c. searches e ys v w x cs [] gx fits h (sum c)))
    where
      sum : {n : ℕ} → count e ≡ n → count e + 0 ≡ n
      sum h = omega arith
  objects s g (atomic n) (atomic o) = neutrals s g n o
  objects s g hole hole = refl
  objects s g _ _ = refl

  pub neutrals : (s : Tables) → Given s → (n o : PlainNeutral) → compared_neutral s n o ≡ is_joined_neutral (ren_neutral (left_by s) n) (ren_neutral (right_by s) o)
  neutrals s g (head_alone h) (head_alone j) = heads s g h j
  neutrals s g (app m r o) (app k q u) = ap (λ x. same_mode m k && (x && compared s o u)) (neutrals s g r q) ∙ ap (λ x. same_mode m k && (is_joined_neutral (ren_neutral (left_by s) r) (ren_neutral (right_by s) q) && x)) (objects s g o u)
  neutrals s g (fst r) (fst q) = neutrals s g r q
  neutrals s g (snd r) (snd q) = neutrals s g r q
  neutrals s g _ _ = refl

  pub tuples : (s : Tables) → Given s → (t u : PlainTuple) → compared_tuple s t u ≡ is_joined_tuple (ren_tuple (left_by s) t) (ren_tuple (right_by s) u)
  tuples s g empty empty = refl
  tuples s g (entry m o t) (entry k u w) = ap (λ x. same_mode m k && (x && compared_tuple s t w)) (objects s g o u) ∙ ap (λ x. same_mode m k && (is_joined (ren (left_by s) o) (ren (right_by s) u) && x)) (tuples s g t w)
  tuples s g _ _ = refl

  pub searches : (e : PlainExpression) (ys : List Right) (v : Run) (w : PlainTuple) (s : Tables) (cs : List (List ℕ)) (used : List ℕ) → Given s → Fits s ys → v.first + v.count ≤ s.fresh → count e + length used ≡ length ys
      → sought ys v w s cs used e ≡ search (map (numbered s) ys) (ren_tuple (right_by (with_right s v)) w) cs (left_by s) used e
  searches (done t) ys v w s cs used g fits h k = ended ys s (ren_tuple (right_by (with_right s v)) w) (left_by s) used t (compared_tuple (with_right s v) t w) (tuples (with_right s v) (given_right s v g h) t w) (no_more k)
    where
      no_more : 0 + length used ≡ length ys → length used ≡ length ys
      no_more k = omega arith
  searches (step p n e) ys v w s [] used g fits h k = refl
  searches (step p n e) ys v w s (c ∷ cs) used g fits h k = steps_are ys v w p n e cs used s g fits (λ x gx o. neutrals x gx n o) (λ r j gx. searches e ys v w (with_left s r) cs (j ∷ used) gx fits h (one_less k)) c
    where
      one_less : suc (count e) + length used ≡ length ys → count e + suc (length used) ≡ length ys
      one_less k = omega arith

pub given_none : Given no_ids
given_none = record { left = tt; right = tt }

-- the first matching under tables
pub first_matchings : (s : Tables) → Given s → (e f : PlainExpression) → first_under s e f ≡ first (ren_expression (left_by s) e) (ren_expression (right_by s) f)
first_matchings s g e f = firsts s g e f (λ ys v w x cs gx fits h c. searches e ys v w x cs [] gx fits h (sum c))
  where
    sum : {n : ℕ} → count e ≡ n → count e + 0 ≡ n
    sum h = omega arith

-- ---- under no binder
left_none : left_by no_ids ≡ (λ i. i)
left_none = ext (λ i. same i)
  where
    same : (i : ℕ) → i - 0 + 0 ≡ i
    same i = omega arith

right_none : right_by no_ids ≡ (λ i. i)
right_none = left_none

pub objects_joined : (o u : PlainObject) (b : Bool) → b ≡ compared no_ids o u → IsTrue b ↔ Joined o u
objects_joined o u b e = ((λ t. (same_is_joined o u).0 (sym same ∙ t)), (λ j. same ∙ (same_is_joined o u).1 j))
  where
    same : b ≡ is_joined o u
    same = e ∙ objects no_ids given_none o u ∙ ap (λ r. is_joined (ren r o) (ren (right_by no_ids) u)) left_none ∙ ap (λ r. is_joined (ren (λ i. i) o) (ren r u)) right_none
        ∙ ap (λ x. is_joined x (ren (λ i. i) u)) (identity o) ∙ ap (is_joined o) (identity u)

pub expressions_matched : (e f : PlainExpression) (o : Option (List ℕ)) → o ≡ first_under no_ids e f → IsFirstMatching e f o
expressions_matched e f o h = subst (IsFirstMatching e f) (sym same) (is_first e f)
  where
    same : o ≡ first e f
    same = h ∙ first_matchings no_ids given_none e f ∙ ap (λ r. first (ren_expression r e) (ren_expression (right_by no_ids) f)) left_none ∙ ap (λ r. first (ren_expression (λ i. i) e) (ren_expression r f)) right_none
        ∙ ap (λ x. first x (ren_expression (λ i. i) f)) (identity_expression e) ∙ ap (first e) (identity_expression f)
