-- The search by places finds the first matching, where each step's candidates have each place that may be its own.
use Rattle.std.specs.Prelude.{ℕ, Bool, true, false, zero, suc, ◌+◌, ◌≡◌, ◌<◌, ◌≤◌, ◌⊎◌, ◌&&◌, not, nat_eq, if◌then◌else◌, List, [], ◌∷◌, length, map, refl, Some, None, slice_get}
use Rattle.std.proofs.Common.{Option, ap, sym, subst, ◌∙◌, arith, inl, inr, ⊎_elim}
use Rattle.clf_syntax.specs.Renaming.{Renumbering, ren_expression, ren_neutral, ren_tuple, up}
use Rattle.clf_syntax.specs.Tree.{PlainExpression, PlainNeutral, PlainTuple, done, step}
use Rattle.clf_syntax.specs.declared.tree.Mode.{Mode}
use Rattle.trace_equal.proofs.Fitting.{Fits, entered_one, matching_fits}
use Rattle.trace_equal.proofs.Bijections.{map_length}
use Rattle.trace_equal.proofs.FirstMatching.{at_bound, modes_complete, modes_sound, neutral_test_decides, tuple_test_decides}
use Rattle.trace_equal.proofs.Fronts.{both, halves}
use Rattle.trace_equal.specs.Bijection.{Absent, AgreeAt, Distinct, IsAtMost, IsFirstMatching, IsMatching}
use Rattle.trace_equal.specs.Exchange.{JoinedNeutral}
use Rattle.trace_equal.specs.Places.{AllAscending, Among, Ascending, Below, Covers, Listed, Right, all_places, chosen, each, entered, from_on, is_absent, or_else, right, rights, search, serves, tried, wide}
use Rattle.clf_syntax.specs.Modes.{same_modes}
use Rattle.trace_equal.specs.Search.{is_joined_neutral, is_joined_tuple}
use Rattle.trace_equal.specs.Steps.{WideStep, below, result_of, size, wide_step, wide_steps}

pub rights_are_wide : (e : PlainExpression) → map wide (rights e) ≡ wide_steps e
rights_are_wide (step ms r e) = ap (λ l. wide (right (size e) ms (ren_neutral (up (size e + length ms)) r)) ∷ l) (rights_are_wide e)
rights_are_wide (done t) = refl

-- ---- what a search answers
-- each of the places is none of these
abbrev pub AllAbsent : List ℕ → List ℕ → Type 0
AllAbsent used [] = Unit {0}
AllAbsent used (j ∷ m) = Absent j used × AllAbsent used m

-- The list completes the used places to a matching.
abbrev pub Completes : List Right → PlainTuple → Renumbering → List ℕ → PlainExpression → List ℕ → Type 0
Completes ys u r used e m = Fits (map wide ys) u r e m × Distinct m × AllAbsent used m × (length m + length used ≡ length ys)

-- the first list that is good, or none where none is
abbrev pub IsFirst : (List ℕ → Type 0) → Option (List ℕ) → Type 0
IsFirst good None = (m : List ℕ) → good m → ⊥
IsFirst good (Some m) = good m × ((l : List ℕ) → good l → IsAtMost m l)

-- ---- looking up
agree_get : (j : ℕ) (vs : List ℕ) (ms : List Mode) (n : PlainNeutral) (ys : List Right) → AgreeAt j (wide_step vs ms n) (map wide ys)
    → (a : ℕ) × (q : List Mode) × (v : PlainNeutral) × (slice_get ys j ≡ Some (right a q v)) × (vs ≡ map (up a) (below (length q))) × (ms ≡ q) × JoinedNeutral n v
agree_get j vs ms n [] h = absurd h
agree_get zero vs ms n (right a q v ∷ ys) (e, f, g) = (a, q, v, refl, e, f, g)
agree_get (suc j) vs ms n (right a q v ∷ ys) h = agree_get j vs ms n ys h

get_agree : (j a : ℕ) (q : List Mode) (n v : PlainNeutral) (ys : List Right) → slice_get ys j ≡ Some (right a q v) → JoinedNeutral n v → AgreeAt j (wide_step (map (up a) (below (length q))) q n) (map wide ys)
get_agree j a q n v [] e h = absurd (cc)
get_agree zero a q n v (right b p w ∷ ys) e h = (here b p w e, modes b p w e, subst (JoinedNeutral n) (sym (side b p w e)) h)
  where
    side : (b : ℕ) (p : List Mode) (w : PlainNeutral) → Some (right b p w) ≡ Some (right a q v) → w ≡ v
    side b p w e = cc

    modes : (b : ℕ) (p : List Mode) (w : PlainNeutral) → Some (right b p w) ≡ Some (right a q v) → q ≡ p
    modes b p w e = cc

    here : (b : ℕ) (p : List Mode) (w : PlainNeutral) → Some (right b p w) ≡ Some (right a q v) → map (up a) (below (length q)) ≡ map (up b) (below (length p))
    here b p w e = cc
get_agree (suc j) a q n v (y ∷ ys) e h = get_agree j a q n v ys e h

absent_sound : (j : ℕ) (is : List ℕ) → is_absent j is ≡ true → Absent j is
absent_sound j [] e = tt
absent_sound j (i ∷ is) e = let (a, b) = halves (not (nat_eq j i)) (is_absent j is) e in (λ k. other k a, absent_sound j is b)
  where
    other : j ≡ i → not (nat_eq j i) ≡ true → ⊥
    other k a = grind arith

absent_complete : (j : ℕ) (is : List ℕ) → Absent j is → is_absent j is ≡ true
absent_complete j [] h = refl
absent_complete j (i ∷ is) (n, h) = both (other n) (absent_complete j is h)
  where
    other : (j ≡ i → ⊥) → not (nat_eq j i) ≡ true
    other n = grind arith

all_absent_more : (j : ℕ) (used m : List ℕ) → AllAbsent used m → Absent j m → AllAbsent (j ∷ used) m
all_absent_more j used [] h a = tt
all_absent_more j used (i ∷ m) (x, h) (n, a) = ((λ e. n (sym e), x), all_absent_more j used m h a)

all_absent_less : (j : ℕ) (used m : List ℕ) → AllAbsent (j ∷ used) m → AllAbsent used m × Absent j m
all_absent_less j used [] h = (tt, tt)
all_absent_less j used (i ∷ m) ((n, x), h) = let (a, b) = all_absent_less j used m h in ((x, a), (λ e. n (sym e), b))

false_true : false ≡ true → ⊥
false_true e = cc

none_some : {A : Type 0} {x : A} → None ≡ Some x → ⊥
none_some e = cc

-- ---- a step with its rest
module _ (ys : List Right) (u : PlainTuple) (r : Renumbering) (used : List ℕ) (p : List Mode) (n : PlainNeutral) (e : PlainExpression) where
  composed : (j a : ℕ) (q : List Mode) (v : PlainNeutral) (m : List ℕ) → slice_get ys j ≡ Some (right a q v) → Absent j used → serves r p n (right a q v) ≡ true
      → Completes ys u (entered (length p) a r) (j ∷ used) e m → Completes ys u r used (step p n e) (j ∷ m)
  composed j a q v m g b t (h, dis, all, len) =
      let (x, y) = halves (same_modes p q) (is_joined_neutral (ren_neutral r n) v) t in
      let (rest, away) = all_absent_less j used m all in (
        (a, subst (λ (k : List Mode). AgreeAt j (wide_step (map (up a) (below (length k))) k (ren_neutral r n)) (map wide ys)) (sym (modes_sound p q x)) (get_agree j a q (ren_neutral r n) v ys g ((neutral_test_decides (ren_neutral r n) v).0 y)), h),
        (away, dis),
        (b, rest),
        count len,
      )
    where
      count : length m + suc (length used) ≡ length ys → suc (length m) + length used ≡ length ys
      count l = omega arith

  same_place : {a b : ℕ} {q k : List Mode} {v w : PlainNeutral} → Some (right a q v) ≡ Some (right b k w) → (a ≡ b) × (q ≡ k) × (v ≡ w)
  same_place x = (cc, cc, cc)

  decomposed : (j a : ℕ) (q : List Mode) (v : PlainNeutral) (m : List ℕ) → slice_get ys j ≡ Some (right a q v) → Completes ys u r used (step p n e) (j ∷ m)
      → Absent j used × (serves r p n (right a q v) ≡ true) × Completes ys u (entered (length p) a r) (j ∷ used) e m
  decomposed j a q v m g ((b, x, h), (away, dis), (out, all), len) =
      let (c, k, w, get, vars, modes, joined) = agree_get j (map (up b) (below (length p))) p (ren_neutral r n) ys x in
      let (i, f, l) = same_place (sym get ∙ g) in (
        out,
        both (ap (same_modes p) (sym (modes ∙ f)) ∙ modes_complete p) ((neutral_test_decides (ren_neutral r n) v).1 (subst (JoinedNeutral (ren_neutral r n)) l joined)),
        (subst (λ s. Fits (map wide ys) u s e m) (entered_one (length p) b a r (vars ∙ names c k i modes)) h, dis, all_absent_more j used m all away, count len),
      )
    where
      names : (c : ℕ) (k : List Mode) → c ≡ a → p ≡ k → map (up c) (below (length k)) ≡ map (up a) (below (length p))
      names c k i o = cc

      count : suc (length m) + length used ≡ length ys → length m + suc (length used) ≡ length ys
      count l = omega arith

-- ---- the candidates in turn
abbrev At : (List ℕ → Type 0) → ℕ → Option (List ℕ) → Type 0
At good j None = (m : List ℕ) → good (j ∷ m) → ⊥
At good j (Some l) = (m : List ℕ) × (l ≡ j ∷ m) × good l × ((k : List ℕ) → good (j ∷ k) → IsAtMost m k)

abbrev Of : (List ℕ → Type 0) → List ℕ → Option (List ℕ) → Type 0
Of good js None = (j : ℕ) (m : List ℕ) → Among j js → good (j ∷ m) → ⊥
Of good js (Some l) = good l × ((j : ℕ) (m : List ℕ) → Among j js → good (j ∷ m) → IsAtMost l (j ∷ m))

below_among : (i j : ℕ) (js : List ℕ) → Below i js → Among j js → i < j
below_among i j [] b a = absurd a
below_among i j (k ∷ js) (l, b) a = ⊎_elim (λ e. along e) (λ e. below_among i j js b e) a
  where
    along : j ≡ k → i < j
    along e = omega arith

one_more : (good : List ℕ → Type 0) (i : ℕ) (js : List ℕ) (o r : Option (List ℕ)) → Below i js → At good i o → Of good js r → Of good (i ∷ js) (or_else o r)
one_more good i js (Some l) r b (m, e, g, best) f = (g, λ j k a h. subst (λ x. IsAtMost x (j ∷ k)) (sym e) (⊎_elim (λ y. inr (sym y, best k (subst (λ x. good (x ∷ k)) y h))) (λ y. inl (below_among i j js b y)) a))
one_more good i js None None b a f = λ j k x h. ⊎_elim (λ y. a k (subst (λ z. good (z ∷ k)) y h)) (λ y. f j k y h) x
one_more good i js None (Some l) b a f = (f.0, λ j k x h. ⊎_elim (λ y. absurd (a k (subst (λ z. good (z ∷ k)) y h))) (λ y. f.1 j k y h) x)

each_of : (good : List ℕ → Type 0) (free : ℕ → Bool) (attempt : ℕ → Option (List ℕ)) → ((j : ℕ) → At good j (if free j then attempt j else None)) → (js : List ℕ) → Ascending js → Of good js (each free attempt js)
each_of good free attempt at [] h = λ j m a g. a
each_of good free attempt at (j ∷ js) (b, h) = one_more good j js (if free j then attempt j else None) (each free attempt js) b (at j) (each_of good free attempt at js h)

module _ (ys : List Right) (u : PlainTuple) (r : Renumbering) (used : List ℕ) (p : List Mode) (n : PlainNeutral) (e : PlainExpression) (rest : ℕ → Renumbering → Option (List ℕ)) where
  abbrev Good : List ℕ → Type 0
  Good m = Completes ys u r used (step p n e) m

  abbrev Best : Type 0
  Best = (j a : ℕ) → ((m : List ℕ) → Completes ys u (entered (length p) a r) (j ∷ used) e m → Good (j ∷ m)) → IsFirst (Completes ys u (entered (length p) a r) (j ∷ used) e) (rest j (entered (length p) a r))

  with_rest : (j a : ℕ) (q : List Mode) (v : PlainNeutral) → slice_get ys j ≡ Some (right a q v) → ((m : List ℕ) → Completes ys u (entered (length p) a r) (j ∷ used) e m → Good (j ∷ m))
      → (o : Option (List ℕ)) → IsFirst (Completes ys u (entered (length p) a r) (j ∷ used) e) o → At Good j (chosen j o)
  with_rest j a q v g back None h = λ m x. h m (decomposed ys u r used p n e j a q v m g x).2
  with_rest j a q v g back (Some l) h = (l, refl, back l h.0, λ k x. h.1 k (decomposed ys u r used p n e j a q v k g x).2)

  served : Best → (j a : ℕ) (q : List Mode) (v : PlainNeutral) → slice_get ys j ≡ Some (right a q v) → Absent j used → (b : Bool) → serves r p n (right a q v) ≡ b
      → At Good j (if b then chosen j (rest j (entered (length p) a r)) else None)
  served best j a q v g x true t = let back = λ (m : List ℕ) (h : Completes ys u (entered (length p) a r) (j ∷ used) e m). composed ys u r used p n e j a q v m g x t h in
      with_rest j a q v g back (rest j (entered (length p) a r)) (best j a back)
  served best j a q v g x false t = λ m h. false_true (sym t ∙ (decomposed ys u r used p n e j a q v m g h).1)

  found : Best → (j : ℕ) → Absent j used → (o : Option Right) → slice_get ys j ≡ o → At Good j (tried r p n (rest j) j o)
  found best j x None g = λ m h. no_step m h
    where
      no_step : (m : List ℕ) → Good (j ∷ m) → ⊥
      no_step m ((b, y, h), dis, all, len) = let (c, k, w, get, vars, modes, joined) = agree_get j (map (up b) (below (length p))) p (ren_neutral r n) ys y in none_some (sym g ∙ get)
  found best j x (Some (right a q v)) g = served best j a q v g x (serves r p n (right a q v)) refl

  attempted : Best → (j : ℕ) (b : Bool) → is_absent j used ≡ b → At Good j (if b then tried r p n (rest j) j (slice_get ys j) else None)
  attempted best j true t = found best j (absent_sound j used t) (slice_get ys j) refl
  attempted best j false t = λ m h. false_true (sym t ∙ absent_complete j used (used_not m h))
    where
      used_not : (m : List ℕ) → Good (j ∷ m) → Absent j used
      used_not m (f, dis, (out, others), len) = out

  in_turn : Best → (c : List ℕ) → Ascending c → Of Good c (each (λ j. is_absent j used) (λ j. tried r p n (rest j) j (slice_get ys j)) c)
  in_turn best c h = each_of Good (λ j. is_absent j used) (λ j. tried r p n (rest j) j (slice_get ys j)) (λ j. attempted best j (is_absent j used) refl) c h

  from_candidates : (c : List ℕ) → ((j : ℕ) (m : List ℕ) → Good (j ∷ m) → Among j c) → (o : Option (List ℕ)) → Of Good c o → IsFirst Good o
  from_candidates c all None h = λ m g. none m g
    where
      none : (m : List ℕ) → Good m → ⊥
      none [] g = g.0
      none (j ∷ m) g = h j m (all j m g) g
  from_candidates c all (Some l) (g, h) = (g, λ m x. least m x)
    where
      least : (m : List ℕ) → Good m → IsAtMost l m
      least [] x = absurd x.0
      least (j ∷ m) x = h j m (all j m x) x

-- The search answers the first list that completes the used places, where the candidates have each place that may be one.
pub search_is_first : (ys : List Right) (u : PlainTuple) (cs : List (List ℕ)) (r : Renumbering) (used : List ℕ) (e : PlainExpression) → AllAscending cs
    → ((m : List ℕ) → Completes ys u r used e m → Listed m cs) → IsFirst (Completes ys u r used e) (search ys u cs r used e)
search_is_first ys u cs r used (done t) sorted all = ended (nat_eq (length used) (length ys) && is_joined_tuple (ren_tuple r t) u) refl
  where
    counted : nat_eq (length used) (length ys) ≡ true → 0 + length used ≡ length ys
    counted e = grind arith

    back : 0 + length used ≡ length ys → nat_eq (length used) (length ys) ≡ true
    back e = grind arith

    ended : (b : Bool) → (nat_eq (length used) (length ys) && is_joined_tuple (ren_tuple r t) u) ≡ b → IsFirst (Completes ys u r used (done t)) (if b then Some [] else None)
    ended true t' = let (x, y) = halves (nat_eq (length used) (length ys)) (is_joined_tuple (ren_tuple r t) u) t' in (((tuple_test_decides (ren_tuple r t) u).0 y, tt, tt, counted x), λ l g. tt)
    ended false t' = λ m g. none m g
      where
        none : (m : List ℕ) → Completes ys u r used (done t) m → ⊥
        none [] (f, dis, all, len) = false_true (sym t' ∙ both (back len) ((tuple_test_decides (ren_tuple r t) u).1 f))
        none (j ∷ m) (f, dis, others, len) = f
search_is_first ys u [] r used (step p n e) sorted all = λ m g. none m g
  where
    none : (m : List ℕ) → Completes ys u r used (step p n e) m → ⊥
    none [] g = g.0
    none (j ∷ m) g = all (j ∷ m) g
search_is_first ys u (c ∷ cs) r used (step p n e) (h, sorted) all =
    from_candidates ys u r used p n e (λ j s. search ys u cs s (j ∷ used) e) c (λ j m g. (all (j ∷ m) g).0) (search ys u (c ∷ cs) r used (step p n e))
    (in_turn ys u r used p n e (λ j s. search ys u cs s (j ∷ used) e) (λ j a back. search_is_first ys u cs (entered (length p) a r) (j ∷ used) e sorted (λ m g. (all (j ∷ m) (back m g)).1)) c h)

absent_nothing : (m : List ℕ) → AllAbsent [] m
absent_nothing [] = tt
absent_nothing (j ∷ m) = (tt, absent_nothing m)

at_most_both : (m l : List ℕ) → IsAtMost m l → IsAtMost l m → m ≡ l
at_most_both [] [] h k = refl
at_most_both [] (j ∷ l) h k = absurd k
at_most_both (i ∷ m) [] h k = absurd h
at_most_both (i ∷ m) (j ∷ l) h k = ⊎_elim (λ a. ⊎_elim (λ b. absurd (less a b)) (λ b. absurd (same a b.0)) k) (λ a. ⊎_elim (λ b. absurd (same b a.0)) (λ b. conses a.0 (at_most_both m l a.1 b.1)) k) h
  where
    less : {x y : ℕ} → x < y → y < x → ⊥
    less a b = omega arith

    same : {x y : ℕ} → x < y → y ≡ x → ⊥
    same a b = omega arith

    conses : {x y : ℕ} {xs ys : List ℕ} → x ≡ y → xs ≡ ys → (x ∷ xs) ≡ (y ∷ ys)
    conses a b = cc

-- There is one first matching.
pub first_is_one : (e f : PlainExpression) (o r : Option (List ℕ)) → IsFirstMatching e f o → IsFirstMatching e f r → o ≡ r
first_is_one e f None None h k = refl
first_is_one e f None (Some l) h k = absurd (h l k.0)
first_is_one e f (Some m) None h k = absurd (k m h.0)
first_is_one e f (Some m) (Some l) h k = ap (λ x. Some x) (at_most_both m l (h.1 l k.0) (k.1 m h.0))

-- The search finds the first matching.
pub search_finds : (p : Renumbering) (e f : PlainExpression) (cs : List (List ℕ)) → Covers cs (ren_expression p e) f
    → IsFirstMatching (ren_expression p e) f (search (rights f) (result_of f) cs (λ i. p i + size f) [] e)
search_finds p e f cs (sorted, covered) = answer (search (rights f) (result_of f) cs (λ i. p i + size f) [] e) (search_is_first (rights f) (result_of f) cs (λ i. p i + size f) [] e sorted (λ m h. covered m (back m h)))
  where
    steps : length (rights f) ≡ length (wide_steps f)
    steps = sym (map_length wide (rights f)) ∙ ap length (rights_are_wide f)

    back : (m : List ℕ) → Completes (rights f) (result_of f) (λ i. p i + size f) [] e m → IsMatching m (ren_expression p e) f
    back m (h, dis, all, len) = (matching_fits p e f m).1 (subst (λ ys. Fits ys (result_of f) (λ i. p i + size f) e m) (rights_are_wide f) h, dis, count len ∙ steps)
      where
        count : length m + 0 ≡ length (rights f) → length m ≡ length (rights f)
        count l = omega arith

    there : (m : List ℕ) → IsMatching m (ren_expression p e) f → Completes (rights f) (result_of f) (λ i. p i + size f) [] e m
    there m g = let (h, dis, len) = (matching_fits p e f m).0 g in (subst (λ ys. Fits ys (result_of f) (λ i. p i + size f) e m) (sym (rights_are_wide f)) h, dis, absent_nothing m, count (len ∙ sym steps))
      where
        count : length m ≡ length (rights f) → length m + 0 ≡ length (rights f)
        count l = omega arith

    answer : (o : Option (List ℕ)) → IsFirst (Completes (rights f) (result_of f) (λ i. p i + size f) [] e) o → IsFirstMatching (ren_expression p e) f o
    answer None h = λ m g. h m (there m g)
    answer (Some l) (h, best) = (back l h, λ m g. best m (there m g))

below_from : (i j n : ℕ) → i < j → Below i (from_on j n)
below_from i j zero h = tt
below_from i j (suc n) h = (h, below_from i (suc j) n (omega arith))

pub ascending_from : (i n : ℕ) → Ascending (from_on i n)
ascending_from i zero = tt
ascending_from i (suc n) = (below_from i (suc i) n (omega arith), ascending_from (suc i) n)

among_from : (j i n : ℕ) → i ≤ j → j < i + n → Among j (from_on i n)
among_from j i zero h k = absurd (omega arith)
among_from j i (suc n) h k = ⊎_elim (λ e. inl e) (λ l. inr (among_from j (suc i) n l (omega arith))) (here h)
  where
    here : i ≤ j → (j ≡ i) ⊎ (suc i ≤ j)
    here h = grind arith

all_sorted : (n : ℕ) (e : PlainExpression) → AllAscending (all_places n e)
all_sorted n (step p r e) = (ascending_from 0 n, all_sorted n e)
all_sorted n (done t) = tt

all_listed : (ys : List WideStep) (u : PlainTuple) (r : Renumbering) (e : PlainExpression) (m : List ℕ) → Fits ys u r e m → Listed m (all_places (length ys) e)
all_listed ys u r (done t) [] h = tt
all_listed ys u r (done t) (j ∷ m) h = absurd h
all_listed ys u r (step p n e) [] h = absurd h
all_listed ys u r (step p n e) (j ∷ m) (a, g, h) = (among_from j 0 (length ys) (omega arith) (within (at_bound j (wide_step (map (up a) (below (length p))) p (ren_neutral r n)) ys g)), all_listed ys u (entered (length p) a r) e m h)
  where
    within : j < length ys → j < 0 + length ys
    within h = omega arith

pub all_places_cover : (p : Renumbering) (e f : PlainExpression) → Covers (all_places (length (wide_steps f)) e) (ren_expression p e) f
all_places_cover p e f = (all_sorted (length (wide_steps f)) e, λ m g. all_listed (wide_steps f) (result_of f) (λ i. p i + size f) e m ((matching_fits p e f m).0 g).0)
