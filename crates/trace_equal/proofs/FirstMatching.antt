-- The search finds the first matching.
use Rattle.std.specs.Prelude.{ℕ, Bool, true, false, zero, suc, ◌+◌, ◌≡◌, ◌<◌, ◌≤◌, ◌⊎◌, ◌&&◌, ◌↔◌, nat_eq, if◌then◌else◌, List, [], ◌∷◌, length, map, refl, Some, None, is_some}
use Rattle.std.proofs.Common.{Option, ap, sym, subst, ◌∙◌, arith, inl, inr, ⊎_elim}
use Rattle.clf_syntax.proofs.RenamingLaws.{composed_neutral, ext, pairs}
use Rattle.clf_syntax.specs.Renaming.{ren_neutral, up}
use Rattle.clf_syntax.specs.Tree.{PlainExpression, PlainObject, PlainNeutral, PlainTuple, app, atomic, head_alone, done, empty, entry, fst, hole, lam, monadic, pair, snd, step, unit}
use Rattle.clf_syntax.specs.declared.tree.Head.{Head}
use Rattle.clf_syntax.specs.declared.tree.Head.TheVariants.{Const, Meta, Var}
use Rattle.clf_syntax.specs.declared.tree.Mode.{Mode}
use Rattle.clf_syntax.specs.declared.tree.Mode.TheVariants.{Affine, Linear, Persistent}
use Rattle.trace_equal.proofs.Bijections.{extended, from_matching, joined_has_matching, pullable, rest_matching, ret_matching, to_matching}
use Rattle.trace_equal.proofs.Closed.{alike_neutral, joined_neutral, like_to_neutral, joined_matches}
use Rattle.trace_equal.specs.Laws.{FirstIsFound, IsJoinedDecides}
use Rattle.trace_equal.proofs.Fronts.{PulledAt, both, halves, pull_complete, pull_sound}
use Rattle.trace_equal.proofs.WideSteps.{place}
use Rattle.trace_equal.specs.Bijection.{AgreeAt, IsAtMost, IsFirstMatching, IsMatching}
use Rattle.trace_equal.specs.Exchange.{JoinedNeutral, JoinedTuple}
use Rattle.trace_equal.specs.Matching.{Matches, MatchesExpression, MatchesNeutral, MatchesTuple, Pulled, match_app, match_atomic, match_bare, match_done, match_empty, match_entry, match_fst, match_hole, match_lam, match_monadic, match_pair, match_snd, match_unit}
use Rattle.clf_syntax.specs.Modes.{same_mode, same_modes}
use Rattle.trace_equal.specs.Search.{Front, attempt, first, front, or_else, past, places, prefixed, pull_at, is_joined, same_head, is_joined_neutral, is_joined_tuple}
use Rattle.trace_equal.specs.Steps.{WideStep, below, ren_wide_step, size, wide_step, wide_steps}

pub mode_sound : (m n : Mode) → same_mode m n ≡ true → m ≡ n
mode_sound Persistent Persistent e = refl
mode_sound Affine Affine e = refl
mode_sound Linear Linear e = refl
mode_sound _ _ e = absurd (cc)

pub mode_complete : (m : Mode) → same_mode m m ≡ true
mode_complete Persistent = refl
mode_complete Affine = refl
mode_complete Linear = refl

pub modes_sound : (ms ns : List Mode) → same_modes ms ns ≡ true → ms ≡ ns
modes_sound [] [] e = refl
modes_sound [] (n ∷ ns) e = absurd (cc)
modes_sound (m ∷ ms) [] e = absurd (cc)
modes_sound (m ∷ ms) (n ∷ ns) e = let (a, b) = halves (same_mode m n) (same_modes ms ns) e in conses (mode_sound m n a) (modes_sound ms ns b)
  where
    conses : {a b : Mode} {c d : List Mode} → a ≡ b → c ≡ d → (a ∷ c) ≡ (b ∷ d)
    conses e f = cc

pub modes_complete : (ms : List Mode) → same_modes ms ms ≡ true
modes_complete [] = refl
modes_complete (m ∷ ms) = both (mode_complete m) (modes_complete ms)

nat_sound : (i j : ℕ) → nat_eq i j ≡ true → i ≡ j
nat_sound i j e = grind arith

nat_complete : (i : ℕ) → nat_eq i i ≡ true
nat_complete i = grind arith

head_sound : (h j : Head) → same_head h j ≡ true → h ≡ j
head_sound (Const c) (Const d) e = ap (λ i. Const i) (nat_sound c d e)
head_sound (Var c) (Var d) e = ap (λ i. Var i) (nat_sound c d e)
head_sound (Meta c) (Meta d) e = ap (λ i. Meta i) (nat_sound c d e)
head_sound _ _ e = absurd (cc)

head_complete : (h : Head) → same_head h h ≡ true
head_complete (Const c) = nat_complete c
head_complete (Var c) = nat_complete c
head_complete (Meta c) = nat_complete c

past_mono : (i j k : ℕ) → j < k → past i j < past i k
past_mono zero j k h = omega arith
past_mono (suc i) zero zero h = absurd (omega arith)
past_mono (suc i) zero (suc k) h = omega arith
past_mono (suc i) (suc j) zero h = absurd (omega arith)
past_mono (suc i) (suc j) (suc k) h = up (past_mono i j k (omega arith))
  where
    up : {a b : ℕ} → a < b → suc a < suc b
    up h = omega arith

at_most_past : (i : ℕ) (m l : List ℕ) → IsAtMost m l → IsAtMost (map (past i) m) (map (past i) l)
at_most_past i [] l h = tt
at_most_past i (j ∷ m) [] h = absurd h
at_most_past i (j ∷ m) (k ∷ l) h = ⊎_elim (λ a. inl (past_mono i j k a)) (λ a. inr (ap (past i) a.0, at_most_past i m l a.1)) h

-- what is known of an answer at place i, and of the answers from i on
abbrev At : (List ℕ → Type 0) → ℕ → Option (List ℕ) → Type 0
At good i None = (l : List ℕ) → good (i ∷ l) → ⊥
At good i (Some m) = (l : List ℕ) × (m ≡ i ∷ l) × good m × ((k : List ℕ) → good (i ∷ k) → IsAtMost l k)

abbrev From : (List ℕ → Type 0) → ℕ → ℕ → Option (List ℕ) → Type 0
From good i n None = (j : ℕ) (l : List ℕ) → i ≤ j → j < i + n → good (j ∷ l) → ⊥
From good i n (Some m) = good m × ((j : ℕ) (l : List ℕ) → i ≤ j → good (j ∷ l) → IsAtMost m (j ∷ l))

split : (i j : ℕ) → i ≤ j → (i ≡ j) ⊎ (suc i ≤ j)
split i j h = grind arith

joined_from : (good : List ℕ → Type 0) (i n : ℕ) (o r : Option (List ℕ)) → At good i o → From good (suc i) n r → From good i (suc n) (or_else o r)
joined_from good i n (Some m) r a f = (a.2, λ j l h g. subst (λ k. IsAtMost k (j ∷ l)) (sym a.1) (⊎_elim (λ e. inr (e, a.3 l (subst (λ k. good (k ∷ l)) (sym e) g))) (λ e. inl (less e)) (split i j h)))
  where
    less : {j : ℕ} → suc i ≤ j → i < j
    less h = omega arith
joined_from good i n None None a f = λ j l h k g. ⊎_elim (λ e. a l (subst (λ k. good (k ∷ l)) (sym e) g)) (λ e. f j l e (within j k) g) (split i j h)
  where
    within : (j : ℕ) → j < i + suc n → j < suc i + n
    within j h = omega arith
joined_from good i n None (Some m) a f = (f.0, λ j l h g. ⊎_elim (λ e. absurd (a l (subst (λ k. good (k ∷ l)) (sym e) g))) (λ e. f.1 j l e g) (split i j h))

places_from : (good : List ℕ → Type 0) (h : ℕ → Option (List ℕ)) → ((i : ℕ) → At good i (h i)) → (n i : ℕ) → From good i n (places n i h)
places_from good h a zero i = λ j l k m g. absurd (omega arith)
places_from good h a (suc n) i = joined_from good i n (h i) (places n (suc i) h) (a i) (places_from good h a n (suc i))

pub at_bound : (i : ℕ) (x : WideStep) (ys : List WideStep) → AgreeAt i x ys → i < length ys
at_bound i x [] a = absurd a
at_bound zero x (y ∷ ys) a = omega arith
at_bound (suc i) x (y ∷ ys) a = up (at_bound i x ys a)
  where
    up : {a b : ℕ} → a < b → suc a < suc b
    up h = omega arith

from_first : (p : List Mode) (r : PlainNeutral) (d f : PlainExpression) (o : Option (List ℕ)) → From (λ m. IsMatching m (step p r d) f) 0 (length (wide_steps f)) o → IsFirstMatching (step p r d) f o
from_first p r d f None h = λ m g. empty m g
  where
    empty : (m : List ℕ) → IsMatching m (step p r d) f → ⊥
    empty [] (s, out, len, dis, pairs, tup) = absurd pairs
    empty (i ∷ m) (s, out, len, dis, pairs, tup) = h i m (omega arith) (within (at_bound i (ren_wide_step s (wide_step (map (up (size d)) (below (length p))) p (ren_neutral (up (size d + length p)) r))) (wide_steps f) pairs.0)) (s, out, len, dis, pairs, tup)
      where
        within : i < length (wide_steps f) → i < 0 + length (wide_steps f)
        within h = omega arith
from_first p r d f (Some m) h = (h.0, λ l g. least l g)
  where
    least : (l : List ℕ) → IsMatching l (step p r d) f → IsAtMost m l
    least [] (s, out, len, dis, pairs, tup) = absurd pairs
    least (i ∷ l) g = h.1 i l (omega arith) g

pull_of : (p : List Mode) (r : PlainNeutral) (d f : PlainExpression) (i : ℕ) (m : List ℕ) → IsMatching (i ∷ m) (step p r d) f → (q : List Mode) × (v : PlainNeutral) × (e : PlainExpression) × (u : Pulled q v e f) × (p ≡ q) × (place u ≡ i) × JoinedNeutral r v
pull_of p r d f i m (s, out, len, dis, pairs, tup) = pullable f i (map s (map (up (size d)) (below (length p)))) p (ren_neutral s (ren_neutral (up (size d + length p)) r)) r
    (composed_neutral s (up (size d + length p)) r ∙ ap (λ g. ren_neutral g r) (ext out)) pairs.0

none_some : {A : Type 0} {x : A} → None ≡ Some x → ⊥
none_some e = cc

false_true : false ≡ true → ⊥
false_true e = cc

modes_front : {q k : List Mode} {v w : PlainNeutral} {e f : PlainExpression} → Some (front q v e) ≡ Some (front k w f) → q ≡ k
modes_front e = cc

side_front : {q k : List Mode} {v w : PlainNeutral} {e f : PlainExpression} → Some (front q v e) ≡ Some (front k w f) → v ≡ w
side_front e = cc

module _ (p : List Mode) (r : PlainNeutral) (d f : PlainExpression) (test : PlainNeutral → Bool) (rec : PlainExpression → Option (List ℕ)) (sure : (v : PlainNeutral) → test v ≡ true → MatchesNeutral r v) (all_found : (v : PlainNeutral) → MatchesNeutral r v → test v ≡ true) (best : (e : PlainExpression) → IsFirstMatching d e (rec e)) where
  abbrev Good : List ℕ → Type 0
  Good m = IsMatching m (step p r d) f

  rested : {q : List Mode} {v : PlainNeutral} {e : PlainExpression} (u : Pulled q v e f) (i : ℕ) → place u ≡ i → p ≡ q → (m : List ℕ) → Good (i ∷ m) → (l : List ℕ) × (m ≡ map (past i) l) × IsMatching l d e
  rested u i pos eq m g = let (l, k, h) = rest_matching p r d u eq m (subst (λ j. IsMatching (j ∷ m) (step p r d) f) (sym pos) g) in (l, k ∙ ap (λ j. map (past j) l) pos, h)

  answered : {q : List Mode} {v : PlainNeutral} {e : PlainExpression} (u : Pulled q v e f) (i : ℕ) → place u ≡ i → p ≡ q → MatchesNeutral r v → (o : Option (List ℕ)) → IsFirstMatching d e o → At Good i (prefixed i o)
  answered u i pos eq n None h = λ m g. let (l, k, x) = rested u i pos eq m g in h l x
  answered {v = v} {e = e} u i pos eq n (Some m) h = (
    map (past i) m,
    refl,
    subst (λ j. IsMatching (j ∷ map (past j) m) (step p r d) f) pos (subst (λ ms. IsMatching (place u ∷ map (past (place u)) m) (step ms r d) f) (sym eq) (extended r d u (joined_neutral n) m h.0)),
    λ k g. let (l, a, x) = rested u i pos eq k g in subst (IsAtMost (map (past i) m)) (sym a) (at_most_past i m l (h.1 l x)),
  )

  tried_at : (i : ℕ) (o : Option Front) → pull_at i f ≡ o → PulledAt i f o → At Good i (attempt p test rec i o)
  tried_at i None e h = λ m g. let (q, v, x, u, eq, pos, n) = pull_of p r d f i m g in none_some (sym e ∙ ap (λ j. pull_at j f) (sym pos) ∙ pull_complete u)
  tried_at i (Some (front q v x)) e h = tested (same_modes p q && test v) refl
    where
      tested : (b : Bool) → (same_modes p q && test v) ≡ b → At Good i (if b then prefixed i (rec x) else None)
      tested true t = let (a, b) = halves (same_modes p q) (test v) t in answered h.0 i h.1 (modes_sound p q a) (sure v b) (rec x) (best x)
      tested false t = λ m g. let (k, w, y, u, eq, pos, n) = pull_of p r d f i m g in
          let same_front = sym e ∙ ap (λ j. pull_at j f) (sym pos) ∙ pull_complete u in
          false_true (sym t ∙ both (ap (same_modes p) (modes_front same_front ∙ sym eq) ∙ modes_complete p) (ap test (side_front same_front) ∙ all_found w (like_to_neutral (alike_neutral r) n)))

  tried : (i : ℕ) → At Good i (attempt p test rec i (pull_at i f))
  tried i = tried_at i (pull_at i f) refl (pull_sound i f)

  whole : IsFirstMatching (step p r d) f (places (length (wide_steps f)) 0 (λ i. attempt p test rec i (pull_at i f)))
  whole = from_first p r d f (places (length (wide_steps f)) 0 (λ i. attempt p test rec i (pull_at i f))) (places_from Good (λ i. attempt p test rec i (pull_at i f)) tried (length (wide_steps f)) 0)

found : (e f : PlainExpression) (o : Option (List ℕ)) → IsFirstMatching e f o → is_some o ≡ true → MatchesExpression e f
found e f None h t = absurd (cc)
found e f (Some m) h t = from_matching e f m h.0

there_is : (e f : PlainExpression) (o : Option (List ℕ)) → IsFirstMatching e f o → MatchesExpression e f → is_some o ≡ true
there_is e f None h l = let (m, g) = to_matching l in absurd (h m g)
there_is e f (Some m) h l = refl

ret_first : (t u : PlainTuple) (b : Bool) → (b ≡ true → MatchesTuple t u) → (MatchesTuple t u → b ≡ true) → IsFirstMatching (done t) (done u) (if b then Some [] else None)
ret_first t u true s c = (ret_matching (s refl), λ l g. tt)
ret_first t u false s c = λ m g. false_true (c (of_ret (from_matching (done t) (done u) m g)))
  where
    of_ret : MatchesExpression (done t) (done u) → MatchesTuple t u
    of_ret (match_done p) = p

mutual
  pub sound : (a b : PlainObject) → is_joined a b ≡ true → Matches a b
  sound (lam m b) (lam k c) e = let (x, y) = halves (same_mode m k) (is_joined b c) e in subst (λ i. Matches (lam m b) (lam i c)) (mode_sound m k x) (match_lam (sound b c y))
  sound (pair l r) (pair k s) e = let (x, y) = halves (is_joined l k) (is_joined r s) e in match_pair (sound l k x) (sound r s y)
  sound unit unit e = match_unit
  sound (monadic e) (monadic f) t = match_monadic (found e f (first e f) (is_first e f) t)
  sound (atomic n) (atomic o) e = match_atomic (sound_neutral n o e)
  sound hole hole e = match_hole
  sound _ _ e = absurd (cc)

  pub sound_neutral : (a b : PlainNeutral) → is_joined_neutral a b ≡ true → MatchesNeutral a b
  sound_neutral (head_alone h) (head_alone j) e = subst (λ i. MatchesNeutral (head_alone h) (head_alone i)) (head_sound h j e) match_bare
  sound_neutral (app m r o) (app k s u) e = let (x, y) = halves (same_mode m k) (is_joined_neutral r s && is_joined o u) e in let (a, b) = halves (is_joined_neutral r s) (is_joined o u) y in
      subst (λ i. MatchesNeutral (app m r o) (app i s u)) (mode_sound m k x) (match_app (sound_neutral r s a) (sound o u b))
  sound_neutral (fst r) (fst s) e = match_fst (sound_neutral r s e)
  sound_neutral (snd r) (snd s) e = match_snd (sound_neutral r s e)
  sound_neutral _ _ e = absurd (cc)

  pub sound_tuple : (a b : PlainTuple) → is_joined_tuple a b ≡ true → MatchesTuple a b
  sound_tuple empty empty e = match_empty
  sound_tuple (entry m o t) (entry k u w) e = let (x, y) = halves (same_mode m k) (is_joined o u && is_joined_tuple t w) e in let (a, b) = halves (is_joined o u) (is_joined_tuple t w) y in
      subst (λ i. MatchesTuple (entry m o t) (entry i u w)) (mode_sound m k x) (match_entry (sound o u a) (sound_tuple t w b))
  sound_tuple _ _ e = absurd (cc)

  pub complete : (a : PlainObject) {b : PlainObject} → Matches a b → is_joined a b ≡ true
  complete (lam m b) (match_lam p) = both (mode_complete m) (complete b p)
  complete (pair l r) (match_pair p q) = both (complete l p) (complete r q)
  complete unit match_unit = refl
  complete (monadic e) (match_monadic {f = f} p) = there_is e f (first e f) (is_first e f) p
  complete (atomic n) (match_atomic p) = complete_neutral n p
  complete hole match_hole = refl

  pub complete_neutral : (a : PlainNeutral) {b : PlainNeutral} → MatchesNeutral a b → is_joined_neutral a b ≡ true
  complete_neutral (head_alone h) match_bare = head_complete h
  complete_neutral (app m r o) (match_app p q) = both (mode_complete m) (both (complete_neutral r p) (complete o q))
  complete_neutral (fst r) (match_fst p) = complete_neutral r p
  complete_neutral (snd r) (match_snd p) = complete_neutral r p

  pub complete_tuple : (a : PlainTuple) {b : PlainTuple} → MatchesTuple a b → is_joined_tuple a b ≡ true
  complete_tuple empty match_empty = refl
  complete_tuple (entry m o t) (match_entry p q) = both (mode_complete m) (both (complete o p) (complete_tuple t q))

  pub is_first : (e f : PlainExpression) → IsFirstMatching e f (first e f)
  is_first (step p r d) f = whole p r d f (λ v. is_joined_neutral r v) (λ e. first d e) (λ v t. sound_neutral r v t) (λ v l. complete_neutral r l) (λ e. is_first d e)
  is_first (done t) (done u) = ret_first t u (is_joined_tuple t u) (λ e. sound_tuple t u e) (λ l. complete_tuple t l)
  is_first (done t) (step q v e) = λ m g. no_ret (from_matching (done t) (step q v e) m g)
    where
      no_ret : MatchesExpression (done t) (step q v e) → ⊥
      no_ret l = elim l [ ]

pub first_is_found : FirstIsFound
first_is_found = is_first

pub same_is_joined : IsJoinedDecides
same_is_joined a b = ((λ e. (joined_matches.0 a b).1 (sound a b e)), (λ j. complete a ((joined_matches.0 a b).0 j)))

-- the tests of neutrals and tuples
pub neutral_test_decides : (n r : PlainNeutral) → (is_joined_neutral n r ≡ true) ↔ JoinedNeutral n r
neutral_test_decides n r = ((λ e. joined_neutral (sound_neutral n r e)), (λ j. complete_neutral n (like_to_neutral (alike_neutral n) j)))

pub tuple_test_decides : (t u : PlainTuple) → (is_joined_tuple t u ≡ true) ↔ JoinedTuple t u
tuple_test_decides t u = ((λ e. (joined_matches.3 t u).1 (sound_tuple t u e)), (λ j. complete_tuple t ((joined_matches.3 t u).0 j)))

pub ruleset matching_laws = (first_is_found, same_is_joined, joined_has_matching)
