-- Expressions match exactly where they have a matching.
use Rattle.std.specs.Prelude.{ℕ, zero, suc, ◌+◌, ◌-◌, ◌≡◌, ◌≢◌, ◌<◌, ◌≤◌, List, [], ◌∷◌, length, map, refl}
use Rattle.std.proofs.Common.{ap, sym, subst, ◌∙◌, arith, ⊎_elim, add-zero}
use Rattle.clf_syntax.proofs.RenamingLaws.{composed_neutral, composed_tuple, cut, ext, identity_tuple, pairs}
use Rattle.clf_syntax.specs.Renaming.{Renumbering, crossed, lifted, ren_expression, ren_neutral, ren_tuple, up}
use Rattle.clf_syntax.specs.Tree.{PlainExpression, PlainNeutral, PlainTuple, done, step}
use Rattle.clf_syntax.specs.declared.tree.Mode.{Mode}
use Rattle.trace_equal.proofs.Closed.{alike_neutral, alike_tuple, carried, joined_neutral, joined_tuple, like_to_neutral, like_to_tuple, like_to_expression, alike_expression, joined_expression}
use Rattle.trace_equal.proofs.Moves.{reflected, renamed_neutral, renamed_tuple, up_once}
use Rattle.trace_equal.proofs.WideSteps.{back, back_there, insert_at, line_idle, lines_comp, map_comp, map_idle, outer, place, result_pull, there, wide_pull}
use Rattle.trace_equal.specs.Bijection.{Absent, Agree, AgreeAt, Distinct, IsMatching, Paired}
use Rattle.trace_equal.specs.Exchange.{JoinedNeutral, JoinedTuple, next, stop}
use Rattle.trace_equal.specs.Matching.{MatchesExpression, MatchesTuple, Pulled, match_done, match_step, pulled_here, pulled_later}
use Rattle.trace_equal.specs.Search.{past}
use Rattle.trace_equal.specs.Steps.{WideStep, below, ren_wide_step, result_of, size, wide_step, wide_steps}
use Rattle.trace_equal.specs.Laws.{JoinedHasMatching}

pub sucs : {i j : ℕ} → suc i ≡ suc j → i ≡ j
sucs e = omega arith

past_other : (i j : ℕ) → i ≢ past i j
past_other zero j = λ e. omega arith
past_other (suc i) zero = λ e. omega arith
past_other (suc i) (suc j) = λ e. past_other i j (sucs e)

past_once : (i j k : ℕ) → past i j ≡ past i k → j ≡ k
past_once zero j k e = sucs e
past_once (suc i) zero zero e = refl
past_once (suc i) zero (suc k) e = absurd (omega arith)
past_once (suc i) (suc j) zero e = absurd (omega arith)
past_once (suc i) (suc j) (suc k) e = ap suc (past_once i j k (sucs e))

absent_past : (i : ℕ) (m : List ℕ) → Absent i (map (past i) m)
absent_past i [] = tt
absent_past i (j ∷ m) = (past_other i j, absent_past i m)

absent_up : (i j : ℕ) (m : List ℕ) → Absent j m → Absent (past i j) (map (past i) m)
absent_up i j [] a = tt
absent_up i j (k ∷ m) a = ((λ e. a.0 (past_once i j k e)), absent_up i j m a.1)

absent_down : (i j : ℕ) (m : List ℕ) → Absent (past i j) (map (past i) m) → Absent j m
absent_down i j [] a = tt
absent_down i j (k ∷ m) a = ((λ e. a.0 (ap (past i) e)), absent_down i j m a.1)

distinct_up : (i : ℕ) (m : List ℕ) → Distinct m → Distinct (map (past i) m)
distinct_up i [] d = tt
distinct_up i (j ∷ m) d = (absent_up i j m d.0, distinct_up i m d.1)

distinct_down : (i : ℕ) (m : List ℕ) → Distinct (map (past i) m) → Distinct m
distinct_down i [] d = tt
distinct_down i (j ∷ m) d = (absent_down i j m d.0, distinct_down i m d.1)

-- one more line
le_down : {i j : ℕ} → suc i ≤ suc j → i ≤ j
le_down h = omega arith

placed_at : (i : ℕ) (x y : WideStep) (ys : List WideStep) → i ≤ length ys → Agree x y → AgreeAt i x (insert_at i y ys)
placed_at zero x y ys h a = a
placed_at (suc i) x y [] h a = absurd (omega arith)
placed_at (suc i) x y (z ∷ ys) h a = placed_at i x y ys (le_down h) a

found_at : (i : ℕ) (x y : WideStep) (ys : List WideStep) → i ≤ length ys → AgreeAt i x (insert_at i y ys) → Agree x y
found_at zero x y ys h a = a
found_at (suc i) x y [] h a = absurd (omega arith)
found_at (suc i) x y (z ∷ ys) h a = found_at i x y ys (le_down h) a

at_up : (i j : ℕ) (x y : WideStep) (ys : List WideStep) → i ≤ length ys → AgreeAt j x ys → AgreeAt (past i j) x (insert_at i y ys)
at_up zero j x y ys h a = a
at_up (suc i) j x y [] h a = absurd (omega arith)
at_up (suc i) zero x y (z ∷ ys) h a = a
at_up (suc i) (suc j) x y (z ∷ ys) h a = at_up i j x y ys (le_down h) a

at_down : (i j : ℕ) (x y : WideStep) (ys : List WideStep) → i ≤ length ys → i ≢ j → AgreeAt j x (insert_at i y ys) → (k : ℕ) × (j ≡ past i k) × AgreeAt k x ys
at_down zero zero x y ys h n a = absurd (n refl)
at_down zero (suc j) x y ys h n a = (j, refl, a)
at_down (suc i) j x y [] h n a = absurd (omega arith)
at_down (suc i) zero x y (z ∷ ys) h n a = (zero, refl, a)
at_down (suc i) (suc j) x y (z ∷ ys) h n a = let (k, e, b) = at_down i j x y ys (le_down h) (λ g. n (ap suc g)) a in (suc k, ap suc e, b)

paired_up : (i : ℕ) (m : List ℕ) (xs : List WideStep) (y : WideStep) (ys : List WideStep) → i ≤ length ys → Paired m xs ys → Paired (map (past i) m) xs (insert_at i y ys)
paired_up i [] [] y ys h p = tt
paired_up i [] (x ∷ xs) y ys h p = p
paired_up i (j ∷ m) [] y ys h p = p
paired_up i (j ∷ m) (x ∷ xs) y ys h p = (at_up i j x y ys h p.0, paired_up i m xs y ys h p.1)

paired_down : (i : ℕ) (m : List ℕ) (xs : List WideStep) (y : WideStep) (ys : List WideStep) → i ≤ length ys → Absent i m → Paired m xs (insert_at i y ys) → (l : List ℕ) × (m ≡ map (past i) l) × Paired l xs ys
paired_down i [] [] y ys h a p = ([], refl, tt)
paired_down i [] (x ∷ xs) y ys h a p = absurd p
paired_down i (j ∷ m) [] y ys h a p = absurd p
paired_down i (j ∷ m) (x ∷ xs) y ys h a p =
    let (k, e, b) = at_down i j x y ys h a.0 p.0 in
    let (l, g, q) = paired_down i m xs y ys h a.1 p.1 in
    (k ∷ l, both e g, (b, q))
  where
    both : {a b : ℕ} {c d : List ℕ} → a ≡ b → c ≡ d → (a ∷ c) ≡ (b ∷ d)
    both e k = cc

-- under a renaming
joined_renamed : (r : Renumbering) {n v : PlainNeutral} → JoinedNeutral n v → JoinedNeutral (ren_neutral r n) (ren_neutral r v)
joined_renamed r p = carried (ren_neutral r) (λ _ _ x. renamed_neutral r x) p

agree_renamed : (r : Renumbering) (x y : WideStep) → Agree x y → Agree (ren_wide_step r x) (ren_wide_step r y)
agree_renamed r (wide_step us ms n) (wide_step vs ns v) a = (ap (map r) a.0, a.1, joined_renamed r a.2)

at_renamed : (r : Renumbering) (i : ℕ) (x : WideStep) (ys : List WideStep) → AgreeAt i x ys → AgreeAt i (ren_wide_step r x) (map (ren_wide_step r) ys)
at_renamed r i x [] a = a
at_renamed r zero x (y ∷ ys) a = agree_renamed r x y a
at_renamed r (suc i) x (y ∷ ys) a = at_renamed r i x ys a

paired_renamed : (r : Renumbering) (m : List ℕ) (xs ys : List WideStep) → Paired m xs ys → Paired m (map (ren_wide_step r) xs) (map (ren_wide_step r) ys)
paired_renamed r [] [] ys p = tt
paired_renamed r [] (x ∷ xs) ys p = p
paired_renamed r (i ∷ m) [] ys p = p
paired_renamed r (i ∷ m) (x ∷ xs) ys p = (at_renamed r i x ys p.0, paired_renamed r m xs ys p.1)

insert_length : (i : ℕ) (y : WideStep) (ys : List WideStep) → length (insert_at i y ys) ≡ suc (length ys)
insert_length zero y ys = refl
insert_length (suc i) y [] = refl
insert_length (suc i) y (z ∷ ys) = ap suc (insert_length i y ys)

pub map_length : {A B : Type 0} (f : A → B) (xs : List A) → length (map f xs) ≡ length xs
map_length f [] = refl
map_length f (x ∷ xs) = ap suc (map_length f xs)

pub wide_length_ren : (r : Renumbering) (e : PlainExpression) → length (wide_steps (ren_expression r e)) ≡ length (wide_steps e)
wide_length_ren r (step ms n e) = ap suc (wide_length_ren (lifted (length ms) r) e)
wide_length_ren r (done t) = refl

place_bound : {q : List Mode} {v : PlainNeutral} {e f : PlainExpression} (u : Pulled q v e f) → place u ≤ length (wide_steps e)
place_bound pulled_here = omega arith
place_bound (pulled_later {p = p} {q = q} {e = e} {f = f} h k l u) = more (place_bound u) (ap (λ o. length (wide_steps o)) l ∙ wide_length_ren (crossed (length p) (length q)) e)
  where
    more : place u ≤ length (wide_steps e) → length (wide_steps f) ≡ length (wide_steps e) → suc (place u) ≤ suc (length (wide_steps f))
    more a b = omega arith

wide_length : {q : List Mode} {v : PlainNeutral} {e f : PlainExpression} (u : Pulled q v e f) → length (wide_steps f) ≡ suc (length (wide_steps e))
wide_length {q = q} {v = v} {e = e} {f = f} u = ap length (wide_pull u)
    ∙ insert_length (place u) (wide_step (map (there u) (map (up (size e)) (below (length q)))) q (ren_neutral (up (size f)) v)) (map (ren_wide_step (there u)) (wide_steps e))
    ∙ ap suc (map_length (ren_wide_step (there u)) (wide_steps e))

bound : {q : List Mode} {v : PlainNeutral} {e f : PlainExpression} (u : Pulled q v e f) → place u ≤ length (map (ren_wide_step (there u)) (wide_steps e))
bound {e = e} u = subst (λ k. place u ≤ k) (sym (map_length (ren_wide_step (there u)) (wide_steps e))) (place_bound u)

-- from cases to a bijection
pub extended : {p : List Mode} (r : PlainNeutral) {v : PlainNeutral} (d : PlainExpression) {e f : PlainExpression} (u : Pulled p v e f) → JoinedNeutral r v → (m : List ℕ) → IsMatching m d e → IsMatching (place u ∷ map (past (place u)) m) (step p r d) f
extended {p = p} r {v = v} d {e = e} {f = f} u n m (s, out, len, dis, pairs, tup) =
    (z, outside, sym (wide_length u ∙ ap suc (sym len)), (absent_past (place u) m, distinct_up (place u) m dis), subst (Paired (place u ∷ map (past (place u)) m) (map (ren_wide_step z) (wide_steps (step p r d)))) (sym (wide_pull u)) (first, others), last)
  where
    z : Renumbering
    z = λ i. there u (s i)

    y : WideStep
    y = wide_step (map (there u) (map (up (size e)) (below (length p)))) p (ren_neutral (up (size f)) v)

    outside : (i : ℕ) → z (i + (size d + length p)) ≡ i + size f
    outside i = ap z regroup ∙ ap (there u) (out (i + length p)) ∙ ap (there u) regroup2 ∙ outer u i
      where
        regroup : i + (size d + length p) ≡ i + length p + size d
        regroup = omega arith

        regroup2 : i + length p + size e ≡ i + (size e + length p)
        regroup2 = omega arith

    names : map z (map (up (size d)) (below (length p))) ≡ map (there u) (map (up (size e)) (below (length p)))
    names = map_comp z (up (size d)) (below (length p)) ∙ ap (λ g. map g (below (length p))) (ext (λ c. ap (there u) (out c))) ∙ sym (map_comp (there u) (up (size e)) (below (length p)))

    side : ren_neutral z (ren_neutral (up (size d + length p)) r) ≡ ren_neutral (up (size f)) r
    side = composed_neutral z (up (size d + length p)) r ∙ ap (λ g. ren_neutral g r) (ext outside)

    first : AgreeAt (place u) (ren_wide_step z (wide_step (map (up (size d)) (below (length p))) p (ren_neutral (up (size d + length p)) r))) (insert_at (place u) y (map (ren_wide_step (there u)) (wide_steps e)))
    first = placed_at (place u) (ren_wide_step z (wide_step (map (up (size d)) (below (length p))) p (ren_neutral (up (size d + length p)) r))) y (map (ren_wide_step (there u)) (wide_steps e)) (bound u)
        (names, refl, subst (λ (o : PlainNeutral). JoinedNeutral o (ren_neutral (up (size f)) v)) (sym side) (joined_renamed (up (size f)) n))

    others : Paired (map (past (place u)) m) (map (ren_wide_step z) (wide_steps d)) (insert_at (place u) y (map (ren_wide_step (there u)) (wide_steps e)))
    others = paired_up (place u) m (map (ren_wide_step z) (wide_steps d)) y (map (ren_wide_step (there u)) (wide_steps e)) (bound u)
        (subst (λ o. Paired m o (map (ren_wide_step (there u)) (wide_steps e))) (lines_comp (there u) s (wide_steps d)) (paired_renamed (there u) m (map (ren_wide_step s) (wide_steps d)) (wide_steps e) pairs))

    last : JoinedTuple (ren_tuple z (result_of d)) (result_of f)
    last = subst (JoinedTuple (ren_tuple z (result_of d))) (sym (result_pull u)) (subst (λ (o : PlainTuple). JoinedTuple o (ren_tuple (there u) (result_of e))) (composed_tuple (there u) s (result_of d))
        (carried (ren_tuple (there u)) (λ _ _ x. renamed_tuple (there u) x) tup))

pub ret_matching : {t w : PlainTuple} → MatchesTuple t w → IsMatching [] (done t) (done w)
ret_matching {t} {w} p = ((λ i. i), (λ i. refl), refl, tt, tt, subst (λ (o : PlainTuple). JoinedTuple o w) (sym (identity_tuple t)) (joined_tuple p))

pub to_matching : {e f : PlainExpression} → MatchesExpression e f → (m : List ℕ) × IsMatching m e f
to_matching (match_done p) = ([], ret_matching p)
to_matching (match_step {r = r} {d = d} u n l) = let (m, g) = to_matching l in (place u ∷ map (past (place u)) m, extended r d u (joined_neutral n) m g)

-- from a bijection to cases
pub reflected_chain : (n : ℕ) {c d : PlainNeutral} → JoinedNeutral c d → (a : PlainNeutral) → c ≡ ren_neutral (up n) a → (b : PlainNeutral) × (d ≡ ren_neutral (up n) b) × JoinedNeutral a b
reflected_chain n stop a e = (a, e, stop)
reflected_chain n (next x p) a e = let (b, g, y) = reflected n e x in let (c, h, q) = reflected_chain n p b g in (c, h, next y q)

pub pullable : (f : PlainExpression) (i : ℕ) (us : List ℕ) (ms : List Mode) (n r : PlainNeutral) → n ≡ ren_neutral (up (size f)) r → AgreeAt i (wide_step us ms n) (wide_steps f)
    → (q : List Mode) × (v : PlainNeutral) × (e : PlainExpression) × (u : Pulled q v e f) × (ms ≡ q) × (place u ≡ i) × JoinedNeutral r v
pullable (done t) i us ms n r e a = absurd a
pullable (step q o g) zero us ms n r e a =
    let (b, h, j) = reflected_chain (size g + length q) a.2 r e in
    (q, o, g, pulled_here, a.1, refl, subst (JoinedNeutral r) (sym (up_once (size g + length q) h)) j)
pullable (step q o g) (suc i) us ms n r e a =
    let (k, w, d, u, same, where_at, j) = pullable g i us ms n (ren_neutral (up (length q)) r) (e ∙ split) a in
    let (v, h, l) = reflected_chain (length q) j r refl in
    (k, v, step q (ren_neutral (up (length k)) o) (ren_expression (crossed (length q) (length k)) d), pulled_later h refl refl u, same, ap suc where_at, l)
  where
    split : ren_neutral (up (size g + length q)) r ≡ ren_neutral (up (size g)) (ren_neutral (up (length q)) r)
    split = sym (composed_neutral (up (size g)) (up (length q)) r ∙ ap (λ m. ren_neutral m r) (ext (λ i. sum i)))
      where
        sum : (i : ℕ) → i + length q + size g ≡ i + (size g + length q)
        sum i = omega arith

pub own_from : (f g : Renumbering) (a b n : ℕ) → map f (map (up a) (below n)) ≡ map g (map (up b) (below n)) → (c : ℕ) → c < n → f (c + a) ≡ g (c + b)
own_from f g a b zero e c h = absurd (omega arith)
own_from f g a b (suc n) e c h = ⊎_elim (λ k. own_from f g a b n (tails e) c k) (λ k. subst (λ j. f (j + a) ≡ g (j + b)) (same k) (heads e)) (cut c n)
  where
    tails : {i j : ℕ} {is js : List ℕ} → (i ∷ is) ≡ (j ∷ js) → is ≡ js
    tails e = cc

    heads : {i j : ℕ} {is js : List ℕ} → (i ∷ is) ≡ (j ∷ js) → i ≡ j
    heads e = cc

    same : n ≤ c → n ≡ c
    same k = omega arith

pub rest_matching : {q : List Mode} {v : PlainNeutral} (p : List Mode) (r : PlainNeutral) (d : PlainExpression) {e f : PlainExpression} (u : Pulled q v e f) → p ≡ q → (m : List ℕ) → IsMatching (place u ∷ m) (step p r d) f → (l : List ℕ) × (m ≡ map (past (place u)) l) × IsMatching l d e
rest_matching {q = q} {v = v} p r d {e = e} {f = f} u same m (s, out, len, dis, pairs, tup) =
    let (l, g, pl) = paired_down (place u) m (map (ren_wide_step s) (wide_steps d)) y ys (bound u) dis.0 all.1 in
    (l, g, (z, outside, count (len ∙ wide_length u), distinct_down (place u) l (subst Distinct g dis.1), again l pl, last))
  where
    z : Renumbering
    z = λ i. back u (s i)

    y : WideStep
    y = wide_step (map (there u) (map (up (size e)) (below (length q)))) q (ren_neutral (up (size f)) v)

    ys : List WideStep
    ys = map (ren_wide_step (there u)) (wide_steps e)

    x : WideStep
    x = ren_wide_step s (wide_step (map (up (size d)) (below (length p))) p (ren_neutral (up (size d + length p)) r))

    all : Paired (place u ∷ m) (x ∷ map (ren_wide_step s) (wide_steps d)) (insert_at (place u) y ys)
    all = subst (Paired (place u ∷ m) (x ∷ map (ren_wide_step s) (wide_steps d))) (wide_pull u) pairs

    agree : Agree x y
    agree = found_at (place u) x y ys (bound u) all.0

    long : length p ≡ length q
    long = ap length same

    count : suc (length (wide_steps d)) ≡ suc (length (wide_steps e)) → length (wide_steps d) ≡ length (wide_steps e)
    count h = omega arith

    names : map s (map (up (size d)) (below (length p))) ≡ map (there u) (map (up (size e)) (below (length p)))
    names = agree.0 ∙ ap (λ k. map (there u) (map (up (size e)) (below k))) (sym long)

    far : (i : ℕ) → length p ≤ i → s (i + size d) ≡ there u (i + size e)
    far i h = ap s (determined h) ∙ out (i - length p) ∙ sym (ap (there u) (two long h) ∙ outer u (i - length p))
      where
        determined : length p ≤ i → i + size d ≡ i - length p + (size d + length p)
        determined h = omega arith

        two : length p ≡ length q → length p ≤ i → i + size e ≡ i - length p + (size e + length q)
        two k h = omega arith

    outside : (i : ℕ) → z (i + size d) ≡ i + size e
    outside i = ap (back u) (⊎_elim (λ h. own_from s (there u) (size d) (size e) (length p) names i h) (far i) (cut i (length p))) ∙ back_there u (i + size e)

    undone : map (ren_wide_step (back u)) ys ≡ wide_steps e
    undone = lines_comp (back u) (there u) (wide_steps e) ∙ ap (λ g. map (ren_wide_step g) (wide_steps e)) (ext (back_there u)) ∙ map_idle (ren_wide_step (λ i. i)) (wide_steps e) line_idle

    again : (l : List ℕ) → Paired l (map (ren_wide_step s) (wide_steps d)) ys → Paired l (map (ren_wide_step z) (wide_steps d)) (wide_steps e)
    again l pl = subst (Paired l (map (ren_wide_step z) (wide_steps d))) undone (subst (λ o. Paired l o (map (ren_wide_step (back u)) ys)) (lines_comp (back u) s (wide_steps d)) (paired_renamed (back u) l (map (ren_wide_step s) (wide_steps d)) ys pl))

    last : JoinedTuple (ren_tuple z (result_of d)) (result_of e)
    last = subst (JoinedTuple (ren_tuple z (result_of d))) (ap (ren_tuple (back u)) (result_pull u) ∙ composed_tuple (back u) (there u) (result_of e) ∙ ap (λ g. ren_tuple g (result_of e)) (ext (back_there u)) ∙ identity_tuple (result_of e))
        (subst (λ (o : PlainTuple). JoinedTuple o (ren_tuple (back u) (result_of f))) (composed_tuple (back u) s (result_of d)) (carried (ren_tuple (back u)) (λ _ _ x. renamed_tuple (back u) x) tup))

pub from_matching : (e f : PlainExpression) (m : List ℕ) → IsMatching m e f → MatchesExpression e f
from_matching (done t) (done w) m (s, out, len, dis, pairs, tup) = match_done (like_to_tuple (alike_tuple t) (subst (λ (o : PlainTuple). JoinedTuple o w) (ap (λ g. ren_tuple g t) (ext (λ i. subst (λ j. s j ≡ j) (add-zero i) (out i))) ∙ identity_tuple t) tup))
from_matching (done t) (step q o g) m (s, out, len, dis, pairs, tup) = absurd (no_place len)
  where
    no_place : 0 ≡ suc (length (wide_steps g)) → ⊥
    no_place e = omega arith
from_matching (step p r d) f [] (s, out, len, dis, pairs, tup) = absurd pairs
from_matching (step p r d) f (i ∷ m) (s, out, len, dis, pairs, tup) =
    let (q, v, e, u, same, where_at, n) = pullable f i (map s (map (up (size d)) (below (length p)))) p (ren_neutral s (ren_neutral (up (size d + length p)) r)) r (composed_neutral s (up (size d + length p)) r ∙ ap (λ g. ren_neutral g r) (ext out)) pairs.0 in
    let (l, g, h) = rest_matching p r d u same m (subst (λ j. IsMatching (j ∷ m) (step p r d) f) (sym where_at) (s, out, len, dis, pairs, tup)) in
    match_step (subst (λ ms. Pulled ms v e f) (sym same) u) (like_to_neutral (alike_neutral r) n) (from_matching d e l h)

pub joined_has_matching : JoinedHasMatching
joined_has_matching e f = ((λ p. to_matching (like_to_expression (alike_expression e) p)), (λ g. joined_expression (from_matching e f g.0 g.1)))
