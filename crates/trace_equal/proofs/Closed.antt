-- Joined trees are alike, and like trees are joined.
use Rattle.std.specs.Prelude.{ℕ, ◌≡◌, List, length, refl}
use Rattle.std.proofs.Common.{ap, sym, subst, ◌∙◌}
use Rattle.clf_syntax.specs.declared.tree.Mode.{Mode}
use Rattle.clf_syntax.specs.Tree.{PlainObject, lam, pair, unit, monadic, atomic, hole, PlainNeutral, head_alone, app, fst, snd, PlainExpression, step, done, PlainTuple, empty, entry}
use Rattle.clf_syntax.specs.Renaming.{Renumbering, lifted, ren_neutral, ren_expression, up, crossed}
use Rattle.clf_syntax.proofs.RenamingLaws.{binds, square_neutral, square_expression, undone_expression, lift_up, lift_cross, cross_cross, cross_up, braid, composed_neutral, composed_expression}
use Rattle.trace_equal.specs.Exchange.{Exchanged, in_lam, in_left, in_right, in_monadic, in_atomic, ExchangedNeutral, in_function, in_argument, in_fst, in_snd, ExchangedExpression, in_right_side, in_later_steps, in_done, exchange, ExchangedTuple, in_entry, in_later_entry, Chain, stop, next, Joined, JoinedNeutral, JoinedExpression, JoinedTuple}
use Rattle.trace_equal.proofs.Moves.{renamed_neutral, renamed_expression, up_once, reflected}
use Rattle.trace_equal.specs.Laws.{JoinedMatches}
use Rattle.trace_equal.specs.Matching.{Pulled, pulled_here, pulled_later, Matches, match_lam, match_pair, match_unit, match_monadic, match_atomic, match_hole, MatchesNeutral, match_bare, match_app, match_fst, match_snd, MatchesExpression, match_step, match_done, MatchesTuple, match_empty, match_entry}

mutual
  pub alike : (o : PlainObject) → Matches o o
  alike (lam m b) = match_lam (alike b)
  alike (pair l r) = match_pair (alike l) (alike r)
  alike unit = match_unit
  alike (monadic e) = match_monadic (alike_expression e)
  alike (atomic n) = match_atomic (alike_neutral n)
  alike hole = match_hole

  pub alike_neutral : (n : PlainNeutral) → MatchesNeutral n n
  alike_neutral (head_alone h) = match_bare
  alike_neutral (app m r o) = match_app (alike_neutral r) (alike o)
  alike_neutral (fst r) = match_fst (alike_neutral r)
  alike_neutral (snd r) = match_snd (alike_neutral r)

  pub alike_expression : (e : PlainExpression) → MatchesExpression e e
  alike_expression (step ms r e) = match_step pulled_here (alike_neutral r) (alike_expression e)
  alike_expression (done t) = match_done (alike_tuple t)

  pub alike_tuple : (t : PlainTuple) → MatchesTuple t t
  alike_tuple empty = match_empty
  alike_tuple (entry m o t) = match_entry (alike o) (alike_tuple t)

pub pull_renamed : (r : Renumbering) {q : List Mode} {v : PlainNeutral} {e f : PlainExpression} → Pulled q v e f → Pulled q (ren_neutral r v) (ren_expression (lifted (length q) r) e) (ren_expression r f)
pull_renamed r pulled_here = pulled_here
pull_renamed r (pulled_later {p = p} {q = q} {r = n} {v = v} {e = e} g h k u) = pulled_later
    (ap (ren_neutral (lifted (length p) r)) g ∙ square_neutral (lifted (length p) r) (up (length p)) (up (length p)) r (lift_up (length p) r) v)
    (ap (ren_neutral (lifted (length q) r)) h ∙ square_neutral (lifted (length q) r) (up (length q)) (up (length q)) r (lift_up (length q) r) n)
    (ap (ren_expression (lifted (length p) (lifted (length q) r))) k ∙ square_expression (lifted (length p) (lifted (length q) r)) (crossed (length p) (length q)) (crossed (length p) (length q)) (lifted (length q) (lifted (length p) r)) (lift_cross (length p) (length q) r) e)
    (pull_renamed (lifted (length p) r) u)

-- after an exchange the step is still there to be pulled, and one of the parts has changed, or none
pub data Moved (q : List Mode) (v : PlainNeutral) (e f : PlainExpression) : Type 0 where
  in_step : (w : PlainNeutral) → ExchangedNeutral v w → Pulled q w e f → Moved q v e f
  in_rest : (g : PlainExpression) → ExchangedExpression e g → Pulled q v g f → Moved q v e f
  no_more : Pulled q v e f → Moved q v e f

pulled : {q : List Mode} {v w : PlainNeutral} {d e : PlainExpression} → v ≡ w → d ≡ e → Pulled q v d (step q w e)
pulled g h = rw (g, h) pulled_here

pub cross_neutral : (p q : ℕ) (v : PlainNeutral) → ren_neutral (crossed p q) (ren_neutral (up q) (ren_neutral (up p) v)) ≡ ren_neutral (up p) (ren_neutral (up q) v)
cross_neutral p q v = ap (ren_neutral (crossed p q)) (composed_neutral (up q) (up p) v) ∙ square_neutral (crossed p q) (λ i. up q (up p i)) (up p) (up q) (cross_up p q) v

braid_expression : (a b c : ℕ) (e : PlainExpression) → ren_expression (lifted b (crossed c a)) (ren_expression (crossed b a) (ren_expression (lifted a (crossed b c)) e)) ≡ ren_expression (crossed b c) (ren_expression (lifted c (crossed b a)) (ren_expression (crossed c a) e))
braid_expression a b c e = ap (ren_expression (lifted b (crossed c a))) (composed_expression (crossed b a) (lifted a (crossed b c)) e)
    ∙ square_expression (lifted b (crossed c a)) (λ i. crossed b a (lifted a (crossed b c) i)) (crossed b c) (λ i. lifted c (crossed b a) (crossed c a i)) (braid a b c) e
    ∙ sym (ap (ren_expression (crossed b c)) (composed_expression (lifted c (crossed b a)) (crossed c a) e))

pub uncrossed : (p q : ℕ) {e f : PlainExpression} → f ≡ ren_expression (crossed p q) e → e ≡ ren_expression (crossed q p) f
uncrossed p q {e} {f} h = sym (ap (ren_expression (crossed q p)) h ∙ undone_expression (crossed q p) (crossed p q) (cross_cross p q) e)

-- an exchange in the rest of a step that stays in front
moved_rest : {p q : List Mode} {r s v w : PlainNeutral} {e f g : PlainExpression}
    → w ≡ ren_neutral (up (length p)) v → s ≡ ren_neutral (up (length q)) r → f ≡ ren_expression (crossed (length p) (length q)) e
    → Moved q w e g → Moved q v (step p s f) (step p r g)
moved_rest {p = p} h k l (in_step o y u) = let (b, i, z) = reflected (length p) h y in in_step b z (pulled_later i k l u)
moved_rest {p = p} {q = q} {s = s} h k l (in_rest d y u) = in_rest (step p s (ren_expression (crossed (length p) (length q)) d))
    (in_later_steps (subst (λ (o : PlainExpression). ExchangedExpression o (ren_expression (crossed (length p) (length q)) d)) (sym l) (renamed_expression (crossed (length p) (length q)) y)))
    (pulled_later h k refl u)
moved_rest h k l (no_more u) = no_more (pulled_later h k l u)

-- three steps: the last can be pulled, and the first two change places
three : {a b c : List Mode} (n : PlainNeutral) {v x x' y y' r' w q : PlainNeutral} {d e f f' g : PlainExpression}
    → x ≡ ren_neutral (up (length b)) v → y ≡ ren_neutral (up (length a)) n → f ≡ ren_expression (crossed (length b) (length a)) (step c y' f')
    → x' ≡ ren_neutral (up (length c)) x → y' ≡ ren_neutral (up (length a)) w → f' ≡ ren_expression (crossed (length c) (length a)) d
    → w ≡ ren_neutral (up (length b)) q → r' ≡ ren_neutral (up (length c)) n → g ≡ ren_expression (crossed (length b) (length c)) e
    → Pulled a x' d e → Moved a v (step b y f) (step c q (step b r' g))
three {a = a} {b = b} {c = c} n {v = v} {x = x} {x' = x'} {y = y} {y' = y'} {r' = r'} {w = w} {q = q} {d = d} {e = e} {f = f} {f' = f'} {g = g} g1 h1 k1 g2 h2 k2 hx kx lx u =
    in_rest (step c (ren_neutral (up (length a)) q) (ren_expression (crossed (length c) (length a)) rest))
    (subst (λ (o : PlainExpression). ExchangedExpression (step b y o) (step c (ren_neutral (up (length a)) q) (ren_expression (crossed (length c) (length a)) rest))) (sym k1)
    (exchange first second third))
    (pulled_later refl refl refl (pulled_later refl refl refl pull))
  where
    deep : PlainExpression
    deep = ren_expression (lifted (length a) (crossed (length b) (length c))) d

    rest : PlainExpression
    rest = step b (ren_neutral (up (length a)) r') (ren_expression (crossed (length b) (length a)) deep)

    first : ren_neutral (crossed (length b) (length a)) y' ≡ ren_neutral (up (length b)) (ren_neutral (up (length a)) q)
    first = ap (ren_neutral (crossed (length b) (length a))) (h2 ∙ ap (ren_neutral (up (length a))) hx) ∙ cross_neutral (length b) (length a) q

    second : ren_neutral (crossed (length c) (length a)) (ren_neutral (up (length a)) r') ≡ ren_neutral (up (length c)) y
    second = ap (λ o. ren_neutral (crossed (length c) (length a)) (ren_neutral (up (length a)) o)) kx ∙ cross_neutral (length c) (length a) n ∙ ap (ren_neutral (up (length c))) (sym h1)

    third : ren_expression (lifted (length b) (crossed (length c) (length a))) (ren_expression (crossed (length b) (length a)) deep) ≡ ren_expression (crossed (length b) (length c)) (ren_expression (lifted (length c) (crossed (length b) (length a))) f')
    third = braid_expression (length a) (length b) (length c) d ∙ ap (λ o. ren_expression (crossed (length b) (length c)) (ren_expression (lifted (length c) (crossed (length b) (length a))) o)) (sym k2)

    fourth : ren_neutral (crossed (length b) (length c)) x' ≡ ren_neutral (up (length b)) (ren_neutral (up (length c)) v)
    fourth = ap (ren_neutral (crossed (length b) (length c))) (g2 ∙ ap (ren_neutral (up (length c))) g1) ∙ cross_neutral (length b) (length c) v

    pull : Pulled a (ren_neutral (up (length b)) (ren_neutral (up (length c)) v)) deep g
    pull = subst (λ (o : PlainNeutral). Pulled a o deep g) fourth (subst (λ (o : PlainExpression). Pulled a (ren_neutral (crossed (length b) (length c)) x') deep o) (sym lx) (pull_renamed (crossed (length b) (length c)) u))

pub moved : {q : List Mode} {v : PlainNeutral} {e f g : PlainExpression} → Pulled q v e f → ExchangedExpression f g → Moved q v e g
moved pulled_here (in_right_side {s = s} x) = in_step s x pulled_here
moved pulled_here (in_later_steps {f = f} x) = in_rest f x pulled_here
moved pulled_here (exchange {p = p} {q = q} h k l) = no_more (pulled_later k h (uncrossed (length p) (length q) l) pulled_here)
moved (pulled_later {p = p} {q = q} {s = s} {f = f} h k l u) (in_right_side {s = o} x) = in_rest (step p (ren_neutral (up (length q)) o) f)
    (in_right_side (subst (λ (i : PlainNeutral). ExchangedNeutral i (ren_neutral (up (length q)) o)) (sym k) (renamed_neutral (up (length q)) x))) (pulled_later h refl l u)
moved (pulled_later h k l u) (in_later_steps x) = moved_rest h k l (moved u x)
moved (pulled_later {p = p} h k l pulled_here) (exchange i j m) = no_more (pulled (up_once (length p) (sym h ∙ i)) (binds p (k ∙ sym j) (l ∙ sym m)))
moved (pulled_later {r = r} h k l (pulled_later h2 k2 l2 u)) (exchange i j m) = three r h k l h2 k2 l2 i j m u

on_moved : {q : List Mode} {r v : PlainNeutral} {d e f : PlainExpression} → MatchesNeutral r v → MatchesExpression d e → ((w : PlainNeutral) → ExchangedNeutral v w → MatchesNeutral r w) → ((g : PlainExpression) → ExchangedExpression e g → MatchesExpression d g) → Moved q v e f → MatchesExpression (step q r d) f
on_moved n l s t (in_step w x u) = match_step u (s w x) l
on_moved n l s t (in_rest g x u) = match_step u n (t g x)
on_moved n l s t (no_more u) = match_step u n l

mutual
  pub closed : {a b c : PlainObject} → Matches a b → Exchanged b c → Matches a c
  closed (match_lam p) (in_lam x) = match_lam (closed p x)
  closed (match_pair p q) (in_left x) = match_pair (closed p x) q
  closed (match_pair p q) (in_right x) = match_pair p (closed q x)
  closed (match_monadic p) (in_monadic x) = match_monadic (closed_expression p x)
  closed (match_atomic p) (in_atomic x) = match_atomic (closed_neutral p x)
  closed match_unit x = elim x [ ]
  closed match_hole x = elim x [ ]

  pub closed_neutral : {a b c : PlainNeutral} → MatchesNeutral a b → ExchangedNeutral b c → MatchesNeutral a c
  closed_neutral (match_app p q) (in_function x) = match_app (closed_neutral p x) q
  closed_neutral (match_app p q) (in_argument x) = match_app p (closed q x)
  closed_neutral (match_fst p) (in_fst x) = match_fst (closed_neutral p x)
  closed_neutral (match_snd p) (in_snd x) = match_snd (closed_neutral p x)
  closed_neutral match_bare x = elim x [ ]

  pub closed_expression : {a b c : PlainExpression} → MatchesExpression a b → ExchangedExpression b c → MatchesExpression a c
  closed_expression (match_step u n l) x = on_moved n l (λ w y. closed_neutral n y) (λ g y. closed_expression l y) (moved u x)
  closed_expression (match_done p) (in_done x) = match_done (closed_tuple p x)

  pub closed_tuple : {a b c : PlainTuple} → MatchesTuple a b → ExchangedTuple b c → MatchesTuple a c
  closed_tuple (match_entry p q) (in_entry x) = match_entry (closed p x) q
  closed_tuple (match_entry p q) (in_later_entry x) = match_entry p (closed_tuple q x)
  closed_tuple match_empty x = elim x [ ]

-- chains
pub trail : {A : Type 0} {X : A → A → Type 0} {a b c : A} → Chain A X a b → Chain A X b c → Chain A X a c
trail stop q = q
trail (next x p) q = next x (trail p q)

pub carried : {A B : Type 0} {X : A → A → Type 0} {Y : B → B → Type 0} {a b : A} (f : A → B) → ((c d : A) → X c d → Y (f c) (f d)) → Chain A X a b → Chain B Y (f a) (f b)
carried f h stop = stop
carried f h (next x p) = next (h _ _ x) (carried f h p)

pub placed : {q : List Mode} {v : PlainNeutral} {e f : PlainExpression} → Pulled q v e f → JoinedExpression (step q v e) f
placed pulled_here = stop
placed (pulled_later {p = p} {q = q} {r = r} h k l u) = next (exchange k h (uncrossed (length p) (length q) l)) (carried (step p r) (λ _ _ x. in_later_steps x) (placed u))

mutual
  pub joined : {a b : PlainObject} → Matches a b → Joined a b
  joined (match_lam {m = m} p) = carried (lam m) (λ _ _ x. in_lam x) (joined p)
  joined (match_pair {k = k} {r = r} p q) = trail (carried (λ (o : PlainObject). pair o r) (λ _ _ x. in_left x) (joined p)) (carried (pair k) (λ _ _ x. in_right x) (joined q))
  joined match_unit = stop
  joined (match_monadic p) = carried monadic (λ _ _ x. in_monadic x) (joined_expression p)
  joined (match_atomic p) = carried atomic (λ _ _ x. in_atomic x) (joined_neutral p)
  joined match_hole = stop

  pub joined_neutral : {a b : PlainNeutral} → MatchesNeutral a b → JoinedNeutral a b
  joined_neutral match_bare = stop
  joined_neutral (match_app {m = m} {s = s} {o = o} p q) = trail (carried (λ (r : PlainNeutral). app m r o) (λ _ _ x. in_function x) (joined_neutral p)) (carried (app m s) (λ _ _ x. in_argument x) (joined q))
  joined_neutral (match_fst p) = carried fst (λ _ _ x. in_fst x) (joined_neutral p)
  joined_neutral (match_snd p) = carried snd (λ _ _ x. in_snd x) (joined_neutral p)

  pub joined_expression : {a b : PlainExpression} → MatchesExpression a b → JoinedExpression a b
  joined_expression (match_step {p = p} {v = v} {d = d} u n l) = trail (carried (λ (r : PlainNeutral). step p r d) (λ _ _ x. in_right_side x) (joined_neutral n)) (trail (carried (step p v) (λ _ _ x. in_later_steps x) (joined_expression l)) (placed u))
  joined_expression (match_done p) = carried done (λ _ _ x. in_done x) (joined_tuple p)

  pub joined_tuple : {a b : PlainTuple} → MatchesTuple a b → JoinedTuple a b
  joined_tuple match_empty = stop
  joined_tuple (match_entry {m = m} {u = u} {t = t} p q) = trail (carried (λ (o : PlainObject). entry m o t) (λ _ _ x. in_entry x) (joined p)) (carried (entry m u) (λ _ _ x. in_later_entry x) (joined_tuple q))

pub like_to : {a b c : PlainObject} → Matches a b → Joined b c → Matches a c
like_to l stop = l
like_to l (next x p) = like_to (closed l x) p

pub like_to_expression : {a b c : PlainExpression} → MatchesExpression a b → JoinedExpression b c → MatchesExpression a c
like_to_expression l stop = l
like_to_expression l (next x p) = like_to_expression (closed_expression l x) p

pub like_to_neutral : {a b c : PlainNeutral} → MatchesNeutral a b → JoinedNeutral b c → MatchesNeutral a c
like_to_neutral l stop = l
like_to_neutral l (next x p) = like_to_neutral (closed_neutral l x) p

pub like_to_tuple : {a b c : PlainTuple} → MatchesTuple a b → JoinedTuple b c → MatchesTuple a c
like_to_tuple l stop = l
like_to_tuple l (next x p) = like_to_tuple (closed_tuple l x) p

pub joined_matches : JoinedMatches
joined_matches = ((λ a b. (like_to (alike a), joined)), (λ a b. (like_to_neutral (alike_neutral a), joined_neutral)), (λ a b. (like_to_expression (alike_expression a), joined_expression)), (λ a b. (like_to_tuple (alike_tuple a), joined_tuple)))
