-- The list of steps of an expression with one step pulled to the front.
use Rattle.std.specs.Prelude.{ℕ, zero, suc, ◌+◌, ◌-◌, ◌≡◌, ◌<◌, List, [], ◌∷◌, length, map, refl}
use Rattle.std.proofs.Common.{ap, sym, subst, ◌∙◌, arith}
use Rattle.clf_syntax.proofs.RenamingLaws.{composed_neutral, composed_tuple, cross_cross, cross_new, cross_old, cross_out, ext, identity_neutral, identity_tuple, lift_comp, lift_id, lift_in, lift_up, square_neutral}
use Rattle.clf_syntax.specs.Renaming.{Renumbering, crossed, lifted, ren_expression, ren_neutral, ren_tuple, up}
use Rattle.clf_syntax.specs.Tree.{PlainExpression, PlainNeutral, done, step}
use Rattle.clf_syntax.specs.declared.tree.Mode.{Mode}
use Rattle.trace_equal.specs.Matching.{Pulled, pulled_here, pulled_later}
use Rattle.trace_equal.specs.Steps.{WideStep, below, ren_wide_step, result_of, size, wide_step, wide_steps}

abbrev pub insert_at : {A : Type 0} → ℕ → A → List A → List A
insert_at zero y ys = y ∷ ys
insert_at (suc i) y [] = y ∷ []
insert_at (suc i) y (z ∷ zs) = z ∷ insert_at i y zs

pub map_comp : {A B C : Type 0} (f : B → C) (g : A → B) (xs : List A) → map f (map g xs) ≡ map (λ x. f (g x)) xs
map_comp f g [] = refl
map_comp f g (x ∷ xs) = ap (λ l. f (g x) ∷ l) (map_comp f g xs)

pub map_idle : {A : Type 0} (f : A → A) (xs : List A) → ((x : A) → f x ≡ x) → map f xs ≡ xs
map_idle f [] h = refl
map_idle f (x ∷ xs) h = conses (h x) (map_idle f xs h)
  where
    conses : {B : Type 0} {a b : B} {cs bs : List B} → a ≡ b → cs ≡ bs → (a ∷ cs) ≡ (b ∷ bs)
    conses e k = cc

pub lines : (ms : List Mode) {vs us : List ℕ} {n o : PlainNeutral} → vs ≡ us → n ≡ o → wide_step vs ms n ≡ wide_step us ms o
lines ms e f = cc

pub conses : {a b : WideStep} {cs bs : List WideStep} → a ≡ b → cs ≡ bs → (a ∷ cs) ≡ (b ∷ bs)
conses e f = cc

pub line_comp : (r s : Renumbering) (l : WideStep) → ren_wide_step r (ren_wide_step s l) ≡ ren_wide_step (λ i. r (s i)) l
line_comp r s (wide_step vs ms n) = lines ms (map_comp r s vs) (composed_neutral r s n)

pub line_idle : (l : WideStep) → ren_wide_step (λ i. i) l ≡ l
line_idle (wide_step vs ms n) = lines ms (map_idle (λ i. i) vs (λ i. refl)) (identity_neutral n)

pub lines_comp : (r s : Renumbering) (ls : List WideStep) → map (ren_wide_step r) (map (ren_wide_step s) ls) ≡ map (ren_wide_step (λ i. r (s i))) ls
lines_comp r s [] = refl
lines_comp r s (l ∷ ls) = conses (line_comp r s l) (lines_comp r s ls)

-- the variables of one step, renamed
pub own_to : (f : Renumbering) (a b n : ℕ) → ((c : ℕ) → c < n → f (c + a) ≡ c + b) → map f (map (up a) (below n)) ≡ map (up b) (below n)
own_to f a b zero h = refl
own_to f a b (suc n) h = both (h n (omega arith)) (own_to f a b n (λ c k. h c (omega arith)))
  where
    both : {i j : ℕ} {is js : List ℕ} → i ≡ j → is ≡ js → (i ∷ is) ≡ (j ∷ js)
    both e k = cc

pub size_ren : (r : Renumbering) (e : PlainExpression) → size (ren_expression r e) ≡ size e
size_ren r (step ms x e) = ap (λ k. k + length ms) (size_ren (lifted (length ms) r) e)
size_ren r (done t) = refl

pub lift_lift : (a n : ℕ) (r : Renumbering) → lifted a (lifted n r) ≡ lifted (a + n) r
lift_lift a n r = ext (λ i. grind arith)

lift_zero : (r : Renumbering) → lifted 0 r ≡ r
lift_zero r = ext (λ i. grind arith)

inside : (a n c : ℕ) (r : Renumbering) → c < n → lifted (a + n) r (c + a) ≡ c + a
inside a n c r h = lift_in (a + n) r (c + a) (omega arith)

wide_head : (r : Renumbering) (a b n : ℕ) (ms : List Mode) (x : PlainNeutral) → b ≡ a
    → wide_step (map (up b) (below n)) ms (ren_neutral (up (b + n)) (ren_neutral r x)) ≡ ren_wide_step (lifted (a + n) r) (wide_step (map (up a) (below n)) ms (ren_neutral (up (a + n)) x))
wide_head r a b n ms x e = subst (λ k. wide_step (map (up k) (below n)) ms (ren_neutral (up (k + n)) (ren_neutral r x)) ≡ ren_wide_step (lifted (a + n) r) (wide_step (map (up a) (below n)) ms (ren_neutral (up (a + n)) x))) (sym e)
    (lines ms (sym (own_to (lifted (a + n) r) a a n (λ c h. inside a n c r h))) (square_neutral (up (a + n)) r (lifted (a + n) r) (up (a + n)) (λ i. sym (lift_up (a + n) r i)) x))

pub wide_ren : (r : Renumbering) (e : PlainExpression) → wide_steps (ren_expression r e) ≡ map (ren_wide_step (lifted (size e) r)) (wide_steps e)
wide_ren r (step ms x e) = conses (wide_head r (size e) (size (ren_expression (lifted (length ms) r) e)) (length ms) ms x (size_ren (lifted (length ms) r) e))
    (wide_ren (lifted (length ms) r) e ∙ ap (λ f. map (ren_wide_step f) (wide_steps e)) (lift_lift (size e) (length ms) r))
wide_ren r (done t) = refl

pub result_ren : (r : Renumbering) (e : PlainExpression) → result_of (ren_expression r e) ≡ ren_tuple (lifted (size e) r) (result_of e)
result_ren r (step ms x e) = result_ren (lifted (length ms) r) e ∙ ap (λ f. ren_tuple f (result_of e)) (lift_lift (size e) (length ms) r)
result_ren r (done t) = ap (λ f. ren_tuple f t) (sym (lift_zero r))

-- the place of a pulled step, and how the variables move when it goes back there
abbrev pub place : {q : List Mode} {v : PlainNeutral} {e f : PlainExpression} → Pulled q v e f → ℕ
place pulled_here = 0
place (pulled_later h k l u) = suc (place u)

abbrev pub there : {q : List Mode} {v : PlainNeutral} {e f : PlainExpression} → Pulled q v e f → Renumbering
there pulled_here = λ i. i
there (pulled_later {p = p} {q = q} {e = e} h k l u) = λ i. there u (lifted (size e) (crossed (length q) (length p)) i)

abbrev pub back : {q : List Mode} {v : PlainNeutral} {e f : PlainExpression} → Pulled q v e f → Renumbering
back pulled_here = λ i. i
back (pulled_later {p = p} {q = q} {e = e} h k l u) = λ i. lifted (size e) (crossed (length p) (length q)) (back u i)

uncross : (a p q i : ℕ) → lifted a (crossed q p) (lifted a (crossed p q) i) ≡ i
uncross a p q i = ap (λ f. f i) (lift_comp a (crossed q p) (crossed p q) ∙ ap (lifted a) (ext (cross_cross p q)) ∙ lift_id a)

pub back_there : {q : List Mode} {v : PlainNeutral} {e f : PlainExpression} (u : Pulled q v e f) (i : ℕ) → back u (there u i) ≡ i
back_there pulled_here i = refl
back_there (pulled_later {p = p} {q = q} {e = e} h k l u) i = ap (lifted (size e) (crossed (length p) (length q))) (back_there u (lifted (size e) (crossed (length q) (length p)) i)) ∙ uncross (size e) (length q) (length p) i

rest_size : (r : Renumbering) (e f : PlainExpression) → f ≡ ren_expression r e → size f ≡ size e
rest_size r e f h = ap size h ∙ size_ren r e

-- the variables outside
pub outer : {q : List Mode} {v : PlainNeutral} {e f : PlainExpression} (u : Pulled q v e f) (i : ℕ) → there u (i + (size e + length q)) ≡ i + size f
outer pulled_here i = refl
outer (pulled_later {p = p} {q = q} {e = e} {f = f} {g = g} h k l u) i =
    ap (λ j. there u (lifted (size e) (crossed (length q) (length p)) j)) (first (rest_size (crossed (length p) (length q)) e f l))
    ∙ ap (there u) (lift_up (size e) (crossed (length q) (length p)) (i + length p + length q) ∙ ap (up (size e)) (cross_out (length q) (length p) (i + length p + length q) (omega arith)) ∙ second)
    ∙ outer u (i + length p) ∙ third
  where
    first : size f ≡ size e → i + (size f + length p + length q) ≡ i + length p + length q + size e
    first a = omega arith

    second : i + length p + length q + size e ≡ i + length p + (size e + length q)
    second = omega arith

    third : i + length p + size g ≡ i + (size g + length p)
    third = omega arith

pub wide_pull : {q : List Mode} {v : PlainNeutral} {e f : PlainExpression} (u : Pulled q v e f) → wide_steps f ≡ insert_at (place u) (wide_step (map (there u) (map (up (size e)) (below (length q)))) q (ren_neutral (up (size f)) v)) (map (ren_wide_step (there u)) (wide_steps e))
wide_pull (pulled_here {q = q} {v = v} {e = e}) = conses (lines q (sym (map_idle (λ i. i) (map (up (size e)) (below (length q))) (λ i. refl))) refl) (sym (map_idle (ren_wide_step (λ i. i)) (wide_steps e) line_idle))
wide_pull (pulled_later {p = p} {q = q} {r = r} {s = s} {v = v} {w = w} {e = e} {f = f} {g = g} h k l u) = conses (sym (lines p front right)) (wide_pull u ∙ ap2 (lines q mine over) (sym tail))
  where
    n : size f ≡ size e
    n = rest_size (crossed (length p) (length q)) e f l

    moves : Renumbering
    moves = there (pulled_later {p = p} {q = q} {r = r} {s = s} {v = v} {w = w} {e = e} {f = f} {g = g} h k l u)

    ap2 : {a b : WideStep} {cs bs : List WideStep} → a ≡ b → cs ≡ bs → insert_at (place u) a cs ≡ insert_at (place u) b bs
    ap2 x y = cc

    front : map moves (map (up (size f)) (below (length p))) ≡ map (up (size g)) (below (length p))
    front = own_to moves (size f) (size g) (length p) (λ c b. ap (λ a. there u (lifted (size e) (crossed (length q) (length p)) (c + a))) n
        ∙ ap (there u) (lift_up (size e) (crossed (length q) (length p)) c ∙ ap (up (size e)) (cross_new (length q) (length p) c b) ∙ moved c) ∙ outer u c)
      where
        moved : (c : ℕ) → c + length q + size e ≡ c + (size e + length q)
        moved c = omega arith

    right : ren_neutral moves (ren_neutral (up (size f + length p)) s) ≡ ren_neutral (up (size g + length p)) r
    right = ap (λ o. ren_neutral moves (ren_neutral (up (size f + length p)) o)) k ∙ ap (ren_neutral moves) (composed_neutral (up (size f + length p)) (up (length q)) r) ∙ composed_neutral moves (λ i. up (size f + length p) (up (length q) i)) r
        ∙ ap (λ m. ren_neutral m r) (ext (λ i. ap moves (sum i) ∙ outer (pulled_later {p = p} {q = q} {r = r} {s = s} {v = v} {w = w} {e = e} {f = f} {g = g} h k l u) i))
      where
        sum : (i : ℕ) → i + length q + (size f + length p) ≡ i + (size f + length p + length q)
        sum i = omega arith

    mine : map (there u) (map (up (size e)) (below (length q))) ≡ map moves (map (up (size f + length p)) (below (length q)))
    mine = map_comp (there u) (up (size e)) (below (length q)) ∙ sym (chosen (length q) (λ c b. b)) ∙ sym (map_comp moves (up (size f + length p)) (below (length q)))
      where
        step : (c : ℕ) → c < length q → moves (c + (size f + length p)) ≡ there u (c + size e)
        step c b = ap moves (sum n) ∙ ap (there u) (lift_up (size e) (crossed (length q) (length p)) (c + length p) ∙ ap (up (size e)) (cross_old (length q) (length p) (c + length p) (omega arith) (omega arith) ∙ fall))
          where
            sum : size f ≡ size e → c + (size f + length p) ≡ c + length p + size e
            sum a = omega arith

            fall : c + length p - length p ≡ c
            fall = omega arith

        chosen : (m : ℕ) → ((c : ℕ) → c < m → c < length q) → map (λ c. moves (c + (size f + length p))) (below m) ≡ map (λ c. there u (c + size e)) (below m)
        chosen zero b = refl
        chosen (suc m) b = both (step m (b m (omega arith))) (chosen m (λ c a. b c (omega arith)))
          where
            both : {i j : ℕ} {is js : List ℕ} → i ≡ j → is ≡ js → (i ∷ is) ≡ (j ∷ js)
            both x y = cc

    over : ren_neutral (up (size g)) w ≡ ren_neutral (up (size g + length p)) v
    over = ap (ren_neutral (up (size g))) h ∙ composed_neutral (up (size g)) (up (length p)) v ∙ ap (λ m. ren_neutral m v) (ext (λ i. sum i))
      where
        sum : (i : ℕ) → i + length p + size g ≡ i + (size g + length p)
        sum i = omega arith

    tail : map (ren_wide_step moves) (wide_steps f) ≡ map (ren_wide_step (there u)) (wide_steps e)
    tail = ap (λ o. map (ren_wide_step moves) (wide_steps o)) l ∙ ap (map (ren_wide_step moves)) (wide_ren (crossed (length p) (length q)) e) ∙ lines_comp moves (lifted (size e) (crossed (length p) (length q))) (wide_steps e)
        ∙ ap (λ m. map (ren_wide_step m) (wide_steps e)) (ext (λ i. ap (there u) (uncross (size e) (length p) (length q) i)))

pub result_pull : {q : List Mode} {v : PlainNeutral} {e f : PlainExpression} (u : Pulled q v e f) → result_of f ≡ ren_tuple (there u) (result_of e)
result_pull (pulled_here {e = e}) = sym (identity_tuple (result_of e))
result_pull (pulled_later {p = p} {q = q} {e = e} {f = f} h k l u) = result_pull u ∙ sym (
    ap (λ o. ren_tuple moves (result_of o)) l ∙ ap (ren_tuple moves) (result_ren (crossed (length p) (length q)) e) ∙ composed_tuple moves (lifted (size e) (crossed (length p) (length q))) (result_of e)
    ∙ ap (λ m. ren_tuple m (result_of e)) (ext (λ i. ap (there u) (uncross (size e) (length p) (length q) i))))
  where
    moves : Renumbering
    moves = λ i. there u (lifted (size e) (crossed (length q) (length p)) i)
