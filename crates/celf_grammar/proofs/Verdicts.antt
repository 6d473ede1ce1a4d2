-- The verdict of the machine is true.
use Rattle.std.proofs.Common.{◌≡◌, ◌+◌, ℕ, zero, suc, List, [], ◌∷◌, ◌++◌, true, false, refl, sym, ap, ◌∙◌, subst, arith, inl, inr}
use Rattle.std.specs.Prelude.{◌⊎◌}
use Rattle.std.proofs.lemmas.Bool.{true≢false}
use Rattle.std.proofs.lemmas.List.{append_assoc, append-nil}
use Rattle.celf_lexer.specs.declared.token.TokenKind.{TokenKind}
use Rattle.celf_lexer.specs.declared.token.TokenKind.TheVariants as token
use Rattle.celf_lexer.specs.Tokens.{Lexeme}
use Rattle.celf_surface.specs.Surface.{WrittenItem}
use Rattle.celf_grammar.specs.State.{State}
use Rattle.celf_grammar.specs.Grammar.{is_let, IsItem}
use Rattle.celf_grammar.specs.Machine.{Symbol, Item, stops, deep, feed, Verdict, accepted, unexpected, too_deep, lacking, at_end, after_token, runs_on, runs}
use Rattle.celf_grammar.specs.Faults.{HasItem, BeginsItem, opens_part, StaysWithin, IsUnexpected, IsTooDeep, IsLacking, Says, VerdictIsTrue, VerdictIsOnly}
use Rattle.celf_grammar.proofs.Runs.{runs-empty}
use Rattle.celf_grammar.proofs.Accepts.{item-accepts}
use Rattle.celf_grammar.proofs.Derives.{is_accepted, item-derives}
use Rattle.celf_grammar.proofs.Lift.{lift, Lifted, feed-lifts, run-lifts, end-same}
use Rattle.celf_grammar.proofs.Passes.{Passes, passes-run, passes-lift, passes-push, passes-front, Comes, run-comes}
use Rattle.celf_grammar.proofs.Finishes.{finish, well, well_or_let, Sound, feed-sound, finished, finished-within, at}

-- Where an item stands, the machine accepts it, with what is left after it.
pub item-accepted : (s u : State) (i : WrittenItem) → IsItem s i u → runs (Item ∷ []) s ≡ accepted u
item-accepted s u i h = item-accepts h [] ∙ runs-empty u

state_accepted : (v : Verdict) → is_accepted v ≡ true → (u : State) × (v ≡ accepted u)
state_accepted (accepted u) h = (u, refl)
state_accepted _ h = absurd (true≢false (sym h))

has-from : (ts : List Lexeme) (room end : ℕ) → is_accepted (runs_on ts (Item ∷ []) room end) ≡ true → HasItem room ts
unfolding runs
has-from ts room end h =
    let a = state_accepted (runs_on ts (Item ∷ []) room end) h in let d = item-derives (at ts room end) a.0 a.1 in
    record { end = end; item = d.0; behind = a.0; is = d.1 }

has-run : (ts : List Lexeme) (room : ℕ) (h : HasItem room ts) → is_accepted (runs_on ts (Item ∷ []) room h.end) ≡ true
unfolding runs
has-run ts room h = ap is_accepted (item-accepted (at ts room h.end) h.behind h.item h.is)

has-more : (ts : List Lexeme) (room : ℕ) → HasItem room ts → HasItem (suc room) ts
has-more ts room h = has-from ts (suc room) h.end (run-lifts ts (Item ∷ []) room h.end (has-run ts room h))

has-much : (d r n : ℕ) (ts : List Lexeme) → n ≡ d + r → HasItem r ts → HasItem n ts
has-much zero r n ts e h = subst (λ m. HasItem m ts) (let f : r ≡ n = omega arith in f) h
has-much (suc d) r n ts e h = has-much d (suc r) n ts (omega arith) (has-more ts r h)

-- What was taken leads to more, in any greater room.

stops-much : (d r n : ℕ) (ts : List Lexeme) (t : Lexeme) (k : List Symbol) (m : ℕ) → n ≡ d + r → Passes ts (Item ∷ []) r k m → feed k m t ≡ stops
    → (j : List Symbol) × (l : ℕ) × Passes ts (Item ∷ []) n j l × (feed j l t ≡ stops)
stops-much zero r n ts t k m e p s = (k, m, subst (λ x. Passes ts (Item ∷ []) x k m) (let f : r ≡ n = omega arith in f) p, s)
stops-much (suc d) r n ts t k m e p s =
    stops-much d (suc r) n ts t (lift k) (suc m) (omega arith) (passes-lift ts (Item ∷ []) r k m p) (subst (λ f. Lifted f (feed (lift k) (suc m) t)) s (feed-lifts k m t))

ends-much : (d r n : ℕ) (ts : List Lexeme) (k : List Symbol) (m : ℕ) → n ≡ d + r → Passes ts (Item ∷ []) r k m → ((x y : ℕ) → is_accepted (at_end k x y) ≡ false)
    → (j : List Symbol) × (l : ℕ) × Passes ts (Item ∷ []) n j l × ((x y : ℕ) → is_accepted (at_end j x y) ≡ false)
ends-much zero r n ts k m e p s = (k, m, subst (λ x. Passes ts (Item ∷ []) x k m) (let f : r ≡ n = omega arith in f) p, s)
ends-much (suc d) r n ts k m e p s =
    ends-much d (suc r) n ts (lift k) (suc m) (omega arith) (passes-lift ts (Item ∷ []) r k m p) (λ x y. end-same k x y x y ∙ s x y)

-- No item begins with the tokens that were taken and one with which nothing goes on.
stops-none : (ts : List Lexeme) (t : Lexeme) (more : List Lexeme) (room : ℕ) (k : List Symbol) (m : ℕ) → Passes ts (Item ∷ []) room k m → feed k m t ≡ stops
    → HasItem room (ts ++ (t ∷ more)) → ⊥
stops-none ts t more room k m p s h =
    let r = passes-run ts (t ∷ more) (Item ∷ []) room k m h.end p in
    true≢false (sym (has-run (ts ++ (t ∷ more)) room h) ∙ ap is_accepted (r.1 ∙ ap (after_token t more (runs_on more) r.0) s))

deep-none : (ts : List Lexeme) (t : Lexeme) (more : List Lexeme) (room : ℕ) (k : List Symbol) (m : ℕ) → Passes ts (Item ∷ []) room k m → feed k m t ≡ deep
    → HasItem room (ts ++ (t ∷ more)) → ⊥
deep-none ts t more room k m p s h =
    let r = passes-run ts (t ∷ more) (Item ∷ []) room k m h.end p in
    true≢false (sym (has-run (ts ++ (t ∷ more)) room h) ∙ ap is_accepted (r.1 ∙ ap (after_token t more (runs_on more) r.0) s))

-- An item begins with the tokens that were taken.

begins-run : (ts : List Lexeme) (room : ℕ) (k : List Symbol) (n : ℕ) → Passes ts (Item ∷ []) room k n → ((end : ℕ) → is_accepted (runs_on (finish k) k n end) ≡ true) → BeginsItem room ts
begins-run ts room k n p h =
    let r = passes-run ts (finish k) (Item ∷ []) room k n 0 p in (finish k, has-from (ts ++ finish k) room 0 (ap is_accepted r.1 ∙ h r.0))

begins-well : (ts : List Lexeme) (room : ℕ) (k : List Symbol) (n : ℕ) → Passes ts (Item ∷ []) room k n → well k ≡ true → BeginsItem room ts
unfolding runs
begins-well ts room k n p w = begins-run ts room k n p (λ end. finished k n end w)

either-well : (ts : List Lexeme) (j : List Symbol) (m : ℕ) (k : List Symbol) (n : ℕ) → Passes ts j m k n → well_or_let j ≡ true → well_or_let k ≡ true
either-well [] j m k n p h = subst (λ x. well_or_let x ≡ true) p.0 h
either-well (t ∷ ts) j m k n p h = either-well ts p.0 p.1 k n p.3 (subst (Sound t.kind) p.2 (feed-sound j m t h)).0

last-well : (front : List Lexeme) (t : Lexeme) (j : List Symbol) (m : ℕ) (k : List Symbol) (n : ℕ) → Passes (front ++ (t ∷ [])) j m k n
    → well_or_let j ≡ true → is_let t.kind ≡ false → well k ≡ true
last-well [] t j m k n p h e = subst (λ x. well x ≡ true) p.3.0 ((subst (Sound t.kind) p.2 (feed-sound j m t h)).1 e)
last-well (s ∷ front) t j m k n p h e = last-well front t p.0 p.1 k n p.3 (subst (Sound s.kind) p.2 (feed-sound j m s h)).0 e

begins-taken : (ts : List Lexeme) (room : ℕ) (k : List Symbol) (n : ℕ) → Passes ts (Item ∷ []) room k n → BeginsItem (suc room) ts
unfolding runs
begins-taken ts room k n p =
    let q = passes-lift ts (Item ∷ []) room k n p in let w = either-well ts (Item ∷ []) (suc room) (lift k) (suc n) q refl in
    begins-run ts (suc room) (lift k) (suc n) q (λ end. finished-within (lift k) n end w)

no-let : (c : TokenKind) → opens_part c ≡ true → is_let c ≡ false
no-let token.KwLet h = sym h
no-let _ h = refl

stays-within : (ts : List Lexeme) (room : ℕ) (k : List Symbol) (n : ℕ) → Passes ts (Item ∷ []) room k n → StaysWithin room ts
stays-within ts room k n p front back t e o =
    let q = passes-front front t back (Item ∷ []) room k n (subst (λ x. Passes x (Item ∷ []) room k n) e p) in
    begins-well (front ++ (t ∷ [])) room q.0 q.1 q.2 (last-well front t (Item ∷ []) room q.0 q.1 q.2 refl (no-let t.kind o))

unexpected-true : (ts : List Lexeme) (t : Lexeme) (room : ℕ) (k : List Symbol) (n : ℕ) → Passes ts (Item ∷ []) room k n → feed k n t ≡ stops → IsUnexpected room ts t
unexpected-true ts t room k n p s = record { within = stays-within ts room k n p; begins = (suc room, begins-taken ts room k n p); ends = none }
  where
    none : (r : ℕ) → BeginsItem r (ts ++ (t ∷ [])) → ⊥
    none r b =
        let q = stops-much r room (r + room) ts t k n refl p s in
        stops-none ts t b.0 (r + room) q.0 q.1 q.2 q.3
        (subst (HasItem (r + room)) (append_assoc ts (t ∷ []) b.0) (has-much room r (r + room) ((ts ++ (t ∷ [])) ++ b.0) (omega arith) b.1))

deep-opens : (ts : List Lexeme) (t : Lexeme) (room : ℕ) (k : List Symbol) (n : ℕ) → Passes ts (Item ∷ []) room k n → feed k n t ≡ deep → opens_part t.kind ≡ true
deep-opens ts t room k n p s = subst (Sound t.kind) s (feed-sound k n t (either-well ts (Item ∷ []) room k n p refl))

too_deep-true : (ts : List Lexeme) (t : Lexeme) (room : ℕ) (k : List Symbol) (n : ℕ) → Passes ts (Item ∷ []) room k n → feed k n t ≡ deep → IsTooDeep room ts t
too_deep-true ts t room k n p s = record { within = stays-within ts room k n p; opening = opening; ends = none; goes_on = more }
  where
    opening : opens_part t.kind ≡ true
    opening = deep-opens ts t room k n p s

    none : BeginsItem room (ts ++ (t ∷ [])) → ⊥
    none b = deep-none ts t b.0 room k n p s (subst (HasItem room) (append_assoc ts (t ∷ []) b.0) b.1)

    more : BeginsItem (suc room) (ts ++ (t ∷ []))
    more =
        let l = subst (λ f. Lifted f (feed (lift k) (suc n) t)) s (feed-lifts k n t) in
        let q = passes-push ts t (Item ∷ []) (suc room) (lift k) (suc n) l.0 l.1 (passes-lift ts (Item ∷ []) room k n p) l.2 in
        begins-well (ts ++ (t ∷ [])) (suc room) l.0 l.1 q (last-well ts t (Item ∷ []) (suc room) l.0 l.1 q refl (no-let t.kind opening))

-- where the tokens end before the item does
end-lacking : (ts : List Lexeme) (room end : ℕ) (k : List Symbol) (n : ℕ) → runs_on ts (Item ∷ []) room end ≡ lacking → Passes ts (Item ∷ []) room k n
    → (x y : ℕ) → is_accepted (at_end k x y) ≡ false
end-lacking ts room end k n e p x y =
    let r = passes-run ts [] (Item ∷ []) room k n end p in
    let a : at_end k n r.0 ≡ lacking = sym r.1 ∙ ap (λ us. runs_on us (Item ∷ []) room end) (append-nil ts) ∙ e in
    sym (end-same k x y x y) ∙ end-same k n r.0 x y ∙ ap is_accepted a

lacking-true : (ts : List Lexeme) (room end : ℕ) (k : List Symbol) (n : ℕ) → runs_on ts (Item ∷ []) room end ≡ lacking → Passes ts (Item ∷ []) room k n → IsLacking room ts
lacking-true ts room end k n e p = record { within = stays-within ts room k n p; begins = (suc room, begins-taken ts room k n p); ends = none }
  where
    none : (r : ℕ) → HasItem r ts → ⊥
    none r h =
        let q = ends-much r room (r + room) ts k n refl p (end-lacking ts room end k n e p) in
        let g = has-much room r (r + room) ts (omega arith) h in
        let l = passes-run ts [] (Item ∷ []) (r + room) q.0 q.1 g.end q.2 in
        let a : runs_on ts (Item ∷ []) (r + room) g.end ≡ at_end q.0 q.1 l.0 = sym (ap (λ us. runs_on us (Item ∷ []) (r + room) g.end) (append-nil ts)) ∙ l.1 in
        true≢false (sym (has-run ts (r + room) g) ∙ ap is_accepted a ∙ q.3 q.1 l.0)

verdict-says : (s : State) (v : Verdict) → runs (Item ∷ []) s ≡ v → Comes s.rest (Item ∷ []) s.room v → Says s v
unfolding runs
verdict-says s (accepted u) e c = item-derives s u e
verdict-says s (unexpected t) e c = (c.0, c.1, c.2, unexpected-true c.0 t s.room c.3 c.4 c.5 c.6)
verdict-says s (too_deep t) e c = (c.0, c.1, c.2, too_deep-true c.0 t s.room c.3 c.4 c.5 c.6)
verdict-says s lacking e c = lacking-true s.rest s.room s.end c.0 c.1 e c.2

pub verdict-true : VerdictIsTrue
unfolding runs
verdict-true s = verdict-says s (runs (Item ∷ []) s) refl (run-comes s.rest (Item ∷ []) s.room s.end)

-- Two places in one list: they are the same, or one stands before the other.

abbrev Places : List Lexeme → Lexeme → List Lexeme → Lexeme → Type 0
Places a x c y = ((a ≡ c) × (x ≡ y)) ⊎ ((mid : List Lexeme) × (c ≡ a ++ (x ∷ mid))) ⊎ ((mid : List Lexeme) × (a ≡ c ++ (y ∷ mid)))

first_or : Lexeme → List Lexeme → Lexeme
first_or d [] = d
first_or d (x ∷ xs) = x

rest_of : List Lexeme → List Lexeme
rest_of [] = []
rest_of (x ∷ xs) = xs

same-first : (x y : Lexeme) (xs ys : List Lexeme) → x ∷ xs ≡ y ∷ ys → x ≡ y
unfolding first_or
same-first x y xs ys e = ap (first_or x) e

same-rest : (x y : Lexeme) (xs ys : List Lexeme) → x ∷ xs ≡ y ∷ ys → xs ≡ ys
unfolding rest_of
same-rest x y xs ys e = ap rest_of e

push-places : (z w : Lexeme) (a : List Lexeme) (x : Lexeme) (c : List Lexeme) (y : Lexeme) → z ≡ w → Places a x c y → Places (z ∷ a) x (w ∷ c) y
push-places z w a x c y e (inl p) = inl (ap (λ l. z ∷ l) p.0 ∙ ap (λ v. v ∷ c) e, p.1)
push-places z w a x c y e (inr (inl p)) = inr (inl (p.0, sym (ap (λ v. v ∷ c) e) ∙ ap (λ l. z ∷ l) p.1))
push-places z w a x c y e (inr (inr p)) = inr (inr (p.0, ap (λ v. v ∷ a) e ∙ ap (λ l. w ∷ l) p.1))

places : (a : List Lexeme) (x : Lexeme) (b c : List Lexeme) (y : Lexeme) (d : List Lexeme) → a ++ (x ∷ b) ≡ c ++ (y ∷ d) → Places a x c y
places [] x b [] y d e = inl (refl, same-first x y b d e)
places [] x b (w ∷ c) y d e = inr (inl (c, ap (λ v. v ∷ c) (sym (same-first x w b (c ++ (y ∷ d)) e))))
places (z ∷ a) x b [] y d e = inr (inr (a, ap (λ v. v ∷ a) (same-first z y (a ++ (x ∷ b)) d e)))
places (z ∷ a) x b (w ∷ c) y d e =
    push-places z w a x c y (same-first z w (a ++ (x ∷ b)) (c ++ (y ∷ d)) e) (places a x b c y d (same-rest z w (a ++ (x ∷ b)) (c ++ (y ∷ d)) e))

-- What begins with tokens begins with the first of them.

cut : (front : List Lexeme) (t : Lexeme) (back more : List Lexeme) → (front ++ (t ∷ back)) ++ more ≡ (front ++ (t ∷ [])) ++ (back ++ more)
cut front t back more = append_assoc front (t ∷ back) more ∙ sym (append_assoc front (t ∷ []) (back ++ more))

begins-front : (r : ℕ) (front : List Lexeme) (t : Lexeme) (back : List Lexeme) → BeginsItem r (front ++ (t ∷ back)) → BeginsItem r (front ++ (t ∷ []))
begins-front r front t back b = (back ++ b.0, subst (HasItem r) (cut front t back b.0) b.1)

begins-part : (r : ℕ) (ts front : List Lexeme) (t : Lexeme) (back : List Lexeme) → ts ≡ front ++ (t ∷ back) → BeginsItem r ts → BeginsItem r (front ++ (t ∷ []))
begins-part r ts front t back e b = begins-front r front t back (subst (BeginsItem r) e b)

has-part : (r : ℕ) (ts front : List Lexeme) (t : Lexeme) (back : List Lexeme) → ts ≡ front ++ (t ∷ back) → HasItem r ts → BeginsItem r (front ++ (t ∷ []))
has-part r ts front t back e h = begins-part r ts front t back e ([], subst (HasItem r) (sym (append-nil ts)) h)

-- the tokens before a later one begin what those with it begin
begins-before : (r : ℕ) (ts : List Lexeme) (t : Lexeme) → BeginsItem r (ts ++ (t ∷ [])) → BeginsItem r ts
begins-before r ts t b = ((t ∷ []) ++ b.0, subst (HasItem r) (append_assoc ts (t ∷ []) b.0) b.1)

-- Two faults of the same tokens are one.

two-unexpected : (room : ℕ) (a : List Lexeme) (x : Lexeme) (c : List Lexeme) (y : Lexeme) → IsUnexpected room a x → IsUnexpected room c y → Places a x c y → x ≡ y
two-unexpected room a x c y h g (inl p) = p.1
two-unexpected room a x c y h g (inr (inl p)) = absurd (h.ends g.begins.0 (begins-part g.begins.0 c a x p.0 p.1 g.begins.1))
two-unexpected room a x c y h g (inr (inr p)) = absurd (g.ends h.begins.0 (begins-part h.begins.0 a c y p.0 p.1 h.begins.1))

two-too_deep : (room : ℕ) (a : List Lexeme) (x : Lexeme) (c : List Lexeme) (y : Lexeme) → IsTooDeep room a x → IsTooDeep room c y → Places a x c y → x ≡ y
two-too_deep room a x c y h g (inl p) = p.1
two-too_deep room a x c y h g (inr (inl p)) = absurd (h.ends (g.within a p.0 x p.1 h.opening))
two-too_deep room a x c y h g (inr (inr p)) = absurd (g.ends (h.within c p.0 y p.1 g.opening))

not-both : (room : ℕ) (a : List Lexeme) (x : Lexeme) (c : List Lexeme) (y : Lexeme) → IsUnexpected room a x → IsTooDeep room c y → Places a x c y → ⊥
not-both room a x c y h g (inl p) = h.ends (suc room) (subst (λ t. BeginsItem (suc room) (a ++ (t ∷ []))) (sym p.1) (subst (λ l. BeginsItem (suc room) (l ++ (y ∷ []))) (sym p.0) g.goes_on))
not-both room a x c y h g (inr (inl p)) = h.ends (suc room) (begins-part (suc room) c a x p.0 p.1 (begins-before (suc room) c y g.goes_on))
not-both room a x c y h g (inr (inr p)) = g.ends (h.within c p.0 y p.1 g.opening)

item-there : (s u : State) (i : WrittenItem) → IsItem s i u → HasItem s.room s.rest
item-there s u i h = record { end = s.end; item = i; behind = u; is = h }

one-verdict : (s : State) (v w : Verdict) → runs (Item ∷ []) s ≡ v → Says s v → Says s w → v ≡ w
one-verdict s v (accepted u) e h g = sym e ∙ item-accepted s u g.0 g.1
one-verdict s (accepted u) (unexpected y) e h g = absurd (g.3.ends s.room (has-part s.room s.rest g.0 y g.1 g.2 (item-there s u h.0 h.1)))
one-verdict s (accepted u) (too_deep y) e h g = absurd (g.3.ends (has-part s.room s.rest g.0 y g.1 g.2 (item-there s u h.0 h.1)))
one-verdict s (accepted u) lacking e h g = absurd (g.ends s.room (item-there s u h.0 h.1))
one-verdict s (unexpected x) (unexpected y) e h g =
    ap unexpected (two-unexpected s.room h.0 x g.0 y h.3 g.3 (places h.0 x h.1 g.0 y g.1 (sym h.2 ∙ g.2)))
one-verdict s (unexpected x) (too_deep y) e h g = absurd (not-both s.room h.0 x g.0 y h.3 g.3 (places h.0 x h.1 g.0 y g.1 (sym h.2 ∙ g.2)))
one-verdict s (unexpected x) lacking e h g = absurd (h.3.ends g.begins.0 (begins-part g.begins.0 s.rest h.0 x h.1 h.2 g.begins.1))
one-verdict s (too_deep x) (unexpected y) e h g = absurd (not-both s.room g.0 y h.0 x g.3 h.3 (places g.0 y g.1 h.0 x h.1 (sym g.2 ∙ h.2)))
one-verdict s (too_deep x) (too_deep y) e h g =
    ap too_deep (two-too_deep s.room h.0 x g.0 y h.3 g.3 (places h.0 x h.1 g.0 y g.1 (sym h.2 ∙ g.2)))
one-verdict s (too_deep x) lacking e h g = absurd (h.3.ends (g.within h.0 h.1 x h.2 h.3.opening))
one-verdict s lacking (unexpected y) e h g = absurd (g.3.ends h.begins.0 (begins-part h.begins.0 s.rest g.0 y g.1 g.2 h.begins.1))
one-verdict s lacking (too_deep y) e h g = absurd (g.3.ends (h.within g.0 g.1 y g.2 g.3.opening))
one-verdict s lacking lacking e h g = refl

pub verdict-only : VerdictIsOnly
verdict-only s v g = one-verdict s (runs (Item ∷ []) s) v refl (verdict-true s) g

pub ruleset verdict_laws = (verdict-true, verdict-only)
