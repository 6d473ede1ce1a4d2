-- What the code of the search does at each step.
use Rattle.std.specs.Prelude.{ℕ, zero, suc, ◌+◌, ◌≡◌, ◌<◌, ◌≤◌, ◌&&◌, Bool, true, false, if◌then◌else◌, List, [], ◌∷◌, length, map, replicate, refl, Option, Some, None, Result, Ok, Err, IfOk, slice_get}
use Rattle.std.proofs.Common.{add-one, ap, sym, ◌∙◌, arith, drop, drop-cons, get_or}
use Rattle.std.proofs.lemmas.Option.{slice_get_within}
use Rattle.clf_syntax.specs.Tree.{PlainNeutral, PlainTuple, done, head_alone, spine_on, steps_on, tuple_of}
use Rattle.clf_syntax.specs.Plain.{plain_elim, plain_entry, plain_expr, plain_neutral, plain_step, plain-expr, plain-neutral}
use Rattle.clf_syntax.specs.declared.tree.Elim.{Elim}
use Rattle.clf_syntax.specs.declared.tree.Expr.{Expr, out-Expr}
use Rattle.clf_syntax.specs.declared.tree.Mode.{Mode}
use Rattle.clf_syntax.specs.declared.tree.Neutral.{Neutral}
use Rattle.clf_syntax.specs.declared.tree.Step.{Step}
use Rattle.trace_equal.specs.declared.tables.Run.{Run}
use Rattle.trace_equal.specs.declared.tables.Tables.{Tables}
use Rattle.trace_equal.proofs.Bijections.{map_length}
use Rattle.trace_equal.proofs.ComparingLaws.{compared-spine, spines_of_two_lengths}
use Rattle.trace_equal.specs.Choosing.{is_free}
use Rattle.trace_equal.specs.Comparing.{Right, compared_head, compared_neutral, compared_spine, count_from, first_under, onward, rights_from, run_of, runs_from, same_count, sought, step_served, steps_of, with_fresh, zipped}
use Rattle.trace_equal.specs.Places.{all_places, from_on, or_else}
use Rattle.trace_equal.specs.Seeking.{Marks, Serves, problem, served_at, sought_at, tries}
use Rattle.trace_equal.specs.Steps.{result_of}

-- ---- lists
map_get : {X Y : Type 0} (f : X → Y) (xs : List X) (j : ℕ) (x : X) → slice_get xs j ≡ Some x → slice_get (map f xs) j ≡ Some (f x)
map_get f [] j x e = absurd (cc)
map_get f (y ∷ xs) zero x e = ap (λ z. Some (f z)) (same e)
  where
    same : Some y ≡ Some x → y ≡ x
    same e = cc
map_get f (y ∷ xs) (suc j) x e = map_get f xs j x e

map_get_none : {X Y : Type 0} (f : X → Y) (xs : List X) (j : ℕ) → slice_get xs j ≡ None → slice_get (map f xs) j ≡ None
map_get_none f [] j e = refl
map_get_none f (y ∷ xs) zero e = absurd (cc)
map_get_none f (y ∷ xs) (suc j) e = map_get_none f xs j e

pub at_map : {X Y : Type 0} (f : X → Y) (xs : List X) (j k : ℕ) (x : X) → Some x ≡ slice_get xs j → j ≡ k → slice_get (map f xs) k ≡ Some (f x)
at_map f xs j k x e h = ap (slice_get (map f xs)) (sym h) ∙ map_get f xs j x (sym e)

pub past_map : {X Y : Type 0} (f : X → Y) (xs : List X) (j k : ℕ) → None ≡ slice_get xs j → j ≡ k → slice_get (map f xs) k ≡ None
past_map f xs j k e h = ap (slice_get (map f xs)) (sym h) ∙ map_get_none f xs j (sym e)

zipped_no_run : (rs : List Run) (ss : List (List Mode × PlainNeutral)) (j : ℕ) → slice_get rs j ≡ None → slice_get (zipped rs ss) j ≡ None
zipped_no_run [] ss j e = refl
zipped_no_run (r ∷ rs) [] j e = refl
zipped_no_run (r ∷ rs) (s ∷ ss) zero e = absurd (cc)
zipped_no_run (r ∷ rs) (s ∷ ss) (suc j) e = zipped_no_run rs ss j e

zipped_no_step : (rs : List Run) (ss : List (List Mode × PlainNeutral)) (j : ℕ) → slice_get ss j ≡ None → slice_get (zipped rs ss) j ≡ None
zipped_no_step [] ss j e = refl
zipped_no_step (r ∷ rs) [] j e = refl
zipped_no_step (r ∷ rs) (s ∷ ss) zero e = absurd (cc)
zipped_no_step (r ∷ rs) (s ∷ ss) (suc j) e = zipped_no_step rs ss j e

zipped_get : (rs : List Run) (ss : List (List Mode × PlainNeutral)) (j : ℕ) (r : Run) (s : List Mode × PlainNeutral) → slice_get rs j ≡ Some r → slice_get ss j ≡ Some s → slice_get (zipped rs ss) j ≡ Some (r, (s.0, s.1))
zipped_get [] ss j r s e f = absurd (cc)
zipped_get (q ∷ rs) [] j r s e f = absurd (cc)
zipped_get (q ∷ rs) (x ∷ ss) zero r s e f = ap (λ y. Some (y, (x.0, x.1))) (first e) ∙ ap (λ (y : List Mode × PlainNeutral). Some (r, (y.0, y.1))) (next f)
  where
    first : Some q ≡ Some r → q ≡ r
    first e = cc

    next : Some x ≡ Some s → x ≡ s
    next f = cc
zipped_get (q ∷ rs) (x ∷ ss) (suc j) r s e f = zipped_get rs ss j r s e f

pub zipped_length : (rs : List Run) (ss : List (List Mode × PlainNeutral)) → length (zipped rs ss) ≤ length ss
zipped_length [] ss = omega arith
zipped_length (r ∷ rs) [] = omega arith
zipped_length (r ∷ rs) (s ∷ ss) = more (zipped_length rs ss)
  where
    more : {x y : ℕ} → x ≤ y → suc x ≤ suc y
    more h = omega arith

-- ---- answers
pub ok_by : {E : Type 0} (r : Result Bool E) (a b : Bool) → a ≡ b → IfOk r (λ x. x ≡ a) → IfOk r (λ x. x ≡ b)
ok_by (Ok x) a b e h = h ∙ e
ok_by (Err x) a b e h = h

pub neutral-answer : (s : Tables) (l r : Neutral) (es fs : List Elim) → es ≡ l.spine → fs ≡ r.spine → compared_head s l.head r.head ≡ true
    → compared_spine s (map plain_elim es) (map plain_elim fs) ≡ compared_neutral s (plain_neutral l) (plain_neutral r)
neutral-answer s l r es fs e f h = ap (λ xs. compared_spine s (map plain_elim xs) (map plain_elim fs)) e ∙ ap (λ xs. compared_spine s (map plain_elim l.spine) (map plain_elim xs)) f
    ∙ sym (ap (λ n. compared_neutral s n (plain_neutral r)) (plain-neutral l) ∙ ap (compared_neutral s (spine_on (map plain_elim l.spine) (head_alone l.head))) (plain-neutral r)
    ∙ compared-spine s l.head r.head (map plain_elim l.spine) (map plain_elim r.spine) ∙ ap (λ b. b && compared_spine s (map plain_elim l.spine) (map plain_elim r.spine)) h)

pub spines_differ : (s : Tables) (es fs : List Elim) → (length es ≡ length fs → ⊥) → false ≡ compared_spine s (map plain_elim es) (map plain_elim fs)
spines_differ s es fs h = sym (spines_of_two_lengths s (map plain_elim es) (map plain_elim fs) (λ e. h (sym (map_length plain_elim es) ∙ e ∙ map_length plain_elim fs)))

-- ---- a place that is tried

served-free : (s : Tables) (marks : List Bool) (l : List Mode × PlainNeutral) (ys : List Right) (j : ℕ) → is_free marks j ≡ true → served_at s marks l ys j ≡ step_served s l (slice_get ys j)
served-free s marks l ys j e = ap (λ b. if b then step_served s l (slice_get ys j) else None) e

pub served-no_run : (s : Tables) (marks : List Bool) (l : List Mode × PlainNeutral) (rs : List Run) (ss : List (List Mode × PlainNeutral)) (j : ℕ) → is_free marks j ≡ true → None ≡ slice_get rs j → None ≡ served_at s marks l (zipped rs ss) j
served-no_run s marks l rs ss j e f = sym (served-free s marks l (zipped rs ss) j e ∙ ap (step_served s l) (zipped_no_run rs ss j (sym f)))

pub served-no_step : (s : Tables) (marks : List Bool) (l : List Mode × PlainNeutral) (rs : List Run) (xs : List Step) (j : ℕ) → is_free marks j ≡ true → None ≡ slice_get xs j → None ≡ served_at s marks l (zipped rs (map plain_step xs)) j
served-no_step s marks l rs xs j e f = sym (served-free s marks l (zipped rs (map plain_step xs)) j e ∙ ap (step_served s l) (zipped_no_step rs (map plain_step xs) j (map_get_none plain_step xs j (sym f))))

pub served-step : (s : Tables) (marks : List Bool) (l : List Mode × PlainNeutral) (rs : List Run) (xs : List Step) (j : ℕ) (r : Run) (x : Step) → is_free marks j ≡ true → Some r ≡ slice_get rs j → Some x ≡ slice_get xs j
    → step_served s l (Some (r, plain_step x)) ≡ served_at s marks l (zipped rs (map plain_step xs)) j
served-step s marks l rs xs j r x e f g = sym (served-free s marks l (zipped rs (map plain_step xs)) j e ∙ ap (step_served s l) (zipped_get rs (map plain_step xs) j r (plain_step x) (sym f) (map_get plain_step xs j x (sym g))))

pub served_ok_by : {E : Type 0} (r : Result (Option Run) E) (a b : Option Run) → a ≡ b → IfOk r (λ x. x ≡ a) → IfOk r (λ x. x ≡ b)
served_ok_by (Ok x) a b e h = h ∙ e
served_ok_by (Err x) a b e h = h

-- ---- the candidates in turn
tries-next : (rest : ℕ → Tables → Option (List ℕ)) (ys : List Right) (s : Tables) (used : List ℕ) (l : List Mode × PlainNeutral) (c : List ℕ) (n : ℕ) → n < length c → (marks : List Bool) → Marks used marks
    → tries rest ys s used l (drop n c) ≡ or_else (onward (rest (get_or c n 0)) s (get_or c n 0) (served_at s marks l ys (get_or c n 0))) (tries rest ys s used l (drop (n + 1) c))
tries-next rest ys s used l c n h marks m = ap (tries rest ys s used l) parted ∙ ap (λ o. or_else o (tries rest ys s used l (drop (n + 1) c))) (ap (λ b. if b then onward (rest j) s j (step_served s l (slice_get ys j)) else None) (sym (m j)) ∙ inside (is_free marks j))
  where
    j : ℕ
    j = get_or c n 0

    parted : drop n c ≡ get_or c n 0 ∷ drop (n + 1) c
    parted = rw (add-one, drop-cons c n 0) refl

    inside : (b : Bool) → (if b then onward (rest j) s j (step_served s l (slice_get ys j)) else None) ≡ onward (rest j) s j (if b then step_served s l (slice_get ys j) else None)
    inside true = refl
    inside false = refl

pub tries-skip : (rest : ℕ → Tables → Option (List ℕ)) (ys : List Right) (s : Tables) (used : List ℕ) (l : List Mode × PlainNeutral) (c : List ℕ) (n : ℕ) → n < length c → (marks : List Bool) → Marks used marks
    → None ≡ served_at s marks l ys (get_or c n 0) → tries rest ys s used l (drop n c) ≡ tries rest ys s used l (drop (n + 1) c)
tries-skip rest ys s used l c n h marks m e = tries-next rest ys s used l c n h marks m ∙ ap (λ o. or_else (onward (rest (get_or c n 0)) s (get_or c n 0) o) (tries rest ys s used l (drop (n + 1) c))) (sym e)

served-place : (s : Tables) (marks : List Bool) (l : List Mode × PlainNeutral) (ys : List Right) (j : ℕ) (r : Run) → Some r ≡ served_at s marks l ys j → (is_free marks j ≡ true) × (j < length ys)
served-place s marks l ys j r e = free (is_free marks j) refl e
  where
    found : (o : Option Right) → slice_get ys j ≡ o → Some r ≡ step_served s l o → j < length ys
    found None f g = absurd (cc)
    found (Some y) f g = slice_get_within ys j y f

    free : (b : Bool) → is_free marks j ≡ b → Some r ≡ (if b then step_served s l (slice_get ys j) else None) → (is_free marks j ≡ true) × (j < length ys)
    free true f g = (f, found (slice_get ys j) refl g)
    free false f g = absurd (cc)

pub candidate-serves : (ys : List Right) (s : Tables) (used : List ℕ) (l : List Mode × PlainNeutral) (c : List ℕ) (a n : ℕ) (r : Run) (marks : List Bool) → a ≤ n → n < length c → Marks used marks
    → Some r ≡ served_at s marks l ys (get_or c n 0)
    → ((rest : ℕ → Tables → Option (List ℕ)) → tries rest ys s used l (drop a c) ≡ tries rest ys s used l (drop n c))
    → Serves ys s used l c a (record { next = n + 1; place = get_or c n 0; run = r })
candidate-serves ys s used l c a n r marks h k m e f = let (free, placed) = served-place s marks l ys (get_or c n 0) r e in record {
  later = omega arith;
  within = omega arith;
  free = sym (m (get_or c n 0)) ∙ free;
  placed = placed;
  answer = λ rest. f rest ∙ tries-next rest ys s used l c n k marks m ∙ ap (λ o. or_else (onward (rest (get_or c n 0)) s (get_or c n 0) o) (tries rest ys s used l (drop (n + 1) c))) (sym e);
}

pub past_all : (rest : ℕ → Tables → Option (List ℕ)) (ys : List Right) (s : Tables) (used : List ℕ) (l : List Mode × PlainNeutral) (c : List ℕ) (n : ℕ) → length c ≤ n → tries rest ys s used l (drop n c) ≡ None
past_all rest ys s used l c n h = ap (tries rest ys s used l) (nothing c n h)
  where
    nothing : (c : List ℕ) (n : ℕ) → length c ≤ n → drop n c ≡ []
    nothing [] zero h = refl
    nothing [] (suc n) h = refl
    nothing (i ∷ c) zero h = absurd (omega arith)
    nothing (i ∷ c) (suc n) h = nothing c n (less h)
      where
        less : suc (length c) ≤ suc n → length c ≤ n
        less h = omega arith

-- ---- the search as a whole
pub unmarked : (n j : ℕ) → is_free (replicate n false) j ≡ true
unmarked zero j = refl
unmarked (suc n) zero = refl
unmarked (suc n) (suc j) = unmarked n j

replicate_length : (n : ℕ) → length (replicate n false) ≡ n
replicate_length zero = refl
replicate_length (suc n) = ap suc (replicate_length n)

pub room : (rs : List Run) (xs : List Step) (n : ℕ) → n ≡ length xs → length (zipped rs (map plain_step xs)) ≤ length (replicate n false)
room rs xs n e = fits (zipped_length rs (map plain_step xs)) (map_length plain_step xs) (replicate_length n)
  where
    fits : length (zipped rs (map plain_step xs)) ≤ length (map plain_step xs) → length (map plain_step xs) ≡ length xs → length (replicate n false) ≡ n → length (zipped rs (map plain_step xs)) ≤ length (replicate n false)
    fits h f g = omega arith

-- ---- expressions
counts : (ss us : List (List Mode × PlainNeutral)) (t u : PlainTuple) → length ss ≡ length us → same_count (steps_on ss (done t)) (steps_on us (done u)) ≡ true
counts [] [] t u e = refl
counts [] (x ∷ us) t u e = absurd (omega arith)
counts (s ∷ ss) [] t u e = absurd (omega arith)
counts (s ∷ ss) (x ∷ us) t u e = counts ss us t u (less e)
  where
    less : suc (length ss) ≡ suc (length us) → length ss ≡ length us
    less e = omega arith

counts_differ : (ss us : List (List Mode × PlainNeutral)) (t u : PlainTuple) → (length ss ≡ length us → ⊥) → same_count (steps_on ss (done t)) (steps_on us (done u)) ≡ false
counts_differ [] [] t u h = absurd (h refl)
counts_differ [] (x ∷ us) t u h = refl
counts_differ (s ∷ ss) [] t u h = refl
counts_differ (s ∷ ss) (x ∷ us) t u h = counts_differ ss us t u (λ e. h (ap suc e))

steps-back : (ss : List (List Mode × PlainNeutral)) (t : PlainTuple) → steps_of (steps_on ss (done t)) ≡ ss
steps-back [] t = refl
steps-back (s ∷ ss) t = ap (λ us. s ∷ us) (steps-back ss t)

result-back : (ss : List (List Mode × PlainNeutral)) (t : PlainTuple) → result_of (steps_on ss (done t)) ≡ t
result-back [] t = refl
result-back (s ∷ ss) t = result-back ss t

zipped-runs : (d n : ℕ) (ss : List (List Mode × PlainNeutral)) → zipped (runs_from d n ss) ss ≡ rights_from d n ss
zipped-runs d n [] = refl
zipped-runs d n (s ∷ ss) = ap (λ ys. (run_of d n, (s.0, s.1)) ∷ ys) (zipped-runs d (n + length s.0) ss)

all-replicated : (n : ℕ) (ss : List (List Mode × PlainNeutral)) (t : PlainTuple) → all_places n (steps_on ss (done t)) ≡ replicate (length ss) (from_on 0 n)
all-replicated n [] t = refl
all-replicated n (s ∷ ss) t = ap (λ cs. from_on 0 n ∷ cs) (all-replicated n ss t)

pub first-none : (s : Tables) (e f : Expr) → (length (out-Expr e).steps ≡ length (out-Expr f).steps → ⊥) → None ≡ first_under s (plain_expr e) (plain_expr f)
first-none s e f h = sym (ap (λ x. first_under s x (plain_expr f)) (plain-expr e) ∙ ap (first_under s (steps_on ss (done t))) (plain-expr f) ∙ ap (λ (b : Bool). if b then whole else None) (counts_differ ss us t u apart))
  where
    ss : List (List Mode × PlainNeutral)
    ss = map plain_step (out-Expr e).steps

    us : List (List Mode × PlainNeutral)
    us = map plain_step (out-Expr f).steps

    t : PlainTuple
    t = tuple_of (map plain_entry (out-Expr e).result)

    u : PlainTuple
    u = tuple_of (map plain_entry (out-Expr f).result)

    apart : length ss ≡ length us → ⊥
    apart g = h (sym (map_length plain_step (out-Expr e).steps) ∙ g ∙ map_length plain_step (out-Expr f).steps)

    whole : Option (List ℕ)
    whole = sought (rights_from s.fresh 0 (steps_of (steps_on us (done u)))) (run_of s.fresh (count_from 0 (steps_of (steps_on us (done u))))) (result_of (steps_on us (done u)))
        (with_fresh s (s.fresh + count_from 0 (steps_of (steps_on us (done u))))) (all_places (length (steps_of (steps_on us (done u)))) (steps_on ss (done t))) [] (steps_on ss (done t))

plain-first : (s : Tables) (ss us : List (List Mode × PlainNeutral)) (t u : PlainTuple) → length ss ≡ length us
    → sought (zipped (runs_from s.fresh 0 us) us) (run_of s.fresh (count_from 0 us)) u (with_fresh s (s.fresh + count_from 0 us)) (replicate (length us) (from_on 0 (length us))) [] (steps_on ss (done t))
    ≡ first_under s (steps_on ss (done t)) (steps_on us (done u))
plain-first s ss us t u h = ap (λ ys. sought ys (run_of s.fresh (count_from 0 us)) u (with_fresh s (s.fresh + count_from 0 us)) (replicate (length us) (from_on 0 (length us))) [] (steps_on ss (done t))) (zipped-runs s.fresh 0 us)
    ∙ ap (λ n. sought (rights_from s.fresh 0 us) (run_of s.fresh (count_from 0 us)) u (with_fresh s (s.fresh + count_from 0 us)) (replicate n (from_on 0 (length us))) [] (steps_on ss (done t))) (sym h)
    ∙ ap (λ cs. sought (rights_from s.fresh 0 us) (run_of s.fresh (count_from 0 us)) u (with_fresh s (s.fresh + count_from 0 us)) cs [] (steps_on ss (done t))) (sym (all-replicated (length us) ss t))
    ∙ ap (λ w. sought (rights_from s.fresh 0 us) (run_of s.fresh (count_from 0 us)) w (with_fresh s (s.fresh + count_from 0 us)) (all_places (length us) (steps_on ss (done t))) [] (steps_on ss (done t))) (sym (result-back us u))
    ∙ ap (λ xs. sought (rights_from s.fresh 0 xs) (run_of s.fresh (count_from 0 xs)) (result_of (steps_on us (done u))) (with_fresh s (s.fresh + count_from 0 xs)) (all_places (length xs) (steps_on ss (done t))) [] (steps_on ss (done t))) (sym (steps-back us u))
    ∙ sym (ap (λ (b : Bool). if b then sought (rights_from s.fresh 0 (steps_of (steps_on us (done u)))) (run_of s.fresh (count_from 0 (steps_of (steps_on us (done u))))) (result_of (steps_on us (done u)))
    (with_fresh s (s.fresh + count_from 0 (steps_of (steps_on us (done u))))) (all_places (length (steps_of (steps_on us (done u)))) (steps_on ss (done t))) [] (steps_on ss (done t)) else None) (counts ss us t u h))

pub first-found : (s : Tables) (e f : Expr) (before : List Run) (all : Run) (cs : List (List ℕ)) (n : ℕ) → length (out-Expr e).steps ≡ length (out-Expr f).steps
    → before ≡ runs_from s.fresh 0 (map plain_step (out-Expr f).steps) → all ≡ run_of s.fresh (count_from 0 (map plain_step (out-Expr f).steps))
    → cs ≡ replicate (length (out-Expr f).steps) (from_on 0 (length (out-Expr f).steps)) → n ≡ s.fresh + all.count
    → sought_at (problem e f before all cs) 0 (with_fresh s n) [] ≡ first_under s (plain_expr e) (plain_expr f)
first-found s e f before all cs n h i j k m = ap (λ x. sought (zipped x us) all u (with_fresh s n) cs [] (steps_on ss (done t))) i
    ∙ ap (λ x. sought (zipped (runs_from s.fresh 0 us) us) all u (with_fresh s x) cs [] (steps_on ss (done t))) m
    ∙ ap (λ x. sought (zipped (runs_from s.fresh 0 us) us) x u (with_fresh s (s.fresh + x.count)) cs [] (steps_on ss (done t))) j
    ∙ ap (λ x. sought (zipped (runs_from s.fresh 0 us) us) (run_of s.fresh (count_from 0 us)) u (with_fresh s (s.fresh + count_from 0 us)) x [] (steps_on ss (done t))) k
    ∙ ap (λ x. sought (zipped (runs_from s.fresh 0 us) us) (run_of s.fresh (count_from 0 us)) u (with_fresh s (s.fresh + count_from 0 us)) (replicate x (from_on 0 x)) [] (steps_on ss (done t))) (sym (map_length plain_step (out-Expr f).steps))
    ∙ plain-first s ss us t u (map_length plain_step (out-Expr e).steps ∙ h ∙ sym (map_length plain_step (out-Expr f).steps))
    ∙ sym (ap (λ x. first_under s x (plain_expr f)) (plain-expr e) ∙ ap (first_under s (steps_on ss (done t))) (plain-expr f))
  where
    ss : List (List Mode × PlainNeutral)
    ss = map plain_step (out-Expr e).steps

    us : List (List Mode × PlainNeutral)
    us = map plain_step (out-Expr f).steps

    t : PlainTuple
    t = tuple_of (map plain_entry (out-Expr e).result)

    u : PlainTuple
    u = tuple_of (map plain_entry (out-Expr f).result)
