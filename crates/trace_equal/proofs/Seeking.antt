-- The search step by step finds what the search by recursion finds, and it ends.
use Rattle.std.specs.Prelude.{ℕ, zero, suc, ◌+◌, ◌-◌, ◌*◌, ◌≡◌, ◌<◌, ◌≤◌, ◌&&◌, ◌||◌, not, nat_eq, if◌then◌else◌, Bool, true, false, List, [], ◌∷◌, ◌++◌, length, map, reverse, refl, Option, Some, None, slice_get, slice_set}
use Rattle.std.proofs.Common.{ap, sym, subst, ◌∙◌, arith, drop, append_assoc}
use Rattle.std.proofs.lemmas.List.{length-reverse, length-set, map-append, reverse-append, reverse-reverse, append-nil}
use Rattle.std.proofs.Math.Nat.{mul-le-mul_right, suc-mul}
use Rattle.clf_syntax.specs.Tree.{PlainNeutral, done, step, steps_on}
use Rattle.clf_syntax.specs.declared.tree.Mode.{Mode}
use Rattle.trace_equal.proofs.Bijections.{map_length}
use Rattle.trace_equal.specs.declared.tables.Run.{Run}
use Rattle.trace_equal.specs.declared.tables.Tables.{Tables}
use Rattle.trace_equal.specs.declared.choice.Choice.{Choice}
use Rattle.trace_equal.specs.declared.choice.Taken.{Taken}
use Rattle.trace_equal.specs.Choosing.{is_free}
use Rattle.trace_equal.specs.Comparing.{compared_tuple, sought, with_left, with_right, with_steps}
use Rattle.trace_equal.specs.Places.{chosen, is_absent, or_else}
use Rattle.trace_equal.specs.Seeking.{IsNext, Marks, Problem, Serves, Takes, open_at, sought_at, tries, tries_at}

-- ---- one step of the recursion
at_some : {X : Type 0} (xs : List X) (k : ℕ) (x : X) → slice_get xs k ≡ Some x → drop k xs ≡ x ∷ drop (suc k) xs
at_some [] k x e = absurd (cc)
at_some (y ∷ xs) zero x e = ap (λ z. z ∷ xs) (same e)
  where
    same : Some y ≡ Some x → y ≡ x
    same e = cc
at_some (y ∷ xs) (suc k) x e = at_some xs k x e

at_none : {X : Type 0} (xs : List X) (k : ℕ) → slice_get xs k ≡ None → drop k xs ≡ []
at_none [] zero e = refl
at_none [] (suc k) e = refl
at_none (y ∷ xs) zero e = absurd (cc)
at_none (y ∷ xs) (suc k) e = at_none xs k e

plus_one : (k : ℕ) → suc k ≡ k + 1
plus_one k = omega arith

-- At its beginning a left step has all its candidates left.
pub open_at-start : (p : Problem) (k : ℕ) (s : Tables) (used : List ℕ) → sought_at p k s used ≡ open_at p k s used 0
open_at-start p k s used = steps (slice_get p.lefts k) refl
  where
    places : (l : List Mode × PlainNeutral) (c : Option (List ℕ)) → slice_get p.candidates k ≡ c
        → sought p.rights p.all p.wanted s (drop k p.candidates) used (step l.0 l.1 (steps_on (drop (suc k) p.lefts) (done p.result))) ≡ tries_at p k s used 0 (Some l) c
    places l None e = ap (λ cs. sought p.rights p.all p.wanted s cs used (step l.0 l.1 (steps_on (drop (suc k) p.lefts) (done p.result)))) (at_none p.candidates k e)
    places l (Some c) e = ap (λ cs. sought p.rights p.all p.wanted s cs used (step l.0 l.1 (steps_on (drop (suc k) p.lefts) (done p.result)))) (at_some p.candidates k c e)
        ∙ ap (λ n. tries (λ j x. sought_at p n x (j ∷ used)) p.rights s used l c) (plus_one k)

    steps : (l : Option (List Mode × PlainNeutral)) → slice_get p.lefts k ≡ l → sought_at p k s used ≡ tries_at p k s used 0 l (slice_get p.candidates k)
    steps None e = ap (λ ls. sought p.rights p.all p.wanted s (drop k p.candidates) used (steps_on ls (done p.result))) (at_none p.lefts k e)
    steps (Some l) e = ap (λ ls. sought p.rights p.all p.wanted s (drop k p.candidates) used (steps_on ls (done p.result))) (at_some p.lefts k l e) ∙ places l (slice_get p.candidates k) refl

-- A candidate that serves is taken.
pub serves_takes : (p : Problem) (k : ℕ) (s : Tables) (used : List ℕ) (a : ℕ) (l : List Mode × PlainNeutral) (c : List ℕ) (t : Taken) → slice_get p.lefts k ≡ Some l → slice_get p.candidates k ≡ Some c
    → Serves p.rights s used l c a t → Takes p k s used a t
serves_takes p k s used a l c t e f h = record {
  later = h.later;
  within = (c, f, h.within);
  free = h.free;
  placed = h.placed;
  answer = opened a
      ∙ h.answer (λ j x. sought_at p (k + 1) x (j ∷ used))
      ∙ ap (λ o. or_else (chosen t.place o) (tries (λ j x. sought_at p (k + 1) x (j ∷ used)) p.rights s used l (drop t.next c))) (open_at-start p (k + 1) (with_left s t.run) (t.place ∷ used))
      ∙ ap (λ o. or_else (chosen t.place (open_at p (k + 1) (with_left s t.run) (t.place ∷ used) 0)) o) (sym (opened t.next));
}
  where
    opened : (b : ℕ) → open_at p k s used b ≡ tries (λ j x. sought_at p (k + 1) x (j ∷ used)) p.rights s used l (drop b c)
    opened b = ap (λ o. tries_at p k s used b o (slice_get p.candidates k)) e ∙ ap (λ o. tries_at p k s used b (Some l) o) f

pub none_serves : (p : Problem) (k : ℕ) (s : Tables) (used : List ℕ) (a : ℕ) (l : List Mode × PlainNeutral) (c : List ℕ) → slice_get p.lefts k ≡ Some l → slice_get p.candidates k ≡ Some c
    → IsNext p.rights s used l c a None → open_at p k s used a ≡ None
none_serves p k s used a l c e f h = ap (λ o. tries_at p k s used a o (slice_get p.candidates k)) e ∙ ap (λ o. tries_at p k s used a (Some l) o) f ∙ h (λ j x. sought_at p (k + 1) x (j ∷ used))

pub no_candidates : (p : Problem) (k : ℕ) (s : Tables) (used : List ℕ) (a : ℕ) (l : List Mode × PlainNeutral) → slice_get p.lefts k ≡ Some l → slice_get p.candidates k ≡ None → open_at p k s used a ≡ None
no_candidates p k s used a l e f = ap (λ o. tries_at p k s used a o (slice_get p.candidates k)) e ∙ ap (λ o. tries_at p k s used a (Some l) o) f

pub not_joined : (p : Problem) (k : ℕ) (s : Tables) (used : List ℕ) (a : ℕ) → slice_get p.lefts k ≡ None → compared_tuple (with_right s p.all) p.result p.wanted ≡ false → open_at p k s used a ≡ None
not_joined p k s used a e f = ap (λ o. tries_at p k s used a o (slice_get p.candidates k)) e ∙ ap (λ (b : Bool). if b then Some [] else None) f

-- ---- the steps that are taken
-- a left step that has taken a candidate: the tables and the used places before it, and what it took
pub record Frame : Type 0 where
  pub tables : Tables
  pub used : List ℕ
  pub took : Taken

-- what is answered, where the steps after the frames answer this; the newest frame first
abbrev pub resumed : Problem → List Frame → Option (List ℕ) → Option (List ℕ)
resumed p [] o = o
resumed p (f ∷ fs) o = resumed p fs (or_else (chosen f.took.place o) (open_at p (length fs) f.tables f.used f.took.next))

-- the frames lead from the tables at the beginning to these
abbrev pub Leads : Tables → List Frame → Tables → List ℕ → Type 0
Leads b [] s used = (s ≡ b) × (used ≡ [])
Leads b (f ∷ fs) s used = (s ≡ with_left f.tables f.took.run) × (used ≡ f.took.place ∷ f.used) × (is_absent f.took.place f.used ≡ true) × Leads b fs f.tables f.used

-- how the search stands: with these tables, this choice, and at the newest step the candidates from a number on
pub record Stands (p : Problem) (b : Tables) (s : Tables) (choice : Choice) (a : ℕ) : Type 0 where
  pub used : List ℕ
  pub frames : List Frame
  pub leads : Leads b frames s used
  pub took : map (λ (f : Frame). f.took) frames ≡ reverse choice.taken
  pub marks : Marks used choice.used
  pub room : length p.rights ≤ length choice.used
  pub answer : sought_at p 0 b [] ≡ resumed p frames (open_at p (length choice.taken) s used a)

count_frames : (fs : List Frame) (ts : List Taken) → map (λ (f : Frame). f.took) fs ≡ reverse ts → length fs ≡ length ts
count_frames fs ts e = sym (map_length (λ (f : Frame). f.took) fs) ∙ ap length e ∙ length-reverse ts

reverse-snoc : {A : Type 0} (xs : List A) (x : A) → reverse (xs ++ x ∷ []) ≡ x ∷ reverse xs
reverse-snoc xs x = reverse-append xs (x ∷ [])

-- ---- marks
no_suc : (k : ℕ) → nat_eq (suc k) 0 ≡ false
no_suc k = grind arith

no_zero : (k : ℕ) → nat_eq 0 (suc k) ≡ false
no_zero k = grind arith

sucs_same : (k j : ℕ) → nat_eq (suc k) (suc j) ≡ nat_eq k j
sucs_same k j = grind arith

set_true : (m : List Bool) (j k : ℕ) → j < length m → is_free (slice_set m j true) k ≡ not (nat_eq k j) && is_free m k
set_true [] j k h = absurd (omega arith)
set_true (b ∷ m) zero zero h = refl
set_true (b ∷ m) zero (suc k) h = sym (ap (λ e. not e && is_free m k) (no_suc k))
set_true (b ∷ m) (suc j) zero h = sym (ap (λ e. not e && is_free (b ∷ m) zero) (no_zero j))
set_true (b ∷ m) (suc j) (suc k) h = set_true m j k (less h) ∙ sym (ap (λ e. not e && is_free m k) (sucs_same k j))
  where
    less : suc j < suc (length m) → j < length m
    less h = omega arith

set_false : (m : List Bool) (j k : ℕ) → is_free (slice_set m j false) k ≡ nat_eq k j || is_free m k
set_false [] j k = sym (or_true (nat_eq k j))
  where
    or_true : (b : Bool) → b || true ≡ true
    or_true true = refl
    or_true false = refl
set_false (b ∷ m) zero zero = refl
set_false (b ∷ m) zero (suc k) = sym (ap (λ e. e || is_free m k) (no_suc k))
set_false (b ∷ m) (suc j) zero = sym (ap (λ e. e || is_free (b ∷ m) zero) (no_zero j))
set_false (b ∷ m) (suc j) (suc k) = set_false m j k ∙ sym (ap (λ e. e || is_free m k) (sucs_same k j))

marks_more : (used : List ℕ) (m : List Bool) (j : ℕ) → j < length m → Marks used m → Marks (j ∷ used) (slice_set m j true)
marks_more used m j h e = λ k. set_true m j k h ∙ ap (λ b. not (nat_eq k j) && b) (e k)

marks_less : (used : List ℕ) (m : List Bool) (j : ℕ) → is_absent j used ≡ true → Marks (j ∷ used) m → Marks used (slice_set m j false)
marks_less used m j h e = λ k. set_false m j k ∙ ap (λ b. nat_eq k j || b) (e k) ∙ back k (nat_eq k j) refl
  where
    back : (k : ℕ) (b : Bool) → nat_eq k j ≡ b → b || (not b && is_absent k used) ≡ is_absent k used
    back k true g = sym (ap (λ i. is_absent i used) (same g) ∙ h)
      where
        same : nat_eq k j ≡ true → k ≡ j
        same g = grind arith
    back k false g = refl

-- ---- the turns of the search
pub stands_first : (p : Problem) (b : Tables) (choice : Choice) → choice.taken ≡ [] → ((j : ℕ) → is_free choice.used j ≡ true) → length p.rights ≤ length choice.used → Stands p b b choice 0
stands_first p b choice e m h = record {
  used = [];
  frames = [];
  leads = (refl, refl);
  took = sym (ap reverse e);
  marks = m;
  room = h;
  answer = open_at-start p 0 b [] ∙ ap (λ ts. open_at p (length ts) b [] 0) (sym e);
}

pub stands_further : (p : Problem) (b s z : Tables) (choice next : Choice) (a : ℕ) (t : Taken) → (h : Stands p b s choice a) → Takes p (length choice.taken) s h.used a t
    → next.taken ≡ choice.taken ++ t ∷ [] → next.used ≡ slice_set choice.used t.place true → z ≡ with_left s t.run → Stands p b z next 0
stands_further p b s z choice next a t h k e f g = record {
  used = t.place ∷ h.used;
  frames = record { tables = s; used = h.used; took = t } ∷ h.frames;
  leads = (g, refl, k.free, h.leads);
  took = ap (λ ts. t ∷ ts) h.took ∙ sym (ap reverse e ∙ reverse-snoc choice.taken t);
  marks = subst (λ m. Marks (t.place ∷ h.used) m) (sym f) (marks_more h.used choice.used t.place (less k.placed h.room) h.marks);
  room = subst (λ n. length p.rights ≤ n) (sym (ap length f ∙ length-set choice.used t.place true)) h.room;
  answer = h.answer ∙ ap (resumed p h.frames) (k.answer
      ∙ ap (λ n. or_else (chosen t.place (open_at p (length choice.taken + 1) (with_left s t.run) (t.place ∷ h.used) 0)) (open_at p n s h.used t.next)) (sym (count_frames h.frames choice.taken h.took))
      ∙ ap (λ n. or_else (chosen t.place (open_at p n (with_left s t.run) (t.place ∷ h.used) 0)) (open_at p (length h.frames) s h.used t.next)) (sym count)
      ∙ ap (λ x. or_else (chosen t.place (open_at p (length next.taken) x (t.place ∷ h.used) 0)) (open_at p (length h.frames) s h.used t.next)) (sym g));
}
  where
    less : {x y z : ℕ} → x < y → y ≤ z → x < z
    less u v = omega arith

    snoc : (ts : List Taken) → length (ts ++ t ∷ []) ≡ length ts + 1
    snoc [] = refl
    snoc (u ∷ ts) = ap suc (snoc ts) ∙ omega arith

    count : length next.taken ≡ length choice.taken + 1
    count = ap length e ∙ snoc choice.taken

pub stands_back : (p : Problem) (b s z : Tables) (choice next : Choice) (a : ℕ) (t : Taken) → (h : Stands p b s choice a) → open_at p (length choice.taken) s h.used a ≡ None
    → choice.taken ≡ next.taken ++ t ∷ [] → next.used ≡ slice_set choice.used t.place false → ((x : Tables) (r : Run) → s ≡ with_left x r → z ≡ x) → Stands p b z next t.next
stands_back p b s z choice next a t h k e f g = from h.frames h.leads (h.took ∙ ap reverse e ∙ reverse-snoc next.taken t) (h.answer ∙ ap (resumed p h.frames) k)
  where
    room : length p.rights ≤ length next.used
    room = subst (λ n. length p.rights ≤ n) (sym (ap length f ∙ length-set choice.used t.place false)) h.room

    from : (fs : List Frame) → Leads b fs s h.used → map (λ (f : Frame). f.took) fs ≡ t ∷ reverse next.taken → sought_at p 0 b [] ≡ resumed p fs None → Stands p b z next t.next
    from [] l m n = absurd (cc)
    from (y ∷ fs) (l, o, free, rest) m n = record {
      used = y.used;
      frames = fs;
      leads = subst (λ x. Leads b fs x y.used) (sym (g y.tables y.took.run l)) rest;
      took = later m;
      marks = subst (λ ms. Marks y.used ms) (sym (f ∙ ap (λ i. slice_set choice.used i false) (sym (ap (λ (u : Taken). u.place) (same m))))) (marks_less y.used choice.used y.took.place free (subst (λ us. Marks us choice.used) o h.marks));
      room = room;
      answer = n ∙ ap (λ (u : Taken). resumed p fs (open_at p (length fs) y.tables y.used u.next)) (same m)
          ∙ ap (λ i. resumed p fs (open_at p i y.tables y.used t.next)) (count_frames fs next.taken (later m))
          ∙ ap (λ x. resumed p fs (open_at p (length next.taken) x y.used t.next)) (sym (g y.tables y.took.run l));
    }
      where
        same : y.took ∷ map (λ (f : Frame). f.took) fs ≡ t ∷ reverse next.taken → y.took ≡ t
        same m = cc

        later : y.took ∷ map (λ (f : Frame). f.took) fs ≡ t ∷ reverse next.taken → map (λ (f : Frame). f.took) fs ≡ reverse next.taken
        later m = cc

abbrev places : List Taken → List ℕ
places ts = map (λ (t : Taken). t.place) ts

resumed-some : (p : Problem) (fs : List Frame) (m : List ℕ) → resumed p fs (Some m) ≡ Some (places (reverse (map (λ (f : Frame). f.took) fs)) ++ m)
resumed-some p [] m = refl
resumed-some p (f ∷ fs) m = resumed-some p fs (f.took.place ∷ m) ∙ ap (λ l. Some l) (sym ahead)
  where
    ahead : places (reverse (f.took ∷ map (λ (f : Frame). f.took) fs)) ++ m ≡ places (reverse (map (λ (f : Frame). f.took) fs)) ++ f.took.place ∷ m
    ahead = ap (λ l. places l ++ m) (reverse-append (f.took ∷ []) (map (λ (f : Frame). f.took) fs))
        ∙ ap (λ l. l ++ m) (map-append (λ (t : Taken). t.place) (reverse (map (λ (f : Frame). f.took) fs)) (f.took ∷ []))
        ∙ append_assoc (places (reverse (map (λ (f : Frame). f.took) fs))) (f.took.place ∷ []) m

led : (b s : Tables) (fs : List Frame) (used : List ℕ) → Leads b fs s used → s ≡ with_steps b (map (λ (f : Frame). f.took.run) fs)
led b s [] used (e, f) = e
led b s (y ∷ fs) used (e, f, g, rest) = e ∙ ap (λ x. with_left x y.took.run) (led b y.tables fs y.used rest)

-- Each left step has taken a right step, and the tuples are joined.
pub stands_complete : (p : Problem) (b s : Tables) (choice : Choice) (a : ℕ) → (h : Stands p b s choice a) → open_at p (length choice.taken) s h.used a ≡ Some []
    → (Some (map (λ (t : Taken). t.place) choice.taken) ≡ sought_at p 0 b []) × ((rs : List Run) × (s ≡ with_steps b rs) × (length rs ≡ length choice.taken))
stands_complete p b s choice a h k = (
  sym (h.answer ∙ ap (resumed p h.frames) k ∙ resumed-some p h.frames [] ∙ ap (λ l. Some l) (append-nil (places (reverse (map (λ (f : Frame). f.took) h.frames))) ∙ ap places (ap reverse h.took ∙ reverse-reverse choice.taken))),
  (map (λ (f : Frame). f.took.run) h.frames, led b s h.frames h.used h.leads, map_length (λ (f : Frame). f.took.run) h.frames ∙ count_frames h.frames choice.taken h.took),
)

-- ---- the search ends
-- how many turns the search makes at most from the beginning of a left step, and where it stands
abbrev pub full : List (List ℕ) → ℕ
full [] = 1
full (c ∷ cs) = length c * (full cs + 1) + 1

abbrev pub work : List (List ℕ) → List Taken → ℕ → ℕ
work [] [] a = 1
work [] (t ∷ ts) a = work [] ts a + 1
work (c ∷ cs) [] a = (length c - a) * (full cs + 1) + 1
work (c ∷ cs) (t ∷ ts) a = (length c - t.next) * (full cs + 1) + 1 + work cs ts a

work-start : (cs : List (List ℕ)) → work cs [] 0 ≡ full cs
work-start [] = refl
work-start (c ∷ cs) = ap (λ n. n * (full cs + 1) + 1) (all (length c))
  where
    all : (n : ℕ) → n - 0 ≡ n
    all n = omega arith

work-some : (cs : List (List ℕ)) (ts : List Taken) (a : ℕ) → 0 < work cs ts a
work-some [] [] a = omega arith
work-some [] (t ∷ ts) a = omega arith
work-some (c ∷ cs) [] a = omega arith
work-some (c ∷ cs) (t ∷ ts) a = omega arith

pub work-take : (cs : List (List ℕ)) (ts : List Taken) (a : ℕ) (t : Taken) (c : List ℕ) → slice_get cs (length ts) ≡ Some c → a < t.next → t.next ≤ length c → work cs (ts ++ t ∷ []) 0 < work cs ts a
work-take [] ts a t c e h k = absurd (cc)
work-take (d ∷ cs) [] a t c e h k = less (mul-le-mul_right (full cs + 1) (fewer h k (ap length (same e)))) (suc-mul (length d - t.next) (full cs + 1)) (work-start cs)
  where
    same : Some d ≡ Some c → d ≡ c
    same e = cc

    fewer : a < t.next → t.next ≤ length c → length d ≡ length c → suc (length d - t.next) ≤ length d - a
    fewer h k f = omega arith

    less : suc (length d - t.next) * (full cs + 1) ≤ (length d - a) * (full cs + 1) → suc (length d - t.next) * (full cs + 1) ≡ (length d - t.next) * (full cs + 1) + (full cs + 1) → work cs [] 0 ≡ full cs
        → (length d - t.next) * (full cs + 1) + 1 + work cs [] 0 < (length d - a) * (full cs + 1) + 1
    less h f g = omega arith
work-take (d ∷ cs) (u ∷ ts) a t c e h k = more (work-take cs ts a t c e h k)
  where
    more : work cs (ts ++ t ∷ []) 0 < work cs ts a → (length d - u.next) * (full cs + 1) + 1 + work cs (ts ++ t ∷ []) 0 < (length d - u.next) * (full cs + 1) + 1 + work cs ts a
    more h = omega arith

pub work-back : (cs : List (List ℕ)) (ts : List Taken) (a : ℕ) (t : Taken) → work cs ts t.next < work cs (ts ++ t ∷ []) a
work-back [] [] a t = omega arith
work-back [] (u ∷ ts) a t = more (work-back [] ts a t)
  where
    more : work [] ts t.next < work [] (ts ++ t ∷ []) a → work [] ts t.next + 1 < work [] (ts ++ t ∷ []) a + 1
    more h = omega arith
work-back (c ∷ cs) [] a t = more (work-some cs [] a)
  where
    more : 0 < work cs [] a → (length c - t.next) * (full cs + 1) + 1 < (length c - t.next) * (full cs + 1) + 1 + work cs [] a
    more h = omega arith
work-back (c ∷ cs) (u ∷ ts) a t = more (work-back cs ts a t)
  where
    more : work cs ts t.next < work cs (ts ++ t ∷ []) a → (length c - u.next) * (full cs + 1) + 1 + work cs ts t.next < (length c - u.next) * (full cs + 1) + 1 + work cs (ts ++ t ∷ []) a
    more h = omega arith
