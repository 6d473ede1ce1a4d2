-- The comparison along spines, tuples and steps.
use Rattle.std.specs.Prelude.{ℕ, suc, ◌+◌, ◌-◌, ◌<◌, ◌≡◌, ◌⊎◌, Bool, true, false, ◌&&◌, nat_eq, List, [], ◌∷◌, ◌++◌, length, map, refl}
use Rattle.std.proofs.Common.{ap, sym, ◌∙◌, arith, inl, inr, ⊎_elim, append_assoc, drop, get_or}
use Rattle.clf_syntax.specs.declared.tree.Head.{Head}
use Rattle.clf_syntax.specs.declared.tree.Mode.{Mode}
use Rattle.clf_syntax.specs.Tree.{PlainElimination, PlainNeutral, PlainObject, app, arg, eliminated, first, fst, head_alone, second, snd, spine_on, tuple_of}
use Rattle.clf_syntax.specs.declared.tree.Step.{Step}
use Rattle.clf_syntax.specs.Plain.{plain_step, plain-step-modes}
use Rattle.clf_syntax.proofs.Next.{dropped}
use Rattle.trace_equal.specs.declared.tables.Tables.{Tables}
use Rattle.trace_equal.proofs.Bijections.{sucs}
use Rattle.trace_equal.proofs.Fronts.{halves}
use Rattle.trace_equal.specs.declared.tables.Run.{Run}
use Rattle.trace_equal.specs.Places.{from_on}
use Rattle.trace_equal.specs.Comparing.{count_from, run_of, runs_from, compared, compared_elimination, compared_entry, compared_head, compared_neutral, compared_spine, compared_tuple}
use Rattle.clf_syntax.specs.Modes.{same_mode, same_modes}

-- ---- tests
and_true : (a : Bool) → a && true ≡ a
and_true true = refl
and_true false = refl

and_false : (a : Bool) → a && false ≡ false
and_false true = refl
and_false false = refl

and_same : (a b c : Bool) → (a && b) && c ≡ a && (b && c)
and_same true b c = refl
and_same false b c = refl

and_inner : (a b c : Bool) → a && (b && c) ≡ b && (a && c)
and_inner true b c = refl
and_inner false true c = refl
and_inner false false c = refl

same_or_not : (a b : ℕ) → (a ≡ b) ⊎ (a ≡ b → ⊥)
same_or_not a b = at (nat_eq a b) refl
  where
    at : (t : Bool) → nat_eq a b ≡ t → (a ≡ b) ⊎ (a ≡ b → ⊥)
    at true e = inl (same e)
      where
        same : nat_eq a b ≡ true → a ≡ b
        same e = grind arith
    at false e = inr (other e)
      where
        other : nat_eq a b ≡ false → a ≡ b → ⊥
        other e f = grind arith

not_true_is_false : (b : Bool) → (b ≡ true → ⊥) → b ≡ false
not_true_is_false true h = absurd (h refl)
not_true_is_false false h = refl

-- ---- spines
compared-eliminated : (s : Tables) (e f : PlainElimination) (r q : PlainNeutral) → compared_neutral s (eliminated e r) (eliminated f q) ≡ compared_neutral s r q && compared_elimination s e f
compared-eliminated s (arg m o) (arg k u) r q = and_inner (same_mode m k) (compared_neutral s r q) (compared s o u)
compared-eliminated s (arg m o) first r q = sym (and_false (compared_neutral s r q))
compared-eliminated s (arg m o) second r q = sym (and_false (compared_neutral s r q))
compared-eliminated s first (arg k u) r q = sym (and_false (compared_neutral s r q))
compared-eliminated s first first r q = sym (and_true (compared_neutral s r q))
compared-eliminated s first second r q = sym (and_false (compared_neutral s r q))
compared-eliminated s second (arg k u) r q = sym (and_false (compared_neutral s r q))
compared-eliminated s second first r q = sym (and_false (compared_neutral s r q))
compared-eliminated s second second r q = sym (and_true (compared_neutral s r q))

spines_of_one_length : (s : Tables) (es fs : List PlainElimination) (r q : PlainNeutral) → length es ≡ length fs → compared_neutral s (spine_on es r) (spine_on fs q) ≡ compared_neutral s r q && compared_spine s es fs
spines_of_one_length s [] [] r q h = sym (and_true (compared_neutral s r q))
spines_of_one_length s [] (f ∷ fs) r q h = absurd (omega arith)
spines_of_one_length s (e ∷ es) [] r q h = absurd (omega arith)
spines_of_one_length s (e ∷ es) (f ∷ fs) r q h =
    spines_of_one_length s es fs (eliminated e r) (eliminated f q) (sucs h)
    ∙ ap (λ b. b && compared_spine s es fs) (compared-eliminated s e f r q)
    ∙ and_same (compared_neutral s r q) (compared_elimination s e f) (compared_spine s es fs)

-- how many eliminations
abbrev eliminations : PlainNeutral → ℕ
eliminations (head_alone h) = 0
eliminations (app m r o) = suc (eliminations r)
eliminations (fst r) = suc (eliminations r)
eliminations (snd r) = suc (eliminations r)

eliminations-spine : (es : List PlainElimination) (r : PlainNeutral) → eliminations (spine_on es r) ≡ length es + eliminations r
eliminations-spine [] r = omega arith
eliminations-spine (e ∷ es) r = eliminations-spine es (eliminated e r) ∙ ap (λ n. length es + n) (one e) ∙ omega arith
  where
    one : (e : PlainElimination) → eliminations (eliminated e r) ≡ suc (eliminations r)
    one (arg m o) = refl
    one first = refl
    one second = refl

same_eliminations : (s : Tables) (r q : PlainNeutral) → compared_neutral s r q ≡ true → eliminations r ≡ eliminations q
same_eliminations s (head_alone h) (head_alone j) e = refl
same_eliminations s (app m r o) (app k q u) e = ap suc (same_eliminations s r q (halves (compared_neutral s r q) (compared s o u) (halves (same_mode m k) (compared_neutral s r q && compared s o u) e).1).0)
same_eliminations s (fst r) (fst q) e = ap suc (same_eliminations s r q e)
same_eliminations s (snd r) (snd q) e = ap suc (same_eliminations s r q e)
same_eliminations s _ _ e = absurd (cc)

pub spines_of_two_lengths : (s : Tables) (es fs : List PlainElimination) → (length es ≡ length fs → ⊥) → compared_spine s es fs ≡ false
spines_of_two_lengths s [] [] h = absurd (h refl)
spines_of_two_lengths s [] (f ∷ fs) h = refl
spines_of_two_lengths s (e ∷ es) [] h = refl
spines_of_two_lengths s (e ∷ es) (f ∷ fs) h = ap (λ b. compared_elimination s e f && b) (spines_of_two_lengths s es fs (λ k. h (ap suc k))) ∙ and_false (compared_elimination s e f)

pub compared-spine : (s : Tables) (h j : Head) (es fs : List PlainElimination) → compared_neutral s (spine_on es (head_alone h)) (spine_on fs (head_alone j)) ≡ compared_head s h j && compared_spine s es fs
compared-spine s h j es fs = ⊎_elim (λ e. spines_of_one_length s es fs (head_alone h) (head_alone j) e) (λ n. apart n) (same_or_not (length es) (length fs))
  where
    counts : compared_neutral s (spine_on es (head_alone h)) (spine_on fs (head_alone j)) ≡ true → length es ≡ length fs
    counts e = let f = sym (eliminations-spine es (head_alone h)) ∙ same_eliminations s (spine_on es (head_alone h)) (spine_on fs (head_alone j)) e ∙ eliminations-spine fs (head_alone j) in ends f
      where
        ends : length es + 0 ≡ length fs + 0 → length es ≡ length fs
        ends f = omega arith

    apart : (length es ≡ length fs → ⊥) → compared_neutral s (spine_on es (head_alone h)) (spine_on fs (head_alone j)) ≡ compared_head s h j && compared_spine s es fs
    apart n = not_true_is_false (compared_neutral s (spine_on es (head_alone h)) (spine_on fs (head_alone j))) (λ e. n (counts e))
        ∙ sym (ap (λ b. compared_head s h j && b) (spines_of_two_lengths s es fs n) ∙ and_false (compared_head s h j))

pub ruleset spine_laws = (compared-spine, spines_of_two_lengths)

-- ---- tuples
pub tuples_of_two_lengths : (s : Tables) (es fs : List (Mode × PlainObject)) → (length es ≡ length fs → ⊥) → compared_tuple s (tuple_of es) (tuple_of fs) ≡ false
tuples_of_two_lengths s [] [] h = absurd (h refl)
tuples_of_two_lengths s [] (f ∷ fs) h = refl
tuples_of_two_lengths s (e ∷ es) [] h = refl
tuples_of_two_lengths s (e ∷ es) (f ∷ fs) h =
    ap (λ b. same_mode e.0 f.0 && (compared s e.1 f.1 && b)) (tuples_of_two_lengths s es fs (λ k. h (ap suc k)))
    ∙ ap (λ b. same_mode e.0 f.0 && b) (and_false (compared s e.1 f.1)) ∙ and_false (same_mode e.0 f.0)

pub compared-tuple : (s : Tables) (e f : Mode × PlainObject) (es fs : List (Mode × PlainObject)) → compared_tuple s (tuple_of (e ∷ es)) (tuple_of (f ∷ fs)) ≡ compared_entry s e f && compared_tuple s (tuple_of es) (tuple_of fs)
compared-tuple s e f es fs = sym (and_same (same_mode e.0 f.0) (compared s e.1 f.1) (compared_tuple s (tuple_of es) (tuple_of fs)))

pub ruleset tuple_laws = (tuples_of_two_lengths, compared-tuple)

-- ---- modes
pub modes_of_two_lengths : (ms ns : List Mode) → (length ms ≡ length ns → ⊥) → same_modes ms ns ≡ false
modes_of_two_lengths [] [] h = absurd (h refl)
modes_of_two_lengths [] (n ∷ ns) h = refl
modes_of_two_lengths (m ∷ ms) [] h = refl
modes_of_two_lengths (m ∷ ms) (n ∷ ns) h = ap (λ b. same_mode m n && b) (modes_of_two_lengths ms ns (λ k. h (ap suc k))) ∙ and_false (same_mode m n)

pub ruleset mode_laws = (modes_of_two_lengths)

-- ---- numbers in order
pub from_on-next : (i n : ℕ) → i < n → from_on i (n - i) ≡ i ∷ from_on (i + 1) (n - (i + 1))
from_on-next i n h = ap (from_on i) (more h) ∙ ap (λ k. i ∷ from_on k (n - (i + 1))) one
  where
    more : i < n → n - i ≡ suc (n - (i + 1))
    more h = omega arith

    one : suc i ≡ i + 1
    one = omega arith

pub from_on-none : (i : ℕ) → from_on i (i - i) ≡ []
from_on-none i = ap (from_on i) nothing
  where
    nothing : i - i ≡ 0
    nothing = omega arith

pub from_on-push : (i n : ℕ) (whole before after : List ℕ) → i < n → whole ≡ before ++ from_on i (n - i) → after ≡ before ++ i ∷ [] → whole ≡ after ++ from_on (i + 1) (n - (i + 1))
from_on-push i n whole before after h e f = e ∙ ap (λ l. before ++ l) (from_on-next i n h) ∙ sym (ap (λ l. l ++ from_on (i + 1) (n - (i + 1))) f ∙ append_assoc before (i ∷ []) (from_on (i + 1) (n - (i + 1))))

pub ruleset number_laws = (from_on-none)

-- ---- runs

pub runs_from-push : (d n k i : ℕ) (whole before after : List Run) (s : Step) (xs : List Step) → i < length xs → s ≡ get_or xs i s → whole ≡ before ++ runs_from d n (map plain_step (drop i xs))
    → after ≡ before ++ run_of d n ∷ [] → k ≡ n + length s.modes → whole ≡ after ++ runs_from d k (map plain_step (drop (i + 1) xs))
runs_from-push d n k i whole before after s xs h is e f g = e ∙ ap (λ ss. before ++ runs_from d n (map plain_step ss)) (dropped xs i s h is)
    ∙ ap (λ m. before ++ run_of d n ∷ runs_from d (n + length m) (map plain_step (drop (i + 1) xs))) (plain-step-modes s)
    ∙ ap (λ m. before ++ run_of d n ∷ runs_from d m (map plain_step (drop (i + 1) xs))) (sym g)
    ∙ sym (ap (λ l. l ++ runs_from d k (map plain_step (drop (i + 1) xs))) f ∙ append_assoc before (run_of d n ∷ []) (runs_from d k (map plain_step (drop (i + 1) xs))))

pub count_from-next : (whole n k i : ℕ) (s : Step) (xs : List Step) → i < length xs → s ≡ get_or xs i s → whole ≡ count_from n (map plain_step (drop i xs)) → k ≡ n + length s.modes → whole ≡ count_from k (map plain_step (drop (i + 1) xs))
count_from-next whole n k i s xs h is e g = e ∙ ap (λ ss. count_from n (map plain_step ss)) (dropped xs i s h is)
    ∙ ap (λ m. count_from (n + length m) (map plain_step (drop (i + 1) xs))) (plain-step-modes s)
    ∙ ap (λ m. count_from m (map plain_step (drop (i + 1) xs))) (sym g)
