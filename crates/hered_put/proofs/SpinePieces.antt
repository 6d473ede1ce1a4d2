-- What becomes of a neutral: its head, the eliminations of its spine one after the other, and the parts of a pair.
use Rattle.std.specs.Prelude.{ℕ, ◌+◌, ◌≡◌, List, [], ◌∷◌, ◌++◌, map, length, refl}
use Rattle.std.proofs.Common.{ap, ◌∙◌, arith, ◌<◌, ◌≤◌, drop, get_or}
use Rattle.std.proofs.lemmas.List.{map-append}
use Rattle.std.proofs.lemmas.Grind.{common_steps}
use Rattle.clf_syntax.specs.declared.tree.Mode.{Mode}
use Rattle.clf_syntax.specs.declared.tree.Head.{Head}
use Rattle.clf_syntax.specs.declared.tree.Elim.{Elim}
use Rattle.clf_syntax.specs.Tree.{PlainObject, lam, pair, unit, monadic, atomic, hole, PlainNeutral, head_alone, app, fst, snd, PlainElimination, arg, first, second, eliminated, spine_on}
use Rattle.clf_syntax.specs.Plain.{plain_elim}
use Rattle.clf_syntax.proofs.Next.{dropped}
use Rattle.hered_subst.specs.Substitution.{Environment}
use Rattle.hered_put.specs.Function.{Answer, made, untyped, too_far, after, Outcome, kept, value, nested, first_part, second_part}
use Rattle.hered_put.specs.Pieces.{first_of, second_of, parts_of, head_of_environment, object_of, neutral_of, eliminated_of, argued_of, applied_of}

-- ---- spines

-- what a neutral becomes under the eliminations of a spine, by what it becomes without them
abbrev pub spined : ℕ → Environment → List PlainElimination → Answer Outcome → Answer Outcome
spined k s [] a = a
spined k s (e ∷ es) a = spined k s es (after a (λ v. eliminated_of k s e v))

pub neutral-eliminated : (k : ℕ) (s : Environment) (e : PlainElimination) (r : PlainNeutral) → neutral_of k s (eliminated e r) ≡ after (neutral_of k s r) (λ v. eliminated_of k s e v)
unfolding neutral_of eliminated_of
neutral-eliminated k s (arg m o) r = refl
neutral-eliminated k s first r = refl
neutral-eliminated k s second r = refl

pub neutral-spine : (k : ℕ) (s : Environment) (es : List PlainElimination) (r : PlainNeutral) → neutral_of k s (spine_on es r) ≡ spined k s es (neutral_of k s r)
neutral-spine k s [] r = refl
neutral-spine k s (e ∷ es) r = neutral-spine k s es (eliminated e r) ∙ ap (spined k s es) (neutral-eliminated k s e r)

pub neutral-head : (k : ℕ) (s : Environment) (h : Head) → neutral_of k s (head_alone h) ≡ head_of_environment s h
unfolding neutral_of head_of_environment
neutral-head k s h = refl

pub spined-untyped : (k : ℕ) (s : Environment) (es : List PlainElimination) → spined k s es untyped ≡ untyped
spined-untyped k s [] = refl
spined-untyped k s (e ∷ es) = spined-untyped k s es

pub spined-too_far : (k : ℕ) (s : Environment) (es : List PlainElimination) → spined k s es too_far ≡ too_far
spined-too_far k s [] = refl
spined-too_far k s (e ∷ es) = spined-too_far k s es

pub spined-next : (k : ℕ) (s : Environment) (i : ℕ) (x : Elim) (xs : List Elim) (v : Outcome) → i < length xs → x ≡ get_or xs i x
    → spined k s (map plain_elim (drop i xs)) (made v) ≡ spined k s (map plain_elim (drop (i + 1) xs)) (eliminated_of k s (plain_elim x) v)
spined-next k s i x xs v h e = ap (λ es. spined k s (map plain_elim es) (made v)) (dropped xs i x h e)

pub spined-ended : (k : ℕ) (s : Environment) (i : ℕ) (xs : List Elim) (v : Outcome) → length xs ≤ i → spined k s (map plain_elim (drop i xs)) (made v) ≡ made v
spined-ended k s i xs v h =
    let none : drop i xs ≡ [] = grind (arith, common_steps) in
    rw none

pub ruleset neutral_laws = (neutral-spine, neutral-head, spined-untyped, spined-too_far, spined-next, spined-ended)

pub spine-more : (es : List PlainElimination) (e : PlainElimination) (r : PlainNeutral) → spine_on (es ++ e ∷ []) r ≡ eliminated e (spine_on es r)
spine-more [] e r = refl
spine-more (x ∷ es) e r = spine-more es e (eliminated x r)

pub ruleset spine_laws = (spine-more, map-append)

-- ---- parts of pairs

pub first-kept : (n : PlainNeutral) → first_of (kept n) ≡ made (kept (fst n))
unfolding first_of
first-kept n = refl

pub second-kept : (n : PlainNeutral) → second_of (kept n) ≡ made (kept (snd n))
unfolding second_of
second-kept n = refl

-- the first part, by the parts
unfoldable pub firsts : Answer (PlainObject × PlainObject) → Answer Outcome
firsts a = after a (λ p. made (value p.0))

unfoldable pub seconds : Answer (PlainObject × PlainObject) → Answer Outcome
seconds a = after a (λ p. made (value p.1))

pub first-value : (o : PlainObject) → first_of (value o) ≡ firsts (parts_of o)
unfolding first_of firsts
first-value (pair l r) = refl
first-value (lam m b) = refl
first-value unit = refl
first-value (monadic e) = refl
first-value (atomic n) = refl
first-value hole = refl

pub second-value : (o : PlainObject) → second_of (value o) ≡ seconds (parts_of o)
unfolding second_of seconds
second-value (pair l r) = refl
second-value (lam m b) = refl
second-value unit = refl
second-value (monadic e) = refl
second-value (atomic n) = refl
second-value hole = refl

pub firsts-made : (l r : PlainObject) → firsts (made (l, r)) ≡ made (value l)
unfolding firsts
firsts-made l r = refl

pub firsts-untyped : firsts untyped ≡ untyped
unfolding firsts
firsts-untyped = refl

pub firsts-too_far : firsts too_far ≡ too_far
unfolding firsts
firsts-too_far = refl

pub seconds-made : (l r : PlainObject) → seconds (made (l, r)) ≡ made (value r)
unfolding seconds
seconds-made l r = refl

pub seconds-untyped : seconds untyped ≡ untyped
unfolding seconds
seconds-untyped = refl

pub seconds-too_far : seconds too_far ≡ too_far
unfolding seconds
seconds-too_far = refl

pub ruleset parts_laws = (first-kept, second-kept, first-value, second-value, firsts-made, firsts-untyped, firsts-too_far, seconds-made, seconds-untyped, seconds-too_far)

-- ---- eliminations

-- what a neutral becomes under an argument, by what becomes of the argument
unfoldable pub argued_by : ℕ → Mode → Outcome → Answer PlainObject → Answer Outcome
argued_by k m v a = after a (λ y. argued_of k m v y)

pub eliminated-arg : (k : ℕ) (s : Environment) (m : Mode) (o : PlainObject) (v : Outcome) → eliminated_of k s (arg m o) v ≡ argued_by k m v (object_of k s o)
unfolding eliminated_of argued_by argued_of object_of
eliminated-arg k s m o v = refl

pub eliminated-first : (k : ℕ) (s : Environment) (v : Outcome) → eliminated_of k s first v ≡ first_of v
unfolding eliminated_of first_of
eliminated-first k s (kept n) = refl
eliminated-first k s (value o) = first-same k o
  where
    first-same : (k : ℕ) (o : PlainObject) → first_part (nested k) o ≡ first_part (nested 0) o
    first-same k (lam m b) = refl
    first-same k (pair l r) = refl
    first-same k unit = refl
    first-same k (monadic e) = refl
    first-same k (atomic n) = refl
    first-same k hole = refl

pub eliminated-second : (k : ℕ) (s : Environment) (v : Outcome) → eliminated_of k s second v ≡ second_of v
unfolding eliminated_of second_of
eliminated-second k s (kept n) = refl
eliminated-second k s (value o) = second-same k o
  where
    second-same : (k : ℕ) (o : PlainObject) → second_part (nested k) o ≡ second_part (nested 0) o
    second-same k (lam m b) = refl
    second-same k (pair l r) = refl
    second-same k unit = refl
    second-same k (monadic e) = refl
    second-same k (atomic n) = refl
    second-same k hole = refl

pub argued_by-made : (k : ℕ) (m : Mode) (v : Outcome) (y : PlainObject) → argued_by k m v (made y) ≡ argued_of k m v y
unfolding argued_by
argued_by-made k m v y = refl

pub argued_by-untyped : (k : ℕ) (m : Mode) (v : Outcome) → argued_by k m v untyped ≡ untyped
unfolding argued_by
argued_by-untyped k m v = refl

pub argued_by-too_far : (k : ℕ) (m : Mode) (v : Outcome) → argued_by k m v too_far ≡ too_far
unfolding argued_by
argued_by-too_far k m v = refl

pub ruleset eliminate_laws = (eliminated-arg, eliminated-first, eliminated-second, argued_by-made, argued_by-untyped, argued_by-too_far)

-- an object as what a neutral becomes
unfoldable pub values : Answer PlainObject → Answer Outcome
values a = after a (λ x. made (value x))

pub values-made : (o : PlainObject) → values (made o) ≡ made (value o)
unfolding values
values-made o = refl

pub values-untyped : values untyped ≡ untyped
unfolding values
values-untyped = refl

pub values-too_far : values too_far ≡ too_far
unfolding values
values-too_far = refl

pub argued-kept : (k : ℕ) (m : Mode) (n : PlainNeutral) (y : PlainObject) → argued_of k m (kept n) y ≡ made (kept (app m n y))
unfolding argued_of
argued-kept k m n y = refl

pub argued-value : (k : ℕ) (m : Mode) (o y : PlainObject) → argued_of k m (value o) y ≡ values (applied_of k m o y)
unfolding argued_of applied_of values
argued-value k m o y = refl

pub ruleset apply_laws = (argued-kept, argued-value, values-made, values-untyped, values-too_far)
