-- Spines and steps that are gone through from an end.
use Rattle.std.specs.Prelude.{ℕ, zero, suc, ◌+◌, ◌<◌, ◌≤◌, ◌≡◌, length, take, drop, List, [], ◌∷◌, ◌++◌, refl}
use Rattle.std.proofs.Common.{ap, sym, ◌∙◌, arith, get_or}
use Rattle.std.proofs.lemmas.List.{map-append, take_more}
use Rattle.clf_syntax.specs.declared.tree.Elim.{Elim}
use Rattle.clf_syntax.specs.declared.tree.Neutral.{Neutral}
use Rattle.clf_syntax.specs.declared.tree.Step.{Step}
use Rattle.clf_syntax.specs.Tree.{PlainNeutral, head_alone, PlainExpression, step, steps_on, eliminated, spine_on}
use Rattle.hered_put.proofs.SpinePieces.{spine-more}
use Rattle.clf_syntax.specs.Plain.{plain_neutral, plain_elim, plain_step, plain-neutral}
use Rattle.std.proofs.Common.{map}

pub spine-next : (xs : List Elim) (i : ℕ) (x : Elim) (r : PlainNeutral) → i < length xs → x ≡ get_or xs i x
    → spine_on (map plain_elim (take (i + 1) xs)) r ≡ eliminated (plain_elim x) (spine_on (map plain_elim (take i xs)) r)
spine-next xs i x r l e = ap (λ ys. spine_on (map plain_elim ys) r) (take_more xs i x l ∙ ap (λ z. take i xs ++ z ∷ []) (sym e))
    ∙ ap (λ es. spine_on es r) (map-append plain_elim (take i xs) (x ∷ [])) ∙ spine-more (map plain_elim (take i xs)) (plain_elim x) r

-- the front of a spine, and then the rest
pub spine-split : (xs : List Elim) (i : ℕ) (r : PlainNeutral) → spine_on (map plain_elim (drop i xs)) (spine_on (map plain_elim (take i xs)) r) ≡ spine_on (map plain_elim xs) r
spine-split [] zero r = refl
spine-split [] (suc i) r = refl
spine-split (x ∷ xs) zero r = refl
spine-split (x ∷ xs) (suc i) r = spine-split xs i (eliminated (plain_elim x) r)

pub spine-whole : (n : Neutral) (i : ℕ) → length n.spine ≤ i → spine_on (map plain_elim (take i n.spine)) (head_alone n.head) ≡ plain_neutral n
spine-whole n i l = ap (λ ys. spine_on (map plain_elim ys) (head_alone n.head)) (take_all n.spine i l) ∙ sym (plain-neutral n)
  where
    take_all : (xs : List Elim) (i : ℕ) → length xs ≤ i → take i xs ≡ xs
    take_all [] zero l = refl
    take_all [] (suc i) l = refl
    take_all (x ∷ xs) zero l = absurd (omega arith)
    take_all (x ∷ xs) (suc i) l = ap (λ ys. x ∷ ys) (take_all xs i (omega arith))

pub steps-none : (xs : List Step) (i : ℕ) (e : PlainExpression) → length xs ≤ i → steps_on (map plain_step (drop i xs)) e ≡ e
steps-none [] zero e l = refl
steps-none [] (suc i) e l = refl
steps-none (x ∷ xs) zero e l = absurd (omega arith)
steps-none (x ∷ xs) (suc i) e l = steps-none xs i e (omega arith)

-- the front of some steps, and then the rest
pub steps-split : (xs : List Step) (i : ℕ) (e : PlainExpression) → steps_on (map plain_step (take i xs)) (steps_on (map plain_step (drop i xs)) e) ≡ steps_on (map plain_step xs) e
steps-split [] zero e = refl
steps-split [] (suc i) e = refl
steps-split (x ∷ xs) zero e = refl
steps-split (x ∷ xs) (suc i) e = ap (step (plain_step x).0 (plain_step x).1) (steps-split xs i e)
