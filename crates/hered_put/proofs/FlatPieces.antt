-- The steps of a value in front of the rest, with the entries of its tuple for the variables that the step bound.
use Rattle.std.specs.Prelude.{ℕ, suc, ◌+◌, ◌≡◌, ◌==◌, Bool, true, false, if◌then◌else◌, List, [], ◌∷◌, map, length, refl}
use Rattle.std.proofs.Common.{ap, sym, ◌∙◌, arith, add-one}
use Rattle.std.proofs.lemmas.Bool.{eq-eqb, eqb-true}
use Rattle.clf_syntax.specs.declared.tree.Mode.{Mode}
use Rattle.clf_syntax.specs.Tree.{PlainNeutral, PlainExpression, step, done, PlainTuple, steps_on, tuple_of}
use Rattle.clf_syntax.specs.declared.tree.Expr.{Expr, out-Expr}
use Rattle.clf_syntax.specs.Plain.{plain_step, plain_entry, plain_expr, plain-expr}
use Rattle.hered_subst.specs.Substitution.{Environment, objects}
use Rattle.hered_put.specs.Function.{Answer, made, untyped, too_far, after, nested, flattened}
use Rattle.hered_put.specs.Tupled.{tupled}
use Rattle.hered_put.proofs.Environments.{tuple-length}
use Rattle.hered_put.specs.Pieces.{expression_of, flattened_of, binders_of}

-- ---- the steps of a value in front of the rest

pub flattened-steps : (k p n : ℕ) (ss : List (List Mode × PlainNeutral)) (t : PlainTuple) (f : PlainExpression)
    → flattened (nested k) p n (steps_on ss (done t)) f ≡ after (flattened (nested k) (p + binders_of ss) n (done t) f) (λ h. made (steps_on ss h))
flattened-steps k p n [] t f = ap (λ j. flattened (nested k) j n (done t) f) (none p) ∙ itself (flattened (nested k) (p + 0) n (done t) f)
  where
    none : (p : ℕ) → p ≡ p + 0
    none p = omega arith

    itself : (a : Answer PlainExpression) → a ≡ after a (λ h. made h)
    itself (made h) = refl
    itself untyped = refl
    itself too_far = refl
flattened-steps k p n (s ∷ ss) t f =
    ap (λ a. after a (λ h. made (step s.0 s.1 h))) (flattened-steps k (p + length s.0) n ss t f ∙ ap (λ j. after (flattened (nested k) j n (done t) f) (λ h. made (steps_on ss h))) (further p (length s.0) (binders_of ss)))
    ∙ twice (flattened (nested k) (p + (length s.0 + binders_of ss)) n (done t) f)
  where
    further : (p m b : ℕ) → p + m + b ≡ p + (m + b)
    further p m b = omega arith

    twice : (a : Answer PlainExpression) → after (after a (λ h. made (steps_on ss h))) (λ h. made (step s.0 s.1 h)) ≡ after a (λ h. made (step s.0 s.1 (steps_on ss h)))
    twice (made h) = refl
    twice untyped = refl
    twice too_far = refl

-- the steps of a value in front of what its tuple was put into
unfoldable pub steps_before : List (List Mode × PlainNeutral) → Answer PlainExpression → Answer PlainExpression
steps_before ss a = after a (λ h. made (steps_on ss h))

pub steps_before-made : (ss : List (List Mode × PlainNeutral)) (h : PlainExpression) → steps_before ss (made h) ≡ made (steps_on ss h)
unfolding steps_before
steps_before-made ss h = refl

pub steps_before-untyped : (ss : List (List Mode × PlainNeutral)) → steps_before ss untyped ≡ untyped
unfolding steps_before
steps_before-untyped ss = refl

pub steps_before-too_far : (ss : List (List Mode × PlainNeutral)) → steps_before ss too_far ≡ too_far
unfolding steps_before
steps_before-too_far ss = refl

-- what the tuple of a value does, by whether it has as many entries as are bound
abbrev pub flat_if : ℕ → Bool → PlainTuple → ℕ → PlainExpression → Answer PlainExpression
flat_if k b t p f = if b then (nested k).expression (tupled (objects t) p) f else untyped

flattened-at : (k n : ℕ) (e : Expr) (f : PlainExpression) (b : Bool) → (length (objects (tuple_of (map plain_entry (out-Expr e).result))) == n) ≡ b
    → flattened_of k n (plain_expr e) f ≡ after (flat_if k b (tuple_of (map plain_entry (out-Expr e).result)) (0 + binders_of (map plain_step (out-Expr e).steps)) f) (λ h. made (steps_on (map plain_step (out-Expr e).steps) h))
unfolding flattened_of
flattened-at k n e f b q =
    ap (λ x. flattened (nested k) 0 n x f) (plain-expr e)
    ∙ flattened-steps k 0 n (map plain_step (out-Expr e).steps) (tuple_of (map plain_entry (out-Expr e).result)) f
    ∙ ap (λ t. after (flat_if k t (tuple_of (map plain_entry (out-Expr e).result)) (0 + binders_of (map plain_step (out-Expr e).steps)) f) (λ h. made (steps_on (map plain_step (out-Expr e).steps) h))) q

nothing-there : (s : Environment) (f : PlainExpression) (ss : List (List Mode × PlainNeutral)) → after ((nested 0).expression s f) (λ x. made (steps_on ss x)) ≡ untyped
unfolding nested
nothing-there s f ss = refl

one-less : (j : ℕ) (s : Environment) (f : PlainExpression) (ss : List (List Mode × PlainNeutral)) → after ((nested (suc j)).expression s f) (λ x. made (steps_on ss x)) ≡ steps_before ss (expression_of j s f)
unfolding nested steps_before expression_of
one-less j s f ss = refl

pub not_true : (b : Bool) → (b ≡ true → ⊥) → b ≡ false
not_true true h = absurd (h refl)
not_true false h = refl

-- a tuple of another length than the pattern
pub flattened-other : (k n : ℕ) (e : Expr) (f : PlainExpression) → (length (out-Expr e).result ≡ n → ⊥) → flattened_of k n (plain_expr e) f ≡ untyped
flattened-other k n e f h = flattened-at k n e f false (not_true (length (objects (tuple_of (map plain_entry (out-Expr e).result))) == n) (λ q. h (sym (tuple-length (out-Expr e).result) ∙ eqb-true (length (objects (tuple_of (map plain_entry (out-Expr e).result)))) n q)))

-- where nothing may nest
pub flattened-none : (k n : ℕ) (e : Expr) (f : PlainExpression) → k ≡ 0 → length (out-Expr e).result ≡ n → flattened_of k n (plain_expr e) f ≡ untyped
flattened-none k n e f z h = flattened-at k n e f true (eq-eqb (length (objects (tuple_of (map plain_entry (out-Expr e).result)))) n (tuple-length (out-Expr e).result ∙ h)) ∙ ap (λ j. after (flat_if j true (tuple_of (map plain_entry (out-Expr e).result)) (0 + binders_of (map plain_step (out-Expr e).steps)) f) (λ x. made (steps_on (map plain_step (out-Expr e).steps) x))) z ∙ nowhere
  where
    nowhere : after (flat_if 0 true (tuple_of (map plain_entry (out-Expr e).result)) (0 + binders_of (map plain_step (out-Expr e).steps)) f) (λ x. made (steps_on (map plain_step (out-Expr e).steps) x)) ≡ untyped
    nowhere = nothing-there (tupled (objects (tuple_of (map plain_entry (out-Expr e).result))) (0 + binders_of (map plain_step (out-Expr e).steps))) f (map plain_step (out-Expr e).steps)

-- where one less may nest
pub flattened-nested : (k j n : ℕ) (e : Expr) (f : PlainExpression) → k ≡ j + 1 → length (out-Expr e).result ≡ n
    → flattened_of k n (plain_expr e) f ≡ steps_before (map plain_step (out-Expr e).steps) (expression_of j (tupled (objects (tuple_of (map plain_entry (out-Expr e).result))) (binders_of (map plain_step (out-Expr e).steps))) f)
flattened-nested k j n e f z h = flattened-at k n e f true (eq-eqb (length (objects (tuple_of (map plain_entry (out-Expr e).result)))) n (tuple-length (out-Expr e).result ∙ h))
    ∙ ap (λ i. after (flat_if i true (tuple_of (map plain_entry (out-Expr e).result)) (0 + binders_of (map plain_step (out-Expr e).steps)) f) (λ x. made (steps_on (map plain_step (out-Expr e).steps) x))) (z ∙ add-one j)
    ∙ ap (λ p. after (flat_if (suc j) true (tuple_of (map plain_entry (out-Expr e).result)) p f) (λ x. made (steps_on (map plain_step (out-Expr e).steps) x))) (none (binders_of (map plain_step (out-Expr e).steps)))
    ∙ one-less j (tupled (objects (tuple_of (map plain_entry (out-Expr e).result))) (binders_of (map plain_step (out-Expr e).steps))) f (map plain_step (out-Expr e).steps)
  where
    none : (b : ℕ) → 0 + b ≡ b
    none b = omega arith

pub flattened-in : (k j n : ℕ) (e : Expr) (f : PlainExpression) (s : Environment) → k ≡ j + 1 → length (out-Expr e).result ≡ n
    → s ≡ tupled (objects (tuple_of (map plain_entry (out-Expr e).result))) (binders_of (map plain_step (out-Expr e).steps))
    → flattened_of k n (plain_expr e) f ≡ steps_before (map plain_step (out-Expr e).steps) (expression_of j s f)
flattened-in k j n e f s z h q = flattened-nested k j n e f z h ∙ ap (λ t. steps_before (map plain_step (out-Expr e).steps) (expression_of j t f)) (sym q)

pub ruleset flat_laws = (flattened-other, flattened-none, flattened-nested, steps_before-made, steps_before-untyped, steps_before-too_far)
