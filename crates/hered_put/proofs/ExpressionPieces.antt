-- What becomes of an expression: its steps from the last to the first, and its tuple.
use Rattle.std.specs.Prelude.{ℕ, ◌+◌, ◌≡◌, Bool, true, false, List, [], ◌∷◌, ◌++◌, map, length, refl}
use Rattle.std.proofs.Common.{ap, ◌∙◌, arith, ◌<◌, ◌≤◌, drop, get_or}
use Rattle.std.proofs.lemmas.List.{map-append, reverse-append, reverse-reverse}
use Rattle.std.proofs.lemmas.Grind.{common_steps}
use Rattle.clf_syntax.specs.declared.tree.Mode.{Mode}
use Rattle.clf_syntax.specs.declared.tree.TupleEntry.{TupleEntry}
use Rattle.clf_syntax.specs.Tree.{PlainObject, lam, pair, unit, monadic, atomic, hole, PlainNeutral, PlainExpression, step, done, entry, steps_on, tuple_of, head_of}
use Rattle.clf_syntax.specs.declared.tree.Step.{Step}
use Rattle.clf_syntax.specs.Plain.{plain_step, plain_entry, plain-step-modes}
use Rattle.hered_subst.specs.TypedEnvironments.{is_metavariable}
use Rattle.clf_syntax.proofs.Next.{dropped}
use Rattle.hered_subst.specs.Substitution.{Environment, under}
use Rattle.hered_put.specs.Function.{Answer, made, untyped, too_far, after, Outcome, kept, value, nested, stepped, stays_if, combined, run, run_neutral, run_expression, run_tuple}
use Rattle.hered_put.specs.Pieces.{expression_of, entry_of, entries_of, coming_by, coming_answer, step_of, join_of}
use Rattle.hered_put.proofs.StepPieces.{join_all-untyped, join_all-too_far, join_next, join_next-untyped, join_next-too_far, join_next-made}

-- ---- what stands after steps

pub steps-behind : (xs ys : List (List Mode × PlainNeutral)) (e : PlainExpression) → steps_on (xs ++ ys) e ≡ steps_on xs (steps_on ys e)
steps-behind [] ys e = refl
steps-behind (x ∷ xs) ys e = ap (step x.0 x.1) (steps-behind xs ys e)

pub ruleset rest_laws = (reverse-reverse, reverse-append, map-append, steps-behind)

combined-by : (k : ℕ) (ms : List Mode) (v : Outcome) (b : Answer PlainExpression) → after (stepped v) (λ p. combined (nested k) ms p b) ≡ join_next k (coming_answer ms v) b
unfolding join_next coming_answer join_of
combined-by k ms (kept n) b = refl
combined-by k ms (value (lam m o)) b = refl
combined-by k ms (value (pair l r)) b = refl
combined-by k ms (value unit) b = refl
combined-by k ms (value (monadic g)) b = refl
combined-by k ms (value (atomic n)) b = by_head (is_metavariable (head_of n))
  where
    by_head : (t : Bool) → after (stays_if t n) (λ p. combined (nested k) ms p b) ≡ after (after (stays_if t n) (λ p. made (coming_by ms p))) (λ c. after b (λ f. join_of k c f))
    by_head true = refl
    by_head false = refl
combined-by k ms (value hole) b = refl

pub expression-step : (k : ℕ) (s : Environment) (ms : List Mode) (r : PlainNeutral) (e : PlainExpression) → expression_of k s (step ms r e) ≡ join_next k (step_of k s (ms, r)) (expression_of k (under (length ms) s) e)
unfolding expression_of step_of join_next
expression-step k s ms r e = by_neutral (run_neutral (nested k) s r)
  where
    by_neutral : (a : Answer Outcome) → after a (λ v. after (stepped v) (λ p. combined (nested k) ms p (run_expression (nested k) (under (length ms) s) e)))
        ≡ after (after a (λ v. coming_answer ms v)) (λ c. after (run_expression (nested k) (under (length ms) s) e) (λ f. join_of k c f))
    by_neutral (made v) = combined-by k ms v (run_expression (nested k) (under (length ms) s) e)
    by_neutral untyped = refl
    by_neutral too_far = refl

-- an expression without steps
unfoldable pub dones : Answer (List (Mode × PlainObject)) → Answer PlainExpression
dones a = after a (λ es. made (done (tuple_of es)))

pub dones-made : (es : List (Mode × PlainObject)) → dones (made es) ≡ made (done (tuple_of es))
unfolding dones
dones-made es = refl

pub dones-untyped : dones untyped ≡ untyped
unfolding dones
dones-untyped = refl

pub dones-too_far : dones too_far ≡ too_far
unfolding dones
dones-too_far = refl

tuple-each : (k : ℕ) (s : Environment) (es : List (Mode × PlainObject)) → run_tuple (nested k) s (tuple_of es) ≡ after (entries_of k s es) (λ xs. made (tuple_of xs))
unfolding entries_of entry_of
tuple-each k s [] = refl
tuple-each k s (e ∷ es) = ap (λ a. after (run (nested k) s e.1) (λ x. after a (λ u. made (entry e.0 x u)))) (tuple-each k s es) ∙ by_object (run (nested k) s e.1) (entries_of k s es)
  where
    by_object : (a : Answer PlainObject) (b : Answer (List (Mode × PlainObject)))
        → after a (λ x. after (after b (λ xs. made (tuple_of xs))) (λ u. made (entry e.0 x u)))
        ≡ after (after (after a (λ x. made (e.0, x))) (λ y. after b (λ ys. made (y ∷ ys)))) (λ xs. made (tuple_of xs))
    by_object (made x) (made ys) = refl
    by_object (made x) untyped = refl
    by_object (made x) too_far = refl
    by_object untyped b = refl
    by_object too_far b = refl

pub expression-done : (k : ℕ) (s : Environment) (es : List (Mode × PlainObject)) → expression_of k s (done (tuple_of es)) ≡ dones (entries_of k s es)
unfolding expression_of dones
expression-done k s es = ap (λ a. after a (λ u. made (done u))) (tuple-each k s es) ∙ by_entries (entries_of k s es)
  where
    by_entries : (a : Answer (List (Mode × PlainObject))) → after (after a (λ xs. made (tuple_of xs))) (λ u. made (done u)) ≡ after a (λ xs. made (done (tuple_of xs)))
    by_entries (made xs) = refl
    by_entries untyped = refl
    by_entries too_far = refl

-- ---- the loop over the steps of an expression

pub steps-next : (k : ℕ) (s : Environment) (i : ℕ) (x : Step) (xs : List Step) (r : PlainExpression) → i < length xs → x ≡ get_or xs i x
    → expression_of k s (steps_on (map plain_step (drop i xs)) r) ≡ join_next k (step_of k s (plain_step x)) (expression_of k (under (length x.modes) s) (steps_on (map plain_step (drop (i + 1) xs)) r))
steps-next k s i x xs r h e =
    ap (λ ss. expression_of k s (steps_on (map plain_step ss) r)) (dropped xs i x h e)
    ∙ expression-step k s (plain_step x).0 (plain_step x).1 (steps_on (map plain_step (drop (i + 1) xs)) r)
    ∙ ap (λ ms. join_next k (step_of k s (plain_step x)) (expression_of k (under (length ms) s) (steps_on (map plain_step (drop (i + 1) xs)) r))) (plain-step-modes x)

pub steps-ended : (k : ℕ) (s : Environment) (i : ℕ) (xs : List Step) (ts : List TupleEntry) → length xs ≤ i
    → expression_of k s (steps_on (map plain_step (drop i xs)) (done (tuple_of (map plain_entry ts)))) ≡ dones (entries_of k s (map plain_entry ts))
steps-ended k s i xs ts h =
    let none : drop i xs ≡ [] = grind (arith, common_steps) in
    rw none (expression-done k s (map plain_entry ts))

pub ruleset expression_laws = (map-append, steps-next, steps-ended, join_next-untyped, join_next-too_far, join_next-made, join_all-untyped, join_all-too_far, dones-made, dones-untyped, dones-too_far)
