-- Joined is an equivalence on each sort, which each constructor keeps.
use Rattle.clf_syntax.specs.Tree.{PlainObject, lam, pair, monadic, atomic, PlainNeutral, app, fst, snd, PlainExpression, step, done, PlainTuple, entry}
use Rattle.trace_equal.specs.Exchange.{Exchanged, in_lam, in_left, in_right, in_monadic, in_atomic, ExchangedNeutral, in_function, in_argument, in_fst, in_snd, ExchangedExpression, in_right_side, in_later_steps, in_done, ExchangedTuple, in_entry, in_later_entry, Chain, stop, next}
use Rattle.trace_equal.proofs.Closed.{trail, carried}
use Rattle.trace_equal.proofs.Joined.{undone, undone_neutral, undone_expression, undone_tuple}
use Rattle.typing_laws.specs.Congruence.{IsEquivalence, JoinedIsEquivalenceOnEachSort, JoinedIsCongruence}

backward : {A : Type 0} {X : A → A → Type 0} → ((a b : A) → X a b → X b a) → {a b c : A} → Chain A X a b → Chain A X a c → Chain A X b c
backward f stop q = q
backward f (next x p) q = backward f p (next (f _ _ x) q)

chains : (A : Type 0) (X : A → A → Type 0) → ((a b : A) → X a b → X b a) → IsEquivalence A (Chain A X)
chains A X f = record { reflexive = λ a. stop; symmetric = λ a b p. backward f p stop; transitive = λ a b c p q. trail p q }

pub joined_is_equivalence_on_each_sort : JoinedIsEquivalenceOnEachSort
joined_is_equivalence_on_each_sort = record {
  objects = chains PlainObject Exchanged (λ a b x. undone x);
  neutrals = chains PlainNeutral ExchangedNeutral (λ a b x. undone_neutral x);
  expressions = chains PlainExpression ExchangedExpression (λ a b x. undone_expression x);
  tuples = chains PlainTuple ExchangedTuple (λ a b x. undone_tuple x);
}

pub joined_is_congruence : JoinedIsCongruence
joined_is_congruence = record {
  lambdas = λ m b c p. carried (lam m) (λ x y e. in_lam e) p;
  pairs = λ l k r s p q. trail (carried (λ x. pair x r) (λ x y e. in_left e) p) (carried (pair k) (λ x y e. in_right e) q);
  monadic_objects = λ e f p. carried monadic (λ x y k. in_monadic k) p;
  atomic_objects = λ n r p. carried atomic (λ x y e. in_atomic e) p;
  applications = λ m r s o u p q. trail (carried (λ x. app m x o) (λ x y e. in_function e) p) (carried (app m s) (λ x y e. in_argument e) q);
  first_projections = λ r s p. carried fst (λ x y e. in_fst e) p;
  second_projections = λ r s p. carried snd (λ x y e. in_snd e) p;
  steps = λ ms r s e f p q. trail (carried (λ x. step ms x e) (λ x y k. in_right_side k) p) (carried (step ms s) (λ x y k. in_later_steps k) q);
  results = λ t u p. carried done (λ x y e. in_done e) p;
  entries = λ m o u t v p q. trail (carried (λ x. entry m x t) (λ x y e. in_entry e) p) (carried (entry m u) (λ x y e. in_later_entry e) q);
}
