-- Joined trees, on all four sorts: an equivalence, which each constructor keeps.
use Rattle.std.specs.Prelude.{List}
use Rattle.clf_syntax.specs.declared.tree.Mode.{Mode}
use Rattle.clf_syntax.specs.Tree.{PlainObject, lam, pair, monadic, atomic, PlainNeutral, app, fst, snd, PlainExpression, step, done, PlainTuple, entry}
use Rattle.trace_equal.specs.Exchange.{Joined, JoinedNeutral, JoinedExpression, JoinedTuple}

pub record IsEquivalence (A : Type 0) (X : A → A → Type 0) : Type 0 where
  pub reflexive : (a : A) → X a a
  pub symmetric : (a b : A) → X a b → X b a
  pub transitive : (a b c : A) → X a b → X b c → X a c

pub record JoinedIsEquivalenceOnEachSort : Type 0 where
  pub objects : IsEquivalence PlainObject Joined
  pub neutrals : IsEquivalence PlainNeutral JoinedNeutral
  pub expressions : IsEquivalence PlainExpression JoinedExpression
  pub tuples : IsEquivalence PlainTuple JoinedTuple

-- Trees with joined parts are joined.
pub record JoinedIsCongruence : Type 0 where
  pub lambdas : (m : Mode) (b c : PlainObject) → Joined b c → Joined (lam m b) (lam m c)
  pub pairs : (l k r s : PlainObject) → Joined l k → Joined r s → Joined (pair l r) (pair k s)
  pub monadic_objects : (e f : PlainExpression) → JoinedExpression e f → Joined (monadic e) (monadic f)
  pub atomic_objects : (n r : PlainNeutral) → JoinedNeutral n r → Joined (atomic n) (atomic r)
  pub applications : (m : Mode) (r s : PlainNeutral) (o u : PlainObject) → JoinedNeutral r s → Joined o u → JoinedNeutral (app m r o) (app m s u)
  pub first_projections : (r s : PlainNeutral) → JoinedNeutral r s → JoinedNeutral (fst r) (fst s)
  pub second_projections : (r s : PlainNeutral) → JoinedNeutral r s → JoinedNeutral (snd r) (snd s)
  pub steps : (p : List Mode) (r s : PlainNeutral) (e f : PlainExpression) → JoinedNeutral r s → JoinedExpression e f → JoinedExpression (step p r e) (step p s f)
  pub results : (t u : PlainTuple) → JoinedTuple t u → JoinedExpression (done t) (done u)
  pub entries : (m : Mode) (o u : PlainObject) (t v : PlainTuple) → Joined o u → JoinedTuple t v → JoinedTuple (entry m o t) (entry m u v)
