-- Exchange of independent steps, and the trees that are joined by exchanges.
-- The report CMU-CS-02-101 takes expressions as equal where they differ by the order of independent steps
-- (its section on the equality of expressions). Here the equality is a chain of single exchanges.
use Rattle.std.specs.Prelude.{◌≡◌, List, [], ◌∷◌, length}
use Rattle.clf_syntax.specs.declared.tree.Mode.{Mode}
use Rattle.clf_syntax.specs.Tree.{PlainObject, lam, pair, monadic, atomic, PlainNeutral, app, fst, snd, PlainExpression, step, done, PlainTuple, entry}
use Rattle.clf_syntax.specs.Renaming.{ren_neutral, ren_expression, up, crossed}

mutual
  -- At one place of the tree two neighbouring steps change places, the second of which mentions no variable of the first. All else stays.
  pub data Exchanged : PlainObject → PlainObject → Type 0 where
    in_lam : {m : Mode} {b c : PlainObject} → Exchanged b c → Exchanged (lam m b) (lam m c)
    in_left : {l k r : PlainObject} → Exchanged l k → Exchanged (pair l r) (pair k r)
    in_right : {l r s : PlainObject} → Exchanged r s → Exchanged (pair l r) (pair l s)
    in_monadic : {e f : PlainExpression} → ExchangedExpression e f → Exchanged (monadic e) (monadic f)
    in_atomic : {n o : PlainNeutral} → ExchangedNeutral n o → Exchanged (atomic n) (atomic o)

  pub data ExchangedNeutral : PlainNeutral → PlainNeutral → Type 0 where
    in_function : {m : Mode} {r s : PlainNeutral} {o : PlainObject} → ExchangedNeutral r s → ExchangedNeutral (app m r o) (app m s o)
    in_argument : {m : Mode} {r : PlainNeutral} {o u : PlainObject} → Exchanged o u → ExchangedNeutral (app m r o) (app m r u)
    in_fst : {r s : PlainNeutral} → ExchangedNeutral r s → ExchangedNeutral (fst r) (fst s)
    in_snd : {r s : PlainNeutral} → ExchangedNeutral r s → ExchangedNeutral (snd r) (snd s)

  pub data ExchangedExpression : PlainExpression → PlainExpression → Type 0 where
    in_right_side : {p : List Mode} {r s : PlainNeutral} {e : PlainExpression} → ExchangedNeutral r s → ExchangedExpression (step p r e) (step p s e)
    in_later_steps : {p : List Mode} {r : PlainNeutral} {e f : PlainExpression} → ExchangedExpression e f → ExchangedExpression (step p r e) (step p r f)
    in_done : {t u : PlainTuple} → ExchangedTuple t u → ExchangedExpression (done t) (done u)
    -- `let {p} = r in let {q} = w in e` becomes `let {q} = v in let {p} = s in f`.
    -- That w mentions no variable of p is said so: it is some v, renumbered past p. Then s is r past q,
    -- and in e the two blocks of variables change places.
    exchange : {p q : List Mode} {r s v w : PlainNeutral} {e f : PlainExpression}
        → w ≡ ren_neutral (up (length p)) v
        → s ≡ ren_neutral (up (length q)) r
        → f ≡ ren_expression (crossed (length p) (length q)) e
        → ExchangedExpression (step p r (step q w e)) (step q v (step p s f))

  pub data ExchangedTuple : PlainTuple → PlainTuple → Type 0 where
    in_entry : {m : Mode} {o u : PlainObject} {t : PlainTuple} → Exchanged o u → ExchangedTuple (entry m o t) (entry m u t)
    in_later_entry : {m : Mode} {o : PlainObject} {t u : PlainTuple} → ExchangedTuple t u → ExchangedTuple (entry m o t) (entry m o u)

-- The right side of the second of two neighbouring steps mentions no variable of the first: it is some neutral, renumbered past them.
abbrev pub IsIndependent : List Mode × PlainNeutral → List Mode × PlainNeutral → Type 0
IsIndependent first second = (v : PlainNeutral) × (second.1 ≡ ren_neutral (up (length first.0)) v)

-- A list of trees from the first to the second in which each is the one before after one step of X; the list may have one tree.
pub data Chain (A : Type 0) (X : A → A → Type 0) : A → A → Type 0 where
  stop : {a : A} → Chain A X a a
  next : {a b c : A} → X a b → Chain A X b c → Chain A X a c

-- Joined: exchanges lead from one tree to the other.
-- An exchange asks which variables are mentioned, and not which are used: `<>` uses what it does not mention. So it need not keep types.
-- With c of type {a} and k of type <T> -o {b}, `let {x} = c in let {y} = k <> in y` has the result {b}, where <> uses x, and its exchange
-- `let {y} = k <> in let {x} = c in y` has none, since there nothing uses x. Trees that are joined and typed are both typed.
abbrev pub Joined : PlainObject → PlainObject → Type 0
Joined o u = Chain PlainObject Exchanged o u

abbrev pub JoinedNeutral : PlainNeutral → PlainNeutral → Type 0
JoinedNeutral n r = Chain PlainNeutral ExchangedNeutral n r

abbrev pub JoinedExpression : PlainExpression → PlainExpression → Type 0
JoinedExpression e f = Chain PlainExpression ExchangedExpression e f

abbrev pub JoinedTuple : PlainTuple → PlainTuple → Type 0
JoinedTuple t u = Chain PlainTuple ExchangedTuple t u

-- Lists of objects are joined place by place.
abbrev pub JoinedEach : List PlainObject → List PlainObject → Type 0
JoinedEach [] [] = Unit {0}
JoinedEach (o ∷ os) (u ∷ us) = Joined o u × JoinedEach os us
JoinedEach [] (u ∷ us) = ⊥
JoinedEach (o ∷ os) [] = ⊥
