-- Inner: the pieces of the function that the code's functions compute, each under a name that stays closed.
use Rattle.std.specs.Prelude.{ℕ, ◌+◌, List, [], ◌∷◌, ◌++◌, length}
use Rattle.clf_syntax.specs.declared.tree.Mode.{Mode}
use Rattle.clf_syntax.specs.declared.tree.Head.{Head}
use Rattle.clf_syntax.specs.Tree.{PlainObject, lam, pair, unit, monadic, atomic, hole, PlainNeutral, PlainExpression, step, PlainElimination}
use Rattle.hered_subst.specs.Substitution.{Image, Environment}
use Rattle.hered_put.specs.Function.{Answer, made, untyped, after, Outcome, value, written, nested, applied, argued, projected_first, projected_second, stepped, Stepped, stays, gives, flattened, run, run_neutral, run_expression, eliminate}

unfoldable pub image_of : Image → Answer Outcome
image_of i = written i

unfoldable pub head_of_environment : Environment → Head → Answer Outcome
head_of_environment s h = written (s h)

unfoldable pub object_of : ℕ → Environment → PlainObject → Answer PlainObject
object_of k s o = run (nested k) s o

unfoldable pub neutral_of : ℕ → Environment → PlainNeutral → Answer Outcome
neutral_of k s n = run_neutral (nested k) s n

unfoldable pub expression_of : ℕ → Environment → PlainExpression → Answer PlainExpression
expression_of k s e = run_expression (nested k) s e

unfoldable pub eliminated_of : ℕ → Environment → PlainElimination → Outcome → Answer Outcome
eliminated_of k s e v = eliminate (nested k) s e v

unfoldable pub argued_of : ℕ → Mode → Outcome → PlainObject → Answer Outcome
argued_of k m v y = argued (nested k) m v y

unfoldable pub applied_of : ℕ → Mode → PlainObject → PlainObject → Answer PlainObject
applied_of k m f y = applied (nested k) m f y

unfoldable pub first_of : Outcome → Answer Outcome
first_of v = projected_first (nested 0) v

unfoldable pub second_of : Outcome → Answer Outcome
second_of v = projected_second (nested 0) v

abbrev pub parts_of : PlainObject → Answer (PlainObject × PlainObject)
parts_of (pair l r) = made (l, r)
parts_of (lam m b) = untyped
parts_of unit = untyped
parts_of (monadic e) = untyped
parts_of (atomic n) = untyped
parts_of hole = untyped

unfoldable pub flattened_of : ℕ → ℕ → PlainExpression → PlainExpression → Answer PlainExpression
flattened_of k n g f = flattened (nested k) 0 n g f

-- ---- lists, whose places are done one after the other

abbrev pub each_of : {X Y : Type 0} → (X → Answer Y) → List X → Answer (List Y)
each_of f [] = made []
each_of f (x ∷ xs) = after (f x) (λ y. after (each_of f xs) (λ ys. made (y ∷ ys)))

-- what was done in front of the rest
unfoldable pub in_front : {Y : Type 0} → List Y → Answer (List Y) → Answer (List Y)
in_front ys a = after a (λ zs. made (ys ++ zs))

unfoldable pub entry_of : ℕ → Environment → Mode × PlainObject → Answer (Mode × PlainObject)
entry_of k s e = after (run (nested k) s e.1) (λ x. made (e.0, x))

unfoldable pub entries_of : ℕ → Environment → List (Mode × PlainObject) → Answer (List (Mode × PlainObject))
entries_of k s es = each_of (entry_of k s) es

-- ---- steps

-- what comes in the place of a step: a step of some modes, or an expression whose tuple is put for so many variables
pub data Coming : Type 0 where
  staying : List Mode → PlainNeutral → Coming
  giving : ℕ → PlainExpression → Coming

abbrev pub coming_by : List Mode → Stepped → Coming
coming_by ms (stays n) = staying ms n
coming_by ms (gives g) = giving (length ms) g

-- by what the right side of a step of these modes becomes
unfoldable pub coming_answer : List Mode → Outcome → Answer Coming
coming_answer ms v = after (stepped v) (λ p. made (coming_by ms p))

unfoldable pub value_answer : List Mode → PlainObject → Answer Coming
value_answer ms o = coming_answer ms (value o)

unfoldable pub neutral_answer : List Mode → PlainNeutral → Answer Coming
neutral_answer ms n = coming_answer ms (value (atomic n))

unfoldable pub step_of : ℕ → Environment → List Mode × PlainNeutral → Answer Coming
step_of k s r = after (run_neutral (nested k) s r.1) (λ v. coming_answer r.0 v)

unfoldable pub join_of : ℕ → Coming → PlainExpression → Answer PlainExpression
join_of k (staying ms n) f = made (step ms n f)
join_of k (giving n g) f = flattened (nested k) 0 n g f

-- the steps in front of the rest, from the last one on
abbrev pub join_all : ℕ → List Coming → Answer PlainExpression → Answer PlainExpression
join_all k [] a = a
join_all k (c ∷ cs) a = after (join_all k cs a) (λ f. join_of k c f)

unfoldable pub joined_of : ℕ → List Coming → PlainExpression → Answer PlainExpression
joined_of k cs f = join_all k cs (made f)

abbrev pub binders_of : List (List Mode × PlainNeutral) → ℕ
binders_of [] = 0
binders_of (s ∷ ss) = length s.0 + binders_of ss
