-- Hereditary substitution as a function on plain trees. How deep what is put may nest is bounded by a number, the rank of a simple type.
use Rattle.std.specs.Prelude.{ℕ, zero, suc, ◌+◌, ◌==◌, Bool, true, false, if◌then◌else◌, List, [], ◌∷◌, length}
use Rattle.clf_syntax.specs.declared.tree.Mode.{Mode}
use Rattle.clf_syntax.specs.Modes.{same_mode}
use Rattle.clf_syntax.specs.Tree.{PlainObject, lam, pair, unit, monadic, atomic, hole, PlainNeutral, head_alone, app, fst, snd, PlainExpression, step, done, PlainTuple, empty, entry, PlainElimination, arg, first, second, head_of}
use Rattle.clf_syntax.specs.TypeTree.{PlainType, family, function, both, top, monad, PlainTelescope, end, binding, PlainKind}
use Rattle.clf_syntax.specs.Written.{fits, fits_head}
use Rattle.hered_subst.specs.Substitution.{Image, keep, put, Environment, under, single, objects}
use Rattle.hered_subst.specs.TypedEnvironments.{is_metavariable}
use Rattle.hered_put.specs.Tupled.{tupled}

pub data Answer (X : Type 0) : Type 0 where
  made : X → Answer X
  untyped : Answer X
  too_far : Answer X

abbrev pub after : {X Y : Type 0} → Answer X → (X → Answer Y) → Answer Y
after (made x) f = f x
after untyped f = untyped
after too_far f = too_far

-- what a neutral becomes: its head is kept, or it has a value
pub data Outcome : Type 0 where
  kept : PlainNeutral → Outcome
  value : PlainObject → Outcome

abbrev pub as_object : Outcome → PlainObject
as_object (kept n) = atomic n
as_object (value o) = o

-- what stands for a head, where its numbers can be written
abbrev pub written : Image → Answer Outcome
written (keep h) = if fits_head h then made (kept (head_alone h)) else too_far
written (put n) = if fits n then made (value n) else too_far

-- what stands for a head
abbrev pub standing : Image → Outcome
standing (keep h) = kept (head_alone h)
standing (put n) = value n

-- the same, whatever its numbers are
abbrev pub free : Image → Answer Outcome
free i = made (standing i)

-- substitution in objects and in expressions
pub record Again : Type 0 where
  pub object : Environment → PlainObject → Answer PlainObject
  pub expression : Environment → PlainExpression → Answer PlainExpression

-- what stays of a step, or the expression whose steps come in its place
pub data Stepped : Type 0 where
  stays : PlainNeutral → Stepped
  gives : PlainExpression → Stepped

abbrev pub stays_if : Bool → PlainNeutral → Answer Stepped
stays_if true n = made (stays n)
stays_if false n = untyped

abbrev pub stepped : Outcome → Answer Stepped
stepped (kept n) = made (stays n)
stepped (value (monadic g)) = made (gives g)
stepped (value (atomic n)) = stays_if (is_metavariable (head_of n)) n
stepped (value (lam m b)) = untyped
stepped (value (pair l r)) = untyped
stepped (value unit) = untyped
stepped (value hole) = untyped

module _ (again : Again) where
  -- a value under an argument
  abbrev pub applied : Mode → PlainObject → PlainObject → Answer PlainObject
  applied m (lam k b) y = if same_mode m k then again.object (single y 0) b else untyped
  applied m (pair l r) y = untyped
  applied m unit y = untyped
  applied m (monadic e) y = untyped
  applied m (atomic n) y = untyped
  applied m hole y = untyped

  abbrev pub first_part : PlainObject → Answer Outcome
  first_part (pair l r) = made (value l)
  first_part (lam m b) = untyped
  first_part unit = untyped
  first_part (monadic e) = untyped
  first_part (atomic n) = untyped
  first_part hole = untyped

  abbrev pub second_part : PlainObject → Answer Outcome
  second_part (pair l r) = made (value r)
  second_part (lam m b) = untyped
  second_part unit = untyped
  second_part (monadic e) = untyped
  second_part (atomic n) = untyped
  second_part hole = untyped

  abbrev pub argued : Mode → Outcome → PlainObject → Answer Outcome
  argued m (kept n) y = made (kept (app m n y))
  argued m (value o) y = after (applied m o y) (λ x. made (value x))

  abbrev pub projected_first : Outcome → Answer Outcome
  projected_first (kept n) = made (kept (fst n))
  projected_first (value o) = first_part o

  abbrev pub projected_second : Outcome → Answer Outcome
  projected_second (kept n) = made (kept (snd n))
  projected_second (value o) = second_part o

  -- the steps of an expression, and then another with its tuple put for the newest variables; `raised` binders stand around so far
  abbrev pub flattened : ℕ → ℕ → PlainExpression → PlainExpression → Answer PlainExpression
  flattened raised n (step ms r g) f = after (flattened (raised + length ms) n g f) (λ h. made (step ms r h))
  flattened raised n (done t) f = if length (objects t) == n then again.expression (tupled (objects t) raised) f else untyped

  abbrev pub combined : List Mode → Stepped → Answer PlainExpression → Answer PlainExpression
  combined ms (stays n) rest = after rest (λ f. made (step ms n f))
  combined ms (gives g) rest = after rest (λ f. flattened 0 (length ms) g f)

-- Substitution, where `write` says what stands for a head.
module _ (write : Image → Answer Outcome) (again : Again) where
  abbrev mutual
    pub run_by : Environment → PlainObject → Answer PlainObject
    run_by s (lam m b) = after (run_by (under 1 s) b) (λ x. made (lam m x))
    run_by s (pair l r) = after (run_by s l) (λ x. after (run_by s r) (λ y. made (pair x y)))
    run_by s unit = made unit
    run_by s (monadic e) = after (run_expression_by s e) (λ f. made (monadic f))
    run_by s (atomic n) = after (run_neutral_by s n) (λ v. made (as_object v))
    run_by s hole = made hole

    pub run_neutral_by : Environment → PlainNeutral → Answer Outcome
    run_neutral_by s (head_alone h) = write (s h)
    run_neutral_by s (app m r o) = after (run_neutral_by s r) (λ v. after (run_by s o) (λ y. argued again m v y))
    run_neutral_by s (fst r) = after (run_neutral_by s r) (λ v. projected_first again v)
    run_neutral_by s (snd r) = after (run_neutral_by s r) (λ v. projected_second again v)

    pub run_expression_by : Environment → PlainExpression → Answer PlainExpression
    run_expression_by s (step ms r e) = after (run_neutral_by s r) (λ v. after (stepped v) (λ p. combined again ms p (run_expression_by (under (length ms) s) e)))
    run_expression_by s (done t) = after (run_tuple_by s t) (λ u. made (done u))

    pub run_tuple_by : Environment → PlainTuple → Answer PlainTuple
    run_tuple_by s empty = made empty
    run_tuple_by s (entry m o t) = after (run_by s o) (λ x. after (run_tuple_by s t) (λ u. made (entry m x u)))

-- what is written has to fit
module _ (again : Again) where
  abbrev pub run : Environment → PlainObject → Answer PlainObject
  run s o = run_by written again s o

  abbrev pub run_neutral : Environment → PlainNeutral → Answer Outcome
  run_neutral s n = run_neutral_by written again s n

  abbrev pub run_expression : Environment → PlainExpression → Answer PlainExpression
  run_expression s e = run_expression_by written again s e

  abbrev pub run_tuple : Environment → PlainTuple → Answer PlainTuple
  run_tuple s t = run_tuple_by written again s t

  -- one elimination of a spine
  abbrev pub eliminate : Environment → PlainElimination → Outcome → Answer Outcome
  eliminate s (arg m o) v = after (run s o) (λ y. argued again m v y)
  eliminate s first v = projected_first again v
  eliminate s second v = projected_second again v

-- where nothing may nest, nothing is put
abbrev pub nothing : Again
nothing = record { object = λ s o. untyped; expression = λ s e. untyped }

-- what is put may nest so deep
unfoldable pub nested : ℕ → Again
nested zero = nothing
nested (suc k) = record { object = λ s o. run (nested k) s o; expression = λ s e. run_expression (nested k) s e }

-- So it is where what is written need not fit.
unfoldable pub nested_freely : ℕ → Again
nested_freely zero = nothing
nested_freely (suc k) = record { object = λ s o. run_by free (nested_freely k) s o; expression = λ s e. run_expression_by free (nested_freely k) s e }

-- ---- types

module _ (write : Image → Answer Outcome) (again : Again) where
  abbrev pub run_each_by : Environment → List PlainObject → Answer (List PlainObject)
  run_each_by s [] = made []
  run_each_by s (n ∷ ns) = after (run_by write again s n) (λ x. after (run_each_by s ns) (λ xs. made (x ∷ xs)))

  abbrev mutual
    pub run_type_by : Environment → PlainType → Answer PlainType
    run_type_by s (family f ns) = after (run_each_by s ns) (λ xs. made (family f xs))
    run_type_by s (function m a b) = after (run_type_by s a) (λ x. after (run_type_by (under 1 s) b) (λ y. made (function m x y)))
    run_type_by s (both a b) = after (run_type_by s a) (λ x. after (run_type_by s b) (λ y. made (both x y)))
    run_type_by s top = made top
    run_type_by s (monad t) = after (run_telescope_by s t) (λ u. made (monad u))

    pub run_telescope_by : Environment → PlainTelescope → Answer PlainTelescope
    run_telescope_by s end = made end
    run_telescope_by s (binding m a t) = after (run_type_by s a) (λ x. after (run_telescope_by (under 1 s) t) (λ u. made (binding m x u)))

  abbrev pub run_kind_by : Environment → PlainKind → Answer PlainKind
  run_kind_by s [] = made []
  run_kind_by s (a ∷ k) = after (run_type_by s a) (λ x. after (run_kind_by (under 1 s) k) (λ l. made (x ∷ l)))

module _ (again : Again) where
  abbrev pub run_each : Environment → List PlainObject → Answer (List PlainObject)
  run_each s ns = run_each_by written again s ns

  abbrev pub run_type : Environment → PlainType → Answer PlainType
  run_type s a = run_type_by written again s a

  abbrev pub run_telescope : Environment → PlainTelescope → Answer PlainTelescope
  run_telescope s t = run_telescope_by written again s t

  abbrev pub run_kind : Environment → PlainKind → Answer PlainKind
  run_kind s k = run_kind_by written again s k
