-- Inner: gathering as a function, which puts the equations of a part behind those that were found before. Proofs lead from it to the relation.
use Rattle.std.specs.Prelude.{ℕ, ◌==◌, if◌then◌else◌, Bool, true, false, ◌&&◌, List, [], ◌∷◌, ◌++◌, length, map, Option, Some, None}
use Rattle.clf_syntax.specs.declared.tree.Mode.{Mode}
use Rattle.clf_syntax.specs.Modes.{same_mode}
use Rattle.clf_syntax.specs.Tree.{PlainObject, lam, pair, unit, monadic, atomic, hole, PlainNeutral, head_alone, app, fst, snd, PlainExpression, step, done, PlainTuple, empty, entry, PlainElimination, arg, first, second}
use Rattle.clf_syntax.specs.TypeTree.{PlainType, family, function, both, top, monad, PlainTelescope, end, binding, SimpleType}
use Rattle.clf_syntax.specs.Simple.{erase}
use Rattle.clf_syntax.specs.Renaming.{ren_telescope, up}
use Rattle.use_contexts.specs.Context.{Context, with_entries}
use Rattle.hered_put.specs.Function.{Answer, made, untyped, after}
use Rattle.clf_simple.specs.Decision.{typed, is_meta}
use Rattle.typing_laws.specs.SimpleTyping.{families_of}
use Rattle.pattern_laws.specs.Equations.{Locals, Equation}
use Rattle.gathering.specs.Setting.{simple_locals}
use Rattle.celf_gather.specs.Scene.{Scene, head_type, put_in_type, put_in_telescope}

-- a type with the equations so far
abbrev pub Inferred : Type 0
Inferred = PlainType × List Equation

-- ---- leaves

-- the equations of two lists of indices behind others
abbrev pub pairs_after : Locals → List SimpleType → List PlainObject → List PlainObject → List Equation → Answer (List Equation)
pairs_after l [] [] [] p = made p
pairs_after l (t ∷ ts) (o ∷ os) (n ∷ ns) p = pairs_after l ts os ns (p ++ record { locals = l; left = o; right = n; type = t } ∷ [])
pairs_after l [] [] (n ∷ ns) p = untyped
pairs_after l [] (o ∷ os) ns p = untyped
pairs_after l (t ∷ ts) [] ns p = untyped
pairs_after l (t ∷ ts) (o ∷ os) [] p = untyped

abbrev pub known_pairs : Locals → Option (List SimpleType) → List PlainObject → List PlainObject → List Equation → Answer (List Equation)
known_pairs l None os ns p = untyped
known_pairs l (Some ts) os ns p = pairs_after l ts os ns p

-- A neutral's type is the same family as the one at which it stands.
abbrev pub found_after : Scene → Context → ℕ → List PlainObject → Inferred → Answer (List Equation)
found_after k g f ns ((family h os), p) = if f == h then known_pairs (simple_locals g) (families_of k.signature f) os ns p else untyped
found_after k g f ns ((function m a b), p) = untyped
found_after k g f ns ((both a b), p) = untyped
found_after k g f ns (top, p) = untyped
found_after k g f ns ((monad s), p) = untyped

abbrev pub leaf_after : Scene → Context → PlainType → Answer Inferred → Answer (List Equation)
leaf_after k g (family f ns) w = after w (found_after k g f ns)
leaf_after k g (function m a b) w = untyped
leaf_after k g (both a b) w = untyped
leaf_after k g top w = untyped
leaf_after k g (monad s) w = untyped

-- What is to be filled in must only be simply typed.
abbrev pub is_filled : Scene → Context → PlainObject → PlainType → Bool
is_filled k g n t = typed k.types (map (λ e. e.1) (simple_locals g)) n (erase t)

abbrev pub filled_after : Bool → List Equation → Answer (List Equation)
filled_after true p = made p
filled_after false p = untyped

abbrev pub atomic_after : Scene → Context → PlainNeutral → PlainType → List Equation → Answer Inferred → Answer (List Equation)
atomic_after k g n t p w = if is_meta n then filled_after (is_filled k g (atomic n) t) p else leaf_after k g t w

-- ---- parts at types of their form

abbrev pub lambda_after : Mode → PlainType → (PlainType → PlainType → Answer (List Equation)) → Answer (List Equation)
lambda_after m (function o a c) body = if same_mode m o then body a c else untyped
lambda_after m (family f ns) body = untyped
lambda_after m (both a b) body = untyped
lambda_after m top body = untyped
lambda_after m (monad s) body = untyped

abbrev pub pair_after : PlainType → (PlainType → Answer (List Equation)) → (PlainType → List Equation → Answer (List Equation)) → Answer (List Equation)
pair_after (both a c) left right = after (left a) (right c)
pair_after (family f ns) left right = untyped
pair_after (function m a b) left right = untyped
pair_after top left right = untyped
pair_after (monad s) left right = untyped

abbrev pub unit_after : PlainType → List Equation → Answer (List Equation)
unit_after top p = made p
unit_after (family f ns) p = untyped
unit_after (function m a b) p = untyped
unit_after (both a b) p = untyped
unit_after (monad s) p = untyped

abbrev pub monadic_after : PlainType → (PlainTelescope → Answer (List Equation)) → Answer (List Equation)
monadic_after (monad s) run = run s
monadic_after (family f ns) run = untyped
monadic_after (function m a b) run = untyped
monadic_after (both a b) run = untyped
monadic_after top run = untyped

-- ---- neutrals

abbrev pub with_type : Option PlainType → List Equation → Answer Inferred
with_type None p = untyped
with_type (Some a) p = made (a, p)

abbrev pub application_after : Mode → PlainObject → Inferred → (PlainType → List Equation → Answer (List Equation)) → Answer Inferred
application_after m n ((function o a c), p) argument = if same_mode m o then after (argument a p) (λ q. after (put_in_type n a c) (λ t. made (t, q))) else untyped
application_after m n ((family f ns), p) argument = untyped
application_after m n ((both a b), p) argument = untyped
application_after m n (top, p) argument = untyped
application_after m n ((monad s), p) argument = untyped

abbrev pub first_after : Inferred → Answer Inferred
first_after ((both a c), p) = made (a, p)
first_after ((family f ns), p) = untyped
first_after ((function m a b), p) = untyped
first_after (top, p) = untyped
first_after ((monad s), p) = untyped

abbrev pub second_after : Inferred → Answer Inferred
second_after ((both a c), p) = made (c, p)
second_after ((family f ns), p) = untyped
second_after ((function m a b), p) = untyped
second_after (top, p) = untyped
second_after ((monad s), p) = untyped

-- ---- steps and tuples

-- a context with the equations so far
abbrev pub Reached : Type 0
Reached = Context × List Equation

-- the entries have these modes
abbrev pub modes_fit : PlainTelescope → List Mode → Bool
modes_fit end [] = true
modes_fit (binding m a s) (o ∷ os) = same_mode o m && modes_fit s os
modes_fit end (o ∷ os) = false
modes_fit (binding m a s) [] = false

abbrev pub entered_if : Bool → Reached → Answer Reached
entered_if true x = made x
entered_if false x = untyped

-- The entries of the right side's monad become the newest variables.
abbrev pub entered : List Mode → Context → Inferred → Answer Reached
entered ms g ((monad s), p) = entered_if (modes_fit s ms) (with_entries s g, p)
entered ms g ((family f ns), p) = untyped
entered ms g ((function m a b), p) = untyped
entered ms g ((both a b), p) = untyped
entered ms g (top, p) = untyped

-- the entries that are left of a telescope, with the equations so far
abbrev pub Rest : Type 0
Rest = PlainTelescope × List Equation

abbrev pub entry_after : Mode → PlainObject → Rest → (PlainType → List Equation → Answer (List Equation)) → Answer Rest
entry_after m n ((binding o a u), p) argument = if same_mode m o then after (argument a p) (λ q. after (put_in_telescope n a u) (λ v. made (v, q))) else untyped
entry_after m n (end, p) argument = untyped

abbrev pub none_left : Rest → Answer (List Equation)
none_left (end, p) = made p
none_left ((binding m a s), p) = untyped

abbrev mutual
  pub gathered : Scene → Context → PlainObject → PlainType → List Equation → Answer (List Equation)
  gathered k g (lam m b) t p = lambda_after m t (λ a c. gathered k ((m, a) ∷ g) b c p)
  gathered k g (pair l r) t p = pair_after t (λ a. gathered k g l a p) (λ c q. gathered k g r c q)
  gathered k g unit t p = unit_after t p
  gathered k g (monadic e) t p = monadic_after t (λ s. expression_after k g e s p)
  gathered k g (atomic n) t p = atomic_after k g n t p (inferred k g n p)
  gathered k g hole t p = made p

  pub inferred : Scene → Context → PlainNeutral → List Equation → Answer Inferred
  inferred k g (head_alone x) p = with_type (head_type k g x) p
  inferred k g (app m r n) p = after (inferred k g r p) (λ x. application_after m n x (λ a q. gathered k g n a q))
  inferred k g (fst r) p = after (inferred k g r p) first_after
  inferred k g (snd r) p = after (inferred k g r p) second_after

  pub expression_after : Scene → Context → PlainExpression → PlainTelescope → List Equation → Answer (List Equation)
  expression_after k g (step ms r e) s p = after (after (inferred k g r p) (entered ms g)) (λ x. expression_after k x.0 e (ren_telescope (up (length ms)) s) x.1)
  expression_after k g (done t) s p = tuple_after k g t s p

  pub tuple_after : Scene → Context → PlainTuple → PlainTelescope → List Equation → Answer (List Equation)
  tuple_after k g empty s p = none_left (s, p)
  tuple_after k g (entry m n t) s p = after (entry_after m n (s, p) (λ a q. gathered k g n a q)) (λ x. tuple_after k g t x.0 x.1)

-- ---- the same along the lists that trees in memory have

abbrev pub each_after : {E X : Type 0} → (E → X → Answer X) → List E → X → Answer X
each_after f [] x = made x
each_after f (e ∷ es) x = after (f e x) (each_after f es)

abbrev pub elimination_after : Scene → Context → PlainElimination → Inferred → Answer Inferred
elimination_after k g (arg m n) x = application_after m n x (λ a q. gathered k g n a q)
elimination_after k g first x = first_after x
elimination_after k g second x = second_after x

abbrev pub step_after : Scene → List Mode × PlainNeutral → Reached → Answer Reached
step_after k s x = after (inferred k x.0 s.1 x.1) (entered s.0 x.0)

abbrev pub tuple_entry_after : Scene → Context → Mode × PlainObject → Rest → Answer Rest
tuple_entry_after k g e x = entry_after e.0 e.1 x (λ a q. gathered k g e.1 a q)
