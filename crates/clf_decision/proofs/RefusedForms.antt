-- What is refused for its form: where a type is no function, pair, unit, family or monad; and what may have a type passes.
use Rattle.std.proofs.Common.{◌≡◌, ℕ, List, [], ◌∷◌, refl, sym, ap}
use Rattle.clf_syntax.specs.declared.tree.Mode.{Mode}
use Rattle.clf_syntax.specs.Tree.{PlainObject}
use Rattle.clf_syntax.specs.TypeTree.{PlainType, family, function, both, top, monad, PlainTelescope}
use Rattle.use_contexts.specs.Context.{Context, modes}
use Rattle.use_contexts.specs.Holding.{Holding}
use Rattle.use_contexts.specs.Rows.{IsSubholding, Agrees, Leftover}
use Rattle.clf_rules.specs.Refusal.{not_function, not_pair, not_top, not_monad, not_atomic}
use Rattle.clf_rules.specs.Explained.{IsNoFunction, IsNoPair, IsNoFamily, IsNoMonad}
use Rattle.clf_decision.specs.Outcome.{Outcome, passed, refused, answer_of}
use Rattle.clf_decision.specs.Checking.{Puts, lambda_left, pair_left, unit_left, found_left, atomic_left, argument_left, first_left, second_left, monadic_left, step_left}
use Rattle.clf_decision.proofs.AgreesWith.{AgreesWithType}

-- ---- what may have a type passes
pub typed-passes : (ms : List Mode) (h : Holding) (o : Outcome Leftover) (P : Holding → Type 0) → Agrees ms h (answer_of o) P → (p : Holding) × IsSubholding ms h p × P p
    → (y : Leftover) × (o ≡ passed y)
typed-passes ms h (passed y) P u t = (y, refl)
typed-passes ms h (refused path why) P u t = absurd (u t.0 t.1 t.2)

pub synthesized-passes : (g : Context) (h : Holding) (o : Outcome (PlainType × Leftover)) (P : Holding → PlainType → Type 0) (a : PlainType) → AgreesWithType g h o P
    → (p : Holding) × IsSubholding (modes g) h p × P p a → (x : Leftover) × (o ≡ passed (a, x))
synthesized-passes g h (passed (b, x)) P a u t = let e : a ≡ b = u.1 t.0 a t.2 in (x, ap (λ c. passed (c, x)) (sym e))
synthesized-passes g h (refused path why) P a u t = absurd (u t.0 a t.1 t.2)

-- ---- refusals of types
pub lambda-at-none : (m : Mode) (g : Context) (t : PlainType) (body : PlainType → PlainType → Outcome Leftover) → IsNoFunction t → lambda_left m g t body ≡ refused [] (not_function t)
lambda-at-none m g (function k a c) body f = absurd (f k a c refl)
lambda-at-none m g (family i ns) body f = refl
lambda-at-none m g (both a c) body f = refl
lambda-at-none m g top body f = refl
lambda-at-none m g (monad s) body f = refl

pub pair-at-none : (g : Context) (t : PlainType) (left right : PlainType → Outcome Leftover) → IsNoPair t → pair_left g t left right ≡ refused [] (not_pair t)
pair-at-none g (both a c) left right f = absurd (f a c refl)
pair-at-none g (family i ns) left right f = refl
pair-at-none g (function m a c) left right f = refl
pair-at-none g top left right f = refl
pair-at-none g (monad s) left right f = refl

pub unit-at-none : (h : Holding) (t : PlainType) → (t ≡ top → ⊥) → unit_left h t ≡ refused [] (not_top t)
unit-at-none h top f = absurd (f refl)
unit-at-none h (family i ns) f = refl
unit-at-none h (function m a c) f = refl
unit-at-none h (both a c) f = refl
unit-at-none h (monad s) f = refl

pub neutral-at-none : (g : Context) (t : PlainType) (f : PlainType × Leftover) → IsNoFamily t → atomic_left g t f ≡ refused [] (not_atomic t)
neutral-at-none g (family i ns) f n = absurd (n i ns refl)
neutral-at-none g (function m a c) f n = refl
neutral-at-none g (both a c) f n = refl
neutral-at-none g top f n = refl
neutral-at-none g (monad s) f n = refl

pub neutral-of-none : (g : Context) (wanted : ℕ) (ns : List PlainObject) (t : PlainType) (a : Leftover) → IsNoFamily t → found_left g wanted ns t a ≡ refused [] (not_atomic t)
neutral-of-none g wanted ns (family i os) a n = absurd (n i os refl)
neutral-of-none g wanted ns (function m d c) a n = refl
neutral-of-none g wanted ns (both d c) a n = refl
neutral-of-none g wanted ns top a n = refl
neutral-of-none g wanted ns (monad s) a n = refl

pub argument-to-none : (puts : Puts) (m : Mode) (g : Context) (n : PlainObject) (place : ℕ) (t : PlainType) (x : Leftover) (argument : Holding → PlainType → Outcome Leftover) → IsNoFunction t
    → argument_left puts m g n place (t, x) argument ≡ refused (place ∷ []) (not_function t)
argument-to-none puts m g n place (function k a c) x argument f = absurd (f k a c refl)
argument-to-none puts m g n place (family i ns) x argument f = refl
argument-to-none puts m g n place (both a c) x argument f = refl
argument-to-none puts m g n place top x argument f = refl
argument-to-none puts m g n place (monad s) x argument f = refl

pub first-of-none : (place : ℕ) (t : PlainType) (x : Leftover) → IsNoPair t → first_left place (t, x) ≡ refused (place ∷ []) (not_pair t)
first-of-none place (both a c) x f = absurd (f a c refl)
first-of-none place (family i ns) x f = refl
first-of-none place (function m a c) x f = refl
first-of-none place top x f = refl
first-of-none place (monad s) x f = refl

pub second-of-none : (place : ℕ) (t : PlainType) (x : Leftover) → IsNoPair t → second_left place (t, x) ≡ refused (place ∷ []) (not_pair t)
second-of-none place (both a c) x f = absurd (f a c refl)
second-of-none place (family i ns) x f = refl
second-of-none place (function m a c) x f = refl
second-of-none place top x f = refl
second-of-none place (monad s) x f = refl

pub monadic-at-none : (t : PlainType) (expression : PlainTelescope → Outcome Leftover) → IsNoMonad t → monadic_left t expression ≡ refused [] (not_monad t)
monadic-at-none (monad s) expression f = absurd (f s refl)
monadic-at-none (family i ns) expression f = refl
monadic-at-none (function m a c) expression f = refl
monadic-at-none (both a c) expression f = refl
monadic-at-none top expression f = refl

pub step-of-none : (place : ℕ) (ms : List Mode) (g : Context) (t : PlainType) (x : Leftover) (rest : PlainTelescope → Holding → Outcome Leftover) → IsNoMonad t
    → step_left place ms g (t, x) rest ≡ refused (place ∷ []) (not_monad t)
step-of-none place ms g (monad s) x rest f = absurd (f s refl)
step-of-none place ms g (family i ns) x rest f = refl
step-of-none place ms g (function m a c) x rest f = refl
step-of-none place ms g (both a c) x rest f = refl
step-of-none place ms g top x rest f = refl
