-- Simple types: what is left of a type without its indices; and typing by them alone, without resources.
-- The rules are those of typing without holdings, splits and comparison of indices; the modes must agree.
use Rattle.std.specs.Prelude.{ℕ, zero, suc, ◌≡◌, ◌⊎◌, Bool, true, false, List, [], ◌∷◌, Option, Some}
use Rattle.std.specs.List.{slice_get}
use Rattle.clf_syntax.specs.declared.tree.Mode.{Mode}
use Rattle.clf_syntax.specs.declared.tree.Head.{Head}
use Rattle.clf_syntax.specs.declared.tree.Head.TheVariants.{Const, Var, Meta}
use Rattle.clf_syntax.specs.Tree.{PlainObject, lam, pair, unit, monadic, atomic, hole, PlainNeutral, head_alone, app, fst, snd, PlainExpression, step, done, PlainTuple, empty, entry, head_of}
use Rattle.clf_syntax.specs.TypeTree.{PlainType, family, function, both, top, monad, PlainTelescope, end, binding, PlainKind, SimpleType, base, arrow, simple_with, simple_top, lax, SimpleTelescope, simple_end, simple_binding}

-- Erasure drops the indices.
abbrev mutual
  pub erase : PlainType → SimpleType
  erase (family f ns) = base f
  erase (function m a b) = arrow m (erase a) (erase b)
  erase (both a b) = simple_with (erase a) (erase b)
  erase top = simple_top
  erase (monad s) = lax (erase_telescope s)

  pub erase_telescope : PlainTelescope → SimpleTelescope
  erase_telescope end = simple_end
  erase_telescope (binding m a s) = simple_binding m (erase a) (erase_telescope s)

-- the modes of the entries, in order
abbrev pub simple_modes : SimpleTelescope → List Mode
simple_modes simple_end = []
simple_modes (simple_binding m t u) = m ∷ simple_modes u

-- An assignment gives heads their simple types: constants, variables and metavariables.
abbrev pub Assignment : Type 0
Assignment = Head → Option SimpleType

-- the assignment by lists, each by number; the newest variable comes first
abbrev pub assigned : List SimpleType → List SimpleType → List SimpleType → Assignment
assigned constants metavariables variables (Const c) = slice_get constants c
assigned constants metavariables variables (Var i) = slice_get variables i
assigned constants metavariables variables (Meta k) = slice_get metavariables k

-- with one new variable
abbrev pub extended : SimpleType → Assignment → Assignment
extended t g (Const c) = g (Const c)
extended t g (Var zero) = Some t
extended t g (Var (suc i)) = g (Var i)
extended t g (Meta k) = g (Meta k)

-- with a new variable for each entry, the last one the newest
abbrev pub extended_by : SimpleTelescope → Assignment → Assignment
extended_by simple_end g = g
extended_by (simple_binding m t u) g = extended_by u (extended t g)

-- with the variables of a context, the newest entry first
abbrev pub extended_over : List (Mode × PlainType) → Assignment → Assignment
extended_over [] g = g
extended_over (e ∷ es) g = extended (erase e.1) (extended_over es g)

-- What simple typing allows of a partial tree besides: a hole, at every simple type; and a metavariable, as an object, at a monad.
pub record Allowance : Type 0 where
  pub holes : Bool
  pub metavariables_at_monads : Bool

-- A neutral stands as an object at a base type. Where its head is a metavariable, it may also stand at a monad, if that is allowed.
abbrev pub MayStand : Allowance → PlainNeutral → SimpleType → Type 0
MayStand w n t = ((f : ℕ) × (t ≡ base f)) ⊎ ((k : ℕ) × (s : SimpleTelescope) × (head_of n ≡ Meta k) × (t ≡ lax s) × (w.metavariables_at_monads ≡ true))

abbrev mutual
  pub SimplyTypedWith : Allowance → Assignment → PlainObject → SimpleType → Type 0
  SimplyTypedWith w g (lam m b) t = (d c : SimpleType) × (t ≡ arrow m d c) × SimplyTypedWith w (extended d g) b c
  SimplyTypedWith w g (pair l r) t = (c d : SimpleType) × (t ≡ simple_with c d) × SimplyTypedWith w g l c × SimplyTypedWith w g r d
  SimplyTypedWith w g unit t = t ≡ simple_top
  SimplyTypedWith w g (monadic e) t = (s : SimpleTelescope) × (t ≡ lax s) × ExpressionSimplyTypedWith w g e s
  SimplyTypedWith w g (atomic n) t = MayStand w n t × NeutralSimplyTypedWith w g n t
  SimplyTypedWith w g hole t = w.holes ≡ true

  pub NeutralSimplyTypedWith : Allowance → Assignment → PlainNeutral → SimpleType → Type 0
  NeutralSimplyTypedWith w g (head_alone h) t = g h ≡ Some t
  NeutralSimplyTypedWith w g (app m r n) t = (d : SimpleType) × NeutralSimplyTypedWith w g r (arrow m d t) × SimplyTypedWith w g n d
  NeutralSimplyTypedWith w g (fst r) t = (d : SimpleType) × NeutralSimplyTypedWith w g r (simple_with t d)
  NeutralSimplyTypedWith w g (snd r) t = (c : SimpleType) × NeutralSimplyTypedWith w g r (simple_with c t)

  -- A step's right side has a monad, with the modes of the step, whose entries are the variables of the rest.
  pub ExpressionSimplyTypedWith : Allowance → Assignment → PlainExpression → SimpleTelescope → Type 0
  ExpressionSimplyTypedWith w g (step ms r e) s = (u : SimpleTelescope) × NeutralSimplyTypedWith w g r (lax u) × (simple_modes u ≡ ms) × ExpressionSimplyTypedWith w (extended_by u g) e s
  ExpressionSimplyTypedWith w g (done t) s = TupleSimplyTypedWith w g t s

  pub TupleSimplyTypedWith : Allowance → Assignment → PlainTuple → SimpleTelescope → Type 0
  TupleSimplyTypedWith w g empty s = s ≡ simple_end
  TupleSimplyTypedWith w g (entry m n t) s = (d : SimpleType) × (u : SimpleTelescope) × (s ≡ simple_binding m d u) × SimplyTypedWith w g n d × TupleSimplyTypedWith w g t u

-- the simple types of the arguments of each family
abbrev pub Families : Type 0
Families = ℕ → Option (List SimpleType)

-- as many objects as simple types, each typed
abbrev pub EachSimplyTypedWith : Allowance → Assignment → List PlainObject → List SimpleType → Type 0
EachSimplyTypedWith w g [] [] = Unit {0}
EachSimplyTypedWith w g (n ∷ ns) (t ∷ ts) = SimplyTypedWith w g n t × EachSimplyTypedWith w g ns ts
EachSimplyTypedWith w g [] (t ∷ ts) = ⊥
EachSimplyTypedWith w g (n ∷ ns) [] = ⊥

-- A type is simply formed where each index has the simple type of its argument.
abbrev mutual
  pub SimplyFormedWith : Allowance → Families → Assignment → PlainType → Type 0
  SimplyFormedWith w arguments g (family f ns) = (ts : List SimpleType) × (arguments f ≡ Some ts) × EachSimplyTypedWith w g ns ts
  SimplyFormedWith w arguments g (function m a b) = SimplyFormedWith w arguments g a × SimplyFormedWith w arguments (extended (erase a) g) b
  SimplyFormedWith w arguments g (both a b) = SimplyFormedWith w arguments g a × SimplyFormedWith w arguments g b
  SimplyFormedWith w arguments g top = Unit {0}
  SimplyFormedWith w arguments g (monad s) = TelescopeSimplyFormedWith w arguments g s

  pub TelescopeSimplyFormedWith : Allowance → Families → Assignment → PlainTelescope → Type 0
  TelescopeSimplyFormedWith w arguments g end = Unit {0}
  TelescopeSimplyFormedWith w arguments g (binding m a s) = SimplyFormedWith w arguments g a × TelescopeSimplyFormedWith w arguments (extended (erase a) g) s

abbrev pub KindSimplyFormedWith : Allowance → Families → Assignment → PlainKind → Type 0
KindSimplyFormedWith w arguments g [] = Unit {0}
KindSimplyFormedWith w arguments g (a ∷ k) = SimplyFormedWith w arguments g a × KindSimplyFormedWith w arguments (extended (erase a) g) k

-- no holes; metavariables at monads as the flag says
abbrev pub no_holes : Bool → Allowance
no_holes w = record { holes = false; metavariables_at_monads = w }

-- Simply typed: without holes, and a metavariable may stand at a monad.
abbrev pub SimplyTyped : Assignment → PlainObject → SimpleType → Type 0
SimplyTyped = SimplyTypedWith (no_holes true)

abbrev pub SimplyTypedNeutral : Assignment → PlainNeutral → SimpleType → Type 0
SimplyTypedNeutral = NeutralSimplyTypedWith (no_holes true)

abbrev pub SimplyTypedExpression : Assignment → PlainExpression → SimpleTelescope → Type 0
SimplyTypedExpression = ExpressionSimplyTypedWith (no_holes true)

abbrev pub SimplyTypedTuple : Assignment → PlainTuple → SimpleTelescope → Type 0
SimplyTypedTuple = TupleSimplyTypedWith (no_holes true)

abbrev pub SimplyTypedEach : Assignment → List PlainObject → List SimpleType → Type 0
SimplyTypedEach = EachSimplyTypedWith (no_holes true)

-- Simply formed: each index is simply typed.
abbrev pub SimplyFormed : Families → Assignment → PlainType → Type 0
SimplyFormed = SimplyFormedWith (no_holes true)

abbrev pub SimplyFormedTelescope : Families → Assignment → PlainTelescope → Type 0
SimplyFormedTelescope = TelescopeSimplyFormedWith (no_holes true)

abbrev pub SimplyFormedKind : Families → Assignment → PlainKind → Type 0
SimplyFormedKind = KindSimplyFormedWith (no_holes true)

-- Eta-long: each neutral that stands as an object does so at a base type, and there is no hole.
abbrev pub EtaLong : Assignment → PlainObject → SimpleType → Type 0
EtaLong = SimplyTypedWith (no_holes false)

abbrev pub EtaLongNeutral : Assignment → PlainNeutral → SimpleType → Type 0
EtaLongNeutral = NeutralSimplyTypedWith (no_holes false)

abbrev pub EtaLongExpression : Assignment → PlainExpression → SimpleTelescope → Type 0
EtaLongExpression = ExpressionSimplyTypedWith (no_holes false)

-- A context, the newest entry first, is simply formed where each type is over the entries before it.
-- The assignment gives the constants and metavariables.
abbrev pub SimplyFormedContext : Families → Assignment → List (Mode × PlainType) → Type 0
SimplyFormedContext arguments g [] = Unit {0}
SimplyFormedContext arguments g (e ∷ es) = SimplyFormed arguments (extended_over es g) e.1 × SimplyFormedContext arguments g es
