-- Metavariables on distinct locals.
use Rattle.std.specs.Prelude.{ℕ, zero, suc, ◌+◌, ◌≡◌, ◌<◌, ◌⊎◌, ◌-◌, ◌&&◌, nat_eq, if◌then◌else◌, Bool, true, false, List, [], ◌∷◌, Option, Some, None}
use Rattle.clf_syntax.specs.declared.tree.Mode.{Mode}
use Rattle.clf_syntax.specs.declared.tree.Head.TheVariants.{Var, Meta}
use Rattle.clf_syntax.specs.Tree.{PlainObject, lam, pair, unit, monadic, atomic, hole, PlainNeutral, head_alone, app}
use Rattle.clf_syntax.specs.TypeTree.{SimpleType, base, arrow, simple_with, simple_top, lax, SimpleTelescope}
use Rattle.clf_syntax.specs.Simple.{Assignment, extended, SimplyTyped}
use Rattle.clf_syntax.specs.Renaming.{Renumbering, ren}
use Rattle.clf_syntax.specs.Occurs.{occurs}
use Rattle.eta_laws.specs.Eta.{eta}

-- an object made of lambdas, pairs and `<>` alone: its type has no other object
abbrev pub is_blank : PlainObject → Bool
is_blank (lam m b) = is_blank b
is_blank (pair l r) = is_blank l && is_blank r
is_blank unit = true
is_blank (monadic e) = false
is_blank (atomic n) = false
is_blank hole = false

-- a simple type with one object alone
abbrev pub blank : SimpleType → Bool
blank (base a) = false
blank (arrow m d c) = blank c
blank (simple_with c d) = blank c && blank d
blank simple_top = true
blank (lax ts) = false

-- a type that is no function, pair or unit
abbrev pub IsFinal : SimpleType → Type 0
IsFinal a = ((f : ℕ) × (a ≡ base f)) ⊎ ((s : SimpleTelescope) × (a ≡ lax s))

-- a function whose result is a family or a monad, or one of these itself
abbrev pub HasFinalResult : SimpleType → Type 0
HasFinalResult (base a) = Unit {0}
HasFinalResult (arrow m d c) = HasFinalResult c
HasFinalResult (simple_with c d) = ⊥
HasFinalResult simple_top = ⊥
HasFinalResult (lax ts) = Unit {0}

-- how many functions are at the head of a type
abbrev pub functions : SimpleType → ℕ
functions (base a) = 0
functions (arrow m d c) = suc (functions c)
functions (simple_with c d) = 0
functions simple_top = 0
functions (lax ts) = 0

-- A place among the arguments of a metavariable: its mode, its simple type, and the variable that stands there; at a blank type any number.
-- Places are numbered from the last argument, so place i is variable i below the lambdas of the metavariable's solution.
abbrev pub Place : Type 0
Place = Mode × SimpleType × ℕ

-- a neutral applied to the eta-long forms of the variables of the places, the last one first
abbrev pub on : List Place → PlainNeutral → PlainNeutral
on [] r = r
on (p ∷ ps) r = app p.0 (on ps r) (eta p.1 (head_alone (Var p.2)))

-- a lambda for each place; variable i of the body is the one of place i
abbrev pub lams : List Place → PlainObject → PlainObject
lams [] b = b
lams (p ∷ ps) b = lams ps (lam p.0 b)

-- a function of each place
abbrev pub arrows : List Place → SimpleType → SimpleType
arrows [] c = c
arrows (p ∷ ps) c = arrows ps (arrow p.0 p.1 c)

-- Variable i of the lambdas becomes that of place i, and the others fall.
abbrev pub filled : List Place → Renumbering
filled [] i = i
filled (p ∷ ps) zero = p.2
filled (p ∷ ps) (suc i) = filled ps i

-- each place has a variable of its type, or a blank type
abbrev pub Fitting : Assignment → List Place → Type 0
Fitting z [] = Unit {0}
Fitting z (p ∷ ps) = ((z (Var p.2) ≡ Some p.1) ⊎ (blank p.1 ≡ true)) × Fitting z ps

-- the variable at a place that is not blank
abbrev pub local_at : List Place → ℕ → Option ℕ
local_at [] i = None
local_at (p ∷ ps) zero = if blank p.1 then None else Some p.2
local_at (p ∷ ps) (suc i) = local_at ps i

-- No variable stands at two places; blank places are left out of account.
abbrev pub Distinct : List Place → Type 0
Distinct ps = (i j v : ℕ) → local_at ps i ≡ Some v → local_at ps j ≡ Some v → i ≡ j

-- The neutral is metavariable m on distinct locals: applied to their eta-long forms, at the types of its arguments. Its result has the type t.
pub record OnDistinct (g : Assignment) (r : PlainNeutral) (m : ℕ) (ps : List Place) (t : SimpleType) : Type 0 where
  pub neutral : r ≡ on ps (head_alone (Meta m))
  pub type : g (Meta m) ≡ Some (arrows ps t)
  pub fitting : Fitting g ps
  pub distinct : Distinct ps

-- A place p with a local whose own simple type stands in q. Its eta-long form there has the simple type of the place; at a blank type any number may stand.
pub record OwnPlace (z : Assignment) (p q : Place) : Type 0 where
  pub mode : p.0 ≡ q.0
  pub local : p.2 ≡ q.2
  pub typed : SimplyTyped z (eta q.1 (head_alone (Var q.2))) p.1
  pub own : (z (Var q.2) ≡ Some q.1) ⊎ (blank p.1 ≡ true)

abbrev pub OwnPlaces : Assignment → List Place → List Place → Type 0
OwnPlaces z [] [] = Unit {0}
OwnPlaces z (p ∷ ps) (q ∷ qs) = OwnPlace z p q × OwnPlaces z ps qs
OwnPlaces z [] (q ∷ qs) = ⊥
OwnPlaces z (p ∷ ps) [] = ⊥

-- The neutral is metavariable m applied to the eta-long forms of distinct locals, each at the local's own simple type. ps has the places with the simple types of the arguments,
-- qs with those of the locals. They can differ only where some domain has one object alone: `\u. x <>`, for x from <T>, stands at each function to the result of x.
pub record OnLocals (g : Assignment) (r : PlainNeutral) (m : ℕ) (ps qs : List Place) (t : SimpleType) : Type 0 where
  pub neutral : r ≡ on qs (head_alone (Meta m))
  pub type : g (Meta m) ≡ Some (arrows ps t)
  pub places : OwnPlaces g ps qs
  pub distinct : Distinct ps

-- A local that stands at another simple type than its own does not occur in the object. Blank places are left out of account.
abbrev pub LacksMisfits : List Place → List Place → PlainObject → Type 0
LacksMisfits (p ∷ ps) (q ∷ qs) x = ((p.1 ≡ q.1) ⊎ ((blank p.1 ≡ true) ⊎ (occurs p.2 x ≡ false))) × LacksMisfits ps qs x
LacksMisfits [] qs x = Unit {0}
LacksMisfits (p ∷ ps) [] x = Unit {0}

-- Each variable that occurs stands at some place.
abbrev pub Covers : List Place → PlainObject → Type 0
Covers ps x = (j : ℕ) → occurs j x ≡ true → (i : ℕ) × (local_at ps i ≡ Some j)

-- Back from the variables of the places under n locals: a local becomes the variable of its place, and what lies after the locals lies after the places.
abbrev pub inverse : ℕ → List Place → Renumbering
inverse n [] j = j - n
inverse n (p ∷ ps) j = if (if blank p.1 then false else nat_eq p.2 j) then 0 else suc (inverse n ps j)

-- below the lambdas of the places
abbrev pub beneath : List Place → Assignment → Assignment
beneath [] y = y
beneath (p ∷ ps) y = extended p.1 (beneath ps y)

-- The object that the equation with the side x gives to the metavariable.
abbrev pub inverted : ℕ → List Place → PlainObject → PlainObject
inverted n ps x = lams ps (ren (inverse n ps) x)

-- the same modes and types at each place
abbrev pub SameTypes : List Place → List Place → Type 0
SameTypes [] [] = Unit {0}
SameTypes (p ∷ ps) (q ∷ qs) = (p.0 ≡ q.0) × (p.1 ≡ q.1) × SameTypes ps qs
SameTypes [] (q ∷ qs) = ⊥
SameTypes (p ∷ ps) [] = ⊥

-- Under d binders on the way, the variable is a local of the n around them that stands at none of the places.
abbrev pub Foreign : ℕ → List Place → ℕ → ℕ → Type 0
Foreign n ps d w = (v : ℕ) × (w ≡ v + d) × (v < n) × ((i : ℕ) → local_at ps i ≡ Some v → ⊥)

-- No foreign local occurs; n locals are around the equation, d binders on the way.
abbrev pub NoForeign : ℕ → List Place → ℕ → PlainObject → Type 0
NoForeign n ps d o = (w : ℕ) → occurs w o ≡ true → Foreign n ps d w → ⊥

-- Of two lists of places, each place of the first leads to the place of the second with the same local, where there is one.
-- The way from place j comes to an end.
pub data Ends (ps zs : List Place) : ℕ → Type 0 where
  ends_here : {j v : ℕ} → local_at ps j ≡ Some v → ((i : ℕ) → local_at zs i ≡ Some v → ⊥) → Ends ps zs j
  ends_later : {j i v : ℕ} → local_at ps j ≡ Some v → local_at zs i ≡ Some v → Ends ps zs i → Ends ps zs j

-- Each place leads to itself, or the way from it comes to an end.
abbrev pub NoCircle : List Place → List Place → Type 0
NoCircle ps zs = (j v : ℕ) → local_at ps j ≡ Some v → (local_at zs j ≡ Some v) ⊎ Ends ps zs j

-- The variables of the places, the last place first, are those that were bound later first.
abbrev pub Ordered : List Place → Type 0
Ordered ps = (i j v w : ℕ) → i < j → local_at ps i ≡ Some v → local_at ps j ≡ Some w → v < w

-- The places where the mask is true, each with the variable of its lambda; the first place has the number i.
abbrev pub masked : ℕ → List Bool → List Place → List Place
masked i [] ps = []
masked i (b ∷ bs) [] = []
masked i (true ∷ bs) (p ∷ ps) = (p.0, p.1, i) ∷ masked (suc i) bs ps
masked i (false ∷ bs) (p ∷ ps) = masked (suc i) bs ps

-- the mask at a place
abbrev pub mask_at : List Bool → ℕ → Bool
mask_at [] i = false
mask_at (b ∷ bs) zero = b
mask_at (b ∷ bs) (suc i) = mask_at bs i
