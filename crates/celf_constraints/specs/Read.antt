-- Inner: the arguments of a metavariable are read one by one, the first one first.
use Rattle.std.specs.Prelude.{ℕ, ◌≡◌, ◌⊎◌, true, false, List, [], ◌∷◌, Option, Some, None, map, reverse}
use Rattle.std.specs.List.{slice_get}
use Rattle.clf_syntax.specs.declared.tree.Mode.{Mode}
use Rattle.clf_syntax.specs.declared.tree.Head.TheVariants.{Var}
use Rattle.clf_syntax.specs.Tree.{PlainObject, head_alone, PlainElimination, arg, first, second}
use Rattle.clf_syntax.specs.TypeTree.{SimpleType, base, arrow, simple_with, simple_top, lax}
use Rattle.clf_syntax.specs.PlainSimple.{plain_simple}
use Rattle.eta_laws.specs.Eta.{eta}
use Rattle.pattern_laws.specs.Patterns.{Place as PlainPlace, blank, Distinct}
use Rattle.celf_constraints.specs.declared.places.Place.{Place}
use Rattle.celf_constraints.specs.declared.long_forms.Known.{Known}
use Rattle.celf_constraints.specs.declared.spine.Next.{Next}
use Rattle.celf_constraints.specs.declared.places.Places.{Places}
use Rattle.celf_constraints.specs.Reading.{plain_places, own_places}

-- an argument that was read: its mode and simple type, the local with its own simple type
pub record Reading : Type 0 where
  pub mode : Mode
  pub type : SimpleType
  pub own : SimpleType
  pub local : ℕ

-- the place with the simple type of the argument, and with that of the local
abbrev pub place_of : Reading → PlainPlace
place_of r = (r.mode, r.type, r.local)

abbrev pub own_of : Reading → PlainPlace
own_of r = (r.mode, r.own, r.local)

abbrev pub plain_reading : Place → Reading
plain_reading p = record { mode = p.mode; type = plain_simple p.ty.now; own = plain_simple p.own.now; local = p.local }

-- The object is the eta-long form of the local, at the local's own type.
pub record IsLocal (vs : List SimpleType) (o : PlainObject) (u : SimpleType) (y : ℕ) : Type 0 where
  pub known : slice_get vs y ≡ Some u
  pub shown : blank u ≡ false
  pub form : o ≡ eta u (head_alone (Var y))

abbrev pub ReadsLocal : List SimpleType → PlainObject → Option (SimpleType × ℕ) → Type 0
ReadsLocal vs o None = (u : SimpleType) (y : ℕ) → IsLocal vs o u y → ⊥
ReadsLocal vs o (Some k) = IsLocal vs o k.0 k.1

abbrev pub plain_known : Known → SimpleType × ℕ
plain_known k = (plain_simple k.ty.now, k.local)

-- The argument was read so: at a blank type nothing is asked.
pub record ReadAs (vs : List SimpleType) (m : Mode) (d : SimpleType) (o : PlainObject) (r : Reading) : Type 0 where
  pub mode : r.mode ≡ m
  pub type : r.type ≡ d
  pub local : ((blank d ≡ true) × (r.own ≡ d) × (r.local ≡ 0)) ⊎ ((blank d ≡ false) × IsLocal vs o r.own r.local)

abbrev pub ReadsArgument : List SimpleType → Mode → SimpleType → PlainObject → Option Reading → Type 0
ReadsArgument vs m d o None = (r : Reading) → ReadAs vs m d o r → ⊥
ReadsArgument vs m d o (Some r) = ReadAs vs m d o r

-- The eliminations are arguments that were read so, under a function of the type t; u is left of it.
abbrev pub Reads : List SimpleType → List PlainElimination → SimpleType → List Reading → SimpleType → Type 0
Reads vs [] t [] u = t ≡ u
Reads vs [] t (r ∷ rs) u = ⊥
Reads vs (arg m o ∷ es) (arrow k d c) (r ∷ rs) u = (m ≡ k) × ReadAs vs k d o r × Reads vs es c rs u
Reads vs (arg m o ∷ es) (arrow k d c) [] u = ⊥
Reads vs (arg m o ∷ es) (base a) rs u = ⊥
Reads vs (arg m o ∷ es) (simple_with c d) rs u = ⊥
Reads vs (arg m o ∷ es) simple_top rs u = ⊥
Reads vs (arg m o ∷ es) (lax ts) rs u = ⊥
Reads vs (first ∷ es) t rs u = ⊥
Reads vs (second ∷ es) t rs u = ⊥

abbrev pub ReadsSpine : List SimpleType → List PlainElimination → SimpleType → Option (List Reading) → Type 0
ReadsSpine vs es t None = (rs : List Reading) (u : SimpleType) → Reads vs es t rs u → ⊥
ReadsSpine vs es t (Some rs) = (u : SimpleType) × Reads vs es t rs u

-- one elimination, and what is left of the type
abbrev pub ReadsOne : List SimpleType → PlainElimination → SimpleType → Option (Reading × SimpleType) → Type 0
ReadsOne vs e t None = (r : Reading) (u : SimpleType) → Reads vs (e ∷ []) t (r ∷ []) u → ⊥
ReadsOne vs e t (Some n) = Reads vs (e ∷ []) t (n.0 ∷ []) n.1

abbrev pub plain_next : Next → Reading × SimpleType
plain_next n = (plain_reading n.place, plain_simple n.rest.now)

-- What was read, arranged as the places of a metavariable, the last one first.
pub record IsArranged (m : ℕ) (rs : List Reading) (p : Places) : Type 0 where
  pub meta : p.meta ≡ m
  pub places : plain_places p ≡ map place_of (reverse rs)
  pub own : own_places p ≡ map own_of (reverse rs)
  pub distinct : Distinct (map place_of (reverse rs))

abbrev pub Arranges : ℕ → List Reading → Option Places → Type 0
Arranges m rs None = Distinct (map place_of (reverse rs)) → ⊥
Arranges m rs (Some p) = IsArranged m rs p
