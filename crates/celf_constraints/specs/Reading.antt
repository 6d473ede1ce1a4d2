-- What contracts see of the places of a metavariable in memory, and what the reading of a neutral answers.
use Rattle.std.specs.Prelude.{ℕ, ◌≡◌, false, List, Option, Some, None, map}
use Rattle.std.specs.List.{slice_get}
use Rattle.clf_syntax.specs.declared.tree.Head.TheVariants.{Var, Meta}
use Rattle.clf_syntax.specs.declared.tree.Simple.{Simple}
use Rattle.clf_syntax.specs.declared.fault.Or.{Or}
use Rattle.clf_syntax.specs.declared.fault.Or.TheVariants.{Fault, NoMemory}
use Rattle.clf_syntax.specs.declared.fault.TooFar.{TooFar}
use Rattle.clf_syntax.specs.Tree.{PlainNeutral, head_alone}
use Rattle.clf_syntax.specs.TypeTree.{SimpleType}
use Rattle.clf_syntax.specs.PlainSimple.{plain_simple}
use Rattle.clf_syntax.specs.Simple.{Assignment}
use Rattle.clf_syntax.specs.Written.{fits}
use Rattle.eta_laws.specs.Eta.{eta}
use Rattle.pattern_laws.specs.Patterns.{Place as PlainPlace, OnLocals}
use Rattle.celf_constraints.specs.declared.places.Place.{Place}
use Rattle.celf_constraints.specs.declared.places.Places.{Places}

-- a place with the simple type of the argument
abbrev pub plain_place : Place → PlainPlace
plain_place p = (p.mode, plain_simple p.ty.now, p.local)

-- a place with the simple type of its local
abbrev pub own_place : Place → PlainPlace
own_place p = (p.mode, plain_simple p.own.now, p.local)

-- the places with the simple types of the arguments
abbrev pub plain_places : Places → List PlainPlace
plain_places p = map plain_place p.places.items

-- the places with the simple types of the locals
abbrev pub own_places : Places → List PlainPlace
own_places p = map own_place p.places.items

-- The list has the types of the variables, the newest first.
abbrev pub Scopes : Assignment → List SimpleType → Type 0
Scopes z vs = (i : ℕ) → z (Var i) ≡ slice_get vs i

-- The lists have the types of the metavariables and of the variables.
pub record HasTypes (z : Assignment) (metas : List Simple) (vs : List SimpleType) : Type 0 where
  pub metavariables : (m : ℕ) → z (Meta m) ≡ slice_get (map plain_simple metas) m
  pub variables : Scopes z vs

-- There are places exactly where the neutral is a metavariable on distinct locals.
abbrev pub ReadsLocals : Assignment → PlainNeutral → SimpleType → Option Places → Type 0
ReadsLocals g r t None = (m : ℕ) (ps qs : List PlainPlace) → OnLocals g r m ps qs t → ⊥
ReadsLocals g r t (Some p) = OnLocals g r p.meta (plain_places p) (own_places p) t

-- Where a number goes too far, it does so in the eta-long form of some variable of the scope. Lack of memory is free.
abbrev pub FormTooFar : List SimpleType → Or TooFar → Type 0
FormTooFar vs (Fault f) = (y : ℕ) × (u : SimpleType) × (slice_get vs y ≡ Some u) × (fits (eta u (head_alone (Var y))) ≡ false)
FormTooFar vs NoMemory = Unit {0}
