-- The object of a simple type that is made of new metavariables.
use Rattle.std.specs.Prelude.{ℕ, ◌+◌, Bool, true, false, if◌then◌else◌, List, [], ◌∷◌, ◌++◌, length, map}
use Rattle.clf_syntax.specs.declared.tree.Mode.{Mode}
use Rattle.clf_syntax.specs.declared.tree.Mode.TheVariants.{Persistent, Affine, Linear}
use Rattle.clf_syntax.specs.declared.tree.Head.TheVariants.{Var, Meta}
use Rattle.clf_syntax.specs.Tree.{PlainObject, lam, pair, unit, atomic, PlainNeutral, head_alone, app}
use Rattle.clf_syntax.specs.TypeTree.{SimpleType, base, arrow, simple_with, simple_top, lax}
use Rattle.eta_laws.specs.Eta.{eta}

-- A variable in scope: its mode, its simple type, and whether new metavariables are applied to it.
pub record Local : Type 0 where
  pub mode : Mode
  pub type : SimpleType
  pub applied : Bool

-- The variables in scope, the newest first.
abbrev pub Scope : Type 0
Scope = List Local

abbrev pub is_persistent : Mode → Bool
is_persistent Persistent = true
is_persistent Affine = false
is_persistent Linear = false

-- A local is used where it is persistent.
abbrev pub local : Mode × SimpleType → Local
local e = record { mode = e.0; type = e.1; applied = is_persistent e.0 }

-- A binder of the object itself is used, whatever its mode.
abbrev pub binder : Mode → SimpleType → Local
binder m t = record { mode = m; type = t; applied = true }

abbrev pub scope_of : List (Mode × SimpleType) → Scope
scope_of locals = map local locals

-- a function of the variables that are used, the oldest first
abbrev pub functions : Scope → SimpleType → SimpleType
functions [] t = t
functions (l ∷ ls) t = functions ls (if l.applied then arrow l.mode l.type t else t)

-- a neutral applied to those variables, where the newest has the number i: each in its mode, in its eta-long form
abbrev pub applied_from : ℕ → Scope → PlainNeutral → PlainNeutral
applied_from i [] r = r
applied_from i (l ∷ ls) r = if l.applied then app l.mode (applied_from (i + 1) ls r) (eta l.type (head_alone (Var i))) else applied_from (i + 1) ls r

-- a metavariable applied to the scope
abbrev pub on_scope : ℕ → Scope → PlainObject
on_scope k s = atomic (applied_from 0 s (head_alone (Meta k)))

-- The simple types of the new metavariables: one for each family and monad that the type ends in. So none has a function, a pair or the unit as its result.
abbrev pub new_types : Scope → SimpleType → List SimpleType
new_types s (base f) = functions s (base f) ∷ []
new_types s (arrow m d c) = new_types (binder m d ∷ s) c
new_types s (simple_with c d) = new_types s c ++ new_types s d
new_types s simple_top = []
new_types s (lax ts) = functions s (lax ts) ∷ []

-- The object, by cases on its simple type, where the new metavariables are numbered from k on.
abbrev pub fresh_object : ℕ → Scope → SimpleType → PlainObject
fresh_object k s (base f) = on_scope k s
fresh_object k s (arrow m d c) = lam m (fresh_object k (binder m d ∷ s) c)
fresh_object k s (simple_with c d) = pair (fresh_object k s c) (fresh_object (k + length (new_types s c)) s d)
fresh_object k s simple_top = unit
fresh_object k s (lax ts) = on_scope k s
