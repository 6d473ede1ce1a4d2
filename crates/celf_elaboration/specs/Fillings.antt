-- Objects that are filled in where the text leaves something to be found.
use Rattle.std.specs.Prelude.{ℕ, ◌+◌, ◌≡◌, true, List, [], ◌∷◌, ◌++◌, length, Option, Some, None}
use Rattle.std.specs.List.{slice_get}
use Rattle.clf_syntax.specs.declared.tree.Mode.{Mode}
use Rattle.clf_syntax.specs.Tree.{PlainObject}
use Rattle.clf_syntax.specs.TypeTree.{SimpleType}
use Rattle.clf_syntax.specs.Occurs.{occurs}
use Rattle.use_contexts.specs.Holding.{is_persistent}
use Rattle.pattern_laws.specs.Equations.{Locals}
use Rattle.metavars.specs.Fresh.{scope_of, new_types, fresh_object}
use Rattle.celf_places.specs.Places.{Place}

-- an object that is filled in, with the locals at its place, the newest first, and the simple type of the place
pub record Filling : Type 0 where
  pub locals : Locals
  pub type : SimpleType
  pub object : PlainObject

-- in the order of their places in the text, where implicit arguments stand before written ones
abbrev pub Fillings : Type 0
Fillings = List Filling

-- New metavariables: each filling is the object that is made of new metavariables at its place, on the persistent locals, and these are numbered in
-- order, from k on.
abbrev pub AreNew : ℕ → Fillings → Type 0
AreNew k [] = Unit {0}
AreNew k (f ∷ fs) = (f.object ≡ fresh_object k (scope_of f.locals) f.type) × AreNew (k + length (new_types (scope_of f.locals) f.type)) fs

-- the simple types of these metavariables
abbrev pub types_of_new : Fillings → List SimpleType
types_of_new [] = []
types_of_new (f ∷ fs) = new_types (scope_of f.locals) f.type ++ types_of_new fs

-- Of the locals at its place a filling mentions persistent ones alone. What is free in it beyond these is a parameter.
abbrev pub MentionsPersistent : Filling → Type 0
MentionsPersistent f = (i : ℕ) (e : Mode × SimpleType) → slice_get f.locals i ≡ Some e → occurs i f.object ≡ true → is_persistent e.0 ≡ true

-- a local binder in scope: its mode, its name, if it has one, and its simple type, if that is known
pub record Scoped : Type 0 where
  pub mode : Mode
  pub name : Option (List ℕ)
  pub place : Place

-- The simple types of all of them are known.
abbrev pub KnownLocals : List Scoped → Locals → Type 0
KnownLocals [] l = l ≡ []
KnownLocals (x ∷ ls) l = (t : SimpleType) × (k : Locals) × (x.place ≡ Some t) × (l ≡ (x.mode, t) ∷ k) × KnownLocals ls k
