-- A context: the modes and types of the variables in scope, the newest first, so that a variable's number is its place.
-- Each type is over the entries after it.
use Rattle.std.specs.Prelude.{ℕ, ◌+◌, ◌≡◌, List, [], ◌∷◌, map, Some}
use Rattle.std.specs.List.{slice_get}
use Rattle.clf_syntax.specs.declared.tree.Mode.{Mode}
use Rattle.clf_syntax.specs.TypeTree.{PlainType, PlainTelescope, end, binding}
use Rattle.clf_syntax.specs.Renaming.{ren_type, up}

abbrev pub Context : Type 0
Context = List (Mode × PlainType)

-- the modes of the entries, the newest first
abbrev pub modes : Context → List Mode
modes g = map (λ (e : Mode × PlainType). e.0) g

-- The entry of variable i has type a, renumbered past itself and the newer entries.
abbrev pub HasVariable : Context → ℕ → PlainType → Type 0
HasVariable g i a = (m : Mode) × (b : PlainType) × (slice_get g i ≡ Some (m, b)) × (a ≡ ren_type (up (i + 1)) b)

-- the modes of the entries of a telescope, in order
abbrev pub telescope_modes : PlainTelescope → List Mode
telescope_modes end = []
telescope_modes (binding m a s) = m ∷ telescope_modes s

-- a context with the entries of a telescope added, the last one the newest
abbrev pub with_entries : PlainTelescope → Context → Context
with_entries end g = g
with_entries (binding m a s) g = with_entries s ((m, a) ∷ g)
