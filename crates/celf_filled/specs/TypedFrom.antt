-- The type made of a simple type: each index of a family in it is an object of new metavariables, applied to the persistent variables bound on the way.
use Rattle.std.specs.Prelude.{ℕ, ◌+◌, ◌≡◌, List, [], ◌∷◌, ◌++◌, length, map, refl}
use Rattle.std.proofs.Common.{ap}
use Rattle.clf_syntax.specs.declared.tree.Mode.{Mode}
use Rattle.clf_syntax.specs.Tree.{PlainObject}
use Rattle.clf_syntax.specs.TypeTree.{PlainType, family, function, both, top, monad, PlainTelescope, end, binding, telescope_of, SimpleType, base, arrow, simple_with, simple_top, lax, SimpleTelescope, simple_end, simple_binding}
use Rattle.clf_syntax.specs.PlainSimple.{simple_telescope_of}
use Rattle.clf_sig.specs.Entry.{PlainSignature}
use Rattle.pattern_laws.specs.Equations.{Locals}
use Rattle.metavars.specs.Fresh.{Scope, scope_of}
pub use Rattle.metavars.specs.Fresh.{new_types, fresh_object}
use Rattle.celf_places.specs.Heads.{arguments_of}

abbrev pub type_of_entry : Mode × SimpleType → SimpleType
type_of_entry e = e.1

-- the simple types of the indices of a family; none where there is no such family
abbrev pub indices_of : PlainSignature → ℕ → List SimpleType
indices_of sig f = map type_of_entry (arguments_of sig f)

-- objects of new metavariables, numbered in order from k on, one for each simple type
abbrev pub fresh_objects : ℕ → Scope → List SimpleType → List PlainObject
fresh_objects k s [] = []
fresh_objects k s (t ∷ ts) = fresh_object k s t ∷ fresh_objects (k + length (new_types s t)) s ts

-- the simple types of these metavariables
abbrev pub new_of_each : Scope → List SimpleType → List SimpleType
new_of_each s [] = []
new_of_each s (t ∷ ts) = new_types s t ++ new_of_each s ts

-- where these are the simple types of each family's indices
module _ (indices : ℕ → List SimpleType) where
  -- the simple types of the new metavariables in a type, over these variables, the newest first
  abbrev mutual
    pub new_in : Locals → SimpleType → List SimpleType
    new_in ls (base f) = new_of_each (scope_of ls) (indices f)
    new_in ls (arrow m d c) = new_in ls d ++ new_in ((m, d) ∷ ls) c
    new_in ls (simple_with c d) = new_in ls c ++ new_in ls d
    new_in ls simple_top = []
    new_in ls (lax s) = new_in_telescope ls s

    pub new_in_telescope : Locals → SimpleTelescope → List SimpleType
    new_in_telescope ls simple_end = []
    new_in_telescope ls (simple_binding m t s) = new_in ls t ++ new_in_telescope ((m, t) ∷ ls) s

  -- the type, over these variables, where the new metavariables are numbered from k on
  abbrev mutual
    pub typed_from : ℕ → Locals → SimpleType → PlainType
    typed_from k ls (base f) = family f (fresh_objects k (scope_of ls) (indices f))
    typed_from k ls (arrow m d c) = function m (typed_from k ls d) (typed_from (k + length (new_in ls d)) ((m, d) ∷ ls) c)
    typed_from k ls (simple_with c d) = both (typed_from k ls c) (typed_from (k + length (new_in ls c)) ls d)
    typed_from k ls simple_top = top
    typed_from k ls (lax s) = monad (telescope_from k ls s)

    pub telescope_from : ℕ → Locals → SimpleTelescope → PlainTelescope
    telescope_from k ls simple_end = end
    telescope_from k ls (simple_binding m t s) = binding m (typed_from k ls t) (telescope_from (k + length (new_in ls t)) ((m, t) ∷ ls) s)

  -- ---- telescopes as the lists of their entries

  abbrev pub typed_entry : ℕ → Locals → Mode × SimpleType → Mode × PlainType
  typed_entry k ls e = (e.0, typed_from k ls e.1)

  abbrev pub new_in_entries : Locals → List (Mode × SimpleType) → List SimpleType
  new_in_entries ls [] = []
  new_in_entries ls (e ∷ es) = new_in ls e.1 ++ new_in_entries (e ∷ ls) es

  abbrev pub typed_entries : ℕ → Locals → List (Mode × SimpleType) → List (Mode × PlainType)
  typed_entries k ls [] = []
  typed_entries k ls (e ∷ es) = typed_entry k ls e ∷ typed_entries (k + length (new_in ls e.1)) (e ∷ ls) es

  pub new-in-entries : (ls : Locals) (es : List (Mode × SimpleType)) → new_in_telescope ls (simple_telescope_of es) ≡ new_in_entries ls es
  new-in-entries ls [] = refl
  new-in-entries ls (e ∷ es) = ap (λ ts. new_in ls e.1 ++ ts) (new-in-entries (e ∷ ls) es)

  pub typed-entries : (k : ℕ) (ls : Locals) (es : List (Mode × SimpleType)) → telescope_from k ls (simple_telescope_of es) ≡ telescope_of (typed_entries k ls es)
  typed-entries k ls [] = refl
  typed-entries k ls (e ∷ es) = ap (binding e.0 (typed_from k ls e.1)) (typed-entries (k + length (new_in ls e.1)) (e ∷ ls) es)
