-- Clean: linear and affine variables occur in no type.
use Rattle.std.specs.Prelude.{ℕ, ◌≡◌, false, [], ◌∷◌, Some}
use Rattle.std.specs.List.{slice_get}
use Rattle.clf_syntax.specs.declared.tree.Mode.{Mode}
use Rattle.clf_syntax.specs.TypeTree.{PlainType, family, function, both, top, monad, PlainTelescope, end, binding}
use Rattle.clf_syntax.specs.Occurs.{occurs_type, occurs_telescope}
use Rattle.use_contexts.specs.Context.{Context, modes}
use Rattle.use_contexts.specs.Holding.{is_persistent}

-- The variable i of the context is linear or affine.
abbrev pub IsNotPersistent : Context → ℕ → Type 0
IsNotPersistent g i = (m : Mode) × (slice_get (modes g) i ≡ Some m) × (is_persistent m ≡ false)

abbrev mutual
  -- A type is clean where no variable that a linear or affine function or entry in it binds occurs in it.
  pub CleanType : PlainType → Type 0
  CleanType (family f ns) = Unit {0}
  CleanType (function m a b) = CleanType a × (is_persistent m ≡ false → occurs_type 0 b ≡ false) × CleanType b
  CleanType (both a b) = CleanType a × CleanType b
  CleanType top = Unit {0}
  CleanType (monad s) = CleanTelescope s

  -- A telescope is clean where its types are, and no variable of a linear or affine entry occurs in a later one.
  pub CleanTelescope : PlainTelescope → Type 0
  CleanTelescope end = Unit {0}
  CleanTelescope (binding m a s) = CleanType a × (is_persistent m ≡ false → occurs_telescope 0 s ≡ false) × CleanTelescope s

-- A context, the newest entry first, is clean where its types are, and no linear or affine variable of it occurs in one.
abbrev pub CleanContext : Context → Type 0
CleanContext [] = Unit {0}
CleanContext (e ∷ g) = CleanType e.1 × ((i : ℕ) → IsNotPersistent g i → occurs_type i e.1 ≡ false) × CleanContext g
