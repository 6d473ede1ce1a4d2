-- The type made of a simple type is simply formed, where its families have their arguments and the new metavariables their simple types.
use Rattle.std.specs.Prelude.{ℕ, ◌+◌, ◌≡◌, List, map, Some}
use Rattle.std.specs.List.{slice_get}
use Rattle.clf_syntax.specs.declared.tree.Head.TheVariants.{Var, Meta}
use Rattle.clf_syntax.specs.TypeTree.{SimpleType, base, arrow, simple_with, simple_top, lax, SimpleTelescope, simple_end, simple_binding}
use Rattle.clf_syntax.specs.Simple.{Assignment, Families, SimplyFormed}
use Rattle.pattern_laws.specs.Equations.{Locals}
use Rattle.metavars.specs.Fresh.{scope_of}
use Rattle.celf_filled.specs.TypedFrom.{new_in, typed_from}

-- each family in a simple type has indices of these simple types
abbrev mutual
  pub HaveIndices : Families → (ℕ → List SimpleType) → SimpleType → Type 0
  HaveIndices families indices (base f) = families f ≡ Some (indices f)
  HaveIndices families indices (arrow m d c) = HaveIndices families indices d × HaveIndices families indices c
  HaveIndices families indices (simple_with c d) = HaveIndices families indices c × HaveIndices families indices d
  HaveIndices families indices simple_top = Unit {0}
  HaveIndices families indices (lax s) = EachHasIndices families indices s

  pub EachHasIndices : Families → (ℕ → List SimpleType) → SimpleTelescope → Type 0
  EachHasIndices families indices simple_end = Unit {0}
  EachHasIndices families indices (simple_binding m t s) = HaveIndices families indices t × EachHasIndices families indices s

-- the metavariables from a number on have these simple types
abbrev pub MetasHave : Assignment → ℕ → List SimpleType → Type 0
MetasHave g k ts = (j : ℕ) (u : SimpleType) → slice_get ts j ≡ Some u → g (Meta (k + j)) ≡ Some u

-- the variables have those of the locals
abbrev pub VariablesHave : Assignment → Locals → Type 0
VariablesHave g ls = (i : ℕ) (u : SimpleType) → slice_get (map (λ l. l.type) (scope_of ls)) i ≡ Some u → g (Var i) ≡ Some u

abbrev pub MadeTypesAreFormed : Type 0
MadeTypesAreFormed = (families : Families) (indices : ℕ → List SimpleType) (g : Assignment) (k : ℕ) (ls : Locals) (t : SimpleType) → HaveIndices families indices t
    → MetasHave g k (new_in indices ls t) → VariablesHave g ls → SimplyFormed families g (typed_from indices k ls t)
