-- Laws of flat systems in the work of unification, as statements; the functions of the crate's `laws` state them.
use Rattle.std.specs.Prelude.{ℕ, Bool, ◌≡◌, List, []}
use Rattle.std.specs.List.{slice_get}
use Rattle.clf_syntax.specs.Tree.{PlainObject}
use Rattle.clf_syntax.specs.TypeTree.{SimpleType}
use Rattle.store_laws.specs.Additions.{Addition, meta_types}
use Rattle.pattern_laws.specs.Equations.{Equation, Listed}
use Rattle.pattern_laws.specs.Patterns.{Place}
use Rattle.unify_laws.specs.Problems.{Grows}
use Rattle.reach_laws.specs.Rest.{PartOf, Rest}
use Rattle.solver_laws.specs.Solving.{Ready, Open, ArePutIn}
use Rattle.solver_laws.specs.Steps.{AssignsEither, NarrowsEither, assigned_more, narrowed_more}
use Rattle.flat_systems.specs.Systems.{FlatStore, FlatSystem}

-- With all solutions put in, a flat system is flat.
abbrev pub FlatIsPutIn : Type 0
FlatIsPutIn = (constants : List SimpleType) (zs : List Addition) (es : List Equation) → Ready constants zs es → FlatSystem constants zs es → (ds : List Equation) → ArePutIn zs es ds → FlatSystem constants zs ds

-- The step that gives a solution keeps it flat.
abbrev pub FlatAssigns : Type 0
FlatAssigns = (constants : List SimpleType) (zs : List Addition) (es : List Equation) → Ready constants zs es → Open constants zs es → FlatSystem constants zs es
    → (e : Equation) → Listed e es → (m : ℕ) (o : PlainObject) → AssignsEither (slice_get constants) (slice_get (meta_types zs)) e m o → FlatSystem constants (assigned_more zs m o) es

-- So does the step that takes arguments.
abbrev pub FlatNarrows : Type 0
FlatNarrows = (constants : List SimpleType) (zs : List Addition) (es : List Equation) → Ready constants zs es → Open constants zs es → FlatSystem constants zs es
    → (e : Equation) → Listed e es → (k : ℕ) (mask : List Bool) (ps : List Place) (c : SimpleType) → NarrowsEither (slice_get constants) (slice_get (meta_types zs)) e k mask ps c
    → FlatSystem constants (narrowed_more zs k mask ps c) es

-- The parts of flat equations are flat.
abbrev pub FlatParts : Type 0
FlatParts = (constants : List SimpleType) (zs : List Addition) (es us : List Equation) → Ready constants zs es → FlatSystem constants zs es
    → ((e : Equation) → Listed e us → (d : Equation) × Listed d es × PartOf (slice_get constants) (slice_get (meta_types zs)) d e) → FlatSystem constants zs us

-- In a store that has more, flat equations are flat.
abbrev pub FlatGrows : Type 0
FlatGrows = (constants : List SimpleType) (zs more : List Addition) (es : List Equation) → FlatSystem constants zs es → Grows (slice_get (meta_types zs)) (slice_get (meta_types more)) → FlatStore constants more → FlatSystem constants more es

-- Nothing is left of flat equations.
abbrev pub NothingFlatIsLeft : Type 0
NothingFlatIsLeft = (constants : List SimpleType) (zs : List Addition) (es left : List Equation) → Ready constants zs es → FlatSystem constants zs es → Rest (slice_get constants) (slice_get (meta_types zs)) es left → left ≡ []
