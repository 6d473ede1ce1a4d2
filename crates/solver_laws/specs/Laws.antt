-- Laws that the loop of unification rests on, as statements; the functions of the crate's `laws` state them.
use Rattle.std.specs.Prelude.{ℕ, Bool, ◌≡◌, ◌<◌, ◌⊎◌, List, [], ◌∷◌, ◌++◌, length, None}
use Rattle.std.specs.List.{slice_get}
use Rattle.clf_syntax.specs.Tree.{PlainObject}
use Rattle.clf_syntax.specs.TypeTree.{SimpleType}
use Rattle.subst_laws.specs.Environments.{Instantiation}
use Rattle.store_laws.specs.Additions.{Addition, new, meta_types, given}
use Rattle.pattern_laws.specs.Instantiations.{Types}
use Rattle.pattern_laws.specs.Equations.{Equation, Listed, TypedEquation}
use Rattle.pattern_laws.specs.Patterns.{Place, arrows, masked}
use Rattle.reach_laws.specs.Rest.{PartOf, EquationUnder, EachUnder, Rest}
use Rattle.reach_laws.specs.Unified.{Unified, Clashed}
use Rattle.solver_laws.specs.Solving.{Solving, InHand, problem_of, store_weight, unsolved_types, Ready, Open, ArePutIn, Working}
use Rattle.solver_laws.specs.Steps.{AssignsEither, NarrowsEither, assigned_more, narrowed_more}
use Rattle.solver_laws.specs.Reduced.{Reduced, LeftOver, Clashes}

-- A solution may be given so: the metavariable is there and unsolved, the store stays one and all stays typed, and it gets lighter.
pub record MayAssign (constants : List SimpleType) (zs : List Addition) (m : ℕ) (o : PlainObject) (es : List Equation) : Type 0 where
  pub there : m < length (meta_types zs)
  pub unsolved : given zs m ≡ None
  pub ready : Ready constants (assigned_more zs m o) es
  pub lighter : store_weight (assigned_more zs m o) < store_weight zs

abbrev pub AssignIsAllowed : Type 0
AssignIsAllowed = (constants : List SimpleType) (zs : List Addition) (es : List Equation) → Ready constants zs es → (e : Equation)
    → TypedEquation (slice_get constants) (unsolved_types (slice_get (meta_types zs)) (given zs)) e
    → (m : ℕ) (o : PlainObject) → AssignsEither (slice_get constants) (slice_get (meta_types zs)) e m o → MayAssign constants zs m o es

-- So with a new metavariable on fewer arguments.
pub record MayNarrow (constants : List SimpleType) (zs : List Addition) (k : ℕ) (mask : List Bool) (ps : List Place) (c : SimpleType) (es : List Equation) : Type 0 where
  pub there : k < length (meta_types zs)
  pub unsolved : given zs k ≡ None
  pub still : given (zs ++ new (arrows (masked 0 mask ps) c) ∷ []) k ≡ None
  pub ready : Ready constants (narrowed_more zs k mask ps c) es
  pub lighter : store_weight (narrowed_more zs k mask ps c) < store_weight zs

abbrev pub NarrowIsAllowed : Type 0
NarrowIsAllowed = (constants : List SimpleType) (zs : List Addition) (es : List Equation) → Ready constants zs es → (e : Equation)
    → TypedEquation (slice_get constants) (unsolved_types (slice_get (meta_types zs)) (given zs)) e
    → (k : ℕ) (mask : List Bool) (ps : List Place) (c : SimpleType) → NarrowsEither (slice_get constants) (slice_get (meta_types zs)) e k mask ps c → MayNarrow constants zs k mask ps c es

-- With all solutions put in, typed equations mention no metavariable that has a solution.
abbrev pub PutInIsOpen : Type 0
PutInIsOpen = (constants : List SimpleType) (zs : List Addition) (es : List Equation) → Ready constants zs es → (ds : List Equation) → ArePutIn zs es ds → Open constants zs ds

-- The work begins with the given equations, with all solutions put in.
abbrev pub WorkStarts : Type 0
WorkStarts = (constants : List SimpleType) (zs : List Addition) (es : List Equation) → Ready constants zs es → (s : Instantiation) × Solving (slice_get constants) (problem_of zs es) (problem_of zs es) s

-- At each time it may begin anew with them.
abbrev pub WorkBegins : Type 0
WorkBegins = (constants : List SimpleType) (before zs : List Addition) (es : List Equation) → Ready constants zs es → (s : Instantiation) → Solving (slice_get constants) (problem_of before es) (problem_of zs es) s
    → Working constants before zs es s es

-- With all solutions put in, what is held is in hand.
abbrev pub WorkTakes : Type 0
WorkTakes = (constants : List SimpleType) (before zs : List Addition) (es ws : List Equation) (s : Instantiation) → Working constants before zs es s ws
    → (e d : Equation) → Listed e ws → EquationUnder s e d → InHand (slice_get constants) (problem_of before es) (problem_of zs es) s d

-- The step that gives a solution, by an equation in hand, goes on with the work.
abbrev pub WorkAssigns : Type 0
WorkAssigns = (constants : List SimpleType) (before zs : List Addition) (es ws : List Equation) → Ready constants zs es → (s : Instantiation) → Working constants before zs es s ws
    → (e : Equation) → InHand (slice_get constants) (problem_of before es) (problem_of zs es) s e
    → (m : ℕ) (o : PlainObject) → AssignsEither (slice_get constants) (slice_get (meta_types zs)) e m o
    → (v : Instantiation) × Working constants before (assigned_more zs m o) es v ws

-- So does the step that takes arguments.
abbrev pub WorkNarrows : Type 0
WorkNarrows = (constants : List SimpleType) (before zs : List Addition) (es ws : List Equation) → Ready constants zs es → (s : Instantiation) → Working constants before zs es s ws
    → (e : Equation) → InHand (slice_get constants) (problem_of before es) (problem_of zs es) s e
    → (k : ℕ) (mask : List Bool) (ps : List Place) (c : SimpleType) → NarrowsEither (slice_get constants) (slice_get (meta_types zs)) e k mask ps c
    → (v : Instantiation) × Working constants before (narrowed_more zs k mask ps c) es v ws

-- The work goes on with some of what is held, and with parts of what is in hand.
abbrev pub WorkReduces : Type 0
WorkReduces = (constants : List SimpleType) (before zs : List Addition) (es ws us : List Equation) (s : Instantiation) → Working constants before zs es s ws
    → ((e : Equation) → Listed e us → Listed e ws
    ⊎ ((d : Equation) × InHand (slice_get constants) (problem_of before es) (problem_of zs es) s d × PartOf (slice_get constants) (slice_get (meta_types zs)) d e))
    → Working constants before zs es s us

-- A pass in which nothing is solved ends the work with the rest of the given equations.
abbrev pub WorkEnds : Type 0
WorkEnds = (constants : List SimpleType) (before zs : List Addition) (es : List Equation) → Ready constants before es → (s : Instantiation) → Solving (slice_get constants) (problem_of before es) (problem_of zs es) s
    → (ds left : List Equation) → EachUnder s es ds → Rest (slice_get constants) (slice_get (meta_types zs)) ds left → Unified (slice_get constants) (problem_of before es) (problem_of zs es) left

-- A clash of a part of what is in hand ends it too.
abbrev pub WorkClashes : Type 0
WorkClashes = (constants : List SimpleType) (before zs : List Addition) (es : List Equation) (s : Instantiation) → Solving (slice_get constants) (problem_of before es) (problem_of zs es) s
    → (e p : Equation) → InHand (slice_get constants) (problem_of before es) (problem_of zs es) s e
    → PartOf (slice_get constants) (slice_get (meta_types zs)) e p → Clashes (slice_get constants) (slice_get (meta_types zs)) p
    → Clashed (slice_get constants) (problem_of before es) (problem_of zs es) (length p.locals) p.left p.right

-- Equations are taken apart one by one: nothing is done yet; those of which the last one is taken come down to what comes of that one; and what is left over at the end is the rest.
pub record ReducesOn (constants metas : Types) : Type 0 where
  pub nothing : (es : List Equation) → Reduced constants metas es es
  pub last : (es left ws ds : List Equation) (e : Equation) → Reduced constants metas es (left ++ (ws ++ e ∷ [])) → Reduced constants metas (e ∷ []) ds → Reduced constants metas es (left ++ (ws ++ ds))
  pub left_over : (es left ws : List Equation) (e : Equation) → Reduced constants metas es (left ++ (ws ++ e ∷ [])) → Reduced constants metas es ((left ++ e ∷ []) ++ ws)
  pub rest : (es left : List Equation) → Reduced constants metas es (left ++ []) → ((e : Equation) → Listed e left → LeftOver constants metas e) → Rest constants metas es left

abbrev pub WorkIsReduced : Type 0
WorkIsReduced = (constants metas : Types) → ReducesOn constants metas
