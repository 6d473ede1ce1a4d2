-- Laws of rests while the store grows, as statements; the functions of the crate's `laws` state them.
use Rattle.std.specs.Prelude.{List, ◌++◌}
use Rattle.std.specs.List.{slice_get}
use Rattle.clf_syntax.specs.TypeTree.{SimpleType}
use Rattle.subst_laws.specs.Environments.{Instantiation, ComposedInstantiation}
use Rattle.store_laws.specs.Additions.{Addition, meta_types, given}
use Rattle.pattern_laws.specs.Instantiations.{Types, closed}
use Rattle.pattern_laws.specs.Equations.{Equation, TypedEquations}
use Rattle.unify_laws.specs.Problems.{Grows}
use Rattle.reach_laws.specs.Rest.{IsAssignment, EachUnder, Rest}
use Rattle.reach_laws.specs.Unified.{IsPutIn, Unified}
use Rattle.solver_laws.specs.Solving.{problem_of, Ready}
use Rattle.rest_laws.specs.Together.{EndsTogether}

-- The rest of typed equations is their rest where there are more metavariables.
abbrev pub RestGrows : Type 0
RestGrows = (constants metas more : Types) → Grows metas more → (es left : List Equation) → TypedEquations constants metas es → Rest constants metas es left → Rest constants more es left

-- What comes down to a list comes down, under a further assignment and with more metavariables, to the rest of that list.
abbrev pub RestOfRest : Type 0
RestOfRest = (constants metas more : Types) → Grows metas more → (s : Instantiation) → IsAssignment constants more s → (es us left vs others ws final : List Equation)
    → TypedEquations constants metas es → Rest constants metas es left
    → EachUnder s es us → EachUnder s left vs → EachUnder s others ws → Rest constants more (vs ++ ws) final
    → Rest constants more (us ++ ws) final

-- All solutions of a store put in does what those that were there before do, and then itself.
abbrev pub LaterAbsorbs : Type 0
LaterAbsorbs = (constants : List SimpleType) (before after : List Addition) (es : List Equation) → Ready constants (before ++ after) es
    → (s t : Instantiation) → IsPutIn (slice_get constants) (slice_get (meta_types before)) (given before) s → IsPutIn (slice_get constants) (slice_get (meta_types (before ++ after))) (given (before ++ after)) t
    → ComposedInstantiation (closed (slice_get constants) (slice_get (meta_types (before ++ after)))) s t t

-- Two calls in turn: the second begins in the store in which the first one ended, with what was left and others. Together they are as one call on all equations: what is left is the rest of all, and the solutions are tight.
abbrev pub CallsInTurn : Type 0
CallsInTurn = (constants : List SimpleType) (zs first second : List Addition) (es left others final : List Equation) → Ready constants zs es → Ready constants ((zs ++ first) ++ second) (left ++ others)
    → Unified (slice_get constants) (problem_of zs es) (problem_of (zs ++ first) es) left
    → Unified (slice_get constants) (problem_of (zs ++ first) (left ++ others)) (problem_of ((zs ++ first) ++ second) (left ++ others)) final
    → (s : Instantiation) × (us : List Equation) × EndsTogether (slice_get constants) (problem_of zs es) (problem_of ((zs ++ first) ++ second) (left ++ others)) (es ++ others) final s us
