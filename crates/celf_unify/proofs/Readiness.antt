-- The sides of equations that are ready are typed, as the store is.
use Rattle.std.specs.Prelude.{List, [], ◌∷◌}
use Rattle.std.proofs.Common.{subst}
use Rattle.std.specs.List.{slice_get}
use Rattle.clf_syntax.specs.TypeTree.{SimpleType}
use Rattle.store_laws.specs.Additions.{Addition, meta_types}
use Rattle.pattern_laws.specs.Instantiations.{closed}
use Rattle.pattern_laws.specs.Equations.{Locals, scoped, Equation}
use Rattle.solver_laws.specs.Solving.{Ready}
use Rattle.solver_laws.proofs.Stores.{heads_closed}
use Rattle.metavars.specs.Stored.{Stored, constants, additions}
use Rattle.metavars.specs.Typed.{TypesStore}
use Rattle.metavars.proofs.TypesStores.{types-extended, store_is_typed}
use Rattle.celf_unify.specs.Steps.{IsTypedThere}
use Rattle.celf_unify.specs.Passes.{IsReady}

types_scoped : (cs : List SimpleType) (zs : List Addition) (es : List Equation) → Ready cs zs es → (ls : Locals) → TypesStore (scoped ls (closed (slice_get cs) (slice_get (meta_types zs)))) zs
types_scoped cs zs es r [] = subst (λ g. TypesStore g zs) (heads_closed cs zs) (store_is_typed cs zs r.store [])
types_scoped cs zs es r (l ∷ ls) = types-extended l.1 (scoped ls (closed (slice_get cs) (slice_get (meta_types zs)))) zs (types_scoped cs zs es r ls)

pub left_typed : (s : Stored) (e : Equation) → IsReady s (e ∷ []) → IsTypedThere s e.left
left_typed s e r = (scoped e.locals (closed (slice_get (constants s)) (slice_get (meta_types (additions s)))), e.type, types_scoped (constants s) (additions s) (e ∷ []) r e.locals, r.typed.0.0)

pub right_typed : (s : Stored) (e : Equation) → IsReady s (e ∷ []) → IsTypedThere s e.right
right_typed s e r = (scoped e.locals (closed (slice_get (constants s)) (slice_get (meta_types (additions s)))), e.type, types_scoped (constants s) (additions s) (e ∷ []) r e.locals, r.typed.0.1)
