-- Laws of solutions, as statements; the functions of the crate's `laws` state them.
use Rattle.std.specs.Prelude.{ℕ, List, [], ◌∷◌, ◌++◌}
use Rattle.clf_syntax.specs.Tree.{PlainObject}
use Rattle.clf_syntax.specs.TypeTree.{SimpleType}
use Rattle.subst_laws.specs.Environments.{Instantiation, TypedInstantiation}
use Rattle.store_laws.specs.Additions.{Addition, new, solved, given, heads_of}
use Rattle.store_laws.specs.PutIn.{PutIn, IsClosed}
use Rattle.store_laws.specs.Store.{MaySolve, IsStore}

-- The solutions of a store may all be put in, and what comes of that is typed and closed.
abbrev pub StoreIsPutIn : Type 0
StoreIsPutIn = (constants : List SimpleType) (zs : List Addition) → IsStore constants zs
    → (s : Instantiation) × PutIn (given zs) s × TypedInstantiation (heads_of constants zs) (heads_of constants zs) s × IsClosed s

-- A store stays one: where nothing was added, with a new metavariable, and with a solution that may be given.
abbrev pub StoreGrows : Type 0
StoreGrows = (constants : List SimpleType) → IsStore constants []
    × ((zs : List Addition) → IsStore constants zs
    → ((t : SimpleType) → IsStore constants (zs ++ new t ∷ []))
    × ((m : ℕ) (o : PlainObject) → MaySolve constants zs m o → IsStore constants (zs ++ solved m o ∷ [])))

-- So is what is left of it, where additions are taken back.
abbrev pub StoreIsCut : Type 0
StoreIsCut = (constants : List SimpleType) (zs more : List Addition) → IsStore constants (zs ++ more) → IsStore constants zs
