-- Laws of new metavariables and of stores, as statements; the functions of the crate's `laws` state them.
use Rattle.std.specs.Prelude.{ℕ, ◌+◌, ◌≡◌, List, map, Some}
use Rattle.std.specs.List.{slice_get}
use Rattle.clf_syntax.specs.declared.tree.Head.TheVariants.{Var, Meta}
use Rattle.clf_syntax.specs.TypeTree.{SimpleType}
use Rattle.clf_syntax.specs.Simple.{Assignment, assigned, SimplyTyped}
use Rattle.store_laws.specs.Additions.{Addition, meta_types}
use Rattle.store_laws.specs.Store.{IsStore}
use Rattle.metavars.specs.Fresh.{Scope, new_types, fresh_object}
use Rattle.metavars.specs.Typed.{TypesStore}

-- The object made of new metavariables has its simple type, where the new metavariables, numbered from k on, have theirs, and the variables those of the scope.
abbrev pub FreshIsTyped : Type 0
FreshIsTyped = (g : Assignment) (k : ℕ) (s : Scope) (t : SimpleType)
    → ((j : ℕ) (u : SimpleType) → slice_get (new_types s t) j ≡ Some u → g (Meta (k + j)) ≡ Some u)
    → ((i : ℕ) (u : SimpleType) → slice_get (map (λ l. l.type) s) i ≡ Some u → g (Var i) ≡ Some u)
    → SimplyTyped g (fresh_object k s t) t

-- The types of the constants and of the metavariables type the store, whatever variables there are.
abbrev pub StoreIsTyped : Type 0
StoreIsTyped = (constants : List SimpleType) (zs : List Addition) → IsStore constants zs → (variables : List SimpleType) → TypesStore (assigned constants (meta_types zs) variables) zs
