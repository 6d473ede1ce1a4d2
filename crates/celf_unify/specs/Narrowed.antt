-- Inner: what a metavariable becomes on fewer arguments.
use Rattle.std.specs.Prelude.{ℕ, Bool, ◌≡◌, List, length, Some}
use Rattle.std.specs.List.{slice_get}
use Rattle.clf_syntax.specs.declared.tree.Head.TheVariants.{Meta}
use Rattle.clf_syntax.specs.Tree.{PlainObject, atomic, head_alone}
use Rattle.clf_syntax.specs.TypeTree.{SimpleType}
use Rattle.store_laws.specs.Additions.{meta_types}
use Rattle.pattern_laws.specs.Patterns.{IsFinal, Place, on, lams, arrows, masked, functions}
use Rattle.metavars.specs.Stored.{Stored, additions}

-- The type is a function of the places to the end, which is no function.
pub record HasShape (t : SimpleType) (ps : List Place) (end : SimpleType) : Type 0 where
  pub whole : arrows ps end ≡ t
  pub no_function : functions end ≡ 0

-- The type of the new metavariable, and the solution of the old one.
abbrev pub NarrowsTo : Stored → ℕ → List Bool → SimpleType → PlainObject → Type 0
NarrowsTo s k mask t o = (zs : List Place) (c : SimpleType) → slice_get (meta_types (additions s)) k ≡ Some (arrows zs c) → IsFinal c
    → (t ≡ arrows (masked 0 mask zs) c) × (o ≡ lams zs (atomic (on (masked 0 mask zs) (head_alone (Meta (length (meta_types (additions s))))))))
