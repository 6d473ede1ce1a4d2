-- Stores whose solutions are typed and go in no circle.
use Rattle.std.specs.Prelude.{ℕ, ◌≡◌, false, List, [], ◌∷◌, ◌++◌, Some, None}
use Rattle.std.specs.List.{slice_get}
use Rattle.clf_syntax.specs.Tree.{PlainObject}
use Rattle.clf_syntax.specs.TypeTree.{SimpleType}
use Rattle.clf_syntax.specs.Simple.{SimplyTyped}
use Rattle.hered_subst.specs.Substitution.{Substituted}
use Rattle.subst_laws.specs.Environments.{Instantiation, instant}
use Rattle.store_laws.specs.Additions.{Addition, solved, meta_types, given, heads_of}
use Rattle.store_laws.specs.Mentions.{mentions}
use Rattle.store_laws.specs.PutIn.{PutIn}

-- When a metavariable may be given a solution.
pub record MaySolve (constants : List SimpleType) (zs : List Addition) (m : ℕ) (o : PlainObject) : Type 0 where
  pub unsolved : given zs m ≡ None
  -- The solution has the metavariable's simple type, and no free variable.
  pub typed : (t : SimpleType) × (slice_get (meta_types zs) m ≡ Some t) × SimplyTyped (heads_of constants zs) o t
  -- With all solutions put in, it does not mention the metavariable.
  pub no_circle : (s : Instantiation) (x : PlainObject) → PutIn (given zs) s → Substituted (instant s) o x → mentions m x ≡ false

-- A store: each solution could be given where it was added.
abbrev pub IsStore : List SimpleType → List Addition → Type 0
IsStore constants zs = (before : List Addition) (m : ℕ) (o : PlainObject) (after : List Addition) → zs ≡ before ++ solved m o ∷ after → MaySolve constants before m o
