-- The metavariables of a tree by first occurrence.
use Rattle.std.specs.Prelude.{ℕ, List, [], ◌∷◌, ◌++◌, Option, Some, None, Contains}
use Rattle.std.specs.List.{filter_map}
use Rattle.clf_syntax.specs.declared.tree.Head.{Head}
use Rattle.clf_syntax.specs.declared.tree.Head.TheVariants.{Const, Var, Meta}

abbrev pub meta_in : Head → Option ℕ
meta_in (Const c) = None
meta_in (Var i) = None
meta_in (Meta m) = Some m

-- the metavariables among heads, each as often as it stands there
abbrev pub metavariables : List Head → List ℕ
metavariables hs = filter_map meta_in hs

-- FirstOfEach all once: a list without what comes again.
pub data FirstOfEach : List ℕ → List ℕ → Type 0 where
  of_none : FirstOfEach [] []
  of_new : {all once : List ℕ} {m : ℕ} → FirstOfEach all once → (Contains all m → ⊥) → FirstOfEach (all ++ m ∷ []) (once ++ m ∷ [])
  of_again : {all once : List ℕ} {m : ℕ} → FirstOfEach all once → Contains all m → FirstOfEach (all ++ m ∷ []) once

-- A list that has the first of each of some has the first of each of these and more.
abbrev pub ListsMore : List ℕ → List ℕ → List ℕ → Type 0
ListsMore more old new = (all : List ℕ) → FirstOfEach all old → FirstOfEach (all ++ more) new
