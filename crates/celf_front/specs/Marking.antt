-- Inner: how a row of the table is marked, head by head.
use Rattle.std.specs.Prelude.{ℕ, ◌≡◌, ◌<◌, List, [], length, Option, Some, None, Bool, true}
use Rattle.std.specs.List.{slice_index_or, slice_set}
use Rattle.clf_syntax.specs.declared.tree.Head.{Head}
use Rattle.clf_syntax.specs.declared.tree.Head.TheVariants.{Const}
use Rattle.clf_syntax.specs.TypeTree.{PlainType}
use Rattle.celf_front.specs.Needs.{flag}
use Rattle.celf_front.specs.Mentions.{binder_in, MentionsBinder, binder_type_at}

abbrev pub marked_at : Option ℕ → List Bool → List Bool
marked_at None row = row
marked_at (Some j) row = slice_set row j true

-- The row has a flag for each binder, set exactly where one of the first heads stands for it.
pub record IsMarked (n : ℕ) (binders : List ℕ) (heads : List Head) (count : ℕ) (row : List Bool) : Type 0 where
  pub size : length row ≡ length binders
  pub comes : (j : ℕ) → flag row j ≡ true → (k : ℕ) × (k < count) × (binder_in n binders (slice_index_or heads k (Const 0)) ≡ Some j)
  pub set : (j k : ℕ) → k < count → binder_in n binders (slice_index_or heads k (Const 0)) ≡ Some j → flag row j ≡ true

-- The row of a binder of this type.
pub record IsRow (n : ℕ) (binders : List ℕ) (a : PlainType) (row : List Bool) : Type 0 where
  pub mentioned : (j : ℕ) → flag row j ≡ true → MentionsBinder n binders a j
  pub marked : (j : ℕ) → MentionsBinder n binders a j → flag row j ≡ true

-- The first rows of the table.
pub record AreRows (n : ℕ) (types : List PlainType) (binders : List ℕ) (count : ℕ) (rows : List (List Bool)) : Type 0 where
  pub size : length rows ≡ count
  pub each : (i : ℕ) → i < count → IsRow n binders (binder_type_at types binders i) (slice_index_or rows i [])
