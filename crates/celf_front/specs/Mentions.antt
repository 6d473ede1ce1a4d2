-- Which binder's type mentions the constant of which binder.
use Rattle.std.specs.Prelude.{ℕ, ◌≡◌, ◌<◌, List, length, Option, Some, None, Contains, true}
use Rattle.std.specs.List.{slice_index_or}
use Rattle.clf_syntax.specs.declared.tree.Head.{Head}
use Rattle.clf_syntax.specs.declared.tree.Head.TheVariants.{Const, Var, Meta}
use Rattle.clf_syntax.specs.TypeTree.{PlainType, top}
use Rattle.celf_front.specs.declared.needs.Needs.{Needs}
use Rattle.celf_front.specs.InFront.{binder_at}
use Rattle.celf_front.specs.Needs.{count_of, mentions}
use Rattle.celf_front.specs.Occurring.{heads_in_type}

-- Binders are listed by the numbers that their constants have past the first n. The place of the binder that a head stands for:
abbrev pub binder_in : ℕ → List ℕ → Head → Option ℕ
binder_in n binders (Const c) = binder_at n binders c
binder_in n binders (Var i) = None
binder_in n binders (Meta m) = None

-- The type mentions the binder at place j of the list.
abbrev pub MentionsBinder : ℕ → List ℕ → PlainType → ℕ → Type 0
MentionsBinder n binders a j = (h : Head) × Contains (heads_in_type a) h × (binder_in n binders h ≡ Some j)

-- the type of the binder at a place of the list
abbrev pub binder_type_at : List PlainType → List ℕ → ℕ → PlainType
binder_type_at types binders i = slice_index_or types (slice_index_or binders i 0) top

-- The table has a row for each binder of the list, with a flag exactly where its type mentions the other.
pub record AreNeeds (n : ℕ) (types : List PlainType) (binders : List ℕ) (t : Needs) : Type 0 where
  pub count : count_of t ≡ length binders
  pub mentioned : (i j : ℕ) → i < length binders → mentions t i j ≡ true → MentionsBinder n binders (binder_type_at types binders i) j
  pub marked : (i j : ℕ) → i < length binders → MentionsBinder n binders (binder_type_at types binders i) j → mentions t i j ≡ true
