-- A kind or a type with its binders in front, in the order that their types allow, or the circle in its way.
use Rattle.std.specs.Prelude.{ℕ, ◌≡◌, List, length, map}
use Rattle.std.specs.List.{slice_index_or}
use Rattle.clf_syntax.specs.TypeTree.{PlainType}
use Rattle.clf_sig.specs.Entry.{PlainClass}
use Rattle.clf_sig.specs.Signature.{plain_class}
use Rattle.celf_elaboration.specs.Binders.{IsOrder, IsCircle}
use Rattle.celf_front.specs.declared.needs.Needs.{Needs}
use Rattle.celf_front.specs.declared.fronted.Fronted.{Fronted}
use Rattle.celf_front.specs.declared.fronted.Fronted.TheVariants.{Under, Circle}
use Rattle.celf_front.specs.Needs.{mentions}
use Rattle.celf_front.specs.Mentions.{AreNeeds}
use Rattle.celf_front.specs.UnderFront.{IsUnderFront}

-- the numbers of the binders at places of their list
abbrev pub at_places : List ℕ → List ℕ → List ℕ
at_places binders places = map (λ p. slice_index_or binders p 0) places

pub record IsInOrder (n : ℕ) (types : List PlainType) (binders : List ℕ) (class answer : PlainClass) : Type 0 where
  pub needs : Needs
  pub order : List ℕ
  pub are_needs : AreNeeds n types binders needs
  pub is_order : IsOrder (length binders) (mentions needs) order
  pub under : IsUnderFront n types (at_places binders order) class answer

pub record IsInCircle (n : ℕ) (types : List PlainType) (binders circle : List ℕ) : Type 0 where
  pub needs : Needs
  pub places : List ℕ
  pub are_needs : AreNeeds n types binders needs
  pub is_circle : IsCircle (length binders) (mentions needs) places
  pub answered : circle ≡ at_places binders places

abbrev pub IsFronted : ℕ → List PlainType → List ℕ → PlainClass → Fronted → Type 0
IsFronted n types binders class (Under answer) = IsInOrder n types binders class (plain_class answer)
IsFronted n types binders class (Circle circle) = IsInCircle n types binders circle
