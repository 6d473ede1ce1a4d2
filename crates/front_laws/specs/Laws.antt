-- Laws of binders in front: the variable of a binder, and its type in the front context.
use Rattle.std.specs.Prelude.{ℕ, ◌+◌, ◌≡◌, ◌≢◌, List, [], ◌∷◌, ◌++◌, length, reverse, Some, None, Contains, AllPairs}
use Rattle.std.specs.List.{slice_get}
use Rattle.clf_syntax.specs.declared.tree.Head.{Head}
use Rattle.clf_syntax.specs.declared.tree.Head.TheVariants.{Const, Var}
use Rattle.clf_syntax.specs.TypeTree.{PlainType}
use Rattle.use_contexts.specs.Context.{Context, HasVariable}
use Rattle.hered_subst.specs.Substitution.{keep, SubstitutedType}
use Rattle.clf_sig.specs.Entry.{PlainClass}
use Rattle.celf_front.specs.Fronted.{at_places, IsInOrder}
use Rattle.celf_front.specs.InFront.{in_front}
use Rattle.celf_front.specs.Mentions.{binder_in}
use Rattle.celf_front.specs.Occurring.{heads_in_type}
use Rattle.celf_front.specs.UnderFront.{IsFront}

-- The type mentions none of these binders.
abbrev pub MentionsNone : ℕ → List ℕ → PlainType → Type 0
MentionsNone n binders a = (h : Head) → Contains (heads_in_type a) h → binder_in n binders h ≡ None

-- Binders in front are listed newest first: some newer ones, x, and older ones. Where the type of x mentions neither x nor a newer one, the variable of x has,
-- over the front context, the type that comes of it with variables put for all binders.
abbrev pub BindersHaveVariables : Type 0
BindersHaveVariables = (n : ℕ) (types : List PlainType) (newer older : List ℕ) (x : ℕ) (a : PlainType) (front : Context)
    → IsFront n types (newer ++ x ∷ older) front → slice_get types x ≡ Some a → MentionsNone n (newer ++ x ∷ []) a
    → (t : PlainType) × HasVariable front (length newer) t × SubstitutedType (in_front n (newer ++ x ∷ older)) a t

-- Variable `number` of the front context is put for the constant of binder x, and has the type that comes of the type a of x.
pub record IsVariableOf (n : ℕ) (binders : List ℕ) (front : Context) (x : ℕ) (a : PlainType) : Type 0 where
  pub number : ℕ
  pub type : PlainType
  pub put : in_front n binders (Const (n + x)) ≡ keep (Var number)
  pub variable : HasVariable front number type
  pub carried : SubstitutedType (in_front n binders) a type

-- In the order that their types allow each binder has its variable, where each is listed once.
abbrev pub BindersStand : Type 0
BindersStand = (n : ℕ) (types : List PlainType) (binders : List ℕ) (class answer : PlainClass) (i : IsInOrder n types binders class answer) (x : ℕ) (a : PlainType)
    → AllPairs (λ y z. y ≢ z) binders → Contains binders x → slice_get types x ≡ Some a → IsVariableOf n (reverse (at_places binders i.order)) i.under.front x a
