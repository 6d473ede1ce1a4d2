-- Binders in front of a declared type: one for each implicit variable, and one for each parameter of the objects that are filled in.
use Rattle.std.specs.Prelude.{ℕ, ◌+◌, ◌≡◌, ◌<◌, length, List, Some}
use Rattle.std.specs.List.{slice_get}
use Rattle.clf_syntax.specs.declared.tree.Head.{Head}
use Rattle.clf_syntax.specs.declared.tree.Head.TheVariants.{Const, Var}
use Rattle.clf_syntax.specs.TypeTree.{PlainType, SimpleType}
use Rattle.clf_syntax.specs.Simple.{erase}
use Rattle.use_contexts.specs.Context.{Context, HasVariable}
use Rattle.hered_subst.specs.Substitution.{Environment, keep, SubstitutedType}
use Rattle.subst_laws.specs.Environments.{Instantiation, instant}
use Rattle.clf_sig.specs.Entry.{PlainSignature}
use Rattle.pattern_laws.specs.Instantiations.{Types, over, Instantiates}
use Rattle.elaboration_laws.specs.ItemSetting.{item_constants}

-- The head h is put as a variable of the front context, whose type is what comes of the type b.
pub record StandsInFront (front : Context) (e : Environment) (stands_for : ℕ → Head) (h : Head) (b : PlainType) : Type 0 where
  pub number : ℕ
  pub type : PlainType
  pub put : e h ≡ keep (Var number)
  pub back : stands_for number ≡ h
  pub variable : HasVariable front number type
  pub carried : SubstitutedType e b type

-- The environment e puts the variables of the front context, one for each implicit variable and each parameter: each variable j stands for the head `stands_for j`.
-- An implicit variable's binder has the type that is read for it, with the same objects filled in as in the item itself.
pub record PutsInFront (sig : PlainSignature) (xs : List PlainType) (parameters : Types) (t : Instantiation) (front : Context) (e : Environment) (stands_for : ℕ → Head) : Type 0 where
  pub constants : (c : ℕ) → c < length sig → e (Const c) ≡ keep (Const c)
  pub implicit : (x : ℕ) (a b : PlainType) → slice_get xs x ≡ Some a → SubstitutedType (instant t) a b → StandsInFront front e stands_for (Const (length sig + x)) b
  pub parameter : (i : ℕ) (u : SimpleType) → parameters i ≡ Some u → (j : ℕ) × (e (Var i) ≡ keep (Var j)) × (stands_for j ≡ Var i)
  pub known : (j : ℕ) (b : PlainType) → HasVariable front j b → over (item_constants sig xs) parameters (stands_for j) ≡ Some (erase b)
  pub placed : (i j : ℕ) (u : SimpleType) → parameters i ≡ Some u → e (Var i) ≡ keep (Var j) → (b : PlainType) × HasVariable front j b × (erase b ≡ u)

-- An elaboration of a declared type: t fills objects in for the new metavariables of the tree, over the implicit variables and any parameters, and the
-- variables of the front context are put for these.
pub record ElaboratesType (sig : PlainSignature) (xs : List PlainType) (metas : Types) (tree : PlainType) (front : Context) (elaborated : PlainType) : Type 0 where
  pub parameters : Types
  pub fills : Instantiation
  pub put : Environment
  pub stands_for : ℕ → Head
  pub filled : PlainType
  pub instantiates : Instantiates (item_constants sig xs) metas parameters fills
  pub in_front : PutsInFront sig xs parameters fills front put stands_for
  pub filling : SubstitutedType (instant fills) tree filled
  pub putting : SubstitutedType put filled elaborated
