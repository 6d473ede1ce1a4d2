-- The binders of a declaration, as they stand in what is found of it, and their variables in a front context.
-- Binders are numbered: first the implicit variables, then the unnamed ones, which stand for metavariables that are left. Before it is put in front, binder x
-- is the constant of number x past the signature.
use Rattle.std.specs.Prelude.{ℕ, ◌+◌, ◌-◌, ◌≡◌, ◌<◌, false, nat_lt, if◌then◌else◌, List, length, Some, None, slice_get}
use Rattle.clf_syntax.specs.declared.tree.Mode.{Mode}
use Rattle.clf_syntax.specs.declared.tree.Mode.TheVariants.{Persistent}
use Rattle.clf_syntax.specs.declared.tree.Head.TheVariants.{Const, Var}
use Rattle.clf_syntax.specs.Tree.{PlainObject}
use Rattle.clf_syntax.specs.TypeTree.{PlainType, SimpleType}
use Rattle.clf_syntax.specs.Simple.{erase}
use Rattle.use_contexts.specs.Context.{Context, HasVariable}
use Rattle.hered_subst.specs.Substitution.{Environment, keep, SubstitutedType}
use Rattle.subst_laws.specs.Environments.{Instantiation, instant}
use Rattle.store_laws.specs.Mentions.{mentions}
use Rattle.clf_sig.specs.Entry.{PlainSignature}
use Rattle.pattern_laws.specs.Instantiations.{Types, Instantiates}
use Rattle.elaboration_laws.specs.ItemSetting.{item_constants}
use Rattle.celf_elaboration.specs.Directives.{no_parameters}

-- how many constants there are before the unnamed binders
abbrev pub named_count : PlainSignature → List PlainType → ℕ
named_count sig xs = length sig + length xs

-- the simple types of the constants, the implicit variables and the unnamed binders
abbrev pub binder_constants : PlainSignature → List PlainType → List SimpleType → Types
binder_constants sig xs unnamed c = if nat_lt c (named_count sig xs) then item_constants sig xs c else slice_get unnamed (c - named_count sig xs)

-- All metavariables of an item are put in: each becomes an object without variables over the constants and binders. The types of the binders are those of
-- the implicit variables after that, and types of the simple types of the unnamed ones.
pub record IsAllPutIn (sig : PlainSignature) (xs : List PlainType) (metas : Types) (unnamed : List SimpleType) (final : Instantiation) (types : List PlainType) : Type 0 where
  pub instantiates : Instantiates (binder_constants sig xs unnamed) metas no_parameters final
  pub implicit : (x : ℕ) (a b : PlainType) → slice_get xs x ≡ Some a → slice_get types x ≡ Some b → SubstitutedType (instant final) a b
  pub others : (j : ℕ) (b : PlainType) → slice_get types (length xs + j) ≡ Some b → slice_get unnamed j ≡ Some (erase b)
  pub count : length types ≡ length xs + length unnamed

-- Each metavariable of an item has an object in which no metavariable is left that is there after unification and has no solution.
abbrev pub NothingLeft : Types → Types → Instantiation → Instantiation → Type 0
NothingLeft metas after given s = (m : ℕ) (a : SimpleType) → metas m ≡ Some a
    → (o : PlainObject) × (s m ≡ Some o) × ((k : ℕ) (u : SimpleType) → after k ≡ Some u → given k ≡ None → mentions k o ≡ false)

-- the types of the implicit variables with all solutions put in
pub record TypesBecome (s : Instantiation) (xs types : List PlainType) : Type 0 where
  pub becomes : (x : ℕ) (a b : PlainType) → slice_get xs x ≡ Some a → slice_get types x ≡ Some b → SubstitutedType (instant s) a b
  pub count : length types ≡ length xs

-- Binder x, of the type a, has the variable of this number in the front context: that is put for its constant, in its own type too.
pub record IsInFront (n : ℕ) (front : Context) (e : Environment) (x : ℕ) (a : PlainType) (number : ℕ) : Type 0 where
  pub type : PlainType
  pub put : e (Const (n + x)) ≡ keep (Var number)
  pub variable : HasVariable front number type
  pub carried : SubstitutedType e a type

-- The environment puts the variables of a front context for the binders of these types, each for one: variable j stands for binder `binder_of j`.
pub record FrontsBinders (n : ℕ) (types : List PlainType) (front : Context) (e : Environment) (binder_of : ℕ → ℕ) : Type 0 where
  pub constants : (c : ℕ) → c < n → e (Const c) ≡ keep (Const c)
  pub each : (x : ℕ) (a : PlainType) → slice_get types x ≡ Some a → (j : ℕ) × IsInFront n front e x a j × (binder_of j ≡ x)
  pub only : (j : ℕ) (b : PlainType) → HasVariable front j b → (a : PlainType) × (slice_get types (binder_of j) ≡ Some a) × IsInFront n front e (binder_of j) a j

abbrev pub AllPersistent : Context → Type 0
AllPersistent front = (i : ℕ) (e : Mode × PlainType) → slice_get front i ≡ Some e → e.0 ≡ Persistent
