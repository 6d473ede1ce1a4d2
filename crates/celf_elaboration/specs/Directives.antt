-- Directives that are not explicit: their trees, the equations gathered of them, and their elaborations.
--
-- An implicit variable of a directive is a metavariable, and in the tree it is the object that is made of new metavariables at its simple type, so that no
-- metavariable has a function, a pair or the unit as its result. The reading has a place holder for it, which is a metavariable of its own number.
use Rattle.std.specs.Prelude.{ℕ, ◌+◌, ◌-◌, ◌≡◌, ◌≤◌, ◌<◌, nat_lt, if◌then◌else◌, true, List, [], ◌∷◌, ◌++◌, length, map, Option, Some, None, option_map, slice_get}
use Rattle.clf_syntax.specs.declared.tree.Head.TheVariants.{Meta}
use Rattle.clf_syntax.specs.TypeTree.{PlainType, SimpleType}
use Rattle.clf_syntax.specs.Simple.{erase}
use Rattle.subst_laws.specs.Environments.{Instantiation, instant}
use Rattle.clf_sig.specs.Entry.{PlainSignature, constant_type}
use Rattle.clf_sig.specs.Core.{PlainCore}
use Rattle.typing_laws.specs.SimpleTyping.{families_of}
use Rattle.pattern_laws.specs.Instantiations.{Types, closed, Instantiates}
use Rattle.pattern_laws.specs.Equations.{Equation, SolvesEach}
use Rattle.reach_laws.specs.Rest.{EachUnder}
use Rattle.metavars.specs.Fresh.{new_types, fresh_object}
use Rattle.celf_sugar.specs.PlainTree.{DesugaredBody}
use Rattle.gathering.specs.Shape.{unmarked_shape}
use Rattle.gathering.specs.Setting.{Setting}
use Rattle.celf_elaboration.specs.Fillings.{Fillings, AreNew, types_of_new}
use Rattle.celf_elaboration.specs.Names.{ImplicitVariable, TypedVariable, with_simple_type, types_read}
use Rattle.celf_elaboration.specs.Items.{ReadsBody, SubstitutedCore, CoreGathers, DerivedCore}

-- how many metavariables the objects of the first implicit variables take
abbrev pub taken : List ImplicitVariable → ℕ
taken [] = 0
taken (v ∷ vs) = length (new_types [] v.type) + taken vs

-- the simple types of all metavariables of the tree: those of the implicit variables, and then those of the fillings
abbrev pub types_of_variables : List ImplicitVariable → List SimpleType
types_of_variables [] = []
types_of_variables (v ∷ vs) = new_types [] v.type ++ types_of_variables vs

-- The implicit variables, whose place holders are numbered from `first` on, become their objects of new metavariables, numbered in order from k on.
abbrev pub PutsNew : Instantiation → ℕ → ℕ → List ImplicitVariable → Type 0
PutsNew i first k [] = Unit {0}
PutsNew i first k (v ∷ vs) = (i first ≡ Some (fresh_object k [] v.type)) × PutsNew i (first + 1) (k + length (new_types [] v.type)) vs

pub record PlaceHolders (vs : List ImplicitVariable) (fillings : Fillings) (first : ℕ) (put : Instantiation) : Type 0 where
  pub new : AreNew (taken vs) fillings
  -- The place holders come after all metavariables of the tree.
  pub after : taken vs + length (types_of_new fillings) ≤ first
  pub puts : PutsNew put first 0 vs
  pub others : (m : ℕ) → m < first → put m ≡ None

-- The setting in which a directive is gathered: the place holders have the types that are read for their variables.
abbrev pub holder_type : List TypedVariable → ℕ → ℕ → Option PlainType
holder_type vs first k = if nat_lt k first then None else slice_get (types_read vs) (k - first)

abbrev pub directive_metas : List TypedVariable → Fillings → ℕ → Types
directive_metas vs fillings first k = if nat_lt k first then slice_get (types_of_variables (map with_simple_type vs) ++ types_of_new fillings) k else option_map erase (holder_type vs first k)

abbrev pub directive_setting : PlainSignature → List TypedVariable → Fillings → ℕ → Setting
directive_setting sig vs fillings first = record {
  given = constant_type sig;
  implicit = holder_type vs first;
  shape = unmarked_shape;
  simple = closed (λ c. option_map erase (constant_type sig c)) (directive_metas vs fillings first);
  arguments = families_of sig;
  fills = true;
}

-- The tree of a directive with its equations: what is read with place holders, and gathered of it, after their objects are put.
pub record IsDirectiveTree (sig : PlainSignature) (vs : List TypedVariable) (body : DesugaredBody) (fillings : Fillings) (tree : PlainCore) (equations : List Equation) : Type 0 where
  pub first : ℕ
  pub put : Instantiation
  pub held : PlainCore
  pub gathered : List Equation
  pub holders : PlaceHolders (map with_simple_type vs) fillings first put
  pub reading : ReadsBody sig (λ x. Meta (first + x)) (map with_simple_type vs) body fillings held
  pub gathers : CoreGathers sig (directive_setting sig vs fillings first) held gathered
  pub becomes : SubstitutedCore (instant put) held tree
  pub become : EachUnder put gathered equations

abbrev pub no_parameters : Types
no_parameters i = None

-- An elaboration of a directive: closed objects of their simple types are filled in for all metavariables of its tree, and so for its implicit variables.
-- It is well formed where the rules derive it, and the equations gathered hold of the objects. The second has to be asked: where an object is put for an
-- implicit variable, what is applied to it may be gone, and nothing else says that it had the type that was read.
pub record ElaboratesDirective (sig : PlainSignature) (metas : Types) (tree elaborated : PlainCore) : Type 0 where
  pub fills : Instantiation
  pub instantiates : Instantiates (λ c. option_map erase (constant_type sig c)) metas no_parameters fills
  pub filling : SubstitutedCore (instant fills) tree elaborated

pub record IsWellFormed (sig : PlainSignature) (metas : Types) (tree elaborated : PlainCore) (equations : List Equation) (elaboration : ElaboratesDirective sig metas tree elaborated) : Type 0 where
  pub derived : DerivedCore sig elaborated
  pub solved : SolvesEach (instant elaboration.fills) equations
