-- Inner: what a walk makes of whole items: their cores, and the state that it leaves. The type of a directive goes before its objects.
use Rattle.std.specs.Prelude.{ℕ, List, [], Some}
use Rattle.clf_syntax.specs.Tree.{PlainObject}
use Rattle.clf_syntax.specs.TypeTree.{PlainType, telescope_of}
use Rattle.clf_syntax.specs.Simple.{erase}
use Rattle.clf_sig.specs.Entry.{PlainClass, family_of, constant_of, PlainSignature}
use Rattle.clf_sig.specs.Core.{PlainCore, declares, queries, traces, equates, checks}
use Rattle.celf_sugar.specs.PlainTree.{DesugaredObject, DesugaredClass, of_family, of_constant, DesugaredBody, declare, query, trace, equal, check}
use Rattle.celf_explicit.specs.Types.{kind_of}
use Rattle.celf_explicit.specs.Explicit.{entry_of}
use Rattle.celf_filled.specs.Scopes.{Named}
use Rattle.celf_filled.specs.States.{State}
use Rattle.celf_filled.specs.Walk.{fill_object}
use Rattle.celf_filled.specs.WalkTypes.{Bindings, no_bindings_yet, fill_type, fill_telescope}

abbrev pub in_kind : Bindings × State → PlainClass × State
in_kind v = (family_of (kind_of (telescope_of v.0.entries)), v.1)

abbrev pub in_constant : PlainType × State → PlainClass × State
in_constant v = (constant_of v.0, v.1)

abbrev pub in_declaration : List ℕ → ℕ → PlainClass × State → PlainCore × State
in_declaration name n v = (declares name (entry_of n v.0), v.1)

abbrev pub in_query : PlainType × State → PlainCore × State
in_query v = (queries v.0, v.1)

abbrev pub in_trace : Bindings × State → PlainCore × State
in_trace v = (traces (telescope_of v.0.entries), v.1)

abbrev pub in_check : PlainType → PlainObject × State → PlainCore × State
in_check a v = (checks v.0 a, v.1)

abbrev pub in_equation : PlainType → PlainObject → PlainObject × State → PlainCore × State
in_equation a n v = (equates n v.0 a, v.1)

module _ (sig : PlainSignature) (xs : List Named) where
  -- an object without locals, at what is left of a type
  abbrev pub fill_against : PlainType → DesugaredObject → State → PlainObject × State
  fill_against a o s = fill_object sig xs [] (Some (erase a)) o s

  abbrev pub fill_check : DesugaredObject → PlainType × State → PlainCore × State
  fill_check o v = in_check v.0 (fill_against v.0 o v.1)

  abbrev pub fill_equation : DesugaredObject → DesugaredObject → PlainType × State → PlainCore × State
  fill_equation l r v = in_equation v.0 (fill_against v.0 l v.1).0 (fill_against v.0 r (fill_against v.0 l v.1).1)

  abbrev pub fill_class : DesugaredClass → State → PlainClass × State
  fill_class (of_family t) s = in_kind (fill_telescope sig xs (no_bindings_yet [], s) t)
  fill_class (of_constant t) s = in_constant (fill_type sig xs [] t s)

  abbrev pub fill_body : DesugaredBody → State → PlainCore × State
  fill_body (declare name n class) s = in_declaration name n (fill_class class s)
  fill_body (query d e l m t) s = in_query (fill_type sig xs [] t s)
  fill_body (trace n t) s = in_trace (fill_telescope sig xs (no_bindings_yet [], s) t)
  fill_body (equal l r t) s = fill_equation l r (fill_type sig xs [] t s)
  fill_body (check o t) s = fill_check o (fill_type sig xs [] t s)
