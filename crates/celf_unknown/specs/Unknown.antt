-- The names of an item that have no meaning at their places, and the first of them.
use Rattle.std.specs.Prelude.{ℕ, List, [], ◌∷◌, ◌++◌, Option, is_some, if◌then◌else◌}
use Rattle.std.specs.List.{flat_map}
use Rattle.celf_sugar.specs.declared.plain.PName.{PName}
use Rattle.clf_sig.specs.Entry.{PlainSignature}
use Rattle.celf_sugar.specs.Earliest.{earliest}
use Rattle.celf_sugar.specs.PlainTree.{DesugaredObject, lam, pair, unit, monadic, atomic, hole, DesugaredSpine, end_of_spine, and_then, DesugaredAct, argument, first, second, DesugaredSteps, no_steps, step, DesugaredTuple, end_of_tuple, entry, DesugaredType, family, function, both, top, monad, DesugaredTelescope, end, binding, DesugaredClass, of_family, of_constant, DesugaredBody, declare, query, trace, equal, check, DesugaredItem}
use Rattle.celf_names.specs.Names.{family_named, bound, bound_by_pattern, is_known}

-- the names that steps bind
abbrev pub bound_by_steps : DesugaredSteps → List (List ℕ)
bound_by_steps no_steps = []
bound_by_steps (step p h es ss) = bound_by_pattern p ++ bound_by_steps ss

-- an object's name, where it has no meaning
abbrev pub unknown_head : PlainSignature → List (List ℕ) → PName → List PName
unknown_head sig scope n = if is_known sig scope n then [] else n ∷ []

-- a type's name, where it has no meaning
abbrev pub unknown_family : PlainSignature → PName → List PName
unknown_family sig n = if is_some (family_named sig n.name) then [] else n ∷ []

-- The names without a meaning in an object, where these names are bound around it. A step binds in the later steps and in the tuple.
abbrev mutual
  pub unknown_in_object : PlainSignature → List (List ℕ) → DesugaredObject → List PName
  unknown_in_object sig scope (lam s m n b) = unknown_in_object sig (scope ++ bound n) b
  unknown_in_object sig scope (pair s l r) = unknown_in_object sig scope l ++ unknown_in_object sig scope r
  unknown_in_object sig scope (unit s) = []
  unknown_in_object sig scope (monadic s ss t) = unknown_in_steps sig scope ss ++ unknown_in_tuple sig (scope ++ bound_by_steps ss) t
  unknown_in_object sig scope (atomic s h es) = unknown_head sig scope h ++ unknown_in_spine sig scope es
  unknown_in_object sig scope (hole s) = []

  pub unknown_in_spine : PlainSignature → List (List ℕ) → DesugaredSpine → List PName
  unknown_in_spine sig scope end_of_spine = []
  unknown_in_spine sig scope (and_then a es) = unknown_in_act sig scope a ++ unknown_in_spine sig scope es

  pub unknown_in_act : PlainSignature → List (List ℕ) → DesugaredAct → List PName
  unknown_in_act sig scope (argument m o) = unknown_in_object sig scope o
  unknown_in_act sig scope first = []
  unknown_in_act sig scope second = []

  pub unknown_in_steps : PlainSignature → List (List ℕ) → DesugaredSteps → List PName
  unknown_in_steps sig scope no_steps = []
  unknown_in_steps sig scope (step p h es ss) = (unknown_head sig scope h ++ unknown_in_spine sig scope es) ++ unknown_in_steps sig (scope ++ bound_by_pattern p) ss

  pub unknown_in_tuple : PlainSignature → List (List ℕ) → DesugaredTuple → List PName
  unknown_in_tuple sig scope end_of_tuple = []
  unknown_in_tuple sig scope (entry m o t) = unknown_in_object sig scope o ++ unknown_in_tuple sig scope t

-- Those in a type. A function and an entry of a telescope bind in what follows.
abbrev mutual
  pub unknown_in_type : PlainSignature → List (List ℕ) → DesugaredType → List PName
  unknown_in_type sig scope (family s h is) = unknown_family sig h ++ flat_map (unknown_in_object sig scope) is
  unknown_in_type sig scope (function s m n a b) = unknown_in_type sig scope a ++ unknown_in_type sig (scope ++ bound n) b
  unknown_in_type sig scope (both s a b) = unknown_in_type sig scope a ++ unknown_in_type sig scope b
  unknown_in_type sig scope (top s) = []
  unknown_in_type sig scope (monad s t) = unknown_in_telescope sig scope t

  pub unknown_in_telescope : PlainSignature → List (List ℕ) → DesugaredTelescope → List PName
  unknown_in_telescope sig scope end = []
  unknown_in_telescope sig scope (binding m n a t) = unknown_in_type sig scope a ++ unknown_in_telescope sig (scope ++ bound n) t

-- those in what is declared
abbrev pub unknown_in_class : PlainSignature → List (List ℕ) → DesugaredClass → List PName
unknown_in_class sig scope (of_family t) = unknown_in_telescope sig scope t
unknown_in_class sig scope (of_constant a) = unknown_in_type sig scope a

-- all of an item
abbrev pub unknown_names : PlainSignature → DesugaredBody → List PName
unknown_names sig (declare n i c) = unknown_in_class sig [] c
unknown_names sig (query d e l a t) = unknown_in_type sig [] t
unknown_names sig (trace n t) = unknown_in_telescope sig [] t
unknown_names sig (equal l r t) = unknown_in_object sig [] l ++ (unknown_in_object sig [] r ++ unknown_in_type sig [] t)
unknown_names sig (check o t) = unknown_in_object sig [] o ++ unknown_in_type sig [] t

-- the byte where a name begins
abbrev pub place : PName → ℕ
place n = n.span.start

-- the first of them in the text
abbrev pub first_unknown : PlainSignature → DesugaredItem → Option PName
first_unknown sig item = earliest place (unknown_names sig item.body)
