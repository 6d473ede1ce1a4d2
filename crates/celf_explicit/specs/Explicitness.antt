-- An item is explicit where nothing is left to be found: it has no `_` as an object, no implicit variable, and no constant or family with
-- implicit arguments that is written without `$`.
use Rattle.std.specs.Prelude.{ℕ, Bool, true, false, not, ◌&&◌, if◌then◌else◌, List, [], ◌++◌, Option, Some, None}
use Rattle.std.specs.List.{list_all}
use Rattle.clf_sig.specs.Entry.{PlainSignature, entry_at}
use Rattle.celf_sugar.specs.declared.plain.PName.{PName}
use Rattle.celf_sugar.specs.PlainTree.{DesugaredObject, lam, pair, unit, monadic, atomic, hole, DesugaredSpine, end_of_spine, and_then, DesugaredAct, argument, first, second, DesugaredSteps, no_steps, step, DesugaredTuple, end_of_tuple, entry, DesugaredType, family, function, both, top, monad, DesugaredTelescope, end, binding, DesugaredClass, of_family, of_constant, DesugaredBody, declare, query, trace, equal, check, DesugaredItem}
use Rattle.celf_names.specs.Names.{family_named, constant_named, is_bound, begins_with_capital, bound, bound_by_pattern}
use Rattle.celf_unknown.specs.Unknown.{bound_by_steps}
use Rattle.celf_places.specs.Heads.{has_no_implicit}

-- A name that is no local: that of a constant without implicit arguments, or of none; but not that of an implicit variable.
abbrev pub needs_nothing : PlainSignature → List ℕ → Option ℕ → Bool
needs_nothing sig name None = not (begins_with_capital name)
needs_nothing sig name (Some c) = has_no_implicit (entry_at sig c)

abbrev pub is_explicit_name : PlainSignature → List (List ℕ) → PName → Bool
is_explicit_name sig scope n = if n.dollar then true else (if is_bound scope n.name then true else needs_nothing sig n.name (constant_named sig n.name))

abbrev pub family_needs_nothing : PlainSignature → Option ℕ → Bool
family_needs_nothing sig None = true
family_needs_nothing sig (Some f) = has_no_implicit (entry_at sig f)

abbrev pub is_explicit_family : PlainSignature → PName → Bool
is_explicit_family sig n = if n.dollar then true else family_needs_nothing sig (family_named sig n.name)

-- An object, where these names are bound around it. A step binds in the later steps and in the tuple.
abbrev mutual
  pub is_explicit_object : PlainSignature → List (List ℕ) → DesugaredObject → Bool
  is_explicit_object sig scope (lam s m n b) = is_explicit_object sig (scope ++ bound n) b
  is_explicit_object sig scope (pair s l r) = is_explicit_object sig scope l && is_explicit_object sig scope r
  is_explicit_object sig scope (unit s) = true
  is_explicit_object sig scope (monadic s ss t) = are_explicit_steps sig scope ss && is_explicit_tuple sig (scope ++ bound_by_steps ss) t
  is_explicit_object sig scope (atomic s h es) = is_explicit_name sig scope h && is_explicit_spine sig scope es
  is_explicit_object sig scope (hole s) = false

  pub is_explicit_spine : PlainSignature → List (List ℕ) → DesugaredSpine → Bool
  is_explicit_spine sig scope end_of_spine = true
  is_explicit_spine sig scope (and_then a es) = is_explicit_act sig scope a && is_explicit_spine sig scope es

  pub is_explicit_act : PlainSignature → List (List ℕ) → DesugaredAct → Bool
  is_explicit_act sig scope (argument m o) = is_explicit_object sig scope o
  is_explicit_act sig scope first = true
  is_explicit_act sig scope second = true

  pub are_explicit_steps : PlainSignature → List (List ℕ) → DesugaredSteps → Bool
  are_explicit_steps sig scope no_steps = true
  are_explicit_steps sig scope (step p h es ss) = (is_explicit_name sig scope h && is_explicit_spine sig scope es) && are_explicit_steps sig (scope ++ bound_by_pattern p) ss

  pub is_explicit_tuple : PlainSignature → List (List ℕ) → DesugaredTuple → Bool
  is_explicit_tuple sig scope end_of_tuple = true
  is_explicit_tuple sig scope (entry m o t) = is_explicit_object sig scope o && is_explicit_tuple sig scope t

-- A type. A function and an entry of a telescope bind in what follows.
abbrev mutual
  pub is_explicit_type : PlainSignature → List (List ℕ) → DesugaredType → Bool
  is_explicit_type sig scope (family s h is) = is_explicit_family sig h && list_all (is_explicit_object sig scope) is
  is_explicit_type sig scope (function s m n a b) = is_explicit_type sig scope a && is_explicit_type sig (scope ++ bound n) b
  is_explicit_type sig scope (both s a b) = is_explicit_type sig scope a && is_explicit_type sig scope b
  is_explicit_type sig scope (top s) = true
  is_explicit_type sig scope (monad s t) = is_explicit_telescope sig scope t

  pub is_explicit_telescope : PlainSignature → List (List ℕ) → DesugaredTelescope → Bool
  is_explicit_telescope sig scope end = true
  is_explicit_telescope sig scope (binding m n a t) = is_explicit_type sig scope a && is_explicit_telescope sig (scope ++ bound n) t

abbrev pub is_explicit_class : PlainSignature → DesugaredClass → Bool
is_explicit_class sig (of_family t) = is_explicit_telescope sig [] t
is_explicit_class sig (of_constant a) = is_explicit_type sig [] a

abbrev pub is_explicit_body : PlainSignature → DesugaredBody → Bool
is_explicit_body sig (declare n i c) = is_explicit_class sig c
is_explicit_body sig (query d e l a t) = is_explicit_type sig [] t
is_explicit_body sig (trace n t) = is_explicit_telescope sig [] t
is_explicit_body sig (equal l r t) = is_explicit_object sig [] l && (is_explicit_object sig [] r && is_explicit_type sig [] t)
is_explicit_body sig (check o t) = is_explicit_object sig [] o && is_explicit_type sig [] t

abbrev pub is_explicit : PlainSignature → DesugaredItem → Bool
is_explicit sig item = is_explicit_body sig item.body
