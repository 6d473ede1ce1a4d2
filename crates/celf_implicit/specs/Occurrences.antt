-- The occurrences of implicit variables in an item, over variables that are determined: each with what is wanted of it, what it is
-- applied to, and whether it is checked.
use Rattle.std.specs.Prelude.{ℕ, Bool, true, not, ◌==◌, ◌&&◌, if◌then◌else◌, List, [], ◌∷◌, ◌++◌, drop, get_or, Option, Some, None, option_map, option_and_then}
use Rattle.std.specs.List.{list_any}
use Rattle.clf_syntax.specs.declared.tree.Mode.{Mode}
use Rattle.clf_syntax.specs.declared.tree.Mode.TheVariants.{Linear}
use Rattle.clf_syntax.specs.declared.tree.Head.{Head}
use Rattle.clf_syntax.specs.declared.tree.Head.TheVariants.{Const, Var, Meta}
use Rattle.clf_syntax.specs.TypeTree.{SimpleType}
use Rattle.clf_sig.specs.Entry.{PlainSignature, entry_at}
use Rattle.celf_surface.specs.declared.surface.SMode.{SMode}
use Rattle.celf_sugar.specs.declared.plain.PName.{PName}
use Rattle.celf_sugar.specs.declared.plain.PBinder.{PBinder}
use Rattle.celf_sugar.specs.PlainTree.{DesugaredObject, lam, pair, unit, monadic, atomic, hole, DesugaredSpine, end_of_spine, and_then, DesugaredAct, argument, first, second, DesugaredSteps, no_steps, step, DesugaredTuple, end_of_tuple, entry, DesugaredType, family, function, both, top, monad, DesugaredTelescope, end, binding, DesugaredClass, of_family, of_constant, DesugaredBody, declare, query, trace, equal, check}
use Rattle.celf_names.specs.Names.{family_named}
use Rattle.celf_places.specs.Combined.{combined}
use Rattle.celf_places.specs.Places.{Place, marked, function_parts, pair_parts, entries_at, next_part, behind_act, behind_spine}
use Rattle.celf_places.specs.Heads.{Typed, local_from, arguments_of}
use Rattle.celf_places.specs.SimpleTypes.{simple_type, local_of}
use Rattle.celf_implicit.specs.Scopes.{Binders, Scope, outermost, under, bind_pattern}
use Rattle.celf_implicit.specs.Variables.{PlainImplicit, is_variable, is_open_name, head_place, left_out}

-- a local that a variable is applied to: its number, the mode that is written before it or else its own, and its simple type, if that is known
pub record AppliedLocal : Type 0 where
  pub mode : Mode
  pub number : ℕ
  pub place : Place

-- An occurrence of an implicit variable, and what is wanted of it. It is at locals where it is applied to distinct locals alone, each written
-- as its name; None where its arguments are others, where it is projected, and where it is the head of the right side of a `let`.
pub record Occurrence : Type 0 where
  pub name : PName
  pub checked : Bool
  pub at_locals : Option (List AppliedLocal)
  pub place : Place

-- ---- distinct locals

abbrev pub number_of : Head → ℕ
number_of (Var k) = k
number_of (Const c) = 0
number_of (Meta m) = 0

abbrev pub applied_local : List Mode → SMode → Typed → AppliedLocal
applied_local ms m h = record { mode = marked m (get_or ms (number_of h.0) Linear); number = number_of h.0; place = h.1 }

-- the local whose name is written, with nothing done to it
abbrev pub local_named : Binders → SMode → DesugaredObject → Option AppliedLocal
local_named bs m (atomic p n end_of_spine) = if n.dollar then None else option_map (applied_local bs.modes m) (local_from 0 n.name bs.locals)
local_named bs m o = None

abbrev pub local_argument : Binders → DesugaredAct → Option AppliedLocal
local_argument bs (argument m o) = local_named bs m o
local_argument bs first = None
local_argument bs second = None

abbrev pub locals_applied_to : Binders → DesugaredSpine → Option (List AppliedLocal)
locals_applied_to bs end_of_spine = Some []
locals_applied_to bs (and_then a es) = combined (◌∷◌) (local_argument bs a) (locals_applied_to bs es)

abbrev pub has_number : ℕ → AppliedLocal → Bool
has_number k a = a.number == k

abbrev pub are_distinct : List AppliedLocal → Bool
are_distinct [] = true
are_distinct (a ∷ as_) = not (list_any (has_number a.number) as_) && are_distinct as_

abbrev pub where_distinct : List AppliedLocal → Option (List AppliedLocal)
where_distinct as_ = if are_distinct as_ then Some as_ else None

abbrev pub distinct_locals : Binders → DesugaredSpine → Option (List AppliedLocal)
distinct_locals bs es = option_and_then where_distinct (locals_applied_to bs es)

-- ---- the walk

-- what is wanted of the indices that are written
abbrev pub written_parts : PlainSignature → Bool → Option ℕ → List (Mode × SimpleType)
written_parts sig dollar None = []
written_parts sig dollar (Some f) = drop (left_out dollar (entry_at sig f)) (arguments_of sig f)

module _ (sig : PlainSignature) (xs : List PlainImplicit) where
  -- In an argument of a head, and after a `let` of it, nothing is checked where the head is an implicit variable that is not among these.
  abbrev pub inside : Scope → PName → Scope
  inside s n = record { binders = s.binders; checked = s.checked && not (is_open_name sig xs s.binders.locals n) }

  -- a head as an occurrence, if it is an implicit variable
  abbrev pub at_head : Scope → Option (List AppliedLocal) → Place → PName → List Occurrence
  at_head s as_ t n = if is_variable sig s.binders.locals n then record { name = n; checked = s.checked; at_locals = as_; place = t } ∷ [] else []

  -- after a step: its pattern is bound
  abbrev pub after_step : Scope → List PBinder → PName → DesugaredSpine → Scope
  after_step s p h es = record {
    binders = bind_pattern (entries_at (behind_spine (head_place sig xs s.binders.locals h) es)) p s.binders;
    checked = (inside s h).checked;
  }

  abbrev pub after_steps : Scope → DesugaredSteps → Scope
  after_steps s no_steps = s
  after_steps s (step p h es ss) = after_steps (after_step s p h es) ss

  -- The occurrences in an object at a place.
  abbrev mutual
    pub in_object : Scope → Place → DesugaredObject → List Occurrence
    in_object s t (lam p m n b) = in_object (under (marked m (function_parts t).mode) (n, (function_parts t).domain) s) (function_parts t).codomain b
    in_object s t (pair p l r) = in_object s (pair_parts t).left l ++ in_object s (pair_parts t).right r
    in_object s t (unit p) = []
    in_object s t (monadic p ss u) = in_steps s ss ++ in_tuple (after_steps s ss) (entries_at t) u
    in_object s t (atomic p h es) = at_head s (distinct_locals s.binders es) t h ++ in_spine (inside s h) (head_place sig xs s.binders.locals h) es
    in_object s t (hole p) = []

    -- in what is done to a head of this simple type
    pub in_spine : Scope → Place → DesugaredSpine → List Occurrence
    in_spine s t end_of_spine = []
    in_spine s t (and_then a es) = in_act s t a ++ in_spine s (behind_act t a) es

    pub in_act : Scope → Place → DesugaredAct → List Occurrence
    in_act s t (argument m o) = in_object s (function_parts t).domain o
    in_act s t first = []
    in_act s t second = []

    pub in_steps : Scope → DesugaredSteps → List Occurrence
    in_steps s no_steps = []
    in_steps s (step p h es ss) = (at_head s None None h ++ in_spine (inside s h) (head_place sig xs s.binders.locals h) es) ++ in_steps (after_step s p h es) ss

    pub in_tuple : Scope → List (Mode × SimpleType) → DesugaredTuple → List Occurrence
    in_tuple s ps end_of_tuple = []
    in_tuple s ps (entry m o u) = in_object s (next_part ps).place o ++ in_tuple s (next_part ps).later u

  abbrev pub in_indices : Scope → List (Mode × SimpleType) → List DesugaredObject → List Occurrence
  in_indices s ps [] = []
  in_indices s ps (o ∷ os) = in_object s (next_part ps).place o ++ in_indices s (next_part ps).later os

  -- Those in a type. A function and an entry of a telescope bind in what follows.
  abbrev mutual
    pub in_type : Scope → DesugaredType → List Occurrence
    in_type s (family p h is) = in_indices s (written_parts sig h.dollar (family_named sig h.name)) is
    in_type s (function p m n a b) = in_type s a ++ in_type (under m (local_of sig n a) s) b
    in_type s (both p a b) = in_type s a ++ in_type s b
    in_type s (top p) = []
    in_type s (monad p t) = in_telescope s t

    pub in_telescope : Scope → DesugaredTelescope → List Occurrence
    in_telescope s end = []
    in_telescope s (binding m n a t) = in_type s a ++ in_telescope (under m (local_of sig n a) s) t

  abbrev pub in_class : DesugaredClass → List Occurrence
  in_class (of_family t) = in_telescope outermost t
  in_class (of_constant a) = in_type outermost a

  -- those of an item; its objects are at the simple type that is left of its type
  abbrev pub occurrences : DesugaredBody → List Occurrence
  occurrences (declare n i c) = in_class c
  occurrences (query d e l a t) = in_type outermost t
  occurrences (trace n t) = in_telescope outermost t
  occurrences (equal l r t) = in_object outermost (simple_type sig t) l ++ (in_object outermost (simple_type sig t) r ++ in_type outermost t)
  occurrences (check o t) = in_object outermost (simple_type sig t) o ++ in_type outermost t
