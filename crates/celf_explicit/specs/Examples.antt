-- Some items with their cores, worked out by hand.
use Rattle.std.specs.Prelude.{ℕ, ◌≡◌, Bool, true, false, List, [], ◌∷◌, Option, None, Some, codes}
use Rattle.clf_syntax.specs.declared.tree.Mode.{Mode}
use Rattle.clf_syntax.specs.declared.tree.Mode.TheVariants.{Persistent, Affine, Linear}
use Rattle.clf_syntax.specs.declared.tree.Head.{Head}
use Rattle.clf_syntax.specs.declared.tree.Head.TheVariants.{Const, Var}
use Rattle.clf_syntax.specs.Tree as core
use Rattle.clf_syntax.specs.TypeTree as core_type
use Rattle.clf_sig.specs.Entry.{PlainEntry, family_of, constant_of, PlainSignature}
use Rattle.clf_sig.specs.Core.{PlainCore, declares, queries, traces, equates, checks}
use Rattle.celf_surface.specs.declared.surface.SMode.TheVariants.{Bare, Persistent as WrittenPersistent}
use Rattle.celf_surface.specs.declared.surface.Span.{Span}
use Rattle.celf_sugar.specs.declared.plain.PName.{PName}
use Rattle.celf_sugar.specs.declared.plain.PBinder.{PBinder}
use Rattle.celf_sugar.specs.PlainTree.{DesugaredObject, lam, pair, unit, monadic, atomic, hole, argument, spine_of, no_steps, step, end_of_tuple, entry, DesugaredType, family, function, both, top, monad, DesugaredTelescope, end, binding, of_family, of_constant, DesugaredBody, declare, query, trace, equal, check}
use Rattle.celf_explicit.specs.Explicit.{explicit}

-- ---- cores over these entries, by their places
--   0 a : type.  1 b : type.  2 p : a -> type.  3 z : a.  4 f : a -o a -o b.  5 g : a -> b.  6 h : a -@ b.  7 k : a -o b.
--   8 m : (a -o b) -> b.  9 w : {a * !b}.  10 i : [1] a -> a.

abbrev pub a : core_type.PlainType
a = core_type.family 0 []

abbrev pub b : core_type.PlainType
b = core_type.family 1 []

abbrev pub lolli : core_type.PlainType → core_type.PlainType → core_type.PlainType
lolli t u = core_type.function Linear t u

abbrev pub to : core_type.PlainType → core_type.PlainType → core_type.PlainType
to t u = core_type.function Persistent t u

abbrev pub lax_pair : core_type.PlainType
lax_pair = core_type.monad (core_type.binding Linear a (core_type.binding Persistent b core_type.end))

abbrev pub of : core_type.PlainType → PlainEntry
of t = record { implicit = 0; class = constant_of t }

abbrev pub signature : PlainSignature
signature =
    (codes "a", record { implicit = 0; class = family_of [] }) ∷ (codes "b", record { implicit = 0; class = family_of [] })
    ∷ (codes "p", record { implicit = 0; class = family_of (a ∷ []) })
    ∷ (codes "z", of a) ∷ (codes "f", of (lolli a (lolli a b))) ∷ (codes "g", of (to a b)) ∷ (codes "h", of (core_type.function Affine a b)) ∷ (codes "k", of (lolli a b))
    ∷ (codes "m", of (to (lolli a b) b)) ∷ (codes "w", of lax_pair) ∷ (codes "i", record { implicit = 1; class = constant_of (to a a) }) ∷ []

abbrev pub alone : Head → core.PlainObject
alone h = core.atomic (core.head_alone h)

abbrev pub z : core.PlainObject
z = alone (Const 3)

-- a head at one argument
abbrev pub at_one : Head → Mode → core.PlainObject → core.PlainObject
at_one h m n = core.atomic (core.app m (core.head_alone h) n)

-- ---- what is written; where it stands does not matter
module _ (s : Span) where
  abbrev pub name : List ℕ → Bool → PName
  name n dollar = record { name = n; dollar = dollar; span = s }

  abbrev pub word : List ℕ → DesugaredObject
  word n = atomic s (name n false) (spine_of [])

  -- a name at one bare argument
  abbrev pub applied : List ℕ → Bool → DesugaredObject → DesugaredObject
  applied n dollar o = atomic s (name n dollar) (spine_of (argument Bare o ∷ []))

  abbrev pub type_named : List ℕ → List DesugaredObject → DesugaredType
  type_named n is = family s (name n false) is

  abbrev pub written_a : DesugaredType
  written_a = type_named (codes "a") []

  abbrev pub written_b : DesugaredType
  written_b = type_named (codes "b") []

  abbrev pub arrow : Mode → DesugaredType → DesugaredType → DesugaredType
  arrow m t u = function s m None t u

  abbrev pub two_entries : Mode → Mode → DesugaredTelescope
  two_entries m n = binding m None written_a (binding n None written_b end)

  abbrev pub bare : List ℕ → PBinder
  bare n = record { mode = Bare; name = Some n }

  -- let {[x, y]} = w in [x, y]
  abbrev pub step_of_w : DesugaredObject
  step_of_w = monadic s (step (bare (codes "x") ∷ bare (codes "y") ∷ []) (name (codes "w") false) (spine_of []) no_steps) (entry Bare (word (codes "x")) (entry Bare (word (codes "y")) end_of_tuple))

  -- The item has this core, or none.
  abbrev pub Says : DesugaredBody → Option PlainCore → Type 0
  Says body c = explicit signature (record { span = s; body = body }) ≡ c

  pub record WorkedCores : Type 0 where
    -- a bare part has the mode of its place, and a written mode stays
    pub bare_persistent : Says (check (applied (codes "g") false (word (codes "z"))) written_b) (Some (checks (at_one (Const 5) Persistent z) b))
    pub bare_affine : Says (check (applied (codes "h") false (word (codes "z"))) written_b) (Some (checks (at_one (Const 6) Affine z) b))
    pub bare_lambda : Says (check (lam s Bare (Some (codes "x")) (applied (codes "g") false (word (codes "x")))) (arrow Persistent written_a written_b))
        (Some (checks (core.lam Persistent (at_one (Const 5) Persistent (alone (Var 0)))) (to a b)))
    pub written_stays : Says (check (lam s WrittenPersistent (Some (codes "x")) (word (codes "x"))) (arrow Linear written_a written_a)) (Some (checks (core.lam Persistent (alone (Var 0))) (lolli a a)))
    pub bare_at_no_function : Says (check (lam s Bare (Some (codes "x")) (word (codes "x"))) written_a) (Some (checks (core.lam Linear (alone (Var 0))) a))
    -- a neutral is read as its eta-long form at the type that its place wants
    pub long_at_function : Says (check (word (codes "f")) (arrow Linear written_a (arrow Linear written_a written_b)))
        (Some (checks (core.lam Linear (core.lam Linear (core.atomic (core.app Linear (core.app Linear (core.head_alone (Const 4)) (alone (Var 1))) (alone (Var 0)))))) (lolli a (lolli a b))))
    pub long_by_place : Says (check (word (codes "z")) (arrow Linear written_a written_a)) (Some (checks (core.lam Linear (at_one (Const 3) Linear (alone (Var 0)))) (lolli a a)))
    pub long_in_the_mode_of_the_place : Says (check (word (codes "k")) (arrow Persistent written_a written_b)) (Some (checks (core.lam Persistent (at_one (Const 7) Persistent (alone (Var 0)))) (to a b)))
    pub long_argument : Says (check (applied (codes "m") false (word (codes "k"))) written_b) (Some (checks (at_one (Const 8) Persistent (core.lam Linear (at_one (Const 7) Linear (alone (Var 0))))) b))
    pub long_at_pair : Says (check (word (codes "z")) (both s written_a written_a))
        (Some (checks (core.pair (core.atomic (core.fst (core.head_alone (Const 3)))) (core.atomic (core.snd (core.head_alone (Const 3))))) (core_type.both a a)))
    pub long_at_top : Says (check (applied (codes "g") false (word (codes "z"))) (top s)) (Some (checks core.unit core_type.top))
    pub long_at_monad : Says (check (word (codes "w")) (monad s (two_entries Linear Persistent)))
        (Some (checks (core.monadic (core.step (Linear ∷ Persistent ∷ []) (core.head_alone (Const 9)) (core.done (core.entry Linear (alone (Var 1)) (core.entry Persistent (alone (Var 0)) core.empty))))) lax_pair))
    pub short_at_family : Says (check (word (codes "f")) written_a) (Some (checks (alone (Const 4)) a))
    -- steps and tuples
    pub bare_pattern : Says (check step_of_w (monad s (two_entries Linear Linear)))
        (Some (checks (core.monadic (core.step (Linear ∷ Persistent ∷ []) (core.head_alone (Const 9)) (core.done (core.entry Linear (alone (Var 1)) (core.entry Linear (alone (Var 0)) core.empty)))))
        (core_type.monad (core_type.binding Linear a (core_type.binding Linear b core_type.end)))))
    pub bare_beyond : Says (check step_of_w (monad s (binding Affine None written_a end)))
        (Some (checks (core.monadic (core.step (Linear ∷ Persistent ∷ []) (core.head_alone (Const 9)) (core.done (core.entry Affine (alone (Var 1)) (core.entry Linear (alone (Var 0)) core.empty)))))
        (core_type.monad (core_type.binding Affine a core_type.end))))
    -- locals in types, kinds, telescopes
    pub dependent : Says (declare (codes "c") 0 (of_constant (function s Persistent (Some (codes "x")) written_a (type_named (codes "p") (word (codes "x") ∷ [])))))
        (Some (declares (codes "c") (of (to a (core_type.family 2 (alone (Var 0) ∷ []))))))
    pub long_local : Says (declare (codes "c") 0 (of_constant (function s Persistent (Some (codes "x")) (arrow Linear written_a written_a) (type_named (codes "p") (applied (codes "x") false (word (codes "z")) ∷ [])))))
        (Some (declares (codes "c") (of (to (lolli a a) (core_type.family 2 (at_one (Var 0) Linear z ∷ []))))))
    pub family_declared : Says (declare (codes "q") 0 (of_family (binding Persistent (Some (codes "x")) written_a (binding Persistent None (type_named (codes "p") (word (codes "x") ∷ [])) end))))
        (Some (declares (codes "q") (record { implicit = 0; class = family_of (a ∷ core_type.family 2 (alone (Var 0) ∷ []) ∷ []) })))
    pub telescope_bound : Says (trace None (binding Persistent (Some (codes "x")) written_a (binding Linear None (type_named (codes "p") (word (codes "x") ∷ [])) end)))
        (Some (traces (core_type.binding Persistent a (core_type.binding Linear (core_type.family 2 (alone (Var 0) ∷ [])) core_type.end))))
    pub beyond_the_kind : Says (query None None None None (type_named (codes "a") (word (codes "f") ∷ []))) (Some (queries (core_type.family 0 (alone (Const 4) ∷ []))))
    -- implicit arguments
    pub counted : Says (declare (codes "c") 1 (of_constant (arrow Persistent written_a written_a))) (Some (declares (codes "c") (record { implicit = 1; class = constant_of (to a a) })))
    pub implicit_constant : Says (check (applied (codes "i") false (word (codes "z"))) written_a) None
    pub behind_dollar : Says (check (applied (codes "i") true (word (codes "z"))) written_a) (Some (checks (at_one (Const 10) Persistent z) a))
    pub bound_as_implicit : Says (check (lam s Bare (Some (codes "i")) (word (codes "i"))) (arrow Linear written_a written_a)) (Some (checks (core.lam Linear (alone (Var 0))) (lolli a a)))
    pub implicit_variable : Says (check (word (codes "X")) written_a) None
    pub implicit_variable_dropped : Says (check (word (codes "X")) (top s)) None
    pub hole_written : Says (check (hole s) written_a) None
    pub hole_at_top : Says (check (hole s) (top s)) None
    -- the other directives
    pub query_read : Says (query None None None None written_a) (Some (queries a))
    pub equation_read : Says (equal (unit s) (word (codes "z")) (top s)) (Some (equates core.unit core.unit core_type.top))
