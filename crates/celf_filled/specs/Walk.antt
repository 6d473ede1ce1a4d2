-- Inner: what a walk makes of objects: their trees, in which new metavariables stand for what is left to be found, and the state that it leaves.
-- Where no filling can be made, since the place or a local has no known simple type, or a name has no meaning, a hole stands, and the state is not whole.
use Rattle.std.specs.Prelude.{ℕ, zero, suc, ◌≡◌, if◌then◌else◌, List, [], ◌∷◌, ◌++◌, Option, None, Some, refl}
use Rattle.clf_syntax.specs.declared.tree.Mode.{Mode}
use Rattle.clf_syntax.specs.declared.tree.Mode.TheVariants.{Linear}
use Rattle.clf_syntax.specs.declared.tree.Head.TheVariants.{Var}
use Rattle.clf_syntax.specs.Tree as core
use Rattle.clf_syntax.specs.Tree.{PlainObject, PlainNeutral}
use Rattle.clf_syntax.specs.TypeTree.{SimpleType}
use Rattle.clf_sig.specs.Entry.{PlainSignature}
use Rattle.pattern_laws.specs.Equations.{Locals}
use Rattle.metavars.specs.Fresh.{scope_of, new_types, fresh_object}
use Rattle.celf_surface.specs.declared.surface.SMode.{SMode}
use Rattle.celf_sugar.specs.declared.plain.PName.{PName}
use Rattle.celf_sugar.specs.declared.plain.PBinder.{PBinder}
use Rattle.celf_sugar.specs.PlainTree.{DesugaredObject, lam, pair, unit, monadic, atomic, hole, DesugaredSpine, end_of_spine, and_then, DesugaredAct, argument, first, second, DesugaredSteps, no_steps, step, DesugaredTuple, end_of_tuple, entry, spine_of, steps_of, tuple_of}
use Rattle.celf_places.specs.Places.{Place, marked, function_parts, pair_parts, entries_at, next_part}
use Rattle.celf_places.specs.Along.{left_along}
use Rattle.celf_explicit.specs.Objects.{long_at, pattern_modes, expression_of}
use Rattle.celf_elaboration.specs.Fillings.{Scoped}
use Rattle.celf_elaboration.specs.Names.{Meaning}
use Rattle.celf_elaboration.specs.Readings.{blank_at, with_pattern, lambda_local}
use Rattle.celf_filled.specs.Scopes.{Named, known_locals, meaning_of}
use Rattle.celf_filled.specs.States.{State, count_in, not_whole, with_new}

-- ---- what is filled in

abbrev pub fill_known : Option Locals → SimpleType → State → PlainObject × State
fill_known None t s = (core.hole, not_whole s)
fill_known (Some l) t s = (fresh_object (count_in s) (scope_of l) t, with_new s (new_types (scope_of l) t))

abbrev pub fill_place : List Scoped → Place → State → PlainObject × State
fill_place ls None s = (core.hole, not_whole s)
fill_place ls (Some t) s = fill_known (known_locals ls) t s

-- a neutral, and its simple type, if that is known
pub record Headed : Type 0 where
  pub neutral : PlainNeutral
  pub place : Place

-- the parts of a pair
abbrev pub first_of : Headed → Headed
first_of h = record { neutral = core.fst h.neutral; place = (pair_parts h.place).left }

abbrev pub second_of : Headed → Headed
second_of h = record { neutral = core.snd h.neutral; place = (pair_parts h.place).right }

-- a neutral applied to an object
abbrev pub applied_to : Headed → Mode → PlainObject × State → Headed × State
applied_to h m v = (record { neutral = core.app m h.neutral v.0; place = (function_parts h.place).codomain }, v.1)

-- one implicit argument, and so many of them
abbrev pub fill_argument : List Scoped → Headed × State → Headed × State
fill_argument ls v = applied_to v.0 (function_parts v.0.place).mode (fill_place ls (function_parts v.0.place).domain v.1)

abbrev pub fill_arguments : List Scoped → ℕ → Headed × State → Headed × State
fill_arguments ls zero v = v
fill_arguments ls (suc i) v = fill_arguments ls i (fill_argument ls v)

-- what stands for a neutral whose head has no meaning
abbrev pub nothing_read : Headed
nothing_read = record { neutral = core.app Linear (core.head_alone (Var 0)) core.hole; place = None }

abbrev pub fill_implicit : List Scoped → Meaning → State → Headed × State
fill_implicit ls m s = fill_arguments ls m.implicit (record { neutral = core.head_alone m.head; place = m.place }, s)

abbrev pub fill_meaning : List Scoped → Option Meaning → State → Headed × State
fill_meaning ls None s = (nothing_read, not_whole s)
fill_meaning ls (Some m) s = fill_implicit ls m s

-- ---- objects

abbrev pub in_lambda : Mode → PlainObject × State → PlainObject × State
in_lambda m v = (core.lam m v.0, v.1)

abbrev pub in_pair : PlainObject → PlainObject × State → PlainObject × State
in_pair l v = (core.pair l v.0, v.1)

abbrev pub in_long_form : Place → Headed × State → PlainObject × State
in_long_form t v = (long_at t v.0.neutral, v.1)

-- the steps so far, and the locals after them
pub record Steps : Type 0 where
  pub steps : List (List Mode × PlainNeutral)
  pub locals : List Scoped

abbrev pub no_steps_yet : List Scoped → Steps
no_steps_yet ls = record { steps = []; locals = ls }

-- a step, the locals after it, and the state that it leaves
abbrev pub step_with : List Scoped → List PBinder → Headed × State → ((List Mode × PlainNeutral) × List Scoped) × State
step_with ls b v = (((pattern_modes (entries_at v.0.place) b, v.0.neutral), with_pattern ls (entries_at v.0.place) b), v.1)

abbrev pub with_step : Steps → ((List Mode × PlainNeutral) × List Scoped) × State → Steps × State
with_step w v = (record { steps = w.steps ++ v.0.0 ∷ []; locals = v.0.1 }, v.1)

-- the entries so far, and what is wanted of those that are left
pub record Entries : Type 0 where
  pub entries : List (Mode × PlainObject)
  pub wanted : List (Mode × SimpleType)

abbrev pub no_entries_yet : List (Mode × SimpleType) → Entries
no_entries_yet ps = record { entries = []; wanted = ps }

abbrev pub marked_with : Mode → PlainObject × State → (Mode × PlainObject) × State
marked_with m v = ((m, v.0), v.1)

abbrev pub with_entry : Entries → (Mode × PlainObject) × State → Entries × State
with_entry w v = (record { entries = w.entries ++ v.0 ∷ []; wanted = (next_part w.wanted).later }, v.1)

abbrev pub in_expression : Steps → Entries × State → PlainObject × State
in_expression w v = (expression_of w.steps v.0.entries, v.1)

module _ (sig : PlainSignature) (xs : List Named) where
  abbrev pub fill_head : List Scoped → PName → State → Headed × State
  fill_head ls n s = fill_meaning ls (meaning_of sig xs ls n) s

  abbrev mutual
    pub fill_object : List Scoped → Place → DesugaredObject → State → PlainObject × State
    fill_object ls t (lam p m x b) s = in_lambda (marked m (function_parts t).mode) (fill_object (lambda_local t m x ∷ ls) (function_parts t).codomain b s)
    fill_object ls t (pair p l r) s = in_pair (fill_object ls (pair_parts t).left l s).0 (fill_object ls (pair_parts t).right r (fill_object ls (pair_parts t).left l s).1)
    fill_object ls t (unit p) s = (core.unit, s)
    fill_object ls t (monadic p ss u) s =
        in_expression (fill_steps (no_steps_yet ls, s) ss).0 (fill_tuple (fill_steps (no_steps_yet ls, s) ss).0.locals (no_entries_yet (entries_at t), (fill_steps (no_steps_yet ls, s) ss).1) u)
    fill_object ls t (atomic p h es) s = if blank_at t then (long_at t (core.head_alone (Var 0)), s) else in_long_form t (fill_spine ls (fill_head ls h s) es)
    fill_object ls t (hole p) s = fill_place ls t s

    pub fill_spine : List Scoped → Headed × State → DesugaredSpine → Headed × State
    fill_spine ls v end_of_spine = v
    fill_spine ls v (and_then a es) = fill_spine ls (fill_act ls v a) es

    pub fill_act : List Scoped → Headed × State → DesugaredAct → Headed × State
    fill_act ls v (argument m o) = applied_to v.0 (marked m (function_parts v.0.place).mode) (fill_object ls (function_parts v.0.place).domain o v.1)
    fill_act ls v first = (first_of v.0, v.1)
    fill_act ls v second = (second_of v.0, v.1)

    pub fill_steps : Steps × State → DesugaredSteps → Steps × State
    fill_steps w no_steps = w
    fill_steps w (step b h es ss) = fill_steps (with_step w.0 (step_with w.0.locals b (fill_spine w.0.locals (fill_head w.0.locals h w.1) es))) ss

    pub fill_tuple : List Scoped → Entries × State → DesugaredTuple → Entries × State
    fill_tuple ls w end_of_tuple = w
    fill_tuple ls w (entry m o u) = fill_tuple ls (with_entry w.0 (marked_with (marked m (next_part w.0.wanted).mode) (fill_object ls (next_part w.0.wanted).place o w.1))) u

  -- ---- lists

  abbrev pub PlainStep : Type 0
  PlainStep = List PBinder × PName × DesugaredSpine

  abbrev pub one_step : List Scoped → PlainStep → State → ((List Mode × PlainNeutral) × List Scoped) × State
  one_step ls e s = step_with ls e.0 (fill_spine ls (fill_head ls e.1 s) e.2)

  abbrev pub fill_step : Steps × State → PlainStep → Steps × State
  fill_step w e = with_step w.0 (one_step w.0.locals e w.1)

  abbrev pub one_entry : List Scoped → Mode → Place → SMode × DesugaredObject → State → (Mode × PlainObject) × State
  one_entry ls m t e s = marked_with (marked e.0 m) (fill_object ls t e.1 s)

  abbrev pub fill_entry : List Scoped → Entries × State → SMode × DesugaredObject → Entries × State
  fill_entry ls w e = with_entry w.0 (one_entry ls (next_part w.0.wanted).mode (next_part w.0.wanted).place e w.1)

  -- a monadic object of these steps and this tuple, of which these entries are wanted
  abbrev pub fill_expression : List Scoped → List (Mode × SimpleType) → DesugaredSteps × DesugaredTuple → State → PlainObject × State
  fill_expression ls ps e s =
      in_expression (fill_steps (no_steps_yet ls, s) e.0).0 (fill_tuple (fill_steps (no_steps_yet ls, s) e.0).0.locals (no_entries_yet ps, (fill_steps (no_steps_yet ls, s) e.0).1) e.1)

  pub spine-along : (ls : List Scoped) (v : Headed × State) (as_ : List DesugaredAct) → fill_spine ls v (spine_of as_) ≡ left_along (fill_act ls) v as_
  spine-along ls v [] = refl
  spine-along ls v (a ∷ as_) = spine-along ls (fill_act ls v a) as_

  pub steps-along : (w : Steps × State) (ss : List PlainStep) → fill_steps w (steps_of ss) ≡ left_along fill_step w ss
  steps-along w [] = refl
  steps-along w (e ∷ ss) = steps-along (fill_step w e) ss

  pub tuple-along : (ls : List Scoped) (w : Entries × State) (es : List (SMode × DesugaredObject)) → fill_tuple ls w (tuple_of es) ≡ left_along (fill_entry ls) w es
  tuple-along ls w [] = refl
  tuple-along ls w (e ∷ es) = tuple-along ls (fill_entry ls w e) es
