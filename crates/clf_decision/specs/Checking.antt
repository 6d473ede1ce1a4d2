-- Inner: what the check of an object leaves of a holding, or which refusal comes first. This follows the table of leftovers in
-- docs/language.md. What the calls that check promise does not speak of it: proofs lead from it to the rules of Typing and Explained.
--
-- The parts of an object are checked in the order of their numbers, and then the object itself.
use Rattle.std.specs.Prelude.{ℕ, suc, ◌+◌, Bool, true, false, ◌||◌, ◌&&◌, ◌==◌, if◌then◌else◌, List, [], ◌∷◌, length, Option, None, Some}
use Rattle.std.specs.List.{slice_get}
use Rattle.clf_syntax.specs.declared.tree.Mode.{Mode}
use Rattle.clf_syntax.specs.declared.tree.Head.{Head}
use Rattle.clf_syntax.specs.declared.tree.Head.TheVariants.{Const, Var, Meta}
use Rattle.clf_syntax.specs.Tree.{PlainObject, lam, pair, unit, monadic, atomic, hole, PlainNeutral, head_alone, app, fst, snd, PlainExpression, step, done, PlainTuple, empty, entry}
use Rattle.clf_syntax.specs.TypeTree.{PlainType, family, function, both, top, monad, PlainTelescope, end, binding, PlainKind}
use Rattle.clf_syntax.specs.Renaming.{ren_type, ren_telescope, up}
use Rattle.use_contexts.specs.Context.{Context, modes, telescope_modes, with_entries}
use Rattle.use_contexts.specs.Holding.{Holding, allowed, all_held}
use Rattle.use_contexts.specs.Rows.{taken, left_in_both, newest_difference, newest, older, is_unused, outside, slack_outside, Leftover}
use Rattle.clf_syntax.specs.Modes.{same_mode}
use Rattle.trace_equal.specs.Search.{is_joined}
use Rattle.clf_sig.specs.Entry.{PlainSignature, constant_type}
use Rattle.clf_rules.specs.Refusal.{not_function, not_pair, not_top, not_monad, not_atomic, not_closed, mode_differs, width, not_held, unused, pairs_differ, family_differs, index_differs, unknown_head, level, eliminations}
use Rattle.clf_rules.specs.Explained.{tuple_width, telescope_width}
use Rattle.clf_decision.specs.Outcome.{Outcome, passed, refused, at_part, and_then}

-- What follows a variable once an object is put for it: a function's range, the later entries of a telescope, the later arguments of a
-- kind. The first type is the variable's own.
pub record Puts : Type 0 where
  pub into_type : PlainObject → PlainType → PlainType → PlainType
  pub into_telescope : PlainObject → PlainType → PlainTelescope → PlainTelescope
  pub into_kind : PlainObject → PlainType → PlainKind → PlainKind

-- ---- heads

-- A constant has its type, and uses nothing.
abbrev pub constant_left : ℕ → Holding → Option PlainType → Outcome (PlainType × Leftover)
constant_left c h (Some a) = passed (a, (h, false))
constant_left c h None = refused [] (unknown_head (Const c))

-- A variable has to be in the context and held, and is used.
abbrev pub held_left : Context → Holding → ℕ → PlainType → Option Bool → Outcome (PlainType × Leftover)
held_left g h i a (Some true) = passed (ren_type (up (i + 1)) a, (taken (modes g) i h, false))
held_left g h i a (Some false) = refused [] (not_held (level g i))
held_left g h i a None = refused [] (not_held (level g i))

abbrev pub variable_left : Context → Holding → ℕ → Option (Mode × PlainType) → Outcome (PlainType × Leftover)
variable_left g h i (Some e) = held_left g h i e.1 (slice_get h i)
variable_left g h i None = refused [] (unknown_head (Var i))

abbrev pub head_left : PlainSignature → Context → Holding → Head → Outcome (PlainType × Leftover)
head_left sig g h (Const c) = constant_left c h (constant_type sig c)
head_left sig g h (Var i) = variable_left g h i (slice_get g i)
head_left sig g h (Meta k) = refused [] not_closed

-- ---- lambdas, pairs, units

-- The scope of a variable ends: a linear one has to be used, or there is slack.
abbrev pub closed_scope : Mode → Context → Leftover → Outcome Leftover
closed_scope m g a = if is_unused m (newest a.0) a.1 then refused [] (unused (suc (length g))) else passed (older a.0, a.1)

-- A lambda stands at a function of its mode.
abbrev pub lambda_left : Mode → Context → PlainType → (PlainType → PlainType → Outcome Leftover) → Outcome Leftover
lambda_left m g (function k a c) body = if same_mode m k then and_then (at_part 0 (body a c)) (closed_scope m g) else refused [] (mode_differs k m)
lambda_left m g t body = refused [] (not_function t)

-- What both parts of a pair leave is left. They differ at a linear entry that one used and the other left without slack.
abbrev pub joined_left : Context → Leftover → Leftover → Option ℕ → Outcome Leftover
joined_left g a b None = passed (left_in_both a.0 b.0, a.1 && b.1)
joined_left g a b (Some i) = refused [] (pairs_differ (level g i))

-- A pair stands at a pair, and both its parts start from the same row.
abbrev pub pair_left : Context → PlainType → (PlainType → Outcome Leftover) → (PlainType → Outcome Leftover) → Outcome Leftover
pair_left g (both a c) left right =
    and_then (at_part 0 (left a)) (λ x. and_then (at_part 1 (right c)) (λ y. joined_left g x y (newest_difference (modes g) x.0 x.1 y.0 y.1)))
pair_left g t left right = refused [] (not_pair t)

-- <> stands at <T>. It leaves the row, and may take more.
abbrev pub unit_left : Holding → PlainType → Outcome Leftover
unit_left h top = passed (h, true)
unit_left h t = refused [] (not_top t)

-- ---- atomic objects

-- the first place where two lists of indices are not joined, with what is found there and what is wanted
abbrev pub first_unjoined : List PlainObject → List PlainObject → Option (PlainObject × PlainObject)
first_unjoined [] ns = None
first_unjoined (o ∷ os) [] = None
first_unjoined (o ∷ os) (n ∷ ns) = if is_joined o n then first_unjoined os ns else Some (o, n)

abbrev pub indices_left : Context → Option (PlainObject × PlainObject) → Leftover → Outcome Leftover
indices_left g None a = passed a
indices_left g (Some d) a = refused [] (index_differs (length g) d.0 d.1)

-- The families of what is wanted and of what is found have to be the same, and then their indices joined.
abbrev pub same_family_left : Context → ℕ → List PlainObject → ℕ → List PlainObject → Leftover → Outcome Leftover
same_family_left g wanted ns found os a = if wanted == found then indices_left g (first_unjoined os ns) a else refused [] (family_differs found wanted)

abbrev pub found_left : Context → ℕ → List PlainObject → PlainType → Leftover → Outcome Leftover
found_left g wanted ns (family found os) a = same_family_left g wanted ns found os a
found_left g wanted ns t a = refused [] (not_atomic t)

-- An atomic object stands at a family, and its own type is that family at joined indices.
abbrev pub atomic_left : Context → PlainType → PlainType × Leftover → Outcome Leftover
atomic_left g (family wanted ns) found = found_left g wanted ns found.0 found.1
atomic_left g t found = refused [] (not_atomic t)

-- ---- eliminations

-- An argument is put to a function of its mode. It starts from what its mode allows of the row that the function left;
-- outside, what it left of that is left, and the slack of a linear one counts.
abbrev pub argument_left : Puts → Mode → Context → PlainObject → ℕ → PlainType × Leftover → (Holding → PlainType → Outcome Leftover) → Outcome (PlainType × Leftover)
argument_left puts m g n place ((function k a c), x) argument =
    if same_mode m k
    then and_then (at_part place (argument (allowed m (modes g) x.0) a)) (λ y. passed (puts.into_type n a c, (outside m (modes g) x.0 y.0, x.1 || slack_outside m y.1)))
    else refused (place ∷ []) (mode_differs k m)
argument_left puts m g n place (t, x) argument = refused (place ∷ []) (not_function t)

abbrev pub first_left : ℕ → PlainType × Leftover → Outcome (PlainType × Leftover)
first_left place ((both a c), x) = passed (a, x)
first_left place (t, x) = refused (place ∷ []) (not_pair t)

abbrev pub second_left : ℕ → PlainType × Leftover → Outcome (PlainType × Leftover)
second_left place ((both a c), x) = passed (c, x)
second_left place (t, x) = refused (place ∷ []) (not_pair t)

-- ---- monadic objects: steps and tuples

-- A monadic object stands at a monad.
abbrev pub monadic_left : PlainType → (PlainTelescope → Outcome Leftover) → Outcome Leftover
monadic_left (monad s) expression = expression s
monadic_left t expression = refused [] (not_monad t)

-- what the check of one part left, with slack where another has it
abbrev pub with_slack : Bool → Leftover → Outcome Leftover
with_slack s a = passed (a.0, s || a.1)

-- the first place where the modes of a telescope and of a pattern differ
abbrev pub first_other_mode : List Mode → List Mode → Option (Mode × Mode)
first_other_mode [] ms = None
first_other_mode (k ∷ ks) [] = None
first_other_mode (k ∷ ks) (m ∷ ms) = if same_mode m k then first_other_mode ks ms else Some (k, m)

abbrev pub same_modes_left : Option (Mode × Mode) → Outcome (Unit {0})
same_modes_left None = passed tt
same_modes_left (Some d) = refused [] (mode_differs d.0 d.1)

-- A pattern has as many modes as the telescope has entries, and the same.
abbrev pub pattern_left : List Mode → PlainTelescope → Outcome (Unit {0})
pattern_left ms u = if length ms == telescope_width u then same_modes_left (first_other_mode (telescope_modes u) ms) else refused [] (width (telescope_width u) (length ms))

-- The scopes of the variables of a telescope end, that of the newest first.
abbrev pub closed_scopes : PlainTelescope → Context → Leftover → Outcome Leftover
closed_scopes end g a = passed a
closed_scopes (binding m t s) g a = and_then (closed_scopes s ((m, t) ∷ g) a) (closed_scope m g)

-- What follows a step starts from what its right side left, with the entries of its monad held.
abbrev pub rest_left : ℕ → PlainTelescope → Context → Bool → Outcome Leftover → Outcome Leftover
rest_left place u g slack rest = and_then rest (λ y. and_then (at_part place (closed_scopes u g y)) (with_slack slack))

abbrev pub step_left : ℕ → List Mode → Context → PlainType × Leftover → (PlainTelescope → Holding → Outcome Leftover) → Outcome Leftover
step_left place ms g ((monad u), x) rest = and_then (at_part place (pattern_left ms u)) (λ same. rest_left place u g x.1 (rest u (all_held ms x.0)))
step_left place ms g (t, x) rest = refused (place ∷ []) (not_monad t)

-- after so many entries of a tuple, its end: the telescope has to end as well
abbrev pub end_left : ℕ → Holding → PlainTelescope → Outcome Leftover
end_left before h end = passed (h, false)
end_left before h (binding m a s) = refused [] (width (before + telescope_width (binding m a s)) before)

-- after so many entries of a tuple, its next one, which has the mode of the telescope's; it is put for its variable in the later types
abbrev pub entry_left : Puts → ℕ → ℕ → Mode → Context → Holding → PlainObject → PlainTuple → PlainTelescope → (Holding → PlainType → Outcome Leftover) → (Holding → PlainTelescope → Outcome Leftover)
    → Outcome Leftover
entry_left puts steps before m g h n t end object later = refused [] (width before (before + tuple_width (entry m n t)))
entry_left puts steps before m g h n t (binding k a u) object later =
    if same_mode m k
    then and_then (at_part (steps + before) (object (allowed m (modes g) h) a)) (λ y. and_then (later (outside m (modes g) h y.0) (puts.into_telescope n a u)) (with_slack (slack_outside m y.1)))
    else refused ((steps + before) ∷ []) (mode_differs k m)

-- ---- the check

abbrev mutual
  -- checked puts sig g h n t: what the check of the object n against the type t leaves of the holding h
  pub checked : Puts → PlainSignature → Context → Holding → PlainObject → PlainType → Outcome Leftover
  checked puts sig g h (lam m b) t = lambda_left m g t (λ a c. checked puts sig ((m, a) ∷ g) (true ∷ h) b c)
  checked puts sig g h (pair l r) t = pair_left g t (λ a. checked puts sig g h l a) (λ c. checked puts sig g h r c)
  checked puts sig g h unit t = unit_left h t
  checked puts sig g h (monadic e) t = monadic_left t (λ s. checked_expression puts sig g h 0 e s)
  checked puts sig g h (atomic n) t = and_then (inferred puts sig g h n) (atomic_left g t)
  checked puts sig g h hole t = refused [] not_closed

  -- inferred puts sig g h r: the type of the neutral r, and what it leaves of the holding h
  pub inferred : Puts → PlainSignature → Context → Holding → PlainNeutral → Outcome (PlainType × Leftover)
  inferred puts sig g h (head_alone x) = head_left sig g h x
  inferred puts sig g h (app m r n) = and_then (inferred puts sig g h r) (λ f. argument_left puts m g n (eliminations r) f (λ row a. checked puts sig g row n a))
  inferred puts sig g h (fst r) = and_then (inferred puts sig g h r) (first_left (eliminations r))
  inferred puts sig g h (snd r) = and_then (inferred puts sig g h r) (second_left (eliminations r))

  -- checked_expression puts sig g h place e s: so it is with the expression e, whose first step has the number `place`, and the telescope s
  pub checked_expression : Puts → PlainSignature → Context → Holding → ℕ → PlainExpression → PlainTelescope → Outcome Leftover
  checked_expression puts sig g h place (step ms r e) s =
      and_then (at_part place (inferred puts sig g h r)) (λ f. step_left place ms g f (λ u row. checked_expression puts sig (with_entries u g) row (suc place) e (ren_telescope (up (length ms)) s)))
  checked_expression puts sig g h place (done t) s = checked_tuple puts sig g h place 0 t s

  -- and with the tuple t after so many steps and entries
  pub checked_tuple : Puts → PlainSignature → Context → Holding → ℕ → ℕ → PlainTuple → PlainTelescope → Outcome Leftover
  checked_tuple puts sig g h steps before empty s = end_left before h s
  checked_tuple puts sig g h steps before (entry m n t) s =
      entry_left puts steps before m g h n t s (λ row a. checked puts sig g row n a) (λ row u. checked_tuple puts sig g row steps (suc before) t u)
