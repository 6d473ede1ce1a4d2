-- Why there is no run of some steps: the first of them that is none, and what is wrong with it, in the words of the rules.
use Rattle.std.specs.Prelude.{ℕ, zero, suc, ◌≡◌, ◌≢◌, List, [], ◌∷◌, length}
use Rattle.clf_syntax.specs.declared.tree.Mode.{Mode}
use Rattle.clf_syntax.specs.Tree.{PlainNeutral}
use Rattle.clf_syntax.specs.TypeTree.{PlainType, PlainTelescope, monad}
use Rattle.use_contexts.specs.Context.{telescope_modes}
use Rattle.clf_sig.specs.Entry.{PlainSignature}
use Rattle.clf_rules.specs.Refusal.{Cause, not_monad, mode_differs, width}
use Rattle.clf_rules.specs.Explained.{ExplainedInNeutral, MaySynthesize, IsNoMonad, FirstModes}
use Rattle.trace_runs.specs.Run.{PlainState, TakesStep}

-- A pattern does not fit the modes of a telescope's entries: it has another number of modes, or another mode at a place.
pub data RefusesPattern (wanted found : List Mode) : Cause → Type 0 where
  other_width : length found ≢ length wanted → RefusesPattern wanted found (width (length wanted) (length found))
  other_mode : {k m : Mode} → length found ≡ length wanted → FirstModes wanted found k m → RefusesPattern wanted found (mode_differs k m)

-- A step is refused in a state, at a path that goes on in its right side, or is empty where the step itself is refused.
pub data RefusesStep (sig : PlainSignature) (s : PlainState) (ms : List Mode) (r : PlainNeutral) : List ℕ → Cause → Type 0 where
  -- Its right side has no type.
  in_right_side : {path : List ℕ} {why : Cause} → ExplainedInNeutral sig s.context s.holding r path why → RefusesStep sig s ms r path why
  -- Its right side has a type that is no monad.
  at_no_monad : {a : PlainType} → MaySynthesize sig s.context s.holding r a → IsNoMonad a → RefusesStep sig s ms r [] (not_monad a)
  -- Its right side has a monad, whose entries the pattern does not fit.
  at_pattern : {why : Cause} (u : PlainTelescope) → MaySynthesize sig s.context s.holding r (monad u) → RefusesPattern (telescope_modes u) ms why → RefusesStep sig s ms r [] why

-- The step of this number is refused, in the state to which the steps before it lead.
abbrev pub RefusesAt : PlainSignature → List (List Mode × PlainNeutral) → PlainState → ℕ → List ℕ → Cause → Type 0
RefusesAt sig [] s n path why = ⊥
RefusesAt sig (x ∷ xs) s zero path why = RefusesStep sig s x.0 x.1 path why
RefusesAt sig (x ∷ xs) s (suc n) path why = (between : PlainState) × TakesStep sig x.0 x.1 s between × RefusesAt sig xs between n path why

-- A run is refused where one of its steps is. The path begins with the number of that step.
abbrev pub RefusesRun : PlainSignature → List (List Mode × PlainNeutral) → PlainState → List ℕ → Cause → Type 0
RefusesRun sig xs s [] why = ⊥
RefusesRun sig xs s (n ∷ path) why = RefusesAt sig xs s n path why
