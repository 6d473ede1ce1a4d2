-- Inner: the steps of an expression as the check goes through them: forward along the steps, and back at the end of their scopes.
use Rattle.std.specs.Prelude.{ℕ, suc, ◌+◌, ◌≡◌, Bool, List, [], ◌∷◌, length, map, reverse, if◌then◌else◌, Result, Ok, Err}
use Rattle.clf_syntax.specs.declared.tree.Mode.{Mode}
use Rattle.clf_syntax.specs.Tree.{PlainExpression, PlainNeutral, PlainTuple, done, steps_on}
use Rattle.clf_syntax.specs.TypeTree.{PlainType, monad, PlainTelescope}
use Rattle.clf_syntax.specs.Renaming.{ren_telescope, up}
use Rattle.use_contexts.specs.Context.{Context, with_entries}
use Rattle.use_contexts.specs.Holding.{Holding, all_held}
use Rattle.use_contexts.specs.Marks.{marks}
use Rattle.use_contexts.specs.Rows.{newest, older, is_unused, Leftover}
use Rattle.clf_sig.specs.Entry.{PlainSignature}
use Rattle.clf_rules.specs.Refusal.{unused}
use Rattle.clf_decision.specs.Outcome.{Outcome, passed, refused, at_part, and_then}
use Rattle.clf_decision.specs.Checking.{Puts, with_slack, pattern_left, step_left, checked_expression, checked_tuple}
use Rattle.clf_kernel.specs.declared.refusal.Stop.{Stop}
use Rattle.clf_kernel.specs.declared.trail.Opened.{Opened}
use Rattle.clf_kernel.specs.declared.trail.Trail.{Trail}
use Rattle.clf_kernel.specs.declared.trail.Entered.{Entered}
use Rattle.clf_kernel.specs.Stops.{Stops}

-- the end of the scope of the variable with this level
abbrev pub closed_mode : Mode → ℕ → Leftover → Outcome Leftover
closed_mode m level a = if is_unused m (newest a.0) a.1 then refused [] (unused level) else passed (older a.0, a.1)

-- the ends of the scopes of variables of these modes, after so many older ones; that of the newest first
abbrev pub closed_modes : List Mode → ℕ → Leftover → Outcome Leftover
closed_modes [] n a = passed a
closed_modes (m ∷ ms) n a = and_then (closed_modes ms (suc n) a) (closed_mode m (suc n))

-- What a step opened: the modes of its variables, and the slack of its right side.
abbrev pub plain_opened : Opened → List Mode × Bool
plain_opened o = (o.modes, o.slack)

-- what the steps opened, the newest first
abbrev pub opened_by : List Opened → List (List Mode × Bool)
opened_by os = reverse (map plain_opened os)

-- how many variables
abbrev pub opened_width : List (List Mode × Bool) → ℕ
opened_width [] = 0
opened_width (d ∷ ds) = length d.0 + opened_width ds

-- the end of a step after so many variables, after what follows it
abbrev pub closed_step : ℕ → List Mode → ℕ → Bool → Outcome Leftover → Outcome Leftover
closed_step place ms n slack o = and_then o (λ y. and_then (at_part place (closed_modes ms n y)) (with_slack slack))

-- the ends of steps, the newest first
abbrev pub closed_steps : ℕ → List (List Mode × Bool) → Outcome Leftover → Outcome Leftover
closed_steps n [] o = o
closed_steps n (d ∷ ds) o = closed_steps n ds (closed_step (length ds) d.0 (opened_width ds + n) d.1 o)

-- A step is entered: its right side has a monad with the modes of the pattern, whose entries are the newest of the context and held.
pub record IsEnteredStep (ms : List Mode) (g : Context) (found : PlainType × Leftover) (inner : Context) (row : Holding) (o : Opened) : Type 0 where
  pub entries : PlainTelescope
  pub type : found.0 ≡ monad entries
  pub pattern : pattern_left ms entries ≡ passed tt
  pub context : inner ≡ with_entries entries g
  pub held : row ≡ all_held ms found.1.0
  pub modes : o.modes ≡ ms
  pub slack : o.slack ≡ found.1.1

abbrev pub EntersStep : ℕ → List Mode → Context → PlainType × Leftover → Context → Result Entered Stop → Type 0
EntersStep place ms g found inner (Ok e) = IsEnteredStep ms g found inner (marks e.row) e.opened
EntersStep place ms g found inner (Err stop) = (rest : PlainTelescope → Holding → Outcome Leftover) → Stops (step_left place ms g found rest) stop

-- A step is opened: the check of it and of what follows is that of what follows, and then its end.
abbrev pub OpensStep : Puts → PlainSignature → ℕ → List Mode × PlainNeutral → Context → Holding → Context → Result Entered Stop → Type 0
OpensStep puts sig place d g h inner (Ok e) = (e.opened.modes ≡ d.0) × ((x : PlainExpression) (s : PlainTelescope)
    → checked_expression puts sig g h place (steps_on (d ∷ []) x) s
    ≡ closed_step place d.0 (length g) e.opened.slack (checked_expression puts sig inner (marks e.row) (suc place) x (ren_telescope (up (length d.0)) s)))
OpensStep puts sig place d g h inner (Err stop) = (x : PlainExpression) (s : PlainTelescope) → Stops (checked_expression puts sig g h place (steps_on (d ∷ []) x) s) stop

-- So it is with all steps of an expression.
abbrev pub OpensSteps : Puts → PlainSignature → List (List Mode × PlainNeutral) → Context → Holding → Context → Result Trail Stop → Type 0
OpensSteps puts sig ds g h inner (Ok trail) = (t : PlainTuple) (s : PlainTelescope)
    → checked_expression puts sig g h 0 (steps_on ds (done t)) s
    ≡ closed_steps (length g) (opened_by trail.opened) (checked_tuple puts sig inner (marks trail.row) (length ds) 0 t (ren_telescope (up (opened_width (opened_by trail.opened))) s))
OpensSteps puts sig ds g h inner (Err stop) = (t : PlainTuple) (s : PlainTelescope) → Stops (checked_expression puts sig g h 0 (steps_on ds (done t)) s) stop
