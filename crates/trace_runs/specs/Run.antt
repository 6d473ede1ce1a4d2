-- Runs: steps that are taken one after the other, each of which changes what is held.
use Rattle.std.specs.Prelude.{ℕ, ◌+◌, ◌≡◌, true, List, [], ◌∷◌, length}
use Rattle.clf_syntax.specs.declared.tree.Mode.{Mode}
use Rattle.clf_syntax.specs.Tree.{PlainNeutral}
use Rattle.clf_syntax.specs.TypeTree.{PlainType, PlainTelescope, monad}
use Rattle.clf_rules.specs.Typing.{Synthesizes}
use Rattle.clf_sig.specs.Entry.{PlainSignature}
use Rattle.use_contexts.specs.declared.holding.State.{State}
use Rattle.use_contexts.specs.Context.{Context, modes, telescope_modes, with_entries}
use Rattle.use_contexts.specs.Holding.{Holding, Split, all_held}
use Rattle.use_contexts.specs.Marks.{context, marks}

-- a state: the variables in scope, and which of them may still be used
pub record PlainState : Type 0 where
  pub context : Context
  pub holding : Holding

abbrev pub plain_state : State → PlainState
plain_state s = record { context = context s.ctx; holding = marks s.holding }

-- the state that has so much left of a context, and the entries of a telescope as its newest variables, all of them held
abbrev pub state_after : Context → Holding → PlainTelescope → PlainState
state_after g left u = record { context = with_entries u g; holding = all_held (telescope_modes u) left }

-- what the first holding has, the second has too
abbrev pub IsWithin : Holding → Holding → Type 0
IsWithin [] q = Unit {0}
IsWithin (a ∷ p) [] = ⊥
IsWithin (a ∷ p) (b ∷ q) = (a ≡ true → b ≡ true) × IsWithin p q

-- A step `let {p} = R in`, from one state to the next. R has a monad under the least part of what is held: each part under which R has
-- a type has what this part has. The rest is left; persistent entries are in both, so they stay. The monad's entries are added, all held.
pub record TakesStep (sig : PlainSignature) (ms : List Mode) (r : PlainNeutral) (before after : PlainState) : Type 0 where
  pub entries : PlainTelescope
  pub taken : Holding
  pub left : Holding
  pub split : Split (modes before.context) before.holding taken left
  pub right : Synthesizes sig before.context taken r (monad entries)
  pub least : (p q : Holding) (a : PlainType) → Split (modes before.context) before.holding p q → Synthesizes sig before.context p r a → IsWithin taken p
  pub pattern : telescope_modes entries ≡ ms
  pub state : after ≡ state_after before.context left entries

-- The steps lead from one state to the other.
abbrev pub IsRun : PlainSignature → List (List Mode × PlainNeutral) → PlainState → PlainState → Type 0
IsRun sig [] before after = after ≡ before
IsRun sig (x ∷ xs) before after = (between : PlainState) × TakesStep sig x.0 x.1 before between × IsRun sig xs between after

-- how many variables the steps bind
abbrev pub bound : List (List Mode × PlainNeutral) → ℕ
bound [] = 0
bound (x ∷ xs) = bound xs + length x.0
