-- The steps of an expression as a list. Each step stands over the variables of all of them, so that its variables have the same numbers
-- in every step that comes later, and the steps can be compared in any order.
use Rattle.std.specs.Prelude.{ℕ, zero, suc, ◌+◌, List, [], ◌∷◌, length, map}
use Rattle.clf_syntax.specs.Renaming.{Renumbering, ren_neutral, up}
use Rattle.clf_syntax.specs.Tree.{PlainExpression, PlainNeutral, PlainTuple, done, step}
use Rattle.clf_syntax.specs.declared.tree.Mode.{Mode}

-- how many variables the steps bind
abbrev pub size : PlainExpression → ℕ
size (step ms r e) = size e + length ms
size (done t) = 0

-- the numbers below n, the greatest first
abbrev pub below : ℕ → List ℕ
below zero = []
below (suc n) = n ∷ below n

-- a step: the numbers of its variables, their modes, and its right side
pub data WideStep : Type 0 where
  wide_step : List ℕ → List Mode → PlainNeutral → WideStep

-- the steps in order, over the variables of all of them
abbrev pub wide_steps : PlainExpression → List WideStep
wide_steps (step ms r e) = wide_step (map (up (size e)) (below (length ms))) ms (ren_neutral (up (size e + length ms)) r) ∷ wide_steps e
wide_steps (done t) = []

-- the tuple at the end, which is over the variables of all steps
abbrev pub result_of : PlainExpression → PlainTuple
result_of (step ms r e) = result_of e
result_of (done t) = t

-- a step renamed, with its variables
abbrev pub ren_wide_step : Renumbering → WideStep → WideStep
ren_wide_step r (wide_step vs ms n) = wide_step (map r vs) ms (ren_neutral r n)
