-- Eta-long forms of a neutral at a simple type.
use Rattle.std.specs.Prelude.{ℕ, ◌-◌, nat_lt, if◌then◌else◌, length, Bool, true, false}
use Rattle.clf_syntax.specs.declared.tree.Head.TheVariants.{Var}
use Rattle.clf_syntax.specs.Tree.{PlainObject, lam, pair, unit, monadic, atomic, PlainNeutral, head_alone, app, fst, snd, step, done, PlainTuple, empty, entry, head_of}
use Rattle.clf_syntax.specs.TypeTree.{SimpleType, base, arrow, simple_with, simple_top, lax, SimpleTelescope, simple_end, simple_binding}
use Rattle.clf_syntax.specs.Simple.{simple_modes}
use Rattle.clf_syntax.specs.Renaming.{Renumbering, ren_neutral, up}
use Rattle.hered_subst.specs.TypedEnvironments.{is_metavariable}

-- the eta-long form of a neutral
abbrev mutual
  pub eta : SimpleType → PlainNeutral → PlainObject
  eta (base a) n = atomic n
  eta (arrow m d c) n = lam m (eta c (app m (ren_neutral (up 1) n) (eta d (head_alone (Var 0)))))
  eta (simple_with c d) n = pair (eta c (fst n)) (eta d (snd n))
  eta simple_top n = unit
  eta (lax ts) n = monadic (step (simple_modes ts) n (done (variables ts)))

  -- the newest variables, at the types of a list
  pub variables : SimpleTelescope → PlainTuple
  variables simple_end = empty
  variables (simple_binding m t ts) = entry m (eta t (head_alone (Var (length (simple_modes ts))))) (variables ts)

-- at a monad: the neutral itself, or a step
abbrev pub at_monad : Bool → SimpleTelescope → PlainNeutral → PlainObject
at_monad true ts n = atomic n
at_monad false ts n = eta (lax ts) n

-- the form in which a neutral is written out: the eta-long one, save that a metavariable at a monad stays
abbrev pub expansion : SimpleType → PlainNeutral → PlainObject
expansion (base a) n = atomic n
expansion (arrow m d c) n = lam m (expansion c (app m (ren_neutral (up 1) n) (eta d (head_alone (Var 0)))))
expansion (simple_with c d) n = pair (expansion c (fst n)) (expansion d (snd n))
expansion simple_top n = unit
expansion (lax ts) n = at_monad (is_metavariable (head_of n)) ts n

-- variable k becomes j, and those above k fall
abbrev pub becoming : ℕ → ℕ → Renumbering
becoming k j i = if nat_lt i k then i else (if nat_lt k i then i - 1 else j)
