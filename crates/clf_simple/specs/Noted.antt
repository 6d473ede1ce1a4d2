-- Inner: a neutral on the way down its type, as what stood there first and the eliminations that came since.
use Rattle.std.specs.Prelude.{ℕ, ◌+◌, Bool, true, false, List, [], ◌∷◌, length}
use Rattle.clf_syntax.specs.declared.tree.Mode.{Mode}
use Rattle.clf_syntax.specs.declared.tree.Head.TheVariants.{Var}
use Rattle.clf_syntax.specs.Tree.{PlainObject, PlainNeutral, head_alone, PlainElimination, arg, first, second, spine_on}
use Rattle.clf_syntax.specs.TypeTree.{SimpleType, SimpleTelescope, simple_end, simple_binding}
use Rattle.clf_syntax.specs.Simple.{simple_modes}
use Rattle.clf_syntax.specs.Renaming.{ren_neutral, up}
use Rattle.eta_laws.specs.Eta.{eta}

-- an argument is the variable of a lambda that was met then, at its type
pub data PlainNoted : Type 0 where
  argument : Mode → SimpleType → PlainNoted
  first_part : PlainNoted
  second_part : PlainNoted

abbrev pub is_argument : PlainNoted → Bool
is_argument (argument m t) = true
is_argument first_part = false
is_argument second_part = false

abbrev pub bound_by : PlainNoted → ℕ
bound_by (argument m t) = 1
bound_by first_part = 0
bound_by second_part = 0

-- how many lambdas were met
abbrev pub lambdas : List PlainNoted → ℕ
lambdas [] = 0
lambdas (a ∷ qs) = bound_by a + lambdas qs

abbrev pub variable : ℕ → PlainNeutral
variable i = head_alone (Var i)

abbrev pub long_variable : SimpleType → ℕ → PlainObject
long_variable t i = eta t (variable i)

-- the elimination, where so many lambdas were met after it
abbrev pub elimination : PlainNoted → ℕ → PlainElimination
elimination (argument m t) i = arg m (long_variable t i)
elimination first_part i = first
elimination second_part i = second

abbrev pub eliminations : List PlainNoted → List PlainElimination
eliminations [] = []
eliminations (a ∷ qs) = elimination a (lambdas qs) ∷ eliminations qs

-- the neutral at this place of its type
abbrev pub under : List PlainNoted → PlainNeutral → PlainNeutral
under qs n = spine_on (eliminations qs) (ren_neutral (up (lambdas qs)) n)

abbrev pub variable_entry : Mode × SimpleType → ℕ → Mode × PlainObject
variable_entry e i = (e.0, long_variable e.1 i)

-- the newest variables, one for each entry
abbrev pub variable_entries : SimpleTelescope → List (Mode × PlainObject)
variable_entries simple_end = []
variable_entries (simple_binding m t ts) = variable_entry (m, t) (length (simple_modes ts)) ∷ variable_entries ts
