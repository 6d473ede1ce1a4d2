-- Inner: how much there is to write at a type, and of the eliminations noted.
use Rattle.std.specs.Prelude.{ℕ, ◌+◌, List, [], ◌∷◌}
use Rattle.clf_syntax.specs.TypeTree.{SimpleType, base, arrow, simple_with, simple_top, lax, SimpleTelescope, simple_end, simple_binding}
use Rattle.clf_simple.specs.Noted.{PlainNoted, argument, first_part, second_part}

abbrev mutual
  pub weight : SimpleType → ℕ
  weight (base a) = 0
  weight (arrow m d c) = weight d + weight c + 2
  weight (simple_with c d) = weight c + weight d + 2
  weight simple_top = 0
  weight (lax ts) = entries_weight ts + 1

  pub entries_weight : SimpleTelescope → ℕ
  entries_weight simple_end = 0
  entries_weight (simple_binding m t ts) = weight t + 1 + entries_weight ts

abbrev pub note_weight : PlainNoted → ℕ
note_weight (argument m t) = weight t + 1
note_weight first_part = 1
note_weight second_part = 1

abbrev pub notes_weight : List PlainNoted → ℕ
notes_weight [] = 0
notes_weight (a ∷ qs) = note_weight a + notes_weight qs
