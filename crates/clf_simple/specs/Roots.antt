-- Inner: what contracts see of a neutral on the way down its type.
use Rattle.std.specs.Prelude.{List, map}
use Rattle.clf_syntax.specs.Tree.{PlainNeutral}
use Rattle.clf_syntax.specs.Plain.{plain_neutral}
use Rattle.clf_syntax.specs.PlainSimple.{plain_simple}
use Rattle.clf_simple.specs.declared.expansion.Root.{Root}
use Rattle.clf_simple.specs.declared.expansion.Root.TheVariants.{Given, Variable}
use Rattle.clf_simple.specs.declared.expansion.Noted.{Noted}
use Rattle.clf_simple.specs.declared.expansion.Noted.TheVariants.{Argument, First, Second}
use Rattle.clf_simple.specs.Noted.{PlainNoted, argument, first_part, second_part, variable}

abbrev pub plain_root : Root → PlainNeutral
plain_root (Given n) = plain_neutral n.now
plain_root (Variable i) = variable i

abbrev pub plain_noted : Noted → PlainNoted
plain_noted (Argument m t) = argument m (plain_simple t.now)
plain_noted First = first_part
plain_noted Second = second_part

abbrev pub plain_notes : List Noted → List PlainNoted
plain_notes ns = map plain_noted ns
