-- Implicit variables are determined in rounds. In a round each variable is determined of which some checked occurrence is at distinct locals;
-- what is checked is read with the variables of the earlier rounds alone.
use Rattle.std.specs.Prelude.{ℕ, zero, suc, Bool, not, if◌then◌else◌, List, [], ◌∷◌, ◌++◌, length, map, Option, Some, None}
use Rattle.std.specs.List.{filter, find, filter_map, cons_option}
use Rattle.clf_syntax.specs.TypeTree.{arrow}
use Rattle.clf_sig.specs.Entry.{PlainSignature}
use Rattle.celf_sugar.specs.Earliest.{sooner, earliest}
use Rattle.celf_sugar.specs.PlainTree.{DesugaredBody}
use Rattle.celf_places.specs.Combined.{combined}
use Rattle.celf_places.specs.Places.{Place}
use Rattle.celf_implicit.specs.declared.variable.Argument.{Argument}
use Rattle.celf_implicit.specs.declared.variable.Variable.{Variable}
use Rattle.celf_implicit.specs.Variables.{PlainImplicit, has_name, is_among}
use Rattle.celf_implicit.specs.Occurrences.{AppliedLocal, Occurrence, occurrences}

-- ---- what an occurrence determines

-- functions from the simple types of locals to what is wanted of the variable
abbrev pub from_locals : List AppliedLocal → Place → Place
from_locals [] t = t
from_locals (a ∷ as_) t = combined (arrow a.mode) a.place (from_locals as_ t)

abbrev pub argument_of : AppliedLocal → Argument
argument_of a = record { mode = a.mode; number = a.number }

abbrev pub determined_at : Occurrence → List AppliedLocal → PlainImplicit
determined_at o as_ = record { name = o.name.name; start = o.name.span.start; arguments = map argument_of as_; place = from_locals as_ o.place }

abbrev pub at_distinct : Occurrence → Option (List AppliedLocal) → Option PlainImplicit
at_distinct o None = None
at_distinct o (Some as_) = Some (determined_at o as_)

-- A checked occurrence at distinct locals determines its variable.
abbrev pub determined_by : Occurrence → Option PlainImplicit
determined_by o = if o.checked then at_distinct o o.at_locals else None

-- ---- rounds

-- the occurrences of variables that are not among these
abbrev pub is_open : List PlainImplicit → Occurrence → Bool
is_open xs o = not (is_among xs o.name.name)

abbrev pub open_occurrences : PlainSignature → DesugaredBody → List PlainImplicit → List Occurrence
open_occurrences sig body xs = filter (is_open xs) (occurrences sig xs body)

-- what determines a variable that is not among these
abbrev pub found : PlainSignature → DesugaredBody → List PlainImplicit → List PlainImplicit
found sig body xs = filter_map determined_by (open_occurrences sig body xs)

abbrev pub start : PlainImplicit → ℕ
start x = x.start

abbrev pub is_other : PlainImplicit → PlainImplicit → Bool
is_other x y = not (has_name x.name y)

-- of each variable the one that stands earliest in the text
abbrev pub first_of_each : List PlainImplicit → List PlainImplicit
first_of_each [] = []
first_of_each (x ∷ xs) = cons_option (sooner start (Some x) (find (has_name x.name) (first_of_each xs))) (filter (is_other x) (first_of_each xs))

-- A round adds the variables that it determines, each as it is at the first occurrence that determines it.
abbrev pub round : PlainSignature → DesugaredBody → List PlainImplicit → List PlainImplicit
round sig body xs = xs ++ first_of_each (found sig body xs)

abbrev pub after_rounds : PlainSignature → DesugaredBody → ℕ → List PlainImplicit
after_rounds sig body zero = []
after_rounds sig body (suc n) = round sig body (after_rounds sig body n)

-- The variables that are determined, in the order of the rounds. After as many rounds as there are occurrences no round adds one.
abbrev pub determined : PlainSignature → DesugaredBody → List PlainImplicit
determined sig body = after_rounds sig body (length (occurrences sig [] body))

-- ---- the first variable that is not determined

abbrev pub standing : Occurrence → Variable
standing o = record { name = o.name.name; span = o.name.span }

abbrev pub begins : Variable → ℕ
begins v = v.span.start

-- the first in the text that no round determines
abbrev pub undetermined : PlainSignature → DesugaredBody → Option Variable
undetermined sig body = earliest begins (map standing (open_occurrences sig body (determined sig body)))
