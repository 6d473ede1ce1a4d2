-- The words of the kernel's refusals.
use Rattle.std.specs.Prelude.{ℕ, List, [], ◌∷◌, ◌++◌, codes}
use Rattle.std.specs.Fmt.{decimal}
use Rattle.clf_sig.specs.Entry.{PlainSignature}
use Rattle.clf_rules.specs.Refusal.{Cause, not_function, not_pair, not_top, not_monad, not_atomic, not_closed, mode_differs, width, not_held, unused, pairs_differ, family_differs, index_differs, family_arity, unknown_head}
use Rattle.clf_printer.specs.Text.{place_text, variable_text, object_text}

abbrev pub cause_text : PlainSignature → Cause → List ℕ
cause_text sig (not_function found) = codes "not a function"
cause_text sig (not_pair found) = codes "not a pair"
cause_text sig (not_top found) = codes "not a unit"
cause_text sig (not_monad found) = codes "not a monad"
cause_text sig (not_atomic found) = codes "not atomic"
cause_text sig not_closed = codes "not closed"
cause_text sig (mode_differs wanted found) = codes "mode differs"
cause_text sig (width wanted found) = codes "width differs"
cause_text sig (not_held level) = codes "not held " ++ variable_text level
cause_text sig (unused level) = codes "unused " ++ variable_text level
cause_text sig (pairs_differ level) = codes "pairs differ on " ++ variable_text level
cause_text sig (family_differs found wanted) = codes "family differs: " ++ place_text sig found ++ codes " and " ++ place_text sig wanted
cause_text sig (index_differs under found wanted) = codes "index differs: " ++ object_text sig [] under found ++ codes " and " ++ object_text sig [] under wanted
cause_text sig (family_arity wanted found) = codes "family arity"
cause_text sig (unknown_head head) = codes "unknown head"

-- numbers, each after a stop
abbrev pub stops_text : List ℕ → List ℕ
stops_text [] = []
stops_text (k ∷ path) = codes "." ++ decimal k ++ stops_text path

-- the numbers of a path, with a stop between two of them
abbrev pub path_text : List ℕ → List ℕ
path_text [] = []
path_text (k ∷ path) = decimal k ++ stops_text path
