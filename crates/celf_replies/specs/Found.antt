-- What is said of an item in which something is not written: what does not go together, equations that are left, variables in a circle.
use Rattle.std.specs.Prelude.{ℕ, List, [], ◌∷◌, ◌++◌, Option, Some, None, codes}
use Rattle.clf_sig.specs.Entry.{PlainSignature}
use Rattle.clf_printer.specs.Text.{place_text, object_text, comma}
use Rattle.clf_printer.specs.Metas.{appearing}
use Rattle.celf_replies.specs.Reply.{PlainSides, PlainMismatch, not_function, not_pair, not_top, not_monad, not_atomic, not_closed, mode_differs, width, family_differs, unknown_head, family_arity, index_differs}

-- the two sides with a word between them
abbrev pub sides_text : PlainSignature → List ℕ → List ℕ → PlainSides → List ℕ
sides_text sig metas between s = object_text sig metas s.under s.left ++ between ++ object_text sig metas s.under s.right

-- The metavariables of the sides, after those that appeared before: they are numbered over one refusal.
abbrev pub appearing_sides : List ℕ → PlainSides → List ℕ
appearing_sides metas s = appearing (appearing metas s.left) s.right

abbrev pub appearing_equations : List ℕ → List PlainSides → List ℕ
appearing_equations metas [] = metas
appearing_equations metas (s ∷ ss) = appearing_equations (appearing_sides metas s) ss

-- equations, with a comma between two of them
abbrev pub equations_text : PlainSignature → List ℕ → List PlainSides → List ℕ
equations_text sig metas [] = []
equations_text sig metas (s ∷ ss) = sides_text sig metas (codes " = ") s ++ comma ss ++ equations_text sig metas ss

abbrev pub unresolved_text : PlainSignature → List PlainSides → List ℕ
unresolved_text sig ss = equations_text sig (appearing_equations [] ss) ss

abbrev pub mismatch_text : PlainSignature → PlainMismatch → List ℕ
mismatch_text sig not_function = codes "not a function"
mismatch_text sig not_pair = codes "not a pair"
mismatch_text sig not_top = codes "not a unit"
mismatch_text sig not_monad = codes "not a monad"
mismatch_text sig not_atomic = codes "not atomic"
mismatch_text sig not_closed = codes "not closed"
mismatch_text sig mode_differs = codes "mode differs"
mismatch_text sig width = codes "width differs"
mismatch_text sig (family_differs found wanted) = codes "family differs: " ++ place_text sig found ++ codes " and " ++ place_text sig wanted
mismatch_text sig unknown_head = codes "unknown head"
mismatch_text sig family_arity = codes "family arity"
mismatch_text sig (index_differs s) = codes "index differs: " ++ sides_text sig (appearing_sides [] s) (codes " and ") s

-- a variable without a name is _
abbrev pub circle_name : Option (List ℕ) → List ℕ
circle_name (Some name) = name
circle_name None = codes "_"

-- names, with a comma between two of them
abbrev pub circle_text : List (Option (List ℕ)) → List ℕ
circle_text [] = []
circle_text (n ∷ ns) = circle_name n ++ comma ns ++ circle_text ns
