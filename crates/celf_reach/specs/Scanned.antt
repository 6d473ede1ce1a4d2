-- Inner: what contracts see of what a walk finds.
use Rattle.std.specs.Prelude.{ℕ, Bool, false, ◌≡◌, ◌&&◌, not, List, ◌++◌, None}
use Rattle.std.specs.Option.{option_map}
use Rattle.std.specs.Borrow.{Bor}
use Rattle.clf_syntax.specs.declared.tree.Simple.{Simple}
use Rattle.clf_syntax.specs.Tree.{PlainObject, PlainNeutral}
use Rattle.clf_syntax.specs.TypeTree.{SimpleType}
use Rattle.clf_syntax.specs.Simple.{SimplyTyped, SimplyTypedNeutral}
use Rattle.pattern_laws.specs.Equations.{Locals, scoped}
use Rattle.pattern_laws.specs.Patterns.{Place, OnLocals}
use Rattle.celf_constraints.specs.declared.places.Places.{Places}
use Rattle.celf_constraints.specs.Reading.{plain_places, own_places}
use Rattle.reach_walk.specs.Walked.{Found as PlainFound, Walked, WalkedBelow}
use Rattle.celf_reach.specs.declared.found.Found.{Found}
use Rattle.celf_reach.specs.declared.found.Prune.{Prune}
use Rattle.celf_reach.specs.declared.tables.Sought.{Sought}
use Rattle.celf_reach.specs.Sought.{Situated, sought_heads}

abbrev pub plain_prune : Prune → ℕ × List Bool
plain_prune p = (p.meta, p.mask.items)

abbrev pub plain_found : Found → PlainFound
plain_found f = record { clash = f.clash; free = f.free; prune = option_map plain_prune f.prune }

-- what is found where nothing can be taken away
abbrev pub loose_found : Bool → Bool → PlainFound
loose_found mentioned foreign = record { clash = false; free = not mentioned && not foreign; prune = None }

-- The neutral was read, in a scope, as a metavariable at these places.
abbrev pub ReadAt : Sought → List (Bor Simple) → PlainNeutral → SimpleType → Places → Type 0
ReadAt s types n t p = (ls ds : Locals) (ps : List Place) → Situated s types ls ds ps → SimplyTypedNeutral (scoped (ds ++ ls) (sought_heads s)) n t → OnLocals (scoped (ds ++ ls) (sought_heads s)) n p.meta (plain_places p) (own_places p) t

-- In an object that is typed this is found.
abbrev pub Finds : Sought → List (Bor Simple) → PlainObject → SimpleType → PlainFound → Type 0
Finds s types x t f = (ls ds : Locals) (ps : List Place) → Situated s types ls ds ps → SimplyTyped (scoped (ds ++ ls) (sought_heads s)) x t → Walked (sought_heads s) ls s.meta ps ds x t f

-- In a neutral that is typed this is found.
abbrev pub FindsBelow : Sought → List (Bor Simple) → PlainNeutral → PlainFound → Type 0
FindsBelow s types n f = (ls ds : Locals) (ps : List Place) → Situated s types ls ds ps → (t : SimpleType) → SimplyTypedNeutral (scoped (ds ++ ls) (sought_heads s)) n t → WalkedBelow (sought_heads s) ls s.meta ps ds n f

-- So far along a neutral: its type, and what is found in it.
abbrev pub SoFar : Sought → List (Bor Simple) → PlainNeutral → SimpleType → PlainFound → Type 0
SoFar s types n u f = (ls ds : Locals) (ps : List Place) → Situated s types ls ds ps → (t : SimpleType) → SimplyTypedNeutral (scoped (ds ++ ls) (sought_heads s)) n t
    → (t ≡ u) × WalkedBelow (sought_heads s) ls s.meta ps ds n f
