-- The equations that mention one of some metavariables.
use Rattle.std.specs.Prelude.{ℕ, ◌+◌, ◌||◌, Bool, if◌then◌else◌, List, [], ◌∷◌}
use Rattle.std.specs.List.{list_any}
use Rattle.store_laws.specs.Mentions.{mentions}
use Rattle.pattern_laws.specs.Equations.{Equation}

abbrev pub mentioned_in : Equation → ℕ → Bool
mentioned_in e k = mentions k e.left || mentions k e.right

-- their places in the list, the first equation at the place i
abbrev pub woken : List ℕ → ℕ → List Equation → List ℕ
woken ks i [] = []
woken ks i (e ∷ es) = if list_any (mentioned_in e) ks then i ∷ woken ks (i + 1) es else woken ks (i + 1) es
