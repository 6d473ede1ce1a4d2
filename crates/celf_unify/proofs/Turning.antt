-- Equations in the other order: the same ones are listed.
use Rattle.std.proofs.Common.{◌≡◌, List, [], ◌∷◌, ◌++◌, reverse, sym, subst}
use Rattle.std.proofs.lemmas.List.{reverse-append, reverse-reverse}
use Rattle.pattern_laws.specs.Equations.{Equation, Listed, listed_here, listed_later}
use Rattle.reach_laws.proofs.Down.{listed_more, listed_behind}

turn : (e : Equation) (es : List Equation) → reverse (e ∷ es) ≡ reverse es ++ e ∷ []
turn e es = reverse-append (e ∷ []) es

pub into_turned : {e : Equation} (es : List Equation) → Listed e es → Listed e (reverse es)
into_turned [] l = elim l [ ]
into_turned {e} (d ∷ es) listed_here = subst (Listed e) (sym (turn d es)) (listed_behind e (reverse es) (d ∷ []) listed_here)
into_turned {e} (d ∷ es) (listed_later l) = subst (Listed e) (sym (turn d es)) (listed_more e (reverse es) (d ∷ []) (into_turned es l))

pub from_turned : {e : Equation} (es : List Equation) → Listed e (reverse es) → Listed e es
from_turned {e} es l = subst (Listed e) (reverse-reverse es) (into_turned (reverse es) l)
