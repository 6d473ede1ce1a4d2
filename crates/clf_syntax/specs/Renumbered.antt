-- Inner: renaming under a number of binders, with that number at hand, and its parts for one elimination, entry and step.
use Rattle.std.specs.Prelude.{ℕ, ◌+◌, List, [], ◌∷◌, map, length, Bool, true}
use Rattle.clf_syntax.specs.declared.tree.Mode.{Mode}
use Rattle.clf_syntax.specs.Tree.{PlainObject, lam, pair, unit, monadic, atomic, hole, PlainNeutral, head_alone, app, fst, snd, PlainExpression, step, done, PlainTuple, empty, entry, PlainElimination, arg, first, second}
use Rattle.clf_syntax.specs.TypeTree.{PlainType, family, function, both, top, monad, PlainTelescope, end, binding, PlainKind}
use Rattle.clf_syntax.specs.Renaming.{Renumbering, lifted, ren_head}
use Rattle.clf_syntax.specs.Written.{fits, fits_neutral, fits_type}

abbrev mutual
  pub renumber : Renumbering → ℕ → PlainObject → PlainObject
  renumber r d (lam m b) = lam m (renumber r (d + 1) b)
  renumber r d (pair x y) = pair (renumber r d x) (renumber r d y)
  renumber r d unit = unit
  renumber r d (monadic e) = monadic (renumber_expression r d e)
  renumber r d (atomic n) = atomic (renumber_neutral r d n)
  renumber r d hole = hole

  pub renumber_neutral : Renumbering → ℕ → PlainNeutral → PlainNeutral
  renumber_neutral r d (head_alone h) = head_alone (ren_head (lifted d r) h)
  renumber_neutral r d (app m x n) = app m (renumber_neutral r d x) (renumber r d n)
  renumber_neutral r d (fst x) = fst (renumber_neutral r d x)
  renumber_neutral r d (snd x) = snd (renumber_neutral r d x)

  pub renumber_expression : Renumbering → ℕ → PlainExpression → PlainExpression
  renumber_expression r d (step ms x e) = step ms (renumber_neutral r d x) (renumber_expression r (d + length ms) e)
  renumber_expression r d (done t) = done (renumber_tuple r d t)

  pub renumber_tuple : Renumbering → ℕ → PlainTuple → PlainTuple
  renumber_tuple r d empty = empty
  renumber_tuple r d (entry m n t) = entry m (renumber r d n) (renumber_tuple r d t)

abbrev mutual
  pub renumber_type : Renumbering → ℕ → PlainType → PlainType
  renumber_type r d (family f ns) = family f (map (renumber r d) ns)
  renumber_type r d (function m a b) = function m (renumber_type r d a) (renumber_type r (d + 1) b)
  renumber_type r d (both a b) = both (renumber_type r d a) (renumber_type r d b)
  renumber_type r d top = top
  renumber_type r d (monad s) = monad (renumber_telescope r d s)

  pub renumber_telescope : Renumbering → ℕ → PlainTelescope → PlainTelescope
  renumber_telescope r d end = end
  renumber_telescope r d (binding m a s) = binding m (renumber_type r d a) (renumber_telescope r (d + 1) s)

abbrev pub renumber_kind : Renumbering → ℕ → PlainKind → PlainKind
renumber_kind r d [] = []
renumber_kind r d (a ∷ k) = renumber_type r d a ∷ renumber_kind r (d + 1) k

abbrev pub renumber_elimination : Renumbering → ℕ → PlainElimination → PlainElimination
renumber_elimination r d (arg m n) = arg m (renumber r d n)
renumber_elimination r d first = first
renumber_elimination r d second = second

abbrev pub renumber_entry : Renumbering → ℕ → Mode × PlainObject → Mode × PlainObject
renumber_entry r d e = (e.0, renumber r d e.1)

abbrev pub renumber_step : Renumbering → ℕ → List Mode × PlainNeutral → List Mode × PlainNeutral
renumber_step r d s = (s.0, renumber_neutral r d s.1)

abbrev pub renumber_tele_entry : Renumbering → ℕ → Mode × PlainType → Mode × PlainType
renumber_tele_entry r d e = (e.0, renumber_type r d e.1)

-- whether each number in an elimination, entry or step can be written
abbrev pub fits_elimination : PlainElimination → Bool
fits_elimination (arg m n) = fits n
fits_elimination first = true
fits_elimination second = true

abbrev pub fits_entry : Mode × PlainObject → Bool
fits_entry e = fits e.1

abbrev pub fits_step : List Mode × PlainNeutral → Bool
fits_step s = fits_neutral s.1

abbrev pub fits_tele_entry : Mode × PlainType → Bool
fits_tele_entry e = fits_type e.1

-- a telescope after some entries
abbrev pub entries_on : List (Mode × PlainType) → PlainTelescope → PlainTelescope
entries_on [] s = s
entries_on (e ∷ es) s = binding e.0 e.1 (entries_on es s)
