-- Joined trees are the same outside of their monadic objects.
use Rattle.std.specs.Prelude.{refl}
use Rattle.std.proofs.Common.{subst}
use Rattle.clf_syntax.specs.Tree.{PlainObject, lam, pair, unit, monadic, atomic, hole, PlainNeutral, head_alone, app, fst, snd}
use Rattle.trace_equal.specs.Laws.{JoinedIsSameOutside}
use Rattle.trace_equal.specs.Matching.{Matches, MatchesNeutral, match_app, match_atomic, match_bare, match_fst, match_hole, match_lam, match_monadic, match_pair, match_snd, match_unit}
use Rattle.trace_equal.specs.Outside.{SameOutside, SameOutsideNeutral}
use Rattle.trace_equal.proofs.Closed.{joined_matches}

mutual
  same_outside : {o u : PlainObject} → Matches o u → SameOutside o u
  same_outside (match_lam p) = (refl, same_outside p)
  same_outside (match_pair p q) = (same_outside p, same_outside q)
  same_outside match_unit = tt
  same_outside (match_monadic {e = e} {f = f} p) = (joined_matches.2 e f).1 p
  same_outside (match_atomic p) = same_outside_neutral p
  same_outside match_hole = tt

  same_outside_neutral : {n r : PlainNeutral} → MatchesNeutral n r → SameOutsideNeutral n r
  same_outside_neutral match_bare = refl
  same_outside_neutral (match_app p q) = (refl, same_outside_neutral p, same_outside q)
  same_outside_neutral (match_fst p) = same_outside_neutral p
  same_outside_neutral (match_snd p) = same_outside_neutral p

mutual
  match_of : (o u : PlainObject) → SameOutside o u → Matches o u
  match_of (lam m b) (lam k c) (e, h) = subst (λ i. Matches (lam m b) (lam i c)) e (match_lam (match_of b c h))
  match_of (pair l r) (pair k s) (g, h) = match_pair (match_of l k g) (match_of r s h)
  match_of unit unit h = match_unit
  match_of (monadic e) (monadic f) h = match_monadic ((joined_matches.2 e f).0 h)
  match_of (atomic n) (atomic o) h = match_atomic (match_of_neutral n o h)
  match_of hole hole h = match_hole
  match_of _ _ h = absurd h

  match_of_neutral : (n r : PlainNeutral) → SameOutsideNeutral n r → MatchesNeutral n r
  match_of_neutral (head_alone h) (head_alone j) e = subst (λ i. MatchesNeutral (head_alone h) (head_alone i)) e match_bare
  match_of_neutral (app m r o) (app k s u) (e, g, h) = subst (λ i. MatchesNeutral (app m r o) (app i s u)) e (match_app (match_of_neutral r s g) (match_of o u h))
  match_of_neutral (fst r) (fst s) h = match_fst (match_of_neutral r s h)
  match_of_neutral (snd r) (snd s) h = match_snd (match_of_neutral r s h)
  match_of_neutral _ _ h = absurd h

pub joined_is_same_outside : JoinedIsSameOutside
joined_is_same_outside = (
  λ o u. ((λ j. same_outside ((joined_matches.0 o u).0 j)), (λ h. (joined_matches.0 o u).1 (match_of o u h))),
  λ n r. ((λ j. same_outside_neutral ((joined_matches.1 n r).0 j)), (λ h. (joined_matches.1 n r).1 (match_of_neutral n r h))),
)

pub ruleset outside_laws = (joined_is_same_outside)
