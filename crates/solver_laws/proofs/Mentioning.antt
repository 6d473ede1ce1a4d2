-- What solutions mention, and what stands at a rigid place is mentioned.
use Rattle.std.specs.Prelude.{ℕ, true, false, ◌≡◌, ◌<◌, ◌==◌, List, [], ◌∷◌, refl}
use Rattle.std.proofs.Common.{◌∙◌, arith}
use Rattle.clf_syntax.specs.declared.tree.Head.TheVariants.{Var, Meta}
use Rattle.clf_syntax.specs.Tree.{PlainObject, lam, atomic, PlainNeutral, head_alone}
use Rattle.clf_syntax.specs.Renaming.{ren}
use Rattle.clf_syntax.proofs.OccursLaws.{or_first, or_second}
use Rattle.eta_laws.specs.Eta.{eta}
use Rattle.store_laws.specs.Mentions.{mentions, mentions_neutral}
use Rattle.pattern_laws.specs.Patterns.{Place, on, lams, inverse, inverted}
use Rattle.unify_laws.specs.Rigid.{Stands, stands_here, stands_body, stands_left, stands_right, stands_below, StandsBelow, below_argument, below_function, below_fst, below_snd}
use Rattle.flat_laws.proofs.FlatReach.{mentions_ren, on_silent}

own : (i : ℕ) → i == i ≡ true
own i = grind arith

other : (k j : ℕ) → k < j → j == k ≡ false
other k j h = grind arith

-- A metavariable on places is mentioned.
pub mentions_on : (k : ℕ) (ps : List Place) → mentions_neutral k (on ps (head_alone (Meta k))) ≡ true
mentions_on k [] = own k
mentions_on k (p ∷ ps) = or_first (mentions_neutral k (on ps (head_alone (Meta k)))) (mentions k (eta p.1 (head_alone (Var p.2)))) (mentions_on k ps)

pub mentions_lams : (k : ℕ) (ps : List Place) (b : PlainObject) → mentions k (lams ps b) ≡ mentions k b
mentions_lams k [] b = refl
mentions_lams k (p ∷ ps) b = mentions_lams k ps (lam p.0 b)

-- The inverted side mentions what the side mentions.
pub mentions_inverted : (k n : ℕ) (ps : List Place) (x : PlainObject) → mentions k (inverted n ps x) ≡ mentions k x
mentions_inverted k n ps x = mentions_lams k ps (ren (inverse n ps) x) ∙ mentions_ren k (inverse n ps) x

-- A solution by a new metavariable mentions that one alone.
pub narrowed_silent : (k j : ℕ) (ps qs : List Place) → j == k ≡ false → mentions k (lams ps (atomic (on qs (head_alone (Meta j))))) ≡ false
narrowed_silent k j ps qs e = mentions_lams k ps (atomic (on qs (head_alone (Meta j)))) ∙ on_silent k qs (head_alone (Meta j)) e

pub older_silent : (k j : ℕ) (ps qs : List Place) → k < j → mentions k (lams ps (atomic (on qs (head_alone (Meta j))))) ≡ false
older_silent k j ps qs h = narrowed_silent k j ps qs (other k j h)

mutual
  pub stands_mentions : {d : ℕ} {q : PlainNeutral} {o : PlainObject} → Stands d q o → (k : ℕ) → mentions_neutral k q ≡ true → mentions k o ≡ true
  stands_mentions stands_here k e = e
  stands_mentions (stands_body s) k e = stands_mentions s k e
  stands_mentions (stands_left {l = l} {r = r} s) k e = or_first (mentions k l) (mentions k r) (stands_mentions s k e)
  stands_mentions (stands_right {l = l} {r = r} s) k e = or_second (mentions k l) (mentions k r) (stands_mentions s k e)
  stands_mentions (stands_below f s) k e = below_mentions s k e

  below_mentions : {d : ℕ} {q n : PlainNeutral} → StandsBelow d q n → (k : ℕ) → mentions_neutral k q ≡ true → mentions_neutral k n ≡ true
  below_mentions (below_argument {r = r} {o = o} s) k e = or_second (mentions_neutral k r) (mentions k o) (stands_mentions s k e)
  below_mentions (below_function {r = r} {o = o} s) k e = or_first (mentions_neutral k r) (mentions k o) (below_mentions s k e)
  below_mentions (below_fst s) k e = below_mentions s k e
  below_mentions (below_snd s) k e = below_mentions s k e
