-- Trees that are the same but for their monadic objects.
use Rattle.std.specs.Prelude.{◌≡◌}
use Rattle.clf_syntax.specs.Tree.{PlainObject, lam, pair, unit, monadic, atomic, hole, PlainNeutral, head_alone, app, fst, snd}
use Rattle.trace_equal.specs.Exchange.{JoinedExpression}

-- At each place outside of monadic objects they have the same constructor, head and mode, and monadic objects at the same place are joined.
abbrev mutual
  pub SameOutside : PlainObject → PlainObject → Type 0
  SameOutside (lam m b) (lam k c) = (m ≡ k) × SameOutside b c
  SameOutside (pair l r) (pair k s) = SameOutside l k × SameOutside r s
  SameOutside unit unit = Unit {0}
  SameOutside (monadic e) (monadic f) = JoinedExpression e f
  SameOutside (atomic n) (atomic o) = SameOutsideNeutral n o
  SameOutside hole hole = Unit {0}
  SameOutside _ _ = ⊥

  pub SameOutsideNeutral : PlainNeutral → PlainNeutral → Type 0
  SameOutsideNeutral (head_alone h) (head_alone j) = h ≡ j
  SameOutsideNeutral (app m r o) (app k s u) = (m ≡ k) × SameOutsideNeutral r s × SameOutside o u
  SameOutsideNeutral (fst r) (fst s) = SameOutsideNeutral r s
  SameOutsideNeutral (snd r) (snd s) = SameOutsideNeutral r s
  SameOutsideNeutral _ _ = ⊥
