-- A step can be pulled to the front exactly where it mentions no variable of a step before it.
use Rattle.std.specs.Prelude.{ℕ, Bool, true, false, zero, suc, ◌+◌, ◌≡◌, ◌&&◌, ◌||◌, nat_lt, nat_le, if◌then◌else◌, List, length, refl, Some, None}
use Rattle.std.proofs.Common.{Option, ap, sym, ◌∙◌, arith}
use Rattle.clf_syntax.proofs.RenamingLaws.{apps, binds, composed_neutral, down_up, entries, ext, pairs, undone_neutral}
use Rattle.clf_syntax.specs.Renaming.{Renumbering, crossed, down, lifted, ren, ren_expression, ren_neutral, ren_tuple, up}
use Rattle.clf_syntax.specs.Tree.{PlainExpression, PlainObject, PlainNeutral, PlainTuple, app, atomic, head_alone, done, empty, entry, fst, hole, lam, monadic, pair, snd, step, unit}
use Rattle.clf_syntax.specs.declared.tree.Head.TheVariants.{Const, Meta, Var}
use Rattle.clf_syntax.specs.declared.tree.Mode.{Mode}
use Rattle.trace_equal.proofs.WideSteps.{lift_lift, place}
use Rattle.trace_equal.specs.Matching.{Pulled, pulled_here, pulled_later}
use Rattle.trace_equal.specs.Search.{Front, free, free_expression, free_neutral, free_tuple, front, later_front, pull_at}

pub both : {a b : Bool} → a ≡ true → b ≡ true → (a && b) ≡ true
both {a} {b} e f = rw (e, f)

pub halves : (a b : Bool) → (a && b) ≡ true → (a ≡ true) × (b ≡ true)
halves true b e = (refl, e)
halves false b e = absurd (cc)

var_up : (k n i : ℕ) → (nat_lt (lifted k (up n) i) k || nat_le (k + n) (lifted k (up n) i)) ≡ true
var_up k n i = grind arith

mutual
  free_up : (k n : ℕ) (o : PlainObject) → free k n (ren (lifted k (up n)) o) ≡ true
  free_up k n (lam m b) = ap (λ r. free (1 + k) n (ren r b)) (lift_lift 1 k (up n)) ∙ free_up (1 + k) n b
  free_up k n (pair l r) = both (free_up k n l) (free_up k n r)
  free_up k n unit = refl
  free_up k n (monadic e) = free_up_expression k n e
  free_up k n (atomic r) = free_up_neutral k n r
  free_up k n hole = refl

  pub free_up_neutral : (k n : ℕ) (r : PlainNeutral) → free_neutral k n (ren_neutral (lifted k (up n)) r) ≡ true
  free_up_neutral k n (head_alone (Const c)) = refl
  free_up_neutral k n (head_alone (Var i)) = var_up k n i
  free_up_neutral k n (head_alone (Meta m)) = refl
  free_up_neutral k n (app m r o) = both (free_up_neutral k n r) (free_up k n o)
  free_up_neutral k n (fst r) = free_up_neutral k n r
  free_up_neutral k n (snd r) = free_up_neutral k n r

  free_up_expression : (k n : ℕ) (e : PlainExpression) → free_expression k n (ren_expression (lifted k (up n)) e) ≡ true
  free_up_expression k n (step ms r e) = both (free_up_neutral k n r) (ap (λ r. free_expression (length ms + k) n (ren_expression r e)) (lift_lift (length ms) k (up n)) ∙ free_up_expression (length ms + k) n e)
  free_up_expression k n (done t) = free_up_tuple k n t

  free_up_tuple : (k n : ℕ) (t : PlainTuple) → free_tuple k n (ren_tuple (lifted k (up n)) t) ≡ true
  free_up_tuple k n empty = refl
  free_up_tuple k n (entry m o t) = both (free_up k n o) (free_up_tuple k n t)

abbrev Round : ℕ → Renumbering
Round n i = up n (down n i)

var_down : (k n i : ℕ) → (nat_lt i k || nat_le (k + n) i) ≡ true → lifted k (Round n) i ≡ i
var_down k n i e = grind arith

mutual
  free_down : (k n : ℕ) (o : PlainObject) → free k n o ≡ true → ren (lifted k (Round n)) o ≡ o
  free_down k n (lam m b) e = ap (lam m) (ap (λ r. ren r b) (lift_lift 1 k (Round n)) ∙ free_down (1 + k) n b e)
  free_down k n (pair l r) e = let (a, b) = halves (free k n l) (free k n r) e in pairs (free_down k n l a) (free_down k n r b)
  free_down k n unit e = refl
  free_down k n (monadic f) e = ap monadic (free_down_expression k n f e)
  free_down k n (atomic r) e = ap atomic (free_down_neutral k n r e)
  free_down k n hole e = refl

  pub free_down_neutral : (k n : ℕ) (r : PlainNeutral) → free_neutral k n r ≡ true → ren_neutral (lifted k (Round n)) r ≡ r
  free_down_neutral k n (head_alone (Const c)) e = refl
  free_down_neutral k n (head_alone (Var i)) e = ap (λ j. head_alone (Var j)) (var_down k n i e)
  free_down_neutral k n (head_alone (Meta m)) e = refl
  free_down_neutral k n (app m r o) e = let (a, b) = halves (free_neutral k n r) (free k n o) e in apps m (free_down_neutral k n r a) (free_down k n o b)
  free_down_neutral k n (fst r) e = ap fst (free_down_neutral k n r e)
  free_down_neutral k n (snd r) e = ap snd (free_down_neutral k n r e)

  free_down_expression : (k n : ℕ) (f : PlainExpression) → free_expression k n f ≡ true → ren_expression (lifted k (Round n)) f ≡ f
  free_down_expression k n (step ms r f) e = let (a, b) = halves (free_neutral k n r) (free_expression (length ms + k) n f) e in
      binds ms (free_down_neutral k n r a) (ap (λ r. ren_expression r f) (lift_lift (length ms) k (Round n)) ∙ free_down_expression (length ms + k) n f b)
  free_down_expression k n (done t) e = ap done (free_down_tuple k n t e)

  free_down_tuple : (k n : ℕ) (t : PlainTuple) → free_tuple k n t ≡ true → ren_tuple (lifted k (Round n)) t ≡ t
  free_down_tuple k n empty e = refl
  free_down_tuple k n (entry m o t) e = let (a, b) = halves (free k n o) (free_tuple k n t) e in entries m (free_down k n o a) (free_down_tuple k n t b)

lift_zero : (r : Renumbering) → lifted 0 r ≡ r
lift_zero r = ext (λ i. grind arith)

up_free : (n : ℕ) (v : PlainNeutral) → free_neutral 0 n (ren_neutral (up n) v) ≡ true
up_free n v = ap (λ r. free_neutral 0 n (ren_neutral r v)) (sym (lift_zero (up n))) ∙ free_up_neutral 0 n v

down_free : (n : ℕ) (w : PlainNeutral) → free_neutral 0 n w ≡ true → w ≡ ren_neutral (up n) (ren_neutral (down n) w)
down_free n w e = sym (composed_neutral (up n) (down n) w ∙ ap (λ r. ren_neutral r w) (sym (lift_zero (Round n))) ∙ free_down_neutral 0 n w e)

fronts : (q : List Mode) {v w : PlainNeutral} {e f : PlainExpression} → v ≡ w → e ≡ f → Some (front q v e) ≡ Some (front q w f)
fronts q g h = cc

pub pull_complete : {q : List Mode} {v : PlainNeutral} {e f : PlainExpression} (u : Pulled q v e f) → pull_at (place u) f ≡ Some (front q v e)
pull_complete pulled_here = refl
pull_complete (pulled_later {p = p} {q = q} {r = r} {s = s} {v = v} {w = w} {e = e} {f = f} {g = g} h k l u) =
    ap (later_front p r) (pull_complete u) ∙ rw (ap (free_neutral 0 (length p)) h ∙ up_free (length p) v)
    (fronts q (ap (ren_neutral (down (length p))) h ∙ undone_neutral (down (length p)) (up (length p)) (down_up (length p)) v) (binds p (sym k) (sym l)))

abbrev pub PulledAt : ℕ → PlainExpression → Option Front → Type 0
PulledAt i f None = Unit {0}
PulledAt i f (Some (front q v e)) = (u : Pulled q v e f) × (place u ≡ i)

later_pulled : (i : ℕ) (p : List Mode) (r : PlainNeutral) (g : PlainExpression) (o : Option Front) → PulledAt i g o → PulledAt (suc i) (step p r g) (later_front p r o)
later_pulled i p r g None h = tt
later_pulled i p r g (Some (front q w e)) h = tested (free_neutral 0 (length p) w) refl
  where
    tested : (b : Bool) → free_neutral 0 (length p) w ≡ b → PulledAt (suc i) (step p r g) (if b then Some (front q (ren_neutral (down (length p)) w) (step p (ren_neutral (up (length q)) r) (ren_expression (crossed (length p) (length q)) e))) else None)
    tested true t = (pulled_later (down_free (length p) w t) refl refl h.0, ap suc h.1)
    tested false t = tt

pub pull_sound : (i : ℕ) (f : PlainExpression) → PulledAt i f (pull_at i f)
pull_sound i (done t) = tt
pull_sound zero (step q v e) = (pulled_here, refl)
pull_sound (suc i) (step p r g) = later_pulled i p r g (pull_at i g) (pull_sound i g)
