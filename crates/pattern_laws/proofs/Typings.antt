-- Typing asks for the types of the variables that occur alone, and no variable of a blank type occurs.
use Rattle.std.specs.Prelude.{ℕ, zero, suc, ◌+◌, ◌≡◌, ◌||◌, ◌&&◌, nat_eq, Bool, true, false, length, Some, refl}
use Rattle.std.proofs.Common.{ap, sym, subst, ◌∙◌, arith, add-one}
use Rattle.clf_syntax.specs.declared.tree.Head.TheVariants.{Const, Var, Meta}
use Rattle.clf_syntax.specs.Tree.{PlainObject, lam, pair, PlainNeutral, fst, snd, PlainExpression, PlainTuple}
use Rattle.clf_syntax.specs.TypeTree.{SimpleType, SimpleTelescope, simple_end, simple_binding}
use Rattle.clf_syntax.specs.Simple.{Assignment, extended, extended_by, simple_modes}
use Rattle.clf_syntax.specs.Renaming.{Renumbering, lifted, ren_head, ren, ren_neutral, ren_expression, ren_tuple}
use Rattle.clf_syntax.specs.Occurs.{occurs, occurs_neutral, occurs_expression, occurs_tuple}
use Rattle.clf_syntax.proofs.OccursLaws.{or_first, or_second, not_true, own_number}
use Rattle.hered_subst.proofs.Renamed.{head_renamed}
use Rattle.hered_subst.proofs.SimpleTyping.{Typed, typed_lam, typed_pair, typed_unit, typed_monadic, typed_metavariable, typed_atomic, TypedNeutral, typed_bare, typed_app, typed_fst, typed_snd, TypedExpression, typed_step, typed_done, TypedTuple, typed_empty, typed_entry, lift_zero, lift_first, lift_next, lift_under, extended_out}
use Rattle.eta_laws.specs.Eta.{eta}
use Rattle.pattern_laws.specs.Patterns.{is_blank, blank}
use Rattle.pattern_laws.specs.Renumberings.{Suited}

narrower : (z : Assignment) (r : Renumbering) (g : Assignment) (P Q : ℕ → Type 0) → ((i : ℕ) → P i → Q i) → Suited Q z r g → Suited P z r g
narrower z r g P Q h f = (f.0, f.1, (λ i p. f.2 i (h i p)))

suited_one : (P : ℕ → Type 0) (d : SimpleType) (z : Assignment) (r : Renumbering) (g : Assignment) → Suited (λ i. P (i + 1)) z r g → Suited P (extended d z) (lifted 1 r) (extended d g)
suited_one P d z r g f = (f.0, f.1, at_variable)
  where
    at_variable : (i : ℕ) → P i → extended d z (Var (lifted 1 r i)) ≡ extended d g (Var i)
    at_variable zero p = ap (λ i. extended d z (Var i)) (lift_first r)
    at_variable (suc i) p = ap (λ j. extended d z (Var j)) (lift_next r i) ∙ f.2 i (subst P (sym (add-one i)) p)

suited_many : (P : ℕ → Type 0) (ts : SimpleTelescope) (z : Assignment) (r : Renumbering) (g : Assignment) → Suited (λ i. P (i + length (simple_modes ts))) z r g → Suited P (extended_by ts z) (lifted (length (simple_modes ts)) r) (extended_by ts g)
suited_many P simple_end z r g f = (f.0, f.1, (λ i p. ap (λ q. z (Var (q i))) (lift_zero r) ∙ f.2 i (subst P (none i) p)))
  where
    none : (i : ℕ) → i ≡ i + 0
    none i = omega arith
suited_many P (simple_binding m t ts) z r g f = subst (λ q. Suited P (extended_by ts (extended t z)) q (extended_by ts (extended t g))) (lift_under (length (simple_modes ts)) r)
    (suited_many P ts (extended t z) (lifted 1 r) (extended t g) (suited_one (λ i. P (i + length (simple_modes ts))) t z r g
    (narrower z r g (λ i. P (i + 1 + length (simple_modes ts))) (λ i. P (i + suc (length (simple_modes ts)))) (λ i p. subst P (sum i (length (simple_modes ts))) p) f)))
  where
    sum : (i n : ℕ) → i + 1 + n ≡ i + suc n
    sum i n = omega arith

mutual
  pub typed_where : (z : Assignment) (r : Renumbering) {w : Bool} {g : Assignment} {o : PlainObject} {t : SimpleType} → Typed w g o t → Suited (λ i. occurs i o ≡ true) z r g → Typed w z (ren r o) t
  typed_where z r (typed_lam {g = g} {b = b} {d = d} p) f = typed_lam (typed_where (extended d z) (lifted 1 r) p (suited_one (λ i. occurs i b ≡ true) d z r g f))
  typed_where z r (typed_pair {g = g} {l = l} {r = k} p q) f = typed_pair
      (typed_where z r p (narrower z r g (λ i. occurs i l ≡ true) (λ i. occurs i l || occurs i k ≡ true) (λ i e. or_first (occurs i l) (occurs i k) e) f))
      (typed_where z r q (narrower z r g (λ i. occurs i k ≡ true) (λ i. occurs i l || occurs i k ≡ true) (λ i e. or_second (occurs i l) (occurs i k) e) f))
  typed_where z r typed_unit f = typed_unit
  typed_where z r (typed_monadic p) f = typed_monadic (typed_where_expression z r p f)
  typed_where z r (typed_metavariable {n = n} i p e) f = typed_metavariable i (typed_where_neutral z r p f) (head_renamed r n ∙ ap (ren_head r) e)
  typed_where z r (typed_atomic p) f = typed_atomic (typed_where_neutral z r p f)

  pub typed_where_neutral : (z : Assignment) (r : Renumbering) {w : Bool} {g : Assignment} {o : PlainNeutral} {t : SimpleType} → TypedNeutral w g o t → Suited (λ i. occurs_neutral i o ≡ true) z r g → TypedNeutral w z (ren_neutral r o) t
  typed_where_neutral z r (typed_bare {h = Const c} e) f = typed_bare (f.0 c ∙ e)
  typed_where_neutral z r (typed_bare {h = Var i} e) f = typed_bare (f.2 i (own_number i) ∙ e)
  typed_where_neutral z r (typed_bare {h = Meta m} e) f = typed_bare (f.1 m ∙ e)
  typed_where_neutral z r (typed_app {g = g} {r = n} {o = o} p q) f = typed_app
      (typed_where_neutral z r p (narrower z r g (λ i. occurs_neutral i n ≡ true) (λ i. occurs_neutral i n || occurs i o ≡ true) (λ i e. or_first (occurs_neutral i n) (occurs i o) e) f))
      (typed_where z r q (narrower z r g (λ i. occurs i o ≡ true) (λ i. occurs_neutral i n || occurs i o ≡ true) (λ i e. or_second (occurs_neutral i n) (occurs i o) e) f))
  typed_where_neutral z r (typed_fst p) f = typed_fst (typed_where_neutral z r p f)
  typed_where_neutral z r (typed_snd p) f = typed_snd (typed_where_neutral z r p f)

  pub typed_where_expression : (z : Assignment) (r : Renumbering) {w : Bool} {g : Assignment} {o : PlainExpression} {ts : SimpleTelescope} → TypedExpression w g o ts → Suited (λ i. occurs_expression i o ≡ true) z r g → TypedExpression w z (ren_expression r o) ts
  typed_where_expression z r (typed_step {w = w} {g = g} {ms = ms} {r = n} {e = e} {ts = ts} {us = us} p m q) f = typed_step
      (typed_where_neutral z r p (narrower z r g (λ i. occurs_neutral i n ≡ true) (λ i. occurs_neutral i n || occurs_expression (i + length ms) e ≡ true) (λ i k. or_first (occurs_neutral i n) (occurs_expression (i + length ms) e) k) f)) m
      (subst (λ ns. TypedExpression w (extended_by ts z) (ren_expression (lifted (length ns) r) e) us) (sym m)
      (typed_where_expression (extended_by ts z) (lifted (length (simple_modes ts)) r) q (suited_many (λ i. occurs_expression i e ≡ true) ts z r g
      (narrower z r g (λ i. occurs_expression (i + length (simple_modes ts)) e ≡ true) (λ i. occurs_neutral i n || occurs_expression (i + length ms) e ≡ true)
      (λ i k. or_second (occurs_neutral i n) (occurs_expression (i + length ms) e) (subst (λ j. occurs_expression (i + j) e ≡ true) (sym (ap length m)) k)) f))))
  typed_where_expression z r (typed_done p) f = typed_done (typed_where_tuple z r p f)

  pub typed_where_tuple : (z : Assignment) (r : Renumbering) {w : Bool} {g : Assignment} {o : PlainTuple} {ts : SimpleTelescope} → TypedTuple w g o ts → Suited (λ i. occurs_tuple i o ≡ true) z r g → TypedTuple w z (ren_tuple r o) ts
  typed_where_tuple z r typed_empty f = typed_empty
  typed_where_tuple z r (typed_entry {g = g} {o = n} {t = t} p q) f = typed_entry
      (typed_where z r p (narrower z r g (λ i. occurs i n ≡ true) (λ i. occurs i n || occurs_tuple i t ≡ true) (λ i e. or_first (occurs i n) (occurs_tuple i t) e) f))
      (typed_where_tuple z r q (narrower z r g (λ i. occurs_tuple i t ≡ true) (λ i. occurs i n || occurs_tuple i t ≡ true) (λ i e. or_second (occurs i n) (occurs_tuple i t) e) f))

neither : {a b : Bool} → a ≡ false → b ≡ false → a || b ≡ false
neither e f = rw (e, f) refl

not_first : (a b : Bool) → a ≡ false → a && b ≡ false
not_first a b e = rw e refl

not_second : (a b : Bool) → b ≡ false → a && b ≡ false
not_second true b e = e
not_second false b e = refl

the_type : {t u : SimpleType} → Some t ≡ Some u → t ≡ u
the_type e = cc

same_number : (i v : ℕ) → nat_eq i v ≡ true → i ≡ v
same_number i v e = grind arith

never : {b : Bool} → b ≡ true → b ≡ false → ⊥
never e f = cc

-- No variable of a blank type occurs.
mutual
  pub blank_absent : {w : Bool} {g : Assignment} {o : PlainObject} {t : SimpleType} → Typed w g o t → (v : ℕ) (u : SimpleType) → g (Var v) ≡ Some u → blank u ≡ true → occurs v o ≡ false
  blank_absent (typed_lam {g = g} {d = d} p) v u e h = blank_absent p (v + 1) u (ap (λ i. extended d g (Var i)) (add-one v) ∙ e) h
  blank_absent (typed_pair p q) v u e h = neither (blank_absent p v u e h) (blank_absent q v u e h)
  blank_absent typed_unit v u e h = refl
  blank_absent (typed_monadic p) v u e h = blank_absent_expression p v u e h
  blank_absent (typed_metavariable i p k) v u e h = blank_absent_neutral p v u e h refl
  blank_absent (typed_atomic p) v u e h = blank_absent_neutral p v u e h refl

  pub blank_absent_neutral : {w : Bool} {g : Assignment} {n : PlainNeutral} {t : SimpleType} → TypedNeutral w g n t → (v : ℕ) (u : SimpleType) → g (Var v) ≡ Some u → blank u ≡ true → blank t ≡ false → occurs_neutral v n ≡ false
  blank_absent_neutral (typed_bare {h = Const c} k) v u e h f = refl
  blank_absent_neutral (typed_bare {g = g} {h = Var i} {t = t} k) v u e h f = not_true (nat_eq i v) (λ s. never h (subst (λ x. blank x ≡ false) (the_type (sym k ∙ ap (λ j. g (Var j)) (same_number i v s) ∙ e)) f))
  blank_absent_neutral (typed_bare {h = Meta m} k) v u e h f = refl
  blank_absent_neutral (typed_app p q) v u e h f = neither (blank_absent_neutral p v u e h f) (blank_absent q v u e h)
  blank_absent_neutral (typed_fst {c = c} {d = d} p) v u e h f = blank_absent_neutral p v u e h (not_first (blank c) (blank d) f)
  blank_absent_neutral (typed_snd {c = c} {d = d} p) v u e h f = blank_absent_neutral p v u e h (not_second (blank c) (blank d) f)

  pub blank_absent_expression : {w : Bool} {g : Assignment} {x : PlainExpression} {ts : SimpleTelescope} → TypedExpression w g x ts → (v : ℕ) (u : SimpleType) → g (Var v) ≡ Some u → blank u ≡ true → occurs_expression v x ≡ false
  blank_absent_expression (typed_step {g = g} {ms = ms} {e = x} {ts = ts} p m q) v u e h = neither (blank_absent_neutral p v u e h refl)
      (subst (λ j. occurs_expression (v + j) x ≡ false) (sym (ap length m)) (blank_absent_expression q (v + length (simple_modes ts)) u (extended_out ts g v ∙ e) h))
  blank_absent_expression (typed_done p) v u e h = blank_absent_tuple p v u e h

  pub blank_absent_tuple : {w : Bool} {g : Assignment} {x : PlainTuple} {ts : SimpleTelescope} → TypedTuple w g x ts → (v : ℕ) (u : SimpleType) → g (Var v) ≡ Some u → blank u ≡ true → occurs_tuple v x ≡ false
  blank_absent_tuple typed_empty v u e h = refl
  blank_absent_tuple (typed_entry p q) v u e h = neither (blank_absent p v u e h) (blank_absent_tuple q v u e h)

both_parts : (a b : Bool) → a && b ≡ true → (a ≡ true) × (b ≡ true)
both_parts true b e = (refl, e)
both_parts false b e = absurd (cc)

pairs_too : {a b c d : PlainObject} → a ≡ b → c ≡ d → pair a c ≡ pair b d
pairs_too e f = cc

-- A blank object has a blank type, and is the eta-long form of everything there.
pub blank_is : {w : Bool} {g : Assignment} {o : PlainObject} {t : SimpleType} → Typed w g o t → is_blank o ≡ true → (blank t ≡ true) × ((n : PlainNeutral) → eta t n ≡ o)
blank_is (typed_lam {m = m} p) e = let (a, b) = blank_is p e in (a, (λ n. ap (lam m) (b _)))
blank_is (typed_pair {l = l} {r = r} p q) e = let (a, b) = blank_is p (both_parts (is_blank l) (is_blank r) e).0 in let (c, d) = blank_is q (both_parts (is_blank l) (is_blank r) e).1 in
    (rw a c, (λ n. pairs_too (b (fst n)) (d (snd n))))
blank_is typed_unit e = (refl, (λ n. refl))
blank_is (typed_monadic p) e = absurd (cc)
blank_is (typed_metavariable i p k) e = absurd (cc)
blank_is (typed_atomic p) e = absurd (cc)
