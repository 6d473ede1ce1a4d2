-- A marked local occurs exactly where the walk over the tree says so.
use Rattle.std.specs.Prelude.{ℕ, Bool, true, false, ◌+◌, ◌-◌, ◌≡◌, ◌≤◌, ◌&&◌, ◌==◌, nat_le, List, length, refl}
use Rattle.std.proofs.Common.{sym, subst, arith, ⊎_elim}
use Rattle.clf_syntax.specs.declared.tree.Head.{Head}
use Rattle.clf_syntax.specs.declared.tree.Head.TheVariants.{Const, Var, Meta}
use Rattle.clf_syntax.specs.Tree.{PlainObject, lam, pair, unit, monadic, atomic, hole, PlainNeutral, head_alone, app, fst, snd, PlainExpression, step, done, PlainTuple, empty, entry}
use Rattle.clf_syntax.specs.Occurs.{is_variable, occurs, occurs_neutral, occurs_expression, occurs_tuple}
use Rattle.clf_syntax.proofs.OccursLaws.{or_first, or_second, either, not_both, not_true, own_number}
use Rattle.pattern_laws.specs.Patterns.{Place, mask_at, Foreign, NoForeign}
use Rattle.reach_walk.specs.Marks.{is_marked, marked_in, marked_in_neutral, marked_in_expression, marked_in_tuple, MarksForeign}

further : (v d n : ℕ) → (v + d) + n ≡ v + (d + n)
further v d n = omega arith

both_parts : (a b : Bool) → a && b ≡ true → (a ≡ true) × (b ≡ true)
both_parts true b e = (refl, e)
both_parts false b e = absurd (cc)

and_true : (a b : Bool) → a ≡ true → b ≡ true → a && b ≡ true
and_true a b e f = rw (e, f) refl

at_most : (d i : ℕ) → nat_le d i ≡ true → d ≤ i
at_most d i e = grind arith

is_at_most : (d i : ℕ) → d ≤ i → nat_le d i ≡ true
is_at_most d i h = grind arith

the_number : (i v : ℕ) → i == v ≡ true → i ≡ v
the_number i v e = grind arith

back : (d i : ℕ) → d ≤ i → i ≡ (i - d) + d
back d i h = omega arith

over : (v d : ℕ) → (v + d) - d ≡ v
over v d = omega arith

above : (v d : ℕ) → d ≤ v + d
above v d = omega arith

module _ (bs : List Bool) where
  head_out : (d : ℕ) (h : Head) → is_marked bs d h ≡ true → (v : ℕ) × (mask_at bs v ≡ true) × (is_variable (v + d) h ≡ true)
  head_out d (Const c) e = absurd (cc)
  head_out d (Var i) e = let (l, m) = both_parts (nat_le d i) (mask_at bs (i - d)) e in
      (i - d, m, subst (λ j. i == j ≡ true) (back d i (at_most d i l)) (own_number i))
  head_out d (Meta m) e = absurd (cc)

  head_in : (d : ℕ) (h : Head) (v : ℕ) → mask_at bs v ≡ true → is_variable (v + d) h ≡ true → is_marked bs d h ≡ true
  head_in d (Const c) v m o = absurd (cc)
  head_in d (Var i) v m o = subst (λ j. is_marked bs d (Var j) ≡ true) (sym (the_number i (v + d) o))
      (and_true (nat_le d (v + d)) (mask_at bs ((v + d) - d)) (is_at_most d (v + d) (above v d)) (subst (λ j. mask_at bs j ≡ true) (sym (over v d)) m))
  head_in d (Meta k) v m o = absurd (cc)

  mutual
    pub marked_out : (d : ℕ) (x : PlainObject) → marked_in bs d x ≡ true → (v : ℕ) × (mask_at bs v ≡ true) × (occurs (v + d) x ≡ true)
    marked_out d (lam m b) e = let (v, k, o) = marked_out (d + 1) b e in (v, k, subst (λ j. occurs j b ≡ true) (sym (further v d 1)) o)
    marked_out d (pair l r) e = ⊎_elim
        (λ h. let (v, k, o) = marked_out d l h in (v, k, or_first (occurs (v + d) l) (occurs (v + d) r) o))
        (λ h. let (v, k, o) = marked_out d r h in (v, k, or_second (occurs (v + d) l) (occurs (v + d) r) o))
        (either (marked_in bs d l) (marked_in bs d r) e)
    marked_out d unit e = absurd (cc)
    marked_out d (monadic x) e = marked_out_expression d x e
    marked_out d (atomic n) e = marked_out_neutral d n e
    marked_out d hole e = absurd (cc)

    pub marked_out_neutral : (d : ℕ) (n : PlainNeutral) → marked_in_neutral bs d n ≡ true → (v : ℕ) × (mask_at bs v ≡ true) × (occurs_neutral (v + d) n ≡ true)
    marked_out_neutral d (head_alone h) e = head_out d h e
    marked_out_neutral d (app m r o) e = ⊎_elim
        (λ h. let (v, k, p) = marked_out_neutral d r h in (v, k, or_first (occurs_neutral (v + d) r) (occurs (v + d) o) p))
        (λ h. let (v, k, p) = marked_out d o h in (v, k, or_second (occurs_neutral (v + d) r) (occurs (v + d) o) p))
        (either (marked_in_neutral bs d r) (marked_in bs d o) e)
    marked_out_neutral d (fst r) e = marked_out_neutral d r e
    marked_out_neutral d (snd r) e = marked_out_neutral d r e

    marked_out_expression : (d : ℕ) (x : PlainExpression) → marked_in_expression bs d x ≡ true → (v : ℕ) × (mask_at bs v ≡ true) × (occurs_expression (v + d) x ≡ true)
    marked_out_expression d (step ms r x) e = ⊎_elim
        (λ h. let (v, k, p) = marked_out_neutral d r h in (v, k, or_first (occurs_neutral (v + d) r) (occurs_expression ((v + d) + length ms) x) p))
        (λ h. let (v, k, p) = marked_out_expression (d + length ms) x h in (v, k, or_second (occurs_neutral (v + d) r) (occurs_expression ((v + d) + length ms) x) (subst (λ j. occurs_expression j x ≡ true) (sym (further v d (length ms))) p)))
        (either (marked_in_neutral bs d r) (marked_in_expression bs (d + length ms) x) e)
    marked_out_expression d (done t) e = marked_out_tuple d t e

    marked_out_tuple : (d : ℕ) (x : PlainTuple) → marked_in_tuple bs d x ≡ true → (v : ℕ) × (mask_at bs v ≡ true) × (occurs_tuple (v + d) x ≡ true)
    marked_out_tuple d empty e = absurd (cc)
    marked_out_tuple d (entry m o t) e = ⊎_elim
        (λ h. let (v, k, p) = marked_out d o h in (v, k, or_first (occurs (v + d) o) (occurs_tuple (v + d) t) p))
        (λ h. let (v, k, p) = marked_out_tuple d t h in (v, k, or_second (occurs (v + d) o) (occurs_tuple (v + d) t) p))
        (either (marked_in bs d o) (marked_in_tuple bs d t) e)

  mutual
    pub marked_there : (d : ℕ) (x : PlainObject) (v : ℕ) → mask_at bs v ≡ true → occurs (v + d) x ≡ true → marked_in bs d x ≡ true
    marked_there d (lam m b) v k o = marked_there (d + 1) b v k (subst (λ j. occurs j b ≡ true) (further v d 1) o)
    marked_there d (pair l r) v k o = ⊎_elim
        (λ h. or_first (marked_in bs d l) (marked_in bs d r) (marked_there d l v k h))
        (λ h. or_second (marked_in bs d l) (marked_in bs d r) (marked_there d r v k h))
        (either (occurs (v + d) l) (occurs (v + d) r) o)
    marked_there d unit v k o = absurd (cc)
    marked_there d (monadic x) v k o = marked_there_expression d x v k o
    marked_there d (atomic n) v k o = marked_there_neutral d n v k o
    marked_there d hole v k o = absurd (cc)

    pub marked_there_neutral : (d : ℕ) (n : PlainNeutral) (v : ℕ) → mask_at bs v ≡ true → occurs_neutral (v + d) n ≡ true → marked_in_neutral bs d n ≡ true
    marked_there_neutral d (head_alone h) v k o = head_in d h v k o
    marked_there_neutral d (app m r n) v k o = ⊎_elim
        (λ h. or_first (marked_in_neutral bs d r) (marked_in bs d n) (marked_there_neutral d r v k h))
        (λ h. or_second (marked_in_neutral bs d r) (marked_in bs d n) (marked_there d n v k h))
        (either (occurs_neutral (v + d) r) (occurs (v + d) n) o)
    marked_there_neutral d (fst r) v k o = marked_there_neutral d r v k o
    marked_there_neutral d (snd r) v k o = marked_there_neutral d r v k o

    marked_there_expression : (d : ℕ) (x : PlainExpression) (v : ℕ) → mask_at bs v ≡ true → occurs_expression (v + d) x ≡ true → marked_in_expression bs d x ≡ true
    marked_there_expression d (step ms r x) v k o = ⊎_elim
        (λ h. or_first (marked_in_neutral bs d r) (marked_in_expression bs (d + length ms) x) (marked_there_neutral d r v k h))
        (λ h. or_second (marked_in_neutral bs d r) (marked_in_expression bs (d + length ms) x) (marked_there_expression (d + length ms) x v k (subst (λ j. occurs_expression j x ≡ true) (further v d (length ms)) h)))
        (either (occurs_neutral (v + d) r) (occurs_expression ((v + d) + length ms) x) o)
    marked_there_expression d (done t) v k o = marked_there_tuple d t v k o

    marked_there_tuple : (d : ℕ) (x : PlainTuple) (v : ℕ) → mask_at bs v ≡ true → occurs_tuple (v + d) x ≡ true → marked_in_tuple bs d x ≡ true
    marked_there_tuple d empty v k o = absurd (cc)
    marked_there_tuple d (entry m n t) v k o = ⊎_elim
        (λ h. or_first (marked_in bs d n) (marked_in_tuple bs d t) (marked_there d n v k h))
        (λ h. or_second (marked_in bs d n) (marked_in_tuple bs d t) (marked_there_tuple d t v k h))
        (either (occurs (v + d) n) (occurs_tuple (v + d) t) o)

-- ---- marks at the foreign locals

pub marked_foreign : (n : ℕ) (ps : List Place) (bs : List Bool) → MarksForeign n ps bs → (d v : ℕ) → mask_at bs v ≡ true → Foreign n ps d (v + d)
marked_foreign n ps bs k d v e = let (l, a) = k.0 v e in (v, refl, l, a)

pub foreign_marked : (n : ℕ) (ps : List Place) (bs : List Bool) → MarksForeign n ps bs → (d w : ℕ) → Foreign n ps d w → (v : ℕ) × (w ≡ v + d) × (mask_at bs v ≡ true)
foreign_marked n ps bs k d w f = (f.0, f.1, k.1 f.0 f.2 f.3)

-- No foreign local occurs where no marked one does.
pub none_marked : (n : ℕ) (ps : List Place) (bs : List Bool) → MarksForeign n ps bs → (d : ℕ) (x : PlainObject) → marked_in bs d x ≡ false → NoForeign n ps d x
none_marked n ps bs k d x e w o f = let (v, h, m) = foreign_marked n ps bs k d w f in not_both (marked_there bs d x v m (subst (λ j. occurs j x ≡ true) h o)) e

pub some_marked : (n : ℕ) (ps : List Place) (bs : List Bool) → MarksForeign n ps bs → (d : ℕ) (x : PlainObject) → NoForeign n ps d x → marked_in bs d x ≡ false
some_marked n ps bs k d x h = not_true (marked_in bs d x) (λ e. let (v, m, o) = marked_out bs d x e in h (v + d) o (marked_foreign n ps bs k d v m))
