-- A metavariable on distinct locals below a constant is not left over.
use Rattle.std.specs.Prelude.{ℕ, Bool, true, false, zero, suc, ◌+◌, ◌≡◌, ◌⊎◌, List, [], ◌∷◌, length, Some, None, refl}
use Rattle.std.proofs.Common.{ap, sym, subst, ◌∙◌, arith, inl, inr, ⊎_elim}
use Rattle.clf_syntax.specs.declared.tree.Mode.{Mode}
use Rattle.clf_syntax.specs.declared.tree.Head.{Head}
use Rattle.clf_syntax.specs.declared.tree.Head.TheVariants.{Const, Var, Meta}
use Rattle.clf_syntax.specs.Tree.{PlainObject, lam, pair, monadic, atomic, PlainNeutral, PlainExpression, head_alone, app, head_of}
use Rattle.clf_syntax.specs.TypeTree.{SimpleType, base, arrow}
use Rattle.clf_syntax.specs.Simple.{Assignment, SimplyTypedNeutral}
use Rattle.hered_subst.specs.TypedEnvironments.{is_metavariable}
use Rattle.pattern_laws.specs.Instantiations.{closed}
use Rattle.pattern_laws.specs.Equations.{Locals, scoped, Equation, Listed, listed_here, listed_later}
use Rattle.pattern_laws.specs.Patterns.{Place, local_at, Foreign}
use Rattle.pattern_laws.proofs.Owning.{on_locals, lacks_same}
use Rattle.unify_laws.specs.Parts.{SameShape, PartAt, part_here, part_function}
use Rattle.reach_laws.specs.Reach.{Reaches, IsFlexible, Stuck, free_reach}
use Rattle.reach_laws.specs.Rest.{PartOf, part_itself, part_body, part_left, part_right, part_argument, Rest}
use Rattle.answer_laws.specs.Worked.{ones, with_pattern, pattern, PatternIsNotLeft}

left_of : {c d : Equation} → c ≡ d → c.left ≡ d.left
left_of e = ap (λ (q : Equation). q.left) e

right_of : {c d : Equation} → c ≡ d → c.right ≡ d.right
right_of e = ap (λ (q : Equation). q.right) e

locals_of : {c d : Equation} → c ≡ d → c.locals ≡ d.locals
locals_of e = ap (λ (q : Equation). q.locals) e

no_lam : {m : Mode} {b : PlainObject} {n : PlainNeutral} → lam m b ≡ atomic n → ⊥
no_lam e = cc

no_pair : {l r : PlainObject} {n : PlainNeutral} → pair l r ≡ atomic n → ⊥
no_pair e = cc

the_neutral : {r n : PlainNeutral} → atomic r ≡ atomic n → r ≡ n
the_neutral e = cc

-- the parts of two applications of heads
of_heads : {g : Assignment} {o u x y : PlainObject} {c : SimpleType} {m k : Mode} {h j : Head} → PartAt g o u c (app m (head_alone h) x) (app k (head_alone j) y) → (o ≡ x) × (u ≡ y) × ((e : SimpleType) × (g h ≡ Some (arrow m c e)))
of_heads (part_here e t) = (refl, refl, (e, t))
of_heads (part_function q) = absurd (none q)
  where
    none : {g : Assignment} {o u : PlainObject} {c : SimpleType} {h j : Head} → PartAt g o u c (head_alone h) (head_alone j) → ⊥
    none q = elim q [ ]

no_shape : {m : Mode} {r : PlainNeutral} {o : PlainObject} {h : Head} → SameShape (app m r o) (head_alone h) → ⊥
no_shape h = elim h [ ]

the_domain : {m : Mode} {c d e f : SimpleType} → Some (arrow m c d) ≡ Some (arrow m e f) → e ≡ c
the_domain e = cc

abbrev equation : Locals → PlainObject → PlainObject → SimpleType → Equation
equation ls o u c = record { locals = ls; left = o; right = u; type = c }

made : {ls ks : Locals} {o u x y : PlainObject} {c d : SimpleType} → ls ≡ ks → o ≡ x → u ≡ y → c ≡ d → equation ls o u c ≡ equation ks x y d
made a b c d = rw (a, b, c, d) refl

-- its parts are itself and the pattern
parts_of : (m : Mode) {e : Equation} → PartOf (ones m) (ones m) (with_pattern m) e → (e ≡ with_pattern m) ⊎ (e ≡ pattern m)
parts_of m part_itself = inl refl
parts_of m (part_body p) = absurd (⊎_elim (λ e. no_lam (left_of e)) (λ e. no_lam (left_of e)) (parts_of m p))
parts_of m (part_left r s d p) = absurd (⊎_elim (λ e. no_pair (left_of e)) (λ e. no_pair (left_of e)) (parts_of m p))
parts_of m (part_right l k c p) = absurd (⊎_elim (λ e. no_pair (left_of e)) (λ e. no_pair (left_of e)) (parts_of m p))
parts_of m (part_argument {ls = ls} {o = o} {u = u} {c = c} r n f p h q) = ⊎_elim
    (λ e. inr (below (locals_of e) (the_neutral (left_of e)) (the_neutral (right_of e))))
    (λ e. absurd (no_shape (subst (λ y. SameShape (app m (head_alone (Meta 0)) (atomic (head_alone (Var 0)))) y) (the_neutral (right_of e)) (subst (λ x. SameShape x n) (the_neutral (left_of e)) h)))) (parts_of m p)
  where
    below : ls ≡ (m, base 0) ∷ [] → r ≡ app m (head_alone (Const 0)) (atomic (app m (head_alone (Meta 0)) (atomic (head_alone (Var 0))))) → n ≡ app m (head_alone (Const 0)) (atomic (head_alone (Var 0)))
        → equation ls o u c ≡ pattern m
    below a b d = let (x, y, (e, t)) = of_heads (subst (λ z. PartAt (scoped ls (closed (ones m) (ones m))) o u c (app m (head_alone (Const 0)) (atomic (app m (head_alone (Meta 0)) (atomic (head_alone (Var 0)))))) z) d
        (subst (λ z. PartAt (scoped ls (closed (ones m) (ones m))) o u c z n) b q)) in
        made a x y (the_domain (sym (subst (λ l. scoped l (closed (ones m) (ones m)) (Const 0) ≡ Some (arrow m (base 0) (base 0))) (sym a) refl) ∙ t))

-- the pattern is in reach
reached : (m : Mode) → Reaches (closed (ones m) (ones m)) ((m, base 0) ∷ []) (base 0) (pattern m).left (pattern m).right
reached m = record {
  neutral = app m (head_alone (Meta 0)) (atomic (head_alone (Var 0)));
  meta = 0;
  places = (m, base 0, 0) ∷ [];
  own = (m, base 0, 0) ∷ [];
  is_neutral = refl;
  on_locals = on_locals (scoped ((m, base 0) ∷ []) (closed (ones m) (ones m))) (app m (head_alone (Meta 0)) (atomic (head_alone (Var 0)))) 0 ((m, base 0, 0) ∷ []) (base 0)
      (record { neutral = refl; type = refl; fitting = (inl refl, tt); distinct = one_place });
  lacks = lacks_same ((m, base 0, 0) ∷ []) (atomic (head_alone (Var 0)));
  in_reach = free_reach refl (inl (refl, not_foreign));
}
  where
    one_place : (i j v : ℕ) → local_at ((m, base 0, 0) ∷ []) i ≡ Some v → local_at ((m, base 0, 0) ∷ []) j ≡ Some v → i ≡ j
    one_place zero zero v e f = refl
    one_place zero (suc j) v e f = absurd (cc)
    one_place (suc i) j v e f = absurd (cc)

    number : {w : ℕ} → Var 0 ≡ Var w → 0 ≡ w
    number e = cc

    not_foreign : (w : ℕ) → Var 0 ≡ Var w → Foreign 1 ((m, base 0, 0) ∷ []) 0 w → ⊥
    not_foreign w e (v, a, b, f) = f 0 (ap (λ i. Some i) (zero_is v (number e) a))
      where
        zero_is : (v : ℕ) → 0 ≡ w → w ≡ v + 0 → 0 ≡ v
        zero_is v e a = omega arith

not_flexible : {r n : PlainNeutral} → atomic n ≡ atomic r → is_metavariable (head_of n) ≡ false → is_metavariable (head_of r) ≡ true → ⊥
not_flexible {r} {n} e f g = two (sym (ap (λ q. is_metavariable (head_of q)) (the_neutral e)) ∙ f) g
  where
    two : {b : Bool} → b ≡ false → b ≡ true → ⊥
    two e f = cc

no_monad : {n : PlainNeutral} {e : PlainExpression} → atomic n ≡ monadic e → ⊥
no_monad e = cc

pub pattern_is_not_left : PatternIsNotLeft
pattern_is_not_left m left e r l = let (d, k, p) = r.met e l in ⊎_elim (λ q. whole_is (subst (Stuck (ones m) (ones m)) q (r.stuck e l))) (λ q. part_is (subst (Stuck (ones m) (ones m)) q (r.stuck e l)))
    (parts_of m (subst (λ c. PartOf (ones m) (ones m) c e) (only k) p))
  where
    only : {d : Equation} → Listed d (with_pattern m ∷ []) → d ≡ with_pattern m
    only listed_here = refl
    only (listed_later k) = elim k [ ]

    whole_is : Stuck (ones m) (ones m) (with_pattern m) → ⊥
    whole_is s = ⊎_elim (λ f. ⊎_elim (λ h. not_flexible h.1 refl h.2) (λ h. not_flexible h.1 refl h.2) f.flexible) (λ f. no_monad f.left.1) s

    part_is : Stuck (ones m) (ones m) (pattern m) → ⊥
    part_is s = ⊎_elim (λ f. f.not_left (reached m)) (λ f. no_monad f.left.1) s
