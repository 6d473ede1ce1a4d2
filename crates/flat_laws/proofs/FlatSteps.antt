-- What the steps add to a flat system is flat.
use Rattle.std.specs.Prelude.{ℕ, true, ◌≡◌, ◌<◌, ◌⊎◌, List, [], ◌∷◌, length, Option, Some, refl}
use Rattle.std.proofs.Common.{ap, sym, subst, ◌∙◌, arith, inr, ⊎_elim}
use Rattle.clf_syntax.specs.declared.tree.Head.TheVariants.{Const, Meta}
use Rattle.clf_syntax.specs.Tree.{PlainObject, lam, atomic, head_alone}
use Rattle.clf_syntax.specs.TypeTree.{SimpleType, arrow}
use Rattle.clf_syntax.specs.Simple.{Assignment}
use Rattle.clf_syntax.specs.Occurs.{occurs}
use Rattle.pattern_laws.specs.Patterns.{Place, on, lams, arrows, local_at, inverse, inverted, beneath, masked}
use Rattle.pattern_laws.specs.Instantiations.{closed}
use Rattle.pattern_laws.specs.Equations.{scoped, Locals}
use Rattle.pattern_laws.proofs.Inverse.{inverse_at, inverse_there, fitting_at}
use Rattle.pattern_laws.proofs.Instances.{scoped_out}
use Rattle.inversion_laws.proofs.Cores.{beneath_out}
use Rattle.inversion_laws.proofs.Masks.{masked_fitting}
use Rattle.reach_laws.proofs.Tightness.{masked_ordered}
use Rattle.reach_laws.proofs.Tight.{distinct_of}
use Rattle.flat_laws.specs.Flat.{Flat}
use Rattle.flat_laws.specs.Laws.{FlatIsInverted, FlatIsNarrowed}
use Rattle.flat_laws.proofs.FlatRenamed.{flat_renamed}

lams_flat : (ps : List Place) (y : Assignment) (b : PlainObject) (t : SimpleType) → Flat (beneath ps y) b t → Flat y (lams ps b) (arrows ps t)
lams_flat [] y b t f = f
lams_flat (p ∷ ps) y b t f = lams_flat ps y (lam p.0 b) (arrow p.0 p.1 t) (p.1, t, refl, f)

scoped_const : (ls : Locals) (g : Assignment) (c : ℕ) → scoped ls g (Const c) ≡ g (Const c)
scoped_const ls g c = scoped_out ls g (Const c)

one_number : {v w : ℕ} {o : Option ℕ} → o ≡ Some v → o ≡ Some w → v ≡ w
one_number e f = cc

three : (i j : ℕ) → (i < j) ⊎ ((i ≡ j) ⊎ (j < i))
three i j = grind arith

-- The inverted side of an equation of flat sides is flat.
pub flat_inverted : FlatIsInverted
flat_inverted constants metas ls r m ps a d u x f cov = lams_flat ps (closed constants metas) _ a (flat_renamed (beneath ps (closed constants metas)) (inverse (length ls) ps) (scoped ls (closed constants metas)) x a f (
  (λ c. beneath_out ps (closed constants metas) (Const c) ∙ sym (scoped_out ls (closed constants metas) (Const c))),
  (λ k. beneath_out ps (closed constants metas) (Meta k) ∙ sym (scoped_out ls (closed constants metas) (Meta k))),
  (λ j o. sym (fitting_at (scoped ls (closed constants metas)) ps d.fitting (closed constants metas) (inverse (length ls) ps j) j (inverse_there (length ls) ps (cov j o).0 j (cov j o).1))),
)
    rises)
  where
    ordered : (i j : ℕ) → i < j → (k l : ℕ) → local_at ps k ≡ Some i → local_at ps l ≡ Some j → k < l
    ordered i j h k l e g = ⊎_elim (λ c. c) (λ c. ⊎_elim (λ c. absurd (equal c)) (λ c. absurd (other c)) c) (three k l)
      where
        equal : k ≡ l → ⊥
        equal c = let q : i ≡ j = one_number e (ap (local_at ps) c ∙ g) in omega arith

        other : l < k → ⊥
        other c = let q : j < i = u l k j i c g e in omega arith

    rises : (i j : ℕ) → occurs i x ≡ true → occurs j x ≡ true → i < j → inverse (length ls) ps i < inverse (length ls) ps j
    rises i j o p h = let (k, e) = cov i o in let (l, g) = cov j p in
        subst (λ n. n < inverse (length ls) ps j) (sym (inverse_at (length ls) ps d.distinct k i e)) (subst (λ n. k < n) (sym (inverse_at (length ls) ps d.distinct l j g)) (ordered i j h k l e g))

-- The solution by a new metavariable is flat.
pub flat_narrowed : FlatIsNarrowed
flat_narrowed constants metas k bs ps a e = lams_flat ps (closed constants metas) (atomic (on (masked 0 bs ps) (head_alone (Meta k)))) a
    (inr (k, masked 0 bs ps, record { neutral = refl; type = beneath_out ps (closed constants metas) (Meta k) ∙ e; fitting = masked_fitting (closed constants metas) bs ps; distinct = distinct_of (masked 0 bs ps) (masked_ordered bs ps) }, masked_ordered bs ps))
