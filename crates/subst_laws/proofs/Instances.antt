-- Instances of instances.
use Rattle.clf_syntax.specs.Simple.{Assignment, SimplyTyped}
use Rattle.clf_syntax.specs.Tree.{PlainObject}
use Rattle.clf_syntax.specs.TypeTree.{SimpleType}
use Rattle.clf_syntax.specs.declared.tree.Head.{Head}
use Rattle.clf_syntax.specs.declared.tree.Head.TheVariants.{Meta}
use Rattle.std.proofs.Common.{ap, inl, inr, subst, sym, ⊎_elim, ◌∙◌}
use Rattle.std.specs.Prelude.{None, Option, Some, refl, true, ℕ, ◌≡◌, ◌⊎◌}
use Rattle.hered_subst.proofs.Bounded.{Kept}
use Rattle.hered_subst.proofs.Determined.{determined}
use Rattle.hered_subst.proofs.SimpleTyping.{Typed, of_typed, to_typed}
use Rattle.hered_subst.proofs.Total.{the_type}
use Rattle.hered_subst.proofs.TypedEnvironments.{to_kept, total_object}
use Rattle.hered_subst.specs.Substitution.{Substituted, keep, put}
use Rattle.hered_subst.specs.TypedEnvironments.{StandsFor, is_metavariable}
use Rattle.subst_laws.proofs.Compose.{clash, same_head, same_put}
use Rattle.subst_laws.proofs.Environs.{instant_is_environment}
use Rattle.subst_laws.specs.Environments.{ComposedInstantiation, Instantiation, TypedInstantiation, instant}
use Rattle.subst_laws.specs.Laws.{ComposedIsTyped, InstancesOfInstances}

pub no_type : {u : SimpleType} {x : Option SimpleType} → x ≡ None → x ≡ Some u → ⊥
no_type e f = cc

pub composed_is_typed : ComposedIsTyped
composed_is_typed g z y s u v es eu f h t e = ⊎_elim (λ a. kept a) (λ a. given a) (es h t e)
  where
    kept : (j : Head) × (s h ≡ keep j) × (z j ≡ Some t) × (is_metavariable j ≡ is_metavariable h) → StandsFor true y t h (v h)
    kept a = ⊎_elim
        (λ b. let q : b.0 ≡ a.0 = same_head b.1 a.1 in ⊎_elim
        (λ c. inl (c.0, b.2 ∙ ap u q ∙ c.1, c.2, c.3 ∙ a.3))
        (λ c. inr (c.0, b.2 ∙ ap u q ∙ c.1, c.2))
        (eu a.0 t a.2))
        (λ b. absurd (clash a.1 b.2)) (f h t e)

    given : (n : PlainObject) × (s h ≡ put n) × SimplyTyped z n t → StandsFor true y t h (v h)
    given a = ⊎_elim (λ b. absurd (clash b.1 a.1))
        (λ b. inr (b.1, b.3, of_typed (typed_result (to_kept true z y u eu) (to_typed true z a.0 t a.2) (subst (λ (n : PlainObject). Substituted u n b.1) (same_put b.2 a.1) b.4)))) (f h t e)
      where
        typed_result : {o x : PlainObject} → Kept true z y u → Typed true z o t → Substituted u o x → Typed true y x t
        typed_result {o} {x} k p q = let (i, c, d) = total_object true z y u k p in subst (λ j. Typed true y j t) (determined c q) d

-- what the two give a metavariable
abbrev Both : Assignment → Assignment → Instantiation → Instantiation → ℕ → Type 0
Both g y t u m = (i : Option PlainObject) × ((a : SimpleType) → g (Meta m) ≡ Some a
    → (((t m ≡ None) × (i ≡ u m)) ⊎ ((n x : PlainObject) × (t m ≡ Some n) × (i ≡ Some x) × Substituted (instant u) n x))
    × (((i ≡ None) × (y (Meta m) ≡ Some a)) ⊎ ((n : PlainObject) × (i ≡ Some n) × SimplyTyped y n a)))

module _ (g z y : Assignment) (t u : Instantiation) (p : TypedInstantiation g z t) (q : TypedInstantiation z y u) where
  both_at : (m : ℕ) (x : Option SimpleType) → g (Meta m) ≡ x → Both g y t u m
  both_at m None e = (None, (λ a f. absurd (no_type e f)))
  both_at m (Some a) e = ⊎_elim
      (λ b. (u m, (λ c f. (inl (b.0, refl), q.2 m c (b.1 ∙ sym e ∙ f)))))
      (λ b. let (x, c, d) = total_object true z y (instant u) (to_kept true z y (instant u) ((instant_is_environment z).0 y u q)) (to_typed true z b.0 a b.2) in
      (Some x, (λ k f. (inr (b.0, x, b.1, refl, c), inr (x, refl, subst (λ v. SimplyTyped y x v) (the_type (sym e ∙ f)) (of_typed d))))))
      (p.2 m a e)

  both_all : (m : ℕ) → Both g y t u m
  both_all m = both_at m (g (Meta m)) refl

  instances : (v : Instantiation) × ComposedInstantiation g t u v × TypedInstantiation g y v
  instances = (
    (λ m. (both_all m).0),
    (λ m a e. ((both_all m).1 a e).0),
    ((λ c a e. q.0 c a (p.0 c a e)), (λ i a e. q.1 i a (p.1 i a e)), (λ m a e. ((both_all m).1 a e).1)),
  )

pub instances_of_instances : InstancesOfInstances
instances_of_instances g z y t u p q = instances g z y t u p q
