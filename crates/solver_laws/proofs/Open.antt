-- Trees with all solutions put in are typed by the metavariables that have no solution, and stay as they are.
use Rattle.std.specs.Prelude.{ℕ, true, false, zero, suc, ◌≡◌, [], ◌∷◌, length, Some, None, refl}
use Rattle.std.proofs.Common.{ap, sym, subst, ◌∙◌, inl, inr, ⊎_elim}
use Rattle.clf_syntax.specs.declared.tree.Head.{Head}
use Rattle.clf_syntax.specs.declared.tree.Head.TheVariants.{Const, Var, Meta}
use Rattle.clf_syntax.specs.Tree.{PlainObject}
use Rattle.clf_syntax.specs.TypeTree.{SimpleType}
use Rattle.clf_syntax.specs.Simple.{SimplyTyped}
use Rattle.clf_syntax.proofs.OccursLaws.{not_true, not_both}
use Rattle.hered_subst.specs.Substitution.{keep, under, Substituted}
use Rattle.hered_subst.proofs.SimpleTyping.{to_typed, of_typed}
use Rattle.hered_subst.proofs.TypedResults.{result_is_typed}
use Rattle.subst_laws.specs.Environments.{Instantiation, instant, image_or, TypedInstantiation, ComposedInstantiation}
use Rattle.subst_laws.proofs.Environs.{instant_is_environment}
use Rattle.subst_laws.proofs.Results.{unmoved}
use Rattle.store_laws.specs.Mentions.{mentions}
use Rattle.store_laws.specs.PutIn.{PutIn}
use Rattle.store_laws.proofs.Mentioned.{mentioned, typed_where, Ordinary, Where}
use Rattle.store_laws.proofs.Closing.{no_families, Gives}
use Rattle.pattern_laws.specs.Instantiations.{Types, closed, Instantiated}
use Rattle.pattern_laws.specs.Equations.{Locals, scoped, Equation, TypedEquation}
use Rattle.pattern_laws.proofs.Instances.{typed_scoped, scoped_meta}
use Rattle.unify_laws.specs.Problems.{Grows}
use Rattle.reach_laws.specs.Rest.{EquationUnder}
use Rattle.solver_laws.specs.Solving.{unsolved_types, without_solution}
use Rattle.solver_laws.proofs.Grown.{cases_of, some_none, simply_more, more_scoped}

module _ (constants metas : Types) (given : Instantiation) where
  pub unsolved_there : (m : ℕ) → given m ≡ None → unsolved_types metas given m ≡ metas m
  unsolved_there m e = ap (without_solution (metas m)) e

  pub solved_gone : (m : ℕ) (o : PlainObject) → given m ≡ Some o → unsolved_types metas given m ≡ None
  solved_gone m o e = ap (without_solution (metas m)) e

  -- What has a type there has it, and has no solution.
  pub unsolved_has : (m : ℕ) (a : SimpleType) → unsolved_types metas given m ≡ Some a → (metas m ≡ Some a) × (given m ≡ None)
  unsolved_has m a e = ⊎_elim (λ h. (sym (unsolved_there m h) ∙ e, h)) (λ h. absurd (some_none (solved_gone m h.0 h.1) e)) (cases_of (given m))

  pub unsolved_grows : Grows (unsolved_types metas given) metas
  unsolved_grows m a e = (unsolved_has m a e).0

  ordinary : (ls : Locals) → Ordinary (scoped ls (closed constants metas)) (scoped ls (closed constants (unsolved_types metas given)))
  ordinary [] (Const c) u n e = e
  ordinary [] (Var i) u n e = absurd (cc)
  ordinary [] (Meta m) u n e = absurd (cc)
  ordinary (l ∷ ls) (Const c) u n e = ordinary ls (Const c) u n e
  ordinary (l ∷ ls) (Var zero) u n e = e
  ordinary (l ∷ ls) (Var (suc i)) u n e = ordinary ls (Var i) u refl e
  ordinary (l ∷ ls) (Meta m) u n e = absurd (cc)

  -- a typed tree that mentions nothing solved
  pub open_typed : (ls : Locals) (x : PlainObject) (a : SimpleType) → SimplyTyped (scoped ls (closed constants metas)) x a → ((k : ℕ) (o : PlainObject) → given k ≡ Some o → mentions k x ≡ false)
      → SimplyTyped (scoped ls (closed constants (unsolved_types metas given))) x a
  open_typed ls x a p f = of_typed (typed_where (scoped ls (closed constants (unsolved_types metas given))) (to_typed true (scoped ls (closed constants metas)) x a p) (ordinary ls) at)
    where
      at : Where (λ m. mentions m x) (scoped ls (closed constants metas)) (scoped ls (closed constants (unsolved_types metas given)))
      at m u h e = ⊎_elim
          (λ g. scoped_meta ls (closed constants (unsolved_types metas given)) m ∙ unsolved_there m g ∙ sym (scoped_meta ls (closed constants metas) m) ∙ e)
          (λ g. absurd (not_both h (f m g.0 g.1))) (cases_of (given m))

  -- typed by all metavariables
  pub closed_tree : (x : PlainObject) (a : SimpleType) → SimplyTyped (closed constants (unsolved_types metas given)) x a → SimplyTyped (closed constants metas) x a
  closed_tree x a p = simply_more (closed constants (unsolved_types metas given)) (closed constants metas) x a (more_scoped constants (unsolved_types metas given) metas [] unsolved_grows) p

  pub open_silent : (ls : Locals) (x : PlainObject) (a : SimpleType) → SimplyTyped (scoped ls (closed constants (unsolved_types metas given))) x a → (k : ℕ) (o : PlainObject) → given k ≡ Some o → mentions k x ≡ false
  open_silent ls x a p k o e = not_true (mentions k x) (λ h. some_none (scoped_meta ls (closed constants (unsolved_types metas given)) k ∙ solved_gone k o e)
      (mentioned (to_typed true (scoped ls (closed constants (unsolved_types metas given))) x a p) k h).1)

  -- a metavariable that it mentions is unsolved
  pub open_unsolved : (ls : Locals) (x : PlainObject) (a : SimpleType) → SimplyTyped (scoped ls (closed constants (unsolved_types metas given))) x a → (k : ℕ) → mentions k x ≡ true → given k ≡ None
  open_unsolved ls x a p k h = ⊎_elim (λ g. g) (λ g. absurd (not_both h (open_silent ls x a p k g.0 g.1))) (cases_of (given k))

  -- a closed tree stays as it is
  pub open_stays : (s : Instantiation) → PutIn given s → (x : PlainObject) (a : SimpleType) → SimplyTyped (closed constants (unsolved_types metas given)) x a → Substituted (instant s) x x
  open_stays s all x a p = (unmoved no_families (closed constants (unsolved_types metas given)) (instant s) at_head).object x a p
    where
      at_head : (h : Head) (u : SimpleType) → closed constants (unsolved_types metas given) h ≡ Some u → instant s h ≡ keep h
      at_head (Const c) u e = refl
      at_head (Var i) u e = refl
      at_head (Meta m) u e = ap (image_or (Meta m)) (all.unsolved m (unsolved_has m u e).1)

  module _ (s : Instantiation) (all : PutIn given s) (gives : Gives (closed constants metas) s) where
    -- What s gives mentions nothing solved.
    gives_open : (m : ℕ) (x : PlainObject) → s m ≡ Some x → (a : SimpleType) × (metas m ≡ Some a) × SimplyTyped (closed constants (unsolved_types metas given)) x a
    gives_open m x e = let (a, i, p) = gives m x e in (a, i, open_typed [] x a p (λ k o f. all.finished m x e k o f))

    pub puts_open : TypedInstantiation (closed constants metas) (closed constants (unsolved_types metas given)) s
    puts_open = (
      (λ c u e. e),
      (λ i u e. e),
      (λ m u e. ⊎_elim
          (λ h. inl (h, unsolved_there m (⊎_elim (λ g. g) (λ g. absurd (some_none h (all.solved m g.0 g.1).1)) (cases_of (given m))) ∙ e))
          (λ h. let (a, i, p) = gives_open m h.0 h.1 in inr (h.0, h.1, subst (λ t. SimplyTyped (closed constants (unsolved_types metas given)) h.0 t) (one_type (sym i ∙ e)) p))
          (cases_of (s m))),
    )
      where
        one_type : {a b : SimpleType} → Some a ≡ Some b → a ≡ b
        one_type e = cc

    pub put_is_open : (ls : Locals) (x y : PlainObject) (a : SimpleType) → SimplyTyped (scoped ls (closed constants metas)) x a → Instantiated (length ls) s x y → SimplyTyped (scoped ls (closed constants (unsolved_types metas given))) y a
    put_is_open ls x y a p i = (result_is_typed true no_families (scoped ls (closed constants metas)) (scoped ls (closed constants (unsolved_types metas given))) (under (length ls) (instant s))
        (typed_scoped (closed constants metas) (closed constants (unsolved_types metas given)) s ((instant_is_environment (closed constants metas)).0 (closed constants (unsolved_types metas given)) s puts_open) ls)).object x y a p i

    -- an equation with all solutions put in
    pub equation_open : (e d : Equation) → TypedEquation constants metas e → EquationUnder s e d → TypedEquation constants (unsolved_types metas given) d
    equation_open e d p u = (at d.left (put_is_open e.locals e.left d.left e.type p.0 u.left), at d.right (put_is_open e.locals e.right d.right e.type p.1 u.right))
      where
        at : (y : PlainObject) → SimplyTyped (scoped e.locals (closed constants (unsolved_types metas given))) y e.type → SimplyTyped (scoped d.locals (closed constants (unsolved_types metas given))) y d.type
        at y q = subst (λ ls. SimplyTyped (scoped ls (closed constants (unsolved_types metas given))) y d.type) (sym u.locals) (subst (λ a. SimplyTyped (scoped e.locals (closed constants (unsolved_types metas given))) y a) (sym u.type) q)

    -- To put all solutions in twice is to do it once.
    pub put_in_twice : ComposedInstantiation (closed constants metas) s s s
    put_in_twice m a e = ⊎_elim (λ h. inl (h, refl))
        (λ h. let (b, i, p) = gives_open m h.0 h.1 in inr (h.0, h.0, h.1, h.1, open_stays s all h.0 b p)) (cases_of (s m))
