-- What the premises of a step say of its metavariable and of what it adds.
use Rattle.std.specs.Prelude.{ℕ, Bool, true, false, ◌≡◌, List, [], length, Some, None}
use Rattle.std.proofs.Common.{ap, sym, subst, ◌∙◌, ⊎_elim}
use Rattle.clf_syntax.specs.declared.tree.Head.TheVariants.{Meta}
use Rattle.clf_syntax.specs.Tree.{PlainObject, atomic, PlainNeutral, head_alone}
use Rattle.clf_syntax.specs.TypeTree.{SimpleType}
use Rattle.clf_syntax.specs.Simple.{SimplyTyped}
use Rattle.subst_laws.specs.Environments.{Instantiation}
use Rattle.store_laws.specs.Mentions.{mentions, mentions_neutral}
use Rattle.store_laws.proofs.Numbers.{number_cases, set_there}
use Rattle.store_laws.proofs.Closing.{Gives}
use Rattle.store_laws.specs.Additions.{set}
use Rattle.pattern_laws.specs.Instantiations.{Types, closed}
use Rattle.pattern_laws.specs.Equations.{scoped, Equation, TypedEquation}
use Rattle.pattern_laws.specs.Patterns.{IsFinal, Place, on, lams, arrows, masked, LacksMisfits}
use Rattle.pattern_laws.proofs.Instances.{scoped_meta}
use Rattle.inversion_laws.proofs.Cores.{inverted_typed}
use Rattle.unify_laws.specs.Problems.{KeepsSolutions, WellTyped, Consequence}
use Rattle.unify_laws.specs.Narrowing.{narrowed_by}
use Rattle.unify_laws.proofs.Assign.{assign_step}
use Rattle.unify_laws.proofs.Preserved.{narrowed_typed}
use Rattle.unify_laws.proofs.PruneStep.{prune_step, same_step}
use Rattle.solver_laws.specs.Solving.{unsolved_types}
use Rattle.solver_laws.specs.Steps.{Assigns, Prunes, Aligns, Narrows}
use Rattle.solver_laws.proofs.Grown.{some_none, simply_more, more_scoped}
use Rattle.solver_laws.proofs.Open.{open_typed, open_silent, open_unsolved, unsolved_grows}
use Rattle.solver_laws.proofs.Mentioning.{narrowed_silent, mentions_on, mentions_inverted, stands_mentions}

module _ (constants metas : Types) (given : Instantiation) where
  -- typed by all metavariables
  pub closed_equation : (e : Equation) → TypedEquation constants (unsolved_types metas given) e → TypedEquation constants metas e
  closed_equation e p = (side e.left p.0, side e.right p.1)
    where
      side : (x : PlainObject) → SimplyTyped (scoped e.locals (closed constants (unsolved_types metas given))) x e.type → SimplyTyped (scoped e.locals (closed constants metas)) x e.type
      side x q = simply_more (scoped e.locals (closed constants (unsolved_types metas given))) (scoped e.locals (closed constants metas)) x e.type (more_scoped constants (unsolved_types metas given) metas e.locals (unsolved_grows constants metas given)) q

  -- the equation is typed, and mentions nothing solved
  module _ (e : Equation) (typed : TypedEquation constants (unsolved_types metas given) e) where
    -- the metavariable of the left side
    head_mentioned : (m : ℕ) (r : PlainNeutral) (qs : List Place) → e.left ≡ atomic r → r ≡ on qs (head_alone (Meta m)) → mentions m e.left ≡ true
    head_mentioned m r qs f g = ap (mentions m) f ∙ ap (mentions_neutral m) g ∙ mentions_on m qs

    pub assigned_unsolved : (m : ℕ) (o : PlainObject) → Assigns constants metas e m o → given m ≡ None
    assigned_unsolved m o h = open_unsolved constants metas given e.locals e.left e.type typed.0 m (head_mentioned m h.neutral h.own h.is_left h.on_locals.neutral)

    pub assigned_type : (m : ℕ) (o : PlainObject) (h : Assigns constants metas e m o) → metas m ≡ Some (arrows h.places e.type)
    assigned_type m o h = sym (scoped_meta e.locals (closed constants metas) m) ∙ h.on_locals.type

    pub assigned_silent : (m : ℕ) (o : PlainObject) → Assigns constants metas e m o → (k : ℕ) → mentions k e.right ≡ false → mentions k o ≡ false
    assigned_silent m o h k f = ap (mentions k) h.solution ∙ mentions_inverted k (length e.locals) h.places e.right ∙ f

    pub assigned_open : (m : ℕ) (o : PlainObject) (h : Assigns constants metas e m o) → SimplyTyped (closed constants (unsolved_types metas given)) o (arrows h.places e.type)
    assigned_open m o h = open_typed constants metas given [] o (arrows h.places e.type)
        (subst (λ x. SimplyTyped (closed constants metas) x (arrows h.places e.type)) (sym h.solution)
        (inverted_typed constants metas e.locals h.neutral m h.places h.own e.type h.on_locals e.right (closed_equation e typed).1 h.lacks h.covers))
        (λ k u f. assigned_silent m o h k (open_silent constants metas given e.locals e.right e.type typed.1 k u f))

    pub assigned_keeps : (es : List Equation) (m : ℕ) (o : PlainObject) → Assigns constants metas e m o → Consequence constants (record { metas = metas; given = given; equations = es }) e
        → KeepsSolutions constants (record { metas = metas; given = given; equations = es }) (record { metas = metas; given = set m o given; equations = es })
    assigned_keeps es m o h c = subst (λ x. KeepsSolutions constants (record { metas = metas; given = given; equations = es }) (record { metas = metas; given = set m x given; equations = es })) (sym h.solution)
        (assign_step constants metas given es e.locals h.neutral m h.places h.own e.type e.right
        (subst (λ x. Consequence constants (record { metas = metas; given = given; equations = es }) (record { locals = e.locals; left = x; right = e.right; type = e.type })) h.is_left c)
        h.on_locals h.lacks (assigned_unsolved m o h))

    pub narrowed_unsolved : (k : ℕ) (mask : List Bool) (zs : List Place) (c : SimpleType) → Narrows constants metas e k mask zs c → given k ≡ None
    narrowed_unsolved k mask zs c h = ⊎_elim
        (λ p. open_unsolved constants metas given e.locals e.right e.type typed.1 k (stands_mentions p.stands k (ap (mentions_neutral k) p.on_distinct.neutral ∙ mentions_on k zs)))
        (λ p. open_unsolved constants metas given e.locals e.left e.type typed.0 k (head_mentioned k p.0.neutral p.0.own p.0.is_left p.0.on_left.neutral)) h.why

    pub narrowed_keeps : (es : List Equation) (k n : ℕ) (mask : List Bool) (zs : List Place) (c : SimpleType) → Narrows constants metas e k mask zs c → WellTyped constants (record { metas = metas; given = given; equations = es })
        → metas n ≡ None → Consequence constants (record { metas = metas; given = given; equations = es }) e
        → KeepsSolutions constants (record { metas = metas; given = given; equations = es }) (narrowed_by metas given es k n mask zs c)
    narrowed_keeps es k n mask zs c h w new con = ⊎_elim pruned (λ p. subst (λ b. KeepsSolutions constants (record { metas = metas; given = given; equations = es }) (narrowed_by metas given es k n mask zs b)) (sym p.1) (aligned p.0)) h.why
      where
        pruned : Prunes constants metas e k mask zs c → KeepsSolutions constants (record { metas = metas; given = given; equations = es }) (narrowed_by metas given es k n mask zs c)
        pruned p = prune_step constants metas given es e.locals p.neutral p.meta p.places p.own e.type e.right
            (subst (λ x. Consequence constants (record { metas = metas; given = given; equations = es }) (record { locals = e.locals; left = x; right = e.right; type = e.type })) p.is_left con)
            w p.on_locals p.lacks p.inner p.depth p.pruned k n zs c mask p.deeper p.on_distinct p.stands (narrowed_unsolved k mask zs c h) new p.foreign

        aligned : Aligns constants metas e k mask zs → KeepsSolutions constants (record { metas = metas; given = given; equations = es }) (narrowed_by metas given es k n mask zs e.type)
        aligned p = same_step constants metas given es e.locals p.neutral p.other k zs p.own p.other_places p.other_own e.type
            (subst (λ x. Consequence constants (record { metas = metas; given = given; equations = es }) (record { locals = e.locals; left = x; right = atomic p.other; type = e.type })) p.is_left
            (subst (λ x. Consequence constants (record { metas = metas; given = given; equations = es }) (record { locals = e.locals; left = e.left; right = x; type = e.type })) p.is_right con))
            w p.on_left p.on_right (subst (LacksMisfits zs p.own) p.is_right p.lacks_left) (subst (LacksMisfits p.other_places p.other_own) p.is_left p.lacks_right) p.same n mask (narrowed_unsolved k mask zs c h) new p.ended

-- The solution by a new metavariable is typed, and mentions nothing solved.
pub narrowed_open : (constants metas : Types) (given : Instantiation) → Gives (closed constants metas) given → (n : ℕ) → metas n ≡ None → (mask : List Bool) (zs : List Place) (c : SimpleType) → IsFinal c
    → SimplyTyped (closed constants (unsolved_types (set n (arrows (masked 0 mask zs) c) metas) given)) (lams zs (atomic (on (masked 0 mask zs) (head_alone (Meta n))))) (arrows zs c)
narrowed_open constants metas given typed n new mask zs c final = open_typed constants (set n (arrows (masked 0 mask zs) c) metas) given [] (lams zs (atomic (on (masked 0 mask zs) (head_alone (Meta n))))) (arrows zs c)
    (narrowed_typed constants (set n (arrows (masked 0 mask zs) c) metas) n mask zs c final (set_there n (arrows (masked 0 mask zs) c) metas))
    (λ j u e. ⊎_elim (λ q. absurd (some_none (ap metas (sym q) ∙ new) (typed j u e).1)) (λ q. narrowed_silent j n zs (masked 0 mask zs) q) (number_cases n j))
