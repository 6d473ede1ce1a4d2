-- The step that takes arguments from a metavariable: it becomes a new metavariable on the other arguments.
use Rattle.store_laws.proofs.Numbers.{number_cases, set_there, set_else}
use Rattle.std.specs.Prelude.{ℕ, true, false, ◌≡◌, ◌<◌, List, [], ◌∷◌, length, Some, None, refl}
use Rattle.std.proofs.Common.{ap, sym, subst, ◌∙◌, ⊎_elim}
use Rattle.clf_syntax.specs.declared.tree.Head.{Head}
use Rattle.clf_syntax.specs.declared.tree.Head.TheVariants.{Const, Var, Meta}
use Rattle.clf_syntax.specs.Tree.{PlainObject, atomic, head_alone}
use Rattle.clf_syntax.specs.TypeTree.{SimpleType}
use Rattle.clf_syntax.specs.Simple.{Families, SimplyTyped}
use Rattle.clf_syntax.specs.Renaming.{up}
use Rattle.clf_syntax.specs.Occurs.{occurs}
use Rattle.hered_subst.specs.Substitution.{ren_image, under, Substituted}
use Rattle.hered_subst.proofs.SimpleTyping.{Typed}
use Rattle.subst_laws.specs.Environments.{Instantiation, instant, image_or}
use Rattle.subst_laws.proofs.Results.{agreement}
use Rattle.trace_equal.specs.Exchange.{stop}
use Rattle.store_laws.specs.Additions.{set}
use Rattle.pattern_laws.specs.Instantiations.{Instantiated, Types, closed, over, Instantiates, Agrees}
use Rattle.pattern_laws.specs.Patterns.{Place, on, lams, arrows, Fitting, local_at, Distinct, beneath, inverted}
use Rattle.pattern_laws.specs.Equations.{scoped, Equation, SolvesEach, TypedEquations, Locals}
use Rattle.pattern_laws.proofs.Inverse.{Within}
use Rattle.pattern_laws.proofs.Instances.{keeps as keeps_closed, keeps_under, scoped_meta}
use Rattle.inversion_laws.proofs.Cores.{given_body, narrowed}
use Rattle.unify_laws.specs.Problems.{IsSolution, Extends, KeepsSolutions, WellTyped}
use Rattle.unify_laws.proofs.Assign.{another, agrees_more, agrees_fewer}

no_families : Families
no_families f = None

-- An instantiation that gives the same to the metavariables that have types does the same to typed trees.
pub same_instance : (constants metas parameters : Types) (t v : Instantiation) → Instantiates constants metas parameters t → Extends metas t v
    → (ls : Locals) (o x : PlainObject) (a : SimpleType) → SimplyTyped (scoped ls (closed constants metas)) o a → Instantiated (length ls) t o x → Instantiated (length ls) v o x
same_instance constants metas parameters t v f g ls o x a p i = (agreement no_families (scoped ls (closed constants metas)) (scoped ls (over constants parameters)) (under (length ls) (instant t)) (under (length ls) (instant v)) (keeps_under constants metas parameters t f ls) at_head).object o x a p i
  where
    at_head : (h : Head) (u : SimpleType) → scoped ls (closed constants metas) h ≡ Some u → under (length ls) (instant v) h ≡ under (length ls) (instant t) h
    at_head (Const c) u e = refl
    at_head (Var i) u e = refl
    at_head (Meta m) u e = ap (λ o. ren_image (up (length ls)) (image_or (Meta m) o)) (g m u (sym (scoped_meta ls (closed constants metas) m) ∙ e))

-- under no locals
pub same_closed : (constants metas parameters : Types) (t v : Instantiation) → Instantiates constants metas parameters t → Extends metas t v
    → (o x : PlainObject) (a : SimpleType) → SimplyTyped (closed constants metas) o a → Substituted (instant t) o x → Substituted (instant v) o x
same_closed constants metas parameters t v f g o x a p i = (agreement no_families (closed constants metas) (over constants parameters) (instant t) (instant v) (keeps_closed constants metas parameters t f) at_head).object o x a p i
  where
    at_head : (h : Head) (u : SimpleType) → closed constants metas h ≡ Some u → instant v h ≡ instant t h
    at_head (Const c) u e = refl
    at_head (Var i) u e = refl
    at_head (Meta m) u e = ap (image_or (Meta m)) (g m u e)

pub same_solves : (constants metas parameters : Types) (t v : Instantiation) → Instantiates constants metas parameters t → Extends metas t v → (es : List Equation) → TypedEquations constants metas es → SolvesEach (instant t) es → SolvesEach (instant v) es
same_solves constants metas parameters t v f g [] p s = s
same_solves constants metas parameters t v f g (e ∷ es) p s = let (x, y, i, k, j) = s.0 in
    ((x, y, same_instance constants metas parameters t v f g e.locals e.left x e.type p.0.0 i, same_instance constants metas parameters t v f g e.locals e.right y e.type p.0.1 k, j), same_solves constants metas parameters t v f g es p.1 s.1)

module _ (constants metas : Types) (given : Instantiation) (es : List Equation) (k k' : ℕ) (ps qs : List Place) (a : SimpleType)
    (typed : WellTyped constants (record { metas = metas; given = given; equations = es }))
    (type_of : metas k ≡ Some (arrows ps a)) (open_ : given k ≡ None) (new : metas k' ≡ None)
    (fitting : (parameters : Types) → Fitting (beneath ps (over constants parameters)) qs) (distinct : Distinct qs) (within : Within (length ps) qs)
    (spared : (parameters : Types) (t : Instantiation) → IsSolution constants parameters t (record { metas = metas; given = given; equations = es }) → (b : PlainObject) → t k ≡ Some (lams ps b) → Typed false (beneath ps (over constants parameters)) b a
    → (j : ℕ) → j < length ps → occurs j b ≡ true → (i : ℕ) × (local_at qs i ≡ Some j))
  where
    -- The metavariable is given a new one on the arguments that are kept.
    pub narrow_step : KeepsSolutions constants (record { metas = metas; given = given; equations = es })
        (record { metas = set k' (arrows qs a) metas; given = set k (lams ps (atomic (on qs (head_alone (Meta k'))))) given; equations = es })
    narrow_step = (forth, back)
      where
        forth : (parameters : Types) (t : Instantiation) → IsSolution constants parameters t (record { metas = metas; given = given; equations = es })
            → (v : Instantiation) × Extends metas t v × IsSolution constants parameters v (record { metas = set k' (arrows qs a) metas; given = set k (lams ps (atomic (on qs (head_alone (Meta k'))))) given; equations = es })
        forth parameters t s = let (b, e, q, p) = given_body constants metas parameters t s.0 k ps a type_of in
            let (w, u) = narrowed constants parameters (set k' (inverted (length ps) qs b) t) k' ps qs a b p (fitting parameters) distinct within (spared parameters t s b e p) (set_there k' (inverted (length ps) qs b) t) in (
              set k' (inverted (length ps) qs b) t,
              further b,
              (
                instantiates b u,
                agrees_more (set k' (inverted (length ps) qs b) t) given k (lams ps (atomic (on qs (head_alone (Meta k'))))) (agrees b) (lams ps b, lams ps b, further b k (arrows ps a) type_of ∙ e, w, stop),
                same_solves constants metas parameters t (set k' (inverted (length ps) qs b) t) s.0 (further b) es typed.0 s.2,
              ),
            )
          where
            further : (b : PlainObject) → Extends metas t (set k' (inverted (length ps) qs b) t)
            further b m c e = set_else k' m (inverted (length ps) qs b) t (another k' m metas c new e)

            instantiates : (b : PlainObject) → SimplyTyped (over constants parameters) (inverted (length ps) qs b) (arrows qs a) → Instantiates constants (set k' (arrows qs a) metas) parameters (set k' (inverted (length ps) qs b) t)
            instantiates b u m c e = ⊎_elim
                (λ h. (inverted (length ps) qs b, ap (set k' (inverted (length ps) qs b) t) h ∙ set_there k' (inverted (length ps) qs b) t, subst (λ d. SimplyTyped (over constants parameters) (inverted (length ps) qs b) d) (one_type (sym (set_there k' (arrows qs a) metas) ∙ sym (ap (set k' (arrows qs a) metas) h) ∙ e)) u))
                (λ h. let (o, g, p) = s.0 m c (sym (set_else k' m (arrows qs a) metas h) ∙ e) in (o, set_else k' m (inverted (length ps) qs b) t h ∙ g, p))
                (number_cases m k')
              where
                one_type : {c d : SimpleType} → Some c ≡ Some d → c ≡ d
                one_type e = cc

            agrees : (b : PlainObject) → Agrees (set k' (inverted (length ps) qs b) t) given
            agrees b m o e = let (u, x, g, i, j) = s.1 m o e in let (c, h, p) = typed.1 m o e in
                (u, x, further b m c h ∙ g, same_closed constants metas parameters t (set k' (inverted (length ps) qs b) t) s.0 (further b) o x c p i, j)

        back : (parameters : Types) (t : Instantiation) → IsSolution constants parameters t (record { metas = set k' (arrows qs a) metas; given = set k (lams ps (atomic (on qs (head_alone (Meta k'))))) given; equations = es })
            → IsSolution constants parameters t (record { metas = metas; given = given; equations = es })
        back parameters t s = ((λ m c e. s.0 m c (set_else k' m (arrows qs a) metas (another k' m metas c new e) ∙ e)), agrees_fewer t given k (lams ps (atomic (on qs (head_alone (Meta k'))))) open_ s.1, s.2)
