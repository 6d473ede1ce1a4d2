-- What follows from a problem's equations: their parts, and what becomes of them when solutions are put in.
use Rattle.joined_laws.proofs.Environs.{joined_instances}
use Rattle.std.specs.Prelude.{ℕ, ◌≡◌, ◌⊎◌, List, length, Option, Some, None, refl}
use Rattle.std.proofs.Common.{sym, subst, ◌∙◌, inl, inr, true}
use Rattle.clf_syntax.specs.declared.tree.Head.TheVariants.{Meta}
use Rattle.clf_syntax.specs.Tree.{PlainObject}
use Rattle.clf_syntax.specs.TypeTree.{SimpleType}
use Rattle.clf_syntax.specs.Simple.{Families, SimplyTyped}
use Rattle.hered_subst.specs.Substitution.{under, Substituted}
use Rattle.hered_subst.specs.TypedEnvironments.{TypedEnvironment}
use Rattle.hered_subst.proofs.TypedResults.{result_is_typed}
use Rattle.subst_laws.specs.Environments.{Instantiation, instant, Composed, ComposedInstantiation, TypedInstantiation}
use Rattle.subst_laws.proofs.Environs.{instant_is_environment}
use Rattle.subst_laws.proofs.Results.{composition}
use Rattle.trace_equal.specs.Exchange.{stop, Joined}
use Rattle.trace_equal.proofs.Closed.{trail}
use Rattle.trace_equal.proofs.Joined.{joined_is_equivalence}
use Rattle.joined_laws.specs.Environments.{JoinedEnvironment, JoinedInstantiation}
use Rattle.joined_laws.proofs.Results.{respects_all}
use Rattle.pattern_laws.specs.Instantiations.{Instantiated, Types, closed, over, Instantiates, Agrees}
use Rattle.pattern_laws.specs.Equations.{scoped, Equation, Solves, SolvesEach, Listed, listed_here, listed_later, Locals}
use Rattle.pattern_laws.proofs.Instances.{keeps as keeps_closed, keeps_under, instance, composed_scoped, joined_scoped, typed_scoped}
use Rattle.unify_laws.specs.Problems.{Problem, KeepsSolutions, Consequence}
use Rattle.unify_laws.specs.Laws.{LamsFollow, PairsFollow, PartsFollow, NeutralsClash, PutInFollows}
use Rattle.unify_laws.proofs.Steps.{lam_part, pair_parts, neutral_clash, neutral_part}

pub listed_solved : (t : Instantiation) (e : Equation) (es : List Equation) → Listed e es → SolvesEach (instant t) es → Solves (instant t) e
listed_solved t e es listed_here s = s.0
listed_solved t e es (listed_later l) s = listed_solved t e _ l s.1

-- An equation of the problem.
pub of_listed : (constants : Types) (p : Problem) (e : Equation) → Listed e p.equations → Consequence constants p e
of_listed constants p e l parameters t s = listed_solved t e p.equations l s.2

-- with the sides changed about
pub of_flipped : (constants : Types) (p : Problem) (ls : Locals) (o u : PlainObject) (a : SimpleType) → Consequence constants p (record { locals = ls; left = o; right = u; type = a }) → Consequence constants p (record { locals = ls; left = u; right = o; type = a })
of_flipped constants p ls o u a c parameters t s = let (x, y, i, k, j) = c parameters t s in (y, x, k, i, joined_is_equivalence.1 x y j)

pub of_lam : LamsFollow
of_lam constants p ls d m b c a e f parameters t s = (lam_part t ls d m b c a e).0 (f parameters t s)

pub of_pair : PairsFollow
of_pair constants p ls l k r s a c d f = ((λ parameters t u. ((pair_parts t ls l k r s a c d).0 (f parameters t u)).0), (λ parameters t u. ((pair_parts t ls l k r s a c d).0 (f parameters t u)).1))

pub of_part : PartsFollow
of_part constants p ls r n a h o u c q f parameters t s = neutral_part t ls (scoped ls (closed constants p.metas)) r n a h (f parameters t s) o u c q

-- Heads or shapes that differ.
pub none_of_neutrals : NeutralsClash
none_of_neutrals constants p ls r n a f g h c parameters t s = neutral_clash t ls r n a f g h (c parameters t s)

-- What follows stays so when steps are taken.
pub of_step : (constants : Types) (p q : Problem) (e : Equation) → KeepsSolutions constants p q → Consequence constants p e → Consequence constants q e
of_step constants p q e k c parameters t s = c parameters t (k.1 parameters t s)

no_families : Families
no_families f = None

module _ (constants metas parameters : Types) (given t : Instantiation) (f : Instantiates constants metas parameters t) (agrees : Agrees t given)
    (typed : (m : ℕ) (s : PlainObject) → given m ≡ Some s → (a : SimpleType) × (metas m ≡ Some a) × SimplyTyped (closed constants metas) s a) where
  -- what t makes of the solution of a metavariable, or what it gives the metavariable
  abbrev pick : (m : ℕ) (o : Option PlainObject) → given m ≡ o → Option PlainObject
  pick m None e = t m
  pick m (Some s) e = Some (agrees m s e).1

  abbrev after : Instantiation
  after m = pick m (given m) refl

  one_type : {c d : SimpleType} → Some c ≡ Some d → c ≡ d
  one_type e = cc

  pick_typed : (m : ℕ) (a : SimpleType) → metas m ≡ Some a → (o : Option PlainObject) (e : given m ≡ o) → ((given m ≡ None) × (closed constants metas (Meta m) ≡ Some a)) ⊎ ((n : PlainObject) × (given m ≡ Some n) × SimplyTyped (closed constants metas) n a)
  pick_typed m a h None e = inl (e, h)
  pick_typed m a h (Some s) e = let (b, g, p) = typed m s e in inr (s, e, subst (λ c. SimplyTyped (closed constants metas) s c) (one_type (sym g ∙ h)) p)

  pick_composed : (m : ℕ) (o : Option PlainObject) (e : given m ≡ o) → ((given m ≡ None) × (pick m o e ≡ t m)) ⊎ ((n x : PlainObject) × (given m ≡ Some n) × (pick m o e ≡ Some x) × Substituted (instant t) n x)
  pick_composed m None e = inl (e, refl)
  pick_composed m (Some s) e = inr (s, (agrees m s e).1, e, refl, (agrees m s e).3)

  pick_joined : (m : ℕ) (a : SimpleType) → metas m ≡ Some a → (o : Option PlainObject) (e : given m ≡ o) → (n x : PlainObject) × (pick m o e ≡ Some n) × (t m ≡ Some x) × Joined n x
  pick_joined m a h None e = let (o, g, p) = f m a h in (o, o, g, g, stop)
  pick_joined m a h (Some s) e = let (o, x, g, i, j) = agrees m s e in ((agrees m s e).1, o, refl, g, joined_is_equivalence.1 o x j)

  given_typed : TypedInstantiation (closed constants metas) (closed constants metas) given
  given_typed = ((λ c u e. e), (λ i u e. absurd (cc)), (λ m u e. pick_typed m u e (given m) refl))

  given_composed : ComposedInstantiation (closed constants metas) given t after
  given_composed m a e = pick_composed m (given m) refl

  after_joined : JoinedInstantiation (closed constants metas) after t
  after_joined m a e = inr (pick_joined m a e (given m) refl)

  after_instantiates : Instantiates constants metas parameters after
  after_instantiates m a e = of_pick (given m) refl
    where
      of_pick : (o : Option PlainObject) (h : given m ≡ o) → (n : PlainObject) × (pick m o h ≡ Some n) × SimplyTyped (over constants parameters) n a
      of_pick None h = f m a e
      of_pick (Some s) h = let (b, g, p) = typed m s h in let (o, x, k, i, j) = agrees m s h in (
        (agrees m s h).1,
        refl,
        subst (λ c. SimplyTyped (over constants parameters) (agrees m s h).1 c) (one_type (sym g ∙ e))
            ((result_is_typed true no_families (closed constants metas) (over constants parameters) (instant t) (keeps_closed constants metas parameters t f)).object s (agrees m s h).1 b p (agrees m s h).3),
      )

  keeps_given : (ls : Locals) → TypedEnvironment true (scoped ls (closed constants metas)) (scoped ls (closed constants metas)) (under (length ls) (instant given))
  keeps_given = typed_scoped (closed constants metas) (closed constants metas) given ((instant_is_environment (closed constants metas)).0 (closed constants metas) given given_typed)

  composed_under : (ls : Locals) → Composed (scoped ls (closed constants metas)) (under (length ls) (instant given)) (under (length ls) (instant t)) (under (length ls) (instant after))
  composed_under = composed_scoped (closed constants metas) given t after ((instant_is_environment (closed constants metas)).1 given t after given_composed)

  joined_under : (ls : Locals) → JoinedEnvironment (scoped ls (closed constants metas)) (under (length ls) (instant after)) (under (length ls) (instant t))
  joined_under = joined_scoped (closed constants metas) after t (joined_instances (closed constants metas) after t after_joined)

  -- An instance of a tree into which solutions were put is joined with the instance of the tree.
  pub put_in : (ls : Locals) (o x y z : PlainObject) (a : SimpleType) → SimplyTyped (scoped ls (closed constants metas)) o a → Instantiated (length ls) given o x → Instantiated (length ls) t o y → Instantiated (length ls) t x z → Joined y z
  put_in ls o x y z a p i k l = joined_is_equivalence.1 z y
      ((respects_all no_families (scoped ls (closed constants metas)) (scoped ls (over constants parameters)) (under (length ls) (instant after)) (under (length ls) (instant t))
      (keeps_under constants metas parameters after after_instantiates ls) (keeps_under constants metas parameters t f ls) (joined_under ls)).object o o z y a p stop
      ((composition no_families (scoped ls (closed constants metas)) (scoped ls (closed constants metas)) (scoped ls (over constants parameters)) (under (length ls) (instant given)) (under (length ls) (instant t)) (under (length ls) (instant after))
      (keeps_given ls) (keeps_under constants metas parameters t f ls) (composed_under ls)).object o x z a p i l) k)

  -- it stays typed
  pub put_in_typed : (ls : Locals) (o x : PlainObject) (a : SimpleType) → SimplyTyped (scoped ls (closed constants metas)) o a → Instantiated (length ls) given o x → SimplyTyped (scoped ls (closed constants metas)) x a
  put_in_typed ls o x a p i = (result_is_typed true no_families (scoped ls (closed constants metas)) (scoped ls (closed constants metas)) (under (length ls) (instant given)) (keeps_given ls)).object o x a p i

-- An equation into which solutions were put follows as the equation does.
pub of_given : PutInFollows
of_given constants p typed ls o u x y a q i k c parameters t s = let (v, w, g, h, j) = c parameters t s in
    let (v', g', _) = instance constants p.metas parameters t s.0 ls x a (put_in_typed constants p.metas parameters p.given t s.0 s.1 typed.1 ls o x a q.0 i) in
    let (w', h', _) = instance constants p.metas parameters t s.0 ls y a (put_in_typed constants p.metas parameters p.given t s.0 s.1 typed.1 ls u y a q.1 k) in (
      v',
      w',
      g',
      h',
      trail (joined_is_equivalence.1 v v' (put_in constants p.metas parameters p.given t s.0 s.1 typed.1 ls o x v v' a q.0 i g g'))
          (trail j (put_in constants p.metas parameters p.given t s.0 s.1 typed.1 ls u y w w' a q.1 k h h')),
    )
