-- With all solutions put in, what came from a side is made of one.
use Rattle.std.specs.Prelude.{ℕ, true, ◌≡◌, ◌⊎◌, List, length, Option, Some, None, refl}
use Rattle.std.proofs.Common.{ap, sym, subst, ◌∙◌, inl, inr, ⊎_elim}
use Rattle.clf_syntax.specs.Tree.{PlainObject}
use Rattle.clf_syntax.specs.TypeTree.{SimpleType}
use Rattle.clf_syntax.specs.Simple.{SimplyTyped}
use Rattle.hered_subst.specs.Substitution.{under, Substituted}
use Rattle.hered_subst.proofs.Determined.{determined}
use Rattle.hered_subst.proofs.Renamed.{renamed}
use Rattle.subst_laws.specs.Environments.{Instantiation, instant, ComposedInstantiation}
use Rattle.subst_laws.proofs.Environs.{instant_is_environment}
use Rattle.subst_laws.proofs.Results.{composition}
use Rattle.store_laws.proofs.Closing.{no_families}
use Rattle.pattern_laws.specs.Instantiations.{Types, closed, Instantiated}
use Rattle.pattern_laws.specs.Equations.{Locals, scoped, Equation, TypedEquation, TypedEquations}
use Rattle.pattern_laws.specs.Patterns.{Place, lams, inverse, inverted, local_at}
use Rattle.pattern_laws.proofs.Spines.{fits_instant, through_lams}
use Rattle.pattern_laws.proofs.Inverse.{Within, inverse_past}
use Rattle.pattern_laws.proofs.Instances.{typed_scoped, composed_scoped}
use Rattle.answer_laws.specs.Laws.{SidePutIn, AbsorbedAgain}
use Rattle.reach_laws.specs.Rest.{PartOf, EquationUnder, IsAssignment}
use Rattle.reach_laws.specs.Sources.{FromSide, MadeOfSide}
use Rattle.reach_laws.proofs.PartsUnder.{part_typed, part_under, some_result, stays_typed}
use Rattle.reach_laws.proofs.Rests.{typed_listed}

-- what becomes of an inverted side
inverted_under : (s : Instantiation) (n : ℕ) (ps : List Place) → Within n ps → (x y : PlainObject) → Instantiated n s x y → Substituted (instant s) (inverted n ps x) (inverted n ps y)
inverted_under s n ps w x y i = through_lams s ps (renamed (inverse n ps) (inverse n ps) (under (length ps) (instant s)) (fits_instant s n (length ps) (inverse n ps) (inverse_past n ps w)) i)

module _ (constants metas : Types) (es : List Equation) (s : Instantiation) (assigns : IsAssignment constants metas s) (typed : TypedEquations constants metas es) (o : PlainObject) (f : FromSide constants metas es s o) where
  typed_equation : TypedEquation constants metas f.equation
  typed_equation = typed_listed constants metas f.equation es f.listed typed

  -- in two turns
  absorbed : (ls : Locals) (x y z : PlainObject) (a : SimpleType) → SimplyTyped (scoped ls (closed constants metas)) x a → Instantiated (length ls) f.earlier x y → Instantiated (length ls) s y z → Instantiated (length ls) s x z
  absorbed ls x y z a p i k = (composition no_families (scoped ls (closed constants metas)) (scoped ls (closed constants metas)) (scoped ls (closed constants metas)) (under (length ls) (instant f.earlier)) (under (length ls) (instant s)) (under (length ls) (instant s))
      (typed_scoped (closed constants metas) (closed constants metas) f.earlier ((instant_is_environment (closed constants metas)).0 (closed constants metas) f.earlier f.assigns) ls)
      (typed_scoped (closed constants metas) (closed constants metas) s ((instant_is_environment (closed constants metas)).0 (closed constants metas) s assigns) ls)
      (composed_scoped (closed constants metas) f.earlier s s ((instant_is_environment (closed constants metas)).1 f.earlier s s f.absorbed) ls)).object x y z a p i k

  after_typed : (x y : PlainObject) → SimplyTyped (scoped f.equation.locals (closed constants metas)) x f.equation.type → Instantiated (length f.equation.locals) f.earlier x y → SimplyTyped (scoped f.after.locals (closed constants metas)) y f.after.type
  after_typed x y p i = subst (λ ls. SimplyTyped (scoped ls (closed constants metas)) y f.after.type) (sym f.is_under.locals)
      (subst (λ a. SimplyTyped (scoped f.equation.locals (closed constants metas)) y a) (sym f.is_under.type) (stays_typed constants metas f.earlier f.assigns f.equation.locals x y f.equation.type p i))

  typed_after : TypedEquation constants metas f.after
  typed_after = (after_typed f.equation.left f.after.left typed_equation.0 f.is_under.left, after_typed f.equation.right f.after.right typed_equation.1 f.is_under.right)

  side_under : (x y z : PlainObject) → SimplyTyped (scoped f.equation.locals (closed constants metas)) x f.equation.type → Instantiated (length f.equation.locals) f.earlier x y → Instantiated (length f.after.locals) s y z → Instantiated (length f.equation.locals) s x z
  side_under x y z p i k = absorbed f.equation.locals x y z f.equation.type p i (subst (λ ls. Instantiated (length ls) s y z) f.is_under.locals k)

  pub made_of_side : (x : PlainObject) → Substituted (instant s) o x → MadeOfSide constants metas es s x
  made_of_side x i = of (some_result constants metas s assigns f.after.locals f.after.left f.after.type typed_after.0) (some_result constants metas s assigns f.after.locals f.after.right f.after.type typed_after.1)
      (some_result constants metas s assigns f.part.locals f.part.left f.part.type (part_typed constants metas f.is_part typed_after).0) (some_result constants metas s assigns f.part.locals f.part.right f.part.type (part_typed constants metas f.is_part typed_after).1)
    where
      of : ((v : PlainObject) × Instantiated (length f.after.locals) s f.after.left v × SimplyTyped (scoped f.after.locals (closed constants metas)) v f.after.type)
          → ((w : PlainObject) × Instantiated (length f.after.locals) s f.after.right w × SimplyTyped (scoped f.after.locals (closed constants metas)) w f.after.type)
          → ((y : PlainObject) × Instantiated (length f.part.locals) s f.part.left y × SimplyTyped (scoped f.part.locals (closed constants metas)) y f.part.type)
          → ((z : PlainObject) × Instantiated (length f.part.locals) s f.part.right z × SimplyTyped (scoped f.part.locals (closed constants metas)) z f.part.type)
          → MadeOfSide constants metas es s x
      of (v, iv, tv) (w, iw, tw) (y, iy, ty) (z, iz, tz) = record {
        equation = f.equation;
        after = record { locals = f.after.locals; left = v; right = w; type = f.after.type };
        part = record { locals = f.part.locals; left = y; right = z; type = f.part.type };
        listed = f.listed;
        is_under = record {
          locals = f.is_under.locals;
          type = f.is_under.type;
          left = side_under f.equation.left f.after.left v typed_equation.0 f.is_under.left iv;
          right = side_under f.equation.right f.after.right w typed_equation.1 f.is_under.right iw;
        };
        is_part = part_under constants metas s assigns f.is_part typed_after v w iv iw y z iy iz;
        places = f.places;
        made = ⊎_elim
            (λ e. inl (determined i (subst (λ n. Substituted (instant s) n (inverted (length f.part.locals) f.places y)) (sym e) (inverted_under s (length f.part.locals) f.places f.within f.part.left y iy))))
            (λ e. inr (determined i (subst (λ n. Substituted (instant s) n (inverted (length f.part.locals) f.places z)) (sym e) (inverted_under s (length f.part.locals) f.places f.within f.part.right z iz)))) f.solution;
      }

pub side_put_in : SidePutIn
side_put_in constants metas es s assigns typed o x f i = made_of_side constants metas es s assigns typed o f x i

no_object : {o : Option PlainObject} {x : PlainObject} → o ≡ None → o ≡ Some x → ⊥
no_object e f = cc

one_object : {o : Option PlainObject} {x y : PlainObject} → o ≡ Some x → o ≡ Some y → x ≡ y
one_object e f = cc

pub absorbed_again : AbsorbedAgain
absorbed_again constants metas earlier s only next first second third absorbed composed m a e = ⊎_elim
    (λ u. inl (u.0, refl))
    (λ u. ⊎_elim
    (λ v. absurd (no_object v.0 u.3))
    (λ v. inr (u.0, v.1, u.2, v.3, both u.0 u.1 v.1 (typed_first u.0 u.2) u.4 (subst (λ n. Substituted (instant only) n v.1) (one_object v.2 u.3) v.4)))
    (composed m a e))
    (absorbed m a e)
  where
    typed_first : (n : PlainObject) → earlier m ≡ Some n → SimplyTyped (closed constants metas) n a
    typed_first n g = ⊎_elim (λ u. absurd (no_object u.0 g)) (λ u. subst (λ x. SimplyTyped (closed constants metas) x a) (one_object u.1 g) u.2) (first.2 m a e)

    both : (n x y : PlainObject) → SimplyTyped (closed constants metas) n a → Substituted (instant s) n x → Substituted (instant only) x y → Substituted (instant next) n y
    both n x y p i k = (composition no_families (closed constants metas) (closed constants metas) (closed constants metas) (instant s) (instant only) (instant next)
        ((instant_is_environment (closed constants metas)).0 (closed constants metas) s second) ((instant_is_environment (closed constants metas)).0 (closed constants metas) only third)
        ((instant_is_environment (closed constants metas)).1 s only next composed)).object n x y a p i k
