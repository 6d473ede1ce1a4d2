-- An instantiation solves equations exactly where it solves what is left of them.
use Rattle.std.specs.Prelude.{ℕ, ◌≡◌, ◌⊎◌, List, [], ◌∷◌, length, Option, Some, None, refl}
use Rattle.std.proofs.Common.{sym, subst, inl, inr, ⊎_elim}
use Rattle.clf_syntax.specs.Tree.{PlainObject}
use Rattle.clf_syntax.specs.TypeTree.{SimpleType, base, arrow, simple_with}
use Rattle.clf_syntax.specs.Simple.{SimplyTyped}
use Rattle.trace_equal.proofs.Closed.{trail}
use Rattle.trace_equal.proofs.Joined.{joined_is_equivalence}
use Rattle.subst_laws.specs.Environments.{Instantiation, instant}
use Rattle.pattern_laws.specs.Instantiations.{Types, closed, Instantiates, Agrees, Instantiated}
use Rattle.pattern_laws.specs.Equations.{scoped, Equation, Solves, SolvesEach, TypedEquation, TypedEquations, Listed, listed_here, listed_later}
use Rattle.pattern_laws.proofs.Instances.{instance}
use Rattle.unify_laws.proofs.Steps.{lam_part, pair_parts, neutral_part, neutral_whole, joined_solved}
use Rattle.unify_laws.proofs.Consequences.{listed_solved, put_in, put_in_typed}
use Rattle.reach_laws.specs.Rest.{IsAssignment, ComesDown, down_joined, down_listed, down_lam, down_pair, down_neutral, PartOf, part_itself, part_body, part_left, part_right, part_argument, EquationUnder, EachUnder}
use Rattle.reach_laws.specs.Unified.{IsPutIn, EndsWith}
use Rattle.reach_laws.specs.Laws.{RestSolves, LeftKeeps}
use Rattle.reach_laws.proofs.PartsUnder.{part_typed, stays_typed}

pub typed_listed : (constants metas : Types) (e : Equation) (es : List Equation) → Listed e es → TypedEquations constants metas es → TypedEquation constants metas e
typed_listed constants metas e es listed_here p = p.0
typed_listed constants metas e es (listed_later l) p = typed_listed constants metas e _ l p.1

solves_listed : (t : Instantiation) (es : List Equation) → ((e : Equation) → Listed e es → Solves (instant t) e) → SolvesEach (instant t) es
solves_listed t [] f = tt
solves_listed t (e ∷ es) f = (f e listed_here, solves_listed t es (λ d l. f d (listed_later l)))

-- What solves an equation solves its parts.
pub part_solved : (constants metas : Types) (t : Instantiation) {e d : Equation} → PartOf constants metas e d → Solves (instant t) e → Solves (instant t) d
part_solved constants metas t part_itself s = s
part_solved constants metas t (part_body {ls = ls} {m = m} {b = b} {c = c} {d = d} {a = a} p) s = (lam_part t ls d m b c (arrow m d a) a).0 (part_solved constants metas t p s)
part_solved constants metas t (part_left {ls = ls} {l = l} {k = k} {c = c} r s d p) h = ((pair_parts t ls l k r s (simple_with c d) c d).0 (part_solved constants metas t p h)).0
part_solved constants metas t (part_right {ls = ls} {r = r} {s = s} {d = d} l k c p) h = ((pair_parts t ls l k r s (simple_with c d) c d).0 (part_solved constants metas t p h)).1
part_solved constants metas t (part_argument {ls = ls} {o = o} {u = u} {c = c} r n f p h q) s = neutral_part t ls (scoped ls (closed constants metas)) r n (base f) h (part_solved constants metas t p s) o u c q

-- What solves all that is left solves what comes down to it.
pub down_solved : (constants metas parameters : Types) (t : Instantiation) → Instantiates constants metas parameters t → (left : List Equation) → ((d : Equation) → Listed d left → Solves (instant t) d)
    → {e : Equation} → ComesDown constants metas left e → TypedEquation constants metas e → Solves (instant t) e
down_solved constants metas parameters t i left f (down_joined {e = e} j) p = joined_solved constants metas parameters t i e p j
down_solved constants metas parameters t i left f (down_listed {e = e} l) p = f e l
down_solved constants metas parameters t i left f (down_lam {ls = ls} {m = m} {b = b} {c = c} {d = d} {a = a} h) p = (lam_part t ls d m b c (arrow m d a) a).1
    (down_solved constants metas parameters t i left f h (part_typed constants metas (part_body {ls = ls} {m = m} {b = b} {c = c} {d = d} {a = a} part_itself) p))
down_solved constants metas parameters t i left f (down_pair {ls = ls} {l = l} {k = k} {r = r} {s = s} {c = c} {d = d} h g) p = (pair_parts t ls l k r s (simple_with c d) c d).1
    (down_solved constants metas parameters t i left f h (part_typed constants metas (part_left {ls = ls} {l = l} {k = k} {c = c} r s d part_itself) p), down_solved constants metas parameters t i left f g (part_typed constants metas (part_right {ls = ls} {r = r} {s = s} {d = d} l k c part_itself) p))
down_solved constants metas parameters t i left f (down_neutral {ls = ls} {r = r} {n = n} {f = a} h g) p = neutral_whole t ls (scoped ls (closed constants metas)) r n (base a) h p.0.1
    (λ o u c q. down_solved constants metas parameters t i left f (g o u c q) (part_typed constants metas (part_argument {ls = ls} {o = o} {u = u} {c = c} r n a part_itself h q) p))

pub rest_solves : RestSolves
rest_solves constants metas parameters t i es left p r = (
  (λ s. solves_listed t left (λ e l. let (d, k, q) = r.met e l in part_solved constants metas t q (listed_solved t d es k s))),
  (λ s. solves_listed t es (λ e l. down_solved constants metas parameters t i left (λ d k. listed_solved t d left k s) (r.down e l) (typed_listed constants metas e es l p))),
)

module _ (constants metas parameters : Types) (s t : Instantiation) (i : Instantiates constants metas parameters t) (agrees : Agrees t s)
    (typed : (m : ℕ) (x : PlainObject) → s m ≡ Some x → (a : SimpleType) × (metas m ≡ Some a) × SimplyTyped (closed constants metas) x a) where
  -- An equation is solved exactly where it is solved with the solutions put in.
  under_solved : (e d : Equation) → TypedEquation constants metas e → EquationUnder s e d → (Solves (instant t) e → Solves (instant t) d) × (Solves (instant t) d → Solves (instant t) e)
  under_solved e d p u = (forth, back)
    where
      typed_left : SimplyTyped (scoped e.locals (closed constants metas)) d.left e.type
      typed_left = put_in_typed constants metas parameters s t i agrees typed e.locals e.left d.left e.type p.0 u.left

      typed_right : SimplyTyped (scoped e.locals (closed constants metas)) d.right e.type
      typed_right = put_in_typed constants metas parameters s t i agrees typed e.locals e.right d.right e.type p.1 u.right

      there : Equation
      there = record { locals = e.locals; left = d.left; right = d.right; type = e.type }

      forth : Solves (instant t) e → Solves (instant t) d
      forth h = let (v, w, g, k, j) = h in let (v', g', _) = instance constants metas parameters t i e.locals d.left e.type typed_left in let (w', k', _) = instance constants metas parameters t i e.locals d.right e.type typed_right in (
        v',
        w',
        subst (λ ls. Instantiated (length ls) t d.left v') (sym u.locals) g',
        subst (λ ls. Instantiated (length ls) t d.right w') (sym u.locals) k',
        trail (joined_is_equivalence.1 v v' (put_in constants metas parameters s t i agrees typed e.locals e.left d.left v v' e.type p.0 u.left g g'))
            (trail j (put_in constants metas parameters s t i agrees typed e.locals e.right d.right w w' e.type p.1 u.right k k')),
      )

      back : Solves (instant t) d → Solves (instant t) e
      back h = let (v', w', g', k', j) = h in let (v, g, _) = instance constants metas parameters t i e.locals e.left e.type p.0 in let (w, k, _) = instance constants metas parameters t i e.locals e.right e.type p.1 in (
        v,
        w,
        g,
        k,
        trail (put_in constants metas parameters s t i agrees typed e.locals e.left d.left v v' e.type p.0 u.left g (subst (λ ls. Instantiated (length ls) t d.left v') u.locals g'))
            (trail j (joined_is_equivalence.1 w w' (put_in constants metas parameters s t i agrees typed e.locals e.right d.right w w' e.type p.1 u.right k (subst (λ ls. Instantiated (length ls) t d.right w') u.locals k')))),
      )

  pub each_solved : (es ds : List Equation) → TypedEquations constants metas es → EachUnder s es ds → (SolvesEach (instant t) es → SolvesEach (instant t) ds) × (SolvesEach (instant t) ds → SolvesEach (instant t) es)
  each_solved [] [] p u = ((λ h. h), (λ h. h))
  each_solved [] (d ∷ ds) p u = absurd u
  each_solved (e ∷ es) [] p u = absurd u
  each_solved (e ∷ es) (d ∷ ds) p u = let (f, g) = under_solved e d p.0 u.0 in let (h, k) = each_solved es ds p.1 u.1 in ((λ s. (f s.0, h s.1)), (λ s. (g s.0, k s.1)))

no_solution : {o : Option PlainObject} {x : PlainObject} → o ≡ None → o ≡ Some x → ⊥
no_solution e f = cc

cases_of : (o : Option PlainObject) → (o ≡ None) ⊎ ((x : PlainObject) × (o ≡ Some x))
cases_of None = inl refl
cases_of (Some x) = inr (x, refl)

one_object : {o : Option PlainObject} {a b : PlainObject} → o ≡ Some a → o ≡ Some b → a ≡ b
one_object e f = cc

-- what is put in is typed
pub put_in_types : (constants metas : Types) (given s : Instantiation) → IsPutIn constants metas given s
    → ((m : ℕ) (o : PlainObject) → given m ≡ Some o → (a : SimpleType) × (metas m ≡ Some a) × SimplyTyped (closed constants metas) o a)
    → (m : ℕ) (x : PlainObject) → s m ≡ Some x → (a : SimpleType) × (metas m ≡ Some a) × SimplyTyped (closed constants metas) x a
put_in_types constants metas given s p typed m x e = ⊎_elim (λ g. absurd (no_solution (p.put_in.unsolved m g) e))
    (λ g. let (a, t, _) = typed m g.0 g.1 in ⊎_elim (λ u. absurd (no_solution u.0 e)) (λ u. (a, t, subst (λ o. SimplyTyped (closed constants metas) o a) (one_object u.1 e) u.2)) (p.assigns.2 m a t)) (cases_of (given m))

-- equations with solutions put in are typed
pub typed_under : (constants metas : Types) (s : Instantiation) → IsAssignment constants metas s → (es ds : List Equation) → TypedEquations constants metas es → EachUnder s es ds → TypedEquations constants metas ds
typed_under constants metas s f [] [] p u = tt
typed_under constants metas s f [] (d ∷ ds) p u = absurd u
typed_under constants metas s f (e ∷ es) [] p u = absurd u
typed_under constants metas s f (e ∷ es) (d ∷ ds) p u = ((at d.left (stays_typed constants metas s f e.locals e.left d.left e.type p.0.0 u.0.left), at d.right (stays_typed constants metas s f e.locals e.right d.right e.type p.0.1 u.0.right)), typed_under constants metas s f es ds p.1 u.1)
  where
    at : (x : PlainObject) → SimplyTyped (scoped e.locals (closed constants metas)) x e.type → SimplyTyped (scoped d.locals (closed constants metas)) x d.type
    at x q = subst (λ ls. SimplyTyped (scoped ls (closed constants metas)) x d.type) (sym u.0.locals) (subst (λ a. SimplyTyped (scoped e.locals (closed constants metas)) x a) (sym u.0.type) q)

-- The solutions with the equations left have exactly the solutions that were there.
pub left_keeps : LeftKeeps
left_keeps constants start now left u = let (s, es, e) = u.ends in (
  (λ parameters t h. let (v, g, k) = u.keeps.0 parameters t h in (v, g, (k.0, k.1, (solves s es e parameters v k.0 k.1).0 (subst (SolvesEach (instant v)) u.adds.same k.2)))),
  (λ parameters t h. u.keeps.1 parameters t (h.0, h.1, subst (SolvesEach (instant t)) (sym u.adds.same) ((solves s es e parameters t h.0 h.1).1 h.2))),
)
  where
    typed_start : TypedEquations constants now.metas start.equations
    typed_start = subst (TypedEquations constants now.metas) u.adds.same u.adds.typed.0

    solves : (s : Instantiation) (es : List Equation) → EndsWith constants start now left s es → (parameters : Types) (t : Instantiation) → Instantiates constants now.metas parameters t → Agrees t now.given
        → (SolvesEach (instant t) start.equations → SolvesEach (instant t) left) × (SolvesEach (instant t) left → SolvesEach (instant t) start.equations)
    solves s es e parameters t i agrees =
        let (f, g) = each_solved constants now.metas parameters s t i (e.put_in.instances parameters t i agrees) (put_in_types constants now.metas now.given s e.put_in u.adds.typed.1) start.equations es typed_start e.under in
        let (h, k) = rest_solves constants now.metas parameters t i es left (typed_under constants now.metas s e.put_in.assigns start.equations es typed_start e.under) e.rest in
        ((λ x. h (f x)), (λ x. g (k x)))
