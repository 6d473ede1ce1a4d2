-- Two calls of unification in turn are as one.
use Rattle.std.specs.Prelude.{◌≡◌, List, [], ◌∷◌, ◌++◌, length, refl}
use Rattle.std.proofs.Common.{ap, subst}
use Rattle.std.specs.List.{slice_get}
use Rattle.clf_syntax.specs.Tree.{PlainObject}
use Rattle.clf_syntax.specs.TypeTree.{SimpleType}
use Rattle.clf_syntax.specs.Simple.{SimplyTyped}
use Rattle.hered_subst.specs.Substitution.{under}
use Rattle.subst_laws.specs.Environments.{Instantiation, instant, ComposedInstantiation}
use Rattle.subst_laws.proofs.Environs.{instant_is_environment}
use Rattle.subst_laws.proofs.Results.{composition}
use Rattle.store_laws.specs.Additions.{Addition, given}
use Rattle.store_laws.proofs.Closing.{no_families}
use Rattle.pattern_laws.specs.Instantiations.{Types, closed, Instantiated}
use Rattle.pattern_laws.specs.Equations.{Locals, scoped, Equation, TypedEquations}
use Rattle.pattern_laws.proofs.Instances.{typed_scoped, composed_scoped}
use Rattle.unify_laws.specs.Problems.{Grows, Stays, WellTyped}
use Rattle.unify_laws.proofs.Preserved.{equations_more}
use Rattle.reach_laws.specs.Rest.{IsAssignment, EachUnder, Rest}
use Rattle.reach_laws.specs.Unified.{EndsWith}
use Rattle.reach_laws.proofs.PartsUnder.{some_result}
use Rattle.reach_laws.proofs.Rests.{typed_under, put_in_types}
use Rattle.reach_laws.proofs.Tight.{tight}
use Rattle.answer_laws.proofs.InTurn.{traced_in_turn}
use Rattle.solver_laws.specs.Solving.{problem_of}
use Rattle.solver_laws.proofs.Grown.{gives_grown}
use Rattle.solver_laws.proofs.Stores.{types_in, whole}
use Rattle.store_laws.proofs.Closing.{gives_typed}
use Rattle.store_laws.proofs.Stores.{store_is_cut}
use Rattle.rest_laws.specs.Together.{EndsTogether}
use Rattle.rest_laws.specs.Laws.{CallsInTurn}
use Rattle.rest_laws.proofs.Growing.{rest_of_rest}
use Rattle.rest_laws.proofs.Absorbing.{types_grow, later_absorbs}

-- equations after an assignment, in two lists
each_split : (s : Instantiation) (es ds us : List Equation) → EachUnder s (es ++ ds) us → (vs ws : List Equation) × (us ≡ vs ++ ws) × EachUnder s es vs × EachUnder s ds ws
each_split s [] ds us u = ([], us, refl, tt, u)
each_split s (e ∷ es) ds [] u = absurd u
each_split s (e ∷ es) ds (d ∷ us) u = let (vs, ws, h, v, w) = each_split s es ds us u.1 in (d ∷ vs, ws, ap (λ l. d ∷ l) h, (u.0, v), w)

each_both : (s : Instantiation) (es ds vs ws : List Equation) → EachUnder s es vs → EachUnder s ds ws → EachUnder s (es ++ ds) (vs ++ ws)
each_both s [] ds [] ws v w = w
each_both s [] ds (a ∷ vs) ws v w = absurd v
each_both s (e ∷ es) ds [] ws v w = absurd v
each_both s (e ∷ es) ds (a ∷ vs) ws v w = (v.0, each_both s es ds vs ws v.1 w)

module _ (constants metas : Types) (s t : Instantiation) (first : IsAssignment constants metas s) (second : IsAssignment constants metas t) (both : ComposedInstantiation (closed constants metas) s t t) where
  absorbed : (ls : Locals) (x y z : PlainObject) (a : SimpleType) → SimplyTyped (scoped ls (closed constants metas)) x a → Instantiated (length ls) s x y → Instantiated (length ls) t y z → Instantiated (length ls) t x z
  absorbed ls x y z a p i k = (composition no_families (scoped ls (closed constants metas)) (scoped ls (closed constants metas)) (scoped ls (closed constants metas)) (under (length ls) (instant s)) (under (length ls) (instant t)) (under (length ls) (instant t))
      (typed_scoped (closed constants metas) (closed constants metas) s ((instant_is_environment (closed constants metas)).0 (closed constants metas) s first) ls)
      (typed_scoped (closed constants metas) (closed constants metas) t ((instant_is_environment (closed constants metas)).0 (closed constants metas) t second) ls)
      (composed_scoped (closed constants metas) s t t ((instant_is_environment (closed constants metas)).1 s t t both) ls)).object x y z a p i k

  -- the equations after s, and after t, are the equations after t
  each_again : (es ds : List Equation) → TypedEquations constants metas es → TypedEquations constants metas ds → EachUnder s es ds → (us : List Equation) × EachUnder t ds us × EachUnder t es us
  each_again [] [] p q u = ([], tt, tt)
  each_again [] (d ∷ ds) p q u = absurd u
  each_again (e ∷ es) [] p q u = absurd u
  each_again (e ∷ es) (d ∷ ds) p q u = let (x, ix, _) = some_result constants metas t second d.locals d.left d.type q.0.0 in let (y, iy, _) = some_result constants metas t second d.locals d.right d.type q.0.1 in
      let (us, v, w) = each_again es ds p.1 q.1 u.1 in (
        record { locals = d.locals; left = x; right = y; type = d.type } ∷ us,
        (record { locals = refl; type = refl; left = ix; right = iy }, v),
        (
          record {
            locals = u.0.locals;
            type = u.0.type;
            left = absorbed e.locals e.left d.left x e.type p.0.0 u.0.left (subst (λ ls. Instantiated (length ls) t d.left x) u.0.locals ix);
            right = absorbed e.locals e.right d.right y e.type p.0.1 u.0.right (subst (λ ls. Instantiated (length ls) t d.right y) u.0.locals iy);
          },
          w,
        ),
      )

pub calls_in_turn : CallsInTurn
calls_in_turn constants zs first second es left others final ready later one two = together one.ends two.ends
  where
    middle : List Addition
    middle = zs ++ first

    now : List Addition
    now = middle ++ second

    grows : Grows (types_in middle) (types_in now)
    grows = types_grow middle second

    well_typed : WellTyped (slice_get constants) (problem_of zs es)
    well_typed = (ready.typed, (whole constants zs ready.store).given_types, ready.final)

    typed_middle : TypedEquations (slice_get constants) (types_in middle) es
    typed_middle = equations_more (slice_get constants) (types_in zs) (types_in middle) (types_grow zs first) es ready.typed

    stays : Stays (given zs) (given now)
    stays m o e = two.adds.stays m o (one.adds.stays m o e)

    together : (s : Instantiation) × (ds : List Equation) × EndsWith (slice_get constants) (problem_of zs es) (problem_of middle es) left s ds
        → (t : Instantiation) × (ls : List Equation) × EndsWith (slice_get constants) (problem_of middle (left ++ others)) (problem_of now (left ++ others)) final t ls
        → (t : Instantiation) × (us : List Equation) × EndsTogether (slice_get constants) (problem_of zs es) (problem_of now (left ++ others)) (es ++ others) final t us
    together (s, ds, a) (t, ls, b) = of (each_again (slice_get constants) (types_in now) s t assigns b.put_in.assigns
        (later_absorbs constants middle second (left ++ others) later s t a.put_in b.put_in) es ds
        (equations_more (slice_get constants) (types_in middle) (types_in now) grows es typed_middle)
        (equations_more (slice_get constants) (types_in middle) (types_in now) grows ds typed_ds) a.under) (each_split t left others ls b.under)
      where
        typed_ds : TypedEquations (slice_get constants) (types_in middle) ds
        typed_ds = typed_under (slice_get constants) (types_in middle) s a.put_in.assigns es ds typed_middle a.under

        assigns : IsAssignment (slice_get constants) (types_in now) s
        assigns = gives_typed (closed (slice_get constants) (types_in now)) s (gives_grown (slice_get constants) (types_in middle) (types_in now) grows s
            (put_in_types (slice_get constants) (types_in middle) (given middle) s a.put_in (whole constants middle (store_is_cut constants middle second later.store)).given_types))

        of : (us : List Equation) × EachUnder t ds us × EachUnder t es us → (vs ws : List Equation) × (ls ≡ vs ++ ws) × EachUnder t left vs × EachUnder t others ws
            → (t : Instantiation) × (us : List Equation) × EndsTogether (slice_get constants) (problem_of zs es) (problem_of now (left ++ others)) (es ++ others) final t us
        of (us, u, h) (vs, ws, e, v, w) = (
          t,
          us ++ ws,
          record {
            put_in = b.put_in;
            under = each_both t es others us ws h w;
            rest = rest_of_rest (slice_get constants) (types_in middle) (types_in now) grows t b.put_in.assigns ds us left vs others ws final typed_ds a.rest u v w (subst (λ l. Rest (slice_get constants) (types_in now) l final) e b.rest);
            tight = (λ list holds. tight (slice_get constants) (problem_of zs es) (problem_of now (left ++ others)) well_typed stays
                (traced_in_turn (types_in zs) (types_in middle) (types_in now) (given middle) (given now) grows two.adds.stays one.traced two.traced)
                t b.put_in.put_in b.put_in.assigns two.adds.typed list holds);
          },
        )
