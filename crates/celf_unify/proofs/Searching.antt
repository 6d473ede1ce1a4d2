-- The loop that looks at one equation after another, with all solutions put in.
use Rattle.std.specs.Prelude.{◌≡◌, List, [], ◌∷◌, ◌++◌}
use Rattle.std.proofs.Common.{sym, subst, inl, inr, ⊎_elim}
use Rattle.std.specs.List.{slice_get}
use Rattle.clf_syntax.specs.TypeTree.{SimpleType}
use Rattle.subst_laws.specs.Environments.{Instantiation}
use Rattle.store_laws.specs.Additions.{Addition, meta_types}
use Rattle.pattern_laws.specs.Instantiations.{Types}
use Rattle.pattern_laws.specs.Equations.{Equation, Listed, listed_here, TypedEquation}
use Rattle.reach_laws.specs.Rest.{ComesDown, down_listed, EquationUnder, Rest}
use Rattle.reach_laws.proofs.Down.{down_further, listed_more, listed_behind}
use Rattle.reach_laws.proofs.PartsUnder.{part_typed}
use Rattle.reach_laws.proofs.Rests.{typed_listed}
use Rattle.answer_laws.proofs.InTurn.{listed_cases, one_under}
use Rattle.flat_systems.specs.Systems.{FlatSystem}
use Rattle.flat_systems.proofs.Wholes.{flat_is_put_in}
use Rattle.flat_systems.proofs.Parts.{flat_parts}
use Rattle.flat_systems.proofs.Left.{nothing_flat_is_left}
use Rattle.solver_laws.specs.Solving.{Ready, Open}
use Rattle.solver_laws.proofs.Allowed.{put_in_is_open}
use Rattle.metavars.specs.Stored.{Stored, constants, additions}
use Rattle.celf_unify.specs.declared.answer.Clash.{Clash}
use Rattle.celf_unify.specs.declared.step.Step.{Step}
use Rattle.celf_unify.specs.declared.gather.Gathered.TheVariants as gathered
use Rattle.celf_unify.specs.Steps.{IsPutIn}
use Rattle.celf_unify.specs.Gathered.{IsTyped, PartIn, ClashIn, StepIn}
use Rattle.celf_unify.specs.Passes.{IsReady, MayAdvance}
use Rattle.celf_unify.specs.Searched.{PartAfter, LeftAfter, ClashAfter, StepAfter, SoFar}
use Rattle.celf_unify.proofs.Stepping.{the_one, typed_open, parts_open, each_listed}

none : {d : Equation} → Listed d [] → ⊥
none k = elim k [ ]

-- ---- what is found after an assignment v

module _ (constants metas : Types) (v : Instantiation) (ws : List Equation) where
  pub so_far_start : (work left : List Equation) → work ≡ ws → left ≡ [] → SoFar constants metas v ws work left
  so_far_start work left f g = record {
    down = (λ e d l u. inl (subst (Listed e) (sym f) l));
    met = (λ e l. absurd (none (subst (Listed e) g l)));
    over = (λ e l. absurd (none (subst (Listed e) g l)));
  }

  pub so_far_left : (work left : List Equation) → work ≡ [] → SoFar constants metas v ws work left → LeftAfter constants metas v ws left
  so_far_left work left f s = record {
    down = (λ e d l u. ⊎_elim (λ k. absurd (none (subst (Listed e) f k))) (λ c. c) (s.down e d l u));
    met = s.met;
    over = s.over;
  }

  -- The last equation of a stack is taken, which v makes d.
  module _ (all work : List Equation) (e d : Equation) (popped_one : all ≡ work ++ e ∷ []) (inside : (x : Equation) → Listed x all → Listed x ws) (under : EquationUnder v e d) where
    below : (x : Equation) → Listed x work → Listed x ws
    below x l = inside x (subst (Listed x) (sym popped_one) (listed_more x work (e ∷ []) l))

    here : Listed e ws
    here = inside e (subst (Listed e) (sym popped_one) (listed_behind e work (e ∷ []) listed_here))

    part_after : (x : Equation) → PartIn constants metas (d ∷ []) x → PartAfter constants metas v ws x
    part_after x p = let (c, l, q) = p in record { equation = e; after = c; listed = here; is_under = subst (λ y. EquationUnder v e y) (the_one l) under; is_part = q }

    pub clash_after : (c : Clash) → ClashIn constants metas (d ∷ []) c → ClashAfter constants metas v ws c
    clash_after c h = record { part = h.part; is_part = part_after h.part h.is_part; clashes = h.clashes; under = h.under; left = h.left; right = h.right }

    pub step_after : (rest now : List Equation) (step : Step) → now ≡ work ++ rest → StepIn constants metas (d ∷ []) rest step → StepAfter constants metas v ws now step
    step_after rest now step f h = record {
      parts = (λ x l. ⊎_elim (λ k. inl (below x k)) (λ k. inr (part_after x (h.parts x k))) (listed_cases work rest x (subst (Listed x) f l)));
      equation = h.equation;
      is_part = part_after h.equation (h.parts h.equation h.listed);
      step_of = h.step_of;
    }

    pub so_far_next : (left more now : List Equation) → now ≡ left ++ more → Rest constants metas (d ∷ []) more → SoFar constants metas v ws all left → SoFar constants metas v ws work now
    so_far_next left more now f rest s = record {
      down = (λ x y l u. ⊎_elim (λ k. ⊎_elim (λ j. inl j) (λ j. inr (came_down x y (the_one j) u)) (listed_cases work (e ∷ []) x (subst (Listed x) popped_one k)))
          (λ c. inr (down_further constants metas left now (λ z j. down_listed (subst (Listed z) (sym f) (listed_more z left more j))) c)) (s.down x y l u));
      met = (λ x l. ⊎_elim (λ k. s.met x k) (λ k. part_after x (rest.met x k)) (listed_cases left more x (subst (Listed x) f l)));
      over = (λ x l. ⊎_elim (λ k. s.over x k) (λ k. record { stuck = rest.stuck x k; unjoined = rest.unjoined x k }) (listed_cases left more x (subst (Listed x) f l)));
    }
      where
        came_down : (x y : Equation) → e ≡ x → EquationUnder v x y → ComesDown constants metas now y
        came_down x y h u = subst (ComesDown constants metas now) (one_under v e d y under (subst (λ z. EquationUnder v z y) (sym h) u))
            (down_further constants metas more now (λ z j. down_listed (subst (Listed z) (sym f) (listed_behind z left more j))) (rest.down d listed_here))

-- ---- what may be done then

module _ (cs : List SimpleType) (zs : List Addition) (ws : List Equation) (ready : Ready cs zs ws) (all work : List Equation) (e : Equation)
    (popped_one : all ≡ work ++ e ∷ []) (inside : (x : Equation) → Listed x all → Listed x ws) where
  pub below_here : (x : Equation) → Listed x work → Listed x ws
  below_here x l = inside x (subst (Listed x) (sym popped_one) (listed_more x work (e ∷ []) l))

  here_too : Listed e ws
  here_too = inside e (subst (Listed e) (sym popped_one) (listed_behind e work (e ∷ []) listed_here))

  typed_at : (x : Equation) → Listed x ws → TypedEquation (slice_get cs) (slice_get (meta_types zs)) x
  typed_at x l = typed_listed (slice_get cs) (slice_get (meta_types zs)) x ws l ready.typed

  pub ready_one : Ready cs zs (e ∷ [])
  ready_one = record { store = ready.store; final = ready.final; typed = (typed_at e here_too, tt) }

  module _ (d : Equation) (put : IsPutIn zs e d) where
    open_one : Open cs zs (d ∷ [])
    open_one = put_in_is_open cs zs (e ∷ []) ready_one (d ∷ []) (λ s p c. (put s p c, tt))

    ready_put : Ready cs zs (d ∷ [])
    ready_put = record { store = ready.store; final = ready.final; typed = typed_open cs zs (d ∷ []) open_one }

    part_typed_in : (x : Equation) → PartIn (slice_get cs) (slice_get (meta_types zs)) (d ∷ []) x → TypedEquation (slice_get cs) (slice_get (meta_types zs)) x
    part_typed_in x p = let (c, l, q) = p in part_typed (slice_get cs) (slice_get (meta_types zs)) q (typed_listed (slice_get cs) (slice_get (meta_types zs)) c (d ∷ []) l ready_put.typed)

    pub may_advance : (rest now : List Equation) (step : Step) → now ≡ work ++ rest → StepIn (slice_get cs) (slice_get (meta_types zs)) (d ∷ []) rest step → MayAdvance cs zs step now
    may_advance rest now step f h = record {
      ready = record {
        store = ready.store;
        final = ready.final;
        typed = each_listed (slice_get cs) (slice_get (meta_types zs)) now
            (λ x l. ⊎_elim (λ k. typed_at x (below_here x k)) (λ k. part_typed_in x (h.parts x k)) (listed_cases work rest x (subst (Listed x) f l)));
      };
      equation = h.equation;
      listed = subst (Listed h.equation) (sym f) (listed_behind h.equation work rest h.listed);
      is_open = (parts_open cs zs (d ∷ []) (h.equation ∷ []) open_one (λ x l. subst (PartIn (slice_get cs) (slice_get (meta_types zs)) (d ∷ [])) (the_one l) (h.parts h.equation h.listed))).0;
      step_of = h.step_of;
    }

    -- ---- flat equations

    module _ (flat : FlatSystem cs zs ws) where
      flat_one : FlatSystem cs zs (e ∷ [])
      flat_one = record { store = flat.store; equations = (λ x l. flat.equations x (subst (λ y. Listed y ws) (the_one l) here_too)) }

      flat_put : FlatSystem cs zs (d ∷ [])
      flat_put = flat_is_put_in cs zs (e ∷ []) ready_one flat_one (d ∷ []) (λ s p c. (put s p c, tt))

      pub flat_left : (more : List Equation) → Rest (slice_get cs) (slice_get (meta_types zs)) (d ∷ []) more → more ≡ []
      flat_left more h = nothing_flat_is_left cs zs (d ∷ []) more ready_put flat_put h

      pub flat_step : (rest now : List Equation) (step : Step) → now ≡ work ++ rest → StepIn (slice_get cs) (slice_get (meta_types zs)) (d ∷ []) rest step → FlatSystem cs zs now
      flat_step rest now step f h = record {
        store = flat.store;
        equations = (λ x l. ⊎_elim (λ k. flat.equations x (below_here x k)) (λ k. parts.equations x k) (listed_cases work rest x (subst (Listed x) f l)));
      }
        where
          parts : FlatSystem cs zs rest
          parts = flat_parts cs zs (d ∷ []) rest ready_put flat_put h.parts

-- What is put into a ready equation is typed.
pub typed_once : (s : Stored) (e d : Equation) → IsReady s (e ∷ []) → IsPutIn (additions s) e d → IsTyped s (d ∷ [])
typed_once s e d ready put = record {
  typed = typed_open (constants s) (additions s) (d ∷ []) (put_in_is_open (constants s) (additions s) (e ∷ []) ready (d ∷ []) (λ v p c. (put v p c, tt)));
  final = ready.final;
}
