-- A step that may be taken, and what it does for the work.
use Rattle.std.specs.Prelude.{ℕ, Bool, false, ◌≡◌, ◌<◌, List, [], ◌∷◌, length, map, Some, refl}
use Rattle.std.proofs.Common.{sym, subst, inl, inr, ⊎_elim}
use Rattle.std.specs.List.{slice_get}
use Rattle.clf_syntax.specs.Tree.{PlainObject}
use Rattle.clf_syntax.specs.TypeTree.{SimpleType}
use Rattle.clf_syntax.specs.Plain.{plain_obj}
use Rattle.subst_laws.specs.Environments.{Instantiation}
use Rattle.store_laws.specs.Mentions.{mentions}
use Rattle.store_laws.specs.Additions.{Addition, meta_types, given}
use Rattle.store_laws.specs.PutIn.{PutIn, IsClosed}
use Rattle.pattern_laws.specs.Instantiations.{Types}
use Rattle.pattern_laws.specs.Equations.{Equation, Listed, TypedEquation, TypedEquations, listed_here, listed_later}
use Rattle.pattern_laws.specs.Patterns.{Place}
use Rattle.reach_laws.specs.Rest.{PartOf, part_itself}
use Rattle.reach_laws.specs.Unified.{Clashed}
use Rattle.reach_laws.proofs.PartsUnder.{part_typed}
use Rattle.reach_laws.proofs.Rests.{typed_listed}
use Rattle.flat_systems.specs.Systems.{FlatSystem}
use Rattle.flat_systems.proofs.Parts.{flat_grows}
use Rattle.flat_systems.proofs.Steps.{flat_assigns, flat_narrows}
use Rattle.solver_laws.specs.Solving.{InHand, problem_of, store_weight, unsolved_types, Ready, Open, Working}
use Rattle.solver_laws.specs.Steps.{AssignsEither, NarrowsEither, assigned_more, narrowed_more}
use Rattle.solver_laws.specs.Laws.{MayAssign, MayNarrow}
use Rattle.solver_laws.proofs.Open.{open_typed, open_silent}
use Rattle.solver_laws.proofs.StepFacts.{closed_equation}
use Rattle.solver_laws.proofs.Hands.{part_silent, part_in_hand}
use Rattle.solver_laws.proofs.Allowed.{assign_is_allowed, narrow_is_allowed}
use Rattle.solver_laws.proofs.Works.{solving_closed, assigned_grows, narrowed_grows, work_takes, work_assigns, work_narrows, work_reduces, work_clashes}
use Rattle.celf_constraints.specs.Equated.{plain_equation}
use Rattle.metavars.specs.Stored.{Stored, constants, additions}
use Rattle.celf_unify.specs.declared.answer.Clash.{Clash}
use Rattle.celf_unify.specs.declared.step.Step.{Step}
use Rattle.celf_unify.specs.declared.step.Step.TheVariants.{Assign, Narrow}
use Rattle.celf_unify.specs.declared.gather.Gathered.{Gathered}
use Rattle.celf_unify.specs.declared.gather.Gathered.TheVariants as gathered
use Rattle.celf_unify.specs.Steps.{MayTake, Takes}
use Rattle.celf_unify.specs.Gathered.{PartIn, StepOf}
use Rattle.celf_unify.specs.Passes.{MayAdvance, MayRun, ClashedAt, StepStands, WorkStands, FlatStands, Advances}
use Rattle.celf_unify.specs.Searched.{PartAfter, ClashAfter, StepAfter, FoundAfter, Searches, FlatSearches}

pub the_one : {d e : Equation} → Listed d (e ∷ []) → e ≡ d
the_one listed_here = refl
the_one (listed_later k) = elim k [ ]

assigning : (cs : List SimpleType) (zs : List Addition) (step : Step) (ws es : List Equation) (a : MayAdvance cs zs step ws) → Ready cs zs es → (m : ℕ) (o : PlainObject) → AssignsEither (slice_get cs) (slice_get (meta_types zs)) a.equation m o → MayAssign cs zs m o es
assigning cs zs step ws es a ready m o h = assign_is_allowed cs zs es ready a.equation a.is_open m o h

narrowing : (cs : List SimpleType) (zs : List Addition) (step : Step) (ws es : List Equation) (a : MayAdvance cs zs step ws) → Ready cs zs es → (k : ℕ) (mask : List Bool) (ps : List Place) (c : SimpleType) → NarrowsEither (slice_get cs) (slice_get (meta_types zs)) a.equation k mask ps c → MayNarrow cs zs k mask ps c es
narrowing cs zs step ws es a ready k mask ps c h = narrow_is_allowed cs zs es ready a.equation a.is_open k mask ps c h

pub may_take : (s : Stored) (step : Step) (ws : List Equation) → MayAdvance (constants s) (additions s) step ws → MayTake s step
may_take s (Assign m o) ws a = let h = assigning (constants s) (additions s) (Assign m o) ws ws a a.ready m (plain_obj o) a.step_of in (h.there, h.unsolved)
may_take s (Narrow k mask) ws a = let (zs, c, h) = a.step_of in let n = narrowing (constants s) (additions s) (Narrow k mask) ws ws a a.ready k mask.items zs c h in
    record { places = zs; result = c; type = ⊎_elim (λ p. p.type) (λ p. p.type) h; final = ⊎_elim (λ p. p.final) (λ p. p.final) h; there = n.there; unsolved = n.unsolved }

-- A step was taken in a store with these constants: what is ready stays so, and what is flat; the store is lighter, and the work goes on.
pub record Stepped (cs : List SimpleType) (zs more : List Addition) (step : Step) (ws : List Equation) : Type 0 where
  pub ready : (es : List Equation) → Ready cs zs es → Ready cs more es
  pub lighter : store_weight more < store_weight zs
  pub goes : (before : List Addition) (es : List Equation) (v : Instantiation) → Ready cs zs es → Working cs before zs es v ws
      → (e : Equation) → InHand (slice_get cs) (problem_of before es) (problem_of zs es) v e → StepOf (slice_get cs) (slice_get (meta_types zs)) e step → (w : Instantiation) × Working cs before more es w ws
  pub flat : FlatSystem cs zs ws → FlatSystem cs more ws

-- The equation that a step follows from, alone.
module _ (cs : List SimpleType) (zs : List Addition) (step : Step) (ws : List Equation) (a : MayAdvance cs zs step ws) where
  ready_alone : Ready cs zs (a.equation ∷ [])
  ready_alone = record { store = a.ready.store; final = a.ready.final; typed = (closed_equation (slice_get cs) (slice_get (meta_types zs)) (given zs) a.equation a.is_open, tt) }

  flat_alone : FlatSystem cs zs ws → FlatSystem cs zs (a.equation ∷ [])
  flat_alone f = record { store = f.store; equations = (λ x l. f.equations x (subst (λ y. Listed y ws) (the_one l) a.listed)) }

pub stepped : (s t : Stored) (step : Step) (ws : List Equation) → MayAdvance (constants s) (additions s) step ws → Takes s step t → Stepped (constants s) (additions s) (additions t) step ws
stepped s t (Assign m o) ws a taken = subst (λ more. Stepped (constants s) (additions s) more (Assign m o) ws) (sym taken.1) (record {
  ready = (λ es r. (assigning (constants s) (additions s) (Assign m o) ws es a r m (plain_obj o) a.step_of).ready);
  lighter = (assigning (constants s) (additions s) (Assign m o) ws ws a a.ready m (plain_obj o) a.step_of).lighter;
  goes = (λ before es v r working e h k. work_assigns (constants s) before (additions s) es ws r v working e h m (plain_obj o) k);
  flat = (λ f. flat_grows (constants s) (additions s) (assigned_more (additions s) m (plain_obj o)) ws f (assigned_grows (additions s) m (plain_obj o))
      (flat_assigns (constants s) (additions s) (a.equation ∷ []) (ready_alone (constants s) (additions s) (Assign m o) ws a) (a.is_open, tt)
      (flat_alone (constants s) (additions s) (Assign m o) ws a f) a.equation listed_here m (plain_obj o) a.step_of).store);
})
stepped s t (Narrow k mask) ws a taken = record {
  ready = (λ es r. subst (λ more. Ready (constants s) more es) (sym (becomes a.equation a.step_of)) (narrowing (constants s) (additions s) (Narrow k mask) ws es a r k mask.items a.step_of.0 a.step_of.1 a.step_of.2).ready);
  lighter = subst (λ more. store_weight more < store_weight (additions s)) (sym (becomes a.equation a.step_of))
      (narrowing (constants s) (additions s) (Narrow k mask) ws ws a a.ready k mask.items a.step_of.0 a.step_of.1 a.step_of.2).lighter;
  goes = (λ before es v r working e h q. subst (λ more. (w : Instantiation) × Working (constants s) before more es w ws) (sym (becomes e q))
      (work_narrows (constants s) before (additions s) es ws r v working e h k mask.items q.0 q.1 q.2));
  flat = (λ f. subst (λ more. FlatSystem (constants s) more ws) (sym (becomes a.equation a.step_of))
      (flat_grows (constants s) (additions s) (narrowed_more (additions s) k mask.items a.step_of.0 a.step_of.1) ws f (narrowed_grows (additions s) k mask.items a.step_of.0 a.step_of.1)
      (flat_narrows (constants s) (additions s) (a.equation ∷ []) (ready_alone (constants s) (additions s) (Narrow k mask) ws a) (a.is_open, tt)
      (flat_alone (constants s) (additions s) (Narrow k mask) ws a f) a.equation listed_here k mask.items a.step_of.0 a.step_of.1 a.step_of.2).store));
}
  where
    becomes : (e : Equation) (q : StepOf (slice_get (constants s)) (slice_get (meta_types (additions s))) e (Narrow k mask)) → additions t ≡ narrowed_more (additions s) k mask.items q.0 q.1
    becomes e q = taken.more q.0 q.1 (⊎_elim (λ p. p.type) (λ p. p.type) q.2) (⊎_elim (λ p. p.final) (λ p. p.final) q.2)

pub same_constants : (s t : Stored) (step : Step) → Takes s step t → constants t ≡ constants s
same_constants s t (Assign m o) taken = taken.0
same_constants s t (Narrow k mask) taken = taken.same

-- ---- typed equations

pub closed_each : (cs metas : Types) (solutions : Instantiation) (es : List Equation) → TypedEquations cs (unsolved_types metas solutions) es → TypedEquations cs metas es
closed_each cs metas solutions [] p = tt
closed_each cs metas solutions (e ∷ es) p = (closed_equation cs metas solutions e p.0, closed_each cs metas solutions es p.1)

pub each_listed : (cs metas : Types) (es : List Equation) → ((e : Equation) → Listed e es → TypedEquation cs metas e) → TypedEquations cs metas es
each_listed cs metas [] f = tt
each_listed cs metas (e ∷ es) f = (f e listed_here, each_listed cs metas es (λ d l. f d (listed_later l)))

-- A part mentions nothing solved, where the whole does not.
part_open : (cs metas : Types) (solutions : Instantiation) (e d : Equation) → PartOf cs metas e d → TypedEquation cs (unsolved_types metas solutions) e → TypedEquation cs (unsolved_types metas solutions) d
part_open cs metas solutions e d p t = (open_typed cs metas solutions d.locals d.left d.type typed.0 (λ k o f. (silent k o f).0), open_typed cs metas solutions d.locals d.right d.type typed.1 (λ k o f. (silent k o f).1))
  where
    typed : TypedEquation cs metas d
    typed = part_typed cs metas p (closed_equation cs metas solutions e t)

    silent : (k : ℕ) (o : PlainObject) → solutions k ≡ Some o → (mentions k d.left ≡ false) × (mentions k d.right ≡ false)
    silent k o f = part_silent p k (open_silent cs metas solutions e.locals e.left e.type t.0 k o f) (open_silent cs metas solutions e.locals e.right e.type t.1 k o f)

-- Parts of what is ready are ready.
pub parts_open : (cs : List SimpleType) (zs : List Addition) (ws us : List Equation) → Open cs zs ws → ((e : Equation) → Listed e us → PartIn (slice_get cs) (slice_get (meta_types zs)) ws e) → Open cs zs us
parts_open cs zs ws us p f = each_listed (slice_get cs) (unsolved_types (slice_get (meta_types zs)) (given zs)) us
    (λ d l. let (e, k, q) = f d l in part_open (slice_get cs) (slice_get (meta_types zs)) (given zs) e d q (typed_listed (slice_get cs) (unsolved_types (slice_get (meta_types zs)) (given zs)) e ws k p))

pub typed_open : (cs : List SimpleType) (zs : List Addition) (ws : List Equation) → Open cs zs ws → TypedEquations (slice_get cs) (slice_get (meta_types zs)) ws
typed_open cs zs ws p = closed_each (slice_get cs) (slice_get (meta_types zs)) (given zs) ws p

-- ---- what is found, and the work

module _ (cs : List SimpleType) (before zs : List Addition) (es ws : List Equation) (w : Instantiation) (working : Working cs before zs es w ws) where
  in_hand_after : (p : Equation) → PartAfter (slice_get cs) (slice_get (meta_types zs)) w ws p → InHand (slice_get cs) (problem_of before es) (problem_of zs es) w p
  in_hand_after p h = part_in_hand (slice_get cs) (problem_of before es) (problem_of zs es) w working.solving h.after p
      (work_takes cs before zs es ws w working h.equation h.after h.listed h.is_under) h.is_part

  pub clashed : (c : Clash) → ClashAfter (slice_get cs) (slice_get (meta_types zs)) w ws c → ClashedAt cs before zs es c
  clashed c h = subst (λ n. Clashed (slice_get cs) (problem_of before es) (problem_of zs es) n (plain_obj c.left) (plain_obj c.right)) h.under
      (subst (λ x. Clashed (slice_get cs) (problem_of before es) (problem_of zs es) (length h.part.locals) x (plain_obj c.right)) h.left
      (subst (λ x. Clashed (slice_get cs) (problem_of before es) (problem_of zs es) (length h.part.locals) h.part.left x) h.right
      (work_clashes cs before zs es w working.solving h.part h.part (in_hand_after h.part h.is_part) part_itself h.clashes)))

  pub step_stands : (step : Step) (rest : List Equation) → StepAfter (slice_get cs) (slice_get (meta_types zs)) w ws rest step → StepStands cs before zs es step rest
  step_stands step rest h = record {
    all_in = w;
    working = work_reduces cs before zs es ws rest w working (λ e l. ⊎_elim (λ k. inl k) (λ p. inr (e, in_hand_after e p, part_itself)) (h.parts e l));
    equation = h.equation;
    in_hand = in_hand_after h.equation h.is_part;
    step_of = h.step_of;
  }

  pub stands : (g : Gathered) → FoundAfter (slice_get cs) (slice_get (meta_types zs)) w ws g → WorkStands cs before zs es g
  stands (gathered.Left left) h = (w, working.solving)
  stands (gathered.Clash c) h = clashed c h
  stands (gathered.Step step rest) h = step_stands step (map plain_equation rest.items) h

-- A step was taken, and then the equations were looked at.
pub advanced : (s t : Stored) (step : Step) (ws : List Equation) (g : Gathered) → MayAdvance (constants s) (additions s) step ws → Takes s step t
    → Searches t ws g → MayRun (constants t) (additions t) g → FlatSearches t ws g → Advances s step ws t g
advanced s t step ws g a taken found may flat = record {
  same = same;
  state = subst (λ cs. MayRun cs (additions t) g) same may;
  lighter = made.lighter;
  goes = (λ before es ready h. (
    made.ready es ready,
    let (w, on) = made.goes before es h.all_in ready h.working h.equation h.in_hand h.step_of in
        stands (constants s) before (additions t) es ws w on g
        (over w on.solving.put_in.put_in (solving_closed (slice_get (constants s)) (problem_of before es) (problem_of (additions t) es) w on.solving)),
  ));
  flat = (λ f. subst (λ cs. FlatStands cs (additions t) g) same (flat (subst (λ cs. FlatSystem cs (additions t) ws) (sym same) (made.flat f))));
}
  where
    same : constants t ≡ constants s
    same = same_constants s t step taken

    made : Stepped (constants s) (additions s) (additions t) step ws
    made = stepped s t step ws a taken

    over : (v : Instantiation) → PutIn (given (additions t)) v → IsClosed v → FoundAfter (slice_get (constants s)) (slice_get (meta_types (additions t))) v ws g
    over v p c = subst (λ cs. FoundAfter (slice_get cs) (slice_get (meta_types (additions t))) v ws g) same (found v p c)

-- What is still to be looked at stays ready.
pub ready_after : (s t : Stored) (step : Step) (ws : List Equation) → MayAdvance (constants s) (additions s) step ws → Takes s step t → Ready (constants t) (additions t) ws
ready_after s t step ws a taken = subst (λ cs. Ready cs (additions t) ws) (sym (same_constants s t step taken)) ((stepped s t step ws a taken).ready ws a.ready)
