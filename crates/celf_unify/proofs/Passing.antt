-- A pass, and what it says of the work.
use Rattle.std.specs.Prelude.{◌≡◌, ◌≤◌, List, [], ◌∷◌, map, reverse, Option, Some, None, refl}
use Rattle.std.proofs.Common.{sym, subst, ◌∙◌, arith, inl, Vec, Global}
use Rattle.std.specs.List.{slice_get}
use Rattle.subst_laws.specs.Environments.{Instantiation}
use Rattle.store_laws.specs.Additions.{Addition, meta_types}
use Rattle.pattern_laws.specs.Instantiations.{Types}
use Rattle.pattern_laws.specs.Equations.{Equation, Listed, TypedEquations}
use Rattle.reach_laws.specs.Rest.{IsAssignment, PartOf, EachUnder, Rest}
use Rattle.reach_laws.proofs.Rests.{typed_listed}
use Rattle.answer_laws.proofs.InTurn.{listed_under, listed_back, one_under}
use Rattle.reach_laws.specs.Unified.{Unified}
use Rattle.flat_systems.specs.Systems.{FlatStore, FlatSystem}
use Rattle.flat_systems.proofs.Parts.{flat_grows}
use Rattle.solver_laws.specs.Solving.{Solving, problem_of, store_weight, Ready, Working}
use Rattle.solver_laws.proofs.Hands.{result_under}
use Rattle.solver_laws.proofs.Works.{solving_closed, work_starts, work_begins, work_reduces, work_ends}
use Rattle.celf_constraints.specs.declared.equation.Equation.{Equation as Declared}
use Rattle.celf_constraints.specs.declared.equation.Equations.{Equations}
use Rattle.celf_constraints.specs.Equated.{plain_equation, equations_in}
use Rattle.metavars.specs.Stored.{Stored, constants, additions}
use Rattle.celf_unify.specs.declared.answer.Clash.{Clash}
use Rattle.celf_unify.specs.declared.answer.Unified.{Unified as Answer}
use Rattle.celf_unify.specs.declared.answer.Unified.TheVariants.{Solved, Stuck, Clash as ClashAnswer}
use Rattle.celf_unify.specs.Answers.{Answers, IsLeft, IsDecided}
use Rattle.celf_unify.specs.declared.step.Step.{Step}
use Rattle.celf_unify.specs.declared.gather.Gathered.{Gathered}
use Rattle.celf_unify.specs.declared.gather.Gathered.TheVariants as gathered
use Rattle.celf_unify.specs.declared.pass.Pass.{Pass}
use Rattle.celf_unify.specs.declared.pass.Pass.TheVariants as pass
use Rattle.celf_unify.specs.Passes.{StillSolving, MayRun, IsReady, StepStands, WorkStands, FlatStands, RunEnds, PassAnswers, FlatEnds, Advances, Runs, Works, PassEnds, IsLighter}
use Rattle.celf_unify.specs.Searched.{LeftAfter, FoundAfter, Searches, FlatSearches}
use Rattle.celf_unify.proofs.Stepping.{each_listed, stands}
use Rattle.celf_unify.proofs.Turning.{into_turned, from_turned}

-- The state of a run: constants, weight and work against those at its beginning.
pub record Run (s : Stored) (first : Gathered) (t : Stored) (g : Gathered) : Type 0 where
  pub same : constants t ≡ constants s
  pub lighter : store_weight (additions t) ≤ store_weight (additions s)
  pub goes : (before : List Addition) (es : List Equation) → IsReady s es → WorkStands (constants s) before (additions s) es first → Ready (constants s) (additions t) es × WorkStands (constants s) before (additions t) es g
  pub flat : FlatStands (constants s) (additions s) first → FlatStands (constants s) (additions t) g

pub run_advances : (s : Stored) (first : Gathered) (t u : Stored) (step : Step) (rest : Vec Declared Global) (g : Gathered) → Run s first t (gathered.Step step rest) → Advances t step (map plain_equation rest.items) u g → Run s first u g
run_advances s first t u step rest g r a = record {
  same = a.same ∙ r.same;
  lighter = let p = a.lighter in let q = r.lighter in omega (arith, p, q);
  goes = (λ before es ready w. let (now, stood) = r.goes before es ready w in
      subst (λ cs. Ready cs (additions u) es × WorkStands cs before (additions u) es g) r.same
      (a.goes before es (subst (λ cs. Ready cs (additions t) es) (sym r.same) now) (subst (λ cs. StepStands cs before (additions t) es step (map plain_equation rest.items)) (sym r.same) stood)));
  flat = (λ f. subst (λ cs. FlatStands cs (additions u) g) r.same (a.flat (subst (λ cs. FlatSystem cs (additions t) (map plain_equation rest.items)) (sym r.same) (r.flat f))));
}

pub state_advances : (s t u : Stored) (step : Step) (ws : List Equation) (g : Gathered) → constants t ≡ constants s → Advances t step ws u g → MayRun (constants s) (additions u) g
state_advances s t u step ws g e a = subst (λ cs. MayRun cs (additions u) g) e a.state

pub run_left : (s : Stored) (first : Gathered) (t : Stored) (left : Equations) → Run s first t (gathered.Left left) → Runs s first t None
run_left s first t left r = record { same = r.same; lighter = r.lighter; goes = r.goes; flat = (λ f. (r.flat f).0) }

pub run_clash : (s : Stored) (first : Gathered) (t : Stored) (c : Clash) → Run s first t (gathered.Clash c) → Runs s first t (Some c)
run_clash s first t c r = record { same = r.same; lighter = r.lighter; goes = r.goes; flat = r.flat }

-- A step, and then the rest of the pass.
works : (s t u : Stored) (step : Step) (ws : List Equation) (g : Gathered) (end : Option Clash) (p : Pass) → Advances s step ws t g → Runs t g u end
    → ((before : List Addition) (es : List Equation) → RunEnds (constants s) before (additions u) es end → PassAnswers (constants s) before (additions u) es p)
    → (FlatStore (constants s) (additions u) → FlatEnds (constants s) (additions u) p) → Works s step ws u p
works s t u step ws g end p a r f h = record {
  same = r.same ∙ a.same;
  lighter = let x = a.lighter in let y = r.lighter in omega (arith, x, y);
  goes = (λ before es ready working. let (now, stood) = a.goes before es ready working in
      let (then, ended) = r.goes before es (subst (λ cs. Ready cs (additions t) es) (sym a.same) now) (subst (λ cs. WorkStands cs before (additions t) es g) (sym a.same) stood) in
      (subst (λ cs. Ready cs (additions u) es) a.same then, f before es (subst (λ cs. RunEnds cs before (additions u) es end) a.same ended)));
  flat = (λ e. h (subst (λ cs. FlatStore cs (additions u)) a.same (r.flat (subst (λ cs. FlatStands cs (additions t) g) (sym a.same) (a.flat e)))));
}

pub works_again : (s t u : Stored) (step : Step) (ws : List Equation) (g : Gathered) → Advances s step ws t g → Runs t g u None → Works s step ws u pass.Again
works_again s t u step ws g a r = works s t u step ws g None pass.Again a r (λ before es h. h) (λ h. h)

pub works_clash : (s t u : Stored) (step : Step) (ws : List Equation) (g : Gathered) (c : Clash) → Advances s step ws t g → Runs t g u (Some c) → Works s step ws u (pass.Clash c)
works_clash s t u step ws g c a r = works s t u step ws g (Some c) (pass.Clash c) a r (λ before es h. h) (λ h. h)

-- ---- a pass over equations that are ready, as a stack

-- An assignment makes equations of equations.
each_result : (constants metas : Types) (v : Instantiation) → IsAssignment constants metas v → (es : List Equation) → TypedEquations constants metas es → (us : List Equation) × EachUnder v es us
each_result constants metas v f [] t = ([], tt)
each_result constants metas v f (e ∷ es) t = let (d, u) = result_under constants metas v f e t.0 in let (us, w) = each_result constants metas v f es t.1 in (d ∷ us, (u, w))

module _ (s : Stored) (es stack : List Equation) (ready : IsReady s es) (turned : stack ≡ reverse es) where
  onto : {e : Equation} → Listed e es → Listed e stack
  onto {e} l = subst (Listed e) (sym turned) (into_turned es l)

  back : {e : Equation} → Listed e stack → Listed e es
  back {e} l = from_turned es (subst (Listed e) turned l)

  pub stack_ready : IsReady s stack
  stack_ready = record {
    store = ready.store;
    final = ready.final;
    typed = each_listed (slice_get (constants s)) (slice_get (meta_types (additions s))) stack (λ e l. typed_listed (slice_get (constants s)) (slice_get (meta_types (additions s))) e es (back l) ready.typed);
  }

  stack_flat : FlatSystem (constants s) (additions s) es → FlatSystem (constants s) (additions s) stack
  stack_flat f = record { store = f.store; equations = (λ e l. f.equations e (back l)) }

  rest_of : (v : Instantiation) (us left : List Equation) → EachUnder v es us → LeftAfter (slice_get (constants s)) (slice_get (meta_types (additions s))) v stack left → Rest (slice_get (constants s)) (slice_get (meta_types (additions s))) us left
  rest_of v us left under h = record {
    down = (λ d l. let (e, k, u) = listed_back v d l es under in h.down e d (onto k) u);
    met = (λ x l. let p = h.met x l in let (d, k, u) = listed_under v p.equation (back p.listed) us under in
        (d, k, subst (λ y. PartOf (slice_get (constants s)) (slice_get (meta_types (additions s))) y x) (one_under v p.equation p.after d p.is_under u) p.is_part));
    stuck = (λ x l. (h.over x l).stuck);
    unjoined = (λ x l. (h.over x l).unjoined);
  }

  module _ (g : Gathered) (found : Searches s stack g) (flat_found : FlatSearches s stack g) where
    -- The work began in `before`, and stands before this pass.
    module _ (before : List Addition) (v : Instantiation) (solving : Solving (slice_get (constants s)) (problem_of before es) (problem_of (additions s) es) v) where
      holds : Working (constants s) before (additions s) es v stack
      holds = work_reduces (constants s) before (additions s) es es stack v (work_begins (constants s) before (additions s) es ready v solving) (λ e l. inl (back l))

      found_here : FoundAfter (slice_get (constants s)) (slice_get (meta_types (additions s))) v stack g
      found_here = found v solving.put_in.put_in (solving_closed (slice_get (constants s)) (problem_of before es) (problem_of (additions s) es) v solving)

      stood : WorkStands (constants s) before (additions s) es g
      stood = stands (constants s) before (additions s) es stack v holds g found_here

    flat_stood : FlatSystem (constants s) (additions s) es → FlatStands (constants s) (additions s) g
    flat_stood f = flat_found (stack_flat f)

  pub pass_left : (left : Equations) → Searches s stack (gathered.Left left) → FlatSearches s stack (gathered.Left left) → PassEnds s es s (pass.Left left)
  pass_left left found flat_found = record {
    same = refl;
    ready = ready;
    lighter = tt;
    goes = (λ before v begun solving. let (us, under) = each_result (slice_get (constants s)) (slice_get (meta_types (additions s))) v solving.put_in.assigns es ready.typed in
        work_ends (constants s) before (additions s) es begun v solving us (equations_in left) under (rest_of v us (equations_in left) under (found_here (gathered.Left left) found flat_found before v solving)));
    flat = (λ f. flat_stood (gathered.Left left) found flat_found f);
  }

  pub pass_clash : (c : Clash) → Searches s stack (gathered.Clash c) → FlatSearches s stack (gathered.Clash c) → PassEnds s es s (pass.Clash c)
  pass_clash c found flat_found = record {
    same = refl;
    ready = ready;
    lighter = tt;
    goes = (λ before v begun solving. stood (gathered.Clash c) found flat_found before v solving);
    flat = (λ f. flat_stood (gathered.Clash c) found flat_found f);
  }

  pub pass_works : (t : Stored) (p : Pass) (step : Step) (rest : Vec Declared Global) → Searches s stack (gathered.Step step rest) → FlatSearches s stack (gathered.Step step rest)
      → Works s step (map plain_equation rest.items) t p → PassEnds s es t p
  pass_works t p step rest found flat_found w = record {
    same = w.same;
    ready = let (v, solving) = work_starts (constants s) (additions s) es ready in (w.goes (additions s) es ready (stood (gathered.Step step rest) found flat_found (additions s) v solving)).0;
    lighter = weighed p w;
    goes = (λ before v b solving. (w.goes before es ready (stood (gathered.Step step rest) found flat_found before v solving)).1);
    flat = (λ f. w.flat (flat_stood (gathered.Step step rest) found flat_found f));
  }
    where
      weighed : (p : Pass) → Works s step (map plain_equation rest.items) t p → IsLighter s p t
      weighed pass.Again w = w.lighter
      weighed (pass.Left left) w = tt
      weighed (pass.Clash c) w = tt

-- What a pass says of the work that began in the store s.
pub pass_follows : (s t u : Stored) (es : List Equation) (p : Pass) → IsReady s es → constants t ≡ constants s → StillSolving (constants s) (additions s) (additions t) es → PassEnds t es u p → PassAnswers (constants s) (additions s) (additions u) es p
pass_follows s t u es p ready same still ends = subst (λ cs. PassAnswers cs (additions s) (additions u) es p) same
    (ends.goes (additions s) still.0 (subst (λ cs. Ready cs (additions s) es) (sym same) ready) (subst (λ cs. Solving (slice_get cs) (problem_of (additions s) es) (problem_of (additions t) es) still.0) (sym same) still.1))

-- A flat system, in the store to which the work has come.
pub pass_flat : (s t u : Stored) (es : List Equation) (p : Pass) → constants t ≡ constants s → StillSolving (constants s) (additions s) (additions t) es → PassEnds t es u p
    → FlatSystem (constants s) (additions s) es → FlatStore (constants s) (additions t) → FlatEnds (constants s) (additions u) p
pass_flat s t u es p same still ends flat store = subst (λ cs. FlatEnds cs (additions u) p) same
    (ends.flat (subst (λ cs. FlatSystem cs (additions t) es) (sym same) (flat_grows (constants s) (additions s) (additions t) es flat still.1.progress.grows store)))

-- Where nothing is left, the answer is no `Stuck`.
pub left_decided : (ls : List Equation) (a : Answer) → IsLeft ls a → ls ≡ [] → IsDecided a
left_decided ls Solved h e = tt
left_decided ls (Stuck left) h e = h.1 e
left_decided ls (ClashAnswer c) h e = absurd h

pub left_answers : (s t : Stored) (es ls : List Equation) (a : Answer) → IsLeft ls a → Unified (slice_get (constants s)) (problem_of (additions s) es) (problem_of (additions t) es) ls → Answers s es t a
left_answers s t es ls Solved e u = subst (Unified (slice_get (constants s)) (problem_of (additions s) es) (problem_of (additions t) es)) e u
left_answers s t es ls (Stuck left) h u = (subst (Unified (slice_get (constants s)) (problem_of (additions s) es) (problem_of (additions t) es)) (sym h.0) u, (λ e. h.1 (sym h.0 ∙ e)))
left_answers s t es ls (ClashAnswer c) h u = absurd h
