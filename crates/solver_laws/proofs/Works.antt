-- The work of unification begins, goes on with each step, and ends.
use Rattle.std.specs.Prelude.{ℕ, Bool, ◌≡◌, List, [], ◌∷◌, ◌++◌, length, None, refl}
use Rattle.std.proofs.Common.{ap, sym, subst, ◌∙◌, inl, inr, ⊎_elim}
use Rattle.std.specs.List.{slice_get}
use Rattle.clf_syntax.specs.declared.tree.Head.TheVariants.{Meta}
use Rattle.clf_syntax.specs.Tree.{PlainObject, atomic, head_alone}
use Rattle.clf_syntax.specs.TypeTree.{SimpleType}
use Rattle.subst_laws.specs.Environments.{Instantiation}
use Rattle.store_laws.specs.Additions.{Addition, new, meta_types, given, set}
use Rattle.store_laws.specs.PutIn.{IsClosed}
use Rattle.pattern_laws.specs.Instantiations.{Types}
use Rattle.pattern_laws.specs.Equations.{Equation, Listed}
use Rattle.pattern_laws.specs.Patterns.{Place, on, lams, arrows, masked}
use Rattle.unify_laws.specs.Problems.{Problem, Grows, WellTyped}
use Rattle.unify_laws.proofs.Preserved.{progress_start, grows_new}
use Rattle.unify_laws.proofs.Steps.{none_back}
use Rattle.reach_laws.specs.Rest.{part_itself}
use Rattle.reach_laws.specs.Unified.{OnlyAdds}
use Rattle.reach_laws.proofs.Tight.{tight}
use Rattle.reach_laws.proofs.Rests.{typed_listed}
use Rattle.solver_laws.specs.Solving.{Solving, InHand, Held, problem_of, Ready, Working}
use Rattle.solver_laws.specs.Steps.{assigned_more, narrowed_more}
use Rattle.solver_laws.specs.Laws.{MayNarrow, WorkStarts, WorkBegins, WorkTakes, WorkAssigns, WorkNarrows, WorkReduces, WorkEnds, WorkClashes}
use Rattle.solver_laws.proofs.Grown.{some_none}
use Rattle.solver_laws.proofs.Hands.{solving_gives, hand_open, hand_follows, part_in_hand, result_under, hand_holds, held_hand, held_moves}
use Rattle.solver_laws.proofs.Taking.{problem, Goes, solving_assigns, solving_narrows}
use Rattle.solver_laws.proofs.Stores.{types_in, types_new, types_solved, given_new, given_solved, no_type_yet, Whole, whole}
use Rattle.solver_laws.proofs.Allowed.{gives_closed, assign_is_allowed, narrow_is_allowed}

well_typed : (constants : List SimpleType) (zs : List Addition) (es : List Equation) → Ready constants zs es → WellTyped (slice_get constants) (problem_of zs es)
well_typed constants zs es ready = (ready.typed, (whole constants zs ready.store).given_types, ready.final)

pub work_starts : WorkStarts
work_starts constants zs es ready = (
  w.all_in,
  record {
    progress = progress_start (slice_get constants) (problem_of zs es) (well_typed constants zs es ready);
    put_in = w.put_in;
    sources = (λ m o n f. absurd (some_none n f));
  },
)
  where
    w : Whole constants zs
    w = whole constants zs ready.store

pub solving_closed : (constants : Types) (start now : Problem) (s : Instantiation) → Solving constants start now s → IsClosed s
solving_closed constants start now s solving = gives_closed constants now.metas s (solving_gives constants start now s solving)

pub work_begins : WorkBegins
work_begins constants before zs es ready s solving = record { solving = solving; held = held }
  where
    held : (e : Equation) → Listed e es → Held (slice_get constants) (problem_of before es) (problem_of zs es) s e
    held e l = let t = typed_listed (slice_get constants) (types_in zs) e es l ready.typed in let (d, u) = result_under (slice_get constants) (types_in zs) s solving.put_in.assigns e t in
        record { typed = t; after = d; is_under = u; in_hand = record { equation = e; after = d; listed = l; is_under = u; is_part = part_itself } }

pub work_takes : WorkTakes
work_takes constants before zs es ws s working e d l u = held_hand (slice_get constants) (problem_of before es) (problem_of zs es) s working.solving e d (working.held e l) u

pub work_reduces : WorkReduces
work_reduces constants before zs es ws us s working f = record {
  solving = working.solving;
  held = (λ e l. ⊎_elim (λ k. working.held e k)
      (λ p. hand_holds (slice_get constants) (problem_of before es) (problem_of zs es) s working.solving e
      (part_in_hand (slice_get constants) (problem_of before es) (problem_of zs es) s working.solving p.0 e p.1 p.2)) (f e l));
}

-- A step goes on with what is held.
goes_on : (constants : List SimpleType) (before zs more : List Addition) (es ws : List Equation) (s : Instantiation) → Working constants before zs es s ws → Grows (types_in zs) (types_in more)
    → Goes (slice_get constants) (problem_of before es) (problem_of more es) s → (v : Instantiation) × Working constants before more es v ws
goes_on constants before zs more es ws s working grows goes = (
  goes.then,
  record {
    solving = goes.solving;
    held = (λ e l. held_moves (slice_get constants) (problem_of before es) (problem_of zs es) (problem_of more es) s goes.then working.solving goes.solving grows goes.both goes.earlier e (working.held e l));
  },
)

same_problem : {metas more : Types} {given then : Instantiation} (es : List Equation) → metas ≡ more → given ≡ then → problem metas given es ≡ problem more then es
same_problem es e f = rw (e, f) refl

grows_same : {metas more : Types} → metas ≡ more → Grows more metas
grows_same e m a f = ap (λ h. h m) e ∙ f

pub assigned_grows : (zs : List Addition) (m : ℕ) (o : PlainObject) → Grows (types_in zs) (types_in (assigned_more zs m o))
assigned_grows zs m o = grows_same (types_solved zs m o)

narrowed_types : (zs : List Addition) (k : ℕ) (mask : List Bool) (ps : List Place) (c : SimpleType)
    → types_in (narrowed_more zs k mask ps c) ≡ set (length (meta_types zs)) (arrows (masked 0 mask ps) c) (types_in zs)
narrowed_types zs k mask ps c =
    types_solved (zs ++ new (arrows (masked 0 mask ps) c) ∷ []) k (lams ps (atomic (on (masked 0 mask ps) (head_alone (Meta (length (meta_types zs))))))) ∙ types_new zs (arrows (masked 0 mask ps) c)

pub narrowed_grows : (zs : List Addition) (k : ℕ) (mask : List Bool) (ps : List Place) (c : SimpleType) → Grows (types_in zs) (types_in (narrowed_more zs k mask ps c))
narrowed_grows zs k mask ps c m a f = grows_same (narrowed_types zs k mask ps c) m a (grows_new (types_in zs) (length (meta_types zs)) (arrows (masked 0 mask ps) c) (no_type_yet zs) m a f)

pub work_assigns : WorkAssigns
work_assigns constants before zs es ws ready s working e hand m o c = goes_on constants before zs (assigned_more zs m o) es ws s working
    (assigned_grows zs m o)
    (subst (λ p. Goes (slice_get constants) (problem_of before es) p s) (sym (same_problem es (types_solved zs m o) (given_solved zs m o unsolved)))
    (solving_assigns (slice_get constants) (problem_of before es) (types_in zs) (given zs) es s working.solving e hand m o c))
  where
    unsolved : given zs m ≡ None
    unsolved = (assign_is_allowed constants zs es ready e (hand_open (slice_get constants) (problem_of before es) (problem_of zs es) s working.solving e hand) m o c).unsolved

pub work_narrows : WorkNarrows
work_narrows constants before zs es ws ready s working e hand k mask ps c h = goes_on constants before zs (narrowed_more zs k mask ps c) es ws s working
    (narrowed_grows zs k mask ps c)
    (subst (λ p. Goes (slice_get constants) (problem_of before es) p s) (sym (same_problem es (narrowed_types zs k mask ps c) solutions))
    (solving_narrows (slice_get constants) (problem_of before es) (types_in zs) (given zs) es s working.solving e hand k (length (meta_types zs)) mask ps c h (no_type_yet zs) allowed.there))
  where
    allowed : MayNarrow constants zs k mask ps c es
    allowed = narrow_is_allowed constants zs es ready e (hand_open (slice_get constants) (problem_of before es) (problem_of zs es) s working.solving e hand) k mask ps c h

    solution : PlainObject
    solution = lams ps (atomic (on (masked 0 mask ps) (head_alone (Meta (length (meta_types zs))))))

    solutions : given (narrowed_more zs k mask ps c) ≡ set k solution (given zs)
    solutions = given_solved (zs ++ new (arrows (masked 0 mask ps) c) ∷ []) k solution allowed.still ∙ ap (set k solution) (given_new zs (arrows (masked 0 mask ps) c))

only_adds : (constants : Types) (start now : Problem) (s : Instantiation) → Solving constants start now s → OnlyAdds constants start now
only_adds constants start now s solving = record { same = solving.progress.same; grows = solving.progress.grows; stays = solving.progress.stays; typed = solving.progress.typed }

pub work_ends : WorkEnds
work_ends constants before zs es ready s solving ds left under rest = record {
  adds = only_adds (slice_get constants) (problem_of before es) (problem_of zs es) s solving;
  keeps = solving.progress.keeps;
  traced = solving.progress.traced;
  ends = (
    s,
    ds,
    record {
      put_in = solving.put_in;
      under = under;
      rest = rest;
      tight = (λ list holds. tight (slice_get constants) (problem_of before es) (problem_of zs es) (well_typed constants before es ready) solving.progress.stays solving.progress.traced s solving.put_in.put_in solving.put_in.assigns solving.progress.typed list holds);
      sources = (λ m o n f. ⊎_elim (λ p. inl p) (λ p. inr p.from) (solving.sources m o n f));
    },
  );
}

pub work_clashes : WorkClashes
work_clashes constants before zs es s solving e p in_hand part clash = record {
  adds = only_adds (slice_get constants) (problem_of before es) (problem_of zs es) s solving;
  none = none_back (slice_get constants) (problem_of before es) (problem_of zs es) solving.progress.keeps
      (λ parameters t sol. clash.unsolved parameters t sol.0 (hand_follows (slice_get constants) (problem_of before es) (problem_of zs es) s solving p hand parameters t sol));
  at = record {
    assignment = s;
    assigns = solving.put_in.assigns;
    equation = hand.equation;
    after = hand.after;
    part = p;
    listed = hand.listed;
    is_under = hand.is_under;
    is_part = hand.is_part;
    no_further = clash.no_further;
    binders = refl;
    is_left = refl;
    is_right = refl;
    unsolved = clash.unsolved;
  };
}
  where
    hand : InHand (slice_get constants) (problem_of before es) (problem_of zs es) s p
    hand = part_in_hand (slice_get constants) (problem_of before es) (problem_of zs es) s solving e p in_hand part
