-- When a step may be taken: what it adds may be added, and makes the store lighter.
use Rattle.std.specs.Prelude.{ℕ, suc, ◌+◌, ◌≡◌, ◌<◌, List, [], ◌∷◌, ◌++◌, length, Some, None, refl}
use Rattle.std.proofs.Common.{ap, sym, subst, ◌∙◌, arith, ⊎_elim, true}
use Rattle.std.specs.List.{slice_get}
use Rattle.clf_syntax.specs.declared.tree.Head.TheVariants.{Meta}
use Rattle.clf_syntax.specs.Tree.{PlainObject, atomic, head_alone}
use Rattle.clf_syntax.specs.TypeTree.{SimpleType, arrow}
use Rattle.clf_syntax.specs.Simple.{SimplyTyped}
use Rattle.hered_subst.proofs.SimpleTyping.{to_typed}
use Rattle.clf_syntax.specs.Occurs.{occurs}
use Rattle.clf_syntax.proofs.OccursLaws.{not_true}
use Rattle.subst_laws.specs.Environments.{Instantiation}
use Rattle.store_laws.specs.Additions.{new, meta_types, given, set}
use Rattle.store_laws.specs.PutIn.{IsClosed}
use Rattle.store_laws.proofs.Numbers.{number_cases, set_there, set_else}
use Rattle.store_laws.proofs.Closing.{Gives}
use Rattle.store_laws.proofs.Lists.{types-append}
use Rattle.store_laws.proofs.Stores.{store_grows}
use Rattle.pattern_laws.specs.Instantiations.{Types, closed}
use Rattle.pattern_laws.specs.Equations.{Equation, TypedEquation, TypedEquations}
use Rattle.pattern_laws.specs.Patterns.{IsFinal, HasFinalResult, functions, Place, on, lams, arrows, masked}
use Rattle.pattern_laws.proofs.Places.{occurring}
use Rattle.unify_laws.specs.Problems.{Grows}
use Rattle.unify_laws.specs.Weight.{weight}
use Rattle.unify_laws.proofs.Preserved.{equations_more, grows_new}
use Rattle.unify_laws.proofs.Weights.{weight_assign, weight_narrow}
use Rattle.reach_laws.specs.Rest.{EquationUnder, EachUnder}
use Rattle.solver_laws.specs.Solving.{unsolved_types, store_weight}
use Rattle.solver_laws.specs.Steps.{flipped, Assigns, Narrows, assigned_more, narrowed_more}
use Rattle.solver_laws.specs.Laws.{MayAssign, MayNarrow, AssignIsAllowed, NarrowIsAllowed, PutInIsOpen}
use Rattle.solver_laws.proofs.Grown.{cases_of, some_none}
use Rattle.solver_laws.proofs.Open.{equation_open}
use Rattle.solver_laws.proofs.StepFacts.{assigned_unsolved, assigned_type, assigned_silent, assigned_open, narrowed_unsolved, narrowed_open}
use Rattle.solver_laws.proofs.Mentioning.{older_silent}
use Rattle.solver_laws.proofs.Stores.{types_in, types_new, types_solved, same_types_solved, given_new, given_solved, no_type_yet, get_below, may_solve, Whole, whole, whole_gives}

-- What is typed without variables has none.
pub gives_closed : (constants metas : Types) (s : Instantiation) → Gives (closed constants metas) s → IsClosed s
gives_closed constants metas s g m x e v = let (a, i, p) = g m x e in not_true (occurs v x) (λ o. no_variable (occurring (to_typed true (closed constants metas) x a p) v o))
  where
    no_variable : (u : SimpleType) × (None ≡ Some u) → ⊥
    no_variable (u, e) = cc

-- the same types, and the same at one number
same_at : {A B : Type 0} {f g : A → B} → f ≡ g → (x : A) → f x ≡ g x
same_at e x = ap (λ h. h x) e

pub assign_is_allowed : AssignIsAllowed
assign_is_allowed constants zs es ready e typed m o c = ⊎_elim (λ h. of e typed h) (λ h. of (flipped e) (typed.1, typed.0) h) c
  where
    of : (d : Equation) → TypedEquation (slice_get constants) (unsolved_types (types_in zs) (given zs)) d → Assigns (slice_get constants) (types_in zs) d m o → MayAssign constants zs m o es
    of d t h = record {
      there = there;
      unsolved = unsolved;
      ready = record {
        store = ((store_grows constants).1 zs ready.store).1 m o (may_solve constants zs m o (arrows h.places d.type) unsolved type_of (assigned_open (slice_get constants) (types_in zs) (given zs) d t m o h)
            (assigned_silent (slice_get constants) (types_in zs) (given zs) d t m o h m h.unmentioned));
        final = (λ k a f. ready.final k a (sym (same_at (types_solved zs m o) k) ∙ f));
        typed = subst (λ ts. TypedEquations (slice_get constants) ts es) (sym (types_solved zs m o)) ready.typed;
      };
      lighter = subst (λ w. w < store_weight zs) (sym same) (weight_assign (types_in zs) (given zs) m o (arrows h.places d.type) (length (meta_types zs)) type_of unsolved there);
    }
      where
        unsolved : given zs m ≡ None
        unsolved = assigned_unsolved (slice_get constants) (types_in zs) (given zs) d t m o h

        type_of : types_in zs m ≡ Some (arrows h.places d.type)
        type_of = assigned_type (slice_get constants) (types_in zs) (given zs) d t m o h

        there : m < length (meta_types zs)
        there = get_below (meta_types zs) m (arrows h.places d.type) type_of

        same : store_weight (assigned_more zs m o) ≡ weight (types_in zs) (set m o (given zs)) (length (meta_types zs))
        same = ap (λ ts. weight (slice_get ts) (given (assigned_more zs m o)) (length ts)) (same_types_solved zs m o) ∙ ap (λ g. weight (types_in zs) g (length (meta_types zs))) (given_solved zs m o unsolved)

final_arrows : (ps : List Place) (a : SimpleType) → HasFinalResult a → HasFinalResult (arrows ps a)
final_arrows [] a f = f
final_arrows (p ∷ ps) a f = final_arrows ps (arrow p.0 p.1 a) f

final_result : (a : SimpleType) → IsFinal a → HasFinalResult a
final_result a f = ⊎_elim (λ u. subst HasFinalResult (sym u.1) tt) (λ u. subst HasFinalResult (sym u.1) tt) f

functions_of : (ps : List Place) (a : SimpleType) → functions (arrows ps a) ≡ length ps + functions a
functions_of [] a = none (functions a)
  where
    none : (n : ℕ) → n ≡ 0 + n
    none n = omega arith
functions_of (p ∷ ps) a = functions_of ps (arrow p.0 p.1 a) ∙ sum (length ps) (functions a)
  where
    sum : (n k : ℕ) → n + suc k ≡ suc n + k
    sum n k = omega arith

one_longer : {X : Type 0} (xs : List X) (x : X) → length (xs ++ x ∷ []) ≡ suc (length xs)
one_longer [] x = refl
one_longer (y ∷ xs) x = ap suc (one_longer xs x)

pub narrow_is_allowed : NarrowIsAllowed
narrow_is_allowed constants zs es ready e typed k mask ps c h = ⊎_elim (λ p. of e typed p) (λ p. of (flipped e) (typed.1, typed.0) p) h
  where
    of : (d : Equation) → TypedEquation (slice_get constants) (unsolved_types (types_in zs) (given zs)) d → Narrows (slice_get constants) (types_in zs) d k mask ps c → MayNarrow constants zs k mask ps c es
    of d t p = record {
      there = there;
      unsolved = unsolved;
      still = still;
      ready = record {
        store = ((store_grows constants).1 (zs ++ new (arrows (masked 0 mask ps) c) ∷ []) (((store_grows constants).1 zs ready.store).0 (arrows (masked 0 mask ps) c))).1 k solution
            (may_solve constants (zs ++ new (arrows (masked 0 mask ps) c) ∷ []) k solution (arrows ps c) still (same_at (types_new zs (arrows (masked 0 mask ps) c)) k ∙ grows k (arrows ps c) p.type) open_solution
            (older_silent k (length (meta_types zs)) ps (masked 0 mask ps) there));
        final = (λ i a f. final i a (sym (same_at types i) ∙ f));
        typed = subst (λ ts. TypedEquations (slice_get constants) ts es) (sym types) (equations_more (slice_get constants) (types_in zs) more grows es ready.typed);
      };
      lighter = subst (λ w. w < store_weight zs) (sym same) (weight_narrow (types_in zs) (given zs) k solution (arrows ps c) (arrows (masked 0 mask ps) c) (length (meta_types zs)) p.type unsolved new_unsolved there fewer);
    }
      where
        more : Types
        more = set (length (meta_types zs)) (arrows (masked 0 mask ps) c) (types_in zs)

        solution : PlainObject
        solution = lams ps (atomic (on (masked 0 mask ps) (head_alone (Meta (length (meta_types zs))))))

        unsolved : given zs k ≡ None
        unsolved = narrowed_unsolved (slice_get constants) (types_in zs) (given zs) d t k mask ps c p

        there : k < length (meta_types zs)
        there = get_below (meta_types zs) k (arrows ps c) p.type

        still : given (zs ++ new (arrows (masked 0 mask ps) c) ∷ []) k ≡ None
        still = same_at (given_new zs (arrows (masked 0 mask ps) c)) k ∙ unsolved

        grows : Grows (types_in zs) more
        grows = grows_new (types_in zs) (length (meta_types zs)) (arrows (masked 0 mask ps) c) (no_type_yet zs)

        types : types_in (narrowed_more zs k mask ps c) ≡ more
        types = types_solved (zs ++ new (arrows (masked 0 mask ps) c) ∷ []) k solution ∙ types_new zs (arrows (masked 0 mask ps) c)

        given_types : Gives (closed (slice_get constants) (types_in zs)) (given zs)
        given_types = (whole constants zs ready.store).given_types

        new_unsolved : given zs (length (meta_types zs)) ≡ None
        new_unsolved = ⊎_elim (λ q. q) (λ q. absurd (some_none (no_type_yet zs) (given_types (length (meta_types zs)) q.0 q.1).1)) (cases_of (given zs (length (meta_types zs))))

        open_solution : SimplyTyped (closed (slice_get constants) (unsolved_types (types_in (zs ++ new (arrows (masked 0 mask ps) c) ∷ [])) (given (zs ++ new (arrows (masked 0 mask ps) c) ∷ [])))) solution (arrows ps c)
        open_solution = subst (λ ts. SimplyTyped (closed (slice_get constants) (unsolved_types ts (given (zs ++ new (arrows (masked 0 mask ps) c) ∷ [])))) solution (arrows ps c)) (sym (types_new zs (arrows (masked 0 mask ps) c)))
            (subst (λ g. SimplyTyped (closed (slice_get constants) (unsolved_types more g)) solution (arrows ps c)) (sym (given_new zs (arrows (masked 0 mask ps) c)))
            (narrowed_open (slice_get constants) (types_in zs) (given zs) given_types (length (meta_types zs)) (no_type_yet zs) mask ps c p.final))

        one_type : {a b : SimpleType} → Some a ≡ Some b → a ≡ b
        one_type e = cc

        final : (i : ℕ) (a : SimpleType) → more i ≡ Some a → HasFinalResult a
        final i a f = ⊎_elim
            (λ q. subst HasFinalResult (one_type (sym (set_there (length (meta_types zs)) (arrows (masked 0 mask ps) c) (types_in zs)) ∙ sym (ap more q) ∙ f)) (final_arrows (masked 0 mask ps) c (final_result c p.final)))
            (λ q. ready.final i a (sym (set_else (length (meta_types zs)) i (arrows (masked 0 mask ps) c) (types_in zs) q) ∙ f))
            (number_cases i (length (meta_types zs)))

        fewer : functions (arrows (masked 0 mask ps) c) < functions (arrows ps c)
        fewer = let a = functions_of (masked 0 mask ps) c in let b = functions_of ps c in let l = p.fewer in omega (arith, a, b, l)

        lengths : length (meta_types (narrowed_more zs k mask ps c)) ≡ suc (length (meta_types zs))
        lengths = ap length (same_types_solved (zs ++ new (arrows (masked 0 mask ps) c) ∷ []) k solution) ∙ ap length (types-append zs (new (arrows (masked 0 mask ps) c) ∷ [])) ∙ one_longer (meta_types zs) (arrows (masked 0 mask ps) c)

        solutions : given (narrowed_more zs k mask ps c) ≡ set k solution (given zs)
        solutions = given_solved (zs ++ new (arrows (masked 0 mask ps) c) ∷ []) k solution still ∙ ap (set k solution) (given_new zs (arrows (masked 0 mask ps) c))

        same : store_weight (narrowed_more zs k mask ps c) ≡ weight more (set k solution (given zs)) (suc (length (meta_types zs)))
        same = ap (λ ts. weight ts (given (narrowed_more zs k mask ps c)) (length (meta_types (narrowed_more zs k mask ps c)))) types
            ∙ ap (λ g. weight more g (length (meta_types (narrowed_more zs k mask ps c)))) solutions ∙ ap (weight more (set k solution (given zs))) lengths

-- What a list becomes is typed by the metavariables that have no solution.
each_open : (constants metas : Types) (given s : Instantiation) → ((e d : Equation) → TypedEquation constants metas e → EquationUnder s e d → TypedEquation constants (unsolved_types metas given) d)
    → (es ds : List Equation) → TypedEquations constants metas es → EachUnder s es ds → TypedEquations constants (unsolved_types metas given) ds
each_open constants metas given s f [] [] p u = tt
each_open constants metas given s f [] (d ∷ ds) p u = absurd u
each_open constants metas given s f (e ∷ es) [] p u = absurd u
each_open constants metas given s f (e ∷ es) (d ∷ ds) p u = (f e d p.0 u.0, each_open constants metas given s f es ds p.1 u.1)

pub put_in_is_open : PutInIsOpen
put_in_is_open constants zs es ready ds put = each_open (slice_get constants) (types_in zs) (given zs) w.all_in (λ e d p u. equation_open (slice_get constants) (types_in zs) (given zs) w.all_in w.put_in.put_in (whole_gives constants zs w) e d p u) es ds ready.typed
    (put w.all_in w.put_in.put_in (gives_closed (slice_get constants) (types_in zs) w.all_in (whole_gives constants zs w)))
  where
    w : Whole constants zs
    w = whole constants zs ready.store
