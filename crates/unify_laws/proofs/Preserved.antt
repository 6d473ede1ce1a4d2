-- Steps keep a problem simply typed.
use Rattle.store_laws.proofs.Numbers.{number_cases, set_there, set_else}
use Rattle.std.specs.Prelude.{ℕ, Bool, true, false, zero, suc, ◌≡◌, ◌⊎◌, List, [], ◌∷◌, Some, None, refl}
use Rattle.std.proofs.Common.{ap, sym, subst, ◌∙◌, inl, inr, ⊎_elim}
use Rattle.clf_syntax.specs.declared.tree.Head.{Head}
use Rattle.clf_syntax.specs.declared.tree.Head.TheVariants.{Const, Var, Meta}
use Rattle.clf_syntax.specs.Tree.{PlainObject, atomic, PlainNeutral, head_alone, PlainExpression, PlainTuple, head_of}
use Rattle.clf_syntax.specs.TypeTree.{SimpleType, arrow, SimpleTelescope, simple_end, simple_binding}
use Rattle.clf_syntax.specs.Simple.{no_holes, Assignment, extended, extended_by, SimplyTyped, MayStand}
use Rattle.hered_subst.proofs.SimpleTyping.{Typed, typed_lam, typed_pair, typed_unit, typed_monadic, typed_metavariable, typed_atomic, TypedNeutral, typed_bare, typed_app, typed_fst, typed_snd, TypedExpression, typed_step, typed_done, TypedTuple, typed_empty, typed_entry, to_typed, of_typed, of_neutral}
use Rattle.subst_laws.specs.Environments.{Instantiation}
use Rattle.eta_laws.specs.Eta.{eta}
use Rattle.eta_laws.proofs.EtaTyped.{eta_is_typed}
use Rattle.pattern_laws.specs.Patterns.{Place, on, lams, arrows, beneath, masked, IsFinal, HasFinalResult}
use Rattle.store_laws.specs.Additions.{set}
use Rattle.pattern_laws.specs.Instantiations.{Types, closed}
use Rattle.pattern_laws.specs.Equations.{scoped, Equation, TypedEquations, Locals}
use Rattle.pattern_laws.proofs.Inverse.{lams_typed}
use Rattle.pattern_laws.proofs.Spines.{head_on}
use Rattle.unify_laws.specs.Problems.{Grows, WellTyped}
use Rattle.unify_laws.specs.Progress.{CameFrom}
use Rattle.unify_laws.proofs.Assign.{another}
use Rattle.unify_laws.proofs.Steps.{keeps_same, keeps_then}
use Rattle.unify_laws.specs.Narrowing.{narrowed_by}
use Rattle.unify_laws.specs.Laws.{ProgressStarts, AssignProgresses, NarrowProgresses}

-- z gives each head that has a type in g the same type
abbrev More : Assignment → Assignment → Type 0
More g z = (h : Head) (u : SimpleType) → g h ≡ Some u → z h ≡ Some u

more_bound : (d : SimpleType) (g z : Assignment) → More g z → More (extended d g) (extended d z)
more_bound d g z f (Const c) u e = f (Const c) u e
more_bound d g z f (Var zero) u e = e
more_bound d g z f (Var (suc i)) u e = f (Var i) u e
more_bound d g z f (Meta m) u e = f (Meta m) u e

more_bounds : (ts : SimpleTelescope) (g z : Assignment) → More g z → More (extended_by ts g) (extended_by ts z)
more_bounds simple_end g z f = f
more_bounds (simple_binding m t ts) g z f = more_bounds ts (extended t g) (extended t z) (more_bound t g z f)

mutual
  pub typed_more : (z : Assignment) {w : Bool} {g : Assignment} {o : PlainObject} {t : SimpleType} → Typed w g o t → More g z → Typed w z o t
  typed_more z (typed_lam {g = g} {d = d} p) f = typed_lam (typed_more (extended d z) p (more_bound d g z f))
  typed_more z (typed_pair p q) f = typed_pair (typed_more z p f) (typed_more z q f)
  typed_more z typed_unit f = typed_unit
  typed_more z (typed_monadic p) f = typed_monadic (typed_more_expression z p f)
  typed_more z (typed_metavariable i p e) f = typed_metavariable i (typed_more_neutral z p f) e
  typed_more z (typed_atomic p) f = typed_atomic (typed_more_neutral z p f)

  pub typed_more_neutral : (z : Assignment) {w : Bool} {g : Assignment} {o : PlainNeutral} {t : SimpleType} → TypedNeutral w g o t → More g z → TypedNeutral w z o t
  typed_more_neutral z (typed_bare {h = h} {t = t} e) f = typed_bare (f h t e)
  typed_more_neutral z (typed_app p q) f = typed_app (typed_more_neutral z p f) (typed_more z q f)
  typed_more_neutral z (typed_fst p) f = typed_fst (typed_more_neutral z p f)
  typed_more_neutral z (typed_snd p) f = typed_snd (typed_more_neutral z p f)

  pub typed_more_expression : (z : Assignment) {w : Bool} {g : Assignment} {o : PlainExpression} {t : SimpleTelescope} → TypedExpression w g o t → More g z → TypedExpression w z o t
  typed_more_expression z (typed_step {g = g} {ts = ts} p m q) f = typed_step (typed_more_neutral z p f) m (typed_more_expression (extended_by ts z) q (more_bounds ts g z f))
  typed_more_expression z (typed_done p) f = typed_done (typed_more_tuple z p f)

  pub typed_more_tuple : (z : Assignment) {w : Bool} {g : Assignment} {o : PlainTuple} {t : SimpleTelescope} → TypedTuple w g o t → More g z → TypedTuple w z o t
  typed_more_tuple z typed_empty f = typed_empty
  typed_more_tuple z (typed_entry p q) f = typed_entry (typed_more z p f) (typed_more_tuple z q f)

simply_more : (g z : Assignment) (o : PlainObject) (t : SimpleType) → More g z → SimplyTyped g o t → SimplyTyped z o t
simply_more g z o t f p = of_typed (typed_more z (to_typed true g o t p) f)

more_closed : (constants metas more : Types) → Grows metas more → More (closed constants metas) (closed constants more)
more_closed constants metas more f (Const c) u e = e
more_closed constants metas more f (Var i) u e = absurd (cc)
more_closed constants metas more f (Meta m) u e = f m u e

more_scoped : (constants metas more : Types) (ls : Locals) → Grows metas more → More (scoped ls (closed constants metas)) (scoped ls (closed constants more))
more_scoped constants metas more [] f = more_closed constants metas more f
more_scoped constants metas more (d ∷ ls) f = more_bound d.1 (scoped ls (closed constants metas)) (scoped ls (closed constants more)) (more_scoped constants metas more ls f)

pub equations_more : (constants metas more : Types) → Grows metas more → (es : List Equation) → TypedEquations constants metas es → TypedEquations constants more es
equations_more constants metas more f [] p = p
equations_more constants metas more f (e ∷ es) p = (
  (
    simply_more (scoped e.locals (closed constants metas)) (scoped e.locals (closed constants more)) e.left e.type (more_scoped constants metas more e.locals f) p.0.0,
    simply_more (scoped e.locals (closed constants metas)) (scoped e.locals (closed constants more)) e.right e.type (more_scoped constants metas more e.locals f) p.0.1,
  ),
  equations_more constants metas more f es p.1,
)

pub grows_new : (metas : Types) (k : ℕ) (a : SimpleType) → metas k ≡ None → Grows metas (set k a metas)
grows_new metas k a n m b e = set_else k m a metas (another k m metas b n e) ∙ e

-- each place has a variable of its type
abbrev pub Fits : Assignment → List Place → Type 0
Fits z [] = Unit {0}
Fits z (p ∷ ps) = (z (Var p.2) ≡ Some p.1) × Fits z ps

abbrev pub Along : Assignment → ℕ → List Place → Type 0
Along z i [] = Unit {0}
Along z i (p ∷ ps) = (z (Var i) ≡ Some p.1) × Along z (suc i) ps

along_next : (z w : Assignment) (i : ℕ) (ps : List Place) → ((j : ℕ) → w (Var (suc j)) ≡ z (Var j)) → Along z i ps → Along w (suc i) ps
along_next z w i [] h f = tt
along_next z w i (p ∷ ps) h f = (h i ∙ f.0, along_next z w (suc i) ps h f.1)

pub along : (y : Assignment) (ps : List Place) → Along (beneath ps y) 0 ps
along y [] = tt
along y (p ∷ ps) = (refl, along_next (beneath ps y) (beneath (p ∷ ps) y) 0 ps (λ j. refl) (along y ps))

pub masked_fits : (z : Assignment) (i : ℕ) (bs : List Bool) (ps : List Place) → Along z i ps → Fits z (masked i bs ps)
masked_fits z i [] ps f = tt
masked_fits z i (b ∷ bs) [] f = tt
masked_fits z i (true ∷ bs) (p ∷ ps) f = (f.0, masked_fits z (suc i) bs ps f.1)
masked_fits z i (false ∷ bs) (p ∷ ps) f = masked_fits z (suc i) bs ps f.1

on_typed : (g : Assignment) (qs : List Place) (r : PlainNeutral) (c : SimpleType) → Fits g qs → TypedNeutral true g r (arrows qs c) → TypedNeutral true g (on qs r) c
on_typed g [] r c f p = p
on_typed g (q ∷ qs) r c f p = typed_app (on_typed g qs r (arrow q.0 q.1 c) f.1 p) (to_typed true g (eta q.1 (head_alone (Var q.2))) q.1 (eta_is_typed.0 true g (head_alone (Var q.2)) q.1 f.0))

beneath_meta : (ps : List Place) (y : Assignment) (m : ℕ) → beneath ps y (Meta m) ≡ y (Meta m)
beneath_meta [] y m = refl
beneath_meta (p ∷ ps) y m = beneath_meta ps y m

-- The solution by a new metavariable is typed.
pub narrowed_typed : (constants metas : Types) (k : ℕ) (bs : List Bool) (ps : List Place) (a : SimpleType) → IsFinal a → metas k ≡ Some (arrows (masked 0 bs ps) a)
    → SimplyTyped (closed constants metas) (lams ps (atomic (on (masked 0 bs ps) (head_alone (Meta k))))) (arrows ps a)
narrowed_typed constants metas k bs ps a may e = of_typed (lams_typed ps (to_typed true (beneath ps (closed constants metas)) (atomic (on (masked 0 bs ps) (head_alone (Meta k)))) a (stands may, of_neutral neutral)))
  where
    neutral : TypedNeutral true (beneath ps (closed constants metas)) (on (masked 0 bs ps) (head_alone (Meta k))) a
    neutral = on_typed (beneath ps (closed constants metas)) (masked 0 bs ps) (head_alone (Meta k)) a (masked_fits (beneath ps (closed constants metas)) 0 bs ps (along (closed constants metas) ps)) (typed_bare (beneath_meta ps (closed constants metas) k ∙ e))

    stands : IsFinal a → MayStand (no_holes true) (on (masked 0 bs ps) (head_alone (Meta k))) a
    stands c = ⊎_elim (λ u. inl u) (λ u. inr (k, u.0, head_on (masked 0 bs ps) (head_alone (Meta k)), u.1, refl)) c

one_object : {a b : PlainObject} → Some a ≡ Some b → a ≡ b
one_object e = cc

-- A problem with one more solution is typed.
pub typed_set : (constants metas : Types) (given : Instantiation) (es : List Equation) (m : ℕ) (s : PlainObject) (a : SimpleType) → WellTyped constants (record { metas = metas; given = given; equations = es })
    → metas m ≡ Some a → SimplyTyped (closed constants metas) s a → WellTyped constants (record { metas = metas; given = set m s given; equations = es })
typed_set constants metas given es m s a w e p = (w.0, at, w.2)
  where
    at : (k : ℕ) (o : PlainObject) → set m s given k ≡ Some o → (b : SimpleType) × (metas k ≡ Some b) × SimplyTyped (closed constants metas) o b
    at k o h = ⊎_elim
        (λ i. (a, ap metas i ∙ e, subst (λ o. SimplyTyped (closed constants metas) o a) (one_object (sym (set_there m s given) ∙ sym (ap (set m s given) i) ∙ h)) p))
        (λ i. w.1 k o (sym (set_else m k s given i) ∙ h))
        (number_cases k m)

pub typed_grown : (constants metas more : Types) (given : Instantiation) (es : List Equation) → Grows metas more → ((m : ℕ) (a : SimpleType) → more m ≡ Some a → HasFinalResult a)
    → WellTyped constants (record { metas = metas; given = given; equations = es }) → WellTyped constants (record { metas = more; given = given; equations = es })
typed_grown constants metas more given es g f w = (equations_more constants metas more g es w.0, (λ k o h. let (a, e, p) = w.1 k o h in (a, g k a e, simply_more (closed constants metas) (closed constants more) o a (more_closed constants metas more g) p)), f)

final_arrows : (ps : List Place) (a : SimpleType) → HasFinalResult a → HasFinalResult (arrows ps a)
final_arrows [] a f = f
final_arrows (p ∷ ps) a f = final_arrows ps (arrow p.0 p.1 a) f

final_result : (a : SimpleType) → IsFinal a → HasFinalResult a
final_result a f = ⊎_elim (λ u. subst HasFinalResult (sym u.1) tt) (λ u. subst HasFinalResult (sym u.1) tt) f

one_simple : {a b : SimpleType} → Some a ≡ Some b → a ≡ b
one_simple e = cc

-- The results stay families and monads with a new metavariable.
final_new : (metas : Types) (k : ℕ) (a : SimpleType) → HasFinalResult a → ((m : ℕ) (b : SimpleType) → metas m ≡ Some b → HasFinalResult b) → (m : ℕ) (b : SimpleType) → set k a metas m ≡ Some b → HasFinalResult b
final_new metas k a f g m b e = ⊎_elim (λ h. subst HasFinalResult (one_simple (sym (set_there k a metas) ∙ sym (ap (set k a metas) h) ∙ e)) f) (λ h. g m b (sym (set_else k m a metas h) ∙ e)) (number_cases m k)

-- At the start.
pub progress_start : ProgressStarts
progress_start constants p w = record { same = refl; typed = w; grows = (λ m a e. e); stays = (λ m o e. e); keeps = keeps_same constants p; traced = (λ k a e. inl (a, e)) }

traced_set : (metas more : Types) (given : Instantiation) (m : ℕ) (s : PlainObject) (k j : ℕ) → Grows metas more → given m ≡ None → CameFrom metas given k j → CameFrom more (set m s given) k j
traced_set metas more given m s k j g n c = record {
  places = c.places;
  mask = c.mask;
  result = c.result;
  before = c.before;
  final = c.final;
  older = g j (arrows c.places c.result) c.older;
  newer = g k (arrows (masked 0 c.mask c.places) c.result) c.newer;
  solution = set_else m j s given (another m j given (lams c.places (atomic (on (masked 0 c.mask c.places) (head_alone (Meta k))))) n c.solution) ∙ c.solution;
}

-- A metavariable is solved.
pub progress_assign : AssignProgresses
progress_assign constants start metas given es m s a p n e t k = record {
  same = p.same;
  typed = typed_set constants metas given es m s a p.typed e t;
  grows = p.grows;
  stays = (λ i o h. set_else m i s given (another m i given o n (p.stays i o h)) ∙ p.stays i o h);
  keeps = keeps_then constants start (record { metas = metas; given = given; equations = es }) (record { metas = metas; given = set m s given; equations = es }) p.grows p.keeps k;
  traced = (λ i b h. ⊎_elim (λ u. inl u) (λ u. inr (u.0, traced_set metas metas given m s i u.0 (λ m a e. e) n u.1)) (p.traced i b h));
}

-- A metavariable becomes a new one on some of its arguments.
pub progress_narrow : NarrowProgresses
progress_narrow constants start metas given es k k' bs ps a p n e f l may q = record {
  same = p.same;
  typed = typed_set constants (set k' (arrows (masked 0 bs ps) a) metas) given es k (lams ps (atomic (on (masked 0 bs ps) (head_alone (Meta k'))))) (arrows ps a)
      (typed_grown constants metas (set k' (arrows (masked 0 bs ps) a) metas) given es (grows_new metas k' (arrows (masked 0 bs ps) a) f) (final_new metas k' (arrows (masked 0 bs ps) a) (final_arrows (masked 0 bs ps) a (final_result a may)) p.typed.2) p.typed)
      (grows_new metas k' (arrows (masked 0 bs ps) a) f k (arrows ps a) e)
      (narrowed_typed constants (set k' (arrows (masked 0 bs ps) a) metas) k' bs ps a may (set_there k' (arrows (masked 0 bs ps) a) metas));
  grows = (λ m b h. grows_new metas k' (arrows (masked 0 bs ps) a) f m b (p.grows m b h));
  stays = (λ i o h. set_else k i (lams ps (atomic (on (masked 0 bs ps) (head_alone (Meta k'))))) given (another k i given o n (p.stays i o h)) ∙ p.stays i o h);
  keeps = keeps_then constants start (record { metas = metas; given = given; equations = es }) (narrowed_by metas given es k k' bs ps a) p.grows p.keeps q;
  traced = at;
}
  where
    more : Grows metas (set k' (arrows (masked 0 bs ps) a) metas)
    more = grows_new metas k' (arrows (masked 0 bs ps) a) f

    made : CameFrom (set k' (arrows (masked 0 bs ps) a) metas) (set k (lams ps (atomic (on (masked 0 bs ps) (head_alone (Meta k'))))) given) k' k
    made = record { places = ps; mask = bs; result = a; before = l; final = may; older = more k (arrows ps a) e; newer = set_there k' (arrows (masked 0 bs ps) a) metas; solution = set_there k (lams ps (atomic (on (masked 0 bs ps) (head_alone (Meta k'))))) given }

    at : (i : ℕ) (b : SimpleType) → set k' (arrows (masked 0 bs ps) a) metas i ≡ Some b → ((c : SimpleType) × (start.metas i ≡ Some c)) ⊎ ((j : ℕ) × CameFrom (set k' (arrows (masked 0 bs ps) a) metas) (set k (lams ps (atomic (on (masked 0 bs ps) (head_alone (Meta k'))))) given) i j)
    at i b h = ⊎_elim
        (λ u. inr (k, subst (λ i. CameFrom (set k' (arrows (masked 0 bs ps) a) metas) (set k (lams ps (atomic (on (masked 0 bs ps) (head_alone (Meta k'))))) given) i k) (sym u) made))
        (λ u. ⊎_elim (λ v. inl v) (λ v. inr (v.0, traced_set metas (set k' (arrows (masked 0 bs ps) a) metas) given k (lams ps (atomic (on (masked 0 bs ps) (head_alone (Meta k'))))) i v.0 more n v.1)) (p.traced i b (sym (set_else k' i (arrows (masked 0 bs ps) a) metas u) ∙ h)))
        (number_cases i k')
