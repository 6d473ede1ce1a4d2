-- All solutions of a store put in does what those that were there before do, and then itself.
use Rattle.std.specs.Prelude.{ℕ, true, false, zero, suc, ◌≡◌, nat_eq, if◌then◌else◌, Bool, List, [], ◌∷◌, ◌++◌, Option, Some, None, refl}
use Rattle.std.proofs.Common.{ap, sym, subst, ◌∙◌, inl, inr, ⊎_elim, append_assoc}
use Rattle.std.specs.List.{slice_get}
use Rattle.clf_syntax.specs.Tree.{PlainObject}
use Rattle.clf_syntax.specs.TypeTree.{SimpleType}
use Rattle.clf_syntax.specs.Simple.{SimplyTyped}
use Rattle.hered_subst.specs.Substitution.{Substituted}
use Rattle.hered_subst.proofs.Determined.{determined}
use Rattle.hered_subst.proofs.SimpleTyping.{under_zero}
use Rattle.subst_laws.specs.Environments.{Instantiation, instant, ComposedInstantiation}
use Rattle.subst_laws.proofs.Environs.{instant_is_environment}
use Rattle.subst_laws.proofs.Results.{composition}
use Rattle.store_laws.specs.Mentions.{mentions}
use Rattle.store_laws.specs.Additions.{Addition, new, solved, meta_types, given, set}
use Rattle.store_laws.specs.PutIn.{PutIn}
use Rattle.store_laws.specs.Store.{MaySolve, IsStore}
use Rattle.store_laws.proofs.Numbers.{number_cases, set_there, set_else}
use Rattle.store_laws.proofs.Lists.{by_end, types-append}
use Rattle.store_laws.proofs.Closing.{no_families, Gives, gives_typed, next, composed_next, closed_again, next_gives}
use Rattle.store_laws.proofs.Stores.{store_is_cut}
use Rattle.pattern_laws.specs.Instantiations.{Types, closed, Instantiated}
use Rattle.unify_laws.specs.Problems.{Grows}
use Rattle.reach_laws.proofs.PartsUnder.{some_result}
use Rattle.reach_laws.proofs.Rests.{put_in_types}
use Rattle.solver_laws.proofs.Grown.{some_none, cases_of, simply_more, more_scoped, gives_grown}
use Rattle.solver_laws.proofs.Open.{open_typed, open_silent, open_stays, put_is_open}
use Rattle.solver_laws.proofs.Stores.{types_in, given_new, given_solved, heads_closed, whole}
use Rattle.rest_laws.specs.Laws.{LaterAbsorbs}

one_object : {o : Option PlainObject} {a b : PlainObject} → o ≡ Some a → o ≡ Some b → a ≡ b
one_object e f = cc

-- t gives each solved metavariable what it makes of the solution.
abbrev Follows : Instantiation → Instantiation → Type 0
Follows solutions t = (m : ℕ) (o : PlainObject) → solutions m ≡ Some o → (x : PlainObject) × (t m ≡ Some x) × Substituted (instant t) o x

-- All solutions put in; whatever follows the solutions does so too, and then itself.
record Absorbed (constants metas : Types) (solutions : Instantiation) : Type 0 where
  all_in : Instantiation
  put_in : PutIn solutions all_in
  gives : Gives (closed constants metas) all_in
  absorbs : (t : Instantiation) → Gives (closed constants metas) t → Follows solutions t → ComposedInstantiation (closed constants metas) all_in t t

absorbed_none : (constants metas : Types) → Absorbed constants metas (given [])
absorbed_none constants metas = record {
  all_in = (λ m. None);
  put_in = record { unsolved = (λ m e. refl); solved = (λ m o e. absurd (cc)); finished = (λ m x e. absurd (cc)) };
  gives = (λ k x e. absurd (cc));
  absorbs = (λ t g f m a e. inl (refl, refl));
}

from_none : (s : Instantiation) {x y : PlainObject} → Instantiated 0 s x y → Substituted (instant s) x y
from_none s {x} {y} i = subst (λ e. Substituted e x y) (under_zero (instant s)) i

module _ (constants metas : Types) where
  -- what t makes of a tree after s is what it makes of the tree, where it does what s does and then itself
  in_turn : (s t : Instantiation) → Gives (closed constants metas) s → Gives (closed constants metas) t → ComposedInstantiation (closed constants metas) s t t → (x y z : PlainObject) (a : SimpleType) → SimplyTyped (closed constants metas) x a
      → Substituted (instant s) x y → Substituted (instant t) y z → Substituted (instant t) x z
  in_turn s t first second both x y z a p i k = (composition no_families (closed constants metas) (closed constants metas) (closed constants metas) (instant s) (instant t) (instant t)
      ((instant_is_environment (closed constants metas)).0 (closed constants metas) s (gives_typed (closed constants metas) s first))
      ((instant_is_environment (closed constants metas)).0 (closed constants metas) t (gives_typed (closed constants metas) t second))
      ((instant_is_environment (closed constants metas)).1 s t t both)).object x y z a p i k

  result : (t : Instantiation) → Gives (closed constants metas) t → (x : PlainObject) (a : SimpleType) → SimplyTyped (closed constants metas) x a → (y : PlainObject) × Substituted (instant t) x y
  result t g x a p = let (y, i, _) = some_result constants metas t (gives_typed (closed constants metas) t g) [] x a p in (y, from_none t i)

  -- with what t makes of the tree after s
  turned : (s t : Instantiation) → Gives (closed constants metas) s → Gives (closed constants metas) t → ComposedInstantiation (closed constants metas) s t t → (x y z : PlainObject) (a b : SimpleType) → SimplyTyped (closed constants metas) x a → SimplyTyped (closed constants metas) y b
      → Substituted (instant s) x y → Substituted (instant t) x z → Substituted (instant t) y z
  turned s t first second both x y z a b p q i k = let (w, h) = result t second y b q in subst (Substituted (instant t) y) (determined (in_turn s t first second both x y w a p i h) k) h

  -- with one more solution, which goes in no circle
  module _ (solutions : Instantiation) (given_types : Gives (closed constants metas) solutions) (m : ℕ) (o : PlainObject) (a : SimpleType) (unsolved : solutions m ≡ None) (type_of : metas m ≡ Some a) (typed : SimplyTyped (closed constants metas) o a)
      (no_circle : (s : Instantiation) (x : PlainObject) → PutIn solutions s → Substituted (instant s) o x → mentions m x ≡ false) (w : Absorbed constants metas solutions) where
    with_result : (x : PlainObject) → Instantiated 0 w.all_in o x → SimplyTyped (closed constants metas) x a → Absorbed constants metas (set m o solutions)
    with_result x i p = record {
      all_in = next (closed constants metas) solutions w.all_in w.put_in w.gives m o x a unsolved type_of put typed p free silent given_types;
      put_in = closed_again (closed constants metas) solutions w.all_in w.put_in w.gives m o x a unsolved type_of put typed p free silent given_types;
      gives = next_gives (closed constants metas) solutions w.all_in w.put_in w.gives m o x a unsolved type_of put typed p free silent given_types;
      absorbs = absorbs;
    }
      where
        put : Substituted (instant w.all_in) o x
        put = from_none w.all_in i

        free : mentions m x ≡ false
        free = no_circle w.all_in x w.put_in put

        silent : (k : ℕ) (u : PlainObject) → solutions k ≡ Some u → mentions k x ≡ false
        silent k u e = open_silent constants metas solutions [] x a (put_is_open constants metas solutions w.all_in w.put_in w.gives [] o x a typed i) k u e

        only_is : (k : ℕ) (y : PlainObject) → set m x (λ i. None) k ≡ Some y → (k ≡ m) × (x ≡ y)
        only_is k y e = ⊎_elim (λ h. (h, one_object (ap (set m x (λ i. None)) h ∙ set_there m x (λ i. None)) e))
            (λ h. absurd (some_none (set_else m k x (λ i. None) h) e)) (number_cases k m)

        only_gives : Gives (closed constants metas) (set m x (λ i. None))
        only_gives k y e = let (h, f) = only_is k y e in (a, ap metas h ∙ type_of, subst (λ z. SimplyTyped (closed constants metas) z a) f p)

        before : (t : Instantiation) → Follows (set m o solutions) t → Follows solutions t
        before t follows k u e = follows k u (set_else m k o solutions (⊎_elim (λ h. absurd (some_none (ap solutions h ∙ unsolved) e)) (λ h. h) (number_cases k m)) ∙ e)

        first : (t : Instantiation) → Gives (closed constants metas) t → Follows (set m o solutions) t → ComposedInstantiation (closed constants metas) w.all_in t t
        first t g f = w.absorbs t g (before t f)

        -- t does what the new solution alone does, and then itself
        only_first : (t : Instantiation) → Gives (closed constants metas) t → Follows (set m o solutions) t → ComposedInstantiation (closed constants metas) (set m x (λ i. None)) t t
        only_first t g follows k b e = ⊎_elim (λ h. let (y, f, j) = follows m o (set_there m o solutions) in
            inr (x, y, ap (set m x (λ i. None)) h ∙ set_there m x (λ i. None), ap t h ∙ f, turned w.all_in t w.gives g (first t g follows) o x y a a typed p put j))
            (λ h. inl (set_else m k x (λ i. None) h, refl)) (number_cases k m)

        after : Instantiation
        after = next (closed constants metas) solutions w.all_in w.put_in w.gives m o x a unsolved type_of put typed p free silent given_types

        absorbs : (t : Instantiation) → Gives (closed constants metas) t → Follows (set m o solutions) t → ComposedInstantiation (closed constants metas) after t t
        absorbs t g f k b e = ⊎_elim
            (λ h. ⊎_elim (λ u. inl (h.1 ∙ u.0, refl)) (λ u. inr (u.0, u.1, h.1 ∙ u.2, u.3, u.4)) (only_first t g f k b e))
            (λ h. ⊎_elim
            (λ u. absurd (some_none u.0 h.2))
            (λ u. inr (h.1, u.1, h.3, u.3, turned (set m x (λ i. None)) t only_gives g (only_first t g f) h.0 h.1 u.1 b b (typed_old h.0 h.2) (typed_new h.1 h.3) h.4 (subst (λ n. Substituted (instant t) n u.1) (one_object u.2 h.2) u.4)))
            (first t g f k b e))
            (composed_next (closed constants metas) solutions w.all_in w.put_in w.gives m o x a unsolved type_of put typed p free silent given_types k b e)
          where
            one_type : {c d : SimpleType} → Some c ≡ Some d → c ≡ d
            one_type e = cc

            typed_old : (n : PlainObject) → w.all_in k ≡ Some n → SimplyTyped (closed constants metas) n b
            typed_old n h = let (c, t, q) = w.gives k n h in subst (SimplyTyped (closed constants metas) n) (one_type (sym t ∙ e)) q

            typed_new : (n : PlainObject) → after k ≡ Some n → SimplyTyped (closed constants metas) n b
            typed_new n h = let (c, t, q) = next_gives (closed constants metas) solutions w.all_in w.put_in w.gives m o x a unsolved type_of put typed p free silent given_types k n h in subst (SimplyTyped (closed constants metas) n) (one_type (sym t ∙ e)) q

    absorbed_again : Absorbed constants metas (set m o solutions)
    absorbed_again = let (x, i, p) = some_result constants metas w.all_in (gives_typed (closed constants metas) w.all_in w.gives) [] o a typed in with_result x i p

  -- All solutions put in is one instantiation, where there is one that what follows the solutions absorbs.
  put_in_one : (solutions s : Instantiation) → PutIn solutions s → Gives (closed constants metas) s → (w : Absorbed constants metas solutions) → (m : ℕ) (a : SimpleType) → metas m ≡ Some a → s m ≡ w.all_in m
  put_in_one solutions s all gives w m a e = ⊎_elim (λ h. all.unsolved m h ∙ sym (w.put_in.unsolved m h)) (λ h. solved_one h.0 h.1) (cases_of (solutions m))
    where
      solved_one : (o : PlainObject) → solutions m ≡ Some o → s m ≡ w.all_in m
      solved_one o f = let (n, g, i) = w.put_in.solved m o f in ⊎_elim
          (λ u. absurd (some_none u.0 g))
          (λ u. u.3 ∙ ap (λ z. Some z) (determined u.4 (stays u.0 u.2)) ∙ sym u.2)
          (w.absorbs s gives (λ k u h. all.solved k u h) m a e)
        where
          stays : (n : PlainObject) → w.all_in m ≡ Some n → Substituted (instant s) n n
          stays n g = let (b, t, p) = w.gives m n g in open_stays constants metas solutions s all n b (open_typed constants metas solutions [] n b p (λ k u h. w.put_in.finished m n g k u h))

-- ---- the solutions of a store, one after the other

first_get : {X : Type 0} (xs ys : List X) (i : ℕ) (x : X) → slice_get xs i ≡ Some x → slice_get (xs ++ ys) i ≡ Some x
first_get [] ys i x e = absurd (cc)
first_get (y ∷ xs) ys zero x e = e
first_get (y ∷ xs) ys (suc i) x e = first_get xs ys i x e

pub types_grow : (xs more : List Addition) → Grows (types_in xs) (types_in (xs ++ more))
types_grow xs more m a e = ap (λ l. slice_get l m) (types-append xs more) ∙ first_get (meta_types xs) (meta_types more) m a e

module _ (constants : List SimpleType) (zs : List Addition) (store : IsStore constants zs) where
  abbrev Prefix : List Addition → Type 0
  Prefix xs = (more : List Addition) → zs ≡ xs ++ more → Absorbed (slice_get constants) (types_in zs) (given xs)

  prefix_grows : (xs more : List Addition) → zs ≡ xs ++ more → Grows (types_in xs) (types_in zs)
  prefix_grows xs more e m a f = ap (λ l. types_in l m) e ∙ types_grow xs more m a f

  prefix_gives : (xs more : List Addition) → zs ≡ xs ++ more → Gives (closed (slice_get constants) (types_in zs)) (given xs)
  prefix_gives xs more e = gives_grown (slice_get constants) (types_in xs) (types_in zs) (prefix_grows xs more e) (given xs) (whole constants xs (store_is_cut constants xs more (subst (IsStore constants) e store))).given_types

  prefix_solved : (xs : List Addition) (m : ℕ) (o : PlainObject) → Prefix xs → Prefix (xs ++ solved m o ∷ [])
  prefix_solved xs m o f more e = of (store xs m o more whole_list)
    where
      whole_list : zs ≡ xs ++ solved m o ∷ more
      whole_list = e ∙ append_assoc xs (solved m o ∷ []) more

      of : MaySolve constants xs m o → Absorbed (slice_get constants) (types_in zs) (given (xs ++ solved m o ∷ []))
      of may = let (a, t, p) = may.typed in subst (Absorbed (slice_get constants) (types_in zs)) (sym (given_solved xs m o may.unsolved))
          (absorbed_again (slice_get constants) (types_in zs) (given xs) (prefix_gives xs (solved m o ∷ more) whole_list) m o a may.unsolved (prefix_grows xs (solved m o ∷ more) whole_list m a t)
          (simply_more (closed (slice_get constants) (types_in xs)) (closed (slice_get constants) (types_in zs)) o a (more_scoped (slice_get constants) (types_in xs) (types_in zs) [] (prefix_grows xs (solved m o ∷ more) whole_list))
          (subst (λ g. SimplyTyped g o a) (heads_closed constants xs) p))
          may.no_circle (f (solved m o ∷ more) whole_list))

  prefix : (xs : List Addition) → Prefix xs
  prefix = by_end Prefix (λ more e. absorbed_none (slice_get constants) (types_in zs)) step
    where
      step : (xs : List Addition) (x : Addition) → Prefix xs → Prefix (xs ++ x ∷ [])
      step xs (new t) f more e = subst (Absorbed (slice_get constants) (types_in zs)) (sym (given_new xs t)) (f (new t ∷ more) (e ∙ append_assoc xs (new t ∷ []) more))
      step xs (solved m o) f more e = prefix_solved xs m o f more e

stays_if : (b : Bool) (u : PlainObject) {o : PlainObject} {p q : Option PlainObject} → (if b then Some u else p) ≡ Some o → (p ≡ Some o → q ≡ Some o) → (if b then Some u else q) ≡ Some o
stays_if true u e f = e
stays_if false u e f = f e

pub given_stays : (xs more : List Addition) (m : ℕ) (o : PlainObject) → given xs m ≡ Some o → given (xs ++ more) m ≡ Some o
given_stays [] more m o e = absurd (cc)
given_stays (new t ∷ xs) more m o e = given_stays xs more m o e
given_stays (solved k u ∷ xs) more m o e = stays_if (nat_eq m k) u e (given_stays xs more m o)

pub later_absorbs : LaterAbsorbs
later_absorbs constants before after es ready s t first second m a e = ⊎_elim (λ u. inl (same ∙ u.0, refl)) (λ u. inr (u.0, u.1, same ∙ u.2, u.3, u.4)) (w.absorbs t gives_t (λ k o h. second.put_in.solved k o (given_stays before after k o h)) m a e)
  where
    w : Absorbed (slice_get constants) (types_in (before ++ after)) (given before)
    w = prefix constants (before ++ after) ready.store before after refl

    gives_s : Gives (closed (slice_get constants) (types_in (before ++ after))) s
    gives_s = gives_grown (slice_get constants) (types_in before) (types_in (before ++ after)) (types_grow before after) s
        (put_in_types (slice_get constants) (types_in before) (given before) s first (whole constants before (store_is_cut constants before after ready.store)).given_types)

    gives_t : Gives (closed (slice_get constants) (types_in (before ++ after))) t
    gives_t = put_in_types (slice_get constants) (types_in (before ++ after)) (given (before ++ after)) t second (whole constants (before ++ after) ready.store).given_types

    same : s m ≡ w.all_in m
    same = put_in_one (slice_get constants) (types_in (before ++ after)) (given before) s first.put_in gives_s w m a e
