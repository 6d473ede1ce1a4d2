-- In a flat store all solutions put in are flat, and so are flat equations with these put in.
use Rattle.std.specs.Prelude.{ℕ, Bool, true, false, zero, suc, ◌≡◌, nat_eq, if◌then◌else◌, List, [], ◌∷◌, ◌++◌, length, Option, Some, None, refl}
use Rattle.std.proofs.Common.{ap, sym, subst, ◌∙◌, ⊎_elim, append_assoc}
use Rattle.std.proofs.lemmas.List.{append-nil}
use Rattle.std.specs.List.{slice_get}
use Rattle.clf_syntax.specs.Tree.{PlainObject}
use Rattle.clf_syntax.specs.TypeTree.{SimpleType}
use Rattle.clf_syntax.specs.Simple.{SimplyTyped}
use Rattle.hered_subst.specs.Substitution.{Substituted}
use Rattle.hered_subst.proofs.SimpleTyping.{under_zero}
use Rattle.subst_laws.specs.Environments.{Instantiation, instant}
use Rattle.store_laws.specs.Mentions.{mentions}
use Rattle.store_laws.specs.Additions.{Addition, new, solved, meta_types, given, set}
use Rattle.store_laws.specs.PutIn.{PutIn}
use Rattle.store_laws.specs.Store.{MaySolve, IsStore}
use Rattle.store_laws.proofs.Numbers.{number_cases, set_there, set_else}
use Rattle.store_laws.proofs.Lists.{by_end, types-append}
use Rattle.store_laws.proofs.Closing.{Gives, gives_typed, next, composed_next, closed_again, next_gives}
use Rattle.store_laws.proofs.Stores.{store_is_cut}
use Rattle.pattern_laws.specs.Instantiations.{Types, closed, Instantiated}
use Rattle.pattern_laws.specs.Equations.{scoped, Equation, Listed}
use Rattle.unify_laws.specs.Problems.{Grows}
use Rattle.reach_laws.specs.Rest.{EquationUnder, EachUnder}
use Rattle.reach_laws.proofs.PartsUnder.{some_result}
use Rattle.reach_laws.proofs.Rests.{typed_listed}
use Rattle.answer_laws.proofs.InTurn.{listed_back}
use Rattle.flat_laws.specs.Flat.{Flat}
use Rattle.flat_laws.proofs.FlatPut.{FlatTypes, flat_put}
use Rattle.solver_laws.proofs.Grown.{some_none, simply_more, more_scoped, gives_grown}
use Rattle.solver_laws.proofs.Open.{open_silent, put_is_open}
use Rattle.solver_laws.proofs.Stores.{types_in, given_new, given_solved, heads_closed, whole}
use Rattle.solver_laws.proofs.Allowed.{gives_closed}
use Rattle.flat_systems.specs.Systems.{FlatStore, FlatEquation}
use Rattle.flat_systems.specs.Laws.{FlatIsPutIn}

one_object : {a b : PlainObject} → Some a ≡ Some b → a ≡ b
one_object e = cc

one_type : {a b : SimpleType} → Some a ≡ Some b → a ≡ b
one_type e = cc

-- Each object that the instantiation gives is typed and flat.
abbrev FlatGives : Types → Types → Instantiation → Type 0
FlatGives constants metas s = (k : ℕ) (x : PlainObject) (a : SimpleType) → s k ≡ Some x → metas k ≡ Some a → SimplyTyped (closed constants metas) x a × Flat (closed constants metas) x a

-- All solutions put in, where each is flat.
record FlatWhole (constants metas : Types) (solutions : Instantiation) : Type 0 where
  all_in : Instantiation
  put_in : PutIn solutions all_in
  gives : Gives (closed constants metas) all_in
  flat : FlatGives constants metas all_in

flat_none : (constants metas : Types) → FlatWhole constants metas (given [])
flat_none constants metas = record {
  all_in = (λ m. None);
  put_in = record { unsolved = (λ m e. refl); solved = (λ m o e. absurd (cc)); finished = (λ m x e. absurd (cc)) };
  gives = (λ k x e. absurd (cc));
  flat = (λ k x a e f. absurd (cc));
}

at_none : (s : Instantiation) {x y : PlainObject} → Substituted (instant s) x y → Instantiated 0 s x y
at_none s {x} {y} i = subst (λ e. Substituted e x y) (sym (under_zero (instant s))) i

from_none : (s : Instantiation) {x y : PlainObject} → Instantiated 0 s x y → Substituted (instant s) x y
from_none s {x} {y} i = subst (λ e. Substituted e x y) (under_zero (instant s)) i

-- With one more flat solution, which goes in no circle.
module _ (constants metas : Types) (solutions : Instantiation) (types : FlatTypes (closed constants metas)) (gives : Gives (closed constants metas) solutions)
    (m : ℕ) (o : PlainObject) (a : SimpleType) (unsolved : solutions m ≡ None) (type_of : metas m ≡ Some a) (typed : SimplyTyped (closed constants metas) o a) (flat : Flat (closed constants metas) o a)
    (no_circle : (s : Instantiation) (x : PlainObject) → PutIn solutions s → Substituted (instant s) o x → mentions m x ≡ false) (w : FlatWhole constants metas solutions) where
  with_result : (x : PlainObject) → Instantiated 0 w.all_in o x → SimplyTyped (closed constants metas) x a → FlatWhole constants metas (set m o solutions)
  with_result x i p = record {
    all_in = next (closed constants metas) solutions w.all_in w.put_in w.gives m o x a unsolved type_of put typed p free silent gives;
    put_in = closed_again (closed constants metas) solutions w.all_in w.put_in w.gives m o x a unsolved type_of put typed p free silent gives;
    gives = next_gives (closed constants metas) solutions w.all_in w.put_in w.gives m o x a unsolved type_of put typed p free silent gives;
    flat = flat_next;
  }
    where
      put : Substituted (instant w.all_in) o x
      put = from_none w.all_in i

      free : mentions m x ≡ false
      free = no_circle w.all_in x w.put_in put

      silent : (k : ℕ) (u : PlainObject) → solutions k ≡ Some u → mentions k x ≡ false
      silent k u e = open_silent constants metas solutions [] x a (put_is_open constants metas solutions w.all_in w.put_in w.gives [] o x a typed i) k u e

      flat_x : Flat (closed constants metas) x a
      flat_x = flat_put constants metas w.all_in (gives_typed (closed constants metas) w.all_in w.gives) types w.flat o [] a x flat typed i

      only_is : (k : ℕ) (y : PlainObject) → set m x (λ i. None) k ≡ Some y → (k ≡ m) × (x ≡ y)
      only_is k y e = ⊎_elim (λ h. (h, one_object (sym (set_there m x (λ i. None)) ∙ sym (ap (set m x (λ i. None)) h) ∙ e)))
          (λ h. absurd (some_none (set_else m k x (λ i. None) h) e)) (number_cases k m)

      only_gives : Gives (closed constants metas) (set m x (λ i. None))
      only_gives k y e = let (h, f) = only_is k y e in (a, ap metas h ∙ type_of, subst (λ z. SimplyTyped (closed constants metas) z a) f p)

      only_flat : FlatGives constants metas (set m x (λ i. None))
      only_flat k y b e t = let (h, f) = only_is k y e in
          subst (λ c. SimplyTyped (closed constants metas) y c × Flat (closed constants metas) y c) (one_type (sym type_of ∙ ap metas (sym h) ∙ t))
          (subst (λ z. SimplyTyped (closed constants metas) z a) f p, subst (λ z. Flat (closed constants metas) z a) f flat_x)

      flat_next : FlatGives constants metas (next (closed constants metas) solutions w.all_in w.put_in w.gives m o x a unsolved type_of put typed p free silent gives)
      flat_next k y b e t = (
        there,
        ⊎_elim
            (λ h. (only_flat k y b (sym h.1 ∙ e) t).1)
            (λ h. let (q, f) = w.flat k h.0 b h.2 t in subst (λ z. Flat (closed constants metas) z b) (one_object (sym h.3 ∙ e))
            (flat_put constants metas (set m x (λ i. None)) (gives_typed (closed constants metas) (set m x (λ i. None)) only_gives) types only_flat h.0 [] b h.1 f q (at_none (set m x (λ i. None)) h.4)))
            (composed_next (closed constants metas) solutions w.all_in w.put_in w.gives m o x a unsolved type_of put typed p free silent gives k b t),
      )
        where
          there : SimplyTyped (closed constants metas) y b
          there = let (c, u, q) = next_gives (closed constants metas) solutions w.all_in w.put_in w.gives m o x a unsolved type_of put typed p free silent gives k y e in
              subst (SimplyTyped (closed constants metas) y) (one_type (sym u ∙ t)) q

  flat_again : FlatWhole constants metas (set m o solutions)
  flat_again = let (x, i, p) = some_result constants metas w.all_in (gives_typed (closed constants metas) w.all_in w.gives) [] o a typed in with_result x i p

-- ---- the solutions of a store, one after the other

first_get : {X : Type 0} (xs ys : List X) (i : ℕ) (x : X) → slice_get xs i ≡ Some x → slice_get (xs ++ ys) i ≡ Some x
first_get [] ys i x e = absurd (cc)
first_get (y ∷ xs) ys zero x e = e
first_get (y ∷ xs) ys (suc i) x e = first_get xs ys i x e

types_grow : (xs more : List Addition) → Grows (types_in xs) (types_in (xs ++ more))
types_grow xs more m a e = ap (λ l. slice_get l m) (types-append xs more) ∙ first_get (meta_types xs) (meta_types more) m a e

stays_if : (b : Bool) (u : PlainObject) {o : PlainObject} {p q : Option PlainObject} → (if b then Some u else p) ≡ Some o → (p ≡ Some o → q ≡ Some o) → (if b then Some u else q) ≡ Some o
stays_if true u e f = e
stays_if false u e f = f e

given_stays : (xs more : List Addition) (m : ℕ) (o : PlainObject) → given xs m ≡ Some o → given (xs ++ more) m ≡ Some o
given_stays [] more m o e = absurd (cc)
given_stays (new t ∷ xs) more m o e = given_stays xs more m o e
given_stays (solved k u ∷ xs) more m o e = stays_if (nat_eq m k) u e (given_stays xs more m o)

module _ (constants : List SimpleType) (zs : List Addition) (store : IsStore constants zs) (flat : FlatStore constants zs) where
  abbrev Prefix : List Addition → Type 0
  Prefix xs = (more : List Addition) → zs ≡ xs ++ more → FlatWhole (slice_get constants) (types_in zs) (given xs)

  prefix_grows : (xs more : List Addition) → zs ≡ xs ++ more → Grows (types_in xs) (types_in zs)
  prefix_grows xs more e m a f = ap (λ l. types_in l m) e ∙ types_grow xs more m a f

  prefix_gives : (xs more : List Addition) → zs ≡ xs ++ more → Gives (closed (slice_get constants) (types_in zs)) (given xs)
  prefix_gives xs more e = gives_grown (slice_get constants) (types_in xs) (types_in zs) (prefix_grows xs more e) (given xs) (whole constants xs (store_is_cut constants xs more (subst (IsStore constants) e store))).given_types

  prefix_solved : (xs : List Addition) (m : ℕ) (o : PlainObject) → Prefix xs → Prefix (xs ++ solved m o ∷ [])
  prefix_solved xs m o f more e = of (store xs m o more whole_list)
    where
      whole_list : zs ≡ xs ++ solved m o ∷ more
      whole_list = e ∙ append_assoc xs (solved m o ∷ []) more

      of : MaySolve constants xs m o → FlatWhole (slice_get constants) (types_in zs) (given (xs ++ solved m o ∷ []))
      of may = let (a, t, p) = may.typed in subst (FlatWhole (slice_get constants) (types_in zs)) (sym (given_solved xs m o may.unsolved))
          (flat_again (slice_get constants) (types_in zs) (given xs) flat.types (prefix_gives xs (solved m o ∷ more) whole_list) m o a may.unsolved (prefix_grows xs (solved m o ∷ more) whole_list m a t)
          (simply_more (closed (slice_get constants) (types_in xs)) (closed (slice_get constants) (types_in zs)) o a (more_scoped (slice_get constants) (types_in xs) (types_in zs) [] (prefix_grows xs (solved m o ∷ more) whole_list))
          (subst (λ g. SimplyTyped g o a) (heads_closed constants xs) p))
          (flat.solutions m o a (ap (λ l. given l m) e ∙ given_stays (xs ++ solved m o ∷ []) more m o (ap (λ h. h m) (given_solved xs m o may.unsolved) ∙ set_there m o (given xs)))
          (prefix_grows xs (solved m o ∷ more) whole_list m a t))
          may.no_circle (f (solved m o ∷ more) whole_list))

  prefix : (xs : List Addition) → Prefix xs
  prefix = by_end Prefix (λ more e. flat_none (slice_get constants) (types_in zs)) step
    where
      step : (xs : List Addition) (x : Addition) → Prefix xs → Prefix (xs ++ x ∷ [])
      step xs (new t) f more e = subst (FlatWhole (slice_get constants) (types_in zs)) (sym (given_new xs t)) (f (new t ∷ more) (e ∙ append_assoc xs (new t ∷ []) more))
      step xs (solved m o) f more e = prefix_solved xs m o f more e

  flat_whole : FlatWhole (slice_get constants) (types_in zs) (given zs)
  flat_whole = prefix zs [] (sym (append-nil zs))

pub flat_is_put_in : FlatIsPutIn
flat_is_put_in constants zs es ready flat ds put = record { store = flat.store; equations = equations }
  where
    w : FlatWhole (slice_get constants) (types_in zs) (given zs)
    w = flat_whole constants zs ready.store flat.store

    under : EachUnder w.all_in es ds
    under = put w.all_in w.put_in (gives_closed (slice_get constants) (types_in zs) w.all_in w.gives)

    at : (e d : Equation) → EquationUnder w.all_in e d → (x y : PlainObject) → SimplyTyped (scoped e.locals (closed (slice_get constants) (types_in zs))) x e.type → Flat (scoped e.locals (closed (slice_get constants) (types_in zs))) x e.type
        → Instantiated (length e.locals) w.all_in x y → Flat (scoped d.locals (closed (slice_get constants) (types_in zs))) y d.type
    at e d u x y p f i = subst (λ ls. Flat (scoped ls (closed (slice_get constants) (types_in zs))) y d.type) (sym u.locals) (subst (λ t. Flat (scoped e.locals (closed (slice_get constants) (types_in zs))) y t) (sym u.type)
        (flat_put (slice_get constants) (types_in zs) w.all_in (gives_typed (closed (slice_get constants) (types_in zs)) w.all_in w.gives) flat.store.types w.flat x e.locals e.type y f p i))

    equations : (d : Equation) → Listed d ds → FlatEquation (slice_get constants) (types_in zs) d
    equations d l = let (e, k, u) = listed_back w.all_in d l es under in let (p, q) = typed_listed (slice_get constants) (types_in zs) e es k ready.typed in
        (at e d u e.left d.left p (flat.equations e k).0 u.left, at e d u e.right d.right q (flat.equations e k).1 u.right)
