-- Stores as problems: their types and solutions where they grow, and all solutions put in.
use Rattle.std.specs.Prelude.{ℕ, zero, suc, ◌≡◌, ◌<◌, ◌⊎◌, nat_eq, false, List, [], ◌∷◌, ◌++◌, length, Some, None, refl}
use Rattle.std.proofs.Common.{ap, sym, subst, ◌∙◌, arith, inl, ⊎_elim}
use Rattle.std.proofs.lemmas.List.{append-nil}
use Rattle.std.specs.List.{slice_get}
use Rattle.clf_syntax.specs.declared.tree.Head.{Head}
use Rattle.clf_syntax.specs.declared.tree.Head.TheVariants.{Const, Var, Meta}
use Rattle.clf_syntax.specs.Tree.{PlainObject}
use Rattle.clf_syntax.specs.TypeTree.{SimpleType}
use Rattle.clf_syntax.specs.Simple.{SimplyTyped}
use Rattle.clf_syntax.proofs.RenamingLaws.{ext}
use Rattle.hered_subst.specs.Substitution.{Substituted}
use Rattle.hered_subst.proofs.Determined.{determined}
use Rattle.hered_subst.proofs.SimpleTyping.{under_zero}
use Rattle.subst_laws.specs.Environments.{Instantiation, instant}
use Rattle.store_laws.specs.Mentions.{mentions}
use Rattle.store_laws.specs.Additions.{Addition, new, solved, meta_types, given, heads_of}
use Rattle.store_laws.specs.Store.{MaySolve, IsStore}
use Rattle.store_laws.proofs.Numbers.{number_cases, set_there, set_else}
use Rattle.store_laws.proofs.Lists.{by_end, types-append, given-new, given-solved}
use Rattle.store_laws.proofs.Closing.{Gives}
use Rattle.store_laws.proofs.Stores.{store_is_cut}
use Rattle.pattern_laws.specs.Instantiations.{Types, closed, Instantiated, set}
use Rattle.unify_laws.specs.Problems.{Grows}
use Rattle.unify_laws.proofs.Preserved.{grows_new}
use Rattle.reach_laws.specs.Unified.{IsPutIn}
use Rattle.reach_laws.proofs.PartsUnder.{some_result}
use Rattle.reach_laws.proofs.Rests.{put_in_types}
use Rattle.reach_laws.proofs.Again.{put_in_again}
use Rattle.solver_laws.specs.Solving.{unsolved_types}
use Rattle.solver_laws.proofs.Grown.{gives_grown, put_in_grown}
use Rattle.solver_laws.proofs.Open.{open_stays, open_silent, put_is_open, closed_tree}

-- the types of the metavariables of a store
abbrev pub types_in : List Addition → Types
types_in zs = slice_get (meta_types zs)

get_there : {X : Type 0} (xs : List X) (x : X) → slice_get (xs ++ x ∷ []) (length xs) ≡ Some x
get_there [] x = refl
get_there (y ∷ xs) x = get_there xs x

get_else : {X : Type 0} (xs : List X) (x : X) (i : ℕ) → nat_eq i (length xs) ≡ false → slice_get (xs ++ x ∷ []) i ≡ slice_get xs i
get_else [] x zero e = absurd (cc)
get_else [] x (suc i) e = refl
get_else (y ∷ xs) x zero e = refl
get_else (y ∷ xs) x (suc i) e = get_else xs x i (lower i (length xs) e)
  where
    lower : (a b : ℕ) → nat_eq (suc a) (suc b) ≡ false → nat_eq a b ≡ false
    lower a b e = grind arith

get_none : {X : Type 0} (xs : List X) → slice_get xs (length xs) ≡ None
get_none [] = refl
get_none (x ∷ xs) = get_none xs

pub get_below : {X : Type 0} (xs : List X) (i : ℕ) (x : X) → slice_get xs i ≡ Some x → i < length xs
get_below [] i x e = absurd (cc)
get_below (y ∷ xs) zero x e = omega arith
get_below (y ∷ xs) (suc i) x e = let h = get_below xs i x e in omega (arith, h)

pub types_new : (zs : List Addition) (t : SimpleType) → types_in (zs ++ new t ∷ []) ≡ set (length (meta_types zs)) t (types_in zs)
types_new zs t = ext (λ i. ap (λ l. slice_get l i) (types-append zs (new t ∷ [])) ∙ at i (number_cases i (length (meta_types zs))))
  where
    at : (i : ℕ) → (i ≡ length (meta_types zs)) ⊎ (nat_eq i (length (meta_types zs)) ≡ false) → slice_get (meta_types zs ++ t ∷ []) i ≡ set (length (meta_types zs)) t (types_in zs) i
    at i c = ⊎_elim (λ q. ap (slice_get (meta_types zs ++ t ∷ [])) q ∙ get_there (meta_types zs) t ∙ sym (ap (set (length (meta_types zs)) t (types_in zs)) q ∙ set_there (length (meta_types zs)) t (types_in zs)))
        (λ q. get_else (meta_types zs) t i q ∙ sym (set_else (length (meta_types zs)) i t (types_in zs) q)) c

pub no_type_yet : (zs : List Addition) → types_in zs (length (meta_types zs)) ≡ None
no_type_yet zs = get_none (meta_types zs)

pub same_types_solved : (zs : List Addition) (m : ℕ) (o : PlainObject) → meta_types (zs ++ solved m o ∷ []) ≡ meta_types zs
same_types_solved zs m o = types-append zs (solved m o ∷ []) ∙ append-nil (meta_types zs)

pub types_solved : (zs : List Addition) (m : ℕ) (o : PlainObject) → types_in (zs ++ solved m o ∷ []) ≡ types_in zs
types_solved zs m o = ap (λ l. slice_get l) (same_types_solved zs m o)

pub given_new : (zs : List Addition) (t : SimpleType) → given (zs ++ new t ∷ []) ≡ given zs
given_new zs t = ext (given-new zs t)

pub given_solved : (zs : List Addition) (m : ℕ) (o : PlainObject) → given zs m ≡ None → given (zs ++ solved m o ∷ []) ≡ set m o (given zs)
given_solved zs m o e = ext (given-solved zs m o e)

pub heads_closed : (constants : List SimpleType) (zs : List Addition) → heads_of constants zs ≡ closed (slice_get constants) (types_in zs)
heads_closed constants zs = ext at
  where
    at : (h : Head) → heads_of constants zs h ≡ closed (slice_get constants) (types_in zs) h
    at (Const c) = refl
    at (Var i) = refl
    at (Meta m) = refl

-- ---- all solutions put in

-- what is wanted of a store
pub record Whole (constants : List SimpleType) (zs : List Addition) : Type 0 where
  pub all_in : Instantiation
  pub put_in : IsPutIn (slice_get constants) (types_in zs) (given zs) all_in
  pub given_types : Gives (closed (slice_get constants) (types_in zs)) (given zs)

whole_none : (constants : List SimpleType) → Whole constants []
whole_none constants = record {
  all_in = (λ m. None);
  put_in = record {
    put_in = record { unsolved = (λ m e. refl); solved = (λ m o e. absurd (cc)); finished = (λ m x e. absurd (cc)) };
    assigns = ((λ c u e. e), (λ i u e. e), (λ m u e. inl (refl, e)));
    instances = (λ parameters t i g m o e. absurd (cc));
  };
  given_types = (λ k x e. absurd (cc));
}

-- over other types and solutions that are the same
moved : (constants : List SimpleType) (zs : List Addition) (metas : Types) (solutions : Instantiation) (s : Instantiation) → types_in zs ≡ metas → given zs ≡ solutions
    → IsPutIn (slice_get constants) metas solutions s → Gives (closed (slice_get constants) metas) solutions → Whole constants zs
moved constants zs metas solutions s e f p g = record {
  all_in = s;
  put_in = subst (λ m. IsPutIn (slice_get constants) m (given zs) s) (sym e) (subst (λ r. IsPutIn (slice_get constants) metas r s) (sym f) p);
  given_types = subst (λ m. Gives (closed (slice_get constants) m) (given zs)) (sym e) (subst (Gives (closed (slice_get constants) metas)) (sym f) g);
}

pub whole_gives : (constants : List SimpleType) (zs : List Addition) (w : Whole constants zs) → Gives (closed (slice_get constants) (types_in zs)) w.all_in
whole_gives constants zs w = put_in_types (slice_get constants) (types_in zs) (given zs) w.all_in w.put_in w.given_types

whole_new : (constants : List SimpleType) (zs : List Addition) (t : SimpleType) → Whole constants zs → Whole constants (zs ++ new t ∷ [])
whole_new constants zs t w = moved constants (zs ++ new t ∷ []) (set (length (meta_types zs)) t (types_in zs)) (given zs) w.all_in (types_new zs t) (given_new zs t)
    (put_in_grown (slice_get constants) (types_in zs) (set (length (meta_types zs)) t (types_in zs)) grows (given zs) w.all_in w.put_in (whole_gives constants zs w))
    (gives_grown (slice_get constants) (types_in zs) (set (length (meta_types zs)) t (types_in zs)) grows (given zs) w.given_types)
  where
    grows : Grows (types_in zs) (set (length (meta_types zs)) t (types_in zs))
    grows = grows_new (types_in zs) (length (meta_types zs)) t (no_type_yet zs)

-- one more solution that gives what it is typed at
pub gives_more : (constants metas : Types) (solutions : Instantiation) (m : ℕ) (o : PlainObject) (a : SimpleType) → metas m ≡ Some a → SimplyTyped (closed constants metas) o a → Gives (closed constants metas) solutions → Gives (closed constants metas) (set m o solutions)
gives_more constants metas solutions m o a e p g k x f = ⊎_elim
    (λ h. (a, ap metas h ∙ e, subst (λ u. SimplyTyped (closed constants metas) u a) (one_object (sym (set_there m o solutions) ∙ sym (ap (set m o solutions) h) ∙ f)) p))
    (λ h. g k x (sym (set_else m k o solutions h) ∙ f)) (number_cases k m)
  where
    one_object : {a b : PlainObject} → Some a ≡ Some b → a ≡ b
    one_object e = cc

whole_solved : (constants : List SimpleType) (zs : List Addition) (m : ℕ) (o : PlainObject) → MaySolve constants zs m o → Whole constants zs → Whole constants (zs ++ solved m o ∷ [])
whole_solved constants zs m o may w = let (a, type_of, typed_o) = may.typed in
    let p = subst (λ g. SimplyTyped g o a) (heads_closed constants zs) typed_o in
    let (x, put, tx) = some_result (slice_get constants) (types_in zs) w.all_in w.put_in.assigns [] o a p in
    let (v, again) = put_in_again (slice_get constants) (types_in zs) (given zs) w.all_in w.put_in w.given_types m o x a may.unsolved type_of p (closed_put put)
    (may.no_circle w.all_in x w.put_in.put_in (closed_put put))
    (λ k u e. open_silent (slice_get constants) (types_in zs) (given zs) [] x a (put_is_open (slice_get constants) (types_in zs) (given zs) w.all_in w.put_in.put_in (whole_gives constants zs w) [] o x a p put) k u e) in
    moved constants (zs ++ solved m o ∷ []) (types_in zs) (set m o (given zs)) v (types_solved zs m o) (given_solved zs m o may.unsolved) again
    (gives_more (slice_get constants) (types_in zs) (given zs) m o a type_of p w.given_types)
  where
    closed_put : {x : PlainObject} → Instantiated 0 w.all_in o x → Substituted (instant w.all_in) o x
    closed_put {x} i = subst (λ e. Substituted e o x) (under_zero (instant w.all_in)) i

pub whole : (constants : List SimpleType) (zs : List Addition) → IsStore constants zs → Whole constants zs
whole constants zs = by_end (λ l. IsStore constants l → Whole constants l) (λ h. whole_none constants) step zs
  where
    step : (xs : List Addition) (x : Addition) → (IsStore constants xs → Whole constants xs) → IsStore constants (xs ++ x ∷ []) → Whole constants (xs ++ x ∷ [])
    step xs (new t) f h = whole_new constants xs t (f (store_is_cut constants xs (new t ∷ []) h))
    step xs (solved m o) f h = whole_solved constants xs m o (h xs m o [] refl) (f (store_is_cut constants xs (solved m o ∷ []) h))

-- ---- what may be solved

-- An object that mentions nothing solved, nor the metavariable, may be its solution.
pub may_solve : (constants : List SimpleType) (zs : List Addition) (m : ℕ) (o : PlainObject) (a : SimpleType) → given zs m ≡ None → types_in zs m ≡ Some a
    → SimplyTyped (closed (slice_get constants) (unsolved_types (types_in zs) (given zs))) o a → mentions m o ≡ false → MaySolve constants zs m o
may_solve constants zs m o a unsolved type_of typed free = record {
  unsolved = unsolved;
  typed = (a, type_of, subst (λ g. SimplyTyped g o a) (sym (heads_closed constants zs)) (closed_tree (slice_get constants) (types_in zs) (given zs) o a typed));
  no_circle = (λ s x all put. subst (λ y. mentions m y ≡ false) (determined (open_stays (slice_get constants) (types_in zs) (given zs) s all o a typed) put) free);
}
