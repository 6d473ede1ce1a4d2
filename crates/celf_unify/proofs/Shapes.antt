-- The arguments of a metavariable, read off its type.
use Rattle.std.specs.Prelude.{ℕ, zero, suc, get_or, ◌<◌, ◌≡◌, ◌⊎◌, Bool, true, false, List, [], ◌∷◌, ◌++◌, length, map, reverse, Some, None, refl}
use Rattle.std.proofs.Common.{ap, sym, subst, ◌∙◌, inl, inr, arith, ⊎_elim}
use Rattle.std.proofs.lemmas.List.{map-append, reverse-append, length-append, length-map}
use Rattle.std.specs.List.{slice_get}
use Rattle.clf_syntax.specs.declared.tree.Mode.{Mode}
use Rattle.clf_syntax.specs.declared.tree.Simple.{Simple, Atom, With, Top, Monad}
use Rattle.clf_syntax.specs.declared.tree.SimpleEntry.{SimpleEntry}
use Rattle.clf_syntax.specs.declared.tree.Head.TheVariants.{Meta}
use Rattle.clf_syntax.specs.Tree.{PlainObject, lam, atomic, PlainNeutral, head_alone}
use Rattle.clf_syntax.specs.TypeTree.{SimpleType, base, arrow, simple_with, simple_top, lax}
use Rattle.clf_syntax.specs.PlainSimple.{plain_simple, plain-Atom, plain-SimpleWith, plain-SimpleTop, plain-SimpleMonad}
use Rattle.store_laws.specs.Additions.{new, meta_types, given}
use Rattle.store_laws.proofs.Lists.{types-append}
use Rattle.pattern_laws.specs.Patterns.{IsFinal, HasFinalResult, Place, on, lams, arrows, masked, functions, SameTypes}
use Rattle.pattern_laws.proofs.Places.{same_types}
use Rattle.solver_laws.proofs.Stores.{given_new}
use Rattle.metavars.specs.Stored.{Stored, Added, added_new, plain_added, additions, with_addition}
use Rattle.celf_unify.specs.Narrowed.{HasShape, NarrowsTo}

-- one argument more, in front of a function
pub shape_next : (before more ps : List Place) (m : Mode) (d c end : SimpleType) (w : ℕ) → more ≡ before ++ (m, d, w) ∷ [] → HasShape (arrows (reverse more) c) ps end → HasShape (arrows (reverse before) (arrow m d c)) ps end
shape_next before more ps m d c end w e h = record { whole = h.whole ∙ ap (λ l. arrows (reverse l) c) e ∙ ap (λ l. arrows l c) (reverse-append before ((m, d, w) ∷ [])); no_function = h.no_function }

-- a function's result in the end
final_result : (ps : List Place) (c : SimpleType) → HasFinalResult (arrows ps c) → HasFinalResult c
final_result [] c h = h
final_result (p ∷ ps) c h = final_result ps (arrow p.0 p.1 c) h

result_final : (ps : List Place) (c : SimpleType) → HasFinalResult c → HasFinalResult (arrows ps c)
result_final [] c h = h
result_final (p ∷ ps) c h = result_final ps (arrow p.0 p.1 c) h

final_has : (c : SimpleType) → IsFinal c → HasFinalResult c
final_has c f = ⊎_elim (λ u. subst HasFinalResult (sym u.1) tt) (λ u. subst HasFinalResult (sym u.1) tt) f

final_end : (c : SimpleType) → HasFinalResult c → functions c ≡ 0 → IsFinal c
final_end (base f) h e = inl (f, refl)
final_end (arrow m d c) h e = absurd (omega (arith, e))
final_end (simple_with c d) h e = absurd h
final_end simple_top h e = absurd h
final_end (lax ts) h e = inr (ts, refl)

-- Two shapes of one type have the same modes and types.
pub same_shape : (t : SimpleType) (ps zs : List Place) (end c : SimpleType) → HasShape t ps end → t ≡ arrows zs c → IsFinal c → SameTypes ps zs × (end ≡ c)
same_shape t ps zs end c h e f = same_types ps zs end c (final_end end (final_result ps end (subst HasFinalResult (sym (h.whole ∙ e)) (result_final zs c (final_has c f)))) h.no_function) f (h.whole ∙ e)

pub same_masked : (i : ℕ) (bs : List Bool) (ps zs : List Place) → SameTypes ps zs → masked i bs ps ≡ masked i bs zs
same_masked i [] ps zs s = refl
same_masked i (b ∷ bs) [] [] s = refl
same_masked i (b ∷ bs) [] (z ∷ zs) s = absurd s
same_masked i (b ∷ bs) (p ∷ ps) [] s = absurd s
same_masked i (true ∷ bs) (p ∷ ps) (z ∷ zs) s = both s.0 s.1 (same_masked (suc i) bs ps zs s.2)
  where
    both : {us cs : List Place} → p.0 ≡ z.0 → p.1 ≡ z.1 → us ≡ cs → ◌≡◌ {A = List Place} ((p.0, p.1, i) ∷ us) ((z.0, z.1, i) ∷ cs)
    both e f g = rw (e, f, g) refl
same_masked i (false ∷ bs) (p ∷ ps) (z ∷ zs) s = same_masked (suc i) bs ps zs s.2

pub same_lams : (ps zs : List Place) (b : PlainObject) → SameTypes ps zs → lams ps b ≡ lams zs b
same_lams [] [] b s = refl
same_lams [] (z ∷ zs) b s = absurd s
same_lams (p ∷ ps) [] b s = absurd s
same_lams (p ∷ ps) (z ∷ zs) b s = same_lams ps zs (lam p.0 b) s.2 ∙ ap (λ m. lams zs (lam m b)) s.0

pub turned : {X Y : Type 0} (f : X → Y) (xs : List X) → map f (reverse xs) ≡ reverse (map f xs)
turned f [] = refl
turned f (x ∷ xs) = ap (map f) (reverse-append (x ∷ []) xs) ∙ map-append f (reverse xs) (x ∷ []) ∙ ap (λ ys. ys ++ f x ∷ []) (turned f xs) ∙ sym (reverse-append (f x ∷ []) (map f xs))

-- what is no function
pub no_function : (t : Simple) → ((f : ℕ) × (t ≡ Atom f)) ⊎ (((l : Simple) × (r : Simple) × (t ≡ With l r)) ⊎ ((t ≡ Top) ⊎ ((es : List SimpleEntry) × (t ≡ Monad es)))) → functions (plain_simple t) ≡ 0
no_function t h = ⊎_elim (λ u. ap (λ x. functions (plain_simple x)) u.1 ∙ ap functions (plain-Atom u.0))
    (λ k. ⊎_elim (λ u. ap (λ x. functions (plain_simple x)) u.2 ∙ ap functions (plain-SimpleWith u.0 u.1))
    (λ j. ⊎_elim (λ u. ap (λ x. functions (plain_simple x)) u ∙ ap functions plain-SimpleTop) (λ u. ap (λ x. functions (plain_simple x)) u.1 ∙ ap functions (plain-SimpleMonad u.0)) j) k) h

-- ---- what was added

added_more : (s t : Stored) (a : Added) → t ≡ with_addition s a → additions t ≡ additions s ++ plain_added a ∷ []
added_more s t a e = ap additions e ∙ map-append plain_added s.added (a ∷ [])

module _ (s t : Stored) (k : ℕ) (ty : Simple) (more : t ≡ with_addition s (added_new ty)) where
  pub still_there : k < length (meta_types (additions s)) → k < length (meta_types (additions t))
  still_there l =
      let e = ap (λ zs. length (meta_types zs)) (added_more s t (added_new ty) more) ∙ ap length (types-append (additions s) (new (plain_simple ty) ∷ [])) ∙ length-append (meta_types (additions s)) (plain_simple ty ∷ []) in
      omega (arith, l, e)

  pub still_unsolved : given (additions s) k ≡ None → given (additions t) k ≡ None
  still_unsolved u = ap (λ zs. given zs k) (added_more s t (added_new ty) more) ∙ ap (λ g. g k) (given_new (additions s) (plain_simple ty)) ∙ u

-- What is made of the shape of a metavariable's type.
pub narrows : (s : Stored) (k : ℕ) (mask : List Bool) (t : SimpleType) (ps ks : List Place) (end : SimpleType) (n : ℕ) (u : SimpleType) (q : PlainNeutral) (o : PlainObject)
    → slice_get (meta_types (additions s)) k ≡ Some t → HasShape t ps end → ks ≡ masked 0 mask ps → n ≡ length (meta_types (additions s)) → u ≡ arrows ks end → q ≡ on ks (head_alone (Meta n)) → o ≡ lams ps (atomic q) → NarrowsTo s k mask u o
narrows s k mask t ps ks end n u q o e h f g i j l zs c type final =
    let (same, last) = same_shape t ps zs end c h (one_type (sym e ∙ type)) final in
    let ms : ks ≡ masked 0 mask zs = f ∙ same_masked 0 mask ps zs same in (
      i ∙ ap (λ m. arrows m end) ms ∙ ap (arrows (masked 0 mask zs)) last,
      l ∙ same_lams ps zs (atomic q) same ∙ ap (λ p. lams zs (atomic p)) (j ∙ ap (λ m. on m (head_alone (Meta n))) ms ∙ ap (λ m. on (masked 0 mask zs) (head_alone (Meta m))) g),
    )
  where
    one_type : {a b : SimpleType} → Some a ≡ Some b → a ≡ b
    one_type e = cc

pub get_there : (xs : List Simple) (i : ℕ) (x : Simple) → i < length xs → x ≡ get_or xs i x → slice_get (map plain_simple xs) i ≡ Some (plain_simple x)
get_there [] i x l e = absurd (omega arith)
get_there (y ∷ xs) zero x l e = ap (λ z. Some (plain_simple z)) (sym e)
get_there (y ∷ xs) (suc i) x l e = get_there xs i x (omega arith) e

pub counted : (xs : List Simple) (ts : List SimpleType) → map plain_simple xs ≡ ts → length xs ≡ length ts
counted xs ts e = sym (length-map xs plain_simple) ∙ ap length e
