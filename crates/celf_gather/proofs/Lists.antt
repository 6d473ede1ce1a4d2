-- Lists that are gone through from the front.
use Rattle.std.proofs.Common.{◌≡◌, ℕ, suc, ◌+◌, ◌<◌, ◌≤◌, Bool, true, false, ◌&&◌, List, [], ◌∷◌, ◌++◌, length, map, reverse, drop, get_or, IsTrue, refl, sym, ap, subst, ◌∙◌, add-one}
use Rattle.std.proofs.Math.Seq.{drop-cons}
use Rattle.std.proofs.lemmas.List.{append_assoc, append-nil, map-append, reverse-append, drop_all}
use Rattle.clf_syntax.specs.declared.tree.Mode.{Mode}
use Rattle.clf_syntax.specs.declared.tree.TeleEntry.{TeleEntry}
use Rattle.clf_syntax.specs.Modes.{same_mode}
use Rattle.clf_syntax.specs.PlainTypes.{plain_ty, plain_tele_entry, plain-tele-entry}
use Rattle.clf_syntax.specs.TypeTree.{PlainType, binding, telescope_of}
use Rattle.clf_syntax.specs.declared.tree.SimpleEntry.{SimpleEntry}
use Rattle.clf_syntax.specs.PlainSimple.{plain_simple_entry}
use Rattle.gathering.specs.Setting.{simple_locals}
use Rattle.celf_constraints.specs.Equated.{plain_locals}
use Rattle.celf_gather.specs.Walks.{erased_entry}
use Rattle.clf_syntax.specs.declared.tree.Obj.{Obj}
use Rattle.clf_syntax.specs.declared.tree.Ty.{Ty}
use Rattle.clf_syntax.specs.Plain.{plain_obj}
use Rattle.clf_syntax.specs.Simple.{erase}
use Rattle.hered_put.specs.Function.{untyped}
use Rattle.pattern_laws.specs.Equations.{Locals, Equation}
use Rattle.celf_gather.specs.Gathered.{modes_fit, pairs_after}

-- the rest of a list from a place on
pub from_place : {X Y : Type 0} (f : X → Y) (xs : List X) (i : ℕ) (x : X) → i < length xs → x ≡ get_or xs i x → map f (drop i xs) ≡ f x ∷ map f (drop (i + 1) xs)
from_place f xs i x l e = rw add-one (ap (map f) (drop-cons xs i x l ∙ ap (λ y. y ∷ drop (suc i) xs) (sym e)))

-- ---- the modes of entries
pub mode_step : (es : List TeleEntry) (ms : List Mode) (i : ℕ) (e : TeleEntry) (d : Mode) {b : Bool} → i < length es → e ≡ get_or es i e → length es ≡ length ms → b ≡ same_mode (get_or ms i d) e.mode
    → modes_fit (telescope_of (map plain_tele_entry (drop i es))) (drop i ms) ≡ (b && modes_fit (telescope_of (map plain_tele_entry (drop (i + 1) es))) (drop (i + 1) ms))
mode_step es ms i e d {b} l q n h = ap (λ t. modes_fit (telescope_of t) (drop i ms)) (from_place plain_tele_entry es i e l q)
    ∙ ap (λ (p : Mode × PlainType). modes_fit (binding p.0 p.1 (telescope_of (map plain_tele_entry (drop (i + 1) es)))) (drop i ms)) (plain-tele-entry e)
    ∙ ap (modes_fit (binding e.mode (plain_tele_entry e).1 (telescope_of (map plain_tele_entry (drop (i + 1) es))))) here
    ∙ ap (λ x. x && modes_fit (telescope_of (map plain_tele_entry (drop (i + 1) es))) (drop (i + 1) ms)) (sym h)
  where
    here : drop i ms ≡ get_or ms i d ∷ drop (i + 1) ms
    here = rw add-one (drop-cons ms i d (subst (λ k. i < k) n l))

never : (b : Bool) → (b && false) ≡ false
never true = refl
never false = refl

pub modes_differ : (xs : List TeleEntry) (ms : List Mode) → (length xs ≡ length ms → ⊥) → modes_fit (telescope_of (map plain_tele_entry xs)) ms ≡ false
modes_differ [] [] n = absurd (n refl)
modes_differ [] (m ∷ ms) n = refl
modes_differ (x ∷ xs) [] n = refl
modes_differ (x ∷ xs) (m ∷ ms) n = ap (λ b. same_mode m (plain_tele_entry x).0 && b) (modes_differ xs ms (λ e. n (ap suc e))) ∙ never _

pub none_differ : (es : List TeleEntry) (ms : List Mode) (i : ℕ) → length es ≤ i → length es ≡ length ms → true ≡ modes_fit (telescope_of (map plain_tele_entry (drop i es))) (drop i ms)
none_differ es ms i l n = sym (ap (λ t. modes_fit (telescope_of (map plain_tele_entry t)) (drop i ms)) (drop_all i es l) ∙ ap (modes_fit (telescope_of [])) (drop_all i ms (subst (λ k. k ≤ i) n l)))

-- ---- lists that are made entry by entry
pub made_more : {X Y W : Type 0} (f : X → W) (h : Y → W) (xs : List X) (ys : List Y) (i : ℕ) (x : X) (y : Y) → i < length ys → y ≡ get_or ys i y → f x ≡ h y
    → map f (xs ++ x ∷ []) ++ map h (drop (i + 1) ys) ≡ map f xs ++ map h (drop i ys)
made_more f h xs ys i x y l q e = ap (λ k. k ++ map h (drop (i + 1) ys)) (map-append f xs (x ∷ [])) ∙ append_assoc (map f xs) (f x ∷ []) (map h (drop (i + 1) ys))
    ∙ ap (λ w. map f xs ++ w ∷ map h (drop (i + 1) ys)) e ∙ ap (λ k. map f xs ++ k) (sym (from_place h ys i y l q))

pub made_all : {X Y W : Type 0} (f : X → W) (h : Y → W) (xs : List X) (ys : List Y) (i : ℕ) → length ys ≤ i → map f xs ++ map h (drop i ys) ≡ map h ys → map f xs ≡ map h ys
made_all f h xs ys i l e = sym (append-nil (map f xs)) ∙ ap (λ k. map f xs ++ map h k) (sym (drop_all i ys l)) ∙ e

pub mapped_reverse : {X Y : Type 0} (f : X → Y) (xs : List X) → map f (reverse xs) ≡ reverse (map f xs)
mapped_reverse f [] = refl
mapped_reverse f (x ∷ xs) = ap (map f) (reverse-append (x ∷ []) xs) ∙ map-append f (reverse xs) (x ∷ []) ∙ ap (λ l. l ++ f x ∷ []) (mapped_reverse f xs) ∙ sym (reverse-append (f x ∷ []) (map f xs))

mapped_twice : {X Y Z : Type 0} (f : X → Y) (h : Y → Z) (xs : List X) → map (λ x. h (f x)) xs ≡ map h (map f xs)
mapped_twice f h [] = refl
mapped_twice f h (x ∷ xs) = ap (λ l. h (f x) ∷ l) (mapped_twice f h xs)

-- the locals with erased types, the newest first
pub locals_made : (xs : List SimpleEntry) (es : List TeleEntry) → map plain_simple_entry xs ≡ map (λ e. erased_entry (plain_tele_entry e)) es → plain_locals xs ≡ simple_locals (reverse (map plain_tele_entry es))
locals_made xs es e = mapped_reverse plain_simple_entry xs ∙ ap reverse (e ∙ mapped_twice plain_tele_entry erased_entry es) ∙ sym (mapped_reverse erased_entry (map plain_tele_entry es))

-- the same item of an equal list
pub in_items : {X : Type 0} {xs ys : List X} → xs ≡ ys → (i : ℕ) {x : X} → x ≡ get_or xs i x → x ≡ get_or ys i x
in_items e i {x} q = q ∙ ap (λ l. get_or l i x) e

pub not_true : IsTrue false → ⊥
not_true e = cc

-- indices of other numbers
pub pairs_differ : (l : Locals) (args : List Ty) (xs ys : List Obj) (p : List Equation) → (length xs ≡ length args → length ys ≡ length args → ⊥)
    → pairs_after l (map erase (map plain_ty args)) (map plain_obj xs) (map plain_obj ys) p ≡ untyped
pairs_differ l [] [] [] p n = absurd (n refl refl)
pairs_differ l [] [] (y ∷ ys) p n = refl
pairs_differ l [] (x ∷ xs) ys p n = refl
pairs_differ l (a ∷ args) [] ys p n = refl
pairs_differ l (a ∷ args) (x ∷ xs) [] p n = refl
pairs_differ l (a ∷ args) (x ∷ xs) (y ∷ ys) p n = pairs_differ l args xs ys _ (λ e f. n (ap suc e) (ap suc f))
