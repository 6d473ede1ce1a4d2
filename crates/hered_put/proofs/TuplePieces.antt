-- What becomes of the entries of a tuple, one after the other.
use Rattle.std.specs.Prelude.{ℕ, ◌+◌, ◌≡◌, List, [], ◌∷◌, ◌++◌, map, length, refl}
use Rattle.std.proofs.Common.{ap, sym, ◌∙◌, arith, ◌<◌, ◌≤◌, drop, get_or, append_assoc}
use Rattle.std.proofs.lemmas.List.{map-append, append-nil}
use Rattle.std.proofs.lemmas.Grind.{common_steps}
use Rattle.clf_syntax.specs.declared.tree.Mode.{Mode}
use Rattle.clf_syntax.specs.declared.tree.TupleEntry.{TupleEntry}
use Rattle.clf_syntax.specs.Tree.{PlainObject}
use Rattle.clf_syntax.specs.Plain.{plain_entry}
use Rattle.clf_syntax.proofs.Next.{dropped}
use Rattle.hered_subst.specs.Substitution.{Environment}
use Rattle.hered_put.specs.Function.{Answer, made, untyped, too_far, after}
use Rattle.hered_put.specs.Pieces.{object_of, in_front, entry_of, entries_of}

-- ---- tuples

unfoldable pub entries_by : Mode → Answer PlainObject → Answer (Mode × PlainObject)
entries_by m a = after a (λ x. made (m, x))

pub entry-by : (k : ℕ) (s : Environment) (e : Mode × PlainObject) → entry_of k s e ≡ entries_by e.0 (object_of k s e.1)
unfolding entry_of entries_by object_of
entry-by k s e = refl

pub entries_by-made : (m : Mode) (o : PlainObject) → entries_by m (made o) ≡ made (m, o)
unfolding entries_by
entries_by-made m o = refl

pub entries_by-untyped : (m : Mode) → entries_by m untyped ≡ untyped
unfolding entries_by
entries_by-untyped m = refl

pub entries_by-too_far : (m : Mode) → entries_by m too_far ≡ too_far
unfolding entries_by
entries_by-too_far m = refl

pub ruleset entry_laws = (entry-by, entries_by-made, entries_by-untyped, entries_by-too_far)

-- one place, and then the rest
unfoldable pub one_more : {Y : Type 0} → Answer Y → Answer (List Y) → Answer (List Y)
one_more a b = after a (λ y. after b (λ ys. made (y ∷ ys)))

pub entries-next : (k : ℕ) (s : Environment) (i : ℕ) (x : TupleEntry) (xs : List TupleEntry) → i < length xs → x ≡ get_or xs i x
    → entries_of k s (map plain_entry (drop i xs)) ≡ one_more (entry_of k s (plain_entry x)) (entries_of k s (map plain_entry (drop (i + 1) xs)))
unfolding entries_of one_more
entries-next k s i x xs h e = ap (λ es. entries_of k s (map plain_entry es)) (dropped xs i x h e)

pub entries-ended : (k : ℕ) (s : Environment) (i : ℕ) (xs : List TupleEntry) → length xs ≤ i → entries_of k s (map plain_entry (drop i xs)) ≡ made []
unfolding entries_of
entries-ended k s i xs h =
    let none : drop i xs ≡ [] = grind (arith, common_steps) in
    rw none

pub in_front-more : {Y : Type 0} (ys : List Y) (y : Y) (b : Answer (List Y)) → in_front ys (one_more (made y) b) ≡ in_front (ys ++ y ∷ []) b
unfolding in_front one_more
in_front-more ys y (made zs) = ap made (sym (append_assoc ys (y ∷ []) zs))
in_front-more ys y untyped = refl
in_front-more ys y too_far = refl

pub in_front-untyped : {Y : Type 0} (ys : List Y) (b : Answer (List Y)) → in_front ys (one_more untyped b) ≡ untyped
unfolding in_front one_more
in_front-untyped ys b = refl

pub in_front-too_far : {Y : Type 0} (ys : List Y) (b : Answer (List Y)) → in_front ys (one_more too_far b) ≡ too_far
unfolding in_front one_more
in_front-too_far ys b = refl

pub in_front-all : {Y : Type 0} (ys : List Y) → in_front ys (made []) ≡ made ys
unfolding in_front
in_front-all ys = ap made (append-nil ys)

pub in_front-none : {Y : Type 0} (b : Answer (List Y)) → in_front [] b ≡ b
unfolding in_front
in_front-none (made zs) = refl
in_front-none untyped = refl
in_front-none too_far = refl

-- a list after which one more was pushed
pub pushed : {X Y : Type 0} (f : X → Y) (xs : List X) (x : X) (new : List X) → new ≡ xs ++ x ∷ [] → map f new ≡ map f xs ++ f x ∷ []
pushed f xs x new e = ap (map f) e ∙ map-append f xs (x ∷ [])

pub ruleset tuple_laws = (map-append, entries-next, entries-ended, in_front-more, in_front-untyped, in_front-too_far, in_front-all, in_front-none)
