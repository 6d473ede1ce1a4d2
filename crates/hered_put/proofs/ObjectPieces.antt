-- What becomes of an object, by its form, and of a value under an argument.
use Rattle.std.specs.Prelude.{ℕ, ◌+◌, ◌≡◌, Bool, false, if◌then◌else◌, refl}
use Rattle.std.proofs.Common.{ap, sym, ◌∙◌, add-one}
use Rattle.clf_syntax.specs.declared.tree.Mode.{Mode}
use Rattle.clf_syntax.specs.declared.tree.Mode.TheVariants.{Persistent, Affine, Linear}
use Rattle.clf_syntax.specs.declared.tree.Obj.{Obj, Lam}
use Rattle.clf_syntax.specs.Tree.{PlainObject, lam, pair, unit, monadic, atomic, hole, PlainNeutral, PlainExpression}
use Rattle.clf_syntax.specs.Plain.{plain_obj, plain-Lam}
use Rattle.hered_subst.specs.Substitution.{Environment, under, single}
use Rattle.clf_syntax.specs.Modes.{same_mode}
use Rattle.hered_put.specs.Function.{Answer, made, untyped, too_far, after, Outcome, kept, value, as_object, nested}
use Rattle.hered_put.proofs.Typed.{same-itself}
use Rattle.hered_put.specs.Pieces.{object_of, neutral_of, expression_of, applied_of}

-- ---- objects

unfoldable pub lams : Mode → Answer PlainObject → Answer PlainObject
lams m a = after a (λ x. made (lam m x))

pub lams-made : (m : Mode) (x : PlainObject) → lams m (made x) ≡ made (lam m x)
unfolding lams
lams-made m x = refl

pub lams-untyped : (m : Mode) → lams m untyped ≡ untyped
unfolding lams
lams-untyped m = refl

pub lams-too_far : (m : Mode) → lams m too_far ≡ too_far
unfolding lams
lams-too_far m = refl

unfoldable pub pairs : Answer PlainObject → Answer PlainObject → Answer PlainObject
pairs a b = after a (λ x. after b (λ y. made (pair x y)))

pub pairs-made : (x y : PlainObject) → pairs (made x) (made y) ≡ made (pair x y)
unfolding pairs
pairs-made x y = refl

pub pairs-untyped : (b : Answer PlainObject) → pairs untyped b ≡ untyped
unfolding pairs
pairs-untyped b = refl

pub pairs-too_far : (b : Answer PlainObject) → pairs too_far b ≡ too_far
unfolding pairs
pairs-too_far b = refl

pub pairs-right_untyped : (x : PlainObject) → pairs (made x) untyped ≡ untyped
unfolding pairs
pairs-right_untyped x = refl

pub pairs-right_too_far : (x : PlainObject) → pairs (made x) too_far ≡ too_far
unfolding pairs
pairs-right_too_far x = refl

unfoldable pub monadics : Answer PlainExpression → Answer PlainObject
monadics a = after a (λ x. made (monadic x))

pub monadics-made : (e : PlainExpression) → monadics (made e) ≡ made (monadic e)
unfolding monadics
monadics-made e = refl

pub monadics-untyped : monadics untyped ≡ untyped
unfolding monadics
monadics-untyped = refl

pub monadics-too_far : monadics too_far ≡ too_far
unfolding monadics
monadics-too_far = refl

unfoldable pub as_objects : Answer Outcome → Answer PlainObject
as_objects a = after a (λ v. made (as_object v))

pub as_objects-kept : (n : PlainNeutral) → as_objects (made (kept n)) ≡ made (atomic n)
unfolding as_objects
as_objects-kept n = refl

pub as_objects-value : (o : PlainObject) → as_objects (made (value o)) ≡ made o
unfolding as_objects
as_objects-value o = refl

pub as_objects-untyped : as_objects untyped ≡ untyped
unfolding as_objects
as_objects-untyped = refl

pub as_objects-too_far : as_objects too_far ≡ too_far
unfolding as_objects
as_objects-too_far = refl

pub object-lam : (k : ℕ) (s : Environment) (m : Mode) (b : PlainObject) → object_of k s (lam m b) ≡ lams m (object_of k (under 1 s) b)
unfolding object_of lams
object-lam k s m b = refl

pub object-pair : (k : ℕ) (s : Environment) (l r : PlainObject) → object_of k s (pair l r) ≡ pairs (object_of k s l) (object_of k s r)
unfolding object_of pairs
object-pair k s l r = refl

pub object-unit : (k : ℕ) (s : Environment) → object_of k s unit ≡ made unit
unfolding object_of
object-unit k s = refl

pub object-monadic : (k : ℕ) (s : Environment) (e : PlainExpression) → object_of k s (monadic e) ≡ monadics (expression_of k s e)
unfolding object_of expression_of monadics
object-monadic k s e = refl

pub object-atomic : (k : ℕ) (s : Environment) (n : PlainNeutral) → object_of k s (atomic n) ≡ as_objects (neutral_of k s n)
unfolding object_of neutral_of as_objects
object-atomic k s n = refl

pub object-hole : (k : ℕ) (s : Environment) → object_of k s hole ≡ made hole
unfolding object_of
object-hole k s = refl

pub ruleset object_laws = (object-lam, object-pair, object-unit, object-monadic, object-atomic, object-hole, lams-made, lams-untyped, lams-too_far, pairs-made, pairs-untyped, pairs-too_far, pairs-right_untyped, pairs-right_too_far, monadics-made, monadics-untyped, monadics-too_far, as_objects-kept, as_objects-value, as_objects-untyped, as_objects-too_far)

-- a lambda in memory
pub lam-under : (k j : ℕ) (s z : Environment) (o : Obj) (m : Mode) (b d : Obj) → o ≡ Lam m b → j ≡ k → z ≡ under 1 s → d ≡ b → object_of k s (plain_obj o) ≡ lams m (object_of j z (plain_obj d))
lam-under k j s z o m b d e f g h =
    ap (λ x. object_of k s (plain_obj x)) e ∙ ap (object_of k s) (plain-Lam m b) ∙ object-lam k s m (plain_obj b)
    ∙ ap (λ i. lams m (object_of i (under 1 s) (plain_obj b))) (sym f) ∙ ap (λ y. lams m (object_of j y (plain_obj b))) (sym g) ∙ ap (λ x. lams m (object_of j z (plain_obj x))) (sym h)

-- ---- values under an argument

pub applied-pair : (k : ℕ) (m : Mode) (l r y : PlainObject) → applied_of k m (pair l r) y ≡ untyped
unfolding applied_of
applied-pair k m l r y = refl

pub applied-unit : (k : ℕ) (m : Mode) (y : PlainObject) → applied_of k m unit y ≡ untyped
unfolding applied_of
applied-unit k m y = refl

pub applied-monadic : (k : ℕ) (m : Mode) (e : PlainExpression) (y : PlainObject) → applied_of k m (monadic e) y ≡ untyped
unfolding applied_of
applied-monadic k m e y = refl

pub applied-atomic : (k : ℕ) (m : Mode) (n : PlainNeutral) (y : PlainObject) → applied_of k m (atomic n) y ≡ untyped
unfolding applied_of
applied-atomic k m n y = refl

pub applied-hole : (k : ℕ) (m : Mode) (y : PlainObject) → applied_of k m hole y ≡ untyped
unfolding applied_of
applied-hole k m y = refl

abbrev pub applied_if : ℕ → Bool → PlainObject → PlainObject → Answer PlainObject
applied_if k b f y = if b then (nested k).object (single y 0) f else untyped

other-mode : (m w : Mode) → (m ≡ w → ⊥) → same_mode m w ≡ false
other-mode Persistent Persistent h = absurd (h refl)
other-mode Persistent Affine h = refl
other-mode Persistent Linear h = refl
other-mode Affine Persistent h = refl
other-mode Affine Affine h = absurd (h refl)
other-mode Affine Linear h = refl
other-mode Linear Persistent h = refl
other-mode Linear Affine h = refl
other-mode Linear Linear h = absurd (h refl)

pub applied-other : (k : ℕ) (m w : Mode) (b y : PlainObject) → (m ≡ w → ⊥) → applied_of k m (lam w b) y ≡ untyped
unfolding applied_of
applied-other k m w b y h = ap (λ t. applied_if k t b y) (other-mode m w h)

pub applied-none : (k : ℕ) (m w : Mode) (b y : PlainObject) → k ≡ 0 → m ≡ w → applied_of k m (lam w b) y ≡ untyped
unfolding applied_of nested
applied-none k m w b y z e = ap (λ t. applied_if k t b y) (ap (same_mode m) (sym e) ∙ same-itself m) ∙ ap (λ j. (nested j).object (single y 0) b) z

pub applied-lam : (k j : ℕ) (m w : Mode) (b y : PlainObject) → k ≡ j + 1 → m ≡ w → applied_of k m (lam w b) y ≡ object_of j (single y 0) b
unfolding applied_of nested object_of
applied-lam k j m w b y z e = ap (λ t. applied_if k t b y) (ap (same_mode m) (sym e) ∙ same-itself m) ∙ ap (λ i. (nested i).object (single y 0) b) (z ∙ add-one j)

pub ruleset value_laws = (applied-pair, applied-unit, applied-monadic, applied-atomic, applied-hole, applied-other, applied-none, applied-lam)
