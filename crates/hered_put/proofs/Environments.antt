-- Environments under binders, and what stands for a variable.
use Rattle.std.specs.Prelude.{ℕ, zero, suc, ◌+◌, ◌-◌, ◌<◌, ◌≤◌, ◌≡◌, Bool, true, false, if◌then◌else◌, List, [], ◌∷◌, ◌++◌, length, map, reverse, refl}
use Rattle.std.proofs.Common.{ap, sym, ◌∙◌, arith, get_or}
use Rattle.std.proofs.lemmas.Bool.{lt-ltb, le-ltb}
use Rattle.std.proofs.lemmas.List.{get_or-reverse, reverse-append, length-reverse, length-map}
use Rattle.clf_syntax.specs.declared.tree.Mode.{Mode}
use Rattle.clf_syntax.specs.declared.tree.TupleEntry.{TupleEntry}
use Rattle.clf_syntax.specs.declared.tree.Head.TheVariants.{Const, Var, Meta}
use Rattle.clf_syntax.specs.Tree.{PlainObject, hole, head_alone, tuple_of}
use Rattle.clf_syntax.specs.Plain.{plain_obj, plain_entry, plain-entry-obj}
use Rattle.clf_syntax.specs.Renaming.{ren, up, raise}
use Rattle.clf_syntax.specs.Shift.{shift}
use Rattle.clf_syntax.specs.Written.{fits}
use Rattle.clf_syntax.proofs.RenamingLaws.{ext}
use Rattle.clf_syntax.proofs.ShiftLaws.{shift-ren}
use Rattle.hered_subst.specs.Substitution.{Environment, keep, put, ren_image, single, under, objects}
use Rattle.hered_subst.proofs.Renamed.{under_in, under_out}
use Rattle.hered_subst.proofs.Single.{single_low, single_high}
use Rattle.hered_subst.proofs.SimpleTyping.{under_under, under_zero}
use Rattle.hered_put.specs.declared.environment.Images.{Images}
use Rattle.hered_put.specs.declared.environment.Images.TheVariants.{Object, Tuple}
use Rattle.hered_put.specs.declared.environment.Environment.{Environment as Declared}
use Rattle.hered_put.specs.Function.{made, too_far, kept, value, written}
use Rattle.hered_put.specs.Tupled.{among_raised}
use Rattle.hered_put.specs.Environments.{environment_of, images_of}
use Rattle.hered_put.specs.Pieces.{head_of_environment, image_of}

pub under-more : (n d : ℕ) (s : Environment) → under n (under d s) ≡ under (d + n) s
under-more n zero s = ap (under n) (under_zero s) ∙ ap (λ j. under j s) (none n)
  where
    none : (n : ℕ) → n ≡ 0 + n
    none n = omega arith
under-more n (suc d) s = ap (under n) (sym (under_under d s)) ∙ under-more n d (under 1 s) ∙ under_under (d + n) s ∙ ap (λ j. under j s) (one d n)
  where
    one : (d n : ℕ) → suc (d + n) ≡ suc d + n
    one d n = omega arith

-- ---- what stands for a head

pub written-var : (i : ℕ) → i < 4294967296 → image_of (keep (Var i)) ≡ made (kept (head_alone (Var i)))
unfolding image_of
written-var i h = ap (λ (b : Bool). if b then made (kept (head_alone (Var i))) else too_far) (lt-ltb i 4294967296 h)

pub written-far : (i : ℕ) → 4294967296 ≤ i → image_of (keep (Var i)) ≡ too_far
unfolding image_of
written-far i h = ap (λ (b : Bool). if b then made (kept (head_alone (Var i))) else too_far) (le-ltb i 4294967296 h)

images-const : (i : Images) (c : ℕ) → images_of i (Const c) ≡ keep (Const c)
images-const (Object obj var) c = refl
images-const (Tuple tuple raised) c = refl

images-meta : (i : Images) (m : ℕ) → images_of i (Meta m) ≡ keep (Meta m)
images-meta (Object obj var) m = refl
images-meta (Tuple tuple raised) m = refl

pub head-const : (e : Declared) (c : ℕ) → head_of_environment (environment_of e) (Const c) ≡ made (kept (head_alone (Const c)))
unfolding head_of_environment environment_of
head-const e c = ap (λ i. written (ren_image (up e.binders) i)) (images-const e.images c)

pub head-meta : (e : Declared) (m : ℕ) → head_of_environment (environment_of e) (Meta m) ≡ made (kept (head_alone (Meta m)))
unfolding head_of_environment environment_of
head-meta e m = ap (λ i. written (ren_image (up e.binders) i)) (images-meta e.images m)

-- a variable of the binders
pub head-bound : (e : Declared) (i : ℕ) → i < e.binders → i < 4294967296 → head_of_environment (environment_of e) (Var i) ≡ made (kept (head_alone (Var i)))
unfolding head_of_environment environment_of image_of
head-bound e i h w = ap written (under_in e.binders (images_of e.images) i h) ∙ written-var i w

-- a variable past the binders
pub head-past : (e : Declared) (m : Images) (i : ℕ) → e.binders ≤ i → e.images ≡ m → head_of_environment (environment_of e) (Var i) ≡ image_of (ren_image (up e.binders) (images_of m (Var (i - e.binders))))
unfolding head_of_environment environment_of image_of
head-past e m i h q = ap (λ j. written (under e.binders (images_of e.images) (Var j))) (back h) ∙ ap written (under_out e.binders (images_of e.images) (i - e.binders)) ∙ ap (λ l. written (ren_image (up e.binders) (images_of l (Var (i - e.binders))))) q
  where
    back : e.binders ≤ i → i ≡ i - e.binders + e.binders
    back h = omega arith

-- one object for a variable
pub object-low : (n : ℕ) (o : PlainObject) (k i : ℕ) → i < k → i + n < 4294967296 → image_of (ren_image (up n) (single o k (Var i))) ≡ made (kept (head_alone (Var (i + n))))
object-low n o k i h w = ap (λ j. image_of (ren_image (up n) j)) (single_low o k i h) ∙ written-var (i + n) w

pub object-high : (n : ℕ) (o : PlainObject) (k i : ℕ) → k < i → i + n < 4294967296 → image_of (ren_image (up n) (single o k (Var i))) ≡ made (kept (head_alone (Var (i - 1 + n))))
object-high n o k i h w = ap (λ j. image_of (ren_image (up n) (single o k (Var j)))) back ∙ ap (λ j. image_of (ren_image (up n) j)) (single_high o k (i - 1) low) ∙ written-var (i - 1 + n) within
  where
    back : i ≡ i - 1 + 1
    back = omega arith

    low : k ≤ i - 1
    low = omega arith

    within : i - 1 + n < 4294967296
    within = omega arith

-- an object past binders
past-shift : (n : ℕ) (o : PlainObject) → ren (up n) o ≡ shift n 0 o
past-shift n o = ap (λ r. ren r o) (ext (λ i. all i)) ∙ sym (shift-ren n 0 o)
  where
    all : (i : ℕ) → up n i ≡ raise n 0 i
    all i = grind arith

pub put-made : (n : ℕ) (o : PlainObject) → fits (shift n 0 o) ≡ true → image_of (ren_image (up n) (put o)) ≡ made (value (shift n 0 o))
unfolding image_of
put-made n o e = ap (λ x. written (put x)) (past-shift n o) ∙ ap (λ (b : Bool). if b then made (value (shift n 0 o)) else too_far) e

pub put-far : (n : ℕ) (o : PlainObject) → fits (shift n 0 o) ≡ false → image_of (ren_image (up n) (put o)) ≡ too_far
unfolding image_of
put-far n o e = ap (λ x. written (put x)) (past-shift n o) ∙ ap (λ (b : Bool). if b then made (value (shift n 0 o)) else too_far) e

-- a tuple for the newest variables
pub tuple-in : (raised : ℕ) (ns : List PlainObject) (i : ℕ) → i < length ns → among_raised raised ns i ≡ put (get_or ns i hole)
tuple-in raised [] i h = absurd (omega arith)
tuple-in raised (n ∷ ns) zero h = refl
tuple-in raised (n ∷ ns) (suc i) h = tuple-in raised ns i (less h)
  where
    less : suc i < suc (length ns) → i < length ns
    less h = omega arith

pub tuple-past : (raised : ℕ) (ns : List PlainObject) (i : ℕ) → length ns ≤ i → among_raised raised ns i ≡ keep (Var (i - length ns + raised))
tuple-past raised [] i h = ap (λ j. keep (Var (j + raised))) (none i)
  where
    none : (i : ℕ) → i ≡ i - 0
    none i = omega arith
tuple-past raised (n ∷ ns) zero h = absurd (omega arith)
tuple-past raised (n ∷ ns) (suc i) h = tuple-past raised ns i (less h) ∙ ap (λ j. keep (Var (j + raised))) (same i (length ns))
  where
    less : suc (length ns) ≤ suc i → length ns ≤ i
    less h = omega arith

    same : (i n : ℕ) → i - n ≡ suc i - suc n
    same i n = omega arith

-- the objects of a tuple, the last first
pub objects-list : (es : List (Mode × PlainObject)) → objects (tuple_of es) ≡ reverse (map (λ (e : Mode × PlainObject). e.1) es)
objects-list [] = refl
objects-list (e ∷ es) = ap (λ ns. ns ++ e.1 ∷ []) (objects-list es) ∙ sym (reverse-append (e.1 ∷ []) (map (λ (e : Mode × PlainObject). e.1) es))

pub tuple-length : (xs : List TupleEntry) → length (objects (tuple_of (map plain_entry xs))) ≡ length xs
tuple-length xs = rw objects-list (simp (length-reverse, length-map))

get-at : (xs : List TupleEntry) (j : ℕ) (x : TupleEntry) (d : PlainObject) → j < length xs → x ≡ get_or xs j x → get_or (map (λ (e : Mode × PlainObject). e.1) (map plain_entry xs)) j d ≡ (plain_entry x).1
get-at [] j x d h e = absurd (omega arith)
get-at (y ∷ ys) zero x d h e = ap (λ t. (plain_entry t).1) (sym e)
get-at (y ∷ ys) (suc j) x d h e = get-at ys j x d (less h) e
  where
    less : suc j < suc (length ys) → j < length ys
    less h = omega arith

-- the object of a tuple that stands for a variable
pub tuple-image : (raised i : ℕ) (xs : List TupleEntry) (x : TupleEntry) → i < length xs → x ≡ get_or xs (length xs - 1 - i) x
    → among_raised raised (objects (tuple_of (map plain_entry xs))) i ≡ put (plain_obj x.obj)
tuple-image raised i xs x h e =
    tuple-in raised (objects (tuple_of (map plain_entry xs))) i within
    ∙ ap (λ ns. put (get_or ns i hole)) (objects-list (map plain_entry xs))
    ∙ ap put (get_or-reverse parts i hole inside ∙ ap (λ n. get_or parts (n - 1 - i) hole) long ∙ get-at xs (length xs - 1 - i) x hole below e ∙ plain-entry-obj x)
  where
    parts : List PlainObject
    parts = map (λ (e : Mode × PlainObject). e.1) (map plain_entry xs)

    long : length (map (λ (e : Mode × PlainObject). e.1) (map plain_entry xs)) ≡ length xs
    long = simp length-map

    within : i < length (objects (tuple_of (map plain_entry xs)))
    within = omega (arith, tuple-length xs)

    inside : i < length (map (λ (e : Mode × PlainObject). e.1) (map plain_entry xs))
    inside = omega (arith, long)

    below : length xs - 1 - i < length xs
    below = omega arith

-- a variable past those of the tuple
pub tuple-rest : (n raised i : ℕ) (xs : List TupleEntry) (j : ℕ) → length xs ≤ i → i - length xs + n + raised ≡ j
    → image_of (ren_image (up n) (among_raised raised (objects (tuple_of (map plain_entry xs))) i)) ≡ image_of (keep (Var j))
tuple-rest n raised i xs j h e = ap (λ l. image_of (ren_image (up n) l)) (tuple-past raised (objects (tuple_of (map plain_entry xs))) i past) ∙ ap (λ k. image_of (keep (Var k))) (same (length (objects (tuple_of (map plain_entry xs)))) (tuple-length xs))
  where
    past : length (objects (tuple_of (map plain_entry xs))) ≤ i
    past = omega (arith, tuple-length xs)

    same : (l : ℕ) → l ≡ length xs → i - l + raised + n ≡ j
    same l q = omega (arith, q, e)
