-- The first difference of two lists, from one place on.
use Rattle.std.specs.Prelude.{ℕ, zero, suc, ◌+◌, ◌≡◌, ◌<◌, ◌≤◌, min, List, [], ◌∷◌, length, map}
use Rattle.std.proofs.Common.{sym, subst, arith, drop, get_or}
use Rattle.clf_syntax.specs.Plain.{plain_obj}
use Rattle.clf_syntax.specs.Tree.{PlainObject}
use Rattle.clf_syntax.specs.declared.tree.Obj.{Obj}
use Rattle.clf_syntax.proofs.Next.{dropped}
use Rattle.trace_equal.specs.Difference.{DiffersAt}
use Rattle.trace_equal.specs.Exchange.{Joined, JoinedEach}

-- the rests of both lists, with the objects at a place in front
apart : (P : List PlainObject → List PlainObject → Type 0) (xs ys : List Obj) (i : ℕ) (x y : Obj) → i < length xs → i < length ys → x ≡ get_or xs i x → y ≡ get_or ys i y
    → P (plain_obj x ∷ map plain_obj (drop (i + 1) xs)) (plain_obj y ∷ map plain_obj (drop (i + 1) ys)) → P (map plain_obj (drop i xs)) (map plain_obj (drop i ys))
apart P xs ys i x y h k e f p = subst (λ zs. P (map plain_obj zs) (map plain_obj (drop i ys))) (sym (dropped xs i x h e)) (subst (λ zs. P (plain_obj x ∷ map plain_obj (drop (i + 1) xs)) (map plain_obj zs)) (sym (dropped ys i y k f)) p)

pub differ_here : (xs ys : List Obj) (i : ℕ) (x y : Obj) → i < length xs → i < length ys → x ≡ get_or xs i x → y ≡ get_or ys i y → (Joined (plain_obj x) (plain_obj y) → ⊥) → DiffersAt 0 (map plain_obj (drop i xs)) (map plain_obj (drop i ys))
differ_here xs ys i x y h k e f n = apart (DiffersAt 0) xs ys i x y h k e f n

pub differ_later : (xs ys : List Obj) (i : ℕ) (x y : Obj) → i < length xs → i < length ys → x ≡ get_or xs i x → y ≡ get_or ys i y → Joined (plain_obj x) (plain_obj y)
    → (j : ℕ) → DiffersAt j (map plain_obj (drop (i + 1) xs)) (map plain_obj (drop (i + 1) ys)) → DiffersAt (suc j) (map plain_obj (drop i xs)) (map plain_obj (drop i ys))
differ_later xs ys i x y h k e f g j d = apart (DiffersAt (suc j)) xs ys i x y h k e f (g, d)

pub joined_later : (xs ys : List Obj) (i : ℕ) (x y : Obj) → i < length xs → i < length ys → x ≡ get_or xs i x → y ≡ get_or ys i y → Joined (plain_obj x) (plain_obj y)
    → JoinedEach (map plain_obj (drop (i + 1) xs)) (map plain_obj (drop (i + 1) ys)) → JoinedEach (map plain_obj (drop i xs)) (map plain_obj (drop i ys))
joined_later xs ys i x y h k e f g d = apart JoinedEach xs ys i x y h k e f (g, d)

pub differ_end : (xs ys : List Obj) (i : ℕ) → i ≤ min (length xs) (length ys) → min (length xs) (length ys) ≤ i → (length xs ≡ length ys → ⊥) → DiffersAt 0 (map plain_obj (drop i xs)) (map plain_obj (drop i ys))
differ_end [] [] i h k n = absurd (n (zeros))
  where
    zeros : zero ≡ zero
    zeros = omega arith
differ_end [] (y ∷ ys) zero h k n = tt
differ_end [] (y ∷ ys) (suc i) h k n = absurd (omega arith)
differ_end (x ∷ xs) [] zero h k n = tt
differ_end (x ∷ xs) [] (suc i) h k n = absurd (omega arith)
differ_end (x ∷ xs) (y ∷ ys) zero h k n = absurd (omega arith)
differ_end (x ∷ xs) (y ∷ ys) (suc i) h k n = differ_end xs ys i (less h) (less' k) (λ e. n (more e))
  where
    less : suc i ≤ min (suc (length xs)) (suc (length ys)) → i ≤ min (length xs) (length ys)
    less h = omega arith

    less' : min (suc (length xs)) (suc (length ys)) ≤ suc i → min (length xs) (length ys) ≤ i
    less' k = omega arith

    more : length xs ≡ length ys → suc (length xs) ≡ suc (length ys)
    more e = omega arith

pub from_here : (i j : ℕ) (os us : List PlainObject) → DiffersAt (i + suc j) os us → DiffersAt (i + 1 + j) os us
from_here i j os us d = subst (λ k. DiffersAt k os us) sum d
  where
    sum : i + suc j ≡ i + 1 + j
    sum = omega arith

pub at_place : (i : ℕ) (os us : List PlainObject) → DiffersAt (i + 0) os us → DiffersAt i os us
at_place i os us d = subst (λ k. DiffersAt k os us) sum d
  where
    sum : i + 0 ≡ i
    sum = omega arith
