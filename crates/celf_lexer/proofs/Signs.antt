-- The first sign of the table that fits is the longest.
use Rattle.std.proofs.Common.{◌≡◌, ◌∙◌, ℕ, zero, suc, ◌<◌, ◌≤◌, ◌==◌, nat_lt, Bool, true, false, not, ◌&&◌, ◌⊎◌, inl, inr, List, [], ◌∷◌, length, take, drop, refl, ap, sym, arith}
use Rattle.std.proofs.lemmas.Bool.{eq-eqb, ltb-true, ltb-false, cond_both, and_from, and_parts, both_ways}
use Rattle.std.specs.List.{list_all, Contains}
use Rattle.celf_lexer.specs.declared.token.TokenKind.{TokenKind}
use Rattle.clf_syntax.specs.Word.{same_bytes}
use Rattle.celf_lexer.specs.Sign.{Front, token, long, bad, signs, fits, may_stand, sign_front}
use Rattle.celf_lexer.proofs.Bounds.{same_bytes-equal}

pub member_cases : {X : Type 0} (y : X) (ys : List X) (x : X) → Contains (y ∷ ys) x → (y ≡ x) ⊎ Contains ys x
member_cases y ys x (zero, h, e) = inl e
member_cases y ys x (suc k, h, e) = inr (k, omega arith, e)

member_later : {X : Type 0} (y : X) (ys : List X) (x : X) → Contains ys x → Contains (y ∷ ys) x
member_later y ys x (k, h, e) = (suc k, omega arith, e)

-- What passes for each element of a list passes for one that it has.
pub member_passes : {X : Type 0} (p : X → Bool) (xs : List X) (x : X) → list_all p xs ≡ true → Contains xs x → p x ≡ true
member_passes p [] x a (k, h, e) = absurd (omega arith)
member_passes p (y ∷ ys) x a m = elim (member_cases y ys x m) [
  | inl e ↦ ap p (sym e) ∙ (and_parts (p y) (list_all p ys) a).0
  | inr n ↦ member_passes p ys x (and_parts (p y) (list_all p ys) a).1 n
]

pub same_bytes-refl : (xs : List ℕ) → same_bytes xs xs ≡ true
same_bytes-refl [] = refl
same_bytes-refl (x ∷ xs) = and_from (x == x) (same_bytes xs xs) (eq-eqb x x refl) (same_bytes-refl xs)

-- t goes on with more bytes than s
abbrev goes_past : List ℕ × TokenKind → List ℕ × TokenKind → Bool
goes_past s t = same_bytes (take (length s.0) t.0) s.0 && nat_lt (length s.0) (length t.0)

-- none of the later signs goes past an earlier one
abbrev longer_first : List (List ℕ × TokenKind) → Bool
longer_first [] = true
longer_first (s ∷ ss) = list_all (λ t. not (goes_past s t)) ss && longer_first ss

-- the sign of a table that is found in front of some bytes
abbrev pub FrontSign : List (List ℕ × TokenKind) → List ℕ → Front → Type 0
FrontSign ss bytes (token k n) = (s : List ℕ × TokenKind) × Contains ss s × (fits s.0 bytes ≡ true) × (s.1 ≡ k) × (length s.0 ≡ n)
    × ((t : List ℕ × TokenKind) → Contains ss t → fits t.0 bytes ≡ true → length t.0 ≤ n)
FrontSign ss bytes long = ⊥
FrontSign ss bytes bad = (t : List ℕ × TokenKind) → Contains ss t → fits t.0 bytes ≡ true → ⊥

prefix : (spelling bytes : List ℕ) → fits spelling bytes ≡ true → take (length spelling) bytes ≡ spelling
prefix spelling bytes e = same_bytes-equal (take (length spelling) bytes) spelling (and_parts (same_bytes (take (length spelling) bytes) spelling) (may_stand spelling (drop (length spelling) bytes)) e).0

take_less : (m n : ℕ) (xs : List ℕ) → m ≤ n → take m (take n xs) ≡ take m xs
take_less zero n xs h = refl
take_less (suc m) zero xs h = absurd (omega arith)
take_less (suc m) (suc n) [] h = refl
take_less (suc m) (suc n) (x ∷ xs) h = ap (λ ys. x ∷ ys) (take_less m n xs (omega arith))

decided : (A : Type 0) (b : Bool) → (b ≡ true → A) → (b ≡ false → A) → A
decided A true f g = f refl
decided A false f g = g refl

-- one that fits and is not gone past by another that fits is as long
as_long : (s t : List ℕ × TokenKind) (bytes : List ℕ) → fits s.0 bytes ≡ true → fits t.0 bytes ≡ true → not (goes_past s t) ≡ true → length t.0 ≤ length s.0
as_long s t bytes f g h =
    decided (length t.0 ≤ length s.0) (nat_lt (length s.0) (length t.0))
    (λ l.
    let less : length s.0 < length t.0 = ltb-true (length s.0) (length t.0) l in
    let same : take (length s.0) t.0 ≡ s.0 = ap (take (length s.0)) (sym (prefix t.0 bytes g)) ∙ take_less (length s.0) (length t.0) bytes (omega arith) ∙ prefix s.0 bytes f in
    let past : goes_past s t ≡ true = and_from (same_bytes (take (length s.0) t.0) s.0) (nat_lt (length s.0) (length t.0)) (ap (λ xs. same_bytes xs s.0) same ∙ same_bytes-refl s.0) l in
    absurd (both_ways (not (goes_past s t)) (ap not past) h))
    (λ l. ltb-false (length s.0) (length t.0) l)

-- A sign that does not fit changes nothing.
passed : (s : List ℕ × TokenKind) (ss : List (List ℕ × TokenKind)) (bytes : List ℕ) → fits s.0 bytes ≡ false → (f : Front) → FrontSign ss bytes f → FrontSign (s ∷ ss) bytes f
passed s ss bytes unfit (token k n) (t, m, f, e, l, longest) = (
  t,
  member_later s ss t m,
  f,
  e,
  l,
  λ u v g. elim (member_cases s ss u v) [
    | inl i ↦ absurd (both_ways (fits u.0 bytes) (ap (λ (w : List ℕ × TokenKind). fits w.0 bytes) (sym i) ∙ unfit) g)
    | inr w ↦ longest u w g
  ],
)
passed s ss bytes unfit long p = p
passed s ss bytes unfit bad none = λ u v g. elim (member_cases s ss u v) [
  | inl i ↦ absurd (both_ways (fits u.0 bytes) (ap (λ (w : List ℕ × TokenKind). fits w.0 bytes) (sym i) ∙ unfit) g)
  | inr w ↦ none u w g
]

pub sign_front-longest : (ss : List (List ℕ × TokenKind)) (bytes : List ℕ) → longer_first ss ≡ true → FrontSign ss bytes (sign_front ss bytes)
sign_front-longest [] bytes h = λ t m f. absurd (omega (arith, m.1))
sign_front-longest (s ∷ ss) bytes h =
    let later : list_all (λ t. not (goes_past s t)) ss ≡ true = (and_parts (list_all (λ t. not (goes_past s t)) ss) (longer_first ss) h).0 in
    cond_both (fits s.0 bytes) (token s.1 (length s.0)) (sign_front ss bytes) (FrontSign (s ∷ ss) bytes)
    (λ f. (
      s,
      (0, omega arith, refl),
      f,
      refl,
      refl,
      λ t m g. elim (member_cases s ss t m) [
        | inl e ↦ omega (arith, ap (λ (u : List ℕ × TokenKind). length u.0) e)
        | inr n ↦ as_long s t bytes f g (member_passes (λ t. not (goes_past s t)) ss t later n)
      ],
    ))
    (λ f. passed s ss bytes f (sign_front ss bytes) (sign_front-longest ss bytes (and_parts (list_all (λ t. not (goes_past s t)) ss) (longer_first ss) h).1))

pub signs_longer_first : longer_first signs ≡ true
signs_longer_first = refl
