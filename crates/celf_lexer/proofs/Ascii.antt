-- The bytes of a word are ASCII, so a word is a text.
use Rattle.std.proofs.Common.{◌≡◌, ℕ, ◌<◌, ◌==◌, nat_le, true, ◌&&◌, ◌||◌, inl, inr, List, [], ◌∷◌, arith}
use Rattle.std.proofs.lemmas.Bool.{eqb-true, leb-true, and_parts, or_cases}
use Rattle.std.proofs.lemmas.Str.{IsUtf8-from_ascii}
use Rattle.std.proofs.lemmas.Str.Ascii.{IsAscii-from_all}
use Rattle.std.proofs.lemmas.List.Elements.{All-nil, All-cons}
use Rattle.std.specs.List.{All}
use Rattle.std.specs.Str.{IsAscii, IsUtf8}
use Rattle.clf_syntax.specs.Word.{is_digit, is_capital, is_letter, is_name_byte, name_byte_first, goes_on, begins_word, is_word, is_word_rest}

between_small : (low high b : ℕ) → high < 128 → (nat_le low b && nat_le b high) ≡ true → b < 128
between_small low high b h e = omega (arith, leb-true b high (and_parts (nat_le low b) (nat_le b high) e).1)

letter_small : (b : ℕ) → is_letter b ≡ true → b < 128
letter_small b e = elim (or_cases (is_capital b) (nat_le 97 b && nat_le b 122) e) [
  | inl c ↦ between_small 65 90 b (omega arith) c
  | inr s ↦ between_small 97 122 b (omega arith) s
]

begins_word-small : (b : ℕ) → begins_word b ≡ true → b < 128
begins_word-small b e = elim (or_cases (is_letter b || is_digit b) (b == 95) e) [
  | inl c ↦ elim (or_cases (is_letter b) (is_digit b) c) [ inl l ↦ letter_small b l | inr d ↦ between_small 48 57 b (omega arith) d ]
  | inr u ↦ omega (arith, eqb-true b 95 u)
]

name_byte_small : (b : ℕ) → is_name_byte b ≡ true → b < 128
name_byte_small b e = elim (or_cases (begins_word b || b == 39) (b == 47) e) [
  | inl c ↦ elim (or_cases (begins_word b) (b == 39) c) [ inl w ↦ begins_word-small b w | inr q ↦ omega (arith, eqb-true b 39 q) ]
  | inr s ↦ omega (arith, eqb-true b 47 s)
]

goes_on-small : (b : ℕ) (bs : List ℕ) → goes_on b bs ≡ true → b < 128
goes_on-small b bs e = elim (or_cases (is_name_byte b) (b == 45 && name_byte_first bs) e) [
  | inl n ↦ name_byte_small b n
  | inr d ↦ omega (arith, eqb-true b 45 (and_parts (b == 45) (name_byte_first bs) d).0)
]

rest_small : (bs : List ℕ) → is_word_rest bs ≡ true → All (λ b. b < 128) bs
rest_small [] e = All-nil (λ b. b < 128)
rest_small (b ∷ bs) e = All-cons (λ b. b < 128) b bs (goes_on-small b bs (and_parts (goes_on b bs) (is_word_rest bs) e).0) (rest_small bs (and_parts (goes_on b bs) (is_word_rest bs) e).1)

-- All bytes of a word are below 128.
pub is_word-small : (w : List ℕ) → is_word w ≡ true → All (λ b. b < 128) w
is_word-small [] e = cc
is_word-small (b ∷ bs) e =
    All-cons (λ b. b < 128) b bs (begins_word-small b (and_parts (begins_word b) (is_word_rest bs) e).0) (rest_small bs (and_parts (begins_word b) (is_word_rest bs) e).1)

pub IsAscii-word : (w : List ℕ) → is_word w ≡ true → IsAscii w
IsAscii-word w e = IsAscii-from_all w (is_word-small w e)

-- A word is a text.
pub IsUtf8-word : (w : List ℕ) → is_word w ≡ true → IsUtf8 w
IsUtf8-word w e = IsUtf8-from_ascii w (IsAscii-word w e)
