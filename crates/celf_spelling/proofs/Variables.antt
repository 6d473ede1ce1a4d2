-- The printed names of variables: x and a number.
use Rattle.std.proofs.Common.{ℕ, ◌≡◌, ◌<◌, ◌≤◌, ◌^◌, Bool, true, false, ◌||◌, refl, sym, ap, ◌∙◌, List, [], ◌∷◌, length, drop, arith, IsTrue}
use Rattle.std.specs.Fmt.{decimal}
use Rattle.std.specs.Str.Parse.{AllDigits}
use Rattle.std.proofs.lemmas.Bool.{le-leb}
use Rattle.std.proofs.lemmas.Fmt.{decimal_is_IsNumeral, decimal_injective, length-decimal-le}
use Rattle.std.proofs.lemmas.Str.Parse.{digit_from_value}
use Rattle.clf_syntax.specs.Word.{is_digit, is_letter, is_name_byte, is_word_rest, all_digits, same_bytes, is_variable_word, is_declarable}
use Rattle.clf_printer.specs.Text.{variable_text}
use Rattle.celf_lexer.proofs.Bounds.{same_bytes-equal}

pub digit-code : (c : ℕ) → 48 ≤ c → c ≤ 57 → is_digit c ≡ true
digit-code c low high = rw (le-leb 48 c low, le-leb c 57 high)

pub all_digits-from : (ds : List ℕ) → AllDigits 10 ds → all_digits ds ≡ true
all_digits-from [] d = refl
all_digits-from (c ∷ cs) d =
    let k = digit_from_value c d.0 in
    rw (digit-code c (omega (arith, k)) (omega (arith, k)), all_digits-from cs d.1)

among-five : (a b c d e : Bool) → b ≡ true → a || b || c || d || e ≡ true
among-five true b c d e h = refl
among-five false b c d e h = rw h refl

-- Digits go on a word.
pub word_rest-from : (ds : List ℕ) → AllDigits 10 ds → is_word_rest ds ≡ true
word_rest-from [] d = refl
word_rest-from (c ∷ cs) d =
    let k = digit_from_value c d.0 in
    let digit : is_digit c ≡ true = digit-code c (omega (arith, k)) (omega (arith, k)) in
    let byte : is_name_byte c ≡ true = among-five (is_letter c) (is_digit c) _ _ _ digit in
    rw (byte, word_rest-from cs d.1)

module _ (n : ℕ) (small : n < 2 ^ 64) where
  pub variable-declarable : IsTrue (is_declarable (variable_text n))
  variable-declarable =
      let digits = (decimal_is_IsNumeral n small).0 in
      let size = length-decimal-le 20 n (omega arith) (omega arith) small in
      rw (word_rest-from (decimal n) digits.1, le-leb (length (variable_text n)) 255 (omega arith))

  pub variable-word : is_variable_word (variable_text n) ≡ true
  variable-word = go (decimal n) (decimal_is_IsNumeral n small).0
    where
      go : (ds : List ℕ) → (0 < length ds) × AllDigits 10 ds → is_variable_word (120 ∷ ds) ≡ true
      go [] d = absurd (omega (arith, d.0))
      go (c ∷ cs) d =
          let k = digit_from_value c d.1.0 in
          rw (digit-code c (omega (arith, k)) (omega (arith, k)), all_digits-from cs d.1.1)

-- Variables of different numbers have different names.
pub variable-differs : (m n : ℕ) → m < 2 ^ 64 → n < 2 ^ 64 → (m ≡ n → ⊥) → same_bytes (variable_text m) (variable_text n) ≡ false
variable-differs m n fits fits_too differ = go (same_bytes (variable_text m) (variable_text n)) refl
  where
    go : (b : Bool) → same_bytes (variable_text m) (variable_text n) ≡ b → same_bytes (variable_text m) (variable_text n) ≡ false
    go false is = is
    go true is = absurd (differ (decimal_injective m n fits fits_too (ap (drop 1) (same_bytes-equal (variable_text m) (variable_text n) is))))

-- A name of another spelling is no variable's.
pub variable-other : (name : List ℕ) (n : ℕ) → n < 2 ^ 64 → is_variable_word name ≡ false → same_bytes name (variable_text n) ≡ false
variable-other name n small other = go (same_bytes name (variable_text n)) refl
  where
    go : (b : Bool) → same_bytes name (variable_text n) ≡ b → same_bytes name (variable_text n) ≡ false
    go false is = is
    go true is =
        let same : name ≡ variable_text n = same_bytes-equal name (variable_text n) is in
        let both : false ≡ true = sym other ∙ (ap (λ w. is_variable_word w) same ∙ variable-word n small) in
        absurd (cc)
