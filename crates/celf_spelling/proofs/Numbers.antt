-- The text of a number is one token of its value.
use Rattle.std.proofs.Common.{ℕ, ◌≡◌, ◌+◌, ◌-◌, ◌*◌, ◌<◌, ◌≤◌, ◌^◌, ◌==◌, Bool, true, false, ◌||◌, refl, ap, ◌∙◌, List, [], ◌∷◌, ◌++◌, length, arith}
use Rattle.std.specs.Char.{digit_value}
use Rattle.std.specs.Fmt.{decimal}
use Rattle.std.specs.Str.Parse.{AllDigits, digits_value_after}
use Rattle.std.proofs.lemmas.Bool.{and_from}
use Rattle.std.proofs.lemmas.Fmt.{decimal_is_IsNumeral, length-decimal-le}
use Rattle.std.proofs.lemmas.Str.{digit_value_digit}
use Rattle.std.proofs.lemmas.Str.Parse.{digit_from_value}
use Rattle.clf_syntax.specs.Word.{is_digit, is_letter, begins_word, is_word, is_word_rest, all_digits}
use Rattle.celf_lexer.specs.declared.token.TokenKind.TheVariants as kind
use Rattle.celf_lexer.specs.Sign.{word_kind}
use Rattle.celf_lexer.specs.Tokens.{Lexeme}
use Rattle.celf_lexer.proofs.Spelling.{AreTokens, BeginsWith, ends_word, other_byte, tokens-word}
use Rattle.celf_grammar.specs.State.{digits_behind}
use Rattle.celf_spelling.proofs.Variables.{digit-code, all_digits-from, word_rest-from}

digits-number : (b : ℕ) (bs : List ℕ) → is_digit b ≡ true → all_digits bs ≡ true → word_kind (b ∷ bs) ≡ kind.Number
digits-number b bs digit digits =
    let other : (c : ℕ) → is_digit c ≡ false → (b == c) ≡ false = λ c. other_byte (λ x. is_digit x) b c digit in
    rw (other 116 refl, other 80 refl, other 69 refl, other 108 refl, other 105 refl, other 95 refl, digit, digits)

middle-true : (a b c : Bool) → b ≡ true → a || b || c ≡ true
middle-true true b c h = refl
middle-true false b c h = rw h refl

digits-word : (b : ℕ) (bs : List ℕ) → is_digit b ≡ true → is_word_rest bs ≡ true → is_word (b ∷ bs) ≡ true
digits-word b bs digit rest = and_from (begins_word b) (is_word_rest bs) (middle-true (is_letter b) (is_digit b) (b == 95) digit) rest

-- the value of digits
digits-value : (n : ℕ) (ds : List ℕ) → AllDigits 10 ds → digits_behind n ds ≡ digits_value_after 10 n ds
digits-value n [] d = refl
digits-value n (c ∷ cs) d =
    let same : c - 48 ≡ digit_value c = omega (arith, digit_value_digit c (digit_from_value c d.0)) in
    ap (λ k. digits_behind (n * 10 + k) cs) same ∙ digits-value (n * 10 + digit_value c) cs d.1

module _ (n : ℕ) (small : n < 2 ^ 64) where
  pub decimal-value : digits_behind 0 (decimal n) ≡ n
  decimal-value = digits-value 0 (decimal n) (decimal_is_IsNumeral n small).0.1 ∙ (decimal_is_IsNumeral n small).1

  pub tokens-number : (rest : List ℕ) (ts : List Lexeme) → ends_word rest ≡ true → AreTokens ts (decimal n ++ rest) → BeginsWith kind.Number (decimal n) rest ts
  tokens-number rest ts ends = go (decimal n) (decimal_is_IsNumeral n small).0 (length-decimal-le 20 n (omega arith) (omega arith) small)
    where
      go : (ds : List ℕ) → (0 < length ds) × AllDigits 10 ds → length ds ≤ 20 → AreTokens ts (ds ++ rest) → BeginsWith kind.Number ds rest ts
      go [] d short tokens = absurd (omega (arith, d.0))
      go (c ∷ cs) d short tokens =
          let k = digit_from_value c d.1.0 in
          let digit : is_digit c ≡ true = digit-code c (omega (arith, k)) (omega (arith, k)) in
          rw (digits-number c cs digit (all_digits-from cs d.1.1)) at (tokens-word (c ∷ cs) rest ts (digits-word c cs digit (word_rest-from cs d.1.1)) (omega arith) ends tokens)
