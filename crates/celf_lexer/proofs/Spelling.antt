-- Spelled texts have the tokens that they spell: blanks, words, names after a $, signs, and the end.
use Rattle.std.proofs.Common.{IsTrue, ℕ, ◌≡◌, ◌+◌, ◌-◌, ◌<◌, ◌≤◌, ◌==◌, suc, zero, nat_le, Bool, true, false, not, ◌&&◌, ◌||◌, refl, ap, sym, ◌∙◌, List, [], ◌∷◌, ◌++◌, length, take, drop, codes, arith}
use Rattle.std.proofs.lemmas.Bool.{and_parts, or_parts, and_left, and_right, ne_eqb, leb-true, le-ltb, not-true}
use Rattle.std.proofs.lemmas.List.{take_at, drop_at, length-append}
use Rattle.clf_syntax.specs.Word.{begins_word, is_name_byte, is_word_rest, is_word, is_name, is_declarable, is_keyword, is_hole_word, all_digits, is_capital, same_bytes}
use Rattle.celf_lexer.specs.declared.token.TokenKind.{TokenKind}
use Rattle.celf_lexer.specs.declared.token.TokenKind.TheVariants as kind
use Rattle.celf_lexer.specs.Gap.{is_blank, gap}
use Rattle.celf_lexer.specs.Sign.{Front, token, long, bad, word_length, word_kind, is_back_lolli, of_word, word_front, front}
use Rattle.celf_lexer.specs.Tokens.{placed, first_of, Lexeme, is_end, token_first, tokens_within, tokens_of}
use Rattle.celf_lexer.specs.Spelling.{stops_word}
use Rattle.celf_lexer.proofs.Bounds.{word_kind-no_end}
use Rattle.celf_lexer.proofs.Splits.{word_split}

-- The tokens of these bytes, from some place on.
pub data AreTokens : List Lexeme → List ℕ → Type 0 where
  from : (at steps : ℕ) (bytes : List ℕ) → length bytes < steps → AreTokens (tokens_within steps at bytes) bytes

pub tokens_of-tokens : (at : ℕ) (bytes : List ℕ) → AreTokens (tokens_of at bytes) bytes
unfolding tokens_of
tokens_of-tokens at bytes = from at (suc (length bytes)) bytes (omega arith)

-- The first token is of this kind and spelled so, and the others are the tokens of the rest.
pub record BeginsWith (k : TokenKind) (text rest : List ℕ) (ts : List Lexeme) : Type 0 where
  pub first : Lexeme
  pub others : List Lexeme
  pub is : ts ≡ first ∷ others
  pub kind_is : first.kind ≡ k
  pub spelled : first.spelling ≡ text
  pub rest_tokens : AreTokens others rest

-- A blank stands in front of the first token.

blank-steps : (steps at b g : ℕ) (bytes : List ℕ) (f : Front)
    → token_first (tokens_within steps) at (b ∷ bytes) (placed (at + suc g) f) ≡ token_first (tokens_within steps) (suc at) bytes (placed (suc at + g) f)
blank-steps steps at b g bytes long = refl
blank-steps steps at b g bytes bad = refl
blank-steps steps at b g bytes (token k n) =
    let start : at + suc g - at ≡ suc g = omega arith in
    let start_after : suc at + g - suc at ≡ g = omega arith in
    let end : at + suc g + n - at ≡ suc (g + n) = omega arith in
    let end_after : suc at + g + n - suc at ≡ g + n = omega arith in
    let size : at + suc g + n - (at + suc g) ≡ n = omega arith in
    let size_after : suc at + g + n - (suc at + g) ≡ n = omega arith in
    let place : at + suc g ≡ suc at + g = omega arith in
    rw (start, start_after, end, end_after, size, size_after, place)

gap-blank : (b : ℕ) (bytes : List ℕ) → is_blank b ≡ true → gap (b ∷ bytes) ≡ suc (gap bytes)
gap-blank b bytes blank = rw blank (omega arith)

pub tokens-blank : (b : ℕ) (bytes : List ℕ) (ts : List Lexeme) → is_blank b ≡ true → AreTokens ts (b ∷ bytes) → AreTokens ts bytes
unfolding first_of
tokens-blank b bytes ts blank (from at zero _ l) = absurd (omega arith)
tokens-blank b bytes ts blank (from at (suc steps) _ l) =
    let same : tokens_within (suc steps) at (b ∷ bytes) ≡ tokens_within (suc steps) (suc at) bytes =
    rw (gap-blank b bytes blank) (blank-steps steps at b (gap bytes) bytes (front (drop (gap bytes) bytes))) in
    rw same (from (suc at) (suc steps) bytes (omega arith))

-- A token that is no end stands first.

front-steps : (steps at : ℕ) (k : TokenKind) (text rest : List ℕ) → is_end k ≡ false
    → token_first (tokens_within steps) at (text ++ rest) (placed (at + 0) (token k (length text)))
    ≡ record { kind = k; start = at; spelling = text } ∷ tokens_within steps (at + length text) rest
front-steps steps at k text rest no_end =
    let start : at + 0 ≡ at = omega arith in
    let none : at - at ≡ 0 = omega arith in
    let size : at + length text - at ≡ length text = omega arith in
    rw (start, size, none, no_end, take_at text rest (length text) refl, drop_at text rest (length text) refl)

pub tokens-front : (k : TokenKind) (text rest : List ℕ) (ts : List Lexeme) → gap (text ++ rest) ≡ 0 → front (text ++ rest) ≡ token k (length text)
    → is_end k ≡ false → 0 < length text → AreTokens ts (text ++ rest) → BeginsWith k text rest ts
unfolding first_of
tokens-front k text rest ts no_gap is no_end some (from at zero _ l) = absurd (omega arith)
tokens-front k text rest ts no_gap is no_end some (from at (suc steps) _ l) = record {
  first = record { kind = k; start = at; spelling = text };
  others = tokens_within steps (at + length text) rest;
  is = rw (no_gap, is) (front-steps steps at k text rest no_end);
  kind_is = refl;
  spelled = refl;
  rest_tokens = from (at + length text) steps rest (omega (arith, length-append text rest));
}

-- The end stands alone.
pub tokens-end : (ts : List Lexeme) → AreTokens ts [] → (e : Lexeme) × (ts ≡ e ∷ []) × (e.kind ≡ kind.End)
unfolding first_of front
tokens-end ts (from at zero _ l) = absurd (omega arith)
tokens-end ts (from at (suc steps) _ l) = (_, refl, refl)

-- Signs.

pub tokens-arrow : (rest : List ℕ) (ts : List Lexeme) → AreTokens ts (codes "->" ++ rest) → BeginsWith kind.Arrow (codes "->") rest ts
unfolding front
tokens-arrow rest ts = tokens-front kind.Arrow (codes "->") rest ts refl refl refl (omega arith)

-- -o stands before a space here.
pub tokens-lolli : (rest : List ℕ) (ts : List Lexeme) → AreTokens ts (codes "-o" ++ 32 ∷ rest) → BeginsWith kind.Lolli (codes "-o") (32 ∷ rest) ts
unfolding front
tokens-lolli rest ts = tokens-front kind.Lolli (codes "-o") (32 ∷ rest) ts refl refl refl (omega arith)

pub tokens-affine : (rest : List ℕ) (ts : List Lexeme) → AreTokens ts (codes "-@" ++ rest) → BeginsWith kind.Affine (codes "-@") rest ts
unfolding front
tokens-affine rest ts = tokens-front kind.Affine (codes "-@") rest ts refl refl refl (omega arith)

pub tokens-amp : (rest : List ℕ) (ts : List Lexeme) → AreTokens ts (codes "&" ++ rest) → BeginsWith kind.Amp (codes "&") rest ts
unfolding front
tokens-amp rest ts = tokens-front kind.Amp (codes "&") rest ts refl refl refl (omega arith)

pub tokens-top : (rest : List ℕ) (ts : List Lexeme) → AreTokens ts (codes "<T>" ++ rest) → BeginsWith kind.TopSign (codes "<T>") rest ts
unfolding front
tokens-top rest ts = tokens-front kind.TopSign (codes "<T>") rest ts refl refl refl (omega arith)

pub tokens-left_paren : (rest : List ℕ) (ts : List Lexeme) → AreTokens ts (codes "(" ++ rest) → BeginsWith kind.LeftParen (codes "(") rest ts
unfolding front
tokens-left_paren rest ts = tokens-front kind.LeftParen (codes "(") rest ts refl refl refl (omega arith)

pub tokens-right_paren : (rest : List ℕ) (ts : List Lexeme) → AreTokens ts (codes ")" ++ rest) → BeginsWith kind.RightParen (codes ")") rest ts
unfolding front
tokens-right_paren rest ts = tokens-front kind.RightParen (codes ")") rest ts refl refl refl (omega arith)

pub tokens-colon : (rest : List ℕ) (ts : List Lexeme) → AreTokens ts (codes ":" ++ rest) → BeginsWith kind.Colon (codes ":") rest ts
unfolding front
tokens-colon rest ts = tokens-front kind.Colon (codes ":") rest ts refl refl refl (omega arith)

pub tokens-stop : (rest : List ℕ) (ts : List Lexeme) → AreTokens ts (codes "." ++ rest) → BeginsWith kind.Stop (codes ".") rest ts
unfolding front
tokens-stop rest ts = tokens-front kind.Stop (codes ".") rest ts refl refl refl (omega arith)

-- Words.

-- no word goes on with the first of these bytes
abbrev pub ends_word : List ℕ → Bool
ends_word [] = true
ends_word (b ∷ bs) = not (is_name_byte b || b == 45)

ends_word-stops : (rest : List ℕ) → ends_word rest ≡ true → stops_word rest ≡ true
ends_word-stops [] h = refl
ends_word-stops (b ∷ bs) h =
    let parts = or_parts (is_name_byte b) (b == 45) (not-true _ h) in
    rw (parts.0, parts.1)

ends_word-back_lolli : (word rest : List ℕ) → ends_word rest ≡ true → is_back_lolli word rest ≡ false
ends_word-back_lolli word [] h = refl
ends_word-back_lolli word (b ∷ []) h = rw (or_parts (is_name_byte b) (b == 45) (not-true _ h)).1 (and_right (same_bytes word (codes "o")) false refl)
ends_word-back_lolli word (b ∷ c ∷ bs) h =
    rw (or_parts (is_name_byte b) (b == 45) (not-true _ h)).1 (and_left (same_bytes word (codes "o") && false) _ (and_right (same_bytes word (codes "o")) false refl))

word_length-append : (word rest : List ℕ) → is_word word ≡ true → ends_word rest ≡ true → word_length (word ++ rest) ≡ length word
word_length-append word rest h ends = word_split word rest h (ends_word-stops rest ends)

take-word : (word rest : List ℕ) → is_word word ≡ true → ends_word rest ≡ true → take (word_length (word ++ rest)) (word ++ rest) ≡ word
take-word word rest h ends = take_at word rest (word_length (word ++ rest)) (sym (word_length-append word rest h ends))

drop-word : (word rest : List ℕ) → is_word word ≡ true → ends_word rest ≡ true → drop (word_length (word ++ rest)) (word ++ rest) ≡ rest
drop-word word rest h ends = drop_at word rest (word_length (word ++ rest)) (sym (word_length-append word rest h ends))

-- a byte that passes a test is none that fails it
pub other_byte : (test : ℕ → Bool) (b c : ℕ) → test b ≡ true → test c ≡ false → (b == c) ≡ false
other_byte test b c passes fails = ne_eqb b c (λ same. let e : true ≡ false = sym passes ∙ (ap test same ∙ fails) in absurd (cc))

gap-word : (word rest : List ℕ) → is_word word ≡ true → gap (word ++ rest) ≡ 0
gap-word [] rest h = absurd (cc)
gap-word (b ∷ bs) rest h =
    let begins : begins_word b ≡ true = (and_parts (begins_word b) (is_word_rest bs) h).0 in
    let other : (c : ℕ) → begins_word c ≡ false → (b == c) ≡ false = λ c. other_byte (λ x. begins_word x) b c begins in
    rw (other 32 refl, other 9 refl, other 13 refl, other 10 refl, other 37 refl)

of_word-short : (before : ℕ) (word : List ℕ) (k : TokenKind) → length word ≤ 255 → of_word before word k ≡ token k (before + length word)
of_word-short before word k short = rw (le-ltb 255 (length word) short)

front-word : (word rest : List ℕ) → is_word word ≡ true → length word ≤ 255 → ends_word rest ≡ true → front (word ++ rest) ≡ token (word_kind word) (length word)
unfolding front
front-word [] rest h short ends = absurd (cc)
front-word (b ∷ bs) rest h short ends =
    let begins : begins_word b ≡ true = (and_parts (begins_word b) (is_word_rest bs) h).0 in
    let here : front ((b ∷ bs) ++ rest) ≡ word_front (b ∷ bs) rest = rw (take-word (b ∷ bs) rest h ends, drop-word (b ∷ bs) rest h ends, begins) in
    let size : 0 + length (b ∷ bs) ≡ length (b ∷ bs) = omega arith in
    here ∙ rw (ends_word-back_lolli (b ∷ bs) rest ends, of_word-short 0 (b ∷ bs) (word_kind (b ∷ bs)) short, size)

pub tokens-word : (word rest : List ℕ) (ts : List Lexeme) → is_word word ≡ true → length word ≤ 255 → ends_word rest ≡ true
    → AreTokens ts (word ++ rest) → BeginsWith (word_kind word) word rest ts
tokens-word [] rest ts h short ends = absurd (cc)
tokens-word (b ∷ bs) rest ts h short ends =
    tokens-front (word_kind (b ∷ bs)) (b ∷ bs) rest ts (gap-word (b ∷ bs) rest h) (front-word (b ∷ bs) rest h short ends) (word_kind-no_end (b ∷ bs)) (omega arith)

-- A declarable word is a name.

-- the kind of a name
abbrev name_kind : List ℕ → TokenKind
name_kind [] = kind.Hole
name_kind (b ∷ bs) = kind.Name (is_capital b)

word_kind-name : (word : List ℕ) → is_keyword word ≡ false → is_hole_word word ≡ false → all_digits word ≡ false → word_kind word ≡ name_kind word
word_kind-name [] keyword hole number = refl
word_kind-name (b ∷ bs) keyword hole number =
    let w : List ℕ = b ∷ bs in
    let fifth = or_parts (same_bytes w (codes "type") || same_bytes w (codes "Pi") || same_bytes w (codes "Exists") || same_bytes w (codes "let")) (same_bytes w (codes "in")) keyword in
    let fourth = or_parts (same_bytes w (codes "type") || same_bytes w (codes "Pi") || same_bytes w (codes "Exists")) (same_bytes w (codes "let")) fifth.0 in
    let third = or_parts (same_bytes w (codes "type") || same_bytes w (codes "Pi")) (same_bytes w (codes "Exists")) fourth.0 in
    let second = or_parts (same_bytes w (codes "type")) (same_bytes w (codes "Pi")) third.0 in
    rw (second.0, second.1, third.1, fourth.1, fifth.1, hole, number)

-- what is known of a name that can be declared
record IsDeclarableName (word : List ℕ) : Type 0 where
  stands : is_word word ≡ true
  name : is_name word ≡ true
  kind_is : word_kind word ≡ name_kind word
  short : length word ≤ 255

declarable_name : (name : List ℕ) → IsTrue (is_declarable name) → IsDeclarableName name
declarable_name name h =
    let size = and_parts (is_name name) (nat_le (length name) 255) h in
    let number = and_parts (is_word name && not (is_keyword name) && not (is_hole_word name)) (not (all_digits name)) size.0 in
    let hole = and_parts (is_word name && not (is_keyword name)) (not (is_hole_word name)) number.0 in
    let keyword = and_parts (is_word name) (not (is_keyword name)) hole.0 in
    record {
      stands = keyword.0;
      name = size.0;
      kind_is = word_kind-name name (not-true _ keyword.1) (not-true _ hole.1) (not-true _ number.1);
      short = leb-true (length name) 255 size.1;
    }

-- It is a word.
pub declarable-word : (name : List ℕ) → IsTrue (is_declarable name) → is_word name ≡ true
declarable-word name h = (declarable_name name h).stands

pub tokens-name : (name rest : List ℕ) (ts : List Lexeme) → IsTrue (is_declarable name) → ends_word rest ≡ true
    → AreTokens ts (name ++ rest) → (capital : Bool) × BeginsWith (kind.Name capital) name rest ts
tokens-name [] rest ts h ends tokens = absurd (cc)
tokens-name (b ∷ bs) rest ts h ends tokens =
    let known = declarable_name (b ∷ bs) h in
    (is_capital b, rw known.kind_is at (tokens-word (b ∷ bs) rest ts known.stands known.short ends tokens))

front-constant_name : (name rest : List ℕ) → IsTrue (is_declarable name) → ends_word rest ≡ true → front (36 ∷ name ++ rest) ≡ token kind.ConstName (length (36 ∷ name))
unfolding front
front-constant_name name rest h ends =
    let known = declarable_name name h in
    let size : 1 + length name ≡ length (36 ∷ name) = omega arith in
    rw (take-word name rest known.stands ends, known.name, of_word-short 1 name kind.ConstName known.short, size)

pub tokens-constant_name : (name rest : List ℕ) (ts : List Lexeme) → IsTrue (is_declarable name) → ends_word rest ≡ true
    → AreTokens ts (36 ∷ name ++ rest) → BeginsWith kind.ConstName (36 ∷ name) rest ts
tokens-constant_name name rest ts h ends = tokens-front kind.ConstName (36 ∷ name) rest ts refl (front-constant_name name rest h ends) refl (omega arith)
