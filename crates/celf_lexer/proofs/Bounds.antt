-- How many bytes gaps, words and tokens have.
use Rattle.std.proofs.Common.{◌≡◌, ℕ, ◌+◌, ◌<◌, ◌≤◌, ◌==◌, Bool, true, false, not, ◌&&◌, if◌then◌else◌, nat_lt, List, [], ◌∷◌, length, take, codes, refl, ap, arith}
use Rattle.std.proofs.lemmas.Bool.{cond_both, and_parts}
use Rattle.std.specs.List.{list_all}
use Rattle.std.proofs.lemmas.List.{length-take, length-drop}
use Rattle.celf_lexer.specs.declared.token.TokenKind.{TokenKind}
use Rattle.celf_lexer.specs.declared.token.TokenKind.TheVariants as kind
use Rattle.clf_syntax.specs.Word.{begins_word, goes_on, is_name, same_bytes, all_digits}
use Rattle.celf_lexer.specs.Gap.{is_blank, gap, comment}
use Rattle.celf_lexer.specs.Sign.{Front, token, long, bad, rest_length, word_length, word_here, after_word, word_kind, is_back_lolli, of_word, word_front, constant_front, hash_kind, hash_front, signs, fits, sign_front, front}
use Rattle.celf_lexer.specs.Tokens.{is_end}
use Rattle.celf_lexer.proofs.Words.{word_begins}

-- Two lists of bytes that pass the test are the same.
pub same_bytes-equal : (xs ys : List ℕ) → same_bytes xs ys ≡ true → xs ≡ ys
same_bytes-equal [] [] e = refl
same_bytes-equal [] (y ∷ ys) e = cc
same_bytes-equal (x ∷ xs) [] e = cc
same_bytes-equal (x ∷ xs) (y ∷ ys) e =
    let first : (x == y) ≡ true = (and_parts (x == y) (same_bytes xs ys) e).0 in
    let rest : xs ≡ ys = same_bytes-equal xs ys (and_parts (x == y) (same_bytes xs ys) e).1 in
    grind (arith, first, rest)

mutual
  pub gap-bound : (bytes : List ℕ) → gap bytes ≤ length bytes
  gap-bound [] = omega arith
  gap-bound (b ∷ bs) =
      cond_both (is_blank b) (1 + gap bs) (if b == 37 then 1 + comment bs else 0) (λ n. n ≤ length (b ∷ bs))
      (λ e. omega (arith, gap-bound bs))
      (λ e. cond_both (b == 37) (1 + comment bs) 0 (λ n. n ≤ length (b ∷ bs)) (λ f. omega (arith, comment-bound bs)) (λ f. omega arith))

  pub comment-bound : (bytes : List ℕ) → comment bytes ≤ length bytes
  comment-bound [] = omega arith
  comment-bound (b ∷ bs) =
      cond_both (b == 10) (1 + gap bs) (1 + comment bs) (λ n. n ≤ length (b ∷ bs)) (λ e. omega (arith, gap-bound bs)) (λ e. omega (arith, comment-bound bs))

pub rest_length-bound : (bytes : List ℕ) → rest_length bytes ≤ length bytes
rest_length-bound [] = omega arith
rest_length-bound (b ∷ bs) = cond_both (goes_on b bs) (1 + rest_length bs) 0 (λ n. n ≤ length (b ∷ bs)) (λ e. omega (arith, rest_length-bound bs)) (λ e. omega arith)

pub word_length-bound : (bytes : List ℕ) → word_length bytes ≤ length bytes
word_length-bound [] = omega arith
word_length-bound (b ∷ bs) = cond_both (begins_word b) (1 + rest_length bs) 0 (λ n. n ≤ length (b ∷ bs)) (λ e. omega (arith, rest_length-bound bs)) (λ e. omega arith)

pub word_here-length : (bytes : List ℕ) → length (word_here bytes) ≡ word_length bytes
word_here-length bytes = omega (arith, length-take (word_length bytes) bytes, word_length-bound bytes)

pub after_word-length : (bytes : List ℕ) → length (after_word bytes) + word_length bytes ≡ length bytes
after_word-length bytes = omega (arith, length-drop (word_length bytes) bytes, word_length-bound bytes)

-- a token that is not the end and has some of so many bytes
abbrev pub Grows : ℕ → Front → Type 0
Grows m (token k n) = (is_end k ≡ false) × (0 < n) × (n ≤ m)
Grows m long = 0 < m
Grows m bad = 0 < m

of_word-grows : (m before : ℕ) (word : List ℕ) (k : TokenKind) → is_end k ≡ false → 0 < before + length word → before + length word ≤ m → Grows m (of_word before word k)
of_word-grows m before word k e h l = cond_both (nat_lt 255 (length word)) long (token k (before + length word)) (Grows m) (λ f. omega arith) (λ f. (e, h, l))

-- the kinds of words
abbrev pub is_word_kind : TokenKind → Bool
is_word_kind kind.KwType = true
is_word_kind kind.KwPi = true
is_word_kind kind.KwExists = true
is_word_kind kind.KwLet = true
is_word_kind kind.KwIn = true
is_word_kind kind.Hole = true
is_word_kind kind.Number = true
is_word_kind (kind.Name c) = true
is_word_kind _ = false

pub word_kind-is_word_kind : (word : List ℕ) → is_word_kind (word_kind word) ≡ true
word_kind-is_word_kind [] = refl
word_kind-is_word_kind (b ∷ bs) =
    let P : TokenKind → Type 0 = λ k. is_word_kind k ≡ true in
    cond_both (same_bytes (b ∷ bs) (codes "type")) _ _ P (λ e. refl)
    (λ e. cond_both (same_bytes (b ∷ bs) (codes "Pi")) _ _ P (λ e. refl)
    (λ e. cond_both (same_bytes (b ∷ bs) (codes "Exists")) _ _ P (λ e. refl)
    (λ e. cond_both (same_bytes (b ∷ bs) (codes "let")) _ _ P (λ e. refl)
    (λ e. cond_both (same_bytes (b ∷ bs) (codes "in")) _ _ P (λ e. refl)
    (λ e. cond_both (same_bytes (b ∷ bs) (codes "_")) _ _ P (λ e. refl)
    (λ e. cond_both (all_digits (b ∷ bs)) _ _ P (λ e. refl) (λ e. refl)))))))

no_end : (k : TokenKind) → is_word_kind k ≡ true → is_end k ≡ false
no_end kind.End h = cc
no_end _ h = refl

pub word_kind-no_end : (word : List ℕ) → is_end (word_kind word) ≡ false
word_kind-no_end word = no_end (word_kind word) (word_kind-is_word_kind word)

-- where o- stands, the word is o, and bytes follow it
pub back_lolli-word : (word after : List ℕ) → is_back_lolli word after ≡ true → (length word ≡ 1) × (0 < length after)
back_lolli-word word [] e = cc
back_lolli-word word (b ∷ []) e = (ap length (same_bytes-equal word (codes "o") (and_parts (same_bytes word (codes "o")) (b == 45) e).0), omega arith)
back_lolli-word word (b ∷ c ∷ bs) e =
    (ap length (same_bytes-equal word (codes "o") (and_parts (same_bytes word (codes "o")) (b == 45) (and_parts (same_bytes word (codes "o") && b == 45) _ e).0).0), omega arith)

word_front-grows : (m : ℕ) (word after : List ℕ) → 0 < length word → length word + length after ≤ m → Grows m (word_front word after)
word_front-grows m word after h l =
    cond_both (is_back_lolli word after) (token kind.BackLolli 2) (of_word 0 word (word_kind word)) (Grows m)
    (λ e. (refl, omega arith, omega (arith, (back_lolli-word word after e).0, (back_lolli-word word after e).1)))
    (λ e. of_word-grows m 0 word (word_kind word) (word_kind-no_end word) (omega arith) (omega arith))

constant_front-grows : (m : ℕ) (word : List ℕ) → 1 + length word ≤ m → Grows m (constant_front word)
constant_front-grows m word l =
    cond_both (is_name word) (of_word 1 word kind.ConstName) bad (Grows m) (λ e. of_word-grows m 1 word kind.ConstName refl (omega arith) l) (λ e. omega arith)

hash_kind-no_end : (word : List ℕ) → is_end (hash_kind word) ≡ false
hash_kind-no_end word =
    let P : TokenKind → Type 0 = λ k. is_end k ≡ false in
    cond_both (same_bytes word (codes "1")) _ _ P (λ e. refl) (λ e. cond_both (same_bytes word (codes "2")) _ _ P (λ e. refl) (λ e. refl))

hash_front-grows : (m : ℕ) (word : List ℕ) → 1 + length word ≤ m → Grows m (hash_front word)
hash_front-grows m word l =
    cond_both (length word == 0) bad _ (Grows m) (λ e. omega arith) (λ e. of_word-grows m 1 word (hash_kind word) (hash_kind-no_end word) (omega arith) l)

-- a sign that has a byte and is not the end
abbrev pub is_sign : List ℕ × TokenKind → Bool
is_sign s = nat_lt 0 (length s.0) && not (is_end s.1)

fits-bound : (spelling bytes : List ℕ) → fits spelling bytes ≡ true → length spelling ≤ length bytes
fits-bound spelling bytes e =
    let same : take (length spelling) bytes ≡ spelling = same_bytes-equal _ _ (and_parts (same_bytes (take (length spelling) bytes) spelling) _ e).0 in
    omega (arith, ap length same, length-take (length spelling) bytes)

sign_front-grows : (ss : List (List ℕ × TokenKind)) (bytes : List ℕ) → list_all is_sign ss ≡ true → 0 < length bytes → Grows (length bytes) (sign_front ss bytes)
sign_front-grows [] bytes a h = h
sign_front-grows (s ∷ ss) bytes a h =
    let here : is_sign s ≡ true = (and_parts (is_sign s) (list_all is_sign ss) a).0 in
    cond_both (fits s.0 bytes) (token s.1 (length s.0)) (sign_front ss bytes) (Grows (length bytes))
    (λ e. (grind (arith, (and_parts (nat_lt 0 (length s.0)) (not (is_end s.1)) here).1), grind (arith, (and_parts (nat_lt 0 (length s.0)) (not (is_end s.1)) here).0), fits-bound s.0 bytes e))
    (λ e. sign_front-grows ss bytes (and_parts (is_sign s) (list_all is_sign ss) a).1 h)

-- what begins at a byte has a byte at least, and not more than there are
pub front-grows : (b : ℕ) (bs : List ℕ) → Grows (length (b ∷ bs)) (front (b ∷ bs))
unfolding front
front-grows b bs =
    let P : Front → Type 0 = Grows (length (b ∷ bs)) in
    cond_both (begins_word b) (word_front (word_here (b ∷ bs)) (after_word (b ∷ bs))) _ P
    (λ e. word_front-grows _ (word_here (b ∷ bs)) (after_word (b ∷ bs)) (word_begins b bs e) (omega (arith, word_here-length (b ∷ bs), after_word-length (b ∷ bs))))
    (λ e. cond_both (b == 36) (constant_front (word_here bs)) _ P
    (λ f. constant_front-grows _ (word_here bs) (omega (arith, word_here-length bs, word_length-bound bs)))
    (λ f. cond_both (b == 35) (hash_front (word_here bs)) _ P
    (λ g. hash_front-grows _ (word_here bs) (omega (arith, word_here-length bs, word_length-bound bs)))
    (λ g. sign_front-grows signs (b ∷ bs) refl (omega arith))))
