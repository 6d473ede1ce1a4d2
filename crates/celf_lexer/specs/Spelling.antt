-- Which tokens may begin some bytes, by their spellings, and which of them does: the one with the longest spelling.
use Rattle.std.specs.Prelude.{ℕ, ◌≡◌, ◌<◌, ◌≤◌, ◌==◌, Bool, true, false, not, ◌||◌, if◌then◌else◌, List, [], ◌∷◌, ◌++◌, length, codes}
use Rattle.std.specs.List.{Contains}
use Rattle.celf_lexer.specs.declared.token.TokenKind.{TokenKind}
use Rattle.celf_lexer.specs.declared.token.TokenKind.TheVariants as kind
use Rattle.clf_syntax.specs.Word.{is_word, is_name, goes_on, word_limit}
use Rattle.celf_lexer.specs.Sign.{Front, token, long, bad, word_kind, hash_kind, signs, may_stand}

-- No word goes on with these bytes.
abbrev pub stops_word : List ℕ → Bool
stops_word [] = true
stops_word (b ∷ bs) = not (goes_on b bs)

-- > or @ comes first, which makes another arrow of a - before it.
abbrev pub arrow_goes_on : List ℕ → Bool
arrow_goes_on [] = false
arrow_goes_on (b ∷ bs) = b == 62 || b == 64

-- A kind of token, a spelling that it has, and bytes that may follow that spelling.
pub data Spelled : TokenKind → List ℕ → List ℕ → Type 0 where
  a_word : (w after : List ℕ) → is_word w ≡ true → stops_word after ≡ true → Spelled (word_kind w) w after
  a_constant : (w after : List ℕ) → is_name w ≡ true → stops_word after ≡ true → Spelled kind.ConstName (36 ∷ w) after
  behind_hash : (w after : List ℕ) → is_word w ≡ true → stops_word after ≡ true → Spelled (hash_kind w) (35 ∷ w) after
  back_lolli : (after : List ℕ) → arrow_goes_on after ≡ false → Spelled kind.BackLolli (codes "o-") after
  a_sign : (s : List ℕ × TokenKind) (after : List ℕ) → Contains signs s → may_stand s.0 after ≡ true → Spelled s.1 s.0 after
  the_end : Spelled kind.End [] []

-- No token with a spelling of more bytes may begin the bytes.
abbrev pub IsLongest : List ℕ → ℕ → Type 0
IsLongest bytes n = (k : TokenKind) (s after : List ℕ) → bytes ≡ s ++ after → Spelled k s after → length s ≤ n

-- the word of a token: what follows its $ or #, or the whole
abbrev pub word_in : List ℕ → List ℕ
word_in [] = []
word_in (b ∷ bs) = if b == 36 || b == 35 then bs else b ∷ bs

-- What begins some bytes: the token of the longest spelling; a long word where the word of that token is longer than a word may be; nothing where no token may begin them.
abbrev pub IsFront : List ℕ → Front → Type 0
IsFront bytes (token k n) = (s after : List ℕ) × (bytes ≡ s ++ after) × Spelled k s after × (length s ≡ n) × IsLongest bytes n × (length (word_in s) ≤ word_limit)
IsFront bytes long = (k : TokenKind) × (s after : List ℕ) × (bytes ≡ s ++ after) × Spelled k s after × IsLongest bytes (length s) × (word_limit < length (word_in s))
IsFront bytes bad = (k : TokenKind) (s after : List ℕ) → bytes ≡ s ++ after → Spelled k s after → ⊥
