-- What begins at the front of some bytes: a word, a sign, or nothing.
use Rattle.std.specs.Prelude.{ℕ, ◌+◌, ◌==◌, nat_lt, Bool, false, not, ◌&&◌, ◌||◌, if◌then◌else◌, List, [], ◌∷◌, length, take, drop, codes}
use Rattle.celf_lexer.specs.declared.token.TokenKind.{TokenKind}
use Rattle.celf_lexer.specs.declared.token.TokenKind.TheVariants as kind
use Rattle.clf_syntax.specs.Word.{begins_word, goes_on, name_byte_first, is_name, is_capital, same_bytes, all_digits, word_limit}

-- how many bytes the word has that goes on here
abbrev pub rest_length : List ℕ → ℕ
rest_length [] = 0
rest_length (b ∷ bs) = if goes_on b bs then 1 + rest_length bs else 0

-- how many bytes the word has that begins here, 0 where none does
abbrev pub word_length : List ℕ → ℕ
word_length [] = 0
word_length (b ∷ bs) = if begins_word b then 1 + rest_length bs else 0

-- the word that begins here, empty where none does
abbrev pub word_here : List ℕ → List ℕ
word_here bytes = take (word_length bytes) bytes

-- what follows the word that begins here
abbrev pub after_word : List ℕ → List ℕ
after_word bytes = drop (word_length bytes) bytes

-- Some kind, and how many bytes the token has; a word that is too long; or no token.
pub data Front : Type 0 where
  token : TokenKind → ℕ → Front
  long : Front
  bad : Front

-- The keywords are type, Pi, Exists, let and in; _ is a hole; digits alone are a number; every other word is a name.
abbrev pub word_kind : List ℕ → TokenKind
word_kind [] = kind.Hole
word_kind (b ∷ bs) =
    if same_bytes (b ∷ bs) (codes "type") then kind.KwType
    else if same_bytes (b ∷ bs) (codes "Pi") then kind.KwPi
    else if same_bytes (b ∷ bs) (codes "Exists") then kind.KwExists
    else if same_bytes (b ∷ bs) (codes "let") then kind.KwLet
    else if same_bytes (b ∷ bs) (codes "in") then kind.KwIn
    else if same_bytes (b ∷ bs) (codes "_") then kind.Hole
    else if all_digits (b ∷ bs) then kind.Number
    else kind.Name (is_capital b)

-- o and - are one sign, but where the - belongs to -> or -@.
abbrev pub is_back_lolli : List ℕ → List ℕ → Bool
is_back_lolli word (b ∷ c ∷ bs) = same_bytes word (codes "o") && b == 45 && not (c == 62 || c == 64)
is_back_lolli word (b ∷ []) = same_bytes word (codes "o") && b == 45
is_back_lolli word [] = false

-- a token whose word begins after so many bytes
abbrev pub of_word : ℕ → List ℕ → TokenKind → Front
of_word before word k = if nat_lt word_limit (length word) then long else token k (before + length word)

-- the word, and what follows it
abbrev pub word_front : List ℕ → List ℕ → Front
word_front word rest = if is_back_lolli word rest then token kind.BackLolli 2 else of_word 0 word (word_kind word)

-- after a $: the word has to be a name
abbrev pub constant_front : List ℕ → Front
constant_front word = if is_name word then of_word 1 word kind.ConstName else bad

-- after a #: a projection or a directive
abbrev pub hash_kind : List ℕ → TokenKind
hash_kind word = if same_bytes word (codes "1") then kind.Proj1 else if same_bytes word (codes "2") then kind.Proj2 else kind.Directive

abbrev pub hash_front : List ℕ → Front
hash_front word = if length word == 0 then bad else of_word 1 word (hash_kind word)

-- the signs and their spellings, the longer ones first
abbrev pub signs : List (List ℕ × TokenKind)
signs =
    (codes "<T>", kind.TopSign) ∷ (codes "->", kind.Arrow) ∷ (codes "<-", kind.BackArrow) ∷ (codes "-o", kind.Lolli) ∷ (codes "-@", kind.Affine)
    ∷ (codes "<>", kind.UnitSign) ∷ (codes "<", kind.Less) ∷ (codes ">", kind.Greater) ∷ (codes "{", kind.LeftBrace) ∷ (codes "}", kind.RightBrace)
    ∷ (codes "(", kind.LeftParen) ∷ (codes ")", kind.RightParen) ∷ (codes "[", kind.LeftBracket) ∷ (codes "]", kind.RightBracket)
    ∷ (codes ",", kind.Comma) ∷ (codes ".", kind.Stop) ∷ (codes ":", kind.Colon) ∷ (codes "=", kind.Equals) ∷ (codes "\\", kind.Backslash)
    ∷ (codes "!", kind.Bang) ∷ (codes "@", kind.AtSign) ∷ (codes "*", kind.Star) ∷ (codes "&", kind.Amp) ∷ []

-- -o is a sign where no name byte follows it; the other signs may stand before all bytes.
abbrev pub may_stand : List ℕ → List ℕ → Bool
may_stand spelling after = not (same_bytes spelling (codes "-o") && name_byte_first after)

abbrev pub fits : List ℕ → List ℕ → Bool
fits spelling bytes = same_bytes (take (length spelling) bytes) spelling && may_stand spelling (drop (length spelling) bytes)

-- the first sign of the table that fits, which is the longest
abbrev pub sign_front : List (List ℕ × TokenKind) → List ℕ → Front
sign_front [] bytes = bad
sign_front (s ∷ ss) bytes = if fits s.0 bytes then token s.1 (length s.0) else sign_front ss bytes

-- What begins at the front of the bytes.
unfoldable pub front : List ℕ → Front
front [] = token kind.End 0
front (b ∷ bs) =
    if begins_word b then word_front (word_here (b ∷ bs)) (after_word (b ∷ bs))
    else if b == 36 then constant_front (word_here bs)
    else if b == 35 then hash_front (word_here bs)
    else sign_front signs (b ∷ bs)
