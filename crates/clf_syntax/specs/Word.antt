-- The words of the language: which bytes a word has, and which words are names.
use Rattle.std.specs.Prelude.{ℕ, ◌==◌, nat_le, Bool, true, false, not, ◌&&◌, ◌||◌, List, [], ◌∷◌, length, codes}

abbrev pub is_digit : ℕ → Bool
is_digit b = nat_le 48 b && nat_le b 57

abbrev pub is_capital : ℕ → Bool
is_capital b = nat_le 65 b && nat_le b 90

abbrev pub is_letter : ℕ → Bool
is_letter b = is_capital b || (nat_le 97 b && nat_le b 122)

-- a letter, a digit, or one of _ ' /
abbrev pub is_name_byte : ℕ → Bool
is_name_byte b = is_letter b || is_digit b || b == 95 || b == 39 || b == 47

-- a letter, a digit, or _
abbrev pub begins_word : ℕ → Bool
begins_word b = is_letter b || is_digit b || b == 95

abbrev pub name_byte_first : List ℕ → Bool
name_byte_first [] = false
name_byte_first (b ∷ bs) = is_name_byte b

-- a word goes on with this byte, before those bytes: a name byte, or a - directly before a name byte
abbrev pub goes_on : ℕ → List ℕ → Bool
goes_on b bs = is_name_byte b || (b == 45 && name_byte_first bs)

-- all of these bytes go on a word
abbrev pub is_word_rest : List ℕ → Bool
is_word_rest [] = true
is_word_rest (b ∷ bs) = goes_on b bs && is_word_rest bs

abbrev pub is_word : List ℕ → Bool
is_word [] = false
is_word (b ∷ bs) = begins_word b && is_word_rest bs

abbrev pub all_digits : List ℕ → Bool
all_digits [] = true
all_digits (b ∷ bs) = is_digit b && all_digits bs

abbrev pub same_bytes : List ℕ → List ℕ → Bool
same_bytes [] [] = true
same_bytes (b ∷ bs) (c ∷ cs) = b == c && same_bytes bs cs
same_bytes [] (c ∷ cs) = false
same_bytes (b ∷ bs) [] = false

abbrev pub is_keyword : List ℕ → Bool
is_keyword w = same_bytes w (codes "type") || same_bytes w (codes "Pi") || same_bytes w (codes "Exists") || same_bytes w (codes "let") || same_bytes w (codes "in")

-- The hole's word is _.
abbrev pub is_hole_word : List ℕ → Bool
is_hole_word w = same_bytes w (codes "_")

-- A name is a word that is no keyword, no hole and no number.
abbrev pub is_name : List ℕ → Bool
is_name w = is_word w && not (is_keyword w) && not (is_hole_word w) && not (all_digits w)

-- the most bytes that a word may have
abbrev pub word_limit : ℕ
word_limit = 255

-- A name that the language can declare: a name that is no longer than a word may be.
abbrev pub is_declarable : List ℕ → Bool
is_declarable w = is_name w && nat_le (length w) word_limit

-- x and then at least one digit and nothing else: so variables are printed
abbrev pub is_variable_word : List ℕ → Bool
is_variable_word [] = false
is_variable_word (b ∷ []) = false
is_variable_word (b ∷ c ∷ bs) = b == 120 && is_digit c && all_digits bs
