-- Laws of words.
use Rattle.std.proofs.Common.{◌≡◌, ◌∙◌, ℕ, ◌+◌, ◌<◌, Bool, true, false, ◌&&◌, ◌||◌, ◌==◌, suc, if◌then◌else◌, List, [], ◌∷◌, length, take, refl, ap, sym, arith}
use Rattle.std.proofs.lemmas.Bool.{or_parts, and_from}
use Rattle.std.proofs.lemmas.Grind.{common_steps}
use Rattle.celf_lexer.specs.declared.token.TokenKind.{TokenKind}
use Rattle.celf_lexer.specs.declared.token.TokenKind.TheVariants.{Name}
use Rattle.clf_syntax.specs.Word.{is_name, is_name_byte, name_byte_first, goes_on, begins_word, is_word, is_word_rest}
use Rattle.celf_lexer.specs.Sign.{rest_length, word_here, word_kind}

pub taken_more : (k c : ℕ) (cs : List ℕ) → take (1 + k) (c ∷ cs) ≡ c ∷ take k cs
taken_more k c cs = let e : 1 + k ≡ suc k = omega arith in rw e refl

front_kept_at : (c : ℕ) (cs : List ℕ) (g : Bool) → goes_on c cs ≡ g → name_byte_first (take (if g then 1 + rest_length cs else 0) (c ∷ cs)) ≡ is_name_byte c
front_kept_at c cs true e = ap name_byte_first (taken_more (rest_length cs) c cs)
front_kept_at c cs false e = sym (or_parts (is_name_byte c) (c == 45 && name_byte_first cs) e).0

-- the first byte that goes on a word is the first of what goes it on
front_kept : (bs : List ℕ) → name_byte_first (take (rest_length bs) bs) ≡ name_byte_first bs
front_kept [] = refl
front_kept (c ∷ cs) = front_kept_at c cs (goes_on c cs) refl

goes_on_kept : (b : ℕ) (bs : List ℕ) → goes_on b (take (rest_length bs) bs) ≡ goes_on b bs
goes_on_kept b bs = ap (λ (f : Bool). is_name_byte b || (b == 45 && f)) (front_kept bs)

rest_is_word_at : (b : ℕ) (bs : List ℕ) (g : Bool) → goes_on b bs ≡ g → is_word_rest (take (rest_length bs) bs) ≡ true → is_word_rest (take (if g then 1 + rest_length bs else 0) (b ∷ bs)) ≡ true
rest_is_word_at b bs true e h = ap is_word_rest (taken_more (rest_length bs) b bs) ∙ and_from (goes_on b (take (rest_length bs) bs)) _ (goes_on_kept b bs ∙ e) h
rest_is_word_at b bs false e h = refl

rest_is_word : (bs : List ℕ) → is_word_rest (take (rest_length bs) bs) ≡ true
rest_is_word [] = refl
rest_is_word (b ∷ bs) = rest_is_word_at b bs (goes_on b bs) refl (rest_is_word bs)

word_here_at : (b : ℕ) (bs : List ℕ) (g : Bool) → begins_word b ≡ g
    → 0 < length (take (if g then 1 + rest_length bs else 0) (b ∷ bs)) → is_word (take (if g then 1 + rest_length bs else 0) (b ∷ bs)) ≡ true
word_here_at b bs true e h = ap is_word (taken_more (rest_length bs) b bs) ∙ and_from (begins_word b) _ e (rest_is_word bs)
word_here_at b bs false e h = absurd (omega arith)

word_begins_at : (b : ℕ) (bs : List ℕ) (g : Bool) → g ≡ true → 0 < length (take (if g then 1 + rest_length bs else 0) (b ∷ bs))
word_begins_at b bs true e = omega (arith, ap length (taken_more (rest_length bs) b bs))
word_begins_at b bs false e = cc

-- The word that begins with a byte that begins words has that byte.
pub word_begins : (b : ℕ) (bs : List ℕ) → begins_word b ≡ true → 0 < length (word_here (b ∷ bs))
word_begins b bs e = word_begins_at b bs (begins_word b) e

-- The word that begins here, where one does, is a word.
pub word_here-is_word : (bytes : List ℕ) → 0 < length (word_here bytes) → is_word (word_here bytes) ≡ true
word_here-is_word [] h = absurd (omega arith)
word_here-is_word (b ∷ bs) h = word_here_at b bs (begins_word b) refl h

abbrev pub is_name_kind : TokenKind → Bool
is_name_kind (Name c) = true
is_name_kind _ = false

-- A word is a name where its kind is.
pub is_name-word_kind : (w : List ℕ) → is_word w ≡ true → is_name w ≡ is_name_kind (word_kind w)
is_name-word_kind [] h = grind (arith, common_steps)
is_name-word_kind (b ∷ bs) h = grind (arith, common_steps)

pub ruleset word_here_is_word = (word_here-is_word)

pub ruleset name_has_kind = (is_name-word_kind)
