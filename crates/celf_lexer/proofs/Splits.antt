-- Where a word ends in some bytes.
use Rattle.std.proofs.Common.{◌≡◌, ◌∙◌, ℕ, suc, ◌+◌, ◌<◌, ◌≤◌, ◌==◌, Bool, true, false, not, ◌&&◌, ◌||◌, ◌⊎◌, inl, inr, List, [], ◌∷◌, ◌++◌, length, take, drop, codes, refl, ap, sym, arith}
use Rattle.std.proofs.lemmas.Bool.{eqb-true, cond_both, and_parts, or_cases, not-true, both_ways}
use Rattle.std.proofs.lemmas.List.{length-take, take-append-drop}
use Rattle.std.proofs.Math.Seq.{take-append_seam}
use Rattle.clf_syntax.specs.Word.{is_name, is_name_byte, name_byte_first, goes_on, begins_word, is_word, is_word_rest, same_bytes, is_keyword, is_hole_word, all_digits}
use Rattle.celf_lexer.specs.Sign.{rest_length, word_length, word_here, after_word, is_back_lolli}
use Rattle.celf_lexer.specs.Spelling.{stops_word, arrow_goes_on, word_in}
use Rattle.celf_lexer.proofs.Words.{word_begins}
use Rattle.celf_lexer.proofs.Bounds.{same_bytes-equal}

abbrev pub first : List ℕ → ℕ
first [] = 0
first (b ∷ bs) = b

or_more : (x y z : Bool) → (x || (y && false)) ≡ true → (x || (y && z)) ≡ true
or_more true y z e = refl
or_more false true z e = cc
or_more false false z e = cc

goes_on_more : (b : ℕ) (bs more : List ℕ) → goes_on b bs ≡ true → goes_on b (bs ++ more) ≡ true
goes_on_more b [] more e = or_more (is_name_byte b) (b == 45) (name_byte_first more) e
goes_on_more b (c ∷ cs) more e = e

stopped : (after : List ℕ) → stops_word after ≡ true → rest_length after ≡ 0
stopped [] e = refl
stopped (b ∷ bs) e =
    cond_both (goes_on b bs) (1 + rest_length bs) 0 (λ n. n ≡ 0) (λ g. absurd (both_ways (stops_word (b ∷ bs)) (ap not g) e)) (λ g. refl)

rest_split : (w after : List ℕ) → is_word_rest w ≡ true → stops_word after ≡ true → rest_length (w ++ after) ≡ length w
rest_split [] after h e = stopped after e
rest_split (b ∷ bs) after h e =
    let g : goes_on b (bs ++ after) ≡ true = goes_on_more b bs after (and_parts (goes_on b bs) (is_word_rest bs) h).0 in
    cond_both (goes_on b (bs ++ after)) (1 + rest_length (bs ++ after)) 0 (λ n. n ≡ length (b ∷ bs))
    (λ f. omega (arith, rest_split bs after (and_parts (goes_on b bs) (is_word_rest bs) h).1 e))
    (λ f. absurd (both_ways (goes_on b (bs ++ after)) f g))

pub word_split : (w after : List ℕ) → is_word w ≡ true → stops_word after ≡ true → word_length (w ++ after) ≡ length w
word_split [] after h e = cc
word_split (b ∷ bs) after h e =
    cond_both (begins_word b) (1 + rest_length (bs ++ after)) 0 (λ n. n ≡ length (b ∷ bs))
    (λ f. omega (arith, rest_split bs after (and_parts (begins_word b) (is_word_rest bs) h).1 e))
    (λ f. absurd (both_ways (begins_word b) f (and_parts (begins_word b) (is_word_rest bs) h).0))

-- A word before bytes that stop it is the word that begins there.
pub word_here-split : (bytes w after : List ℕ) → is_word w ≡ true → stops_word after ≡ true → bytes ≡ w ++ after → word_here bytes ≡ w
word_here-split bytes w after h e eq = ap word_here eq ∙ ap (λ n. take n (w ++ after)) (word_split w after h e) ∙ take-append_seam w after

dropped_more : (k c : ℕ) (cs : List ℕ) → drop (1 + k) (c ∷ cs) ≡ drop k cs
dropped_more k c cs = let e : 1 + k ≡ suc k = omega arith in rw e refl

rest_stops : (bs : List ℕ) → stops_word (drop (rest_length bs) bs) ≡ true
rest_stops [] = refl
rest_stops (b ∷ bs) =
    cond_both (goes_on b bs) (1 + rest_length bs) 0 (λ n. stops_word (drop n (b ∷ bs)) ≡ true)
    (λ g. ap stops_word (dropped_more (rest_length bs) b bs) ∙ rest_stops bs)
    (λ g. ap not g)

-- The word that begins here is stopped by what follows it.
pub word_stops : (bytes : List ℕ) → 0 < length (word_here bytes) → stops_word (after_word bytes) ≡ true
word_stops [] h = refl
word_stops (b ∷ bs) h =
    cond_both (begins_word b) (1 + rest_length bs) 0 (λ n. 0 < length (take n (b ∷ bs)) → stops_word (drop n (b ∷ bs)) ≡ true)
    (λ g l. ap stops_word (dropped_more (rest_length bs) b bs) ∙ rest_stops bs)
    (λ g l. absurd (omega arith)) h

pub word_parts : (bytes : List ℕ) → bytes ≡ word_here bytes ++ after_word bytes
word_parts bytes = sym (take-append-drop (word_length bytes) bytes)

pub word_some : (bytes : List ℕ) → begins_word (first bytes) ≡ true → 0 < length (word_here bytes)
word_some [] e = cc
word_some (b ∷ bs) e = word_begins b bs e

pub word_first : (w after : List ℕ) → is_word w ≡ true → begins_word (first (w ++ after)) ≡ true
word_first [] after h = cc
word_first (b ∷ bs) after h = (and_parts (begins_word b) (is_word_rest bs) h).0

-- A word is its token's word.
pub word_in-word : (w : List ℕ) → is_word w ≡ true → word_in w ≡ w
word_in-word [] h = refl
word_in-word (b ∷ bs) h =
    let begins : begins_word b ≡ true = (and_parts (begins_word b) (is_word_rest bs) h).0 in
    cond_both (b == 36 || b == 35) bs (b ∷ bs) (λ w. w ≡ b ∷ bs)
    (λ g. elim (or_cases (b == 36) (b == 35) g) [
      | inl e ↦ absurd (both_ways (begins_word b) (ap begins_word (eqb-true b 36 e)) begins)
      | inr e ↦ absurd (both_ways (begins_word b) (ap begins_word (eqb-true b 35 e)) begins)
    ])
    (λ g. refl)

pub is_name-word : (w : List ℕ) → is_name w ≡ true → is_word w ≡ true
is_name-word w e = (and_parts (is_word w) (not (is_keyword w)) (and_parts (is_word w && not (is_keyword w)) (not (is_hole_word w)) (and_parts (is_word w && not (is_keyword w) && not (is_hole_word w)) (not (all_digits w)) e).0).0).0

-- the parts of o- where it stands
pub back_parts : (w a : List ℕ) → is_back_lolli w a ≡ true → (after : List ℕ) × (w ≡ codes "o") × (a ≡ 45 ∷ after) × (arrow_goes_on after ≡ false)
back_parts w [] e = cc
back_parts w (b ∷ []) e =
    ([], same_bytes-equal w (codes "o") (and_parts (same_bytes w (codes "o")) (b == 45) e).0, ap (λ c. c ∷ []) (eqb-true b 45 (and_parts (same_bytes w (codes "o")) (b == 45) e).1), refl)
back_parts w (b ∷ c ∷ bs) e =
    let dash : (same_bytes w (codes "o") && b == 45) ≡ true = (and_parts (same_bytes w (codes "o") && b == 45) (not (c == 62 || c == 64)) e).0 in
    let no_arrow : not (c == 62 || c == 64) ≡ true = (and_parts (same_bytes w (codes "o") && b == 45) (not (c == 62 || c == 64)) e).1 in
    (c ∷ bs, same_bytes-equal w (codes "o") (and_parts (same_bytes w (codes "o")) (b == 45) dash).0, ap (λ d. d ∷ c ∷ bs) (eqb-true b 45 (and_parts (same_bytes w (codes "o")) (b == 45) dash).1), not-true (c == 62 || c == 64) no_arrow)

alone_back : (after : List ℕ) → arrow_goes_on after ≡ false → is_back_lolli (codes "o") (45 ∷ after) ≡ true
alone_back [] g = refl
alone_back (c ∷ cs) g = ap not g

-- Where o- may stand, a word of two bytes or more begins there, or the word o that is a part of o-.
pub back_word : (after : List ℕ) → arrow_goes_on after ≡ false
    → (2 ≤ length (word_here (111 ∷ 45 ∷ after))) ⊎ (is_back_lolli (word_here (111 ∷ 45 ∷ after)) (after_word (111 ∷ 45 ∷ after)) ≡ true)
back_word after g =
    cond_both (name_byte_first after) (1 + rest_length after) 0 (λ n. (2 ≤ length (take (1 + n) (111 ∷ 45 ∷ after))) ⊎ (is_back_lolli (take (1 + n) (111 ∷ 45 ∷ after)) (drop (1 + n) (111 ∷ 45 ∷ after)) ≡ true))
    (λ e. inl (omega (arith, length-take (1 + (1 + rest_length after)) (111 ∷ 45 ∷ after))))
    (λ e. inr (alone_back after g))
