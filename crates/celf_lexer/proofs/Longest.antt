-- What begins some bytes is the token of the longest spelling.
use Rattle.std.proofs.Common.{◌≡◌, ◌∙◌, ℕ, ◌+◌, ◌<◌, ◌≤◌, ◌==◌, nat_lt, nat_le, Bool, true, false, not, ◌&&◌, ◌⊎◌, inl, inr, List, [], ◌∷◌, ◌++◌, length, take, drop, codes, refl, ap, sym, subst, arith, lit≤}
use Rattle.std.proofs.lemmas.Bool.{eqb-true, leb-true, ltb-true, ltb-false, cond_both, and_from, and_parts, not-true, both_ways}
use Rattle.std.proofs.lemmas.List.{take-append-drop, length-append}
use Rattle.std.proofs.Math.Seq.{take-append_seam, drop-append_seam}
use Rattle.std.specs.List.{list_all, Contains}
use Rattle.celf_lexer.specs.declared.token.TokenKind.{TokenKind}
use Rattle.celf_lexer.specs.declared.token.TokenKind.TheVariants as kind
use Rattle.clf_syntax.specs.Word.{begins_word, is_word, is_name, same_bytes}
use Rattle.celf_lexer.specs.Sign.{Front, token, long, bad, word_here, after_word, word_kind, is_back_lolli, of_word, word_front, constant_front, hash_kind, hash_front, signs, fits, may_stand, sign_front, front}
use Rattle.celf_lexer.specs.Spelling.{stops_word, Spelled, a_word, a_constant, behind_hash, back_lolli, a_sign, the_end, IsLongest, word_in, IsFront}
use Rattle.celf_lexer.proofs.Words.{word_here-is_word}
use Rattle.celf_lexer.proofs.Bounds.{same_bytes-equal}
use Rattle.celf_lexer.proofs.Splits.{first, word_here-split, word_stops, word_parts, word_some, word_first, word_in-word, is_name-word, back_parts, back_word}
use Rattle.celf_lexer.proofs.Signs.{member_passes, same_bytes-refl, FrontSign, sign_front-longest, signs_longer_first}

-- a sign whose first byte begins no word, no constant and nothing after a hash, and that is short
abbrev sign_is_apart : List ℕ × TokenKind → Bool
sign_is_apart s = not (begins_word (first s.0)) && not (first s.0 == 36) && not (first s.0 == 35) && nat_lt 0 (length s.0) && nat_le (length (word_in s.0)) 255

signs_are_apart : list_all sign_is_apart signs ≡ true
signs_are_apart = refl

pub record Apart (s : List ℕ) : Type 0 where
  pub no_word : begins_word (first s) ≡ false
  pub no_dollar : (first s == 36) ≡ false
  pub no_hash : (first s == 35) ≡ false
  pub some : 0 < length s
  pub short : length (word_in s) ≤ 255

pub apart : (s : List ℕ × TokenKind) → Contains signs s → Apart s.0
apart s m =
    let a = not (begins_word (first s.0)) in
    let b = not (first s.0 == 36) in
    let c = not (first s.0 == 35) in
    let d = nat_lt 0 (length s.0) in
    let e = nat_le (length (word_in s.0)) 255 in
    let all : sign_is_apart s ≡ true = member_passes sign_is_apart signs s signs_are_apart m in
    let four : (a && b && c && d) ≡ true = (and_parts (a && b && c && d) e all).0 in
    let three : (a && b && c) ≡ true = (and_parts (a && b && c) d four).0 in
    let two : (a && b) ≡ true = (and_parts (a && b) c three).0 in
    record {
      no_word = not-true (begins_word (first s.0)) (and_parts a b two).0;
      no_dollar = not-true (first s.0 == 36) (and_parts a b two).1;
      no_hash = not-true (first s.0 == 35) (and_parts (a && b) c three).1;
      some = ltb-true 0 (length s.0) (and_parts (a && b && c) d four).1;
      short = leb-true (length (word_in s.0)) 255 (and_parts (a && b && c && d) e all).1;
    }

first_kept : (s after : List ℕ) → 0 < length s → first (s ++ after) ≡ first s
first_kept [] after h = absurd (omega arith)
first_kept (b ∷ bs) after h = refl

-- which spellings stand where a word begins: the word, or o-
word_spelled : (bytes : List ℕ) → begins_word (first bytes) ≡ true → {k : TokenKind} {s after : List ℕ} → Spelled k s after → bytes ≡ s ++ after
    → (length s ≤ length (word_here bytes)) ⊎ ((length s ≡ 2) × (is_back_lolli (word_here bytes) (after_word bytes) ≡ true))
word_spelled bytes h (a_word w after i e) eq = inl (omega (arith, ap length (word_here-split bytes w after i e eq)))
word_spelled bytes h (a_constant w after i e) eq = absurd (both_ways (begins_word (first bytes)) (ap (λ b. begins_word (first b)) eq) h)
word_spelled bytes h (behind_hash w after i e) eq = absurd (both_ways (begins_word (first bytes)) (ap (λ b. begins_word (first b)) eq) h)
word_spelled bytes h (back_lolli after g) eq =
    let P : List ℕ → Type 0 = λ b. (2 ≤ length (word_here b)) ⊎ (is_back_lolli (word_here b) (after_word b) ≡ true) in
    elim (subst P (sym eq) (back_word after g)) [ inl l ↦ inl l | inr t ↦ inr (refl, t) ]
word_spelled bytes h (a_sign s after m i) eq =
    let a : Apart s.0 = apart s m in
    absurd (both_ways (begins_word (first bytes)) (ap (λ b. begins_word (first b)) eq ∙ ap begins_word (first_kept s.0 after a.some) ∙ a.no_word) h)
word_spelled bytes h the_end eq = absurd (both_ways (begins_word (first bytes)) (ap (λ b. begins_word (first b)) eq) h)

word_is_front : (bytes : List ℕ) → begins_word (first bytes) ≡ true → IsFront bytes (word_front (word_here bytes) (after_word bytes))
word_is_front bytes h =
    let w : List ℕ = word_here bytes in
    let a : List ℕ = after_word bytes in
    let some : 0 < length w = word_some bytes h in
    let word : is_word w ≡ true = word_here-is_word bytes some in
    let stops : stops_word a ≡ true = word_stops bytes some in
    cond_both (is_back_lolli w a) (token kind.BackLolli 2) (of_word 0 w (word_kind w)) (IsFront bytes)
    (λ t.
    let p = back_parts w a t in (
      codes "o-",
      p.0,
      word_parts bytes ∙ ap (λ x. x ++ a) p.1 ∙ ap (λ x. 111 ∷ x) p.2,
      back_lolli p.0 p.3,
      refl,
      λ k s after eq sp. elim (word_spelled bytes h sp eq) [ inl l ↦ omega (arith, ap length p.1) | inr q ↦ omega (arith, q.0) ],
      lit≤ tt,
    ))
    (λ f.
    let longest : IsLongest bytes (length w) = λ k s after eq sp. elim (word_spelled bytes h sp eq) [ inl l ↦ l | inr q ↦ absurd (both_ways (is_back_lolli w a) f q.1) ] in
    cond_both (nat_lt 255 (length w)) long (token (word_kind w) (0 + length w)) (IsFront bytes)
    (λ t. (word_kind w, w, a, word_parts bytes, a_word w a word stops, longest, omega (arith, ap length (word_in-word w word), ltb-true 255 (length w) t)))
    (λ t. (
      w,
      a,
      word_parts bytes,
      a_word w a word stops,
      omega arith,
      λ k s after eq sp. omega (arith, longest k s after eq sp),
      omega (arith, ap length (word_in-word w word), ltb-false 255 (length w) t),
    )))

pub word_has_byte : (w : List ℕ) → is_word w ≡ true → 0 < length w
word_has_byte [] e = cc
word_has_byte (b ∷ bs) e = omega arith

some_byte : (w : List ℕ) → (length w == 0) ≡ false → 0 < length w
some_byte [] e = cc
some_byte (b ∷ bs) e = omega arith

-- which spellings stand at a $: the constant name
constant_spelled : (bs : List ℕ) → {k : TokenKind} {s after : List ℕ} → Spelled k s after → 36 ∷ bs ≡ s ++ after → (is_name (word_here bs) ≡ true) × (length s ≡ 1 + length (word_here bs))
constant_spelled bs (a_word w after i e) eq = absurd (both_ways (begins_word (first (w ++ after))) (ap (λ b. begins_word (first b)) (sym eq)) (word_first w after i))
constant_spelled bs (a_constant w after i e) eq =
    let here : word_here bs ≡ w = word_here-split bs w after (is_name-word w i) e (ap (drop 1) eq) in
    (ap is_name here ∙ i, omega (arith, ap length here))
constant_spelled bs (behind_hash w after i e) eq = absurd (let x : 36 ≡ 35 = ap first eq in omega arith)
constant_spelled bs (back_lolli after g) eq = absurd (let x : 36 ≡ 111 = ap first eq in omega arith)
constant_spelled bs (a_sign s after m i) eq =
    let a : Apart s.0 = apart s m in
    absurd (both_ways (first (36 ∷ bs) == 36) (ap (λ b. first b == 36) eq ∙ ap (λ c. c == 36) (first_kept s.0 after a.some) ∙ a.no_dollar) refl)
constant_spelled bs the_end eq = cc

constant_is_front : (bs : List ℕ) → IsFront (36 ∷ bs) (constant_front (word_here bs))
constant_is_front bs =
    let w : List ℕ = word_here bs in
    let a : List ℕ = after_word bs in
    let parts : 36 ∷ bs ≡ 36 ∷ (w ++ a) = ap (λ x. 36 ∷ x) (word_parts bs) in
    let longest : IsLongest (36 ∷ bs) (1 + length w) = λ k s after eq sp. omega (arith, (constant_spelled bs sp eq).1) in
    cond_both (is_name w) (of_word 1 w kind.ConstName) bad (IsFront (36 ∷ bs))
    (λ n.
    let some : 0 < length w = word_has_byte w (is_name-word w n) in
    let stops : stops_word a ≡ true = word_stops bs some in
    cond_both (nat_lt 255 (length w)) long (token kind.ConstName (1 + length w)) (IsFront (36 ∷ bs))
    (λ t. (kind.ConstName, 36 ∷ w, a, parts, a_constant w a n stops, λ k s after eq sp. omega (arith, longest k s after eq sp), ltb-true 255 (length w) t))
    (λ t. (36 ∷ w, a, parts, a_constant w a n stops, omega arith, longest, ltb-false 255 (length w) t)))
    (λ n k s after eq sp. absurd (both_ways (is_name w) n (constant_spelled bs sp eq).0))

-- which spellings stand at a #: the # and the word after it
hash_spelled : (bs : List ℕ) → {k : TokenKind} {s after : List ℕ} → Spelled k s after → 35 ∷ bs ≡ s ++ after → (0 < length (word_here bs)) × (length s ≡ 1 + length (word_here bs))
hash_spelled bs (a_word w after i e) eq = absurd (both_ways (begins_word (first (w ++ after))) (ap (λ b. begins_word (first b)) (sym eq)) (word_first w after i))
hash_spelled bs (a_constant w after i e) eq = absurd (let x : 35 ≡ 36 = ap first eq in omega arith)
hash_spelled bs (behind_hash w after i e) eq =
    let here : word_here bs ≡ w = word_here-split bs w after i e (ap (drop 1) eq) in
    (omega (arith, ap length here, word_has_byte w i), omega (arith, ap length here))
hash_spelled bs (back_lolli after g) eq = absurd (let x : 35 ≡ 111 = ap first eq in omega arith)
hash_spelled bs (a_sign s after m i) eq =
    let a : Apart s.0 = apart s m in
    absurd (both_ways (first (35 ∷ bs) == 35) (ap (λ b. first b == 35) eq ∙ ap (λ c. c == 35) (first_kept s.0 after a.some) ∙ a.no_hash) refl)
hash_spelled bs the_end eq = cc

hash_is_front : (bs : List ℕ) → IsFront (35 ∷ bs) (hash_front (word_here bs))
hash_is_front bs =
    let w : List ℕ = word_here bs in
    let a : List ℕ = after_word bs in
    let parts : 35 ∷ bs ≡ 35 ∷ (w ++ a) = ap (λ x. 35 ∷ x) (word_parts bs) in
    let longest : IsLongest (35 ∷ bs) (1 + length w) = λ k s after eq sp. omega (arith, (hash_spelled bs sp eq).1) in
    cond_both (length w == 0) bad (of_word 1 w (hash_kind w)) (IsFront (35 ∷ bs))
    (λ z k s after eq sp. absurd (omega (arith, eqb-true (length w) 0 z, (hash_spelled bs sp eq).0)))
    (λ z.
    let some : 0 < length w = some_byte w z in
    let word : is_word w ≡ true = word_here-is_word bs some in
    let stops : stops_word a ≡ true = word_stops bs some in
    cond_both (nat_lt 255 (length w)) long (token (hash_kind w) (1 + length w)) (IsFront (35 ∷ bs))
    (λ t. (hash_kind w, 35 ∷ w, a, parts, behind_hash w a word stops, λ k s after eq sp. omega (arith, longest k s after eq sp), ltb-true 255 (length w) t))
    (λ t. (35 ∷ w, a, parts, behind_hash w a word stops, omega arith, longest, ltb-false 255 (length w) t)))

fits_spelled : (s after : List ℕ) → may_stand s after ≡ true → fits s (s ++ after) ≡ true
fits_spelled s after i =
    and_from (same_bytes (take (length s) (s ++ after)) s) (may_stand s (drop (length s) (s ++ after)))
    (ap (λ x. same_bytes x s) (take-append_seam s after) ∙ same_bytes-refl s)
    (ap (may_stand s) (drop-append_seam s after) ∙ i)

-- which spellings stand at any other byte: the signs that fit
sign_spelled : (b : ℕ) (bs : List ℕ) → begins_word b ≡ false → (b == 36) ≡ false → (b == 35) ≡ false → {k : TokenKind} {s after : List ℕ} → Spelled k s after → b ∷ bs ≡ s ++ after
    → (t : List ℕ × TokenKind) × Contains signs t × (fits t.0 (b ∷ bs) ≡ true) × (length s ≡ length t.0)
sign_spelled b bs x y z (a_word w after i e) eq = absurd (both_ways (begins_word (first (w ++ after))) (ap (λ c. begins_word (first c)) (sym eq) ∙ x) (word_first w after i))
sign_spelled b bs x y z (a_constant w after i e) eq = absurd (both_ways (first (36 ∷ w) == 36) (ap (λ c. first c == 36) (sym eq) ∙ y) refl)
sign_spelled b bs x y z (behind_hash w after i e) eq = absurd (both_ways (first (35 ∷ w) == 35) (ap (λ c. first c == 35) (sym eq) ∙ z) refl)
sign_spelled b bs x y z (back_lolli after g) eq = absurd (both_ways (begins_word (first (codes "o-"))) (ap (λ c. begins_word (first c)) (sym eq) ∙ x) refl)
sign_spelled b bs x y z (a_sign t after m i) eq = (t, m, ap (fits t.0) eq ∙ fits_spelled t.0 after i, refl)
sign_spelled b bs x y z the_end eq = cc

sign_found : (b : ℕ) (bs : List ℕ) → begins_word b ≡ false → (b == 36) ≡ false → (b == 35) ≡ false → (f : Front) → FrontSign signs (b ∷ bs) f → IsFront (b ∷ bs) f
sign_found b bs x y z (token k n) (s, m, f, e, l, longest) =
    let P : TokenKind → Type 0 = λ j. Spelled j s.0 (drop (length s.0) (b ∷ bs)) in
    let same : take (length s.0) (b ∷ bs) ≡ s.0 = same_bytes-equal (take (length s.0) (b ∷ bs)) s.0 (and_parts (same_bytes (take (length s.0) (b ∷ bs)) s.0) (may_stand s.0 (drop (length s.0) (b ∷ bs))) f).0 in
    let stands : may_stand s.0 (drop (length s.0) (b ∷ bs)) ≡ true = (and_parts (same_bytes (take (length s.0) (b ∷ bs)) s.0) (may_stand s.0 (drop (length s.0) (b ∷ bs))) f).1 in (
      s.0,
      drop (length s.0) (b ∷ bs),
      sym (take-append-drop (length s.0) (b ∷ bs)) ∙ ap (λ v. v ++ drop (length s.0) (b ∷ bs)) same,
      subst P e (a_sign s (drop (length s.0) (b ∷ bs)) m stands),
      l,
      λ j v after eq sp. let t = sign_spelled b bs x y z sp eq in omega (arith, longest t.0 t.1 t.2, t.3),
      (apart s m).short,
    )
sign_found b bs x y z long p = absurd p
sign_found b bs x y z bad none = λ k s after eq sp. let t = sign_spelled b bs x y z sp eq in none t.0 t.1 t.2

end_spelled : {k : TokenKind} {s after : List ℕ} → Spelled k s after → [] ≡ s ++ after → length s ≤ 0
end_spelled {k} {s} {after} sp eq = omega (arith, ap length eq, length-append s after)

-- What begins some bytes is the token of the longest spelling.
pub front-is_front : (bytes : List ℕ) → IsFront bytes (front bytes)
unfolding front
front-is_front [] = ([], [], refl, the_end, refl, λ k s after eq sp. end_spelled sp eq, lit≤ tt)
front-is_front (b ∷ bs) =
    cond_both (begins_word b) (word_front (word_here (b ∷ bs)) (after_word (b ∷ bs))) _ (IsFront (b ∷ bs))
    (λ x. word_is_front (b ∷ bs) x)
    (λ x. cond_both (b == 36) (constant_front (word_here bs)) _ (IsFront (b ∷ bs))
    (λ y. let P : ℕ → Type 0 = λ c. IsFront (c ∷ bs) (constant_front (word_here bs)) in subst P (sym (eqb-true b 36 y)) (constant_is_front bs))
    (λ y. cond_both (b == 35) (hash_front (word_here bs)) _ (IsFront (b ∷ bs))
    (λ z. let P : ℕ → Type 0 = λ c. IsFront (c ∷ bs) (hash_front (word_here bs)) in subst P (sym (eqb-true b 35 z)) (hash_is_front bs))
    (λ z. sign_found b bs x y z (sign_front signs (b ∷ bs)) (sign_front-longest signs (b ∷ bs) signs_longer_first))))
