-- At most one token begins some bytes.
use Rattle.std.proofs.Common.{◌≡◌, ◌∙◌, ℕ, ◌==◌, Bool, true, not, ◌&&◌, if◌then◌else◌, inl, inr, List, [], ◌∷◌, ◌++◌, length, take, codes, refl, ap, ap₂, sym, subst, arith}
use Rattle.std.proofs.lemmas.Bool.{cond_both, and_parts, not-true, both_ways}
use Rattle.std.proofs.Math.Seq.{take-append_seam}
use Rattle.std.specs.List.{list_all, Contains}
use Rattle.celf_lexer.specs.declared.token.TokenKind.{TokenKind}
use Rattle.celf_lexer.specs.declared.token.TokenKind.TheVariants as kind
use Rattle.clf_syntax.specs.Word.{begins_word, is_word, is_word_rest, same_bytes}
use Rattle.celf_lexer.specs.Sign.{Front, token, long, bad, word_kind, hash_kind, signs, front}
use Rattle.celf_lexer.specs.Spelling.{Spelled, a_word, a_constant, behind_hash, back_lolli, a_sign, the_end, word_in, IsFront}
use Rattle.celf_lexer.proofs.Bounds.{same_bytes-equal}
use Rattle.celf_lexer.proofs.Signs.{member_cases, member_passes, same_bytes-refl}
use Rattle.celf_lexer.proofs.Longest.{Apart, apart, front-is_front}

sign_kind : List (List ℕ × TokenKind) → List ℕ → TokenKind
sign_kind [] s = kind.End
sign_kind (t ∷ ts) s = if same_bytes t.0 s then t.1 else sign_kind ts s

-- the kind that has a spelling
kind_of : List ℕ → TokenKind
kind_of [] = kind.End
kind_of (b ∷ bs) =
    if begins_word b then (if same_bytes (b ∷ bs) (codes "o-") then kind.BackLolli else word_kind (b ∷ bs))
    else if b == 36 then kind.ConstName
    else if b == 35 then hash_kind bs
    else sign_kind signs (b ∷ bs)

abbrev distinct : List (List ℕ × TokenKind) → Bool
distinct [] = true
distinct (t ∷ ts) = list_all (λ u. not (same_bytes t.0 u.0)) ts && distinct ts

sign_kind-found : (ts : List (List ℕ × TokenKind)) (t : List ℕ × TokenKind) → distinct ts ≡ true → Contains ts t → sign_kind ts t.0 ≡ t.1
unfolding sign_kind
sign_kind-found [] t d (k, h, e) = absurd (omega arith)
sign_kind-found (u ∷ us) t d m =
    cond_both (same_bytes u.0 t.0) u.1 (sign_kind us t.0) (λ k. k ≡ t.1)
    (λ same. elim (member_cases u us t m) [
      | inl e ↦ ap (λ (v : List ℕ × TokenKind). v.1) e
      | inr n ↦ absurd (both_ways (same_bytes u.0 t.0) (not-true (same_bytes u.0 t.0) (member_passes (λ v. not (same_bytes u.0 v.0)) us t (and_parts (list_all (λ v. not (same_bytes u.0 v.0)) us) (distinct us) d).0 n)) same)
    ])
    (λ other. elim (member_cases u us t m) [
      | inl e ↦ absurd (both_ways (same_bytes u.0 t.0) other (ap (λ (v : List ℕ × TokenKind). same_bytes u.0 v.0) (sym e) ∙ same_bytes-refl u.0))
      | inr n ↦ sign_kind-found us t (and_parts (list_all (λ v. not (same_bytes u.0 v.0)) us) (distinct us) d).1 n
    ])

word_kind_of : (w : List ℕ) → is_word w ≡ true → kind_of w ≡ word_kind w
unfolding kind_of
word_kind_of [] i = cc
word_kind_of (b ∷ bs) i =
    cond_both (begins_word b) (if same_bytes (b ∷ bs) (codes "o-") then kind.BackLolli else word_kind (b ∷ bs)) _ (λ k. k ≡ word_kind (b ∷ bs))
    (λ h. cond_both (same_bytes (b ∷ bs) (codes "o-")) kind.BackLolli (word_kind (b ∷ bs)) (λ k. k ≡ word_kind (b ∷ bs))
    (λ s. absurd (both_ways (is_word (b ∷ bs)) (ap is_word (same_bytes-equal (b ∷ bs) (codes "o-") s)) i))
    (λ s. refl))
    (λ h. absurd (both_ways (begins_word b) h (and_parts (begins_word b) (is_word_rest bs) i).0))

sign_kind_of : (s : List ℕ) → Apart s → kind_of s ≡ sign_kind signs s
unfolding kind_of
sign_kind_of [] a = absurd (omega (arith, a.some))
sign_kind_of (b ∷ bs) a =
    let P : TokenKind → Type 0 = λ k. k ≡ sign_kind signs (b ∷ bs) in
    cond_both (begins_word b) (if same_bytes (b ∷ bs) (codes "o-") then kind.BackLolli else word_kind (b ∷ bs)) _ P
    (λ h. absurd (both_ways (begins_word b) a.no_word h))
    (λ h. cond_both (b == 36) kind.ConstName _ P (λ g. absurd (both_ways (b == 36) a.no_dollar g))
    (λ g. cond_both (b == 35) (hash_kind bs) _ P (λ f. absurd (both_ways (b == 35) a.no_hash f)) (λ f. refl)))

-- A spelling has one kind.
spelled_kind : {k : TokenKind} {s after : List ℕ} → Spelled k s after → k ≡ kind_of s
unfolding kind_of
spelled_kind (a_word w after i e) = sym (word_kind_of w i)
spelled_kind (a_constant w after i e) = refl
spelled_kind (behind_hash w after i e) = refl
spelled_kind (back_lolli after g) = refl
spelled_kind (a_sign s after m i) = sym (sign_kind_of s.0 (apart s m) ∙ sign_kind-found signs s refl m)
spelled_kind the_end = refl

same_spelling : (bytes s t after more : List ℕ) → bytes ≡ s ++ after → bytes ≡ t ++ more → length s ≡ length t → s ≡ t
same_spelling bytes s t after more e f l =
    sym (take-append_seam s after) ∙ ap (take (length s)) (sym e ∙ f) ∙ ap (λ n. take n (t ++ more)) l ∙ take-append_seam t more

-- Only one front begins some bytes.
pub IsFront-one : (bytes : List ℕ) (f g : Front) → IsFront bytes f → IsFront bytes g → f ≡ g
IsFront-one bytes (token k n) (token j m) (s, a, e, sp, l, up, short) (t, b, f, tp, r, vp, also) =
    let one : n ≡ m = omega (arith, vp k s a e sp, up j t b f tp) in
    let same : s ≡ t = same_spelling bytes s t a b e f (l ∙ one ∙ sym r) in
    ap₂ token (spelled_kind sp ∙ ap kind_of same ∙ sym (spelled_kind tp)) one
IsFront-one bytes (token k n) long (s, a, e, sp, l, up, short) (j, t, b, f, tp, vp, more) =
    let one : length s ≡ length t = omega (arith, vp k s a e sp, up j t b f tp) in
    absurd (omega (arith, ap (λ x. length (word_in x)) (same_spelling bytes s t a b e f one)))
IsFront-one bytes (token k n) bad (s, a, e, sp, l, up, short) none = absurd (none k s a e sp)
IsFront-one bytes long (token j m) (k, s, a, e, sp, up, more) (t, b, f, tp, r, vp, short) =
    let one : length s ≡ length t = omega (arith, vp k s a e sp, up j t b f tp) in
    absurd (omega (arith, ap (λ x. length (word_in x)) (same_spelling bytes s t a b e f one)))
IsFront-one bytes long long p q = refl
IsFront-one bytes long bad (k, s, a, e, sp, up, more) none = absurd (none k s a e sp)
IsFront-one bytes bad (token j m) none (t, b, f, tp, r, vp, short) = absurd (none j t b f tp)
IsFront-one bytes bad long none (j, t, b, f, tp, vp, more) = absurd (none j t b f tp)
IsFront-one bytes bad bad p q = refl

-- The front of some bytes is the one that begins them.
pub front-decides : (bytes : List ℕ) (f : Front) → (front bytes ≡ f → IsFront bytes f) × (IsFront bytes f → front bytes ≡ f)
front-decides bytes f = (λ e. subst (IsFront bytes) e (front-is_front bytes), λ p. IsFront-one bytes (front bytes) f (front-is_front bytes) p)
