-- The spellings of the tokens of a text, as callers read them.
use Rattle.std.proofs.Common.{◌≡◌, ◌∙◌, ℕ, ◌+◌, ◌-◌, ◌≤◌, nat_le, Bool, true, false, not, List, [], ◌∷◌, ◌++◌, length, take, drop, codes, Ok, IsTrue, refl, ap, sym, subst, arith}
use Rattle.std.proofs.lemmas.Bool.{le-leb, cond_both, and_from, and_parts, both_ways, not-true}
use Rattle.std.proofs.lemmas.List.{drop-drop}
use Rattle.std.proofs.Math.Seq.{take-append_seam}
use Rattle.std.specs.List.{list_all}
use Rattle.std.specs.Str.{IsUtf8}
use Rattle.celf_lexer.specs.declared.token.TokenKind.{TokenKind}
use Rattle.celf_lexer.specs.declared.token.TokenKind.TheVariants as kind
use Rattle.celf_lexer.specs.declared.token.Token.{Token}
use Rattle.clf_syntax.specs.Word.{all_digits, is_word, is_name, is_declarable, same_bytes}
use Rattle.celf_lexer.specs.Gap.{gap}
use Rattle.celf_lexer.specs.Sign.{Front, token, long, bad, word_kind, hash_kind, signs, front}
use Rattle.celf_lexer.specs.Spelling.{Spelled, a_word, a_constant, behind_hash, back_lolli, a_sign, the_end, word_in, IsFront}
use Rattle.celf_lexer.specs.Tokens.{placed, first_of, next_token, lexeme_of}
use Rattle.celf_lexer.proofs.Ascii.{IsUtf8-word}
use Rattle.celf_lexer.proofs.Bounds.{is_word_kind, word_kind-is_word_kind}
use Rattle.celf_lexer.proofs.Longest.{front-is_front}
use Rattle.celf_lexer.proofs.Signs.{member_passes}
use Rattle.celf_lexer.proofs.Splits.{is_name-word, word_in-word}
use Rattle.celf_lexer.proofs.Words.{is_name_kind, is_name-word_kind}

placed_from : (at : ℕ) (f : Front) (t : Token) → placed at f ≡ Ok t → (t.start ≡ at) × (f ≡ token t.kind (t.end - t.start))
placed_from at (token k n) t e =
    let start_is : t.start ≡ at = cc in
    let kind_is : t.kind ≡ k = cc in
    let end_is : t.end ≡ at + n = cc in
    let size_is : t.end - t.start ≡ n = omega arith in
    (start_is, cc)
placed_from at long t e = cc
placed_from at bad t e = cc

-- The next token of a text is what begins the bytes from its start on.
pub next_token-front : (text : List ℕ) (at : ℕ) (t : Token) → next_token text at ≡ Ok t → front (drop t.start text) ≡ token t.kind (t.end - t.start)
unfolding first_of
next_token-front text at t e =
    let p = placed_from (at + gap (drop at text)) (front (drop (gap (drop at text)) (drop at text))) t e in
    ap (λ i. front (drop i text)) p.0 ∙ sym (ap front (drop-drop (gap (drop at text)) at text)) ∙ p.1

-- The next token has the longest spelling of those that may begin the bytes from its start on.
pub next_token-is_front : (text : List ℕ) (at : ℕ) (t : Token) → next_token text at ≡ Ok t → IsFront (drop t.start text) (token t.kind (t.end - t.start))
next_token-is_front text at t e = subst (IsFront (drop t.start text)) (next_token-front text at t e) (front-is_front (drop t.start text))

-- what follows the start of a token and is spelled as its kind is its spelling
spelling_is : (text : List ℕ) (t : Token) (s after : List ℕ) → drop t.start text ≡ s ++ after → length s ≡ t.end - t.start → (lexeme_of text t).spelling ≡ s
spelling_is text t s after e l = ap (λ n. take n (drop t.start text)) (sym l) ∙ ap (take (length s)) e ∙ take-append_seam s after

abbrev no_name : TokenKind → Bool
no_name (kind.Name c) = false
no_name kind.ConstName = false
no_name _ = true

hash_kind-no_name : (w : List ℕ) → no_name (hash_kind w) ≡ true
hash_kind-no_name w =
    cond_both (same_bytes w (codes "1")) kind.Proj1 _ (λ k. no_name k ≡ true) (λ e. refl) (λ e. cond_both (same_bytes w (codes "2")) kind.Proj2 kind.Directive (λ k. no_name k ≡ true) (λ f. refl) (λ f. refl))

signs_are_no_names : list_all (λ s. no_name s.1) signs ≡ true
signs_are_no_names = refl

name_spelled : {k : TokenKind} {s after : List ℕ} → Spelled k s after → (c : Bool) → k ≡ kind.Name c → is_name s ≡ true
name_spelled (a_word w after i e) c n = is_name-word_kind w i ∙ ap is_name_kind n
name_spelled (a_constant w after i e) c n = cc
name_spelled (behind_hash w after i e) c n = absurd (both_ways (no_name (hash_kind w)) (ap no_name n) (hash_kind-no_name w))
name_spelled (back_lolli after g) c n = cc
name_spelled (a_sign s after m i) c n = absurd (both_ways (no_name s.1) (ap no_name n) (member_passes (λ (u : List ℕ × TokenKind). no_name u.1) signs s signs_are_no_names m))
name_spelled the_end c n = cc

constant_spelled : {k : TokenKind} {s after : List ℕ} → Spelled k s after → k ≡ kind.ConstName → (w : List ℕ) × (s ≡ 36 ∷ w) × (is_name w ≡ true)
constant_spelled (a_word w after i e) n = absurd (both_ways (is_word_kind (word_kind w)) (ap is_word_kind n) (word_kind-is_word_kind w))
constant_spelled (a_constant w after i e) n = (w, refl, i)
constant_spelled (behind_hash w after i e) n = absurd (both_ways (no_name (hash_kind w)) (ap no_name n) (hash_kind-no_name w))
constant_spelled (back_lolli after g) n = cc
constant_spelled (a_sign s after m i) n = absurd (both_ways (no_name s.1) (ap no_name n) (member_passes (λ (u : List ℕ × TokenKind). no_name u.1) signs s signs_are_no_names m))
constant_spelled the_end n = cc

number_word : (w : List ℕ) → word_kind w ≡ kind.Number → all_digits w ≡ true
number_word [] e = refl
number_word (b ∷ bs) e =
    let P : TokenKind → Type 0 = λ k. k ≡ kind.Number → all_digits (b ∷ bs) ≡ true in
    cond_both (same_bytes (b ∷ bs) (codes "type")) kind.KwType _ P (λ g n. cc)
    (λ g. cond_both (same_bytes (b ∷ bs) (codes "Pi")) kind.KwPi _ P (λ h n. cc)
    (λ g. cond_both (same_bytes (b ∷ bs) (codes "Exists")) kind.KwExists _ P (λ h n. cc)
    (λ g. cond_both (same_bytes (b ∷ bs) (codes "let")) kind.KwLet _ P (λ h n. cc)
    (λ g. cond_both (same_bytes (b ∷ bs) (codes "in")) kind.KwIn _ P (λ h n. cc)
    (λ g. cond_both (same_bytes (b ∷ bs) (codes "_")) kind.Hole _ P (λ h n. cc)
    (λ g. cond_both (all_digits (b ∷ bs)) kind.Number _ P (λ h n. h) (λ h n. cc))))))) e

abbrev is_number : TokenKind → Bool
is_number kind.Number = true
is_number _ = false

declarable : (w : List ℕ) → is_name w ≡ true → length w ≤ 255 → is_declarable w ≡ true
declarable w n l = and_from (is_name w) (nat_le (length w) 255) n (le-leb (length w) 255 l)

-- The spelling of a name is a name that can be declared.
pub name-declarable : (text : List ℕ) (at : ℕ) (t : Token) (c : Bool) → next_token text at ≡ Ok t → t.kind ≡ kind.Name c → IsTrue (is_declarable (lexeme_of text t).spelling)
name-declarable text at t c e k =
    let f = next_token-is_front text at t e in
    let s = f.0 in
    let name : is_name s ≡ true = name_spelled f.3 c k in
    let short : length s ≤ 255 = omega (arith, f.6, ap length (word_in-word s (is_name-word s name))) in
    ap is_declarable (spelling_is text t s f.1 f.2 f.4) ∙ declarable s name short

-- The spelling of a constant name is a $ and a name that can be declared.
pub constant-declarable : (text : List ℕ) (at : ℕ) (t : Token) → next_token text at ≡ Ok t → t.kind ≡ kind.ConstName
    → (w : List ℕ) × ((lexeme_of text t).spelling ≡ 36 ∷ w) × IsTrue (is_declarable w)
constant-declarable text at t e k =
    let f = next_token-is_front text at t e in
    let p = constant_spelled f.3 k in
    let short : length p.0 ≤ 255 = omega (arith, f.6, ap (λ x. length (word_in x)) p.1) in
    (p.0, spelling_is text t f.0 f.1 f.2 f.4 ∙ p.1, declarable p.0 p.2 short)

-- A name that can be declared is a text.
pub IsUtf8-declarable : (w : List ℕ) → IsTrue (is_declarable w) → IsUtf8 w
IsUtf8-declarable w d = IsUtf8-word w (is_name-word w (and_parts (is_name w) (nat_le (length w) 255) d).0)
