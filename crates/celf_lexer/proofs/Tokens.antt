-- Laws of the tokens of a text.
use Rattle.std.proofs.Common.{◌≡◌, ◌≢◌, ◌∙◌, ℕ, zero, suc, ◌+◌, ◌-◌, ◌<◌, ◌≤◌, Bool, true, false, if◌then◌else◌, List, [], ◌∷◌, length, take, drop, Result, Ok, Err, refl, ap, sym, arith}
use Rattle.std.proofs.lemmas.List.{length-drop, drop-drop}
use Rattle.std.specs.Result.{IfErr, IfOk}
use Rattle.celf_lexer.specs.declared.token.TokenKind.{TokenKind}
use Rattle.celf_lexer.specs.declared.token.TokenKind.TheVariants.{End}
use Rattle.celf_lexer.specs.declared.token.Token.{Token}
use Rattle.celf_lexer.specs.declared.token.LexFault.{LexFault}
use Rattle.celf_lexer.specs.declared.token.LexFault.TheVariants.{BadByte, LongName}
use Rattle.celf_lexer.specs.Gap.{gap}
use Rattle.celf_lexer.specs.Sign.{Front, token, long, bad, front}
use Rattle.celf_lexer.specs.Tokens.{fault_byte, placed, first_of, next_token, Lexeme, is_end, token_first, tokens_within, tokens_of, tokens_from, tokens_at}
use Rattle.celf_lexer.proofs.Bounds.{Grows, front-grows, gap-bound}

-- a token that stands at or after a place, and ends at or before a limit: it has a byte, or is the end and stands at the limit
pub record StandsWithin (at limit : ℕ) (t : Token) : Type 0 where
  pub behind : at ≤ t.start
  pub ordered : t.start ≤ t.end
  pub within : t.end ≤ limit
  pub has_byte : is_end t.kind ≡ false → t.start < t.end
  pub at_end : is_end t.kind ≡ true → (t.start ≡ limit) × (t.end ≡ limit)

placed-grown : (at m : ℕ) (f : Front) (t : Token) → Grows m f → placed at f ≡ Ok t → StandsWithin at (at + m) t
placed-grown at m (token k n) t g e =
    let kind_is : t.kind ≡ k = cc in
    let start_is : t.start ≡ at = cc in
    let end_is : t.end ≡ at + n = cc in
    record { behind = omega arith; ordered = omega arith; within = omega (arith, g.2); has_byte = λ h. omega (arith, g.1); at_end = λ h. absurd (let x : true ≡ false = sym h ∙ ap is_end kind_is ∙ g.0 in cc) }
placed-grown at m long t g e = cc
placed-grown at m bad t g e = cc

placed-stands : (at : ℕ) (bytes : List ℕ) (t : Token) → placed at (front bytes) ≡ Ok t → StandsWithin at (at + length bytes) t
unfolding front
placed-stands at [] t e =
    let start_is : t.start ≡ at = cc in
    let end_is : t.end ≡ at + 0 = cc in
    let kind_is : is_end t.kind ≡ true = cc in
    record { behind = omega arith; ordered = omega arith; within = omega arith; has_byte = λ h. absurd (let x : true ≡ false = sym kind_is ∙ h in cc); at_end = λ h. (omega arith, omega arith) }
placed-stands at (b ∷ bs) t e = placed-grown at (length (b ∷ bs)) (front (b ∷ bs)) t (front-grows b bs) e

pub first_of-stands : (at : ℕ) (bytes : List ℕ) (t : Token) → first_of at bytes ≡ Ok t → StandsWithin at (at + length bytes) t
unfolding first_of
first_of-stands at bytes t e =
    let s : StandsWithin (at + gap bytes) (at + gap bytes + length (drop (gap bytes) bytes)) t = placed-stands (at + gap bytes) (drop (gap bytes) bytes) t e in
    let l : at + gap bytes + length (drop (gap bytes) bytes) ≡ at + length bytes = omega (arith, gap-bound bytes, length-drop (gap bytes) bytes) in
    record { behind = omega arith; ordered = s.ordered; within = omega arith; has_byte = s.has_byte; at_end = λ h. ((s.at_end h).0 ∙ l, (s.at_end h).1 ∙ l) }

placed_fault : (at : ℕ) (f : Front) (m : ℕ) (l : LexFault) → Grows m f → placed at f ≡ Err l → (fault_byte l ≡ at) × (0 < m)
placed_fault at (token k n) m l g e = cc
placed_fault at long m l g e = (ap fault_byte (let x : l ≡ LongName at = cc in x), g)
placed_fault at bad m l g e = (ap fault_byte (let x : l ≡ BadByte at = cc in x), g)

fault_stands : (at : ℕ) (bytes : List ℕ) (l : LexFault) → placed at (front bytes) ≡ Err l → (fault_byte l ≡ at) × (0 < length bytes)
unfolding front
fault_stands at [] l e = cc
fault_stands at (b ∷ bs) l e = placed_fault at (front (b ∷ bs)) (length (b ∷ bs)) l (front-grows b bs) e

-- A fault is said of a byte of the text, after the place.
pub next_token-fault : (text : List ℕ) (at : ℕ) (l : LexFault) → at ≤ length text → next_token text at ≡ Err l → (at ≤ fault_byte l) × (fault_byte l < length text)
unfolding first_of
next_token-fault text at l h e =
    let bytes : List ℕ = drop at text in
    let s = fault_stands (at + gap bytes) (drop (gap bytes) bytes) l e in
    (omega (arith, s.0), omega (arith, s.0, s.1, length-drop (gap bytes) bytes, length-drop at text))

-- The next token stands within the text, after the place.
pub next_token-stands : (text : List ℕ) (at : ℕ) (t : Token) → at ≤ length text → next_token text at ≡ Ok t → StandsWithin at (length text) t
next_token-stands text at t h e =
    let s : StandsWithin at (at + length (drop at text)) t = first_of-stands at (drop at text) t e in
    let l : at + length (drop at text) ≡ length text = omega (arith, length-drop at text) in
    record { behind = s.behind; ordered = s.ordered; within = omega arith; has_byte = s.has_byte; at_end = λ h. ((s.at_end h).0 ∙ l, (s.at_end h).1 ∙ l) }

else_same : {A : Type 0} (b : Bool) (x y z : A) → (b ≡ false → y ≡ z) → (if b then x else y) ≡ (if b then x else z)
else_same true x y z h = refl
else_same false x y z h = h refl

first_same : (p q : ℕ → List ℕ → List Lexeme) (at : ℕ) (bytes : List ℕ) (r : Result Token LexFault) → first_of at bytes ≡ r
    → ((t : Token) → first_of at bytes ≡ Ok t → is_end t.kind ≡ false → p t.end (drop (t.end - at) bytes) ≡ q t.end (drop (t.end - at) bytes))
    → token_first p at bytes r ≡ token_first q at bytes r
first_same p q at bytes (Err f) e h = refl
first_same p q at bytes (Ok t) e h =
    let l : Lexeme = record { kind = t.kind; start = t.start; spelling = take (t.end - t.start) (drop (t.start - at) bytes) } in
    ap (λ (ls : List Lexeme). l ∷ ls) (else_same (is_end t.kind) [] (p t.end (drop (t.end - at) bytes)) (q t.end (drop (t.end - at) bytes)) (h t e))

-- As many steps as there are bytes, and one more, reach the end: more do nothing.
pub tokens_within-enough : (m n at : ℕ) (bytes : List ℕ) → length bytes < m → length bytes < n → tokens_within m at bytes ≡ tokens_within n at bytes
tokens_within-enough zero n at bytes hm hn = absurd (omega arith)
tokens_within-enough (suc m) zero at bytes hm hn = absurd (omega arith)
tokens_within-enough (suc m) (suc n) at bytes hm hn =
    first_same (tokens_within m) (tokens_within n) at bytes (first_of at bytes) refl
    (λ t e k.
    let s : StandsWithin at (at + length bytes) t = first_of-stands at bytes t e in
    let less : length (drop (t.end - at) bytes) < length bytes = omega (arith, length-drop (t.end - at) bytes, s.has_byte k) in
    tokens_within-enough m n t.end (drop (t.end - at) bytes) (omega arith) (omega arith))

-- A text whose next token is at fault has no token from there on.
pub tokens_from-err : (text : List ℕ) (at : ℕ) (f : LexFault) → next_token text at ≡ Err f → tokens_from text at ≡ []
unfolding tokens_of
tokens_from-err text at f e = ap (token_first (tokens_within (length (drop at text))) at (drop at text)) e

dropped_again : (text : List ℕ) (at to : ℕ) → at ≤ to → drop (to - at) (drop at text) ≡ drop to text
dropped_again text at to h = let e : at + (to - at) ≡ to = omega arith in drop-drop (to - at) at text ∙ ap (λ i. drop i text) e

-- From a place on, the tokens of a text are its next token and those that follow it.
pub tokens_from-ok : (text : List ℕ) (at : ℕ) (t : Token) → next_token text at ≡ Ok t → tokens_from text at ≡ tokens_at text t
unfolding tokens_of
tokens_from-ok text at t e =
    let bytes : List ℕ = drop at text in
    let s : StandsWithin at (at + length bytes) t = first_of-stands at bytes t e in
    let spelled : drop (t.start - at) bytes ≡ drop t.start text = dropped_again text at t.start s.behind in
    let rest : drop (t.end - at) bytes ≡ drop t.end text = dropped_again text at t.end (omega (arith, s.behind, s.ordered)) in
    let l : List ℕ → Lexeme = λ bs. record { kind = t.kind; start = t.start; spelling = take (t.end - t.start) bs } in
    let first : token_first (tokens_within (length bytes)) at bytes (first_of at bytes)
    ≡ l (drop (t.start - at) bytes) ∷ (if is_end t.kind then [] else tokens_within (length bytes) t.end (drop (t.end - at) bytes)) =
    ap (token_first (tokens_within (length bytes)) at bytes) e in
    let more : (is_end t.kind ≡ false) → tokens_within (length bytes) t.end (drop (t.end - at) bytes) ≡ tokens_from text t.end =
    λ k.
    let less : length (drop (t.end - at) bytes) < length bytes = omega (arith, length-drop (t.end - at) bytes, s.has_byte k, s.within, s.ordered, s.behind) in
    tokens_within-enough (length bytes) (suc (length (drop (t.end - at) bytes))) t.end (drop (t.end - at) bytes) less (omega arith)
    ∙ ap (λ bs. tokens_within (suc (length bs)) t.end bs) rest in
    first ∙ ap (λ bs. l bs ∷ (if is_end t.kind then [] else tokens_within (length bytes) t.end (drop (t.end - at) bytes))) spelled
    ∙ ap (λ (ls : List Lexeme). l (drop t.start text) ∷ ls) (else_same (is_end t.kind) [] _ _ more)

no_end : (k : TokenKind) → k ≢ End → is_end k ≡ false
no_end End h = absurd (h refl)
no_end _ h = refl

-- a token within a text, as callers read it
pub record IsNextToken (at limit : ℕ) (t : Token) : Type 0 where
  pub behind : at ≤ t.start
  pub ordered : t.start ≤ t.end
  pub within : t.end ≤ limit
  pub has_byte : t.kind ≢ End → t.start < t.end
  pub at_end : t.kind ≡ End → (t.start ≡ limit) × (t.end ≡ limit)

pub next_token-ok : (text : List ℕ) (at : ℕ) (r : Result Token LexFault) → at ≤ length text → r ≡ next_token text at → IfOk r (IsNextToken at (length text))
next_token-ok text at (Err f) h e = tt
next_token-ok text at (Ok t) h e =
    let s : StandsWithin at (length text) t = next_token-stands text at t h (sym e) in
    record { behind = s.behind; ordered = s.ordered; within = s.within; has_byte = λ k. s.has_byte (no_end t.kind k); at_end = λ k. s.at_end (ap is_end k) }

pub IfOk-mono : {T E : Type 0} (P Q : T → Type 0) (r : Result T E) → ((t : T) → P t → Q t) → IfOk r P → IfOk r Q
IfOk-mono P Q (Ok t) f p = f t p
IfOk-mono P Q (Err e) f p = tt

-- where a fault is said
pub next_token-err : (text : List ℕ) (at : ℕ) (r : Result Token LexFault) → at ≤ length text → r ≡ next_token text at
    → IfErr r (λ f. at ≤ fault_byte f) × IfErr r (λ f. fault_byte f < length text)
next_token-err text at (Ok t) h e = (tt, tt)
next_token-err text at (Err f) h e = let p = next_token-fault text at f h (sym e) in (p.0, p.1)
