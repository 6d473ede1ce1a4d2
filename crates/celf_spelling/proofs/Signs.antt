-- The signs in the text of an object: each is one token.
use Rattle.std.proofs.Common.{ℕ, ◌≡◌, ◌==◌, Bool, true, false, not, ◌&&◌, refl, List, [], ◌∷◌, ◌++◌, codes, arith}
use Rattle.std.proofs.lemmas.Bool.{and_parts, not-true, eqb-true}
use Rattle.celf_lexer.specs.declared.token.TokenKind.TheVariants as kind
use Rattle.celf_lexer.specs.Sign.{token, front}
use Rattle.celf_lexer.specs.Tokens.{Lexeme}
use Rattle.celf_lexer.proofs.Spelling.{AreTokens, BeginsWith, ends_word, tokens-front, tokens-word}

pub tokens-backslash : (rest : List ℕ) (ts : List Lexeme) → AreTokens ts (codes "\\" ++ rest) → BeginsWith kind.Backslash (codes "\\") rest ts
unfolding front
tokens-backslash rest ts = tokens-front kind.Backslash (codes "\\") rest ts refl refl refl (omega arith)

pub tokens-bang : (rest : List ℕ) (ts : List Lexeme) → AreTokens ts (codes "!" ++ rest) → BeginsWith kind.Bang (codes "!") rest ts
unfolding front
tokens-bang rest ts = tokens-front kind.Bang (codes "!") rest ts refl refl refl (omega arith)

pub tokens-at : (rest : List ℕ) (ts : List Lexeme) → AreTokens ts (codes "@" ++ rest) → BeginsWith kind.AtSign (codes "@") rest ts
unfolding front
tokens-at rest ts = tokens-front kind.AtSign (codes "@") rest ts refl refl refl (omega arith)

pub tokens-comma : (rest : List ℕ) (ts : List Lexeme) → AreTokens ts (codes "," ++ rest) → BeginsWith kind.Comma (codes ",") rest ts
unfolding front
tokens-comma rest ts = tokens-front kind.Comma (codes ",") rest ts refl refl refl (omega arith)

pub tokens-greater : (rest : List ℕ) (ts : List Lexeme) → AreTokens ts (codes ">" ++ rest) → BeginsWith kind.Greater (codes ">") rest ts
unfolding front
tokens-greater rest ts = tokens-front kind.Greater (codes ">") rest ts refl refl refl (omega arith)

pub tokens-unit_sign : (rest : List ℕ) (ts : List Lexeme) → AreTokens ts (codes "<>" ++ rest) → BeginsWith kind.UnitSign (codes "<>") rest ts
unfolding front
tokens-unit_sign rest ts = tokens-front kind.UnitSign (codes "<>") rest ts refl refl refl (omega arith)

-- Projections and the directive of a check stand before a space here.
pub tokens-first : (rest : List ℕ) (ts : List Lexeme) → AreTokens ts (codes "#1" ++ 32 ∷ rest) → BeginsWith kind.Proj1 (codes "#1") (32 ∷ rest) ts
unfolding front
tokens-first rest ts = tokens-front kind.Proj1 (codes "#1") (32 ∷ rest) ts refl refl refl (omega arith)

pub tokens-second : (rest : List ℕ) (ts : List Lexeme) → AreTokens ts (codes "#2" ++ 32 ∷ rest) → BeginsWith kind.Proj2 (codes "#2") (32 ∷ rest) ts
unfolding front
tokens-second rest ts = tokens-front kind.Proj2 (codes "#2") (32 ∷ rest) ts refl refl refl (omega arith)

pub tokens-check : (rest : List ℕ) (ts : List Lexeme) → AreTokens ts (codes "#check" ++ 32 ∷ rest) → BeginsWith kind.Directive (codes "#check") (32 ∷ rest) ts
unfolding front
tokens-check rest ts = tokens-front kind.Directive (codes "#check") (32 ∷ rest) ts refl refl refl (omega arith)

-- The sign < stands before bytes that do not make <>, <- or <T> of it.

abbrev pub begins_greater : List ℕ → Bool
begins_greater [] = false
begins_greater (b ∷ bs) = b == 62

abbrev pub stays_less : List ℕ → Bool
stays_less [] = true
stays_less (b ∷ bs) = not (b == 62) && not (b == 45) && not (b == 84 && begins_greater bs)

less-t : (bs : List ℕ) → begins_greater bs ≡ false → front (60 ∷ 84 ∷ bs) ≡ token kind.Less 1
unfolding front
less-t [] h = refl
less-t (c ∷ cs) h = rw h

less-other : (b : ℕ) (bs : List ℕ) → (b == 62) ≡ false → (b == 45) ≡ false → (b == 84) ≡ false → front (60 ∷ b ∷ bs) ≡ token kind.Less 1
unfolding front
less-other b bs greater minus t = rw (greater, minus, t)

less-go : (b : ℕ) (bs : List ℕ) (x : Bool) → (b == 84) ≡ x → (b == 62) ≡ false → (b == 45) ≡ false → (b == 84) && begins_greater bs ≡ false → front (60 ∷ b ∷ bs) ≡ token kind.Less 1
less-go b bs false is greater minus t = less-other b bs greater minus is
less-go b bs true is greater minus t =
    let b_is : b ≡ 84 = eqb-true b 84 is in
    let ends : begins_greater bs ≡ false = rw is at t in
    rw b_is (less-t bs ends)

less-front : (bs : List ℕ) → stays_less bs ≡ true → front (60 ∷ bs) ≡ token kind.Less 1
unfolding front
less-front [] h = refl
less-front (b ∷ bs) h =
    let parts = and_parts (not (b == 62) && not (b == 45)) (not (b == 84 && begins_greater bs)) h in
    let firsts = and_parts (not (b == 62)) (not (b == 45)) parts.0 in
    less-go b bs (b == 84) refl (not-true _ firsts.0) (not-true _ firsts.1) (not-true _ parts.1)

pub tokens-less : (rest : List ℕ) (ts : List Lexeme) → stays_less rest ≡ true → AreTokens ts (60 ∷ rest) → BeginsWith kind.Less (codes "<") rest ts
tokens-less rest ts h = tokens-front kind.Less (codes "<") rest ts refl (less-front rest h) refl (omega arith)

-- ---- braces, brackets and the like

pub tokens-left_brace : (rest : List ℕ) (ts : List Lexeme) → AreTokens ts (codes "{" ++ rest) → BeginsWith kind.LeftBrace (codes "{") rest ts
unfolding front
tokens-left_brace rest ts = tokens-front kind.LeftBrace (codes "{") rest ts refl refl refl (omega arith)

pub tokens-right_brace : (rest : List ℕ) (ts : List Lexeme) → AreTokens ts (codes "}" ++ rest) → BeginsWith kind.RightBrace (codes "}") rest ts
unfolding front
tokens-right_brace rest ts = tokens-front kind.RightBrace (codes "}") rest ts refl refl refl (omega arith)

pub tokens-left_bracket : (rest : List ℕ) (ts : List Lexeme) → AreTokens ts (codes "[" ++ rest) → BeginsWith kind.LeftBracket (codes "[") rest ts
unfolding front
tokens-left_bracket rest ts = tokens-front kind.LeftBracket (codes "[") rest ts refl refl refl (omega arith)

pub tokens-right_bracket : (rest : List ℕ) (ts : List Lexeme) → AreTokens ts (codes "]" ++ rest) → BeginsWith kind.RightBracket (codes "]") rest ts
unfolding front
tokens-right_bracket rest ts = tokens-front kind.RightBracket (codes "]") rest ts refl refl refl (omega arith)

pub tokens-equals : (rest : List ℕ) (ts : List Lexeme) → AreTokens ts (codes "=" ++ rest) → BeginsWith kind.Equals (codes "=") rest ts
unfolding front
tokens-equals rest ts = tokens-front kind.Equals (codes "=") rest ts refl refl refl (omega arith)

pub tokens-star : (rest : List ℕ) (ts : List Lexeme) → AreTokens ts (codes "*" ++ rest) → BeginsWith kind.Star (codes "*") rest ts
unfolding front
tokens-star rest ts = tokens-front kind.Star (codes "*") rest ts refl refl refl (omega arith)

-- ---- the words of the language

pub tokens-let : (rest : List ℕ) (ts : List Lexeme) → AreTokens ts (codes "let" ++ 32 ∷ rest) → BeginsWith kind.KwLet (codes "let") (32 ∷ rest) ts
tokens-let rest ts = tokens-word (codes "let") (32 ∷ rest) ts refl (omega arith) refl

pub tokens-in : (rest : List ℕ) (ts : List Lexeme) → AreTokens ts (codes "in" ++ 32 ∷ rest) → BeginsWith kind.KwIn (codes "in") (32 ∷ rest) ts
tokens-in rest ts = tokens-word (codes "in") (32 ∷ rest) ts refl (omega arith) refl

pub tokens-pi : (rest : List ℕ) (ts : List Lexeme) → AreTokens ts (codes "Pi" ++ 32 ∷ rest) → BeginsWith kind.KwPi (codes "Pi") (32 ∷ rest) ts
tokens-pi rest ts = tokens-word (codes "Pi") (32 ∷ rest) ts refl (omega arith) refl

pub tokens-exists : (rest : List ℕ) (ts : List Lexeme) → AreTokens ts (codes "Exists" ++ 32 ∷ rest) → BeginsWith kind.KwExists (codes "Exists") (32 ∷ rest) ts
tokens-exists rest ts = tokens-word (codes "Exists") (32 ∷ rest) ts refl (omega arith) refl

pub tokens-type : (rest : List ℕ) (ts : List Lexeme) → ends_word rest ≡ true → AreTokens ts (codes "type" ++ rest) → BeginsWith kind.KwType (codes "type") rest ts
tokens-type rest ts = tokens-word (codes "type") rest ts refl (omega arith)

-- the word for no entries
pub tokens-one : (rest : List ℕ) (ts : List Lexeme) → ends_word rest ≡ true → AreTokens ts (codes "1" ++ rest) → BeginsWith kind.Number (codes "1") rest ts
tokens-one rest ts = tokens-word (codes "1") rest ts refl (omega arith)
