-- Where a reading of tokens stands, and what it takes.
use Rattle.std.specs.Prelude.{ℕ, ◌+◌, ◌*◌, ◌-◌, ◌^◌, ◌≡◌, ◌<◌, Bool, false, List, [], ◌∷◌, length, drop, codes, min}
use Rattle.celf_lexer.specs.declared.token.TokenKind.{TokenKind}
use Rattle.celf_lexer.specs.declared.token.TokenKind.TheVariants.{Name, ConstName, Number, Directive, End}
use Rattle.celf_lexer.specs.Tokens.{Lexeme}
use Rattle.celf_surface.specs.declared.surface.Bound.{Bound}
use Rattle.celf_surface.specs.declared.surface.Bound.TheVariants.{Number as NumberBound}
use Rattle.celf_surface.specs.declared.surface.Span.{Span}

-- the tokens that are left, how many more nested parts may be opened, and the byte after the last token that was taken
pub record State : Type 0 where
  pub rest : List Lexeme
  pub room : ℕ
  pub end : ℕ

-- the kind of the next token; the end where none begins
abbrev pub next_kind : List Lexeme → TokenKind
next_kind [] = End
next_kind (t ∷ ts) = t.kind

-- the first byte of the next token
abbrev pub next_start : List Lexeme → ℕ
next_start [] = 0
next_start (t ∷ ts) = t.start

-- the bytes from the next token of one state to the last one that was taken in another
abbrev pub span_to : State → State → Span
span_to s u = record { start = next_start s.rest; end = u.end }

-- The next token is not of these kinds: a repetition takes as much as it can.
abbrev pub Ends : (TokenKind → Bool) → State → Type 0
Ends kinds s = kinds (next_kind s.rest) ≡ false

-- The next token is t; after it u stands, with so much room left.
pub record TakesToken (left : ℕ) (t : Lexeme) (s u : State) : Type 0 where
  pub first : s.rest ≡ t ∷ u.rest
  pub room : u.room ≡ left
  pub behind : u.end ≡ t.start + length t.spelling

-- A token of this kind is taken.
pub record Takes (k : TokenKind) (s u : State) : Type 0 where
  pub token : Lexeme
  pub taken : TakesToken s.room token s u
  pub kind : token.kind ≡ k

-- A token of this kind is taken, and opens a nested part.
pub record Opens (k : TokenKind) (s u : State) : Type 0 where
  pub token : Lexeme
  pub taken : TakesToken (s.room - 1) token s u
  pub opened : 0 < s.room
  pub kind : token.kind ≡ k

-- A token of this kind is taken, and ends a part with all that was opened in it: there is room as before that part.
pub record Closes (k : TokenKind) (before : ℕ) (s u : State) : Type 0 where
  pub token : Lexeme
  pub taken : TakesToken before token s u
  pub kind : token.kind ≡ k

-- A part ends without a token of its own.
pub record EndsPart (left : ℕ) (s u : State) : Type 0 where
  pub rest : u.rest ≡ s.rest
  pub room : u.room ≡ left
  pub end : u.end ≡ s.end

-- NAME
pub record TakesName (s : State) (name : List ℕ) (u : State) : Type 0 where
  pub token : Lexeme
  pub capital : Bool
  pub taken : TakesToken s.room token s u
  pub kind : token.kind ≡ Name capital
  pub spelled : name ≡ token.spelling

-- CONSTNAME, without its $
pub record TakesConstant (s : State) (name : List ℕ) (u : State) : Type 0 where
  pub token : Lexeme
  pub taken : TakesToken s.room token s u
  pub kind : token.kind ≡ ConstName
  pub spelled : name ≡ drop 1 token.spelling

-- A token of this kind and spelling is taken.
pub record TakesWord (k : TokenKind) (word : List ℕ) (s u : State) : Type 0 where
  pub token : Lexeme
  pub taken : TakesToken s.room token s u
  pub kind : token.kind ≡ k
  pub spelled : token.spelling ≡ word

-- the number word spelled 1
abbrev pub TakesOne : State → State → Type 0
TakesOne = TakesWord Number (codes "1")

-- a directive word, with its #
abbrev pub TakesDirective : List ℕ → State → State → Type 0
TakesDirective = TakesWord Directive

-- what digits spell after a number
abbrev pub digits_behind : ℕ → List ℕ → ℕ
digits_behind n [] = n
digits_behind n (d ∷ ds) = digits_behind (n * 10 + (d - 48)) ds

-- NUM; one that is too large is kept as the greatest value
pub record TakesNumber (s : State) (b : Bound) (u : State) : Type 0 where
  pub token : Lexeme
  pub taken : TakesToken s.room token s u
  pub kind : token.kind ≡ Number
  pub value : b ≡ NumberBound (min (digits_behind 0 token.spelling) (2 ^ 64 - 1)) (record { start = token.start; end = token.start + length token.spelling })
