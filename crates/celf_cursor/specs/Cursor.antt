-- Cursors, as states of a reading.
use Rattle.std.specs.Prelude.{ℕ, ◌+◌, ◌≡◌, ◌≢◌, ◌<◌, ◌≤◌, ◌⊎◌, false, List, [], ◌∷◌, length, Result, Ok, Err}
use Rattle.celf_lexer.specs.declared.token.TokenKind.{TokenKind}
use Rattle.celf_lexer.specs.declared.token.TokenKind.TheVariants.{ConstName, RightBrace, Star}
use Rattle.celf_lexer.specs.declared.token.Token.{Token}
use Rattle.celf_lexer.specs.declared.token.LexFault.{LexFault}
use Rattle.celf_lexer.specs.Tokens.{Lexeme, next_token, tokens_at, size_limit}
use Rattle.celf_surface.specs.declared.surface.Span.{Span}
use Rattle.celf_grammar.specs.State.{State, Takes, next_kind}
use Rattle.celf_grammar.specs.Grammar.{is_name_kind}
use Rattle.celf_cursor.specs.declared.cursor.Cursor.{Cursor}
use Rattle.celf_cursor.specs.declared.stop.Stop.{Stop}
use Rattle.celf_cursor.specs.declared.stop.Stop.TheVariants.{Unexpected, TooDeep, Lex, NoMemory}

-- the tokens from the next one on; none where none begins
abbrev pub tokens_on : List ℕ → Result Token LexFault → List Lexeme
tokens_on text (Ok t) = tokens_at text t
tokens_on text (Err f) = []

-- the state in which a cursor stands in a text
unfoldable pub state_of : List ℕ → Cursor → State
state_of text c = record { rest = tokens_on text c.next; room = c.room; end = c.end }

-- the kind of the token that comes next in a text
abbrev pub kind_next : List ℕ → Cursor → TokenKind
kind_next text c = next_kind (state_of text c).rest

-- The cursor stands in the text: its next token is the first one after the last that was taken.
pub record IsCursorOf (text : List ℕ) (c : Cursor) : Type 0 where
  pub size : length text ≤ size_limit
  pub within : c.end ≤ length text
  pub next : c.next ≡ next_token text c.end

-- the most `*` of products that may be open at a place
abbrev pub star_limit : ℕ
star_limit = 4096

-- how many `*` are open after a closing sign, of those before the part and those at its end: braces give back the `*` of what they
-- enclose. Other brackets give none back, since a product in parentheses may become as many functions as one without them.
abbrev pub stars_behind : TokenKind → ℕ → ℕ → ℕ
stars_behind RightBrace before within = before
stars_behind _ before within = within

-- A `*` is taken, and one more is open.
pub record OpensStar (text : List ℕ) (c d : Cursor) : Type 0 where
  pub taken : Takes Star (state_of text c) (state_of text d)
  pub room : c.stars < star_limit
  pub opened : d.stars ≡ c.stars + 1

-- the bytes of a token
abbrev pub span_of : Token → Span
span_of t = record { start = t.start; end = t.end }

-- the fault where what comes next may not stand there
abbrev pub unexpected : Result Token LexFault → Stop
unexpected (Ok t) = Unexpected (span_of t)
unexpected (Err f) = Lex f

-- the fault where what comes next opens a nested part too many
abbrev pub too_deep : Result Token LexFault → Stop
too_deep (Ok t) = TooDeep (span_of t)
too_deep (Err f) = Lex f

-- A token of this kind is wanted, and another one comes next or none.
abbrev pub Misses : List ℕ → TokenKind → Cursor → Stop → Type 0
Misses text k c e = (e ≡ unexpected c.next) × (kind_next text c ≢ k)

-- A token of this kind is to open a nested part: another one comes next, or there is no room.
abbrev pub MissesOpening : List ℕ → TokenKind → Cursor → Stop → Type 0
MissesOpening text k c e = Misses text k c e ⊎ ((e ≡ too_deep c.next) × (kind_next text c ≡ k) × (c.room ≡ 0))

-- A `*` comes next, and as many are open as may be: memory has run out.
abbrev pub MissesStar : Cursor → Stop → Type 0
MissesStar c e = (e ≡ NoMemory) × (star_limit ≤ c.stars)

-- the spelling of the token that comes next in a text
abbrev pub next_spelling : List Lexeme → List ℕ
next_spelling [] = []
next_spelling (t ∷ ts) = t.spelling

abbrev pub spelling_next : List ℕ → Cursor → List ℕ
spelling_next text c = next_spelling (state_of text c).rest

-- A token of this kind and spelling is wanted, and another one comes next or none.
abbrev pub MissesWord : List ℕ → TokenKind → List ℕ → Cursor → Stop → Type 0
MissesWord text k word c e = (e ≡ unexpected c.next) × (kind_next text c ≡ k → spelling_next text c ≢ word)

-- A name is wanted, and another token comes next or none; or memory runs out.
abbrev pub MissesName : List ℕ → Cursor → Stop → Type 0
MissesName text c e = (e ≡ NoMemory) ⊎ ((e ≡ unexpected c.next) × (is_name_kind (kind_next text c) ≡ false))

-- A constant name is wanted, and another token comes next or none; or memory runs out.
abbrev pub MissesConstant : List ℕ → Cursor → Stop → Type 0
MissesConstant text c e = (e ≡ NoMemory) ⊎ Misses text ConstName c e
