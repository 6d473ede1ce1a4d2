-- The tokens of a list of bytes, one after another.
use Rattle.std.specs.Prelude.{ℕ, zero, suc, ◌+◌, ◌-◌, Bool, true, false, if◌then◌else◌, List, [], ◌∷◌, length, take, drop, Result, Ok, Err}
use Rattle.celf_lexer.specs.declared.token.TokenKind.{TokenKind}
use Rattle.celf_lexer.specs.declared.token.TokenKind.TheVariants.{End}
use Rattle.celf_lexer.specs.declared.token.Token.{Token}
use Rattle.celf_lexer.specs.declared.token.LexFault.{LexFault}
use Rattle.celf_lexer.specs.declared.token.LexFault.TheVariants.{BadByte, LongName}
use Rattle.celf_lexer.specs.Gap.{gap}
use Rattle.celf_lexer.specs.Sign.{Front, token, long, bad, front}

-- the greatest size of a text, in bytes
abbrev pub size_limit : ℕ
size_limit = 16777216

-- what begins at this place, with its place
abbrev pub placed : ℕ → Front → Result Token LexFault
placed at (token k n) = Ok (record { kind = k; start = at; end = at + n })
placed at long = Err (LongName at)
placed at bad = Err (BadByte at)

-- the byte at which a fault is said
abbrev pub fault_byte : LexFault → ℕ
fault_byte (BadByte b) = b
fault_byte (LongName b) = b

-- the first token of the bytes that stand at this place
unfoldable pub first_of : ℕ → List ℕ → Result Token LexFault
first_of at bytes = placed (at + gap bytes) (front (drop (gap bytes) bytes))

-- the first token of a text from a place on
abbrev pub next_token : List ℕ → ℕ → Result Token LexFault
next_token text at = first_of at (drop at text)

-- a token with its spelling
pub record Lexeme : Type 0 where
  pub kind : TokenKind
  pub start : ℕ
  pub spelling : List ℕ

-- a token of a text
abbrev pub lexeme_of : List ℕ → Token → Lexeme
lexeme_of text t = record { kind = t.kind; start = t.start; spelling = take (t.end - t.start) (drop t.start text) }

abbrev pub is_end : TokenKind → Bool
is_end End = true
is_end _ = false

-- a token that stands first, and those that the rest of the bytes has
abbrev pub token_first : (ℕ → List ℕ → List Lexeme) → ℕ → List ℕ → Result Token LexFault → List Lexeme
token_first rest at bytes (Err f) = []
token_first rest at bytes (Ok t) = record { kind = t.kind; start = t.start; spelling = take (t.end - t.start) (drop (t.start - at) bytes) }
    ∷ (if is_end t.kind then [] else rest t.end (drop (t.end - at) bytes))

-- the tokens of the bytes that stand at this place, at most so many: up to the end, or up to a byte where none begins
abbrev pub tokens_within : ℕ → ℕ → List ℕ → List Lexeme
tokens_within zero at bytes = []
tokens_within (suc n) at bytes = token_first (tokens_within n) at bytes (first_of at bytes)

-- the tokens of the bytes that stand at this place
unfoldable pub tokens_of : ℕ → List ℕ → List Lexeme
tokens_of at bytes = tokens_within (suc (length bytes)) at bytes

-- the tokens of a text from a place on
abbrev pub tokens_from : List ℕ → ℕ → List Lexeme
tokens_from text at = tokens_of at (drop at text)

-- the tokens that follow a token of a text
abbrev pub tokens_after : List ℕ → Token → List Lexeme
tokens_after text t = if is_end t.kind then [] else tokens_from text t.end

-- a token of a text, and those that follow it
abbrev pub tokens_at : List ℕ → Token → List Lexeme
tokens_at text t = lexeme_of text t ∷ tokens_after text t
