-- The items of a text and its faults, by their places.
use Rattle.std.specs.Prelude.{ℕ, ◌≡◌, ◌≢◌, ◌+◌, IsTrue, false, List, [], ◌∷◌, ◌++◌, length, Ok, Err}
use Rattle.clf_syntax.specs.Word.{is_declarable}
use Rattle.celf_lexer.specs.declared.token.TokenKind.TheVariants.{Directive as DirectiveWord, End}
use Rattle.celf_lexer.specs.declared.token.Token.{Token}
use Rattle.celf_lexer.specs.declared.token.LexFault.{LexFault}
use Rattle.celf_lexer.specs.Tokens.{Lexeme, tokens_from, next_token, is_end}
use Rattle.celf_surface.specs.declared.surface.Span.{Span}
use Rattle.celf_surface.specs.Surface.{WrittenBody, declare, WrittenItem}
use Rattle.celf_grammar.specs.State.{State}
use Rattle.celf_grammar.specs.Grammar.{IsItem}
use Rattle.celf_grammar.specs.Faults.{IsUnexpected, IsTooDeep, IsLacking}
use Rattle.celf_parser.specs.declared.fault.SyntaxFault.{SyntaxFault}
use Rattle.celf_parser.specs.declared.fault.SyntaxFault.TheVariants.{Lex, Unexpected, Directive, TooDeep, NoMemory}

-- how many nested parts may be open at once
abbrev pub nesting : ℕ
nesting = 1000

-- Where a reading of a text begins at a place.
abbrev pub start_at : List ℕ → ℕ → State
start_at text at = record { rest = tokens_from text at; room = nesting; end = at }

-- The item begins at the place, and after its full stop the tokens of the text stand from its end on.
pub record IsItemAt (text : List ℕ) (at : ℕ) (item : WrittenItem) : Type 0 where
  pub behind : State
  pub parsed : IsItem (start_at text at) item behind
  pub rest : behind.rest ≡ tokens_from text item.span.end

-- A declared name is one that may be declared.
abbrev pub HasDeclarableName : WrittenBody → Type 0
HasDeclarableName (declare n i t) = IsTrue (is_declarable n)
HasDeclarableName _ = Unit {0}

-- the bytes of a token
abbrev pub span_of : Lexeme → Span
span_of t = record { start = t.start; end = t.start + length t.spelling }

-- The first fault of words from a place on.
pub data HasWordFault (text : List ℕ) : ℕ → LexFault → Type 0 where
  here : {at : ℕ} {f : LexFault} → next_token text at ≡ Err f → HasWordFault text at f
  further : {at : ℕ} {t : Token} {f : LexFault} → next_token text at ≡ Ok t → is_end t.kind ≡ false → HasWordFault text t.end f → HasWordFault text at f

-- the token t of a text, with those from the place on that stand before it
pub record Stands (text : List ℕ) (at : ℕ) (before : List Lexeme) (t : Lexeme) : Type 0 where
  pub others : List Lexeme
  pub is : tokens_from text at ≡ before ++ (t ∷ others)

-- A # word begins what stands at the place.
abbrev pub BeginsDirective : List Lexeme → Lexeme → Type 0
BeginsDirective before t = (before ≡ []) × (t.kind ≡ DirectiveWord)

-- Why no item stands at a place, with the bytes of the token at fault.
abbrev pub IsFaultAt : List ℕ → ℕ → SyntaxFault → Type 0
-- The tokens before the first fault of words begin an item, and do not end one.
IsFaultAt text at (Lex f) = HasWordFault text at f × IsLacking nesting (tokens_from text at)
-- The tokens before this one begin some item, and with it they begin none; it is no # word that begins an item, and no end after blanks alone.
IsFaultAt text at (Unexpected s) = (before : List Lexeme) × (t : Lexeme) × Stands text at before t × IsUnexpected nesting before t × (s ≡ span_of t)
    × (BeginsDirective before t → ⊥) × (before ≡ [] → t.kind ≢ End)
-- A # word begins what stands there, and it begins no item.
IsFaultAt text at (Directive s) = (t : Lexeme) × Stands text at [] t × IsUnexpected nesting [] t × (s ≡ span_of t) × (t.kind ≡ DirectiveWord)
-- This token would open a part too many.
IsFaultAt text at (TooDeep s) = (before : List Lexeme) × (t : Lexeme) × Stands text at before t × IsTooDeep nesting before t × (s ≡ span_of t)
-- No text is the reason why memory runs out.
IsFaultAt text at NoMemory = ⊥
