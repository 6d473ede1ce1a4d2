-- Inner: faults of an item that come from those of a reading.
use Rattle.std.specs.Prelude.{ℕ, ◌≡◌, ◌≢◌, List, ◌∷◌, codes, Result, Ok, Err}
use Rattle.celf_lexer.specs.declared.token.TokenKind.TheVariants.{Directive as DirectiveWord}
use Rattle.celf_lexer.specs.declared.token.Token.{Token}
use Rattle.celf_lexer.specs.declared.token.LexFault.{LexFault}
use Rattle.celf_lexer.specs.Tokens.{Lexeme}
use Rattle.celf_grammar.specs.State.{State, next_kind, TakesDirective}
use Rattle.celf_grammar.specs.Machine.{Symbol}
use Rattle.celf_cursor.specs.declared.stop.Stop.{Stop}
use Rattle.celf_cursor.specs.declared.stop.Stop.TheVariants as stop
use Rattle.celf_cursor.specs.Cursor.{span_of}
use Rattle.celf_cursor.specs.Faults.{span_in, IsFaultOf}
use Rattle.celf_parser.specs.declared.fault.SyntaxFault.{SyntaxFault}
use Rattle.celf_parser.specs.declared.fault.SyntaxFault.TheVariants.{Lex, Unexpected, Directive, TooDeep, NoMemory}

abbrev pub fault_of : Stop → SyntaxFault
fault_of (stop.Lex f) = Lex f
fault_of (stop.Unexpected s) = Unexpected s
fault_of (stop.TooDeep s) = TooDeep s
fault_of stop.NoMemory = NoMemory

-- the fault where a # word comes next that begins no directive
abbrev pub unknown : Result Token LexFault → SyntaxFault
unknown (Ok t) = Directive (span_of t)
unknown (Err f) = Lex f

-- One of the four words with which a directive begins is taken.
pub data TakesKnown : State → State → Type 0 where
  takes_query : {s u : State} → TakesDirective (codes "#query") s u → TakesKnown s u
  takes_trace : {s u : State} → TakesDirective (codes "#trace") s u → TakesKnown s u
  takes_equal : {s u : State} → TakesDirective (codes "#equal") s u → TakesKnown s u
  takes_check : {s u : State} → TakesDirective (codes "#check") s u → TakesKnown s u

-- a # word that is none of them
pub record IsUnknown (word : List ℕ) : Type 0 where
  pub query : word ≢ codes "#query"
  pub trace : word ≢ codes "#trace"
  pub equal : word ≢ codes "#equal"
  pub check : word ≢ codes "#check"

-- A # word that comes next, if one does, begins a directive.
abbrev pub IsKnown : State → Type 0
IsKnown s = next_kind s.rest ≡ DirectiveWord → (u : State) × TakesKnown s u

-- Why a reading of these symbols, which begin with an item or its body, ends: the fault tells what the machine comes to, but where
-- a # word comes first that begins no directive it tells of that word.
pub data IsItemFault (text : List ℕ) (k : List Symbol) (s : State) : SyntaxFault → Type 0 where
  fault_stop : {e : Stop} → IsFaultOf text k s e → IsKnown s → IsItemFault text k s (fault_of e)
  fault_word : {t : Lexeme} {ts : List Lexeme} → s.rest ≡ t ∷ ts → t.kind ≡ DirectiveWord → IsUnknown t.spelling → IsItemFault text k s (Directive (span_in t))
