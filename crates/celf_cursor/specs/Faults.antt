-- Inner: faults of a reading, as what the machine of the grammar comes to.
use Rattle.std.specs.Prelude.{ℕ, ◌+◌, ◌≡◌, List, [], ◌∷◌, length, Err}
use Rattle.celf_lexer.specs.declared.token.LexFault.{LexFault}
use Rattle.celf_lexer.specs.Tokens.{Lexeme, next_token}
use Rattle.celf_surface.specs.declared.surface.Span.{Span}
use Rattle.celf_grammar.specs.State.{State}
use Rattle.celf_grammar.specs.Machine.{Symbol, unexpected, too_deep, lacking, runs}
use Rattle.celf_cursor.specs.declared.stop.Stop.{Stop}
use Rattle.celf_cursor.specs.declared.stop.Stop.TheVariants.{Unexpected, TooDeep, Lex, NoMemory}

-- the byte after the last of these tokens
abbrev pub end_of : List Lexeme → ℕ → ℕ
end_of [] end = end
end_of (t ∷ ts) end = end_of ts (t.start + length t.spelling)

-- the byte after the last token of a state
unfoldable pub last_end : State → ℕ
last_end s = end_of s.rest s.end

-- the bytes of a token
abbrev pub span_in : Lexeme → Span
span_in t = record { start = t.start; end = t.start + length t.spelling }

-- The fault tells what the machine comes to that reads these symbols from a state on. Where the tokens of the text end before
-- all is read, it tells why none begins after them. Lack of memory tells nothing.
pub data IsFaultOf : List ℕ → List Symbol → State → Stop → Type 0 where
  fault_unexpected : {text : List ℕ} {k : List Symbol} {s : State} {t : Lexeme} → runs k s ≡ unexpected t → IsFaultOf text k s (Unexpected (span_in t))
  fault_deep : {text : List ℕ} {k : List Symbol} {s : State} {t : Lexeme} → runs k s ≡ too_deep t → IsFaultOf text k s (TooDeep (span_in t))
  fault_lacking : {text : List ℕ} {k : List Symbol} {s : State} {f : LexFault}
      → runs k s ≡ lacking → next_token text (last_end s) ≡ Err f → IsFaultOf text k s (Lex f)
  fault_memory : {text : List ℕ} {k : List Symbol} {s : State} → IsFaultOf text k s NoMemory
