-- What is to be answered, one task after another.
use Rattle.std.specs.Prelude.{ℕ, ◌+◌, ◌≡◌, ◌==◌, List, true, length, drop}
use Rattle.celf_lexer.specs.Gap.{gap}
use Rattle.celf_lexer.specs.declared.token.LexFault.TheVariants.{BadByte, LongName}
use Rattle.celf_surface.specs.Surface.{WrittenItem}
use Rattle.celf_parser.specs.declared.fault.SyntaxFault.{SyntaxFault}
use Rattle.celf_parser.specs.declared.fault.SyntaxFault.TheVariants.{Lex, Unexpected, Directive, TooDeep, NoMemory}
use Rattle.celf_parser.specs.Place.{IsItemAt, IsFaultAt}
use Rattle.celf_replies.specs.Reply.{PlainRefusal, bad_byte, long_name, unexpected, directive, too_deep}

-- where the answering stands: a text, and a byte of it
pub record Source : Type 0 where
  pub text : List ℕ
  pub at : ℕ

-- what is answered next: an item, or a refusal in its place
pub data Task : Type 0 where
  written : WrittenItem → Task
  faulty : PlainRefusal → Task

-- The refusal of a fault of words or grammar; at the end of the text the end is what was not expected. No text has lack of memory as its fault.
abbrev pub syntax_refusal : List ℕ → SyntaxFault → PlainRefusal
syntax_refusal text (Lex (BadByte at)) = record { at = at; why = bad_byte }
syntax_refusal text (Lex (LongName at)) = record { at = at; why = long_name }
syntax_refusal text (Unexpected s) = record { at = s.start; why = unexpected (s.start == length text) }
syntax_refusal text (Directive s) = record { at = s.start; why = directive }
syntax_refusal text (TooDeep s) = record { at = s.start; why = too_deep }
syntax_refusal text NoMemory = record { at = length text; why = unexpected true }

-- The task comes next, and the source after it is left. After a fault nothing is left.
pub data Next (source : Source) : Task → Source → Type 0 where
  next_item : {item : WrittenItem} → IsItemAt source.text source.at item → Next source (written item) (record { text = source.text; at = item.span.end })
  next_fault : (fault : SyntaxFault) → IsFaultAt source.text source.at fault
      → Next source (faulty (syntax_refusal source.text fault)) (record { text = source.text; at = length source.text })

-- Nothing but blanks and comments is left.
abbrev pub IsOver : Source → Type 0
IsOver source = source.at + gap (drop source.at source.text) ≡ length source.text
