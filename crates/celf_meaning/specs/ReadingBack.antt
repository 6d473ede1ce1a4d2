-- Texts of one item, with the core that the item has over a signature.
use Rattle.std.specs.Prelude.{ℕ, ◌≡◌, ◌≤◌, List, [], ◌∷◌, None, Some}
use Rattle.celf_lexer.specs.Tokens.{Lexeme, tokens_from}
use Rattle.celf_lexer.specs.declared.token.TokenKind.TheVariants.{End}
use Rattle.celf_surface.specs.Surface.{WrittenItem}
use Rattle.celf_grammar.specs.State.{State}
use Rattle.celf_grammar.specs.Grammar.{IsItem}
use Rattle.celf_sugar.specs.Sugar.{desugared}
use Rattle.celf_sugar.specs.Faults.{first_fault}
use Rattle.clf_sig.specs.Entry.{PlainSignature}
use Rattle.clf_sig.specs.Core.{PlainCore}
use Rattle.celf_explicit.specs.Explicit.{explicit}
use Rattle.celf_spelling.specs.Spelling.{opening, before}

-- With so much room for nested parts the text is one item, in one way, and nothing but blanks and comments follows it. The item has
-- no fault, and over the signature it has this core.
pub record IsItemWithCore (sig : PlainSignature) (text : List ℕ) (core : PlainCore) (room : ℕ) : Type 0 where
  pub item : WrittenItem
  pub behind : State
  pub end : Lexeme
  pub parse : IsItem (before text room) item behind
  pub ends : behind.rest ≡ end ∷ []
  pub at_end : end.kind ≡ End
  pub only : (other : WrittenItem) (u : State) → IsItem (before text room) other u → other ≡ item
  pub no_fault : first_fault item ≡ None
  pub says : explicit sig (desugared item) ≡ Some core

-- The text is read as the core wherever there is room for all parts that its tokens open.
abbrev pub ReadsAs : PlainSignature → List ℕ → PlainCore → Type 0
ReadsAs sig text core = (room : ℕ) → opening (tokens_from text 0) ≤ room → IsItemWithCore sig text core room
