-- Texts of one item, with what the item says once its sugar is gone.
use Rattle.std.specs.Prelude.{ℕ, ◌≡◌, ◌≤◌, List, [], ◌∷◌, None}
use Rattle.std.specs.List.{count_by}
use Rattle.celf_lexer.specs.Tokens.{Lexeme, tokens_from}
use Rattle.celf_lexer.specs.declared.token.TokenKind.TheVariants.{End}
use Rattle.celf_surface.specs.Surface.{WrittenItem}
use Rattle.celf_grammar.specs.Faults.{opens_part}
use Rattle.celf_grammar.specs.State.{State}
use Rattle.celf_grammar.specs.Grammar.{IsItem}
use Rattle.celf_sugar.specs.PlainTree.{DesugaredBody}
use Rattle.celf_sugar.specs.Sugar.{desugared}
use Rattle.celf_sugar.specs.Faults.{first_fault}
use Rattle.celf_spelling.specs.Placeless.{placeless_body}

-- how many nested parts some tokens open
abbrev pub opening : List Lexeme → ℕ
opening ts = count_by (λ t. opens_part t.kind) ts

-- before all tokens of a text, with so much room
abbrev pub before : List ℕ → ℕ → State
before text room = record { rest = tokens_from text 0; room = room; end = 0 }

-- With so much room for nested parts the text is one item, in one way, and nothing but blanks and comments follows it. The item has
-- no fault, and without its sugar and its places it says this.
pub record IsItemOf (text : List ℕ) (body : DesugaredBody) (room : ℕ) : Type 0 where
  pub item : WrittenItem
  pub behind : State
  pub end : Lexeme
  pub parse : IsItem (before text room) item behind
  pub ends : behind.rest ≡ end ∷ []
  pub at_end : end.kind ≡ End
  pub only : (other : WrittenItem) (u : State) → IsItem (before text room) other u → other ≡ item
  pub no_fault : first_fault item ≡ None
  pub says : placeless_body (desugared item).body ≡ body

-- The text spells what an item says: it is such an item wherever there is room for all parts that its tokens open.
abbrev pub SpellsItem : List ℕ → DesugaredBody → Type 0
SpellsItem text body = (room : ℕ) → opening (tokens_from text 0) ≤ room → IsItemOf text body room
