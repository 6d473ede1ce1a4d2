-- Inner: what types have in common with one another.
use Rattle.std.specs.Prelude.{ℕ, ◌≡◌, List}
use Rattle.clf_syntax.specs.declared.tree.Mode.{Mode}
use Rattle.celf_lexer.specs.declared.token.TokenKind.{TokenKind}
use Rattle.celf_lexer.specs.declared.token.TokenKind.TheVariants.{Colon}
use Rattle.celf_surface.specs.Surface.{WrittenType, marked}
use Rattle.celf_grammar.specs.State.{State, span_to, Opens, Closes, Takes, TakesName}
use Rattle.celf_grammar.specs.Grammar.{IsType, IsWith}

-- A keyword, which opens a part, the name that it binds, and a colon.
pub record Binds (keyword : TokenKind) (s : State) (name : List ℕ) (u : State) : Type 0 where
  pub inside : State
  pub behind : State
  pub opened : Opens keyword s inside
  pub named : TakesName inside name behind
  pub colon : Takes Colon behind u

-- A type between two brackets, which are a nested part.
pub record Encloses (opening closing : TokenKind) (s : State) (a : WrittenType) (u : State) : Type 0 where
  pub inside : State
  pub behind : State
  pub opened : Opens opening s inside
  pub typed : IsType inside a behind
  pub closed : Closes closing s.room behind u

-- A pair or an atom after a mark.
pub record IsMarked (sign : TokenKind) (m : Mode) (s : State) (a : WrittenType) (u : State) : Type 0 where
  pub behind : State
  pub body : WrittenType
  pub taken : Takes sign s behind
  pub typed : IsWith behind body u
  pub is : a ≡ marked (span_to s u) m body
