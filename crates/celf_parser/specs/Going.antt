-- Inner: how a reading goes on after the token with which a part begins.
use Rattle.std.specs.Prelude.{◌≡◌, Bool, true, false, List}
use Rattle.celf_lexer.specs.declared.token.TokenKind.{TokenKind}
use Rattle.celf_lexer.specs.declared.token.TokenKind.TheVariants as token
use Rattle.celf_grammar.specs.State.{State, Takes, Opens}
use Rattle.celf_grammar.specs.Machine.{Symbol, runs, deep_at}

-- A reading of j opens a part with a token of this kind, and goes on with k; where there is no room, that token is too deep.
pub record OpensOn (kind : TokenKind) (j k : List Symbol) (s : State) : Type 0 where
  pub goes_on : (u : State) → Opens kind s u → runs j s ≡ runs k u
  pub deep : s.room ≡ 0 → runs j s ≡ deep_at s

-- A reading of j takes a token of this kind, and goes on with k.
abbrev pub TakesOn : TokenKind → List Symbol → List Symbol → State → Type 0
TakesOn kind j k s = (u : State) → Takes kind s u → runs j s ≡ runs k u

-- the first tokens of an atom of a type that is no family
abbrev pub begins_no_family : TokenKind → Bool
begins_no_family token.LeftParen = true
begins_no_family token.LeftBrace = true
begins_no_family token.KwType = true
begins_no_family token.TopSign = true
begins_no_family token.Number = true
begins_no_family _ = false
