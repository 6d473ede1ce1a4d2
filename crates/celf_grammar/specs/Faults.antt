-- At which token a reading ends with which no item goes on.
use Rattle.std.specs.Prelude.{ℕ, suc, ◌≡◌, Bool, true, false, List, [], ◌∷◌, ◌++◌}
use Rattle.celf_lexer.specs.declared.token.TokenKind.{TokenKind}
use Rattle.celf_lexer.specs.declared.token.TokenKind.TheVariants as token
use Rattle.celf_lexer.specs.Tokens.{Lexeme}
use Rattle.celf_surface.specs.Surface.{WrittenItem}
use Rattle.celf_grammar.specs.State.{State}
use Rattle.celf_grammar.specs.Grammar.{IsItem}
use Rattle.celf_grammar.specs.Machine.{Item, Verdict, accepted, unexpected, too_deep, lacking, runs}

-- The tokens begin with an item that opens no more than so many parts.
pub record HasItem (room : ℕ) (ts : List Lexeme) : Type 0 where
  pub end : ℕ
  pub item : WrittenItem
  pub behind : State
  pub is : IsItem (record { rest = ts; room = room; end = end }) item behind

-- An item that opens no more than so many parts begins with these tokens, or is one of them and ends before they do.
abbrev pub BeginsItem : ℕ → List Lexeme → Type 0
BeginsItem room ts = (more : List Lexeme) × HasItem room (ts ++ more)

-- the tokens that open a part
abbrev pub opens_part : TokenKind → Bool
opens_part token.LeftParen = true
opens_part token.Less = true
opens_part token.LeftBrace = true
opens_part token.LeftBracket = true
opens_part token.Backslash = true
opens_part token.KwPi = true
opens_part token.KwExists = true
opens_part token.Proj1 = true
opens_part token.Proj2 = true
opens_part token.Amp = true
opens_part token.Arrow = true
opens_part token.BackArrow = true
opens_part token.Lolli = true
opens_part token.BackLolli = true
opens_part token.Affine = true
opens_part _ = false

-- None of the tokens opens a part for which there is no room: up to each that opens one, they begin an item in this room.
abbrev pub StaysWithin : ℕ → List Lexeme → Type 0
StaysWithin room ts = (front back : List Lexeme) (t : Lexeme) → ts ≡ front ++ (t ∷ back) → opens_part t.kind ≡ true → BeginsItem room (front ++ (t ∷ []))

-- The tokens begin an item, and with t after them they begin none, however much room there is.
pub record IsUnexpected (room : ℕ) (ts : List Lexeme) (t : Lexeme) : Type 0 where
  pub within : StaysWithin room ts
  pub begins : (r : ℕ) × BeginsItem r ts
  pub ends : (r : ℕ) → BeginsItem r (ts ++ (t ∷ [])) → ⊥

-- With t after them, which opens a part, the tokens begin no item, but they would if one more part might be open.
pub record IsTooDeep (room : ℕ) (ts : List Lexeme) (t : Lexeme) : Type 0 where
  pub within : StaysWithin room ts
  pub opening : opens_part t.kind ≡ true
  pub ends : BeginsItem room (ts ++ (t ∷ [])) → ⊥
  pub goes_on : BeginsItem (suc room) (ts ++ (t ∷ []))

-- The tokens begin an item, and they hold none to its end.
pub record IsLacking (room : ℕ) (ts : List Lexeme) : Type 0 where
  pub within : StaysWithin room ts
  pub begins : (r : ℕ) × BeginsItem r ts
  pub ends : (r : ℕ) → HasItem r ts → ⊥

-- what a verdict says of the tokens from a state on
abbrev pub Says : State → Verdict → Type 0
Says s (accepted u) = (i : WrittenItem) × IsItem s i u
Says s (unexpected t) = (ts others : List Lexeme) × (s.rest ≡ ts ++ (t ∷ others)) × IsUnexpected s.room ts t
Says s (too_deep t) = (ts others : List Lexeme) × (s.rest ≡ ts ++ (t ∷ others)) × IsTooDeep s.room ts t
Says s lacking = IsLacking s.room s.rest

-- The machine's verdict on an item is true.
abbrev pub VerdictIsTrue : Type 0
VerdictIsTrue = (s : State) → Says s (runs (Item ∷ []) s)

-- No other verdict is.
abbrev pub VerdictIsOnly : Type 0
VerdictIsOnly = (s : State) (v : Verdict) → Says s v → runs (Item ∷ []) s ≡ v

-- An item has one tree.
abbrev pub TreeIsOne : Type 0
TreeIsOne = (s u v : State) (i j : WrittenItem) → IsItem s i u → IsItem s j v → i ≡ j

-- What is left after an item is determined.
abbrev pub BehindIsOne : Type 0
BehindIsOne = (s u v : State) (i j : WrittenItem) → IsItem s i u → IsItem s j v → u ≡ v

-- However much room there is for parts, the same tokens are read as one tree, and the same tokens are left after it.
abbrev pub TreeInAnyRoom : Type 0
TreeInAnyRoom = (ts : List Lexeme) (end m n : ℕ) (u v : State) (i j : WrittenItem)
    → IsItem (record { rest = ts; room = m; end = end }) i u → IsItem (record { rest = ts; room = n; end = end }) j v → (i ≡ j) × (u.rest ≡ v.rest)
