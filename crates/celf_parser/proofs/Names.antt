-- A name that is taken from a text may be declared.
use Rattle.std.proofs.Common.{◌≡◌, ℕ, List, ◌∷◌, IsTrue, sym, ap, ◌∙◌, Result, Ok, Err}
use Rattle.clf_syntax.specs.Word.{is_declarable}
use Rattle.celf_lexer.specs.declared.token.Token.{Token}
use Rattle.celf_lexer.specs.declared.token.LexFault.{LexFault}
use Rattle.celf_lexer.specs.declared.token.TokenKind.TheVariants.{Name}
use Rattle.celf_lexer.specs.Tokens.{Lexeme, next_token}
use Rattle.celf_lexer.proofs.Names.{name-declarable}
use Rattle.celf_grammar.specs.State.{State, TakesName}
use Rattle.celf_cursor.specs.declared.cursor.Cursor.{Cursor}
use Rattle.celf_cursor.specs.Cursor.{tokens_on, state_of, IsCursorOf}

head-same : {t s : Lexeme} {us vs : List Lexeme} → t ∷ us ≡ s ∷ vs → t ≡ s
head-same e = cc

first-declarable : (text : List ℕ) (at : ℕ) (r : Result Token LexFault) (t : Lexeme) (us : List Lexeme) (c : _)
    → r ≡ next_token text at → tokens_on text r ≡ t ∷ us → t.kind ≡ Name c → IsTrue (is_declarable t.spelling)
first-declarable text at (Ok t) u us c e f k =
    let g = head-same f in
    ap (λ (l : Lexeme). is_declarable l.spelling) (sym g) ∙ name-declarable text at t c (sym e) (ap (λ (l : Lexeme). l.kind) g ∙ k)
first-declarable text at (Err f) u us c e g k = cc

pub taken-declarable : (text : List ℕ) (c : Cursor) (n : List ℕ) (u : State) → IsCursorOf text c → TakesName (state_of text c) n u → IsTrue (is_declarable n)
unfolding state_of
taken-declarable text c n u h t = ap is_declarable t.spelled ∙ first-declarable text c.end c.next t.token u.rest t.capital h.next t.taken.first t.kind

pub ruleset name_steps = (taken-declarable)
