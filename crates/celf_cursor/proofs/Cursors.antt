-- Cursors, and the taking of the next token.
use Rattle.std.proofs.Common.{◌≡◌, ◌≤◌, ◌<◌, ◌+◌, ◌-◌, ℕ, List, ◌∷◌, false, length, refl, sym, ap, ◌∙◌, arith, Result, Ok, Err}
use Rattle.std.proofs.lemmas.Grind.{common_steps}
use Rattle.celf_lexer.specs.declared.token.TokenKind.{TokenKind}
use Rattle.celf_lexer.specs.declared.token.TokenKind.TheVariants.{End}
use Rattle.celf_lexer.specs.declared.token.Token.{Token}
use Rattle.celf_lexer.specs.declared.token.LexFault.{LexFault}
use Rattle.celf_lexer.specs.Tokens.{Lexeme, next_token, tokens_from, tokens_after, is_end, lexeme_of}
use Rattle.celf_lexer.proofs.Tokens.{tokens_from-ok, tokens_from-err, next_token-stands}
use Rattle.celf_grammar.specs.State.{State, TakesToken, Takes, Opens, Closes, next_kind}
use Rattle.celf_cursor.specs.declared.cursor.Cursor.{Cursor}
use Rattle.celf_cursor.specs.Cursor.{tokens_on, state_of, kind_next, next_spelling, spelling_next, IsCursorOf}

-- What begins at a byte, and the tokens from it on.
pub tokens_on-from : (text : List ℕ) (at : ℕ) (r : Result Token LexFault) → r ≡ next_token text at → tokens_on text r ≡ tokens_from text at
tokens_on-from text at (Ok t) e = sym (tokens_from-ok text at t (sym e))
tokens_on-from text at (Err f) e = sym (tokens_from-err text at f (sym e))

is_end-not : (k : TokenKind) → (k ≡ End → ⊥) → is_end k ≡ false
is_end-not End h = absurd (h refl)
is_end-not _ h = refl

pub cursor-token : (text : List ℕ) (c : Cursor) (t : Token) → IsCursorOf text c → c.next ≡ Ok t → next_token text c.end ≡ Ok t
cursor-token text c t h e = sym h.next ∙ e

-- the token that comes next stands in the text, after the cursor
pub next-behind : (text : List ℕ) (c : Cursor) (t : Token) → IsCursorOf text c → c.next ≡ Ok t → c.end ≤ t.start
next-behind text c t h e = (next_token-stands text c.end t h.within (cursor-token text c t h e)).behind

pub next-ordered : (text : List ℕ) (c : Cursor) (t : Token) → IsCursorOf text c → c.next ≡ Ok t → t.start ≤ t.end
next-ordered text c t h e = (next_token-stands text c.end t h.within (cursor-token text c t h e)).ordered

pub next-within : (text : List ℕ) (c : Cursor) (t : Token) → IsCursorOf text c → c.next ≡ Ok t → t.end ≤ length text
next-within text c t h e = (next_token-stands text c.end t h.within (cursor-token text c t h e)).within

pub next-has_byte : (text : List ℕ) (c : Cursor) (t : Token) → IsCursorOf text c → c.next ≡ Ok t → (t.kind ≡ End → ⊥) → t.start < t.end
next-has_byte text c t h e k = (next_token-stands text c.end t h.within (cursor-token text c t h e)).has_byte (is_end-not t.kind k)

pub next-further : (text : List ℕ) (c : Cursor) (t : Token) → IsCursorOf text c → c.next ≡ Ok t → (t.kind ≡ End → ⊥) → c.end < t.end
next-further text c t h e k = let b = next-behind text c t h e in let m = next-has_byte text c t h e k in omega arith

pub next-spelling : (text : List ℕ) (c : Cursor) (t : Token) → IsCursorOf text c → c.next ≡ Ok t → t.start + length (lexeme_of text t).spelling ≡ t.end
next-spelling text c t h e =
    let o = next-ordered text c t h e in
    let w = next-within text c t h e in
    grind (arith, common_steps)

tokens_after-from : (text : List ℕ) (t : Token) → (t.kind ≡ End → ⊥) → tokens_after text t ≡ tokens_from text t.end
tokens_after-from text t k = let e = is_end-not t.kind k in rw e refl

pub next-taken : (text : List ℕ) (c : Cursor) (t : Token) (room : ℕ) (u : State) → IsCursorOf text c → c.next ≡ Ok t → (t.kind ≡ End → ⊥)
    → u ≡ record { rest = tokens_from text t.end; room = room; end = t.end } → TakesToken room (lexeme_of text t) (state_of text c) u
unfolding state_of
next-taken text c t room u h e k same = record {
  first = ap (tokens_on text) e ∙ ap (λ (l : List Lexeme). lexeme_of text t ∷ l) (tokens_after-from text t k ∙ sym (ap (λ (s : State). s.rest) same));
  room = ap (λ (s : State). s.room) same;
  behind = ap (λ (s : State). s.end) same ∙ sym (next-spelling text c t h e);
}

pub takes : (text : List ℕ) (c : Cursor) {k : TokenKind} {t : Lexeme} {u : State} → TakesToken c.room t (state_of text c) u → t.kind ≡ k → Takes k (state_of text c) u
unfolding state_of
takes text c {t = t} h e = record { token = t; taken = h; kind = e }

pub opens : (text : List ℕ) (c : Cursor) {k : TokenKind} {t : Lexeme} {u : State}
    → TakesToken (c.room - 1) t (state_of text c) u → (c.room ≡ 0 → ⊥) → t.kind ≡ k → Opens k (state_of text c) u
unfolding state_of
opens text c {t = t} h r e = record { token = t; taken = h; opened = omega arith; kind = e }

pub closes : (text : List ℕ) (b : Cursor) {k : TokenKind} {t : Lexeme} {s u : State} → TakesToken b.room t s u → t.kind ≡ k → Closes k (state_of text b).room s u
unfolding state_of
closes text b {t = t} h e = record { token = t; taken = h; kind = e }

pub ruleset start_steps = (tokens_on-from)

pub ruleset advance_steps = (next-taken, next-further, next-within)

pub ruleset place_steps = (next-ordered, next-within)

pub ruleset take_steps = (takes)

pub ruleset open_steps = (opens)

pub ruleset close_steps = (closes)

-- what comes next at a cursor
pub kind_next-token : (text : List ℕ) (c : Cursor) (t : Token) → c.next ≡ Ok t → kind_next text c ≡ t.kind
unfolding state_of
kind_next-token text c t e = ap (λ (r : Result Token LexFault). next_kind (tokens_on text r)) e

pub spelling_next-token : (text : List ℕ) (c : Cursor) (t : Token) → c.next ≡ Ok t → spelling_next text c ≡ (lexeme_of text t).spelling
unfolding state_of
spelling_next-token text c t e = ap (λ (r : Result Token LexFault). next_spelling (tokens_on text r)) e
