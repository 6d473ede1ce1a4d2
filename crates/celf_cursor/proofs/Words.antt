-- The taking of words.
use Rattle.std.proofs.Common.{◌≡◌, ◌≤◌, ◌+◌, ◌-◌, ◌*◌, ◌^◌, min, ℕ, List, Bool, true, length, take, drop, refl, sym, ap, subst, ◌∙◌, arith, Ok}
use Rattle.std.specs.Prelude.{IsUtf8}
use Rattle.std.proofs.lemmas.Grind.{common_steps}
use Rattle.celf_lexer.specs.declared.token.TokenKind.{TokenKind}
use Rattle.celf_lexer.specs.declared.token.TokenKind.TheVariants.{Name, ConstName, Number}
use Rattle.celf_lexer.specs.declared.token.Token.{Token}
use Rattle.celf_lexer.specs.Tokens.{Lexeme, lexeme_of}
use Rattle.celf_lexer.proofs.Names.{name-declarable, constant-declarable, IsUtf8-declarable}
use Rattle.celf_grammar.specs.State.{State, TakesToken, TakesName, TakesConstant, TakesWord, TakesNumber, digits_behind}
use Rattle.celf_grammar.specs.Grammar.{is_name_kind}
use Rattle.celf_surface.specs.declared.surface.Bound.TheVariants.{Number as NumberBound}
use Rattle.celf_surface.specs.declared.surface.Span.{Span}
use Rattle.celf_cursor.specs.declared.cursor.Cursor.{Cursor}
use Rattle.celf_cursor.specs.Cursor.{state_of, span_of, IsCursorOf}
use Rattle.celf_cursor.proofs.Cursors.{cursor-token, next-has_byte, next-spelling}

pub name_kind : (k : TokenKind) → is_name_kind k ≡ true → (c : Bool) × (k ≡ Name c)
name_kind (Name c) h = (c, refl)
name_kind _ h = cc

-- The bytes of a name are a text, and so are those of a constant name after its $.
pub name-text : (text : List ℕ) (c : Cursor) (t : Token) → IsCursorOf text c → c.next ≡ Ok t → is_name_kind t.kind ≡ true → IsUtf8 (lexeme_of text t).spelling
name-text text c t h e k =
    let n = name_kind t.kind k in
    IsUtf8-declarable (lexeme_of text t).spelling (name-declarable text c.end t n.0 (cursor-token text c t h e) n.1)

pub constant-text : (text : List ℕ) (c : Cursor) (t : Token) → IsCursorOf text c → c.next ≡ Ok t → t.kind ≡ ConstName → IsUtf8 (drop 1 (lexeme_of text t).spelling)
constant-text text c t h e k =
    let d = constant-declarable text c.end t (cursor-token text c t h e) k in
    subst IsUtf8 (sym (ap (drop 1) d.1)) (IsUtf8-declarable d.0 d.2)

pub constant-has_byte : (text : List ℕ) (c : Cursor) (t : Token) → IsCursorOf text c → c.next ≡ Ok t → t.kind ≡ ConstName → 1 ≤ length (lexeme_of text t).spelling
constant-has_byte text c t h e k =
    let b = next-has_byte text c t h e (λ f. cc (f, k)) in
    let l = next-spelling text c t h e in omega arith

pub takes_name : (text : List ℕ) (c : Cursor) {n : List ℕ} {t : Lexeme} {u : State}
    → TakesToken c.room t (state_of text c) u → is_name_kind t.kind ≡ true → n ≡ t.spelling → TakesName (state_of text c) n u
unfolding state_of
takes_name text c {t = t} h k e = record { token = t; capital = (name_kind t.kind k).0; taken = h; kind = (name_kind t.kind k).1; spelled = e }

pub takes_constant : (text : List ℕ) (c : Cursor) {n : List ℕ} {t : Lexeme} {u : State}
    → TakesToken c.room t (state_of text c) u → t.kind ≡ ConstName → n ≡ drop 1 t.spelling → TakesConstant (state_of text c) n u
unfolding state_of
takes_constant text c {t = t} h k e = record { token = t; taken = h; kind = k; spelled = e }

pub takes_word : (text : List ℕ) (c : Cursor) {w : List ℕ} {k : TokenKind} {t : Lexeme} {u : State}
    → TakesToken c.room t (state_of text c) u → t.kind ≡ k → t.spelling ≡ w → TakesWord k w (state_of text c) u
unfolding state_of
takes_word text c {t = t} h k e = record { token = t; taken = h; kind = k; spelled = e }

pub ruleset name_steps = (name-text)

pub ruleset constant_steps = (constant-text, constant-has_byte)

pub ruleset take_name_steps = (takes_name)

pub ruleset take_constant_steps = (takes_constant)

pub ruleset take_word_steps = (takes_word)

pub ruleset take_number_steps = (next-spelling)

-- a slice from its second byte on
pub behind-first : (l : List ℕ) → take (length l - 1) (drop 1 l) ≡ drop 1 l
behind-first l = grind (arith, common_steps)

pub takes_number : (text : List ℕ) (c : Cursor) (t : Token) (u : State) (v : ℕ) (s : Span)
    → IsCursorOf text c → c.next ≡ Ok t → TakesToken c.room (lexeme_of text t) (state_of text c) u → t.kind ≡ Number
    → v ≡ min (digits_behind 0 (lexeme_of text t).spelling) (2 ^ 64 - 1) → s ≡ span_of t → TakesNumber (state_of text c) (NumberBound v s) u
unfolding state_of
takes_number text c t u v s h e taken k value span = record {
  token = lexeme_of text t;
  taken = taken;
  kind = k;
  value = ap (λ (n : ℕ). NumberBound n s) value ∙ ap (λ (r : Span). NumberBound (min (digits_behind 0 (lexeme_of text t).spelling) (2 ^ 64 - 1)) r)
      (span ∙ ap (λ (n : ℕ). let r : Span = record { start = t.start; end = n } in r) (sym (next-spelling text c t h e)));
}
