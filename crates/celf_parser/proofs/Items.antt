-- Items, from what was read of them.
use Rattle.std.proofs.Common.{◌≡◌, ◌≤◌, ◌+◌, ℕ, List, length, drop, sym, ap, subst, ◌∙◌, Ok}
use Rattle.celf_lexer.specs.Gap.{gap}
use Rattle.celf_lexer.specs.declared.token.TokenKind.TheVariants.{End, Stop}
use Rattle.celf_lexer.specs.declared.token.Token.{Token}
use Rattle.celf_lexer.specs.Tokens.{next_token, tokens_from}
use Rattle.celf_lexer.proofs.Tokens.{next_token-ok}
use Rattle.celf_lexer.proofs.Starts.{next_token-start}
use Rattle.celf_surface.specs.declared.surface.Span.{Span}
use Rattle.celf_surface.specs.declared.surface.SObj.{SObj}
use Rattle.celf_surface.specs.Surface.{WrittenBody, object_tree}
use Rattle.celf_grammar.specs.State.{State, span_to, Takes}
use Rattle.celf_grammar.specs.Grammar.{IsBody, IsItem, item_all, IsObject}
use Rattle.celf_cursor.specs.declared.cursor.Cursor.{Cursor}
use Rattle.celf_cursor.specs.Cursor.{state_of, IsCursorOf}
use Rattle.celf_cursor.proofs.Cursors.{tokens_on-from}
use Rattle.celf_parser.specs.Place.{start_at, IsItemAt}

-- what was read is the same out of its box
pub unboxed-read : {s u : State} {o b : SObj} → o ≡ b → IsObject s (object_tree b) u → IsObject s (object_tree o) u
unboxed-read {s} {u} e h = subst (λ (x : SObj). IsObject s (object_tree x) u) (sym e) h

-- the span of an item ends where its full stop does
pub span-end : (text : List ℕ) (s : State) (c : Cursor) (p : Span) → p ≡ span_to s (state_of text c) → p.end ≡ c.end
unfolding state_of
span-end text s c p e = ap (λ (q : Span). q.end) e

pub item-read : (text : List ℕ) (s u : State) (c : Cursor) (b : WrittenBody) (p : Span)
    → IsCursorOf text c → IsBody s b u → Takes Stop u (state_of text c) → p ≡ span_to s (state_of text c)
    → (at : ℕ) → s ≡ start_at text at → IsItemAt text at (record { span = p; body = b })
unfolding state_of
item-read text s u c b p h d t e at same =
    let P : Span → Type 0 = λ q. IsItem s (record { span = q; body = b }) (state_of text c) in
    record {
      behind = state_of text c;
      parsed = subst (λ (x : State). IsItem x (record { span = p; body = b }) (state_of text c)) same (subst P (sym e) (item_all d t));
      rest = tokens_on-from text c.end c.next h.next ∙ ap (tokens_from text) (sym (span-end text s c p e));
    }

-- Where the end comes next, only blanks and comments are left.
pub end-gap : (text : List ℕ) (at : ℕ) (t : Token) → at ≤ length text → next_token text at ≡ Ok t → t.kind ≡ End → at + gap (drop at text) ≡ length text
end-gap text at t h e k = sym (next_token-start text at t e) ∙ ((next_token-ok text at (Ok t) h (sym e)).at_end k).0

pub ruleset item_steps = (item-read, span-end)
