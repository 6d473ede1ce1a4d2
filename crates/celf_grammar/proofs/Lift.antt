-- Runs with room for one part more.
use Rattle.std.proofs.Common.{◌≡◌, ◌+◌, ℕ, zero, suc, List, [], ◌∷◌, Bool, true, false, length, codes, refl, sym, ap, ◌∙◌}
use Rattle.std.specs.Prelude.{if◌then◌else◌}
use Rattle.std.specs.Str.{bytes_eq}
use Rattle.std.proofs.lemmas.Bool.{true≢false}
use Rattle.celf_lexer.specs.declared.token.TokenKind.{TokenKind}
use Rattle.celf_lexer.specs.declared.token.TokenKind.TheVariants as token
use Rattle.celf_lexer.specs.Tokens.{Lexeme}
use Rattle.celf_grammar.specs.Grammar.{is_comma, is_mark, is_let, is_left_bracket, is_amp, is_star, is_forward, is_backward, begins_argument, begins_index}
use Rattle.celf_grammar.specs.KindNumbers.{same_kind}
use Rattle.celf_grammar.specs.Machine.{Symbol, Expect, Close, Restore, NameWord, NumberWord, Mark, Binder, Pattern, PatternTail, Object, Application, Arguments, Atom, Expression, LetPattern, Tuple, TupleTail, Index, Indices, FamilyName, Whole, BackTail, Forward, ForwardTail, Sync, StarTail, Factor, With, AmpTail, TypeAtom, Bound, Implicit, Body, Item, is_one, is_bang, is_pi, is_exists, Fed, next, done, stops, deep, opens, on_token, on_name, on_binder, on_pattern, on_atom, on_object, on_argument, on_tuple, on_expression, on_let_pattern, on_index, on_family_name, on_type_atom, on_type_atom_kind, on_factor, on_sync, on_forward, on_bound, on_directive, on_body, feed, at_end, after_token, runs_on}
use Rattle.celf_grammar.proofs.Derives.{is_accepted}

abbrev pub lift_symbol : Symbol → Symbol
lift_symbol (Close c room) = Close c (suc room)
lift_symbol (Restore room) = Restore (suc room)
lift_symbol x = x

abbrev pub lift : List Symbol → List Symbol
lift [] = []
lift (x ∷ k) = lift_symbol x ∷ lift k

-- The second comes of the same token with room for one part more.
abbrev pub Lifted : Fed → Fed → Type 0
Lifted (next k room) g = g ≡ next (lift k) (suc room)
Lifted (done room) g = g ≡ done (suc room)
Lifted stops g = g ≡ stops
Lifted deep g = (k : List Symbol) × (room : ℕ) × (g ≡ next k room)

if-lifts : (b : Bool) (f f' g g' : Fed) → Lifted f f' → Lifted g g' → Lifted (if b then f else g) (if b then f' else g')
if-lifts true f f' g g' l m = l
if-lifts false f f' g g' l m = m

opens-lifts : (room : ℕ) (k : List Symbol) → Lifted (opens room k) (opens (suc room) (lift k))
opens-lifts zero k = (lift k, 0, refl)
opens-lifts (suc n) k = refl

token-lifts : (b : Bool) (room : ℕ) (k : List Symbol) → Lifted (on_token b room k) (on_token b (suc room) (lift k))
token-lifts b room k = if-lifts b _ _ _ _ refl refl

name-lifts : (c : TokenKind) (room : ℕ) (k : List Symbol) → Lifted (on_name c room k) (on_name c (suc room) (lift k))
name-lifts (token.Name b) room k = refl
name-lifts _ room k = refl

binder-lifts : (c : TokenKind) (room : ℕ) (k : List Symbol) → Lifted (on_binder c room k) (on_binder c (suc room) (lift k))
binder-lifts (token.Name b) room k = refl
binder-lifts token.Hole room k = refl
binder-lifts _ room k = refl

pattern-lifts : (t : Lexeme) (room : ℕ) (k : List Symbol) → Lifted (on_pattern t room k) (on_pattern t (suc room) (lift k))
pattern-lifts t room k = if-lifts (is_one t) _ _ _ _ refl
    (if-lifts (is_left_bracket t.kind) _ _ _ _ (opens-lifts room _) (if-lifts (is_mark t.kind) _ _ _ _ refl (binder-lifts t.kind room k)))

atom-lifts : (c : TokenKind) (room : ℕ) (k : List Symbol) → Lifted (on_atom c room k) (on_atom c (suc room) (lift k))
atom-lifts (token.Name b) room k = refl
atom-lifts token.Less room k = opens-lifts room (Object ∷ Expect token.Comma ∷ Object ∷ Close token.Greater room ∷ k)
atom-lifts token.LeftBrace room k = opens-lifts room (Expression ∷ Close token.RightBrace room ∷ k)
atom-lifts token.LeftParen room k = opens-lifts room (Object ∷ Close token.RightParen room ∷ k)
atom-lifts token.Proj1 room k = opens-lifts room (Atom ∷ Restore room ∷ k)
atom-lifts token.Proj2 room k = opens-lifts room (Atom ∷ Restore room ∷ k)
atom-lifts _ room k = refl

object-lifts : (c : TokenKind) (room : ℕ) (k : List Symbol) → Lifted (on_object c room k) (on_object c (suc room) (lift k))
object-lifts token.Backslash room k = opens-lifts room (Mark ∷ Binder ∷ Expect token.Stop ∷ Object ∷ k)
object-lifts c room k = atom-lifts c room (Arguments ∷ k)

argument-lifts : (c : TokenKind) (room : ℕ) (k : List Symbol) → Lifted (on_argument c room k) (on_argument c (suc room) (lift k))
argument-lifts c room k = if-lifts (is_mark c) _ _ _ _ refl (atom-lifts c room k)

tuple-lifts : (t : Lexeme) (room : ℕ) (k : List Symbol) → Lifted (on_tuple t room k) (on_tuple t (suc room) (lift k))
tuple-lifts t room k = if-lifts (is_one t) _ _ _ _ refl
    (if-lifts (is_left_bracket t.kind) _ _ _ _ (opens-lifts room _) (if-lifts (is_mark t.kind) _ _ _ _ refl (object-lifts t.kind room k)))

expression-lifts : (t : Lexeme) (room : ℕ) (k : List Symbol) → Lifted (on_expression t room k) (on_expression t (suc room) (lift k))
expression-lifts t room k = if-lifts (is_let t.kind) _ _ _ _ refl (tuple-lifts t room k)

let_pattern-lifts : (c : TokenKind) (room : ℕ) (k : List Symbol) → Lifted (on_let_pattern c room k) (on_let_pattern c (suc room) (lift k))
let_pattern-lifts token.LeftBrace room k = opens-lifts room (Pattern ∷ Close token.RightBrace room ∷ k)
let_pattern-lifts _ room k = refl

index-lifts : (c : TokenKind) (room : ℕ) (k : List Symbol) → Lifted (on_index c room k) (on_index c (suc room) (lift k))
index-lifts c room k = if-lifts (is_bang c) _ _ _ _ refl (atom-lifts c room k)

family-lifts : (c : TokenKind) (room : ℕ) (k : List Symbol) → Lifted (on_family_name c room k) (on_family_name c (suc room) (lift k))
family-lifts (token.Name b) room k = refl
family-lifts token.ConstName room k = refl
family-lifts _ room k = refl

type_atom_kind-lifts : (c : TokenKind) (room : ℕ) (k : List Symbol) → Lifted (on_type_atom_kind c room k) (on_type_atom_kind c (suc room) (lift k))
type_atom_kind-lifts token.KwType room k = refl
type_atom_kind-lifts token.TopSign room k = refl
type_atom_kind-lifts token.LeftBrace room k = opens-lifts room (Whole ∷ Close token.RightBrace room ∷ k)
type_atom_kind-lifts token.LeftParen room k = opens-lifts room (Whole ∷ Close token.RightParen room ∷ k)
type_atom_kind-lifts c room k = family-lifts c room (Indices ∷ k)

type_atom-lifts : (t : Lexeme) (room : ℕ) (k : List Symbol) → Lifted (on_type_atom t room k) (on_type_atom t (suc room) (lift k))
type_atom-lifts t room k = if-lifts (is_one t) _ _ _ _ refl (type_atom_kind-lifts t.kind room k)

factor-lifts : (t : Lexeme) (room : ℕ) (k : List Symbol) → Lifted (on_factor t room k) (on_factor t (suc room) (lift k))
factor-lifts t room k = if-lifts (is_mark t.kind) _ _ _ _ refl (type_atom-lifts t room (AmpTail ∷ k))

sync-lifts : (t : Lexeme) (room : ℕ) (k : List Symbol) → Lifted (on_sync t room k) (on_sync t (suc room) (lift k))
sync-lifts t room k = if-lifts (is_exists t.kind) _ _ _ _ (opens-lifts room _) (factor-lifts t room (StarTail ∷ k))

forward-lifts : (t : Lexeme) (room : ℕ) (k : List Symbol) → Lifted (on_forward t room k) (on_forward t (suc room) (lift k))
forward-lifts t room k = if-lifts (is_pi t.kind) _ _ _ _ (opens-lifts room _) (sync-lifts t room (ForwardTail ∷ k))

bound-lifts : (c : TokenKind) (room : ℕ) (k : List Symbol) → Lifted (on_bound c room k) (on_bound c (suc room) (lift k))
bound-lifts token.Number room k = refl
bound-lifts token.Star room k = refl
bound-lifts _ room k = refl

directive-lifts : (w : List ℕ) (room : ℕ) (k : List Symbol) → Lifted (on_directive w room k) (on_directive w (suc room) (lift k))
directive-lifts w room k = if-lifts (bytes_eq w (codes "#query")) _ _ _ _ refl (if-lifts (bytes_eq w (codes "#trace")) _ _ _ _ refl
    (if-lifts (bytes_eq w (codes "#equal")) _ _ _ _ refl (if-lifts (bytes_eq w (codes "#check")) _ _ _ _ refl refl)))

body-lifts : (c : TokenKind) (w : List ℕ) (room : ℕ) (k : List Symbol) → Lifted (on_body c w room k) (on_body c w (suc room) (lift k))
body-lifts (token.Name b) w room k = refl
body-lifts token.Directive w room k = directive-lifts w room k
body-lifts _ w room k = refl

pub feed-lifts : (k : List Symbol) (room : ℕ) (t : Lexeme) → Lifted (feed k room t) (feed (lift k) (suc room) t)
feed-lifts [] room t = refl
feed-lifts (Expect c ∷ k) room t = token-lifts (same_kind t.kind c) room k
feed-lifts (Close c before ∷ k) room t = token-lifts (same_kind t.kind c) before k
feed-lifts (Restore before ∷ k) room t = feed-lifts k before t
feed-lifts (NameWord ∷ k) room t = name-lifts t.kind room k
feed-lifts (NumberWord ∷ k) room t = token-lifts (same_kind t.kind token.Number) room k
feed-lifts (Mark ∷ k) room t = if-lifts (is_mark t.kind) _ _ _ _ refl (feed-lifts k room t)
feed-lifts (Binder ∷ k) room t = binder-lifts t.kind room k
feed-lifts (Pattern ∷ k) room t = pattern-lifts t room k
feed-lifts (PatternTail ∷ k) room t = if-lifts (is_comma t.kind) _ _ _ _ refl (feed-lifts k room t)
feed-lifts (Object ∷ k) room t = object-lifts t.kind room k
feed-lifts (Application ∷ k) room t = atom-lifts t.kind room (Arguments ∷ k)
feed-lifts (Arguments ∷ k) room t = if-lifts (begins_argument t.kind) _ _ _ _ (argument-lifts t.kind room (Arguments ∷ k)) (feed-lifts k room t)
feed-lifts (Atom ∷ k) room t = atom-lifts t.kind room k
feed-lifts (Expression ∷ k) room t = expression-lifts t room k
feed-lifts (LetPattern ∷ k) room t = let_pattern-lifts t.kind room k
feed-lifts (Tuple ∷ k) room t = tuple-lifts t room k
feed-lifts (TupleTail ∷ k) room t = if-lifts (is_comma t.kind) _ _ _ _ refl (feed-lifts k room t)
feed-lifts (Index ∷ k) room t = index-lifts t.kind room k
feed-lifts (Indices ∷ k) room t = if-lifts (begins_index t.kind) _ _ _ _ (index-lifts t.kind room (Indices ∷ k)) (feed-lifts k room t)
feed-lifts (FamilyName ∷ k) room t = family-lifts t.kind room k
feed-lifts (Whole ∷ k) room t = forward-lifts t room (BackTail ∷ k)
feed-lifts (BackTail ∷ k) room t = if-lifts (is_backward t.kind) _ _ _ _ (opens-lifts room (Forward ∷ BackTail ∷ k)) (feed-lifts k room t)
feed-lifts (Forward ∷ k) room t = forward-lifts t room k
feed-lifts (ForwardTail ∷ k) room t = if-lifts (is_forward t.kind) _ _ _ _ (opens-lifts room (Forward ∷ k)) (feed-lifts k room t)
feed-lifts (Sync ∷ k) room t = sync-lifts t room k
feed-lifts (StarTail ∷ k) room t = if-lifts (is_star t.kind) _ _ _ _ refl (feed-lifts k room t)
feed-lifts (Factor ∷ k) room t = factor-lifts t room k
feed-lifts (With ∷ k) room t = type_atom-lifts t room (AmpTail ∷ k)
feed-lifts (AmpTail ∷ k) room t = if-lifts (is_amp t.kind) _ _ _ _ (opens-lifts room (With ∷ k)) (feed-lifts k room t)
feed-lifts (TypeAtom ∷ k) room t = type_atom-lifts t room k
feed-lifts (Bound ∷ k) room t = bound-lifts t.kind room k
feed-lifts (Implicit ∷ k) room t = if-lifts (is_left_bracket t.kind) _ _ _ _ refl (feed-lifts k room t)
feed-lifts (Body ∷ k) room t = body-lifts t.kind t.spelling room k
feed-lifts (Item ∷ k) room t = body-lifts t.kind t.spelling room (Expect token.Stop ∷ k)

-- Whether nothing must be read any more does not depend on room and place.
pub end-same : (k : List Symbol) (room end r e : ℕ) → is_accepted (at_end (lift k) r e) ≡ is_accepted (at_end k room end)
end-same [] room end r e = refl
end-same (Restore before ∷ k) room end r e = end-same k before end (suc before) e
end-same (Mark ∷ k) room end r e = end-same k room end r e
end-same (PatternTail ∷ k) room end r e = end-same k room end r e
end-same (Arguments ∷ k) room end r e = end-same k room end r e
end-same (TupleTail ∷ k) room end r e = end-same k room end r e
end-same (Indices ∷ k) room end r e = end-same k room end r e
end-same (BackTail ∷ k) room end r e = end-same k room end r e
end-same (ForwardTail ∷ k) room end r e = end-same k room end r e
end-same (StarTail ∷ k) room end r e = end-same k room end r e
end-same (AmpTail ∷ k) room end r e = end-same k room end r e
end-same (Implicit ∷ k) room end r e = end-same k room end r e
end-same (Close c before ∷ k) room end r e = refl
end-same (x ∷ k) room end r e = refl

fed-lifts : (t : Lexeme) (ts : List Lexeme) (end : ℕ)
    → ((k : List Symbol) (room e : ℕ) → is_accepted (runs_on ts k room e) ≡ true → is_accepted (runs_on ts (lift k) (suc room) e) ≡ true)
    → (f g : Fed) → Lifted f g → is_accepted (after_token t ts (runs_on ts) end f) ≡ true → is_accepted (after_token t ts (runs_on ts) end g) ≡ true
fed-lifts t ts end go (next k room) g l e = ap (λ h. is_accepted (after_token t ts (runs_on ts) end h)) l ∙ go k room (t.start + length t.spelling) e
fed-lifts t ts end go (done room) g l e = ap (λ h. is_accepted (after_token t ts (runs_on ts) end h)) l
fed-lifts t ts end go stops g l e = absurd (true≢false (sym e))
fed-lifts t ts end go deep g l e = absurd (true≢false (sym e))

-- What is accepted is accepted where there is more room.
pub run-lifts : (ts : List Lexeme) (k : List Symbol) (room end : ℕ) → is_accepted (runs_on ts k room end) ≡ true → is_accepted (runs_on ts (lift k) (suc room) end) ≡ true
run-lifts [] k room end e = end-same k room end (suc room) end ∙ e
run-lifts (t ∷ ts) k room end e = fed-lifts t ts end (λ j r d h. run-lifts ts j r d h) (feed k room t) (feed (lift k) (suc room) t) (feed-lifts k room t) e
