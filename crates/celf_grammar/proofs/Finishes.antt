-- What the machine still has to read can be finished, without a part that is opened.
use Rattle.std.proofs.Common.{◌≡◌, ℕ, zero, suc, List, [], ◌∷◌, ◌++◌, Bool, true, false, not, codes, refl, sym, ap, ◌∙◌}
use Rattle.std.specs.Prelude.{if◌then◌else◌, ◌&&◌}
use Rattle.std.specs.Str.{bytes_eq}
use Rattle.std.proofs.lemmas.Bool.{true≢false, and_parts, and_from, not-true}
use Rattle.celf_lexer.specs.declared.token.TokenKind.{TokenKind}
use Rattle.celf_lexer.specs.declared.token.TokenKind.TheVariants as token
use Rattle.celf_lexer.specs.Tokens.{Lexeme}
use Rattle.celf_grammar.specs.State.{State, next_kind, Takes, Closes}
use Rattle.celf_grammar.specs.Grammar.{is_comma, is_mark, is_let, is_left_bracket, is_amp, is_star, is_forward, is_backward, begins_argument, begins_index, mark_none}
use Rattle.celf_grammar.specs.Faults.{opens_part}
use Rattle.celf_grammar.specs.KindNumbers.{same_kind}
use Rattle.celf_grammar.specs.Machine.{Symbol, Expect, Close, Restore, NameWord, NumberWord, Mark, Binder, Pattern, PatternTail, Object, Application, Arguments, Atom, Expression, LetPattern, Tuple, TupleTail, Index, Indices, FamilyName, Whole, BackTail, Forward, ForwardTail, Sync, StarTail, Factor, With, AmpTail, TypeAtom, Bound, Implicit, Body, Item, is_one, is_bang, is_pi, is_exists, Fed, next, done, stops, deep, opens, on_token, on_name, on_binder, on_pattern, on_atom, on_object, on_argument, on_tuple, on_expression, on_let_pattern, on_index, on_family_name, on_type_atom, on_type_atom_kind, on_factor, on_sync, on_forward, on_bound, on_directive, on_body, feed, Verdict, runs}
use Rattle.celf_grammar.proofs.TokenRuns.{expect-run, close-run, restore-run, mark-run, pattern_tail-ends}
use Rattle.celf_grammar.proofs.ObjectRuns.{arguments-end, tuple_tail-ends, indices-end}
use Rattle.celf_grammar.proofs.TypeRuns.{amp-ends, star-ends, arrow-ends, back-ends, implicit-none}
use Rattle.celf_grammar.proofs.Derives.{is_accepted}

-- a token of this kind
abbrev of_kind : TokenKind → Lexeme
of_kind c = record { kind = c; start = 0; spelling = [] }

-- the shortest that a symbol may read
abbrev word_of : Symbol → List Lexeme
word_of (Expect c) = of_kind c ∷ []
word_of (Close c before) = of_kind c ∷ []
word_of NameWord = of_kind (token.Name false) ∷ []
word_of NumberWord = of_kind token.Number ∷ []
word_of Binder = of_kind token.Hole ∷ []
word_of Pattern = of_kind token.Hole ∷ []
word_of Object = of_kind token.Hole ∷ []
word_of Application = of_kind token.Hole ∷ []
word_of Atom = of_kind token.Hole ∷ []
word_of Expression = of_kind token.Hole ∷ []
word_of LetPattern = of_kind token.LeftBrace ∷ of_kind token.Hole ∷ of_kind token.RightBrace ∷ []
word_of Tuple = of_kind token.Hole ∷ []
word_of Index = of_kind token.Hole ∷ []
word_of FamilyName = of_kind (token.Name false) ∷ []
word_of Whole = of_kind token.KwType ∷ []
word_of Forward = of_kind token.KwType ∷ []
word_of Sync = of_kind token.KwType ∷ []
word_of Factor = of_kind token.KwType ∷ []
word_of With = of_kind token.KwType ∷ []
word_of TypeAtom = of_kind token.KwType ∷ []
word_of Bound = of_kind token.Number ∷ []
word_of Body = of_kind (token.Name false) ∷ of_kind token.Colon ∷ of_kind token.KwType ∷ []
word_of Item = of_kind (token.Name false) ∷ of_kind token.Colon ∷ of_kind token.KwType ∷ of_kind token.Stop ∷ []
word_of _ = []

abbrev pub finish : List Symbol → List Lexeme
finish [] = []
finish (x ∷ k) = word_of x ++ finish k

-- the tokens with which no type and no object goes on
abbrev quiet : TokenKind → Bool
quiet token.Amp = false
quiet token.Star = false
quiet token.Arrow = false
quiet token.Lolli = false
quiet token.Affine = false
quiet token.BackArrow = false
quiet token.BackLolli = false
quiet c = not (begins_argument c)

-- A symbol may stand before a token of this kind: it does not take that token for its own. A brace after let opens a part.
abbrev may_precede : Symbol → TokenKind → Bool
may_precede (Expect d) c = true
may_precede (Close d before) c = true
may_precede (Restore before) c = true
may_precede NameWord c = true
may_precede NumberWord c = true
may_precede Binder c = true
may_precede Pattern c = true
may_precede Atom c = true
may_precede Index c = true
may_precede FamilyName c = true
may_precede Bound c = true
may_precede Item c = true
may_precede LetPattern c = false
may_precede Mark c = not (is_mark c)
may_precede PatternTail c = not (is_comma c)
may_precede TupleTail c = not (is_comma c) && quiet c
may_precede Implicit c = not (is_left_bracket c)
may_precede x c = quiet c

abbrev pub well : List Symbol → Bool
well [] = true
well (x ∷ k) = may_precede x (next_kind (finish k)) && well k

-- the same where the brace after let may be next
abbrev pub well_or_let : List Symbol → Bool
well_or_let (LetPattern ∷ k) = well k
well_or_let k = well k

well-either : (k : List Symbol) → well k ≡ true → well_or_let k ≡ true
well-either (LetPattern ∷ k) h = absurd (true≢false (sym h))
well-either k h = h

-- What a token leads to can be finished, and only after let does that open a part. A token for which there is no room opens one.
abbrev pub Sound : TokenKind → Fed → Type 0
Sound c (next k room) = (well_or_let k ≡ true) × (is_let c ≡ false → well k ≡ true)
Sound c (done room) = Unit {0}
Sound c stops = Unit {0}
Sound c deep = opens_part c ≡ true

next-sound : (c : TokenKind) (room : ℕ) (k : List Symbol) → well k ≡ true → Sound c (next k room)
next-sound c room k h = (well-either k h, λ e. h)

opens-sound : (c : TokenKind) (room : ℕ) (k : List Symbol) → opens_part c ≡ true → well k ≡ true → Sound c (opens room k)
opens-sound c zero k o h = o
opens-sound c (suc n) k o h = next-sound c n k h

if-sound : (c : TokenKind) (b : Bool) (f g : Fed) → (b ≡ true → Sound c f) → (b ≡ false → Sound c g) → Sound c (if b then f else g)
if-sound c true f g h l = h refl
if-sound c false f g h l = l refl

token-sound : (c : TokenKind) (b : Bool) (room : ℕ) (k : List Symbol) → well k ≡ true → Sound c (on_token b room k)
token-sound c b room k h = if-sound c b _ _ (λ e. next-sound c room k h) (λ e. tt)

name-sound : (c : TokenKind) (room : ℕ) (k : List Symbol) → well k ≡ true → Sound c (on_name c room k)
name-sound (token.Name b) room k h = next-sound (token.Name b) room k h
name-sound _ room k h = tt

binder-sound : (c : TokenKind) (room : ℕ) (k : List Symbol) → well k ≡ true → Sound c (on_binder c room k)
binder-sound (token.Name b) room k h = next-sound (token.Name b) room k h
binder-sound token.Hole room k h = next-sound token.Hole room k h
binder-sound _ room k h = tt

bracket-opens : (c : TokenKind) → is_left_bracket c ≡ true → opens_part c ≡ true
bracket-opens token.LeftBracket h = refl
bracket-opens _ h = absurd (true≢false (sym h))

pattern-sound : (t : Lexeme) (room : ℕ) (k : List Symbol) → well k ≡ true → Sound t.kind (on_pattern t room k)
pattern-sound t room k h = if-sound t.kind (is_one t) _ _ (λ e. next-sound t.kind room k h)
    (λ e. if-sound t.kind (is_left_bracket t.kind) _ _ (λ b. opens-sound t.kind room _ (bracket-opens t.kind b) h)
    (λ b. if-sound t.kind (is_mark t.kind) _ _ (λ m. next-sound t.kind room (Binder ∷ k) h) (λ m. binder-sound t.kind room k h)))

atom-sound : (c : TokenKind) (room : ℕ) (k : List Symbol) → well k ≡ true → Sound c (on_atom c room k)
atom-sound (token.Name b) room k h = next-sound (token.Name b) room k h
atom-sound token.ConstName room k h = next-sound token.ConstName room k h
atom-sound token.Hole room k h = next-sound token.Hole room k h
atom-sound token.UnitSign room k h = next-sound token.UnitSign room k h
atom-sound token.Less room k h = opens-sound token.Less room (Object ∷ Expect token.Comma ∷ Object ∷ Close token.Greater room ∷ k) refl h
atom-sound token.LeftBrace room k h = opens-sound token.LeftBrace room (Expression ∷ Close token.RightBrace room ∷ k) refl h
atom-sound token.LeftParen room k h = opens-sound token.LeftParen room (Object ∷ Close token.RightParen room ∷ k) refl h
atom-sound token.Proj1 room k h = opens-sound token.Proj1 room (Atom ∷ Restore room ∷ k) refl h
atom-sound token.Proj2 room k h = opens-sound token.Proj2 room (Atom ∷ Restore room ∷ k) refl h
atom-sound _ room k h = tt

object-sound : (c : TokenKind) (room : ℕ) (k : List Symbol) → well (Object ∷ k) ≡ true → Sound c (on_object c room k)
object-sound token.Backslash room k h = opens-sound token.Backslash room (Mark ∷ Binder ∷ Expect token.Stop ∷ Object ∷ k) refl h
object-sound c room k h = atom-sound c room (Arguments ∷ k) h

argument-sound : (c : TokenKind) (room : ℕ) (k : List Symbol) → well k ≡ true → Sound c (on_argument c room k)
argument-sound c room k h = if-sound c (is_mark c) _ _ (λ m. next-sound c room (Atom ∷ k) h) (λ m. atom-sound c room k h)

-- what a list of symbols is without its first
rest-well : (x : Symbol) (k : List Symbol) → well (x ∷ k) ≡ true → well k ≡ true
rest-well x k h = (and_parts (may_precede x (next_kind (finish k))) (well k) h).1

tuple-sound : (t : Lexeme) (room : ℕ) (k : List Symbol) → well (Tuple ∷ k) ≡ true → Sound t.kind (on_tuple t room k)
tuple-sound t room k h = let w = rest-well Tuple k h in if-sound t.kind (is_one t) _ _ (λ e. next-sound t.kind room k w)
    (λ e. if-sound t.kind (is_left_bracket t.kind) _ _ (λ b. opens-sound t.kind room _ (bracket-opens t.kind b) w)
    (λ b. if-sound t.kind (is_mark t.kind) _ _ (λ m. next-sound t.kind room (Atom ∷ k) w) (λ m. object-sound t.kind room k h)))

expression-sound : (t : Lexeme) (room : ℕ) (k : List Symbol) → well (Expression ∷ k) ≡ true → Sound t.kind (on_expression t room k)
expression-sound t room k h = if-sound t.kind (is_let t.kind) _ _ (λ e. (h, λ n. absurd (true≢false (sym e ∙ n)))) (λ e. tuple-sound t room k h)

let_pattern-sound : (c : TokenKind) (room : ℕ) (k : List Symbol) → well k ≡ true → Sound c (on_let_pattern c room k)
let_pattern-sound token.LeftBrace room k h = opens-sound token.LeftBrace room (Pattern ∷ Close token.RightBrace room ∷ k) refl h
let_pattern-sound _ room k h = tt

index-sound : (c : TokenKind) (room : ℕ) (k : List Symbol) → well k ≡ true → Sound c (on_index c room k)
index-sound c room k h = if-sound c (is_bang c) _ _ (λ m. next-sound c room (Atom ∷ k) h) (λ m. atom-sound c room k h)

family-sound : (c : TokenKind) (room : ℕ) (k : List Symbol) → well k ≡ true → Sound c (on_family_name c room k)
family-sound (token.Name b) room k h = next-sound (token.Name b) room k h
family-sound token.ConstName room k h = next-sound token.ConstName room k h
family-sound _ room k h = tt

type_atom_kind-sound : (c : TokenKind) (room : ℕ) (k : List Symbol) → well (TypeAtom ∷ k) ≡ true → Sound c (on_type_atom_kind c room k)
type_atom_kind-sound token.KwType room k h = next-sound token.KwType room k (rest-well TypeAtom k h)
type_atom_kind-sound token.TopSign room k h = next-sound token.TopSign room k (rest-well TypeAtom k h)
type_atom_kind-sound token.LeftBrace room k h = opens-sound token.LeftBrace room (Whole ∷ Close token.RightBrace room ∷ k) refl (rest-well TypeAtom k h)
type_atom_kind-sound token.LeftParen room k h = opens-sound token.LeftParen room (Whole ∷ Close token.RightParen room ∷ k) refl (rest-well TypeAtom k h)
type_atom_kind-sound c room k h = family-sound c room (Indices ∷ k) h

type_atom-sound : (t : Lexeme) (room : ℕ) (k : List Symbol) → well (TypeAtom ∷ k) ≡ true → Sound t.kind (on_type_atom t room k)
type_atom-sound t room k h = if-sound t.kind (is_one t) _ _ (λ e. next-sound t.kind room k (rest-well TypeAtom k h)) (λ e. type_atom_kind-sound t.kind room k h)

-- One more symbol that ends where the next one does.
twice : (k : List Symbol) → well (Whole ∷ k) ≡ true → well (Whole ∷ BackTail ∷ k) ≡ true
twice k h = let p = and_parts (quiet (next_kind (finish k))) (well k) h in and_from (quiet (next_kind (finish k))) (quiet (next_kind (finish k)) && well k) p.0 h

factor-sound : (t : Lexeme) (room : ℕ) (k : List Symbol) → well (Factor ∷ k) ≡ true → Sound t.kind (on_factor t room k)
factor-sound t room k h = if-sound t.kind (is_mark t.kind) _ _ (λ m. next-sound t.kind room (With ∷ k) h) (λ m. type_atom-sound t room (AmpTail ∷ k) (twice k h))

exists-opens : (c : TokenKind) → is_exists c ≡ true → opens_part c ≡ true
exists-opens token.KwExists h = refl
exists-opens _ h = absurd (true≢false (sym h))

sync-sound : (t : Lexeme) (room : ℕ) (k : List Symbol) → well (Sync ∷ k) ≡ true → Sound t.kind (on_sync t room k)
sync-sound t room k h = if-sound t.kind (is_exists t.kind) _ _ (λ e. opens-sound t.kind room _ (exists-opens t.kind e) h) (λ e. factor-sound t room (StarTail ∷ k) (twice k h))

pi-opens : (c : TokenKind) → is_pi c ≡ true → opens_part c ≡ true
pi-opens token.KwPi h = refl
pi-opens _ h = absurd (true≢false (sym h))

forward-sound : (t : Lexeme) (room : ℕ) (k : List Symbol) → well (Forward ∷ k) ≡ true → Sound t.kind (on_forward t room k)
forward-sound t room k h = if-sound t.kind (is_pi t.kind) _ _ (λ e. opens-sound t.kind room _ (pi-opens t.kind e) h) (λ e. sync-sound t room (ForwardTail ∷ k) (twice k h))

bound-sound : (c : TokenKind) (room : ℕ) (k : List Symbol) → well k ≡ true → Sound c (on_bound c room k)
bound-sound token.Number room k h = next-sound token.Number room k h
bound-sound token.Star room k h = next-sound token.Star room k h
bound-sound _ room k h = tt

directive-sound : (c : TokenKind) (w : List ℕ) (room : ℕ) (k : List Symbol) → well (Body ∷ k) ≡ true → Sound c (on_directive w room k)
directive-sound c w room k h = if-sound c (bytes_eq w (codes "#query")) _ _ (λ e. next-sound c room (Bound ∷ Bound ∷ Bound ∷ Bound ∷ Whole ∷ k) h)
    (λ e. if-sound c (bytes_eq w (codes "#trace")) _ _ (λ e. next-sound c room (Bound ∷ Whole ∷ k) h)
    (λ e. if-sound c (bytes_eq w (codes "#equal")) _ _ (λ e. next-sound c room (Object ∷ Expect token.Equals ∷ Object ∷ Expect token.Colon ∷ Whole ∷ k) h)
    (λ e. if-sound c (bytes_eq w (codes "#check")) _ _ (λ e. next-sound c room (Object ∷ Expect token.Colon ∷ Whole ∷ k) h) (λ e. tt))))

body-sound : (c : TokenKind) (w : List ℕ) (room : ℕ) (k : List Symbol) → well (Body ∷ k) ≡ true → Sound c (on_body c w room k)
body-sound (token.Name b) w room k h = next-sound (token.Name b) room (Expect token.Colon ∷ Implicit ∷ Whole ∷ k) h
body-sound token.Directive w room k h = directive-sound token.Directive w room k h
body-sound _ w room k h = tt

forward-opens : (c : TokenKind) → is_forward c ≡ true → opens_part c ≡ true
forward-opens token.Arrow h = refl
forward-opens token.Lolli h = refl
forward-opens token.Affine h = refl
forward-opens _ h = absurd (true≢false (sym h))

backward-opens : (c : TokenKind) → is_backward c ≡ true → opens_part c ≡ true
backward-opens token.BackArrow h = refl
backward-opens token.BackLolli h = refl
backward-opens _ h = absurd (true≢false (sym h))

amp-opens : (c : TokenKind) → is_amp c ≡ true → opens_part c ≡ true
amp-opens token.Amp h = refl
amp-opens _ h = absurd (true≢false (sym h))

tuple-more : (k : List Symbol) → well (TupleTail ∷ k) ≡ true → well (Tuple ∷ TupleTail ∷ k) ≡ true
tuple-more k h =
    let c = next_kind (finish k) in let p = and_parts (not (is_comma c) && quiet c) (well k) h in let q = and_parts (not (is_comma c)) (quiet c) p.0 in
    and_from (quiet c) ((not (is_comma c) && quiet c) && well k) q.1 h

feed-well : (k : List Symbol) (room : ℕ) (t : Lexeme) → well k ≡ true → Sound t.kind (feed k room t)
feed-well [] room t h = tt
feed-well (Expect c ∷ k) room t h = token-sound t.kind (same_kind t.kind c) room k h
feed-well (Close c before ∷ k) room t h = token-sound t.kind (same_kind t.kind c) before k h
feed-well (Restore before ∷ k) room t h = feed-well k before t h
feed-well (NameWord ∷ k) room t h = name-sound t.kind room k h
feed-well (NumberWord ∷ k) room t h = token-sound t.kind (same_kind t.kind token.Number) room k h
feed-well (Mark ∷ k) room t h = let w = rest-well Mark k h in if-sound t.kind (is_mark t.kind) _ _ (λ e. next-sound t.kind room k w) (λ e. feed-well k room t w)
feed-well (Binder ∷ k) room t h = binder-sound t.kind room k h
feed-well (Pattern ∷ k) room t h = pattern-sound t room k h
feed-well (PatternTail ∷ k) room t h = if-sound t.kind (is_comma t.kind) _ _
    (λ e. next-sound t.kind room (Pattern ∷ PatternTail ∷ k) h) (λ e. feed-well k room t (rest-well PatternTail k h))
feed-well (Object ∷ k) room t h = object-sound t.kind room k h
feed-well (Application ∷ k) room t h = atom-sound t.kind room (Arguments ∷ k) h
feed-well (Arguments ∷ k) room t h = if-sound t.kind (begins_argument t.kind) _ _
    (λ e. argument-sound t.kind room (Arguments ∷ k) h) (λ e. feed-well k room t (rest-well Arguments k h))
feed-well (Atom ∷ k) room t h = atom-sound t.kind room k h
feed-well (Expression ∷ k) room t h = expression-sound t room k h
feed-well (LetPattern ∷ k) room t h = absurd (true≢false (sym h))
feed-well (Tuple ∷ k) room t h = tuple-sound t room k h
feed-well (TupleTail ∷ k) room t h = let w = rest-well TupleTail k h in if-sound t.kind (is_comma t.kind) _ _
    (λ e. next-sound t.kind room (Tuple ∷ TupleTail ∷ k) (tuple-more k h)) (λ e. feed-well k room t w)
feed-well (Index ∷ k) room t h = index-sound t.kind room k h
feed-well (Indices ∷ k) room t h = if-sound t.kind (begins_index t.kind) _ _
    (λ e. index-sound t.kind room (Indices ∷ k) h) (λ e. feed-well k room t (rest-well Indices k h))
feed-well (FamilyName ∷ k) room t h = family-sound t.kind room k h
feed-well (Whole ∷ k) room t h = forward-sound t room (BackTail ∷ k) (twice k h)
feed-well (BackTail ∷ k) room t h = if-sound t.kind (is_backward t.kind) _ _
    (λ e. opens-sound t.kind room (Forward ∷ BackTail ∷ k) (backward-opens t.kind e) (twice k h)) (λ e. feed-well k room t (rest-well BackTail k h))
feed-well (Forward ∷ k) room t h = forward-sound t room k h
feed-well (ForwardTail ∷ k) room t h = if-sound t.kind (is_forward t.kind) _ _
    (λ e. opens-sound t.kind room (Forward ∷ k) (forward-opens t.kind e) h) (λ e. feed-well k room t (rest-well ForwardTail k h))
feed-well (Sync ∷ k) room t h = sync-sound t room k h
feed-well (StarTail ∷ k) room t h = if-sound t.kind (is_star t.kind) _ _
    (λ e. next-sound t.kind room (Sync ∷ k) h) (λ e. feed-well k room t (rest-well StarTail k h))
feed-well (Factor ∷ k) room t h = factor-sound t room k h
feed-well (With ∷ k) room t h = type_atom-sound t room (AmpTail ∷ k) (twice k h)
feed-well (AmpTail ∷ k) room t h = if-sound t.kind (is_amp t.kind) _ _
    (λ e. opens-sound t.kind room (With ∷ k) (amp-opens t.kind e) h) (λ e. feed-well k room t (rest-well AmpTail k h))
feed-well (TypeAtom ∷ k) room t h = type_atom-sound t room k h
feed-well (Bound ∷ k) room t h = bound-sound t.kind room k h
feed-well (Implicit ∷ k) room t h = let w = rest-well Implicit k h in if-sound t.kind (is_left_bracket t.kind) _ _
    (λ e. next-sound t.kind room (NumberWord ∷ Expect token.RightBracket ∷ k) w) (λ e. feed-well k room t w)
feed-well (Body ∷ k) room t h = body-sound t.kind t.spelling room k h
feed-well (Item ∷ k) room t h = body-sound t.kind t.spelling room (Expect token.Stop ∷ k) h

pub feed-sound : (k : List Symbol) (room : ℕ) (t : Lexeme) → well_or_let k ≡ true → Sound t.kind (feed k room t)
feed-sound (LetPattern ∷ k) room t h = let_pattern-sound t.kind room k h
feed-sound k room t h = feed-well k room t h

-- the quiet tokens

no-argument : (c : TokenKind) → quiet c ≡ true → begins_argument c ≡ false
no-argument token.Amp h = refl
no-argument token.Star h = refl
no-argument token.Arrow h = refl
no-argument token.Lolli h = refl
no-argument token.Affine h = refl
no-argument token.BackArrow h = refl
no-argument token.BackLolli h = refl
no-argument c h = not-true (begins_argument c) h

no-index : (c : TokenKind) → begins_argument c ≡ false → begins_index c ≡ false
no-index token.Bang h = h
no-index token.AtSign h = refl
no-index _ h = h

no-amp : (c : TokenKind) → quiet c ≡ true → is_amp c ≡ false
no-amp token.Amp h = sym h
no-amp _ h = refl

no-star : (c : TokenKind) → quiet c ≡ true → is_star c ≡ false
no-star token.Star h = sym h
no-star _ h = refl

no-forward : (c : TokenKind) → quiet c ≡ true → is_forward c ≡ false
no-forward token.Arrow h = sym h
no-forward token.Lolli h = sym h
no-forward token.Affine h = sym h
no-forward _ h = refl

no-backward : (c : TokenKind) → quiet c ≡ true → is_backward c ≡ false
no-backward token.BackArrow h = sym h
no-backward token.BackLolli h = sym h
no-backward _ h = refl

abbrev pub at : List Lexeme → ℕ → ℕ → State
at ts room end = record { rest = ts; room = room; end = end }

skip : {v w : Verdict} → v ≡ w → is_accepted w ≡ true → is_accepted v ≡ true
skip e h = ap is_accepted e ∙ h

-- The tails of a type end before a quiet token.
module _ (ts : List Lexeme) (room end : ℕ) (q : quiet (next_kind ts) ≡ true) where
  with-ends : (k : List Symbol) → runs (AmpTail ∷ k) (at ts room end) ≡ runs k (at ts room end)
  with-ends k = amp-ends (at ts room end) k (no-amp (next_kind ts) q)

  sync-ends : (k : List Symbol) → runs (AmpTail ∷ StarTail ∷ k) (at ts room end) ≡ runs k (at ts room end)
  sync-ends k = with-ends (StarTail ∷ k) ∙ star-ends (at ts room end) k (no-star (next_kind ts) q)

  forward-ends : (k : List Symbol) → runs (AmpTail ∷ StarTail ∷ ForwardTail ∷ k) (at ts room end) ≡ runs k (at ts room end)
  forward-ends k = sync-ends (ForwardTail ∷ k) ∙ arrow-ends (at ts room end) k (no-forward (next_kind ts) q)

  type-ends : (k : List Symbol) → runs (AmpTail ∷ StarTail ∷ ForwardTail ∷ BackTail ∷ k) (at ts room end) ≡ runs k (at ts room end)
  type-ends k = forward-ends (BackTail ∷ k) ∙ back-ends (at ts room end) k (no-backward (next_kind ts) q)

  object-ends : (k : List Symbol) → runs (Arguments ∷ k) (at ts room end) ≡ runs k (at ts room end)
  object-ends k = arguments-end (at ts room end) k (no-argument (next_kind ts) q)

  family-ends : (k : List Symbol) → runs (Indices ∷ k) (at ts room end) ≡ runs k (at ts room end)
  family-ends k = indices-end (at ts room end) k (no-index (next_kind ts) (no-argument (next_kind ts) q))

expected : (c : TokenKind) (ts : List Lexeme) (room end : ℕ) → Takes c (at (of_kind c ∷ ts) room end) (at ts room 0)
expected c ts room end = record { token = of_kind c; taken = record { first = refl; room = refl; behind = refl }; kind = refl }

closed : (c : TokenKind) (before : ℕ) (ts : List Lexeme) (room end : ℕ) → Closes c before (at (of_kind c ∷ ts) room end) (at ts before 0)
closed c before ts room end = record { token = of_kind c; taken = record { first = refl; room = refl; behind = refl }; kind = refl }

-- the first of a list of symbols before what comes next
may : (x : Symbol) (k : List Symbol) → well (x ∷ k) ≡ true → may_precede x (next_kind (finish k)) ≡ true
may x k h = (and_parts (may_precede x (next_kind (finish k))) (well k) h).0

pub finished : (k : List Symbol) (room end : ℕ) → well k ≡ true → is_accepted (runs k (at (finish k) room end)) ≡ true
unfolding runs
finished [] room end h = refl
finished (Expect c ∷ k) room end h = skip (expect-run (expected c (finish k) room end) k) (finished k room 0 h)
finished (Close c before ∷ k) room end h = skip (close-run (closed c before (finish k) room end) k) (finished k before 0 h)
finished (Restore before ∷ k) room end h =
    skip (restore-run (record { rest = refl; room = refl; end = refl }) k) (finished k before end h)
finished (NameWord ∷ k) room end h = finished k room 0 h
finished (NumberWord ∷ k) room end h = finished k room 0 h
finished (Mark ∷ k) room end h =
    skip (mark-run (mark_none (not-true (is_mark (next_kind (finish k))) (may Mark k h))) k) (finished k room end (rest-well Mark k h))
finished (Binder ∷ k) room end h = finished k room 0 h
finished (Pattern ∷ k) room end h = finished k room 0 h
finished (PatternTail ∷ k) room end h =
    skip (pattern_tail-ends (at (finish k) room end) k (not-true (is_comma (next_kind (finish k))) (may PatternTail k h))) (finished k room end (rest-well PatternTail k h))
finished (Object ∷ k) room end h = skip (object-ends (finish k) room 0 (may Object k h) k) (finished k room 0 (rest-well Object k h))
finished (Application ∷ k) room end h = skip (object-ends (finish k) room 0 (may Object k h) k) (finished k room 0 (rest-well Object k h))
finished (Arguments ∷ k) room end h = skip (object-ends (finish k) room end (may Object k h) k) (finished k room end (rest-well Object k h))
finished (Atom ∷ k) room end h = finished k room 0 h
finished (Expression ∷ k) room end h = skip (object-ends (finish k) room 0 (may Object k h) k) (finished k room 0 (rest-well Object k h))
finished (LetPattern ∷ k) room end h = absurd (true≢false (sym h))
finished (Tuple ∷ k) room end h = skip (object-ends (finish k) room 0 (may Object k h) k) (finished k room 0 (rest-well Object k h))
finished (TupleTail ∷ k) room end h =
    let c = next_kind (finish k) in let p = and_parts (not (is_comma c)) (quiet c) (may TupleTail k h) in
    skip (tuple_tail-ends (at (finish k) room end) k (not-true (is_comma c) p.0)) (finished k room end (rest-well TupleTail k h))
finished (Index ∷ k) room end h = finished k room 0 h
finished (Indices ∷ k) room end h = skip (family-ends (finish k) room end (may Indices k h) k) (finished k room end (rest-well Indices k h))
finished (FamilyName ∷ k) room end h = finished k room 0 h
finished (Whole ∷ k) room end h = skip (type-ends (finish k) room 0 (may Whole k h) k) (finished k room 0 (rest-well Whole k h))
finished (BackTail ∷ k) room end h =
    skip (back-ends (at (finish k) room end) k (no-backward (next_kind (finish k)) (may BackTail k h))) (finished k room end (rest-well BackTail k h))
finished (Forward ∷ k) room end h = skip (forward-ends (finish k) room 0 (may Whole k h) k) (finished k room 0 (rest-well Whole k h))
finished (ForwardTail ∷ k) room end h =
    skip (arrow-ends (at (finish k) room end) k (no-forward (next_kind (finish k)) (may BackTail k h))) (finished k room end (rest-well BackTail k h))
finished (Sync ∷ k) room end h = skip (sync-ends (finish k) room 0 (may Whole k h) k) (finished k room 0 (rest-well Whole k h))
finished (StarTail ∷ k) room end h =
    skip (star-ends (at (finish k) room end) k (no-star (next_kind (finish k)) (may BackTail k h))) (finished k room end (rest-well BackTail k h))
finished (Factor ∷ k) room end h = skip (with-ends (finish k) room 0 (may Whole k h) k) (finished k room 0 (rest-well Whole k h))
finished (With ∷ k) room end h = skip (with-ends (finish k) room 0 (may Whole k h) k) (finished k room 0 (rest-well Whole k h))
finished (AmpTail ∷ k) room end h = skip (with-ends (finish k) room end (may Whole k h) k) (finished k room end (rest-well Whole k h))
finished (TypeAtom ∷ k) room end h = finished k room 0 (rest-well Whole k h)
finished (Bound ∷ k) room end h = finished k room 0 h
finished (Implicit ∷ k) room end h =
    skip (implicit-none (at (finish k) room end) k (not-true (is_left_bracket (next_kind (finish k))) (may Implicit k h))) (finished k room end (rest-well Implicit k h))
finished (Body ∷ k) room end h = skip (type-ends (finish k) room 0 (may Whole k h) k) (finished k room 0 (rest-well Whole k h))
finished (Item ∷ k) room end h = finished k room 0 h

-- After let, there must be room for one part.
pub finished-within : (k : List Symbol) (room end : ℕ) → well_or_let k ≡ true → is_accepted (runs k (at (finish k) (suc room) end)) ≡ true
unfolding runs
finished-within (LetPattern ∷ k) room end h = finished k (suc room) 0 h
finished-within k room end h = finished k (suc room) end h
