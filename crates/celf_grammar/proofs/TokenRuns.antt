-- Runs that begin with a token of one kind, and patterns.
use Rattle.std.proofs.Common.{◌≡◌, ℕ, List, [], ◌∷◌, true, false, refl, sym, ap, ◌∙◌, codes, Option, length, ◌+◌}
use Rattle.std.specs.Str.{bytes_eq}
use Rattle.std.proofs.lemmas.Slice.Eq.{bytes_eq-Decides}
use Rattle.std.proofs.lemmas.Bool.{and_parts, true≢false, false_from_ne_true}
use Rattle.celf_lexer.specs.declared.token.TokenKind.{TokenKind}
use Rattle.celf_lexer.specs.declared.token.TokenKind.TheVariants.{End, Number, Name}
use Rattle.celf_lexer.specs.declared.token.TokenKind.TheVariants as token
use Rattle.celf_lexer.specs.Tokens.{Lexeme}
use Rattle.celf_grammar.specs.State.{State, next_kind, Ends, Takes, Opens, Closes, EndsPart, TakesName, TakesOne, TakesNumber}
use Rattle.celf_surface.specs.declared.surface.SMode.{SMode}
use Rattle.celf_grammar.specs.Grammar.{is_comma, is_mark, is_left_bracket, is_name_kind, IsMark, mark_persistent, mark_affine, mark_none, IsBinder, binder_named, binder_hole}
use Rattle.celf_grammar.specs.KindNumbers.{same_kind}
use Rattle.celf_grammar.specs.Machine.{Symbol, Expect, Close, Restore, NameWord, NumberWord, Mark, Binder, Pattern, PatternTail, is_one, stops, on_token, on_name, on_binder, runs_on, runs, stops_at, deep_at}
use Rattle.celf_grammar.proofs.KindNumbers.{same_kind-yes, same_kind-is, same_kind-no}
use Rattle.celf_grammar.proofs.Runs.{token-taken, takes-run, opens-run, same-run, same-kinds, stops-kinds, deep-run}

-- A token of the kind that is expected.
pub expect-run : {c : TokenKind} {s u : State} → Takes c s u → (k : List Symbol) → runs (Expect c ∷ k) s ≡ runs k u
expect-run {c} {s} h k = takes-run h (Expect c ∷ k) k (λ t e. let f = same_kind-yes t.kind c e in rw f refl)

pub expect-stops : (c : TokenKind) (s : State) (k : List Symbol) → (next_kind s.rest ≡ c → ⊥) → runs (Expect c ∷ k) s ≡ stops_at s
expect-stops c s k n = stops-kinds s (Expect c ∷ k) refl (λ t e. let f = same_kind-no t.kind c (λ g. n (sym e ∙ g)) in rw f refl)

pub close-run : {c : TokenKind} {before : ℕ} {s u : State} → Closes c before s u → (k : List Symbol) → runs (Close c before ∷ k) s ≡ runs k u
close-run {c} {before} h k = token-taken h.taken (Close c before ∷ k) k (let f = same_kind-yes h.token.kind c h.kind in rw f refl)

pub close-stops : (c : TokenKind) (before : ℕ) (s : State) (k : List Symbol) → (next_kind s.rest ≡ c → ⊥) → runs (Close c before ∷ k) s ≡ stops_at s
close-stops c before s k n = stops-kinds s (Close c before ∷ k) refl (λ t e. let f = same_kind-no t.kind c (λ g. n (sym e ∙ g)) in rw f refl)

restore-on : (ts : List Lexeme) (left : ℕ) (k : List Symbol) (room end : ℕ) → runs_on ts (Restore left ∷ k) room end ≡ runs_on ts k left end
restore-on [] left k room end = refl
restore-on (t ∷ ts) left k room end = refl

-- The part of a projection ends.
pub restore-run : {left : ℕ} {s u : State} → EndsPart left s u → (k : List Symbol) → runs (Restore left ∷ k) s ≡ runs k u
unfolding runs
restore-run {left} {s} h k = rw (h.rest, h.room, h.end) (restore-on s.rest left k s.room s.end)

pub name-run : {n : List ℕ} {s u : State} → TakesName s n u → (k : List Symbol) → runs (NameWord ∷ k) s ≡ runs k u
name-run {s = s} h k = token-taken h.taken (NameWord ∷ k) k (ap (λ c. on_name c s.room k) h.kind)

not-name : (c : TokenKind) (room : ℕ) (k : List Symbol) → is_name_kind c ≡ false → on_name c room k ≡ stops
not-name (Name c) room k e = absurd (true≢false e)
not-name _ room k e = refl

pub name-stops : (s : State) (k : List Symbol) → Ends is_name_kind s → runs (NameWord ∷ k) s ≡ stops_at s
name-stops s k n = stops-kinds s (NameWord ∷ k) refl (λ t e. not-name t.kind s.room k (ap is_name_kind e ∙ n))

-- a number
pub number-run : {b : _} {s u : State} → TakesNumber s b u → (k : List Symbol) → runs (NumberWord ∷ k) s ≡ runs k u
number-run {s = s} h k = token-taken h.taken (NumberWord ∷ k) k (ap (λ c. on_token (same_kind c Number) s.room k) h.kind)

pub number-stops : (s : State) (k : List Symbol) → (next_kind s.rest ≡ Number → ⊥) → runs (NumberWord ∷ k) s ≡ stops_at s
number-stops s k n = stops-kinds s (NumberWord ∷ k) refl (λ t e. let f = same_kind-no t.kind Number (λ g. n (sym e ∙ g)) in rw f refl)

-- the number word 1
pub one-is : {s u : State} (h : TakesOne s u) → is_one h.token ≡ true
one-is h = let e = h.kind in let f = h.spelled in rw (e, f) refl

-- The next token is not the number word 1.
abbrev pub NotOne : State → Type 0
NotOne s = (t : Lexeme) (us : List Lexeme) → s.rest ≡ t ∷ us → is_one t ≡ false

pub not-one : (s : State) → ((u : State) → TakesOne s u → ⊥) → NotOne s
not-one s n t us e = false_from_ne_true (is_one t) (λ h. n (record { rest = us; room = s.room; end = t.start + length t.spelling }) (record {
  token = t;
  taken = record { first = e; room = refl; behind = refl };
  kind = same_kind-is t.kind Number (and_parts (same_kind t.kind Number) (bytes_eq t.spelling (codes "1")) h).0;
  spelled = (bytes_eq-Decides t.spelling (codes "1")).0 (and_parts (same_kind t.kind Number) (bytes_eq t.spelling (codes "1")) h).1;
}))

pub not-number : (s : State) → (next_kind s.rest ≡ Number → ⊥) → NotOne s
not-number s n = not-one s (λ u h. n (ap next_kind h.taken.first ∙ h.kind))

-- ! or @, or none
pub mark-run : {m : SMode} {s u : State} → IsMark s m u → (k : List Symbol) → runs (Mark ∷ k) s ≡ runs k u
mark-run {s = s} (mark_persistent h) k = takes-run h (Mark ∷ k) k (λ t e. rw e refl)
mark-run {s = s} (mark_affine h) k = takes-run h (Mark ∷ k) k (λ t e. rw e refl)
mark-run {s = s} (mark_none h) k = same-kinds s (Mark ∷ k) k refl (λ t e. let f : is_mark t.kind ≡ false = ap is_mark e ∙ h in rw f refl)

pub binder-run : {n : Option (List ℕ)} {s u : State} → IsBinder s n u → (k : List Symbol) → runs (Binder ∷ k) s ≡ runs k u
binder-run {s = s} (binder_named h) k = token-taken h.taken (Binder ∷ k) k (ap (λ c. on_binder c s.room k) h.kind)
binder-run {s = s} (binder_hole h) k = takes-run h (Binder ∷ k) k (λ t e. rw e refl)

not-binder : (c : TokenKind) (room : ℕ) (k : List Symbol) → is_name_kind c ≡ false → (c ≡ token.Hole → ⊥) → on_binder c room k ≡ stops
not-binder (Name c) room k e n = absurd (true≢false e)
not-binder token.Hole room k e n = absurd (n refl)
not-binder _ room k e n = refl

pub binder-stops : (s : State) (k : List Symbol) → Ends is_name_kind s → (next_kind s.rest ≡ token.Hole → ⊥) → runs (Binder ∷ k) s ≡ stops_at s
binder-stops s k e n = stops-kinds s (Binder ∷ k) refl (λ t g. not-binder t.kind s.room k (ap is_name_kind g ∙ e) (λ i. n (sym g ∙ i)))

pub pattern-one : {s u : State} → TakesOne s u → (k : List Symbol) → runs (Pattern ∷ k) s ≡ runs k u
pattern-one h k = token-taken h.taken (Pattern ∷ k) k (let e = one-is h in rw e refl)

pub pattern-opens : {s u : State} → Opens token.LeftBracket s u → (k : List Symbol)
    → runs (Pattern ∷ k) s ≡ runs (Pattern ∷ PatternTail ∷ Close token.RightBracket s.room ∷ k) u
pattern-opens {s} h k = opens-run h (Pattern ∷ k) (Pattern ∷ PatternTail ∷ Close token.RightBracket s.room ∷ k) (λ t e. rw e refl)

pub pattern-deep : (s : State) (k : List Symbol) → next_kind s.rest ≡ token.LeftBracket → s.room ≡ 0 → runs (Pattern ∷ k) s ≡ deep_at s
pattern-deep s k e z = deep-run s token.LeftBracket (Pattern ∷ k) (Pattern ∷ PatternTail ∷ Close token.RightBracket s.room ∷ k) e refl z (λ t e. rw e refl)

pub pattern-entry : (s : State) (k : List Symbol) → NotOne s → Ends is_left_bracket s → runs (Pattern ∷ k) s ≡ runs (Mark ∷ Binder ∷ k) s
pattern-entry s k n e = same-run s (Pattern ∷ k) (Mark ∷ Binder ∷ k) refl
    (λ t us h. let f = n t us h in let g : is_left_bracket t.kind ≡ false = ap is_left_bracket (sym (ap next_kind h)) ∙ e in rw (f, g) refl)

pub pattern_tail-more : {s u : State} → Takes token.Comma s u → (k : List Symbol) → runs (PatternTail ∷ k) s ≡ runs (Pattern ∷ PatternTail ∷ k) u
pattern_tail-more h k = takes-run h (PatternTail ∷ k) (Pattern ∷ PatternTail ∷ k) (λ t e. rw e refl)

pub pattern_tail-ends : (s : State) (k : List Symbol) → Ends is_comma s → runs (PatternTail ∷ k) s ≡ runs k s
pattern_tail-ends s k h = same-kinds s (PatternTail ∷ k) k refl (λ t e. let f : is_comma t.kind ≡ false = ap is_comma e ∙ h in rw f refl)

pub ruleset token_runs = (expect-run, expect-stops, close-run, close-stops, restore-run, name-run, name-stops, number-run, number-stops)

pub ruleset pattern_runs = (mark-run, binder-run, binder-stops, pattern-one, pattern-opens, pattern-deep, pattern-entry, pattern_tail-more, pattern_tail-ends, not-one)
