-- Runs that begin with a type or a part of one, and items.
use Rattle.std.proofs.Common.{◌≡◌, ℕ, List, ◌∷◌, Bool, true, false, is_some, codes, length, ◌+◌, refl, sym, ap, ◌∙◌}
use Rattle.std.proofs.lemmas.Bool.{true≢false, false_from_ne_true}
use Rattle.std.proofs.lemmas.Slice.Eq.{bytes_eq-Decides}
use Rattle.std.specs.Str.{bytes_eq}
use Rattle.celf_lexer.specs.declared.token.TokenKind.{TokenKind}
use Rattle.celf_lexer.specs.declared.token.TokenKind.TheVariants as token
use Rattle.celf_lexer.specs.Tokens.{Lexeme, is_end}
use Rattle.celf_surface.specs.declared.surface.Arrow.{Arrow}
use Rattle.celf_grammar.specs.State.{State, next_kind, Ends, Takes, Opens, TakesName, TakesOne, TakesNumber, TakesDirective}
use Rattle.celf_grammar.specs.Grammar.{is_forward, is_backward, forward_of, backward_of, is_amp, is_star, is_left_bracket, is_mark, is_name_kind, OpensArrow}
use Rattle.celf_grammar.specs.Machine.{Symbol, Expect, Close, NameWord, NumberWord, Object, Indices, FamilyName, Whole, BackTail, Forward, ForwardTail, Sync, StarTail, Factor, With, AmpTail, TypeAtom, Bound, Implicit, Body, Item, is_pi, is_exists, stops, on_bound, on_body, on_directive, on_type_atom_kind, feed, runs, stops_at, deep_at}
use Rattle.celf_grammar.proofs.Runs.{token-taken, takes-run, opens-run, same-kinds, some-kinds, stops-run, stops-kinds, deep-run}
use Rattle.celf_grammar.proofs.TokenRuns.{NotOne, one-is}
use Rattle.celf_grammar.proofs.ObjectRuns.{begins_family}

-- atoms of types

pub type_atom-word : {s u : State} → Takes token.KwType s u → (k : List Symbol) → runs (TypeAtom ∷ k) s ≡ runs k u
type_atom-word h k = takes-run h (TypeAtom ∷ k) k (λ t e. rw e refl)

pub type_atom-top : {s u : State} → Takes token.TopSign s u → (k : List Symbol) → runs (TypeAtom ∷ k) s ≡ runs k u
type_atom-top h k = takes-run h (TypeAtom ∷ k) k (λ t e. rw e refl)

pub type_atom-one : {s u : State} → TakesOne s u → (k : List Symbol) → runs (TypeAtom ∷ k) s ≡ runs k u
type_atom-one h k = token-taken h.taken (TypeAtom ∷ k) k (let e = one-is h in rw e refl)

pub type_atom-braces : {s u : State} → Opens token.LeftBrace s u → (k : List Symbol) → runs (TypeAtom ∷ k) s ≡ runs (Whole ∷ Close token.RightBrace s.room ∷ k) u
type_atom-braces {s} h k = opens-run h (TypeAtom ∷ k) (Whole ∷ Close token.RightBrace s.room ∷ k) (λ t e. rw e refl)

pub type_atom-group : {s u : State} → Opens token.LeftParen s u → (k : List Symbol) → runs (TypeAtom ∷ k) s ≡ runs (Whole ∷ Close token.RightParen s.room ∷ k) u
type_atom-group {s} h k = opens-run h (TypeAtom ∷ k) (Whole ∷ Close token.RightParen s.room ∷ k) (λ t e. rw e refl)

pub type_atom-brace_deep : (s : State) (k : List Symbol) → next_kind s.rest ≡ token.LeftBrace → s.room ≡ 0 → runs (TypeAtom ∷ k) s ≡ deep_at s
type_atom-brace_deep s k e z = deep-run s token.LeftBrace (TypeAtom ∷ k) (Whole ∷ Close token.RightBrace s.room ∷ k) e refl z (λ t e. rw e refl)

pub type_atom-group_deep : (s : State) (k : List Symbol) → next_kind s.rest ≡ token.LeftParen → s.room ≡ 0 → runs (TypeAtom ∷ k) s ≡ deep_at s
type_atom-group_deep s k e z = deep-run s token.LeftParen (TypeAtom ∷ k) (Whole ∷ Close token.RightParen s.room ∷ k) e refl z (λ t e. rw e refl)

family-kind : (t : Lexeme) (room : ℕ) (k : List Symbol) (c : TokenKind) → t.kind ≡ c → begins_family c ≡ true
    → feed (TypeAtom ∷ k) room t ≡ feed (FamilyName ∷ Indices ∷ k) room t
family-kind t room k (token.Name false) e b = rw e refl
family-kind t room k (token.Name true) e b = rw e refl
family-kind t room k token.ConstName e b = rw e refl
family-kind t room k _ e b = absurd (true≢false (sym b))

pub type_atom-family : (s : State) (k : List Symbol) → begins_family (next_kind s.rest) ≡ true → runs (TypeAtom ∷ k) s ≡ runs (FamilyName ∷ Indices ∷ k) s
type_atom-family s k b = some-kinds s (TypeAtom ∷ k) (FamilyName ∷ Indices ∷ k) begins_family refl b (λ t e. family-kind t s.room k t.kind refl e)

-- the first tokens of an atom of a type, but for 1
abbrev pub begins_type_atom : TokenKind → Bool
begins_type_atom token.KwType = true
begins_type_atom token.TopSign = true
begins_type_atom token.LeftBrace = true
begins_type_atom token.LeftParen = true
begins_type_atom (token.Name c) = true
begins_type_atom token.ConstName = true
begins_type_atom _ = false

not-type_atom : (c : TokenKind) (room : ℕ) (k : List Symbol) → begins_type_atom c ≡ false → on_type_atom_kind c room k ≡ stops
not-type_atom token.KwType room k e = absurd (true≢false e)
not-type_atom token.TopSign room k e = absurd (true≢false e)
not-type_atom token.LeftBrace room k e = absurd (true≢false e)
not-type_atom token.LeftParen room k e = absurd (true≢false e)
not-type_atom (token.Name c) room k e = absurd (true≢false e)
not-type_atom token.ConstName room k e = absurd (true≢false e)
not-type_atom _ room k e = refl

pub type_atom-stops : (s : State) (k : List Symbol) → NotOne s → Ends begins_type_atom s → runs (TypeAtom ∷ k) s ≡ stops_at s
type_atom-stops s k n e = stops-run s (TypeAtom ∷ k) refl
    (λ t us h. let f = n t us h in let g = not-type_atom t.kind s.room k (ap begins_type_atom (sym (ap next_kind h)) ∙ e) in rw (f, g) refl)

-- types, from the inside out

pub with-atom : (s : State) (k : List Symbol) → runs (With ∷ k) s ≡ runs (TypeAtom ∷ AmpTail ∷ k) s
with-atom s k = same-kinds s (With ∷ k) (TypeAtom ∷ AmpTail ∷ k) refl (λ t g. refl)

pub amp-more : {s u : State} → Opens token.Amp s u → (k : List Symbol) → runs (AmpTail ∷ k) s ≡ runs (With ∷ k) u
amp-more h k = opens-run h (AmpTail ∷ k) (With ∷ k) (λ t e. rw e refl)

pub amp-deep : (s : State) (k : List Symbol) → next_kind s.rest ≡ token.Amp → s.room ≡ 0 → runs (AmpTail ∷ k) s ≡ deep_at s
amp-deep s k e z = deep-run s token.Amp (AmpTail ∷ k) (With ∷ k) e refl z (λ t e. rw e refl)

pub amp-ends : (s : State) (k : List Symbol) → Ends is_amp s → runs (AmpTail ∷ k) s ≡ runs k s
amp-ends s k h = same-kinds s (AmpTail ∷ k) k refl (λ t e. let f : is_amp t.kind ≡ false = ap is_amp e ∙ h in rw f refl)

pub factor-persistent : {s u : State} → Takes token.Bang s u → (k : List Symbol) → runs (Factor ∷ k) s ≡ runs (With ∷ k) u
factor-persistent h k = takes-run h (Factor ∷ k) (With ∷ k) (λ t e. rw e refl)

pub factor-affine : {s u : State} → Takes token.AtSign s u → (k : List Symbol) → runs (Factor ∷ k) s ≡ runs (With ∷ k) u
factor-affine h k = takes-run h (Factor ∷ k) (With ∷ k) (λ t e. rw e refl)

pub factor-bare : (s : State) (k : List Symbol) → Ends is_mark s → runs (Factor ∷ k) s ≡ runs (With ∷ k) s
factor-bare s k h = same-kinds s (Factor ∷ k) (With ∷ k) refl (λ t e. let f : is_mark t.kind ≡ false = ap is_mark e ∙ h in rw f refl)

pub sync-exists : {s u : State} → Opens token.KwExists s u → (k : List Symbol)
    → runs (Sync ∷ k) s ≡ runs (NameWord ∷ Expect token.Colon ∷ Whole ∷ Expect token.Stop ∷ Sync ∷ k) u
sync-exists h k = opens-run h (Sync ∷ k) (NameWord ∷ Expect token.Colon ∷ Whole ∷ Expect token.Stop ∷ Sync ∷ k) (λ t e. rw e refl)

pub sync-deep : (s : State) (k : List Symbol) → next_kind s.rest ≡ token.KwExists → s.room ≡ 0 → runs (Sync ∷ k) s ≡ deep_at s
sync-deep s k e z = deep-run s token.KwExists (Sync ∷ k) (NameWord ∷ Expect token.Colon ∷ Whole ∷ Expect token.Stop ∷ Sync ∷ k) e refl z (λ t e. rw e refl)

pub no-exists : (c : TokenKind) → (c ≡ token.KwExists → ⊥) → is_exists c ≡ false
no-exists token.KwExists n = absurd (n refl)
no-exists _ n = refl

pub sync-factor : (s : State) (k : List Symbol) → Ends is_exists s → runs (Sync ∷ k) s ≡ runs (Factor ∷ StarTail ∷ k) s
sync-factor s k h = same-kinds s (Sync ∷ k) (Factor ∷ StarTail ∷ k) refl (λ t e. let f : is_exists t.kind ≡ false = ap is_exists e ∙ h in rw f refl)

pub star-more : {s u : State} → Takes token.Star s u → (k : List Symbol) → runs (StarTail ∷ k) s ≡ runs (Sync ∷ k) u
star-more h k = takes-run h (StarTail ∷ k) (Sync ∷ k) (λ t e. rw e refl)

pub star-ends : (s : State) (k : List Symbol) → Ends is_star s → runs (StarTail ∷ k) s ≡ runs k s
star-ends s k h = same-kinds s (StarTail ∷ k) k refl (λ t e. let f : is_star t.kind ≡ false = ap is_star e ∙ h in rw f refl)

pub forward-pi : {s u : State} → Opens token.KwPi s u → (k : List Symbol)
    → runs (Forward ∷ k) s ≡ runs (NameWord ∷ Expect token.Colon ∷ Whole ∷ Expect token.Stop ∷ Whole ∷ k) u
forward-pi h k = opens-run h (Forward ∷ k) (NameWord ∷ Expect token.Colon ∷ Whole ∷ Expect token.Stop ∷ Whole ∷ k) (λ t e. rw e refl)

pub forward-deep : (s : State) (k : List Symbol) → next_kind s.rest ≡ token.KwPi → s.room ≡ 0 → runs (Forward ∷ k) s ≡ deep_at s
forward-deep s k e z = deep-run s token.KwPi (Forward ∷ k) (NameWord ∷ Expect token.Colon ∷ Whole ∷ Expect token.Stop ∷ Whole ∷ k) e refl z (λ t e. rw e refl)

pub no-pi : (c : TokenKind) → (c ≡ token.KwPi → ⊥) → is_pi c ≡ false
no-pi token.KwPi n = absurd (n refl)
no-pi _ n = refl

pub forward-sync : (s : State) (k : List Symbol) → Ends is_pi s → runs (Forward ∷ k) s ≡ runs (Sync ∷ ForwardTail ∷ k) s
forward-sync s k h = same-kinds s (Forward ∷ k) (Sync ∷ ForwardTail ∷ k) refl (λ t e. let f : is_pi t.kind ≡ false = ap is_pi e ∙ h in rw f refl)

pub arrow-more : {k : Arrow} {s u : State} → OpensArrow forward_of k s u → (ks : List Symbol) → runs (ForwardTail ∷ ks) s ≡ runs (Forward ∷ ks) u
arrow-more h ks = opens-run h.sign (ForwardTail ∷ ks) (Forward ∷ ks) (λ t e. let f : is_forward t.kind ≡ true = ap is_forward e ∙ ap is_some h.is in rw f refl)

pub arrow-ends : (s : State) (k : List Symbol) → Ends is_forward s → runs (ForwardTail ∷ k) s ≡ runs k s
arrow-ends s k h = same-kinds s (ForwardTail ∷ k) k refl (λ t e. let f : is_forward t.kind ≡ false = ap is_forward e ∙ h in rw f refl)

no-end-forward : (c : TokenKind) → is_forward c ≡ true → is_end c ≡ false
no-end-forward token.End e = absurd (true≢false (sym e))
no-end-forward _ e = refl

pub arrow-deep : (s : State) (k : List Symbol) → is_forward (next_kind s.rest) ≡ true → s.room ≡ 0 → runs (ForwardTail ∷ k) s ≡ deep_at s
arrow-deep s k e z = deep-run s (next_kind s.rest) (ForwardTail ∷ k) (Forward ∷ k) refl (no-end-forward (next_kind s.rest) e) z
    (λ t h. let f : is_forward t.kind ≡ true = ap is_forward h ∙ e in rw f refl)

pub back-more : {k : Arrow} {s u : State} → OpensArrow backward_of k s u → (ks : List Symbol) → runs (BackTail ∷ ks) s ≡ runs (Forward ∷ BackTail ∷ ks) u
back-more h ks = opens-run h.sign (BackTail ∷ ks) (Forward ∷ BackTail ∷ ks) (λ t e. let f : is_backward t.kind ≡ true = ap is_backward e ∙ ap is_some h.is in rw f refl)

pub back-ends : (s : State) (k : List Symbol) → Ends is_backward s → runs (BackTail ∷ k) s ≡ runs k s
back-ends s k h = same-kinds s (BackTail ∷ k) k refl (λ t e. let f : is_backward t.kind ≡ false = ap is_backward e ∙ h in rw f refl)

no-end-backward : (c : TokenKind) → is_backward c ≡ true → is_end c ≡ false
no-end-backward token.End e = absurd (true≢false (sym e))
no-end-backward _ e = refl

pub back-deep : (s : State) (k : List Symbol) → is_backward (next_kind s.rest) ≡ true → s.room ≡ 0 → runs (BackTail ∷ k) s ≡ deep_at s
back-deep s k e z = deep-run s (next_kind s.rest) (BackTail ∷ k) (Forward ∷ BackTail ∷ k) refl (no-end-backward (next_kind s.rest) e) z
    (λ t h. let f : is_backward t.kind ≡ true = ap is_backward h ∙ e in rw f refl)

pub type-forward : (s : State) (k : List Symbol) → runs (Whole ∷ k) s ≡ runs (Forward ∷ BackTail ∷ k) s
type-forward s k = same-kinds s (Whole ∷ k) (Forward ∷ BackTail ∷ k) refl (λ t g. refl)

-- items

pub bound-number : {b : _} {s u : State} → TakesNumber s b u → (k : List Symbol) → runs (Bound ∷ k) s ≡ runs k u
bound-number {s = s} h k = token-taken h.taken (Bound ∷ k) k (ap (λ c. on_bound c s.room k) h.kind)

pub bound-star : {s u : State} → Takes token.Star s u → (k : List Symbol) → runs (Bound ∷ k) s ≡ runs k u
bound-star h k = takes-run h (Bound ∷ k) k (λ t e. rw e refl)

not-bound : (c : TokenKind) (room : ℕ) (k : List Symbol) → (c ≡ token.Number → ⊥) → (c ≡ token.Star → ⊥) → on_bound c room k ≡ stops
not-bound token.Number room k n m = absurd (n refl)
not-bound token.Star room k n m = absurd (m refl)
not-bound _ room k n m = refl

pub bound-stops : (s : State) (k : List Symbol) → (next_kind s.rest ≡ token.Number → ⊥) → (next_kind s.rest ≡ token.Star → ⊥) → runs (Bound ∷ k) s ≡ stops_at s
bound-stops s k n m = stops-kinds s (Bound ∷ k) refl (λ t g. not-bound t.kind s.room k (λ i. n (sym g ∙ i)) (λ i. m (sym g ∙ i)))

pub implicit-count : {s u : State} → Takes token.LeftBracket s u → (k : List Symbol) → runs (Implicit ∷ k) s ≡ runs (NumberWord ∷ Expect token.RightBracket ∷ k) u
implicit-count h k = takes-run h (Implicit ∷ k) (NumberWord ∷ Expect token.RightBracket ∷ k) (λ t e. rw e refl)

pub implicit-none : (s : State) (k : List Symbol) → Ends is_left_bracket s → runs (Implicit ∷ k) s ≡ runs k s
implicit-none s k h = same-kinds s (Implicit ∷ k) k refl (λ t e. let f : is_left_bracket t.kind ≡ false = ap is_left_bracket e ∙ h in rw f refl)

pub body-declare : {n : List ℕ} {s u : State} → TakesName s n u → (k : List Symbol) → runs (Body ∷ k) s ≡ runs (Expect token.Colon ∷ Implicit ∷ Whole ∷ k) u
body-declare {s = s} h k = token-taken h.taken (Body ∷ k) (Expect token.Colon ∷ Implicit ∷ Whole ∷ k) (ap (λ c. on_body c h.token.spelling s.room k) h.kind)

directive-fed : {word : List ℕ} {s u : State} (h : TakesDirective word s u) (k : List Symbol) → feed (Body ∷ k) s.room h.token ≡ on_directive word s.room k
directive-fed h k = let i = h.kind in let w = h.spelled in rw (i, w) refl

pub body-query : {s u : State} → TakesDirective (codes "#query") s u → (k : List Symbol) → runs (Body ∷ k) s ≡ runs (Bound ∷ Bound ∷ Bound ∷ Bound ∷ Whole ∷ k) u
body-query h k = token-taken h.taken (Body ∷ k) (Bound ∷ Bound ∷ Bound ∷ Bound ∷ Whole ∷ k) (directive-fed h k)

pub body-trace : {s u : State} → TakesDirective (codes "#trace") s u → (k : List Symbol) → runs (Body ∷ k) s ≡ runs (Bound ∷ Whole ∷ k) u
body-trace h k = token-taken h.taken (Body ∷ k) (Bound ∷ Whole ∷ k) (directive-fed h k)

pub body-equal : {s u : State} → TakesDirective (codes "#equal") s u → (k : List Symbol)
    → runs (Body ∷ k) s ≡ runs (Object ∷ Expect token.Equals ∷ Object ∷ Expect token.Colon ∷ Whole ∷ k) u
body-equal h k = token-taken h.taken (Body ∷ k) (Object ∷ Expect token.Equals ∷ Object ∷ Expect token.Colon ∷ Whole ∷ k) (directive-fed h k)

pub body-check : {s u : State} → TakesDirective (codes "#check") s u → (k : List Symbol) → runs (Body ∷ k) s ≡ runs (Object ∷ Expect token.Colon ∷ Whole ∷ k) u
body-check h k = token-taken h.taken (Body ∷ k) (Object ∷ Expect token.Colon ∷ Whole ∷ k) (directive-fed h k)

-- The next token is not this directive word.
abbrev pub NotDirective : List ℕ → State → Type 0
NotDirective word s = (t : Lexeme) (us : List Lexeme) → s.rest ≡ t ∷ us → bytes_eq t.spelling word ≡ false

pub not-directive : (word : List ℕ) (s : State) → next_kind s.rest ≡ token.Directive → ((u : State) → TakesDirective word s u → ⊥) → NotDirective word s
not-directive word s d n t us e = false_from_ne_true (bytes_eq t.spelling word) (λ h. n (record { rest = us; room = s.room; end = t.start + length t.spelling }) (record {
  token = t;
  taken = record { first = e; room = refl; behind = refl };
  kind = sym (ap next_kind e) ∙ d;
  spelled = (bytes_eq-Decides t.spelling word).0 h;
}))

not-body : (c : TokenKind) (word : List ℕ) (room : ℕ) (k : List Symbol) → is_name_kind c ≡ false → (c ≡ token.Directive → ⊥) → on_body c word room k ≡ stops
not-body (token.Name b) word room k e n = absurd (true≢false e)
not-body token.Directive word room k e n = absurd (n refl)
not-body _ word room k e n = refl

pub body-stops : (s : State) (k : List Symbol) → Ends is_name_kind s → (next_kind s.rest ≡ token.Directive → ⊥) → runs (Body ∷ k) s ≡ stops_at s
body-stops s k e n = stops-kinds s (Body ∷ k) refl (λ t g. not-body t.kind t.spelling s.room k (ap is_name_kind g ∙ e) (λ i. n (sym g ∙ i)))

pub body-unknown : (s : State) (k : List Symbol) → next_kind s.rest ≡ token.Directive → NotDirective (codes "#query") s → NotDirective (codes "#trace") s
    → NotDirective (codes "#equal") s → NotDirective (codes "#check") s → runs (Body ∷ k) s ≡ stops_at s
body-unknown s k d q r e c = stops-run s (Body ∷ k) refl
    (λ t us h. let i = sym (ap next_kind h) ∙ d in let a = q t us h in let b = r t us h in let f = e t us h in let g = c t us h in rw (i, a, b, f, g) refl)

pub item-body : (s : State) (k : List Symbol) → runs (Item ∷ k) s ≡ runs (Body ∷ Expect token.Stop ∷ k) s
item-body s k = same-kinds s (Item ∷ k) (Body ∷ Expect token.Stop ∷ k) refl (λ t g. refl)

pub ruleset type_atom_runs = (type_atom-word, type_atom-top, type_atom-one, type_atom-braces, type_atom-group, type_atom-brace_deep, type_atom-group_deep, type_atom-family, type_atom-stops)

pub ruleset type_runs = (with-atom, amp-more, amp-deep, amp-ends, factor-persistent, factor-affine, factor-bare, sync-exists, sync-deep, sync-factor, star-more, star-ends, forward-pi, forward-deep, forward-sync, arrow-more, arrow-ends, arrow-deep, back-more, back-ends, back-deep, type-forward)

pub ruleset item_runs = (bound-number, bound-star, bound-stops, implicit-count, implicit-none, body-declare, body-query, body-trace, body-equal, body-check, body-stops, body-unknown, not-directive, item-body)
