-- Runs that begin with an object or a part of one.
use Rattle.std.proofs.Common.{◌≡◌, ℕ, List, ◌∷◌, Bool, true, false, refl, sym, ap, ◌∙◌}
use Rattle.std.proofs.lemmas.Bool.{true≢false}
use Rattle.celf_lexer.specs.declared.token.TokenKind.{TokenKind}
use Rattle.celf_lexer.specs.declared.token.TokenKind.TheVariants as token
use Rattle.celf_grammar.specs.State.{State, next_kind, Ends, Takes, Opens, TakesName, TakesConstant, TakesOne}
use Rattle.celf_grammar.specs.Grammar.{is_comma, is_mark, is_let, is_left_bracket, begins_atom, begins_argument, begins_index}
use Rattle.celf_grammar.specs.Machine.{Symbol, Expect, Close, Restore, Mark, Binder, Pattern, Object, Application, Arguments, Atom, Expression, LetPattern, Tuple, TupleTail, Index, Indices, FamilyName, is_bang, stops, on_atom, on_object, on_let_pattern, on_family_name, runs, stops_at, deep_at}
use Rattle.celf_grammar.proofs.Runs.{token-taken, takes-run, opens-run, same-run, same-kinds, some-kinds, stops-kinds, deep-run}
use Rattle.celf_grammar.proofs.TokenRuns.{NotOne, one-is}

-- atoms

pub atom-name : {n : List ℕ} {s u : State} → TakesName s n u → (k : List Symbol) → runs (Atom ∷ k) s ≡ runs k u
atom-name {s = s} h k = token-taken h.taken (Atom ∷ k) k (ap (λ c. on_atom c s.room k) h.kind)

pub atom-constant : {n : List ℕ} {s u : State} → TakesConstant s n u → (k : List Symbol) → runs (Atom ∷ k) s ≡ runs k u
atom-constant {s = s} h k = token-taken h.taken (Atom ∷ k) k (ap (λ c. on_atom c s.room k) h.kind)

pub atom-hole : {s u : State} → Takes token.Hole s u → (k : List Symbol) → runs (Atom ∷ k) s ≡ runs k u
atom-hole h k = takes-run h (Atom ∷ k) k (λ t e. rw e refl)

pub atom-unit : {s u : State} → Takes token.UnitSign s u → (k : List Symbol) → runs (Atom ∷ k) s ≡ runs k u
atom-unit h k = takes-run h (Atom ∷ k) k (λ t e. rw e refl)

pub atom-pair : {s u : State} → Opens token.Less s u → (k : List Symbol)
    → runs (Atom ∷ k) s ≡ runs (Object ∷ Expect token.Comma ∷ Object ∷ Close token.Greater s.room ∷ k) u
atom-pair {s} h k = opens-run h (Atom ∷ k) (Object ∷ Expect token.Comma ∷ Object ∷ Close token.Greater s.room ∷ k) (λ t e. rw e refl)

pub atom-braces : {s u : State} → Opens token.LeftBrace s u → (k : List Symbol) → runs (Atom ∷ k) s ≡ runs (Expression ∷ Close token.RightBrace s.room ∷ k) u
atom-braces {s} h k = opens-run h (Atom ∷ k) (Expression ∷ Close token.RightBrace s.room ∷ k) (λ t e. rw e refl)

pub atom-group : {s u : State} → Opens token.LeftParen s u → (k : List Symbol) → runs (Atom ∷ k) s ≡ runs (Object ∷ Close token.RightParen s.room ∷ k) u
atom-group {s} h k = opens-run h (Atom ∷ k) (Object ∷ Close token.RightParen s.room ∷ k) (λ t e. rw e refl)

pub atom-first : {s u : State} → Opens token.Proj1 s u → (k : List Symbol) → runs (Atom ∷ k) s ≡ runs (Atom ∷ Restore s.room ∷ k) u
atom-first {s} h k = opens-run h (Atom ∷ k) (Atom ∷ Restore s.room ∷ k) (λ t e. rw e refl)

pub atom-second : {s u : State} → Opens token.Proj2 s u → (k : List Symbol) → runs (Atom ∷ k) s ≡ runs (Atom ∷ Restore s.room ∷ k) u
atom-second {s} h k = opens-run h (Atom ∷ k) (Atom ∷ Restore s.room ∷ k) (λ t e. rw e refl)

-- An atom that opens a part.
abbrev pub opens_atom : TokenKind → Bool
opens_atom token.Less = true
opens_atom token.LeftBrace = true
opens_atom token.LeftParen = true
opens_atom token.Proj1 = true
opens_atom token.Proj2 = true
opens_atom _ = false

atom-deep-kind : (s : State) (k : List Symbol) (c : TokenKind) → next_kind s.rest ≡ c → opens_atom c ≡ true → s.room ≡ 0 → runs (Atom ∷ k) s ≡ deep_at s
atom-deep-kind s k token.Less e o z = deep-run s token.Less (Atom ∷ k) (Object ∷ Expect token.Comma ∷ Object ∷ Close token.Greater s.room ∷ k) e refl z (λ t e. rw e refl)
atom-deep-kind s k token.LeftBrace e o z = deep-run s token.LeftBrace (Atom ∷ k) (Expression ∷ Close token.RightBrace s.room ∷ k) e refl z (λ t e. rw e refl)
atom-deep-kind s k token.LeftParen e o z = deep-run s token.LeftParen (Atom ∷ k) (Object ∷ Close token.RightParen s.room ∷ k) e refl z (λ t e. rw e refl)
atom-deep-kind s k token.Proj1 e o z = deep-run s token.Proj1 (Atom ∷ k) (Atom ∷ Restore s.room ∷ k) e refl z (λ t e. rw e refl)
atom-deep-kind s k token.Proj2 e o z = deep-run s token.Proj2 (Atom ∷ k) (Atom ∷ Restore s.room ∷ k) e refl z (λ t e. rw e refl)
atom-deep-kind s k _ e o z = absurd (true≢false (sym o))

pub atom-deep : (s : State) (k : List Symbol) → opens_atom (next_kind s.rest) ≡ true → s.room ≡ 0 → runs (Atom ∷ k) s ≡ deep_at s
atom-deep s k o z = atom-deep-kind s k (next_kind s.rest) refl o z

not-atom : (c : TokenKind) (room : ℕ) (k : List Symbol) → begins_atom c ≡ false → on_atom c room k ≡ stops
not-atom (token.Name b) room k e = absurd (true≢false e)
not-atom token.ConstName room k e = absurd (true≢false e)
not-atom token.Hole room k e = absurd (true≢false e)
not-atom token.UnitSign room k e = absurd (true≢false e)
not-atom token.Less room k e = absurd (true≢false e)
not-atom token.LeftBrace room k e = absurd (true≢false e)
not-atom token.LeftParen room k e = absurd (true≢false e)
not-atom token.Proj1 room k e = absurd (true≢false e)
not-atom token.Proj2 room k e = absurd (true≢false e)
not-atom _ room k e = refl

pub atom-stops : (s : State) (k : List Symbol) → Ends begins_atom s → runs (Atom ∷ k) s ≡ stops_at s
atom-stops s k e = stops-kinds s (Atom ∷ k) refl (λ t g. not-atom t.kind s.room k (ap begins_atom g ∙ e))

-- objects and applications

pub object-lambda : {s u : State} → Opens token.Backslash s u → (k : List Symbol) → runs (Object ∷ k) s ≡ runs (Mark ∷ Binder ∷ Expect token.Stop ∷ Object ∷ k) u
object-lambda h k = opens-run h (Object ∷ k) (Mark ∷ Binder ∷ Expect token.Stop ∷ Object ∷ k) (λ t e. rw e refl)

pub object-deep : (s : State) (k : List Symbol) → next_kind s.rest ≡ token.Backslash → s.room ≡ 0 → runs (Object ∷ k) s ≡ deep_at s
object-deep s k e z = deep-run s token.Backslash (Object ∷ k) (Mark ∷ Binder ∷ Expect token.Stop ∷ Object ∷ k) e refl z (λ t e. rw e refl)

no-lambda : (c : TokenKind) (room : ℕ) (k : List Symbol) → (c ≡ token.Backslash → ⊥) → on_object c room k ≡ on_atom c room (Arguments ∷ k)
no-lambda token.Backslash room k n = absurd (n refl)
no-lambda _ room k n = refl

pub object-application : (s : State) (k : List Symbol) → (next_kind s.rest ≡ token.Backslash → ⊥) → runs (Object ∷ k) s ≡ runs (Application ∷ k) s
object-application s k n = same-kinds s (Object ∷ k) (Application ∷ k) refl (λ t g. no-lambda t.kind s.room k (λ i. n (sym g ∙ i)))

pub application-atom : (s : State) (k : List Symbol) → runs (Application ∷ k) s ≡ runs (Atom ∷ Arguments ∷ k) s
application-atom s k = same-kinds s (Application ∷ k) (Atom ∷ Arguments ∷ k) refl (λ t g. refl)

pub arguments-more : (s : State) (k : List Symbol) → begins_argument (next_kind s.rest) ≡ true → runs (Arguments ∷ k) s ≡ runs (Mark ∷ Atom ∷ Arguments ∷ k) s
arguments-more s k b = some-kinds s (Arguments ∷ k) (Mark ∷ Atom ∷ Arguments ∷ k) begins_argument refl b (λ t e. rw e refl)

pub arguments-end : (s : State) (k : List Symbol) → Ends begins_argument s → runs (Arguments ∷ k) s ≡ runs k s
arguments-end s k h = same-kinds s (Arguments ∷ k) k refl (λ t e. let f : begins_argument t.kind ≡ false = ap begins_argument e ∙ h in rw f refl)

-- expressions and tuples

pub expression-let : {s u : State} → Takes token.KwLet s u → (k : List Symbol)
    → runs (Expression ∷ k) s ≡ runs (LetPattern ∷ Expect token.Equals ∷ Application ∷ Expect token.KwIn ∷ Expression ∷ k) u
expression-let h k = takes-run h (Expression ∷ k) (LetPattern ∷ Expect token.Equals ∷ Application ∷ Expect token.KwIn ∷ Expression ∷ k) (λ t e. rw e refl)

pub expression-tuple : (s : State) (k : List Symbol) → Ends is_let s → runs (Expression ∷ k) s ≡ runs (Tuple ∷ k) s
expression-tuple s k h = same-kinds s (Expression ∷ k) (Tuple ∷ k) refl (λ t e. let f : is_let t.kind ≡ false = ap is_let e ∙ h in rw f refl)

pub let-opens : {s u : State} → Opens token.LeftBrace s u → (k : List Symbol) → runs (LetPattern ∷ k) s ≡ runs (Pattern ∷ Close token.RightBrace s.room ∷ k) u
let-opens {s} h k = opens-run h (LetPattern ∷ k) (Pattern ∷ Close token.RightBrace s.room ∷ k) (λ t e. rw e refl)

pub let-deep : (s : State) (k : List Symbol) → next_kind s.rest ≡ token.LeftBrace → s.room ≡ 0 → runs (LetPattern ∷ k) s ≡ deep_at s
let-deep s k e z = deep-run s token.LeftBrace (LetPattern ∷ k) (Pattern ∷ Close token.RightBrace s.room ∷ k) e refl z (λ t e. rw e refl)

not-brace : (c : TokenKind) (room : ℕ) (k : List Symbol) → (c ≡ token.LeftBrace → ⊥) → on_let_pattern c room k ≡ stops
not-brace token.LeftBrace room k n = absurd (n refl)
not-brace _ room k n = refl

pub let-stops : (s : State) (k : List Symbol) → (next_kind s.rest ≡ token.LeftBrace → ⊥) → runs (LetPattern ∷ k) s ≡ stops_at s
let-stops s k n = stops-kinds s (LetPattern ∷ k) refl (λ t g. not-brace t.kind s.room k (λ i. n (sym g ∙ i)))

pub tuple-one : {s u : State} → TakesOne s u → (k : List Symbol) → runs (Tuple ∷ k) s ≡ runs k u
tuple-one h k = token-taken h.taken (Tuple ∷ k) k (let e = one-is h in rw e refl)

pub tuple-opens : {s u : State} → Opens token.LeftBracket s u → (k : List Symbol) → runs (Tuple ∷ k) s ≡ runs (Tuple ∷ TupleTail ∷ Close token.RightBracket s.room ∷ k) u
tuple-opens {s} h k = opens-run h (Tuple ∷ k) (Tuple ∷ TupleTail ∷ Close token.RightBracket s.room ∷ k) (λ t e. rw e refl)

pub tuple-deep : (s : State) (k : List Symbol) → next_kind s.rest ≡ token.LeftBracket → s.room ≡ 0 → runs (Tuple ∷ k) s ≡ deep_at s
tuple-deep s k e z = deep-run s token.LeftBracket (Tuple ∷ k) (Tuple ∷ TupleTail ∷ Close token.RightBracket s.room ∷ k) e refl z (λ t e. rw e refl)

pub tuple-persistent : {s u : State} → Takes token.Bang s u → (k : List Symbol) → runs (Tuple ∷ k) s ≡ runs (Atom ∷ k) u
tuple-persistent h k = takes-run h (Tuple ∷ k) (Atom ∷ k) (λ t e. rw e refl)

pub tuple-affine : {s u : State} → Takes token.AtSign s u → (k : List Symbol) → runs (Tuple ∷ k) s ≡ runs (Atom ∷ k) u
tuple-affine h k = takes-run h (Tuple ∷ k) (Atom ∷ k) (λ t e. rw e refl)

pub tuple-object : (s : State) (k : List Symbol) → NotOne s → Ends is_left_bracket s → Ends is_mark s → runs (Tuple ∷ k) s ≡ runs (Object ∷ k) s
tuple-object s k n e m = same-run s (Tuple ∷ k) (Object ∷ k) refl
    (λ t us h. let f = n t us h in let i : next_kind s.rest ≡ t.kind = ap next_kind h in
    let g : is_left_bracket t.kind ≡ false = ap is_left_bracket (sym i) ∙ e in let o : is_mark t.kind ≡ false = ap is_mark (sym i) ∙ m in rw (f, g, o) refl)

pub tuple_tail-more : {s u : State} → Takes token.Comma s u → (k : List Symbol) → runs (TupleTail ∷ k) s ≡ runs (Tuple ∷ TupleTail ∷ k) u
tuple_tail-more h k = takes-run h (TupleTail ∷ k) (Tuple ∷ TupleTail ∷ k) (λ t e. rw e refl)

pub tuple_tail-ends : (s : State) (k : List Symbol) → Ends is_comma s → runs (TupleTail ∷ k) s ≡ runs k s
tuple_tail-ends s k h = same-kinds s (TupleTail ∷ k) k refl (λ t e. let f : is_comma t.kind ≡ false = ap is_comma e ∙ h in rw f refl)

-- indices

pub index-banged : {s u : State} → Takes token.Bang s u → (k : List Symbol) → runs (Index ∷ k) s ≡ runs (Atom ∷ k) u
index-banged h k = takes-run h (Index ∷ k) (Atom ∷ k) (λ t e. rw e refl)

no-bang : (c : TokenKind) → (c ≡ token.Bang → ⊥) → is_bang c ≡ false
no-bang token.Bang n = absurd (n refl)
no-bang _ n = refl

pub index-atom : (s : State) (k : List Symbol) → (next_kind s.rest ≡ token.Bang → ⊥) → runs (Index ∷ k) s ≡ runs (Atom ∷ k) s
index-atom s k n = same-kinds s (Index ∷ k) (Atom ∷ k) refl (λ t g. let f = no-bang t.kind (λ i. n (sym g ∙ i)) in rw f refl)

pub indices-more : (s : State) (k : List Symbol) → begins_index (next_kind s.rest) ≡ true → runs (Indices ∷ k) s ≡ runs (Index ∷ Indices ∷ k) s
indices-more s k b = some-kinds s (Indices ∷ k) (Index ∷ Indices ∷ k) begins_index refl b (λ t e. rw e refl)

pub indices-end : (s : State) (k : List Symbol) → Ends begins_index s → runs (Indices ∷ k) s ≡ runs k s
indices-end s k h = same-kinds s (Indices ∷ k) k refl (λ t e. let f : begins_index t.kind ≡ false = ap begins_index e ∙ h in rw f refl)

-- the first tokens of a family's name
abbrev pub begins_family : TokenKind → Bool
begins_family (token.Name c) = true
begins_family token.ConstName = true
begins_family _ = false

pub family-name : {n : List ℕ} {s u : State} → TakesName s n u → (k : List Symbol) → runs (FamilyName ∷ k) s ≡ runs k u
family-name {s = s} h k = token-taken h.taken (FamilyName ∷ k) k (ap (λ c. on_family_name c s.room k) h.kind)

pub family-constant : {n : List ℕ} {s u : State} → TakesConstant s n u → (k : List Symbol) → runs (FamilyName ∷ k) s ≡ runs k u
family-constant {s = s} h k = token-taken h.taken (FamilyName ∷ k) k (ap (λ c. on_family_name c s.room k) h.kind)

not-family : (c : TokenKind) (room : ℕ) (k : List Symbol) → begins_family c ≡ false → on_family_name c room k ≡ stops
not-family (token.Name b) room k e = absurd (true≢false e)
not-family token.ConstName room k e = absurd (true≢false e)
not-family _ room k e = refl

pub family-stops : (s : State) (k : List Symbol) → Ends begins_family s → runs (FamilyName ∷ k) s ≡ stops_at s
family-stops s k e = stops-kinds s (FamilyName ∷ k) refl (λ t g. not-family t.kind s.room k (ap begins_family g ∙ e))

pub ruleset atom_runs = (atom-name, atom-constant, atom-hole, atom-unit, atom-pair, atom-braces, atom-group, atom-first, atom-second, atom-deep, atom-stops)

pub ruleset object_runs = (object-lambda, object-deep, object-application, application-atom, arguments-more, arguments-end)

pub ruleset tuple_runs = (expression-let, expression-tuple, let-opens, let-deep, let-stops, tuple-one, tuple-opens, tuple-deep, tuple-persistent, tuple-affine, tuple-object, tuple_tail-more, tuple_tail-ends)

pub ruleset index_runs = (index-banged, index-atom, indices-more, indices-end, family-name, family-constant, family-stops)
