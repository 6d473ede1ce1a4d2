-- What a run does at one token.
use Rattle.std.proofs.Common.{◌≡◌, ◌<◌, ◌-◌, ℕ, zero, suc, List, [], ◌∷◌, Bool, true, false, refl, sym, ap, ◌∙◌, arith}
use Rattle.std.proofs.lemmas.Bool.{true≢false}
use Rattle.celf_lexer.specs.declared.token.TokenKind.{TokenKind}
use Rattle.celf_lexer.specs.declared.token.TokenKind.TheVariants.{End}
use Rattle.celf_lexer.specs.Tokens.{Lexeme, is_end}
use Rattle.celf_grammar.specs.State.{State, next_kind, TakesToken, Takes, Opens}
use Rattle.celf_grammar.specs.Machine.{Symbol, next, stops, deep, opens, feed, accepted, lacking, at_end, after_token, runs_on, runs, stops_on, stops_at, deep_on, deep_at}

-- Nothing more to read accepts.
accepts-on : (ts : List Lexeme) (room end : ℕ) → runs_on ts [] room end ≡ accepted (record { rest = ts; room = room; end = end })
accepts-on [] room end = refl
accepts-on (t ∷ ts) room end = refl

pub runs-empty : (s : State) → runs [] s ≡ accepted s
unfolding runs
runs-empty s = accepts-on s.rest s.room s.end

pub room-opens : (room : ℕ) (k : List Symbol) → 0 < room → opens room k ≡ next k (room - 1)
room-opens zero k h = absurd (omega arith)
room-opens (suc n) k h = let e : suc n - 1 ≡ n = omega arith in rw e refl

-- A token is taken.
pub token-taken : {left : ℕ} {t : Lexeme} {s u : State} → TakesToken left t s u → (j k : List Symbol) → feed j s.room t ≡ next k left → runs j s ≡ runs k u
unfolding runs
token-taken {left} {t} {s} {u} h j k e = rw (h.first, h.room, h.behind) (ap (after_token t u.rest (runs_on u.rest) s.end) e)

pub takes-run : {c : TokenKind} {s u : State} → Takes c s u → (j k : List Symbol) → ((t : Lexeme) → t.kind ≡ c → feed j s.room t ≡ next k s.room) → runs j s ≡ runs k u
takes-run h j k e = token-taken h.taken j k (e h.token h.kind)

pub opens-run : {c : TokenKind} {s u : State} → Opens c s u → (j k : List Symbol) → ((t : Lexeme) → t.kind ≡ c → feed j s.room t ≡ opens s.room k) → runs j s ≡ runs k u
opens-run {s = s} h j k e = token-taken h.taken j k (e h.token h.kind ∙ room-opens s.room k h.opened)

-- Two lists of symbols with which each next token goes on alike.
same-on : (ts : List Lexeme) (j k : List Symbol) (room end : ℕ) → at_end j room end ≡ at_end k room end
    → ((t : Lexeme) (us : List Lexeme) → ts ≡ t ∷ us → feed j room t ≡ feed k room t) → runs_on ts j room end ≡ runs_on ts k room end
same-on [] j k room end e f = e
same-on (t ∷ ts) j k room end e f = ap (after_token t ts (runs_on ts) end) (f t ts refl)

pub same-run : (s : State) (j k : List Symbol) → at_end j s.room s.end ≡ at_end k s.room s.end
    → ((t : Lexeme) (us : List Lexeme) → s.rest ≡ t ∷ us → feed j s.room t ≡ feed k s.room t) → runs j s ≡ runs k s
unfolding runs
same-run s j k e f = same-on s.rest j k s.room s.end e f

-- the same by the kind of the next token alone
pub same-kinds : (s : State) (j k : List Symbol) → at_end j s.room s.end ≡ at_end k s.room s.end
    → ((t : Lexeme) → t.kind ≡ next_kind s.rest → feed j s.room t ≡ feed k s.room t) → runs j s ≡ runs k s
same-kinds s j k e f = same-run s j k e (λ t us h. f t (sym (ap next_kind h)))

some-on : (ts : List Lexeme) (j k : List Symbol) (room end : ℕ) (kinds : TokenKind → Bool) → kinds End ≡ false → kinds (next_kind ts) ≡ true
    → ((t : Lexeme) → kinds t.kind ≡ true → feed j room t ≡ feed k room t) → runs_on ts j room end ≡ runs_on ts k room end
some-on [] j k room end kinds n e f = absurd (true≢false (sym e ∙ n))
some-on (t ∷ ts) j k room end kinds n e f = ap (after_token t ts (runs_on ts) end) (f t e)

-- Two lists of symbols with which a next token of these kinds goes on alike.
pub some-kinds : (s : State) (j k : List Symbol) (kinds : TokenKind → Bool) → kinds End ≡ false → kinds (next_kind s.rest) ≡ true
    → ((t : Lexeme) → kinds t.kind ≡ true → feed j s.room t ≡ feed k s.room t) → runs j s ≡ runs k s
unfolding runs
some-kinds s j k kinds n e f = some-on s.rest j k s.room s.end kinds n e f

stops-run-on : (ts : List Lexeme) (j : List Symbol) (room end : ℕ) → at_end j room end ≡ lacking
    → ((t : Lexeme) (us : List Lexeme) → ts ≡ t ∷ us → feed j room t ≡ stops) → runs_on ts j room end ≡ stops_on ts
stops-run-on [] j room end e f = e
stops-run-on (t ∷ ts) j room end e f = ap (after_token t ts (runs_on ts) end) (f t ts refl)

-- Nothing goes on with the next token.
pub stops-run : (s : State) (j : List Symbol) → at_end j s.room s.end ≡ lacking
    → ((t : Lexeme) (us : List Lexeme) → s.rest ≡ t ∷ us → feed j s.room t ≡ stops) → runs j s ≡ stops_at s
unfolding runs stops_at
stops-run s j e f = stops-run-on s.rest j s.room s.end e f

pub stops-kinds : (s : State) (j : List Symbol) → at_end j s.room s.end ≡ lacking
    → ((t : Lexeme) → t.kind ≡ next_kind s.rest → feed j s.room t ≡ stops) → runs j s ≡ stops_at s
stops-kinds s j e f = stops-run s j e (λ t us h. f t (sym (ap next_kind h)))

deep-run-on : (ts : List Lexeme) (c : TokenKind) (j : List Symbol) (room end : ℕ) → next_kind ts ≡ c → is_end c ≡ false
    → ((t : Lexeme) → t.kind ≡ c → feed j room t ≡ deep) → runs_on ts j room end ≡ deep_on ts
deep-run-on [] c j room end e n f = absurd (true≢false (ap is_end e ∙ n))
deep-run-on (t ∷ ts) c j room end e n f = ap (after_token t ts (runs_on ts) end) (f t e)

-- There is no room for the part that the next token opens.
pub deep-run : (s : State) (c : TokenKind) (j k : List Symbol) → next_kind s.rest ≡ c → is_end c ≡ false → s.room ≡ 0
    → ((t : Lexeme) → t.kind ≡ c → feed j s.room t ≡ opens s.room k) → runs j s ≡ deep_at s
unfolding runs deep_at
deep-run s c j k e n z f = deep-run-on s.rest c j s.room s.end e n (λ t h. f t h ∙ ap (λ r. opens r k) z)
