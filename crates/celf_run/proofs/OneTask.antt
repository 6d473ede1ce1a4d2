-- What comes next in a text is one task, and nothing where only blanks and comments are left.
use Rattle.std.proofs.Common.{ℕ, ◌≡◌, ◌≢◌, ◌+◌, refl, sym, ap, ◌∙◌, subst, List, [], ◌∷◌, ◌++◌, length, drop, arith, Result, Ok, Err}
use Rattle.std.proofs.lemmas.List.{drop_all, length-drop}
use Rattle.celf_lexer.specs.declared.token.TokenKind.TheVariants.{End, Directive as DirectiveWord}
use Rattle.celf_lexer.specs.declared.token.Token.{Token}
use Rattle.celf_lexer.specs.declared.token.LexFault.{LexFault}
use Rattle.celf_lexer.specs.Gap.{gap}
use Rattle.celf_lexer.specs.Sign.{front}
use Rattle.celf_lexer.specs.Tokens.{Lexeme, placed, first_of, lexeme_of, tokens_from}
use Rattle.celf_lexer.proofs.Tokens.{tokens_from-ok}
use Rattle.celf_surface.specs.Surface.{WrittenItem}
use Rattle.celf_grammar.specs.State.{State}
use Rattle.celf_grammar.specs.Machine.{Item, Verdict, accepted, unexpected, too_deep, lacking, runs}
use Rattle.celf_grammar.specs.Faults.{BeginsItem, IsUnexpected, Says}
use Rattle.celf_grammar.proofs.Verdicts.{verdict-only}
use Rattle.celf_grammar.proofs.OneItem.{tree-one}
use Rattle.celf_parser.specs.declared.fault.SyntaxFault.{SyntaxFault}
use Rattle.celf_parser.specs.declared.fault.SyntaxFault.TheVariants.{Lex, Unexpected, Directive, TooDeep, NoMemory}
use Rattle.celf_parser.specs.Place.{nesting, start_at, IsItemAt, HasWordFault, here, further, span_of, Stands, BeginsDirective, IsFaultAt}
use Rattle.celf_run.specs.Source.{Source, written, faulty, syntax_refusal, next_item, next_fault}
use Rattle.celf_run.specs.Laws.{NextIsOne, NothingIsNext}

word-fault-one : (text : List ℕ) (at : ℕ) (f g : LexFault) → HasWordFault text at f → HasWordFault text at g → f ≡ g
word-fault-one text at f g (here e) (here d) = let same : ◌≡◌ {A = Result Token LexFault} (Err f) (Err g) = sym e ∙ d in cc
word-fault-one text at f g (here e) (further {t = t} d k h) = let same : ◌≡◌ {A = Result Token LexFault} (Err f) (Ok t) = sym e ∙ d in absurd (cc)
word-fault-one text at f g (further {t = t} d k h) (here e) = let same : ◌≡◌ {A = Result Token LexFault} (Err g) (Ok t) = sym e ∙ d in absurd (cc)
word-fault-one text at f g (further {t = t} d k h) (further {t = u} e l i) =
    let same : ◌≡◌ {A = Result Token LexFault} (Ok t) (Ok u) = sym d ∙ e in
    let t_is : t ≡ u = cc in
    word-fault-one text t.end f g h (subst (λ (v : Token). HasWordFault text v.end g) (sym t_is) i)

-- What is said of a state is said by one verdict.
verdict-one : (s : State) (v w : Verdict) → Says s v → Says s w → v ≡ w
verdict-one s v w x y = sym (verdict-only s v x) ∙ verdict-only s w y

same-token : (t u : Lexeme) → unexpected t ≡ unexpected u → t ≡ u
same-token t u e = cc

same-deep : (t u : Lexeme) → too_deep t ≡ too_deep u → t ≡ u
same-deep t u e = cc

-- A # word that begins what stands there is no other unexpected token.
directive-alone : (text : List ℕ) (at : ℕ) (before : List Lexeme) (t u : Lexeme) → Stands text at before t → IsUnexpected nesting before t → (BeginsDirective before t → ⊥)
    → Stands text at [] u → IsUnexpected nesting [] u → u.kind ≡ DirectiveWord → t ≡ u → ⊥
directive-alone text at [] t u st un nd su vn kind is = nd (refl, ap (λ (x : Lexeme). x.kind) is ∙ kind)
directive-alone text at (x ∷ xs) t u st un nd su vn kind is =
    let first : ◌≡◌ {A = List Lexeme} (x ∷ (xs ++ (t ∷ st.others))) (u ∷ su.others) = sym st.is ∙ su.is in
    let x_is : x ≡ u = cc in
    let begun : BeginsItem un.begins.0 (u ∷ xs) = subst (λ (y : Lexeme). BeginsItem un.begins.0 (y ∷ xs)) x_is un.begins.1 in
    vn.ends un.begins.0 (xs ++ begun.0, begun.1)

fault-one : (text : List ℕ) (at : ℕ) (f g : SyntaxFault) → IsFaultAt text at f → IsFaultAt text at g → f ≡ g
fault-one text at (Lex f) (Lex g) (h, l) (k, m) = ap Lex (word-fault-one text at f g h k)
fault-one text at (Lex f) (Unexpected s) (h, l) (b, t, st, un, is, nd, x) = let e = verdict-one (start_at text at) lacking (unexpected t) l (b, st.others, st.is, un) in absurd (cc)
fault-one text at (Lex f) (Directive s) (h, l) (t, st, un, is, kind) = let e = verdict-one (start_at text at) lacking (unexpected t) l ([], st.others, st.is, un) in absurd (cc)
fault-one text at (Lex f) (TooDeep s) (h, l) (b, t, st, un, x) = let e = verdict-one (start_at text at) lacking (too_deep t) l (b, st.others, st.is, un) in absurd (cc)
fault-one text at (Unexpected s) (Lex f) (b, t, st, un, is, nd, x) (h, l) = let e = verdict-one (start_at text at) lacking (unexpected t) l (b, st.others, st.is, un) in absurd (cc)
fault-one text at (Unexpected s) (Unexpected r) (b, t, st, un, is, me, x) (c, u, su, vn, js, mf, y) =
    let same = same-token t u (verdict-one (start_at text at) (unexpected t) (unexpected u) (b, st.others, st.is, un) (c, su.others, su.is, vn)) in
    ap Unexpected (is ∙ ap span_of same ∙ sym js)
fault-one text at (Unexpected s) (Directive r) (b, t, st, un, is, nd, x) (u, su, vn, js, kind) =
    let same = same-token t u (verdict-one (start_at text at) (unexpected t) (unexpected u) (b, st.others, st.is, un) ([], su.others, su.is, vn)) in
    absurd (directive-alone text at b t u st un nd su vn kind same)
fault-one text at (Unexpected s) (TooDeep r) (b, t, st, un, is, nd, x) (c, u, su, vn, y) =
    let e = verdict-one (start_at text at) (unexpected t) (too_deep u) (b, st.others, st.is, un) (c, su.others, su.is, vn) in absurd (cc)
fault-one text at (Directive s) (Lex f) (t, st, un, is, kind) (h, l) = let e = verdict-one (start_at text at) lacking (unexpected t) l ([], st.others, st.is, un) in absurd (cc)
fault-one text at (Directive s) (Unexpected r) (u, su, vn, js, kind) (b, t, st, un, is, nd, x) =
    let same = same-token t u (verdict-one (start_at text at) (unexpected t) (unexpected u) (b, st.others, st.is, un) ([], su.others, su.is, vn)) in
    absurd (directive-alone text at b t u st un nd su vn kind same)
fault-one text at (Directive s) (Directive r) (t, st, un, is, x) (u, su, vn, js, y) =
    let same = same-token t u (verdict-one (start_at text at) (unexpected t) (unexpected u) ([], st.others, st.is, un) ([], su.others, su.is, vn)) in
    ap Directive (is ∙ ap span_of same ∙ sym js)
fault-one text at (Directive s) (TooDeep r) (t, st, un, is, kind) (c, u, su, vn, y) =
    let e = verdict-one (start_at text at) (unexpected t) (too_deep u) ([], st.others, st.is, un) (c, su.others, su.is, vn) in absurd (cc)
fault-one text at (TooDeep s) (Lex f) (b, t, st, un, x) (h, l) = let e = verdict-one (start_at text at) lacking (too_deep t) l (b, st.others, st.is, un) in absurd (cc)
fault-one text at (TooDeep s) (Unexpected r) (c, u, su, vn, y) (b, t, st, un, is, nd, x) =
    let e = verdict-one (start_at text at) (unexpected t) (too_deep u) (b, st.others, st.is, un) (c, su.others, su.is, vn) in absurd (cc)
fault-one text at (TooDeep s) (Directive r) (c, u, su, vn, y) (t, st, un, is, kind) =
    let e = verdict-one (start_at text at) (unexpected t) (too_deep u) ([], st.others, st.is, un) (c, su.others, su.is, vn) in absurd (cc)
fault-one text at (TooDeep s) (TooDeep r) (b, t, st, un, is) (c, u, su, vn, js) =
    let same = same-deep t u (verdict-one (start_at text at) (too_deep t) (too_deep u) (b, st.others, st.is, un) (c, su.others, su.is, vn)) in
    ap TooDeep (is ∙ ap span_of same ∙ sym js)
fault-one text at NoMemory g x y = absurd x
fault-one text at (Lex f) NoMemory x y = absurd y
fault-one text at (Unexpected s) NoMemory x y = absurd y
fault-one text at (Directive s) NoMemory x y = absurd y
fault-one text at (TooDeep s) NoMemory x y = absurd y

-- what a fault says of the tokens
fault-verdict : (text : List ℕ) (at : ℕ) (f : SyntaxFault) → IsFaultAt text at f → (v : Verdict) × Says (start_at text at) v × ((u : State) → v ≢ accepted u)
fault-verdict text at (Lex f) (h, l) = (lacking, l, (λ u e. absurd (cc)))
fault-verdict text at (Unexpected s) (b, t, st, un, is, nd, x) = (unexpected t, (b, st.others, st.is, un), (λ u e. absurd (cc)))
fault-verdict text at (Directive s) (t, st, un, is, kind) = (unexpected t, ([], st.others, st.is, un), (λ u e. absurd (cc)))
fault-verdict text at (TooDeep s) (b, t, st, un, x) = (too_deep t, (b, st.others, st.is, un), (λ u e. absurd (cc)))
fault-verdict text at NoMemory x = absurd x

item-no-fault : (text : List ℕ) (at : ℕ) (item : WrittenItem) (f : SyntaxFault) → IsItemAt text at item → IsFaultAt text at f → ⊥
item-no-fault text at item f i x =
    let v = fault-verdict text at f x in
    v.2 i.behind (verdict-one (start_at text at) v.0 (accepted i.behind) v.1 (item, i.parsed))

behind-item : (text : List ℕ) (i j : WrittenItem) → i ≡ j → (written i ≡ written j) × (◌≡◌ {A = Source} (record { text = text; at = i.span.end }) (record { text = text; at = j.span.end }))
behind-item text i j e = (ap written e, ap (λ (k : WrittenItem). record { text = text; at = k.span.end }) e)

pub next_is_one : NextIsOne
next_is_one source behind other task also (next_item {item = item} i) (next_item {item = j} k) =
    behind-item source.text item j (tree-one (start_at source.text source.at) i.behind k.behind item j i.parsed k.parsed)
next_is_one source behind other task also (next_item {item = item} i) (next_fault fault x) = absurd (item-no-fault source.text source.at item fault i x)
next_is_one source behind other task also (next_fault fault x) (next_item {item = item} i) = absurd (item-no-fault source.text source.at item fault i x)
next_is_one source behind other task also (next_fault fault x) (next_fault f y) =
    (ap (λ g. faulty (syntax_refusal source.text g)) (fault-one source.text source.at fault f x y), refl)

-- ---- the end

nothing-left : (text : List ℕ) (at : ℕ) → at + gap (drop at text) ≡ length text → drop (gap (drop at text)) (drop at text) ≡ []
nothing-left text at e = drop_all (gap (drop at text)) (drop at text) (omega (arith, length-drop at text, e))

end-token : ℕ → Token
end-token at = record { kind = End; start = at; end = at + 0 }

first-end : (at : ℕ) (bytes : List ℕ) → drop (gap bytes) bytes ≡ [] → first_of at bytes ≡ Ok (end-token (at + gap bytes))
unfolding first_of front end-token
first-end at bytes e = ap (λ bs. placed (at + gap bytes) (front bs)) e

-- the token of the end
last-lexeme : List ℕ → ℕ → Lexeme
last-lexeme text at = lexeme_of text (end-token (at + gap (drop at text)))

tokens-end : (text : List ℕ) (at : ℕ) → at + gap (drop at text) ≡ length text → tokens_from text at ≡ last-lexeme text at ∷ []
unfolding last-lexeme end-token
tokens-end text at e = tokens_from-ok text at (end-token (at + gap (drop at text))) (first-end at (drop at text) (nothing-left text at e))

runs-end : (t : Lexeme) (s : State) → s.rest ≡ t ∷ [] → t.kind ≡ End → runs (Item ∷ []) s ≡ unexpected t
unfolding runs
runs-end t s e k = rw (e, k) refl

-- Of the last token nothing but that it is unexpected is said.
end-verdict : (text : List ℕ) (at : ℕ) (v : Verdict) → at + gap (drop at text) ≡ length text → Says (start_at text at) v → unexpected (last-lexeme text at) ≡ v
unfolding last-lexeme end-token
end-verdict text at v e x = sym (runs-end (last-lexeme text at) (start_at text at) (tokens-end text at e) refl) ∙ verdict-only (start_at text at) v x

no-tokens-before : (before others : List Lexeme) (t u : Lexeme) → u ∷ [] ≡ before ++ (t ∷ others) → before ≡ []
no-tokens-before [] others t u e = refl
no-tokens-before (x ∷ []) others t u e = absurd (cc)
no-tokens-before (x ∷ y ∷ ys) others t u e = absurd (cc)

nothing-fault : (text : List ℕ) (at : ℕ) (f : SyntaxFault) → at + gap (drop at text) ≡ length text → IsFaultAt text at f → ⊥
unfolding last-lexeme end-token
nothing-fault text at (Lex f) e (h, l) = let v = end-verdict text at lacking e l in absurd (cc)
nothing-fault text at (Unexpected s) e (b, t, st, un, is, nd, ne) =
    let same = same-token (last-lexeme text at) t (end-verdict text at (unexpected t) e (b, st.others, st.is, un)) in
    ne (no-tokens-before b st.others t (last-lexeme text at) (sym (tokens-end text at e) ∙ st.is)) (ap (λ (x : Lexeme). x.kind) (sym same))
nothing-fault text at (Directive s) e (t, st, un, is, kind) =
    let same = same-token (last-lexeme text at) t (end-verdict text at (unexpected t) e ([], st.others, st.is, un)) in
    let wrong : End ≡ DirectiveWord = ap (λ (x : Lexeme). x.kind) same ∙ kind in absurd (cc)
nothing-fault text at (TooDeep s) e (b, t, st, un, x) = let v = end-verdict text at (too_deep t) e (b, st.others, st.is, un) in absurd (cc)
nothing-fault text at NoMemory e x = x

pub nothing_is_next : NothingIsNext
nothing_is_next source behind task over (next_item {item = item} i) =
    let v = end-verdict source.text source.at (accepted i.behind) over (item, i.parsed) in absurd (cc)
nothing_is_next source behind task over (next_fault fault x) = nothing-fault source.text source.at fault over x
