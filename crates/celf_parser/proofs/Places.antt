-- From what the machine comes to, to the place of a fault in the text.
use Rattle.std.proofs.Common.{◌≡◌, ◌≢◌, ◌≤◌, ◌+◌, ℕ, List, [], ◌∷◌, ◌++◌, Bool, true, false, length, codes, refl, sym, ap, subst, ◌∙◌, arith, Result, Ok, Err}
use Rattle.std.proofs.lemmas.Bool.{false_from_ne_true}
use Rattle.std.proofs.lemmas.Grind.{common_steps}
use Rattle.std.proofs.lemmas.Slice.Eq.{bytes_eq-Decides}
use Rattle.std.specs.Str.{bytes_eq}
use Rattle.celf_lexer.specs.declared.token.TokenKind.{TokenKind}
use Rattle.celf_lexer.specs.declared.token.TokenKind.TheVariants as token
use Rattle.celf_lexer.specs.declared.token.Token.{Token}
use Rattle.celf_lexer.specs.declared.token.LexFault.{LexFault}
use Rattle.celf_lexer.specs.Tokens.{Lexeme, next_token, tokens_from, tokens_after, lexeme_of, is_end}
use Rattle.celf_lexer.proofs.Tokens.{tokens_from-ok, tokens_from-err, next_token-stands, next_token-fault, StandsWithin}
use Rattle.celf_grammar.specs.State.{State, next_kind}
use Rattle.celf_grammar.specs.Machine.{Symbol, Item, Expect, accepted, lacking, runs_on, runs, stops_at}
use Rattle.celf_grammar.specs.Faults.{BeginsItem, IsUnexpected, Says}
use Rattle.celf_grammar.proofs.TypeRuns.{NotDirective, body-unknown, item-body}
use Rattle.celf_grammar.proofs.Derives.{item-derives}
use Rattle.celf_grammar.proofs.Verdicts.{verdict-true}
use Rattle.celf_cursor.specs.declared.cursor.Cursor.{Cursor}
use Rattle.celf_cursor.specs.Cursor.{state_of, IsCursorOf}
use Rattle.celf_cursor.specs.declared.stop.Stop.{Stop}
use Rattle.celf_cursor.specs.Faults.{end_of, last_end, IsFaultOf, fault_unexpected, fault_deep, fault_lacking, fault_memory}
use Rattle.celf_parser.specs.declared.fault.SyntaxFault.{SyntaxFault}
use Rattle.celf_parser.specs.declared.fault.SyntaxFault.TheVariants.{Lex, NoMemory}
use Rattle.celf_parser.specs.Fault.{fault_of, TakesKnown, takes_query, takes_trace, takes_equal, takes_check, IsUnknown, IsKnown, IsItemFault, fault_stop, fault_word}
use Rattle.celf_parser.specs.Place.{nesting, start_at, HasWordFault, here, further, IsFaultAt}

-- the first fault of words

head-is : (t s : Lexeme) (us vs : List Lexeme) → t ∷ us ≡ s ∷ vs → t ≡ s
head-is t s us vs e = cc

tail-is : (t s : Lexeme) (us vs : List Lexeme) → t ∷ us ≡ s ∷ vs → us ≡ vs
tail-is t s us vs e = cc

no-tokens : (t : Lexeme) (us : List Lexeme) → [] ≡ t ∷ us → ⊥
no-tokens t us e = cc

first-token : (text : List ℕ) (at : ℕ) (r : Result Token LexFault) (t : Lexeme) (ts : List Lexeme) → next_token text at ≡ r → tokens_from text at ≡ t ∷ ts
    → (u : Token) × (next_token text at ≡ Ok u) × (lexeme_of text u ≡ t) × (tokens_after text u ≡ ts)
first-token text at (Ok u) t ts r e =
    let f = sym (tokens_from-ok text at u r) ∙ e in
    (u, r, head-is (lexeme_of text u) t (tokens_after text u) ts f, tail-is (lexeme_of text u) t (tokens_after text u) ts f)
first-token text at (Err f) t ts r e = absurd (no-tokens t ts (sym (tokens_from-err text at f r) ∙ e))

spelled-end : (text : List ℕ) (at : ℕ) (u : Token) → StandsWithin at (length text) u → u.start + length (lexeme_of text u).spelling ≡ u.end
spelled-end text at u s =
    let o = s.ordered in
    let w = s.within in
    grind (arith, common_steps)

no-fault-behind : (text : List ℕ) (f : LexFault) (at : ℕ) → at ≡ length text → next_token text at ≡ Err f → ⊥
no-fault-behind text f at e n = let b = next_token-fault text at f (omega arith) n in omega arith

-- the tokens after one that is not the end
after-from : (text : List ℕ) (u : Token) → is_end u.kind ≡ false → tokens_after text u ≡ tokens_from text u.end
after-from text u k = rw k refl

after-end : (text : List ℕ) (u : Token) → is_end u.kind ≡ true → tokens_after text u ≡ []
after-end text u k = rw k refl

word-further : (text : List ℕ) (at : ℕ) (u : Token) (f : LexFault) (b : Bool) → is_end u.kind ≡ b → next_token text at ≡ Ok u → StandsWithin at (length text) u
    → next_token text (end_of (tokens_after text u) u.end) ≡ Err f
    → (tokens_after text u ≡ tokens_from text u.end → HasWordFault text u.end f) → HasWordFault text at f
word-further text at u f true k n s g h =
    let l = after-end text u k in
    absurd (no-fault-behind text f u.end (s.at_end k).1 (ap (λ (ts : List Lexeme). next_token text (end_of ts u.end)) (sym l) ∙ g))
word-further text at u f false k n s g h = further n k (h (after-from text u k))

word-fault : (ts : List Lexeme) (text : List ℕ) (at : ℕ) (f : LexFault) → at ≤ length text → tokens_from text at ≡ ts → next_token text (end_of ts at) ≡ Err f → HasWordFault text at f
word-fault [] text at f h e n = here n
word-fault (t ∷ ts) text at f h e n =
    let p = first-token text at (next_token text at) t ts refl e in
    let u = p.0 in
    let s = next_token-stands text at u h p.1 in
    let l = ap (λ (x : Lexeme). x.start + length x.spelling) (sym p.2) ∙ spelled-end text at u s in
    let m : next_token text (end_of ts u.end) ≡ Err f = ap (λ (x : ℕ). next_token text (end_of ts x)) (sym l) ∙ n in
    let g = ap (λ (us : List Lexeme). next_token text (end_of us u.end)) p.3 ∙ m in
    word-further text at u f (is_end u.kind) refl p.1 s g (λ a. word-fault ts text u.end f s.within (sym a ∙ p.3) m)

-- Each of the four words begins an item.

sign : TokenKind → Lexeme
sign k = record { kind = k; start = 0; spelling = [] }

finished : State
finished = record { rest = []; room = 1; end = 0 }

begins-with : (t : Lexeme) (more : List Lexeme) → runs (Item ∷ []) (record { rest = t ∷ more; room = 1; end = 0 }) ≡ accepted finished → BeginsItem 1 (t ∷ [])
begins-with t more r = let d = item-derives (record { rest = t ∷ more; room = 1; end = 0 }) finished r in (more, record { end = 0; item = d.0; behind = finished; is = d.1 })

query-begins : (t : Lexeme) → t.kind ≡ token.Directive → t.spelling ≡ codes "#query" → BeginsItem 1 (t ∷ [])
unfolding runs sign finished
query-begins t k w =
    begins-with t (sign token.Star ∷ sign token.Star ∷ sign token.Star ∷ sign token.Star ∷ sign token.KwType ∷ sign token.Stop ∷ []) (rw (k, w) refl)

trace-begins : (t : Lexeme) → t.kind ≡ token.Directive → t.spelling ≡ codes "#trace" → BeginsItem 1 (t ∷ [])
unfolding runs sign finished
trace-begins t k w = begins-with t (sign token.Star ∷ sign token.KwType ∷ sign token.Stop ∷ []) (rw (k, w) refl)

equal-begins : (t : Lexeme) → t.kind ≡ token.Directive → t.spelling ≡ codes "#equal" → BeginsItem 1 (t ∷ [])
unfolding runs sign finished
equal-begins t k w =
    begins-with t (sign token.UnitSign ∷ sign token.Equals ∷ sign token.UnitSign ∷ sign token.Colon ∷ sign token.KwType ∷ sign token.Stop ∷ []) (rw (k, w) refl)

check-begins : (t : Lexeme) → t.kind ≡ token.Directive → t.spelling ≡ codes "#check" → BeginsItem 1 (t ∷ [])
unfolding runs sign finished
check-begins t k w = begins-with t (sign token.UnitSign ∷ sign token.Colon ∷ sign token.KwType ∷ sign token.Stop ∷ []) (rw (k, w) refl)

known-begins : {s u : State} → TakesKnown s u → (t : Lexeme) (ts : List Lexeme) → s.rest ≡ t ∷ ts → BeginsItem 1 (t ∷ [])
known-begins {u = u} (takes_query h) t ts e = subst (λ (x : Lexeme). BeginsItem 1 (x ∷ [])) (head-is h.token t u.rest ts (sym h.taken.first ∙ e)) (query-begins h.token h.kind h.spelled)
known-begins {u = u} (takes_trace h) t ts e = subst (λ (x : Lexeme). BeginsItem 1 (x ∷ [])) (head-is h.token t u.rest ts (sym h.taken.first ∙ e)) (trace-begins h.token h.kind h.spelled)
known-begins {u = u} (takes_equal h) t ts e = subst (λ (x : Lexeme). BeginsItem 1 (x ∷ [])) (head-is h.token t u.rest ts (sym h.taken.first ∙ e)) (equal-begins h.token h.kind h.spelled)
known-begins {u = u} (takes_check h) t ts e = subst (λ (x : Lexeme). BeginsItem 1 (x ∷ [])) (head-is h.token t u.rest ts (sym h.taken.first ∙ e)) (check-begins h.token h.kind h.spelled)

-- what the machine comes to at a place of the text, as a fault there
stop-place : (text : List ℕ) (at : ℕ) (e : Stop) → at ≤ length text → (next_kind (tokens_from text at) ≡ token.End → ⊥) → IsKnown (start_at text at)
    → IsFaultOf text (Item ∷ []) (start_at text at) e → fault_of e ≢ NoMemory → IsFaultAt text at (fault_of e)
unfolding last_end
stop-place text at e h b d (fault_unexpected {t = t} r) m =
    let says = subst (Says (start_at text at)) r (verdict-true (start_at text at)) in
    let first : says.0 ≡ [] → tokens_from text at ≡ t ∷ says.1 = λ n. says.2 ∙ ap (λ (ts : List Lexeme). ts ++ (t ∷ says.1)) n in
    let unexpected_first : says.0 ≡ [] → IsUnexpected nesting [] t = λ n. subst (λ (ts : List Lexeme). IsUnexpected nesting ts t) n says.3 in (
      says.0,
      t,
      record { others = says.1; is = says.2 },
      says.3,
      refl,
      (λ w. (unexpected_first w.0).ends 1 (known-begins (d (ap next_kind (first w.0) ∙ w.1)).1 t says.1 (first w.0))),
      (λ n k. b (ap next_kind (first n) ∙ k)),
    )
stop-place text at e h b d (fault_deep {t = t} r) m =
    let says = subst (Says (start_at text at)) r (verdict-true (start_at text at)) in
    (says.0, t, record { others = says.1; is = says.2 }, says.3, refl)
stop-place text at e h b d (fault_lacking {f = f} r n) m =
    (word-fault (tokens_from text at) text at f h refl n, subst (Says (start_at text at)) r (verdict-true (start_at text at)))
stop-place text at e h b d fault_memory m = absurd (m refl)

-- A # word that is no directive begins no item.

not-spelled : (word : List ℕ) (t : Lexeme) (room : ℕ) → t.spelling ≢ word → NotDirective word (record { rest = t ∷ []; room = room; end = 0 })
not-spelled word t room n u us e =
    let f : u.spelling ≡ t.spelling = ap (λ (x : Lexeme). x.spelling) (sym (head-is t u [] us e)) in
    false_from_ne_true (bytes_eq u.spelling word) (λ h. n (sym f ∙ (bytes_eq-Decides u.spelling word).0 h))

alone-is : (ts others : List Lexeme) (t : Lexeme) → t ∷ [] ≡ ts ++ (t ∷ others) → ts ≡ []
alone-is [] others t e = refl
alone-is (x ∷ []) others t e = cc
alone-is (x ∷ y ∷ ts) others t e = cc

unknown-unexpected : (t : Lexeme) → t.kind ≡ token.Directive → IsUnknown t.spelling → IsUnexpected nesting [] t
unfolding stops_at
unknown-unexpected t k w =
    let s : State = record { rest = t ∷ []; room = nesting; end = 0 } in
    let r = item-body s [] ∙ body-unknown s (Expect token.Stop ∷ []) k (not-spelled _ t nesting w.query) (not-spelled _ t nesting w.trace)
    (not-spelled _ t nesting w.equal) (not-spelled _ t nesting w.check) in
    let says = subst (Says s) r (verdict-true s) in
    subst (λ (ts : List Lexeme). IsUnexpected nesting ts t) (alone-is says.0 says.1 t says.2) says.3

pub item-place : (text : List ℕ) (at : ℕ) (f : SyntaxFault) → at ≤ length text → (next_kind (tokens_from text at) ≡ token.End → ⊥)
    → IsItemFault text (Item ∷ []) (start_at text at) f → f ≢ NoMemory → IsFaultAt text at f
item-place text at f h b (fault_stop {e = e} r d) m = stop-place text at e h b d r m
item-place text at f h b (fault_word {t = t} {ts = ts} e k w) m = (t, record { others = ts; is = e }, unknown-unexpected t k w, refl, k)

-- No token stands at a place.
pub word-place : (text : List ℕ) (at : ℕ) (f : LexFault) → next_token text at ≡ Err f → IsFaultAt text at (Lex f)
unfolding runs
word-place text at f n =
    let r : runs (Item ∷ []) (start_at text at) ≡ lacking = ap (λ (ts : List Lexeme). runs_on ts (Item ∷ []) nesting at) (tokens_from-err text at f n) in
    (here n, subst (Says (start_at text at)) r (verdict-true (start_at text at)))

-- the faults of an item at a cursor that stands at a place

pub placed-fault : (text : List ℕ) (at : ℕ) (c : Cursor) (t : Token) (f : SyntaxFault) → at ≤ length text → IsCursorOf text c → c.end ≡ at
    → state_of text c ≡ start_at text at → c.next ≡ Ok t → (t.kind ≡ token.End → ⊥)
    → ((k : List Symbol) → IsItemFault text (Item ∷ k) (state_of text c) f) → f ≢ NoMemory → IsFaultAt text at f
placed-fault text at c t f h i e same n k r m =
    let first : next_token text at ≡ Ok t = ap (next_token text) (sym e) ∙ sym i.next ∙ n in
    let kind : next_kind (tokens_from text at) ≡ t.kind = ap next_kind (tokens_from-ok text at t first) in
    item-place text at f h (λ d. k (sym kind ∙ d)) (subst (λ (s : State). IsItemFault text (Item ∷ []) s f) same (r [])) m

pub lost-fault : (text : List ℕ) (at : ℕ) (c : Cursor) (f : LexFault) → IsCursorOf text c → c.end ≡ at → c.next ≡ Err f → IsFaultAt text at (Lex f)
lost-fault text at c f i e n = word-place text at f (ap (next_token text) (sym e) ∙ sym i.next ∙ n)
