-- Faults of a part are faults of what it is part of, and what a token that is missed comes to.
use Rattle.std.proofs.Common.{◌≡◌, inl, inr, ℕ, List, ◌∷◌, true, false, refl, sym, ap, subst, ◌∙◌, Result, Ok, Err, IsErrAnd, IfErr, IfOk}
use Rattle.std.proofs.lemmas.Bool.{true≢false}
use Rattle.celf_lexer.specs.declared.token.TokenKind.{TokenKind}
use Rattle.celf_lexer.specs.declared.token.TokenKind.TheVariants as token
use Rattle.celf_lexer.specs.declared.token.Token.{Token}
use Rattle.celf_lexer.specs.declared.token.LexFault.{LexFault}
use Rattle.celf_lexer.specs.Tokens.{lexeme_of, next_token}
use Rattle.celf_surface.specs.declared.surface.Span.{Span}
use Rattle.celf_grammar.specs.State.{State}
use Rattle.celf_grammar.specs.Grammar.{is_name_kind}
use Rattle.celf_grammar.specs.Machine.{Symbol, Expect, Close, Binder, FamilyName, runs, stops_at, stops_on, deep_at, deep_on}
use Rattle.celf_grammar.proofs.TokenRuns.{expect-stops, close-stops, binder-stops}
use Rattle.celf_grammar.proofs.ObjectRuns.{begins_family, family-stops}
use Rattle.celf_cursor.specs.declared.cursor.Cursor.{Cursor}
use Rattle.celf_cursor.specs.declared.stop.Stop.{Stop}
use Rattle.celf_cursor.specs.declared.stop.Stop.TheVariants.{Unexpected, TooDeep}
use Rattle.celf_cursor.specs.Cursor.{tokens_on, state_of, kind_next, IsCursorOf, unexpected, too_deep, Misses, MissesOpening, MissesName, MissesConstant}
use Rattle.celf_cursor.specs.Faults.{end_of, last_end, span_in, IsFaultOf, fault_unexpected, fault_deep, fault_lacking, fault_memory}
use Rattle.celf_cursor.proofs.Cursors.{next-spelling}

-- one run comes to what another comes to
pub fault-moved : {text : List ℕ} {j k : List Symbol} {s u : State} {e : Stop} → runs j s ≡ runs k u → last_end s ≡ last_end u → IsFaultOf text k u e → IsFaultOf text j s e
fault-moved r l (fault_unexpected h) = fault_unexpected (r ∙ h)
fault-moved r l (fault_deep h) = fault_deep (r ∙ h)
fault-moved {text} r l (fault_lacking h n) = fault_lacking (r ∙ h) (ap (next_token text) l ∙ n)
fault-moved r l fault_memory = fault_memory

spanned : (text : List ℕ) (c : Cursor) (t : Token) → IsCursorOf text c → c.next ≡ Ok t → span_in (lexeme_of text t) ≡ record { start = t.start; end = t.end }
spanned text c t h e = ap (λ (n : ℕ). let r : Span = record { start = t.start; end = n } in r) (next-spelling text c t h e)

lacking-here : (text : List ℕ) (c : Cursor) (x : LexFault) → IsCursorOf text c → c.next ≡ Err x → next_token text (last_end (state_of text c)) ≡ Err x
unfolding state_of last_end
lacking-here text c x h g = ap (λ (n : Result Token LexFault). next_token text (end_of (tokens_on text n) c.end)) g ∙ sym h.next ∙ g

-- what comes next may not stand there
pub fault-stops : (text : List ℕ) (c : Cursor) (j : List Symbol) (e : Stop)
    → IsCursorOf text c → e ≡ unexpected c.next → runs j (state_of text c) ≡ stops_at (state_of text c) → IsFaultOf text j (state_of text c) e
unfolding state_of stops_at
fault-stops text c j e h f r = subst (IsFaultOf text j (state_of text c)) (sym f) (by_next c.next refl)
  where
    by_next : (n : Result Token LexFault) → c.next ≡ n → IsFaultOf text j (state_of text c) (unexpected c.next)
    by_next (Ok t) g =
        let came = r ∙ ap (λ (n : Result Token LexFault). stops_on (tokens_on text n)) g in
        subst (λ (n : Result Token LexFault). IsFaultOf text j (state_of text c) (unexpected n)) (sym g)
        (subst (λ (p : Span). IsFaultOf text j (state_of text c) (Unexpected p)) (spanned text c t h g) (fault_unexpected came))
    by_next (Err x) g =
        let came = r ∙ ap (λ (n : Result Token LexFault). stops_on (tokens_on text n)) g in
        subst (λ (n : Result Token LexFault). IsFaultOf text j (state_of text c) (unexpected n)) (sym g) (fault_lacking came (lacking-here text c x h g))

-- what comes next opens a part for which there is no room
pub fault-deep : (text : List ℕ) (c : Cursor) (j : List Symbol) (e : Stop)
    → IsCursorOf text c → e ≡ too_deep c.next → runs j (state_of text c) ≡ deep_at (state_of text c) → IsFaultOf text j (state_of text c) e
unfolding state_of deep_at
fault-deep text c j e h f r = subst (IsFaultOf text j (state_of text c)) (sym f) (by_next c.next refl)
  where
    by_next : (n : Result Token LexFault) → c.next ≡ n → IsFaultOf text j (state_of text c) (too_deep c.next)
    by_next (Ok t) g =
        let came = r ∙ ap (λ (n : Result Token LexFault). deep_on (tokens_on text n)) g in
        subst (λ (n : Result Token LexFault). IsFaultOf text j (state_of text c) (too_deep n)) (sym g)
        (subst (λ (p : Span). IsFaultOf text j (state_of text c) (TooDeep p)) (spanned text c t h g) (fault_deep came))
    by_next (Err x) g =
        let came = r ∙ ap (λ (n : Result Token LexFault). deep_on (tokens_on text n)) g in
        subst (λ (n : Result Token LexFault). IsFaultOf text j (state_of text c) (too_deep n)) (sym g) (fault_lacking came (lacking-here text c x h g))

-- a fault that a ? hands on
pub passed : {T E : Type 0} (P : E → Type 0) (r : Result T E) {e : E} → IsErrAnd r (λ y. y ≡ e) → P e → IfErr r P
passed P (Ok x) h p = absurd h
passed P (Err y) h p = subst P (sym h) p

-- nothing is read where a ? hands a fault on
pub refused : {T E : Type 0} (P : T → Type 0) (Q : E → Type 0) (r : Result T E) → IsErrAnd r Q → IfOk r P
refused P Q (Ok x) h = absurd h
refused P Q (Err e) h = tt

-- a token that is missed
pub expect-missed : (text : List ℕ) (c : Cursor) (kind : TokenKind) (k : List Symbol) (e : Stop) → IsCursorOf text c → Misses text kind c e → IsFaultOf text (Expect kind ∷ k) (state_of text c) e
expect-missed text c kind k e h m = fault-stops text c (Expect kind ∷ k) e h m.0 (expect-stops kind (state_of text c) k m.1)

pub close-missed : (text : List ℕ) (c : Cursor) (kind : TokenKind) (before : ℕ) (k : List Symbol) (e : Stop)
    → IsCursorOf text c → Misses text kind c e → IsFaultOf text (Close kind before ∷ k) (state_of text c) e
close-missed text c kind before k e h m = fault-stops text c (Close kind before ∷ k) e h m.0 (close-stops kind before (state_of text c) k m.1)

-- an opening token of the kind that comes next
pub opening-missed : (text : List ℕ) (c : Cursor) (kind : TokenKind) (j : List Symbol) (e : Stop)
    → IsCursorOf text c → kind_next text c ≡ kind → MissesOpening text kind c e
    → ((state_of text c).room ≡ 0 → runs j (state_of text c) ≡ deep_at (state_of text c)) → IsFaultOf text j (state_of text c) e
unfolding state_of
opening-missed text c kind j e h n (inl m) r = absurd (m.1 n)
opening-missed text c kind j e h n (inr m) r = fault-deep text c j e h m.0 (r m.2)

-- a taken token that would be missed by nothing
pub taken-missed : (text : List ℕ) (c : Cursor) (kind : TokenKind) (j : List Symbol) (e : Stop) → kind_next text c ≡ kind → Misses text kind c e → IsFaultOf text j (state_of text c) e
taken-missed text c kind j e n m = absurd (m.1 n)

pub binder-missed : (text : List ℕ) (c : Cursor) (k : List Symbol) (e : Stop)
    → IsCursorOf text c → (kind_next text c ≡ token.Hole → ⊥) → MissesName text c e → IsFaultOf text (Binder ∷ k) (state_of text c) e
binder-missed text c k e h n (inl m) = subst (IsFaultOf text (Binder ∷ k) (state_of text c)) (sym m) fault_memory
binder-missed text c k e h n (inr m) = fault-stops text c (Binder ∷ k) e h m.0 (binder-stops (state_of text c) k m.1 n)

-- a name that comes next, and a constant name, are not missed but for lack of memory
pub name-missed : (text : List ℕ) (c : Cursor) (j : List Symbol) (e : Stop) → is_name_kind (kind_next text c) ≡ true → MissesName text c e → IsFaultOf text j (state_of text c) e
name-missed text c j e n (inl m) = subst (IsFaultOf text j (state_of text c)) (sym m) fault_memory
name-missed text c j e n (inr m) = absurd (true≢false (sym n ∙ m.1))

pub constant-missed : (text : List ℕ) (c : Cursor) (j : List Symbol) (e : Stop) → kind_next text c ≡ token.ConstName → MissesConstant text c e → IsFaultOf text j (state_of text c) e
constant-missed text c j e n (inl m) = subst (IsFaultOf text j (state_of text c)) (sym m) fault_memory
constant-missed text c j e n (inr m) = absurd (m.1 n)

no-family : (k : TokenKind) → is_name_kind k ≡ false → (k ≡ token.ConstName → ⊥) → begins_family k ≡ false
no-family (token.Name c) e n = e
no-family token.ConstName e n = absurd (n refl)
no-family _ e n = refl

pub family-missed : (text : List ℕ) (c : Cursor) (k : List Symbol) (e : Stop)
    → IsCursorOf text c → (kind_next text c ≡ token.ConstName → ⊥) → MissesName text c e → IsFaultOf text (FamilyName ∷ k) (state_of text c) e
family-missed text c k e h n (inl m) = subst (IsFaultOf text (FamilyName ∷ k) (state_of text c)) (sym m) fault_memory
family-missed text c k e h n (inr m) = fault-stops text c (FamilyName ∷ k) e h m.0 (family-stops (state_of text c) k (no-family (kind_next text c) m.1 n))

pub ruleset mark_faults = (taken-missed)

pub ruleset binder_faults = (taken-missed, binder-missed)

pub ruleset family_faults = (constant-missed, family-missed)
