-- Faults inside an item, as faults of the item.
use Rattle.std.proofs.Common.{◌≡◌, ◌≢◌, ◌∙◌, inl, inr, ℕ, List, ◌∷◌, Option, codes, refl, sym, ap, subst, Result, Ok, Err}
use Rattle.celf_lexer.specs.declared.token.TokenKind.TheVariants as token
use Rattle.celf_lexer.specs.declared.token.Token.{Token}
use Rattle.celf_lexer.specs.declared.token.LexFault.{LexFault}
use Rattle.celf_lexer.specs.Tokens.{tokens_after, lexeme_of}
use Rattle.celf_surface.specs.declared.surface.Bound.{Bound as BoundTree}
use Rattle.celf_surface.specs.declared.surface.Span.{Span}
use Rattle.celf_surface.specs.Surface.{WrittenObject as ObjectTree, WrittenBody as BodyTree}
use Rattle.celf_grammar.specs.State.{State, next_kind, TakesName, TakesDirective}
use Rattle.celf_grammar.specs.Grammar.{IsObject, IsBound, IsImplicit, IsBody, body_declare, body_query, body_trace, body_equal, body_check}
use Rattle.celf_grammar.specs.Machine.{Symbol, Expect, Object, Whole, Bound, Implicit, Body, Item}
use Rattle.celf_grammar.proofs.TypeRuns.{body-declare, body-query, body-trace, body-equal, body-check, body-stops, item-body}
use Rattle.celf_grammar.proofs.Accepts.{object-accepts, bound-accepts, implicit-accepts, body-accepts}
use Rattle.celf_cursor.specs.declared.cursor.Cursor.{Cursor}
use Rattle.celf_cursor.specs.declared.stop.Stop.{Stop}
use Rattle.celf_cursor.specs.Cursor.{tokens_on, state_of, kind_next, spelling_next, span_of, IsCursorOf, Misses, MissesWord, MissesName}
use Rattle.celf_cursor.specs.Faults.{span_in, IsFaultOf, fault_memory}
use Rattle.celf_cursor.proofs.Cursors.{next-spelling, spelling_next-token}
use Rattle.celf_cursor.proofs.Ends.{name-end, object-end}
use Rattle.celf_cursor.proofs.Faulty.{fault-moved, fault-stops, expect-missed}
use Rattle.celf_parser.specs.declared.fault.SyntaxFault.{SyntaxFault}
use Rattle.celf_parser.specs.declared.fault.SyntaxFault.TheVariants.{Directive}
use Rattle.celf_parser.specs.Fault.{fault_of, unknown, takes_query, takes_trace, takes_equal, takes_check, IsUnknown, IsKnown, IsItemFault, fault_stop, fault_word}
use Rattle.celf_parser.proofs.Ends.{directive-end, bound-end, implicit-end, body-end}

pub bounded-fault : {text : List ℕ} {b : BoundTree} {k : List Symbol} {s u : State} {e : Stop} → IsBound s b u → IsFaultOf text k u e → IsFaultOf text (Bound ∷ k) s e
bounded-fault {k = k} d f = fault-moved (bound-accepts d k) (bound-end d) f

pub formed-fault : {text : List ℕ} {o : ObjectTree} {k : List Symbol} {s u : State} {e : Stop} → IsObject s o u → IsFaultOf text k u e → IsFaultOf text (Object ∷ k) s e
formed-fault {k = k} d f = fault-moved (object-accepts d k) (object-end d) f

pub counted-fault : {text : List ℕ} {i : Option BoundTree} {k : List Symbol} {s u : State} {e : Stop}
    → IsImplicit s i u → IsFaultOf text k u e → IsFaultOf text (Implicit ∷ k) s e
counted-fault {k = k} d f = fault-moved (implicit-accepts d k) (implicit-end d) f

-- declarations

pub declared_name-fault : (text : List ℕ) (c : Cursor) (k : List Symbol) (e : Stop)
    → IsCursorOf text c → kind_next text c ≢ token.Directive → MissesName text c e → IsFaultOf text (Body ∷ k) (state_of text c) e
declared_name-fault text c k e h n (inl m) = subst (IsFaultOf text (Body ∷ k) (state_of text c)) (sym m) fault_memory
declared_name-fault text c k e h n (inr m) = fault-stops text c (Body ∷ k) e h m.0 (body-stops (state_of text c) k m.1 n)

pub declared-fault : {text : List ℕ} {n : List ℕ} {k : List Symbol} {s u : State} {e : Stop}
    → TakesName s n u → IsFaultOf text (Expect token.Colon ∷ Implicit ∷ Whole ∷ k) u e → IsFaultOf text (Body ∷ k) s e
declared-fault {k = k} n f = fault-moved (body-declare n k) (name-end n) f

-- directives

pub query-fault : {text : List ℕ} {k : List Symbol} {s u : State} {e : Stop} → TakesDirective (codes "#query") s u
    → ((j : List Symbol) → IsFaultOf text (Bound ∷ Bound ∷ Bound ∷ Bound ∷ Whole ∷ j) u e) → IsItemFault text (Body ∷ k) s (fault_of e)
query-fault {k = k} {u = u} h f = fault_stop (fault-moved (body-query h k) (directive-end h) (f k)) (λ n. (u, takes_query h))

pub trace-fault : {text : List ℕ} {k : List Symbol} {s u : State} {e : Stop} → TakesDirective (codes "#trace") s u
    → ((j : List Symbol) → IsFaultOf text (Bound ∷ Whole ∷ j) u e) → IsItemFault text (Body ∷ k) s (fault_of e)
trace-fault {k = k} {u = u} h f = fault_stop (fault-moved (body-trace h k) (directive-end h) (f k)) (λ n. (u, takes_trace h))

pub equal-fault : {text : List ℕ} {k : List Symbol} {s u : State} {e : Stop} → TakesDirective (codes "#equal") s u
    → ((j : List Symbol) → IsFaultOf text (Object ∷ Expect token.Equals ∷ Object ∷ Expect token.Colon ∷ Whole ∷ j) u e) → IsItemFault text (Body ∷ k) s (fault_of e)
equal-fault {k = k} {u = u} h f = fault_stop (fault-moved (body-equal h k) (directive-end h) (f k)) (λ n. (u, takes_equal h))

pub check-fault : {text : List ℕ} {k : List Symbol} {s u : State} {e : Stop} → TakesDirective (codes "#check") s u
    → ((j : List Symbol) → IsFaultOf text (Object ∷ Expect token.Colon ∷ Whole ∷ j) u e) → IsItemFault text (Body ∷ k) s (fault_of e)
check-fault {k = k} {u = u} h f = fault_stop (fault-moved (body-check h k) (directive-end h) (f k)) (λ n. (u, takes_check h))

-- a # word is missed at a cursor
pub other-word : (text : List ℕ) (c : Cursor) (word : List ℕ) (e : Stop)
    → kind_next text c ≡ token.Directive → MissesWord text token.Directive word c e → spelling_next text c ≢ word
other-word text c word e n m = m.1 n

pub unknown-fault : (text : List ℕ) (c : Cursor) (k : List Symbol) (f : SyntaxFault) → IsCursorOf text c → kind_next text c ≡ token.Directive
    → spelling_next text c ≢ codes "#query" → spelling_next text c ≢ codes "#trace" → spelling_next text c ≢ codes "#equal" → spelling_next text c ≢ codes "#check"
    → f ≡ unknown c.next → IsItemFault text (Body ∷ k) (state_of text c) f
unfolding state_of
unknown-fault text c k f h n q r e d is = subst (IsItemFault text (Body ∷ k) (state_of text c)) (sym is) (by_next c.next refl)
  where
    by_next : (x : Result Token LexFault) → c.next ≡ x → IsItemFault text (Body ∷ k) (state_of text c) (unknown c.next)
    by_next (Ok t) g =
        let first : (state_of text c).rest ≡ lexeme_of text t ∷ tokens_after text t = ap (tokens_on text) g in
        let spelled : spelling_next text c ≡ (lexeme_of text t).spelling = spelling_next-token text c t g in
        let spanned : span_in (lexeme_of text t) ≡ span_of t = ap (λ (m : ℕ). let p : Span = record { start = t.start; end = m } in p) (next-spelling text c t h g) in
        let w : IsUnknown (lexeme_of text t).spelling = record { query = λ i. q (spelled ∙ i); trace = λ i. r (spelled ∙ i); equal = λ i. e (spelled ∙ i); check = λ i. d (spelled ∙ i) } in
        subst (λ (x : Result Token LexFault). IsItemFault text (Body ∷ k) (state_of text c) (unknown x)) (sym g)
        (subst (λ (p : Span). IsItemFault text (Body ∷ k) (state_of text c) (Directive p)) spanned (fault_word first (sym (ap next_kind first) ∙ n) w))
    by_next (Err x) g = absurd (let i : kind_next text c ≡ token.End = ap (λ (y : Result Token LexFault). next_kind (tokens_on text y)) g in cc (i, n))

pub undirected-fault : {text : List ℕ} {j : List Symbol} {s : State} {e : Stop} → next_kind s.rest ≢ token.Directive → IsFaultOf text j s e → IsItemFault text j s (fault_of e)
undirected-fault n f = fault_stop f (λ d. absurd (n d))

-- items

name-known : {n : List ℕ} {s u : State} → TakesName s n u → IsKnown s
name-known h d = absurd (let i = sym h.kind ∙ (sym (ap next_kind h.taken.first) ∙ d) in cc)

body-known : {b : BodyTree} {s u : State} → IsBody s b u → IsKnown s
body-known (body_declare n c i t) d = name-known n d
body-known (body_query {a = a} h w x y z t) d = (a, takes_query h)
body-known (body_trace {a = a} h n t) d = (a, takes_trace h)
body-known (body_equal {a = a} h l e r c t) d = (a, takes_equal h)
body-known (body_check {a = a} h o c t) d = (a, takes_check h)

pub item_body-fault : {text : List ℕ} {k : List Symbol} {s : State} {f : SyntaxFault} → IsItemFault text (Body ∷ Expect token.Stop ∷ k) s f → IsItemFault text (Item ∷ k) s f
item_body-fault {k = k} {s} (fault_stop r d) = fault_stop (fault-moved (item-body s k) refl r) d
item_body-fault (fault_word e k w) = fault_word e k w

pub item_stop-fault : (text : List ℕ) (c : Cursor) (s : State) (b : BodyTree) (k : List Symbol) (e : Stop)
    → IsBody s b (state_of text c) → IsCursorOf text c → Misses text token.Stop c e → IsItemFault text (Item ∷ k) s (fault_of e)
item_stop-fault text c s b k e d h m =
    fault_stop (fault-moved (item-body s k ∙ body-accepts d (Expect token.Stop ∷ k)) (body-end d) (expect-missed text c token.Stop k e h m)) (body-known d)

pub ruleset directive_faults = (unknown-fault, other-word)

pub ruleset item_faults = (item_body-fault)
