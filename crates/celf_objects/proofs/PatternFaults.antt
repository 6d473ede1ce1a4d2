-- Faults inside a pattern, as faults of the pattern.
use Rattle.std.proofs.Common.{◌≡◌, ◌∙◌, ℕ, List, ◌∷◌, false, codes, refl, ap}
use Rattle.celf_lexer.specs.declared.token.TokenKind.{TokenKind}
use Rattle.celf_lexer.specs.declared.token.TokenKind.TheVariants as token
use Rattle.celf_surface.specs.declared.surface.SMode.{SMode}
use Rattle.celf_surface.specs.Surface.{WrittenPattern as PatternTree}
use Rattle.celf_grammar.specs.State.{State, next_kind, Ends, Takes, Opens}
use Rattle.celf_grammar.specs.Grammar.{IsMark, mark_none, IsPatterns, is_comma, is_left_bracket, is_mark, is_name_kind}
use Rattle.celf_grammar.specs.Machine.{Symbol, Close, Mark, Binder, Pattern, PatternTail}
use Rattle.celf_grammar.proofs.TokenRuns.{NotOne, not-one, not-number, mark-run, binder-stops, pattern-opens, pattern-deep, pattern-entry, pattern_tail-more, pattern_tail-ends}
use Rattle.celf_grammar.proofs.Accepts.{patterns-accept}
use Rattle.celf_cursor.specs.declared.cursor.Cursor.{Cursor}
use Rattle.celf_cursor.specs.declared.stop.Stop.{Stop}
use Rattle.celf_cursor.specs.declared.stop.Stop.TheVariants.{NoMemory}
use Rattle.celf_cursor.specs.Cursor.{state_of, kind_next, next_spelling, IsCursorOf, MissesOpening, MissesWord}
use Rattle.celf_cursor.specs.Faults.{IsFaultOf, fault_memory}
use Rattle.celf_cursor.proofs.Faulty.{fault-moved, fault-stops, opening-missed}
use Rattle.celf_cursor.proofs.Ends.{opens-end, takes-end, mark-end, patterns-end}

pub memory-fault : {text : List ℕ} {j : List Symbol} {s : State} {e : Stop} → e ≡ NoMemory → IsFaultOf text j s e
memory-fault {text} {j} {s} h = rw h fault_memory

pub not-one-word : (text : List ℕ) (c : Cursor) (e : Stop) → kind_next text c ≡ token.Number → MissesWord text token.Number (codes "1") c e → NotOne (state_of text c)
not-one-word text c e n m = not-one (state_of text c) (λ u h. m.1 n (ap next_spelling h.taken.first ∙ h.spelled))

pub pattern_one-fault : (text : List ℕ) (c : Cursor) (k : List Symbol) (e : Stop)
    → IsCursorOf text c → kind_next text c ≡ token.Number → MissesWord text token.Number (codes "1") c e → IsFaultOf text (Pattern ∷ k) (state_of text c) e
pattern_one-fault text c k e h n m = fault-stops text c (Pattern ∷ k) e h m.0
    (pattern-entry (state_of text c) k (not-one-word text c e n m) (ap is_left_bracket n)
    ∙ mark-run (mark_none (ap is_mark n)) (Binder ∷ k)
    ∙ binder-stops (state_of text c) k (ap is_name_kind n) (λ f. cc (f, n)))

pub bracket-not : (k : TokenKind) → (k ≡ token.LeftBracket → ⊥) → is_left_bracket k ≡ false
bracket-not token.LeftBracket n = absurd (n refl)
bracket-not _ n = refl

pub pattern_entry-fault : {text : List ℕ} {s u : State} {m : SMode} {k : List Symbol} {e : Stop}
    → (next_kind s.rest ≡ token.Number → ⊥) → (next_kind s.rest ≡ token.LeftBracket → ⊥) → IsMark s m u → IsFaultOf text (Binder ∷ k) u e → IsFaultOf text (Pattern ∷ k) s e
pattern_entry-fault {s = s} {k = k} n b m f = fault-moved (pattern-entry s k (not-number s n) (bracket-not (next_kind s.rest) b) ∙ mark-run m (Binder ∷ k)) (mark-end m) f

pub pattern_mark-fault : {text : List ℕ} {s : State} {k : List Symbol} {e : Stop}
    → (next_kind s.rest ≡ token.Number → ⊥) → (next_kind s.rest ≡ token.LeftBracket → ⊥) → ((j : List Symbol) → IsFaultOf text (Mark ∷ j) s e) → IsFaultOf text (Pattern ∷ k) s e
pattern_mark-fault {s = s} {k = k} n b f = fault-moved (pattern-entry s k (not-number s n) (bracket-not (next_kind s.rest) b)) refl (f (Binder ∷ k))

pub pattern_opening-fault : (text : List ℕ) (c : Cursor) (k : List Symbol) (e : Stop)
    → IsCursorOf text c → kind_next text c ≡ token.LeftBracket → MissesOpening text token.LeftBracket c e → IsFaultOf text (Pattern ∷ k) (state_of text c) e
pattern_opening-fault text c k e h n m = opening-missed text c token.LeftBracket (Pattern ∷ k) e h n m (pattern-deep (state_of text c) k n)

pub pattern_inside-fault : {text : List ℕ} {s u : State} {k : List Symbol} {e : Stop}
    → Opens token.LeftBracket s u → ((j : List Symbol) → IsFaultOf text (Pattern ∷ PatternTail ∷ j) u e) → IsFaultOf text (Pattern ∷ k) s e
pattern_inside-fault {k = k} o f = fault-moved (pattern-opens o k) (opens-end o) (f _)

pub pattern_closing-fault : {text : List ℕ} {s u v : State} {ps : List PatternTree} {k : List Symbol} {e : Stop}
    → Opens token.LeftBracket s u → IsPatterns u ps v → Ends is_comma v → IsFaultOf text (Close token.RightBracket s.room ∷ k) v e → IsFaultOf text (Pattern ∷ k) s e
pattern_closing-fault {v = v} {k = k} o ps i f = fault-moved (pattern-opens o k ∙ patterns-accept ps _ ∙ pattern_tail-ends v _ i) (opens-end o ∙ patterns-end ps) f

pub patterns_next-fault : {text : List ℕ} {s u v : State} {ps : List PatternTree} {k : List Symbol} {e : Stop}
    → IsPatterns s ps u → Takes token.Comma u v → IsFaultOf text (Pattern ∷ PatternTail ∷ k) v e → IsFaultOf text (Pattern ∷ PatternTail ∷ k) s e
patterns_next-fault {k = k} ps c f = fault-moved (patterns-accept ps k ∙ pattern_tail-more c k) (patterns-end ps ∙ takes-end c) f
