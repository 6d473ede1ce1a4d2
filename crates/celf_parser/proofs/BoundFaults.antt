-- Faults of the numbers of directives and declarations.
use Rattle.std.proofs.Common.{◌≡◌, ◌∙◌, ℕ, List, ◌∷◌}
use Rattle.celf_lexer.specs.declared.token.TokenKind.TheVariants as token
use Rattle.celf_surface.specs.declared.surface.Bound.{Bound as BoundTree}
use Rattle.celf_grammar.specs.State.{State, Takes, TakesNumber}
use Rattle.celf_grammar.specs.Machine.{Symbol, Expect, NumberWord, Bound, Implicit}
use Rattle.celf_grammar.proofs.TokenRuns.{number-run, number-stops}
use Rattle.celf_grammar.proofs.TypeRuns.{bound-stops, implicit-count}
use Rattle.celf_cursor.specs.declared.cursor.Cursor.{Cursor}
use Rattle.celf_cursor.specs.declared.stop.Stop.{Stop}
use Rattle.celf_cursor.specs.Cursor.{state_of, kind_next, IsCursorOf, Misses}
use Rattle.celf_cursor.specs.Faults.{IsFaultOf}
use Rattle.celf_cursor.proofs.Faulty.{fault-moved, fault-stops, taken-missed, expect-missed}
use Rattle.celf_cursor.proofs.Ends.{takes-end}
use Rattle.celf_parser.proofs.Ends.{number-end}

pub bound-fault : (text : List ℕ) (c : Cursor) (k : List Symbol) (e : Stop)
    → IsCursorOf text c → (kind_next text c ≡ token.Star → ⊥) → Misses text token.Number c e → IsFaultOf text (Bound ∷ k) (state_of text c) e
bound-fault text c k e h n m = fault-stops text c (Bound ∷ k) e h m.0 (bound-stops (state_of text c) k m.1 n)

pub count-fault : {text : List ℕ} {s : State} {c : Cursor} {k : List Symbol} {e : Stop}
    → Takes token.LeftBracket s (state_of text c) → IsCursorOf text c → Misses text token.Number c e → IsFaultOf text (Implicit ∷ k) s e
count-fault {text} {s} {c} {k} {e} t h m =
    fault-moved (implicit-count t k) (takes-end t) (fault-stops text c (NumberWord ∷ Expect token.RightBracket ∷ k) e h m.0 (number-stops (state_of text c) (Expect token.RightBracket ∷ k) m.1))

pub bracket-fault : {text : List ℕ} {s u : State} {c : Cursor} {n : BoundTree} {k : List Symbol} {e : Stop}
    → Takes token.LeftBracket s u → TakesNumber u n (state_of text c) → IsCursorOf text c → Misses text token.RightBracket c e → IsFaultOf text (Implicit ∷ k) s e
bracket-fault {text} {c = c} {k = k} {e} t n h m =
    fault-moved (implicit-count t k ∙ number-run n (Expect token.RightBracket ∷ k)) (takes-end t ∙ number-end n) (expect-missed text c token.RightBracket k e h m)

pub ruleset bound_faults = (taken-missed, bound-fault)

pub ruleset implicit_faults = (taken-missed, count-fault, bracket-fault)
