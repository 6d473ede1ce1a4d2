-- Faults inside a type, as faults of the type.
use Rattle.std.proofs.Common.{◌≡◌, ◌∙◌, inl, inr, subst, ℕ, List, ◌∷◌, Some, true, false, is_some, refl, sym, ap}
use Rattle.celf_lexer.specs.declared.token.TokenKind.{TokenKind}
use Rattle.celf_lexer.specs.declared.token.TokenKind.TheVariants as token
use Rattle.celf_surface.specs.declared.surface.Arrow.{Arrow}
use Rattle.celf_surface.specs.Surface.{WrittenType}
use Rattle.celf_grammar.specs.State.{State, next_kind, Takes, Opens, TakesName}
use Rattle.celf_grammar.specs.Grammar.{forward_of, backward_of, is_forward, is_backward, is_mark, OpensArrow, IsType, IsBackward, IsSync, IsTypeAtom}
use Rattle.celf_grammar.specs.Machine.{Symbol, Expect, Close, NameWord, Whole, BackTail, Forward, ForwardTail, Sync, StarTail, Factor, With, AmpTail, TypeAtom, runs}
use Rattle.celf_grammar.proofs.TokenRuns.{expect-run, name-run, name-stops}
use Rattle.celf_grammar.proofs.TypeRuns.{type_atom-braces, type_atom-group, type_atom-brace_deep, type_atom-group_deep, with-atom, amp-more, amp-deep, factor-bare, sync-exists, sync-deep, sync-factor, star-more, forward-pi, forward-deep, forward-sync, no-pi, no-exists, arrow-more, arrow-deep, back-more, back-deep, type-forward}
use Rattle.celf_grammar.proofs.Accepts.{type-accepts, backward-accepts, sync-accepts, factor-accepts, type_atom-accepts}
use Rattle.celf_grammar.proofs.Begins.{factor-no_exists}
use Rattle.celf_cursor.specs.declared.cursor.Cursor.{Cursor}
use Rattle.celf_cursor.specs.declared.stop.Stop.{Stop}
use Rattle.celf_cursor.specs.Cursor.{state_of, kind_next, IsCursorOf, MissesOpening, MissesName}
use Rattle.celf_cursor.specs.Faults.{IsFaultOf, fault_memory}
use Rattle.celf_cursor.proofs.Faulty.{fault-moved, fault-stops, opening-missed, expect-missed, taken-missed}
use Rattle.celf_cursor.proofs.Ends.{opens-end, takes-end, name-end}
use Rattle.celf_objects.proofs.PatternFaults.{memory-fault}
use Rattle.celf_parser.specs.Enclosed.{Binds}
use Rattle.celf_parser.specs.Going.{OpensOn, TakesOn}
use Rattle.celf_parser.specs.Product.{IsFactors, factors_none, factors_more}
use Rattle.celf_parser.proofs.Ends.{type-end, backward-end, sync-end, factors-end, type_atom-end}

-- arrows

pub back_opening-fault : (text : List ℕ) (c : Cursor) (kind : TokenKind) (a : Arrow) (k : List Symbol) (e : Stop)
    → IsCursorOf text c → kind ≡ kind_next text c → Some a ≡ backward_of kind → MissesOpening text kind c e → IsFaultOf text (BackTail ∷ k) (state_of text c) e
back_opening-fault text c kind a k e h n b m =
    let is : is_backward (kind_next text c) ≡ true = sym (ap is_backward n) ∙ ap is_some (sym b) in
    opening-missed text c kind (BackTail ∷ k) e h (sym n) m (back-deep (state_of text c) k is)

pub forward_opening-fault : (text : List ℕ) (c : Cursor) (kind : TokenKind) (a : Arrow) (k : List Symbol) (e : Stop)
    → IsCursorOf text c → kind ≡ kind_next text c → Some a ≡ forward_of kind → MissesOpening text kind c e → IsFaultOf text (ForwardTail ∷ k) (state_of text c) e
forward_opening-fault text c kind a k e h n b m =
    let is : is_forward (kind_next text c) ≡ true = sym (ap is_forward n) ∙ ap is_some (sym b) in
    opening-missed text c kind (ForwardTail ∷ k) e h (sym n) m (arrow-deep (state_of text c) k is)

-- types

pub type_first-fault : {text : List ℕ} {s : State} {k : List Symbol} {e : Stop} → IsFaultOf text (Forward ∷ BackTail ∷ k) s e → IsFaultOf text (Whole ∷ k) s e
type_first-fault {s = s} {k} f = fault-moved (type-forward s k) refl f

pub type_sign-fault : {text : List ℕ} {s u : State} {a : WrittenType} {k : List Symbol} {e : Stop}
    → IsBackward s a u → IsFaultOf text (BackTail ∷ k) u e → IsFaultOf text (Whole ∷ k) s e
type_sign-fault {s = s} {k = k} b f = fault-moved (type-forward s k ∙ backward-accepts b k) (backward-end b) f

pub type_next-fault : {text : List ℕ} {s u v : State} {a : WrittenType} {r : Arrow} {k : List Symbol} {e : Stop}
    → IsBackward s a u → OpensArrow backward_of r u v → IsFaultOf text (Forward ∷ BackTail ∷ k) v e → IsFaultOf text (Whole ∷ k) s e
type_next-fault {s = s} {k = k} b o f = fault-moved (type-forward s k ∙ backward-accepts b k ∙ back-more o k) (backward-end b ∙ opens-end o.sign) f

pub forward_first-fault : {text : List ℕ} {s : State} {k : List Symbol} {e : Stop}
    → (next_kind s.rest ≡ token.KwPi → ⊥) → IsFaultOf text (Sync ∷ ForwardTail ∷ k) s e → IsFaultOf text (Forward ∷ k) s e
forward_first-fault {s = s} {k} n f = fault-moved (forward-sync s k (no-pi (next_kind s.rest) n)) refl f

pub forward_sign-fault : {text : List ℕ} {s u : State} {a : WrittenType} {k : List Symbol} {e : Stop}
    → (next_kind s.rest ≡ token.KwPi → ⊥) → IsSync s a u → IsFaultOf text (ForwardTail ∷ k) u e → IsFaultOf text (Forward ∷ k) s e
forward_sign-fault {s = s} {k = k} n d f = fault-moved (forward-sync s k (no-pi (next_kind s.rest) n) ∙ sync-accepts d (ForwardTail ∷ k)) (sync-end d) f

pub forward_next-fault : {text : List ℕ} {s u v : State} {a : WrittenType} {r : Arrow} {k : List Symbol} {e : Stop}
    → (next_kind s.rest ≡ token.KwPi → ⊥) → IsSync s a u → OpensArrow forward_of r u v → IsFaultOf text (Forward ∷ k) v e → IsFaultOf text (Forward ∷ k) s e
forward_next-fault {s = s} {k = k} n d o f =
    fault-moved (forward-sync s k (no-pi (next_kind s.rest) n) ∙ sync-accepts d (ForwardTail ∷ k) ∙ arrow-more o k) (sync-end d ∙ opens-end o.sign) f

-- binders and brackets

pub pi-opens : (s : State) (k : List Symbol) → next_kind s.rest ≡ token.KwPi → OpensOn token.KwPi (Forward ∷ k) (NameWord ∷ Expect token.Colon ∷ Whole ∷ Expect token.Stop ∷ Whole ∷ k) s
pi-opens s k n = record { goes_on = λ u o. forward-pi o k; deep = forward-deep s k n }

pub exists-opens : (s : State) (k : List Symbol) → next_kind s.rest ≡ token.KwExists → OpensOn token.KwExists (Sync ∷ k) (NameWord ∷ Expect token.Colon ∷ Whole ∷ Expect token.Stop ∷ Sync ∷ k) s
exists-opens s k n = record { goes_on = λ u o. sync-exists o k; deep = sync-deep s k n }

pub braces-opens : (s : State) (k : List Symbol) → next_kind s.rest ≡ token.LeftBrace → OpensOn token.LeftBrace (TypeAtom ∷ k) (Whole ∷ Close token.RightBrace s.room ∷ k) s
braces-opens s k n = record { goes_on = λ u o. type_atom-braces o k; deep = type_atom-brace_deep s k n }

pub group-opens : (s : State) (k : List Symbol) → next_kind s.rest ≡ token.LeftParen → OpensOn token.LeftParen (TypeAtom ∷ k) (Whole ∷ Close token.RightParen s.room ∷ k) s
group-opens s k n = record { goes_on = λ u o. type_atom-group o k; deep = type_atom-group_deep s k n }

pub opens_on-missed : (text : List ℕ) (c : Cursor) (kind : TokenKind) (j k : List Symbol) (e : Stop)
    → IsCursorOf text c → kind_next text c ≡ kind → OpensOn kind j k (state_of text c) → MissesOpening text kind c e → IsFaultOf text j (state_of text c) e
opens_on-missed text c kind j k e h n o m = opening-missed text c kind j e h n m o.deep

-- a name that is missed
pub name_word-missed : (text : List ℕ) (c : Cursor) (k : List Symbol) (e : Stop) → IsCursorOf text c → MissesName text c e → IsFaultOf text (NameWord ∷ k) (state_of text c) e
name_word-missed text c k e h (inl m) = subst (IsFaultOf text (NameWord ∷ k) (state_of text c)) (sym m) fault_memory
name_word-missed text c k e h (inr m) = fault-stops text c (NameWord ∷ k) e h m.0 (name-stops (state_of text c) k m.1)

pub opened-fault : {text : List ℕ} {kind : TokenKind} {j k : List Symbol} {s u : State} {e : Stop}
    → OpensOn kind j k s → Opens kind s u → IsFaultOf text k u e → IsFaultOf text j s e
opened-fault {u = u} o h f = fault-moved (o.goes_on u h) (opens-end h) f

pub opened_name-fault : {text : List ℕ} {kind : TokenKind} {n : List ℕ} {j k : List Symbol} {s u v : State} {e : Stop}
    → OpensOn kind j (NameWord ∷ k) s → Opens kind s u → TakesName u n v → IsFaultOf text k v e → IsFaultOf text j s e
opened_name-fault {k = k} {u = u} o h n f = fault-moved (o.goes_on u h ∙ name-run n k) (opens-end h ∙ name-end n) f

pub bound-fault : {text : List ℕ} {kind : TokenKind} {n : List ℕ} {j k : List Symbol} {s u : State} {e : Stop}
    → OpensOn kind j (NameWord ∷ Expect token.Colon ∷ k) s → Binds kind s n u → IsFaultOf text k u e → IsFaultOf text j s e
bound-fault {k = k} o h f =
    fault-moved (o.goes_on h.inside h.opened ∙ name-run h.named (Expect token.Colon ∷ k) ∙ expect-run h.colon k) (opens-end h.opened ∙ name-end h.named ∙ takes-end h.colon) f

pub typed-fault : {text : List ℕ} {a : WrittenType} {k : List Symbol} {s u : State} {e : Stop} → IsType s a u → IsFaultOf text k u e → IsFaultOf text (Whole ∷ k) s e
typed-fault {k = k} d f = fault-moved (type-accepts d k) (type-end d) f

pub stop-fault : {text : List ℕ} {kind : TokenKind} {k : List Symbol} {s u : State} {e : Stop} → Takes kind s u → IsFaultOf text k u e → IsFaultOf text (Expect kind ∷ k) s e
stop-fault {k = k} t f = fault-moved (expect-run t k) (takes-end t) f

-- products

factors-run : {fs : List (State × WrittenType)} {s u : State} → IsFactors s fs u → (k : List Symbol) → runs (Sync ∷ k) s ≡ runs (Sync ∷ k) u
factors-run factors_none k = refl
factors-run (factors_more {u = u} h g f) k = factors-run h k ∙ sync-factor u k (factor-no_exists g) ∙ factor-accepts g (StarTail ∷ k) ∙ star-more f k

pub product_last-fault : {text : List ℕ} {fs : List (State × WrittenType)} {k : List Symbol} {s u : State} {e : Stop}
    → IsFactors s fs u → IsFaultOf text (Sync ∷ k) u e → IsFaultOf text (Sync ∷ k) s e
product_last-fault {k = k} h f = fault-moved (factors-run h k) (factors-end h) f

pub product_factor-fault : {text : List ℕ} {fs : List (State × WrittenType)} {k : List Symbol} {s u : State} {e : Stop}
    → IsFactors s fs u → (next_kind u.rest ≡ token.KwExists → ⊥) → IsFaultOf text (Factor ∷ StarTail ∷ k) u e → IsFaultOf text (Sync ∷ k) s e
product_factor-fault {k = k} {u = u} h n f = fault-moved (factors-run h k ∙ sync-factor u k (no-exists (next_kind u.rest) n)) (factors-end h) f

-- factors and pairs

no-mark : (c : TokenKind) → (c ≡ token.Bang → ⊥) → (c ≡ token.AtSign → ⊥) → is_mark c ≡ false
no-mark token.Bang n m = absurd (n refl)
no-mark token.AtSign n m = absurd (m refl)
no-mark _ n m = refl

pub factor_bare-fault : {text : List ℕ} {k : List Symbol} {s : State} {e : Stop}
    → (next_kind s.rest ≡ token.Bang → ⊥) → (next_kind s.rest ≡ token.AtSign → ⊥) → IsFaultOf text (With ∷ k) s e → IsFaultOf text (Factor ∷ k) s e
factor_bare-fault {k = k} {s} n m f = fault-moved (factor-bare s k (no-mark (next_kind s.rest) n m)) refl f

pub marked-fault : {text : List ℕ} {kind : TokenKind} {j k : List Symbol} {s u : State} {e : Stop} → TakesOn kind j k s → Takes kind s u → IsFaultOf text k u e → IsFaultOf text j s e
marked-fault {u = u} o h f = fault-moved (o u h) (takes-end h) f

pub with_first-fault : {text : List ℕ} {k : List Symbol} {s : State} {e : Stop} → IsFaultOf text (TypeAtom ∷ AmpTail ∷ k) s e → IsFaultOf text (With ∷ k) s e
with_first-fault {k = k} {s} f = fault-moved (with-atom s k) refl f

pub with_sign-fault : {text : List ℕ} {a : WrittenType} {k : List Symbol} {s : State} {c : Cursor} {e : Stop}
    → IsTypeAtom s a (state_of text c) → IsCursorOf text c → kind_next text c ≡ token.Amp → MissesOpening text token.Amp c e → IsFaultOf text (With ∷ k) s e
with_sign-fault {text} {k = k} {s} {c} {e} d h n m =
    fault-moved (with-atom s k ∙ type_atom-accepts d (AmpTail ∷ k)) (type_atom-end d)
    (opening-missed text c token.Amp (AmpTail ∷ k) e h n m (amp-deep (state_of text c) k n))

pub with_next-fault : {text : List ℕ} {a : WrittenType} {k : List Symbol} {s u v : State} {e : Stop}
    → IsTypeAtom s a u → Opens token.Amp u v → IsFaultOf text (With ∷ k) v e → IsFaultOf text (With ∷ k) s e
with_next-fault {k = k} {s} d o f = fault-moved (with-atom s k ∙ type_atom-accepts d (AmpTail ∷ k) ∙ amp-more o k) (type_atom-end d ∙ opens-end o) f

pub ruleset forward_opening_faults = (forward_opening-fault)

pub ruleset backward_opening_faults = (back_opening-fault)

pub ruleset binder_faults = (opens_on-missed, opened-fault, opened_name-fault, name_word-missed, expect-missed)

pub ruleset type_faults = (type_first-fault, memory-fault)

pub ruleset forward_faults = (forward_first-fault, memory-fault)

pub ruleset memory_faults = (memory-fault)

pub ruleset factor_faults = (factor_bare-fault)

pub ruleset marked_faults = (taken-missed, memory-fault)

pub ruleset with_faults = (with_first-fault, memory-fault)

pub ruleset enclosed_faults = (opens_on-missed)
