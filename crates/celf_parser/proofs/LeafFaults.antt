-- Faults of types of one token, and of families.
use Rattle.std.proofs.Common.{◌≡◌, ◌∙◌, ℕ, List, ◌∷◌, Bool, true, false, codes, refl, sym, ap}
use Rattle.celf_lexer.specs.declared.token.TokenKind.{TokenKind}
use Rattle.celf_lexer.specs.declared.token.TokenKind.TheVariants as token
use Rattle.std.proofs.lemmas.Bool.{true≢false}
use Rattle.celf_grammar.specs.State.{State, next_kind, Ends}
use Rattle.celf_grammar.specs.Grammar.{IsFamilyName}
use Rattle.celf_grammar.specs.Machine.{Symbol, FamilyName, Indices, TypeAtom, runs}
use Rattle.celf_grammar.proofs.TokenRuns.{not-number}
use Rattle.celf_grammar.proofs.ObjectRuns.{begins_family, family-stops}
use Rattle.celf_grammar.proofs.Accepts.{family-accepts}
use Rattle.celf_grammar.proofs.TypeRuns.{begins_type_atom, type_atom-stops, type_atom-family}
use Rattle.celf_cursor.specs.declared.cursor.Cursor.{Cursor}
use Rattle.celf_cursor.specs.declared.stop.Stop.{Stop}
use Rattle.celf_cursor.specs.Cursor.{state_of, kind_next, IsCursorOf, MissesWord}
use Rattle.celf_cursor.specs.Faults.{IsFaultOf}
use Rattle.celf_cursor.proofs.Faulty.{fault-moved, fault-stops, taken-missed}
use Rattle.celf_parser.specs.Going.{begins_no_family}
use Rattle.celf_parser.proofs.Ends.{family-end}
use Rattle.celf_objects.proofs.PatternFaults.{not-one-word, memory-fault}

pub one-fault : (text : List ℕ) (c : Cursor) (k : List Symbol) (e : Stop)
    → IsCursorOf text c → kind_next text c ≡ token.Number → MissesWord text token.Number (codes "1") c e → IsFaultOf text (TypeAtom ∷ k) (state_of text c) e
one-fault text c k e h n m =
    fault-stops text c (TypeAtom ∷ k) e h m.0 (type_atom-stops (state_of text c) k (not-one-word text c e n m) (ap begins_type_atom n))

-- families

no-other : (c : TokenKind) → begins_no_family c ≡ false → begins_family c ≡ false → begins_type_atom c ≡ false
no-other token.KwType e f = e
no-other token.TopSign e f = e
no-other token.LeftBrace e f = e
no-other token.LeftParen e f = e
no-other (token.Name c) e f = f
no-other token.ConstName e f = f
no-other _ e f = refl

no-number : (c : TokenKind) → begins_no_family c ≡ false → c ≡ token.Number → ⊥
no-number c e f = true≢false (sym (ap begins_no_family f) ∙ e)

family-first : (s : State) (k : List Symbol) → Ends begins_no_family s → runs (TypeAtom ∷ k) s ≡ runs (FamilyName ∷ Indices ∷ k) s
family-first s k e = by_kind (begins_family (next_kind s.rest)) refl
  where
    by_kind : (b : Bool) → begins_family (next_kind s.rest) ≡ b → runs (TypeAtom ∷ k) s ≡ runs (FamilyName ∷ Indices ∷ k) s
    by_kind true b = type_atom-family s k b
    by_kind false b = type_atom-stops s k (not-number s (no-number (next_kind s.rest) e)) (no-other (next_kind s.rest) e b) ∙ sym (family-stops s (Indices ∷ k) b)

pub family_name-fault : {text : List ℕ} {k : List Symbol} {s : State} {e : Stop}
    → Ends begins_no_family s → ((j : List Symbol) → IsFaultOf text (FamilyName ∷ j) s e) → IsFaultOf text (TypeAtom ∷ k) s e
family_name-fault {k = k} {s} n f = fault-moved (family-first s k n) refl (f (Indices ∷ k))

pub family_indices-fault : {text : List ℕ} {n : List ℕ} {d : Bool} {k : List Symbol} {s u : State} {e : Stop}
    → Ends begins_no_family s → IsFamilyName s n d u → ((j : List Symbol) → IsFaultOf text (Indices ∷ j) u e) → IsFaultOf text (TypeAtom ∷ k) s e
family_indices-fault {k = k} {s} n d f = fault-moved (family-first s k n ∙ family-accepts d (Indices ∷ k)) (family-end d) (f k)

pub family-begins : (c : TokenKind) → (c ≡ token.LeftParen → ⊥) → (c ≡ token.LeftBrace → ⊥) → (c ≡ token.KwType → ⊥) → (c ≡ token.TopSign → ⊥)
    → (c ≡ token.Number → ⊥) → begins_no_family c ≡ false
family-begins token.LeftParen p b w t n = absurd (p refl)
family-begins token.LeftBrace p b w t n = absurd (b refl)
family-begins token.KwType p b w t n = absurd (w refl)
family-begins token.TopSign p b w t n = absurd (t refl)
family-begins token.Number p b w t n = absurd (n refl)
family-begins _ p b w t n = refl

pub ruleset family_faults = (family_name-fault, family_indices-fault, memory-fault)

pub ruleset taken_faults = (taken-missed, memory-fault)

pub ruleset one_faults = (one-fault, memory-fault)

pub ruleset atom_kinds = (family-begins)
