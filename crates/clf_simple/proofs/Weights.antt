-- Weights of the parts of what is written.
use Rattle.std.proofs.Common.{◌≡◌, ℕ, zero, suc, ◌+◌, ◌<◌, ◌≤◌, List, [], ◌∷◌, ◌++◌, map, length, get_or, sym, arith, subst}
use Rattle.clf_syntax.specs.declared.tree.SimpleEntry.{SimpleEntry}
use Rattle.clf_syntax.specs.PlainSimple.{plain_simple_entry, simple_telescope_of}
use Rattle.clf_simple.specs.declared.expansion.Noted.{Noted}
use Rattle.clf_simple.specs.Noted.{PlainNoted}
use Rattle.clf_simple.specs.Roots.{plain_noted, plain_notes}
use Rattle.clf_simple.specs.Weight.{weight, entries_weight, note_weight, notes_weight}

pub notes_more : (qs : List PlainNoted) (a : PlainNoted) → notes_weight (qs ++ a ∷ []) ≡ notes_weight qs + note_weight a
notes_more [] a = omega arith
notes_more (b ∷ qs) a = let h = notes_more qs a in omega arith

pub note_within : (ns : List Noted) (i : ℕ) (n : Noted) → i < length ns → n ≡ get_or ns i n → note_weight (plain_noted n) ≤ notes_weight (plain_notes ns)
note_within [] i n h e = absurd (omega arith)
note_within (x ∷ ns) zero n h e = subst (λ y. note_weight (plain_noted y) ≤ notes_weight (plain_notes (x ∷ ns))) (sym e) (omega arith)
note_within (x ∷ ns) (suc i) n h e = let l = note_within ns i n (omega arith) e in omega arith

pub entry_within : (es : List SimpleEntry) (i : ℕ) (e : SimpleEntry) → i < length es → e ≡ get_or es i e → weight (plain_simple_entry e).1 + 1 ≤ entries_weight (simple_telescope_of (map plain_simple_entry es))
entry_within [] i e h q = absurd (omega arith)
entry_within (x ∷ es) zero e h q = subst (λ y. weight (plain_simple_entry y).1 + 1 ≤ entries_weight (simple_telescope_of (map plain_simple_entry (x ∷ es)))) (sym q) (omega arith)
entry_within (x ∷ es) (suc i) e h q = let l = entry_within es i e (omega arith) q in omega arith
