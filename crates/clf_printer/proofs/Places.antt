-- The name of a place, by the name and the entry there.
use Rattle.std.proofs.Common.{ℕ, zero, suc, ◌≡◌, ◌||◌, nat_lt, slice_get, refl, ap, Some, None, List, [], ◌∷◌, ◌++◌, codes}
use Rattle.clf_syntax.specs.Word.{is_variable_word}
use Rattle.clf_sig.specs.Entry.{PlainSignature, PlainEntry, names, entry_at}
use Rattle.clf_printer.specs.Text.{when, place_text}

named : (sig : PlainSignature) (k : ℕ) (name : List ℕ) (entry : PlainEntry) → Some name ≡ slice_get (names sig) k → Some entry ≡ entry_at sig k → slice_get sig k ≡ Some (name, entry)
named [] k name entry e f = cc
named (x ∷ xs) zero name entry e f = let g : x.0 ≡ name = cc in let h : x.1 ≡ entry = cc in ap Some (λ i. (g i, h i))
named (x ∷ xs) (suc k) name entry e f = named xs k name entry e f

no_place : (sig : PlainSignature) (k : ℕ) → None ≡ slice_get (names sig) k → slice_get sig k ≡ None
no_place [] k e = refl
no_place (x ∷ xs) zero e = cc
no_place (x ∷ xs) (suc k) e = no_place xs k e

no_entry : (sig : PlainSignature) (k : ℕ) → None ≡ entry_at sig k → slice_get sig k ≡ None
no_entry [] k e = refl
no_entry (x ∷ xs) zero e = cc
no_entry (x ∷ xs) (suc k) e = no_entry xs k e

pub place_text-named : (sig : PlainSignature) (k : ℕ) (name : List ℕ) (entry : PlainEntry) → Some name ≡ slice_get (names sig) k → Some entry ≡ entry_at sig k
    → place_text sig k ≡ when (nat_lt 0 entry.implicit || is_variable_word name) (codes "$") ++ name
place_text-named sig k name entry e f = rw (named sig k name entry e f) refl

pub place_text-no_name : (sig : PlainSignature) (k : ℕ) → None ≡ slice_get (names sig) k → place_text sig k ≡ codes "$"
place_text-no_name sig k e = rw (no_place sig k e) refl

pub place_text-no_entry : (sig : PlainSignature) (k : ℕ) → None ≡ entry_at sig k → place_text sig k ≡ codes "$"
place_text-no_entry sig k e = rw (no_entry sig k e) refl

pub ruleset places = (place_text-no_name, place_text-no_entry)
