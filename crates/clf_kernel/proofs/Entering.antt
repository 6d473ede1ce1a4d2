-- A step is entered: the entries of its telescope become the newest variables.
use Rattle.std.proofs.Common.{◌≡◌, ℕ, ◌==◌, Bool, true, false, if◌then◌else◌, List, [], ◌∷◌, ◌++◌, length, map, reverse, refl, sym, ap, ◌∙◌, arith}
use Rattle.std.proofs.lemmas.List.{append_assoc, map-append, reverse-append}
use Rattle.clf_syntax.specs.declared.tree.Mode.{Mode}
use Rattle.clf_syntax.specs.declared.tree.Tele.{Tele, out-Tele}
use Rattle.clf_syntax.specs.declared.tree.TeleEntry.{TeleEntry}
use Rattle.clf_syntax.specs.TypeTree.{PlainType, telescope_of}
use Rattle.clf_syntax.specs.PlainTypes.{plain_tele, plain_tele_entry, plain-tele}
use Rattle.use_contexts.specs.Context.{Context, with_entries, telescope_modes}
use Rattle.clf_rules.specs.Refusal.{width}
use Rattle.clf_rules.specs.Explained.{telescope_width}
use Rattle.clf_decision.specs.Outcome.{passed, refused}
use Rattle.clf_decision.specs.Checking.{pattern_left, same_modes_left, first_other_mode}
use Rattle.clf_kernel.proofs.Patterns.{wanted_width}

with_telescope : (xs : List (Mode × PlainType)) (g : Context) → with_entries (telescope_of xs) g ≡ reverse xs ++ g
with_telescope [] g = refl
with_telescope (x ∷ xs) g = with_telescope xs (x ∷ g) ∙ sym (ap (λ l. l ++ g) (reverse-append (x ∷ []) xs) ∙ append_assoc (reverse xs) (x ∷ []) g)

-- the context with the entries of a telescope
pub entered_context : (old : List TeleEntry) (t : Tele) → reverse (map plain_tele_entry (old ++ (out-Tele t).entries)) ≡ with_entries (plain_tele t) (reverse (map plain_tele_entry old))
entered_context old t =
    let es = (out-Tele t).entries in
    ap reverse (map-append plain_tele_entry old es) ∙ reverse-append (map plain_tele_entry old) (map plain_tele_entry es)
    ∙ sym (with_telescope (map plain_tele_entry es) (reverse (map plain_tele_entry old))) ∙ ap (λ u. with_entries u (reverse (map plain_tele_entry old))) (sym (plain-tele t))

same-number : (i v : ℕ) → (i == v) ≡ true → i ≡ v
same-number i v e = grind arith

-- a pattern that fits has as many modes as the telescope has entries
pub pattern_width : (ms : List Mode) (t : Tele) → pattern_left ms (plain_tele t) ≡ passed tt → length ms ≡ length (out-Tele t).entries
pattern_width ms t p = by (length ms == telescope_width (plain_tele t)) (same-number (length ms) (telescope_width (plain_tele t))) p ∙ wanted_width t
  where
    by : (b : Bool) → (b ≡ true → length ms ≡ telescope_width (plain_tele t))
        → (if b then same_modes_left (first_other_mode (telescope_modes (plain_tele t)) ms) else refused [] (width (telescope_width (plain_tele t)) (length ms))) ≡ passed tt → length ms ≡ telescope_width (plain_tele t)
    by true f q = f refl
    by false f q = absurd (cc)
