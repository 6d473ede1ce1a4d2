-- A pattern against a telescope, place by place.
use Rattle.std.proofs.Common.{◌≡◌, ℕ, suc, ◌+◌, ◌<◌, ◌≤◌, ◌==◌, true, false, if◌then◌else◌, List, [], ◌∷◌, length, map, drop, get_or, Some, refl, sym, ap, subst, ◌∙◌, add-one, arith}
use Rattle.std.proofs.Math.Seq.{drop-cons}
use Rattle.clf_syntax.specs.declared.tree.Mode.{Mode}
use Rattle.clf_syntax.specs.declared.tree.Mode.TheVariants.{Persistent}
use Rattle.std.proofs.lemmas.List.{length-map, drop_all, get_or_default}
use Rattle.clf_syntax.specs.declared.tree.Tele.{Tele, out-Tele}
use Rattle.clf_syntax.specs.declared.tree.TeleEntry.{TeleEntry, out-TeleEntry}
use Rattle.clf_syntax.specs.TypeTree.{PlainType, telescope_of}
use Rattle.clf_syntax.specs.PlainTypes.{plain_tele, plain_tele_entry, plain-tele, plain-tele-entry}
use Rattle.use_contexts.specs.Context.{telescope_modes}
use Rattle.clf_syntax.specs.Modes.{same_mode}
use Rattle.clf_rules.specs.Refusal.{width, mode_differs}
use Rattle.clf_rules.specs.Explained.{telescope_width}
use Rattle.clf_decision.specs.Outcome.{passed, refused}
use Rattle.clf_decision.specs.Checking.{first_other_mode, same_modes_left, pattern_left}
use Rattle.clf_decision.proofs.Tests.{itself-number, numbers-differ}

pub modes_of : (xs : List (Mode × PlainType)) → telescope_modes (telescope_of xs) ≡ map (λ (e : Mode × PlainType). e.0) xs
modes_of [] = refl
modes_of (x ∷ xs) = ap (λ ms. x.0 ∷ ms) (modes_of xs)

-- the modes of the entries of a telescope
abbrev pub wanted_modes : List TeleEntry → List Mode
wanted_modes es = telescope_modes (telescope_of (map plain_tele_entry es))

module _ (entries : List TeleEntry) (ms : List Mode) (i : ℕ) (x : TeleEntry) (m : Mode) (l : i < length entries) (e : x ≡ get_or entries i x) (k : i < length ms) (d : m ≡ get_or ms i m) where
  wanted_from : wanted_modes (drop i entries) ≡ (out-TeleEntry x).mode ∷ wanted_modes (drop (suc i) entries)
  wanted_from = ap wanted_modes (drop-cons entries i x l ∙ ap (λ y. y ∷ drop (suc i) entries) (sym e))
      ∙ ap (λ p. p.0 ∷ wanted_modes (drop (suc i) entries)) (plain-tele-entry x)

  found_from : drop i ms ≡ m ∷ drop (suc i) ms
  found_from = drop-cons ms i m k ∙ ap (λ y. y ∷ drop (suc i) ms) (sym d)

  here : first_other_mode (wanted_modes (drop i entries)) (drop i ms)
      ≡ (if same_mode m (out-TeleEntry x).mode then first_other_mode (wanted_modes (drop (suc i) entries)) (drop (suc i) ms) else Some ((out-TeleEntry x).mode, m))
  here = ap (λ ws. first_other_mode ws (drop i ms)) wanted_from ∙ ap (first_other_mode ((out-TeleEntry x).mode ∷ wanted_modes (drop (suc i) entries))) found_from

  pub modes_agree : same_mode m (out-TeleEntry x).mode ≡ true → first_other_mode (wanted_modes (drop i entries)) (drop i ms) ≡ first_other_mode (wanted_modes (drop (i + 1) entries)) (drop (i + 1) ms)
  modes_agree p = rw add-one (here ∙ ap (λ b. if b then first_other_mode (wanted_modes (drop (suc i) entries)) (drop (suc i) ms) else Some ((out-TeleEntry x).mode, m)) p)

  pub modes_differ : same_mode m (out-TeleEntry x).mode ≡ false → first_other_mode (wanted_modes (drop i entries)) (drop i ms) ≡ Some ((out-TeleEntry x).mode, m)
  modes_differ p = here ∙ ap (λ b. if b then first_other_mode (wanted_modes (drop (suc i) entries)) (drop (suc i) ms) else Some ((out-TeleEntry x).mode, m)) p

-- ---- the whole of a pattern
wanted_tele : (t : Tele) → telescope_modes (plain_tele t) ≡ wanted_modes (out-Tele t).entries
wanted_tele t = ap telescope_modes (plain-tele t)

pub wanted_width : (t : Tele) → telescope_width (plain_tele t) ≡ length (out-Tele t).entries
wanted_width t = ap length (wanted_tele t ∙ modes_of (map plain_tele_entry (out-Tele t).entries))
    ∙ length-map (map plain_tele_entry (out-Tele t).entries) (λ (e : Mode × PlainType). e.0) ∙ length-map (out-Tele t).entries plain_tele_entry

module _ (ms : List Mode) (t : Tele) where
  pub pattern_of_width : length ms ≡ length (out-Tele t).entries → pattern_left ms (plain_tele t) ≡ same_modes_left (first_other_mode (wanted_modes (out-Tele t).entries) ms)
  pattern_of_width e =
      let w = wanted_width t in
      let n : (length ms == telescope_width (plain_tele t)) ≡ true = subst (λ k. (length ms == k) ≡ true) (e ∙ sym w) (itself-number (length ms)) in
      ap (λ b. if b then same_modes_left (first_other_mode (telescope_modes (plain_tele t)) ms) else refused [] (width (telescope_width (plain_tele t)) (length ms))) n
      ∙ ap (λ ws. same_modes_left (first_other_mode ws ms)) (wanted_tele t)

  pub pattern_of_other_width : (length ms ≡ length (out-Tele t).entries → ⊥) → pattern_left ms (plain_tele t) ≡ refused [] (width (length (out-Tele t).entries) (length ms))
  pattern_of_other_width f =
      let w = wanted_width t in
      let n : (length ms == telescope_width (plain_tele t)) ≡ false = numbers-differ (length ms) (telescope_width (plain_tele t)) (λ e. f (e ∙ w)) in
      ap (λ b. if b then same_modes_left (first_other_mode (telescope_modes (plain_tele t)) ms) else refused [] (width (telescope_width (plain_tele t)) (length ms))) n
      ∙ ap (λ k. refused [] (width k (length ms))) w

module _ (ms : List Mode) (t : Tele) (es : List TeleEntry) (p : es ≡ (out-Tele t).entries) (n : length ms ≡ length es) where
  as_many : length ms ≡ length (out-Tele t).entries
  as_many = n ∙ ap length p

  -- the modes before a place are the same
  module _ (i : ℕ) (v : first_other_mode (wanted_modes (out-Tele t).entries) ms ≡ first_other_mode (wanted_modes (drop i (out-Tele t).entries)) (drop i ms)) where
    pub pattern_passes : length ms ≤ i → pattern_left ms (plain_tele t) ≡ passed tt
    pattern_passes l =
        let s = as_many in
        pattern_of_width ms t s ∙ ap same_modes_left (v ∙ ap (λ ks. first_other_mode (wanted_modes ks) (drop i ms)) (drop_all i (out-Tele t).entries (omega (arith, s, l))))

    module _ (d : TeleEntry) (k : i < length ms) where
      there : i < length (out-Tele t).entries
      there = let s = as_many in omega (arith, s, k)

      wanted_there : get_or es i d ≡ get_or (out-Tele t).entries i (get_or es i d)
      wanted_there = get_or_default es i d _ (let s = n in omega (arith, s, k)) ∙ ap (λ ks. get_or ks i (get_or es i d)) p

      pub pattern_agrees : same_mode (get_or ms i Persistent) (out-TeleEntry (get_or es i d)).mode ≡ true
          → first_other_mode (wanted_modes (out-Tele t).entries) ms ≡ first_other_mode (wanted_modes (drop (i + 1) (out-Tele t).entries)) (drop (i + 1) ms)
      pattern_agrees q = v ∙ modes_agree (out-Tele t).entries ms i (get_or es i d) (get_or ms i Persistent) there wanted_there k (get_or_default ms i Persistent _ k) q

      pub pattern_differs : same_mode (get_or ms i Persistent) (out-TeleEntry (get_or es i d)).mode ≡ false
          → pattern_left ms (plain_tele t) ≡ refused [] (mode_differs (out-TeleEntry (get_or es i d)).mode (get_or ms i Persistent))
      pattern_differs q = pattern_of_width ms t as_many
          ∙ ap same_modes_left (v ∙ modes_differ (out-Tele t).entries ms i (get_or es i d) (get_or ms i Persistent) there wanted_there k (get_or_default ms i Persistent _ k) q)
