-- A new entry goes after all others.
use Rattle.std.proofs.Common.{◌≡◌, ℕ, suc, Bool, true, false, if◌then◌else◌, List, [], ◌∷◌, ◌++◌, map, Option, None, Some, is_some, option_map, string_bytes, refl, sym, ap, ◌∙◌, true≢false}
use Rattle.std.specs.declared.string.String.{String}
use Rattle.std.specs.String.{string_eq}
use Rattle.std.proofs.lemmas.List.{map-append}
use Rattle.indexmap.specs.IndexMap.{insert_entry}
use Rattle.clf_syntax.specs.Word.{same_bytes}
use Rattle.clf_syntax.specs.declared.tree.Simple.{Simple}
use Rattle.clf_syntax.specs.PlainSimple.{plain_simple}
use Rattle.clf_sig.specs.declared.entry.Entry.{Entry}
use Rattle.clf_sig.specs.Entry.{place_of, simple_types, simple_class}
use Rattle.clf_sig.specs.Signature.{Declared, plain_class, plain_signature}
use Rattle.clf_sig.specs.Keys.{named}
use Rattle.clf_sig.proofs.Names.{same_bytes-bytes_eq, plain_signature-append}

under : (b : Bool) (r : Option ℕ) → is_some (if b then Some 0 else option_map suc r) ≡ false → (b ≡ false) × (is_some r ≡ false)
under true r h = absurd (true≢false h)
under false None h = (refl, refl)
under false (Some i) h = absurd (true≢false h)

module _ {Z : Type 0} where
  behind : (b : Bool) (key : String Z) (v : Entry) (e : String Z × Entry) (es rest : List (String Z × Entry)) (sig : Declared) → b ≡ false → named rest ≡ sig
      → named (if b then (e.0, v) ∷ es else e ∷ rest) ≡ (string_bytes e.0, e.1) ∷ sig
  behind true key v e es rest sig h q = absurd (true≢false h)
  behind false key v e es rest sig h q = ap (λ s. (string_bytes e.0, e.1) ∷ s) q

  pub inserted : (es : List (String Z × Entry)) (key : String Z) (v : Entry) → is_some (place_of (string_bytes key) (plain_signature (named es))) ≡ false
      → named (insert_entry string_eq es key v) ≡ named es ++ (string_bytes key, v) ∷ []
  inserted [] key v p = refl
  inserted (e ∷ es) key v p =
      let q = under (same_bytes (string_bytes e.0) (string_bytes key)) (place_of (string_bytes key) (plain_signature (named es))) p in
      let apart : string_eq key e.0 ≡ false = sym (same_bytes-bytes_eq (string_bytes e.0) (string_bytes key)) ∙ q.0 in
      behind (string_eq key e.0) key v e es (insert_entry string_eq es key v) (named es ++ (string_bytes key, v) ∷ []) apart (inserted es key v q.1)

pub grown : (simples : List Simple) (sig : Declared) (simple : Simple) (name : List ℕ) (e : Entry)
    → map plain_simple simples ≡ simple_types (plain_signature sig) → plain_simple simple ≡ simple_class (plain_class e.class)
    → map plain_simple (simples ++ simple ∷ []) ≡ simple_types (plain_signature (sig ++ (name, e) ∷ []))
grown simples [] simple name e h q =
    map-append plain_simple simples (simple ∷ []) ∙ ap (λ s. s ++ plain_simple simple ∷ []) h ∙ ap (λ s. s ∷ []) q
grown simples (d ∷ sig) simple name e h q =
    map-append plain_simple simples (simple ∷ [])
    ∙ ap (λ s. s ++ plain_simple simple ∷ []) h
    ∙ ap (λ s. simple_types (plain_signature (d ∷ sig)) ++ s ∷ []) q
    ∙ sym (map-append (λ p. simple_class p.1.class) (plain_signature (d ∷ sig)) (plain_signature ((name, e) ∷ [])))
    ∙ sym (ap simple_types (plain_signature-append (d ∷ sig) ((name, e) ∷ [])))
