-- The text of an object may stand after a <: it makes no other sign of it.
use Rattle.std.proofs.Common.{ℕ, ◌≡◌, ◌==◌, Bool, true, false, refl, Some, List, [], ◌∷◌, ◌++◌, append_assoc, slice_get, codes, IsTrue}
use Rattle.std.proofs.lemmas.Bool.{and_parts, and_right}
use Rattle.clf_syntax.specs.declared.tree.Head.TheVariants.{Const, Var, Meta}
use Rattle.clf_syntax.specs.Tree.{PlainObject, lam, pair, unit, monadic, atomic, hole, PlainNeutral, head_alone, app, fst, snd}
use Rattle.clf_syntax.specs.Word.{begins_word, goes_on, is_word_rest, is_word, is_declarable}
use Rattle.clf_sig.specs.Entry.{PlainEntry, PlainSignature}
use Rattle.celf_lexer.proofs.Spelling.{other_byte, declarable-word}
use Rattle.clf_printer.specs.Text.{when, has_dollar, written_name, place_text, argument_text, is_atom, object_text, neutral_text}
use Rattle.celf_spelling.specs.Printable.{IsPrintablePlace, HasNames, NeutralHasNames}
use Rattle.celf_spelling.proofs.Signs.{begins_greater, stays_less}

name-stays : (name rest : List ℕ) → is_word name ≡ true → begins_greater rest ≡ false → stays_less (name ++ rest) ≡ true
name-stays [] rest h ends = absurd (cc)
name-stays (b ∷ []) rest h ends =
    let begins : begins_word b ≡ true = (and_parts (begins_word b) true h).0 in
    rw (other_byte (λ x. begins_word x) b 62 begins refl, other_byte (λ x. begins_word x) b 45 begins refl, ends, and_right (b == 84) false refl)
name-stays (b ∷ c ∷ cs) rest h ends =
    let parts = and_parts (begins_word b) (is_word_rest (c ∷ cs)) h in
    let more : goes_on c cs ≡ true = (and_parts (goes_on c cs) (is_word_rest cs) parts.1).0 in
    rw (other_byte (λ x. begins_word x) b 62 parts.0 refl, other_byte (λ x. begins_word x) b 45 parts.0 refl, other_byte (λ x. goes_on x cs) c 62 more refl, and_right (b == 84) false refl)

written-stays : (name : List ℕ) (e : PlainEntry) (rest : List ℕ) → IsTrue (is_declarable name) → begins_greater rest ≡ false → stays_less (written_name name e ++ rest) ≡ true
written-stays name e rest fit ends = go (has_dollar name e)
  where
    go : (dollar : Bool) → stays_less (when dollar (codes "$") ++ name ++ rest) ≡ true
    go true = refl
    go false = name-stays name rest (declarable-word name fit) ends

-- the text of a place is the name of its entry
pub place_text-entry : (sig : PlainSignature) (k : ℕ) (e : List ℕ × PlainEntry) → slice_get sig k ≡ Some e → place_text sig k ≡ written_name e.0 e.1
place_text-entry sig k e found = rw found

module _ (sig : PlainSignature) (metas : List ℕ) where
  place-stays : (c : ℕ) (rest : List ℕ) → IsPrintablePlace sig c → begins_greater rest ≡ false → stays_less (place_text sig c ++ rest) ≡ true
  place-stays c rest h ends = rw (place_text-entry sig c h.0 h.1) (written-stays h.0.0 h.0.1 rest h.2 ends)

  neutral-stays : (r : PlainNeutral) (level : ℕ) (rest : List ℕ) → NeutralHasNames sig r → begins_greater rest ≡ false → stays_less (neutral_text sig metas level r ++ rest) ≡ true
  neutral-stays (head_alone (Const c)) level rest h ends = place-stays c rest h ends
  neutral-stays (head_alone (Var i)) level rest h ends = refl
  neutral-stays (head_alone (Meta k)) level rest h ends = refl
  neutral-stays (app m r n) level rest h ends =
      let argument : List ℕ = argument_text m (is_atom n) (object_text sig metas level n) in
      rw (append_assoc (neutral_text sig metas level r) argument rest) (neutral-stays r level (argument ++ rest) h.0 refl)
  neutral-stays (fst r) level rest h ends = refl
  neutral-stays (snd r) level rest h ends = refl

  pub object-stays : (n : PlainObject) (level : ℕ) (rest : List ℕ) → HasNames sig n → begins_greater rest ≡ false → stays_less (object_text sig metas level n ++ rest) ≡ true
  object-stays (lam m b) level rest h ends = refl
  object-stays (pair l r) level rest h ends = refl
  object-stays unit level rest h ends = refl
  object-stays (monadic e) level rest h ends = refl
  object-stays (atomic r) level rest h ends = neutral-stays r level rest h ends
  object-stays hole level rest h ends = refl
