-- What the keys of the map say of the names of the signature.
use Rattle.std.proofs.Common.{◌≡◌, ◌≢◌, ℕ, zero, suc, ◌+◌, ◌<◌, Bool, true, false, cond, if◌then◌else◌, ◌&&◌, ◌==◌, List, [], ◌∷◌, ◌++◌, length, slice_get, slice_index_or, position, Option, None, Some, IsSome, IfSome, is_some, option_map, string_bytes, ◌↔◌, refl, sym, ap, subst, ◌∙◌, true≢false, arith}
use Rattle.std.specs.declared.string.String.{String}
use Rattle.std.specs.List.{position_from, AllByRecursion, IsDistinct}
use Rattle.std.specs.Map.{keys_of}
use Rattle.std.specs.Str.{bytes_eq}
use Rattle.std.specs.String.{string_eq}
use Rattle.std.specs.Bool.{Decides}
use Rattle.std.proofs.lemmas.Bool.Decides.{same_from_decides, Decides-eqb, Decides-and, Decides-like, not_from_Decides}
use Rattle.std.proofs.lemmas.Slice.Eq.{bytes_eq-Decides}
use Rattle.std.proofs.lemmas.Iterator.Adapters.{position_from-zero}
use Rattle.std.proofs.lemmas.List.{map-append}
use Rattle.std.proofs.lemmas.Map.Keys.{IsDistinct-head, IsDistinct-tail}
use Rattle.clf_syntax.specs.Word.{same_bytes}
use Rattle.clf_sig.specs.declared.entry.Entry.{Entry}
use Rattle.clf_sig.specs.Entry.{PlainSignature, names, place_of, entry_at, class_at, IsNamed, HasDistinctNames}
use Rattle.clf_sig.specs.Signature.{Declared, entries, plain_entry, plain_class, plain_signature}
use Rattle.clf_sig.specs.Keys.{named}

-- ---- bytes
pub same_bytes-Decides : (a b : List ℕ) → Decides (same_bytes a b) (a ≡ b)
same_bytes-Decides [] [] = (λ _. refl, λ _. refl)
same_bytes-Decides [] (c ∷ cs) = (λ h. cc, λ h. cc)
same_bytes-Decides (b ∷ bs) [] = (λ h. cc, λ h. cc)
same_bytes-Decides (b ∷ bs) (c ∷ cs) =
    let parts = Decides-and (b == c) (same_bytes bs cs) (Decides-eqb b c) (same_bytes-Decides bs cs) in
    let join : (b ≡ c) × (bs ≡ cs) → b ∷ bs ≡ c ∷ cs = λ h. cc (h.0, h.1) in
    let part : b ∷ bs ≡ c ∷ cs → (b ≡ c) × (bs ≡ cs) = λ h. (cc, cc) in
    Decides-like (b == c && same_bytes bs cs) join part parts

pub same_bytes-bytes_eq : (a b : List ℕ) → same_bytes a b ≡ bytes_eq b a
same_bytes-bytes_eq a b =
    same_from_decides (same_bytes a b) (bytes_eq b a) (same_bytes-Decides a b) (Decides-like (bytes_eq b a) (λ e. sym e) (λ e. sym e) (bytes_eq-Decides b a))

-- ---- the place of a name
later : (i : ℕ) (r : Option ℕ) → option_map (λ k. (i + 1) + k) r ≡ option_map (λ k. i + k) (option_map suc r)
later i None = refl
later i (Some k) = ap Some (omega arith)

from_zero : (r : Option ℕ) → option_map (λ k. 0 + k) r ≡ r
from_zero None = refl
from_zero (Some k) = ap Some (omega arith)

here : (i : ℕ) (b : Bool) (rest : Option ℕ) (r : Option ℕ) → rest ≡ option_map (λ k. (i + 1) + k) r
    → cond b (Some i) rest ≡ option_map (λ k. i + k) (if b then Some 0 else option_map suc r)
here i true rest r h = ap Some (omega arith)
here i false rest r h = h ∙ later i r

module _ {Z : Type 0} (name : List ℕ) where
  from : (i : ℕ) (es : List (String Z × Entry)) → position_from (λ k. bytes_eq name (string_bytes k)) i (keys_of es) ≡ option_map (λ k. i + k) (place_of name (plain_signature (named es)))
  from i [] = refl
  from i (e ∷ es) =
      rw (same_bytes-bytes_eq (string_bytes e.0) name)
      (here i (bytes_eq name (string_bytes e.0)) (position_from (λ k. bytes_eq name (string_bytes k)) (i + 1) (keys_of es)) (place_of name (plain_signature (named es))) (from (i + 1) es))

  pub place_of-keys : (es : List (String Z × Entry)) → position (λ k. bytes_eq name (string_bytes k)) (keys_of es) ≡ place_of name (plain_signature (named es))
  place_of-keys es = position_from-zero (λ k. bytes_eq name (string_bytes k)) (keys_of es) ∙ from 0 es ∙ from_zero (place_of name (plain_signature (named es)))

-- the place of a name has that name
found_at : (name : List ℕ) (sig : PlainSignature) (k : ℕ) → place_of name sig ≡ Some k → slice_get (names sig) k ≡ Some name
found_at name [] k h = cc
found_at name (e ∷ es) k h = by (same_bytes e.0 name) refl h (λ i q. found_at name es i q)
  where
    tail : (r : Option ℕ) → place_of name es ≡ r → option_map suc r ≡ Some k → ((i : ℕ) → place_of name es ≡ Some i → slice_get (names es) i ≡ Some name) → slice_get (e.0 ∷ names es) k ≡ Some name
    tail None q p again = cc
    tail (Some i) q p again = let at : suc i ≡ k = cc in subst (λ m. slice_get (e.0 ∷ names es) m ≡ Some name) at (again i q)

    by : (b : Bool) → same_bytes e.0 name ≡ b → (if b then Some 0 else option_map suc (place_of name es)) ≡ Some k
        → ((i : ℕ) → place_of name es ≡ Some i → slice_get (names es) i ≡ Some name) → slice_get (e.0 ∷ names es) k ≡ Some name
    by true q p again = let at : 0 ≡ k = cc in subst (λ m. slice_get (e.0 ∷ names es) m ≡ Some name) at (ap Some ((same_bytes-Decides e.0 name).0 q))
    by false q p again = tail (place_of name es) refl p again

-- a name that a declaration has is found
is_found : (name : List ℕ) (sig : PlainSignature) (k : ℕ) → k < length (names sig) → slice_index_or (names sig) k name ≡ name → is_some (place_of name sig) ≡ true
is_found name [] k l h = absurd (omega arith)
is_found name (e ∷ es) k l h = by (same_bytes e.0 name) refl (λ j. is_found name es j)
  where
    deeper : (r : Option ℕ) → is_some r ≡ true → is_some (option_map suc r) ≡ true
    deeper None q = q
    deeper (Some i) q = refl

    rest : (k : ℕ) → k < suc (length (names es)) → slice_index_or (e.0 ∷ names es) k name ≡ name → same_bytes e.0 name ≡ false
        → ((j : ℕ) → j < length (names es) → slice_index_or (names es) j name ≡ name → is_some (place_of name es) ≡ true) → is_some (option_map suc (place_of name es)) ≡ true
    rest zero l h q again = absurd (not_from_Decides (same_bytes e.0 name) (same_bytes-Decides e.0 name) q h)
    rest (suc j) l h q again = deeper (place_of name es) (again j (omega arith) h)

    by : (b : Bool) → same_bytes e.0 name ≡ b → ((j : ℕ) → j < length (names es) → slice_index_or (names es) j name ≡ name → is_some (place_of name es) ≡ true)
        → is_some (if b then Some 0 else option_map suc (place_of name es)) ≡ true
    by true q again = refl
    by false q again = rest k l h q again

within : {X : Type 0} (xs : List X) (k : ℕ) (x : X) → slice_get xs k ≡ Some x → (k < length xs) × (slice_index_or xs k x ≡ x)
within [] k x h = cc
within (y ∷ ys) zero x h = (omega arith, cc)
within (y ∷ ys) (suc k) x h = let r = within ys k x h in (omega (arith, r.0), r.1)

module _ (name : List ℕ) (sig : PlainSignature) where
  pub found : (r : Option ℕ) → r ≡ place_of name sig → IfSome r (λ k. slice_get (names sig) k ≡ Some name)
  found None h = tt
  found (Some k) h = found_at name sig k (sym h)

  pub is_named : (r : Option ℕ) → r ≡ place_of name sig → IsSome r ↔ IsNamed name sig
  is_named r h = (there r h, λ c. ap is_some h ∙ is_found name sig c.0 c.1 c.2)
    where
      there : (r : Option ℕ) → r ≡ place_of name sig → is_some r ≡ true → IsNamed name sig
      there None h s = absurd (true≢false (sym s))
      there (Some k) h s = let w = within (names sig) k name (found_at name sig k (sym h)) in (k, w.0, w.1)

-- ---- the entry at a place
module _ {Z : Type 0} where
  pub at_entry : (es : List (String Z × Entry)) (i : ℕ) (k : String Z) (e : Entry) → Some (k, e) ≡ slice_get es i → Some e ≡ slice_get (entries (named es)) i
  at_entry [] i k e h = cc
  at_entry (x ∷ es) zero k e h = ap (option_map (λ (p : String Z × Entry). p.1)) h
  at_entry (x ∷ es) (suc i) k e h = at_entry es i k e h

  pub at_plain : (es : List (String Z × Entry)) (i : ℕ) (k : String Z) (e : Entry) → Some (k, e) ≡ slice_get es i → Some (plain_entry e) ≡ entry_at (plain_signature (named es)) i
  at_plain [] i k e h = cc
  at_plain (x ∷ es) zero k e h = ap (option_map (λ (p : String Z × Entry). plain_entry p.1)) h
  at_plain (x ∷ es) (suc i) k e h = at_plain es i k e h

  pub at_class : (es : List (String Z × Entry)) (i : ℕ) (k : String Z) (e : Entry) → Some (k, e) ≡ slice_get es i → Some (plain_class e.class) ≡ class_at (plain_signature (named es)) i
  at_class [] i k e h = cc
  at_class (x ∷ es) zero k e h = ap (option_map (λ (p : String Z × Entry). plain_class p.1.class)) h
  at_class (x ∷ es) (suc i) k e h = at_class es i k e h

  pub at_name : (es : List (String Z × Entry)) (i : ℕ) (k : String Z) (e : Entry) → Some (k, e) ≡ slice_get es i → Some (string_bytes k) ≡ slice_get (names (plain_signature (named es))) i
  at_name [] i k e h = cc
  at_name (x ∷ es) zero k e h = ap (option_map (λ (p : String Z × Entry). string_bytes p.0)) h
  at_name (x ∷ es) (suc i) k e h = at_name es i k e h

  -- ---- distinct names
  differs : (x : String Z) (es : List (String Z × Entry)) → AllByRecursion (λ y. string_eq x y ≡ false) (keys_of es) → (j : ℕ) (d : List ℕ) → j < length (names (plain_signature (named es))) → string_bytes x ≢ slice_index_or (names (plain_signature (named es))) j d
  differs x [] h j d l = absurd (omega arith)
  differs x (e ∷ es) h zero d l = not_from_Decides (bytes_eq (string_bytes x) (string_bytes e.0)) (bytes_eq-Decides (string_bytes x) (string_bytes e.0)) h.0
  differs x (e ∷ es) h (suc j) d l = differs x es h.1 j d (omega arith)

  pub distinct : (es : List (String Z × Entry)) → IsDistinct string_eq (keys_of es) → HasDistinctNames (plain_signature (named es))
  distinct [] h i j d lt l = absurd (omega arith)
  distinct (e ∷ es) h zero zero d lt l = absurd (omega arith)
  distinct (e ∷ es) h zero (suc j) d lt l = differs e.0 es (IsDistinct-head string_eq e.0 (keys_of es) h) j d (omega arith)
  distinct (e ∷ es) h (suc i) zero d lt l = absurd (omega arith)
  distinct (e ∷ es) h (suc i) (suc j) d lt l = distinct es (IsDistinct-tail string_eq e.0 (keys_of es) h) i j d (omega arith) (omega arith)

-- ---- one more entry
pub plain_signature-append : (a b : Declared) → plain_signature (a ++ b) ≡ plain_signature a ++ plain_signature b
plain_signature-append a b = map-append (λ d. (d.0, plain_entry d.1)) a b
