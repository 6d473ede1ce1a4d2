-- The text of a type spells the tree that it is printed as.
use Rattle.std.proofs.Common.{ℕ, ◌≡◌, ◌+◌, ◌&&◌, Bool, true, false, not, refl, List, [], ◌∷◌, ◌++◌, map, append-nil, Some, None, codes}
use Rattle.clf_syntax.specs.declared.tree.Mode.{Mode}
use Rattle.clf_syntax.specs.declared.tree.Mode.TheVariants.{Persistent, Affine, Linear}
use Rattle.clf_syntax.specs.Occurs.{occurs_type, occurs_telescope}
use Rattle.clf_syntax.specs.Tree.{PlainObject}
use Rattle.clf_syntax.specs.TypeTree.{PlainType, family, function, both, top, monad, PlainTelescope, end, binding}
use Rattle.clf_sig.specs.Entry.{PlainSignature}
use Rattle.celf_lexer.proofs.Spelling.{ends_word}
use Rattle.celf_grammar.specs.Grammar.{IsIndices}
use Rattle.celf_sugar.specs.PlainTree as plain
use Rattle.clf_printer.specs.declared.place.Place.{Place}
use Rattle.clf_printer.specs.declared.place.Place.TheVariants.{Whole as whole, Operand as operand, Factor as factor}
use Rattle.clf_printer.specs.Text.{when, has_dollar, place_text, grouped, is_atom, object_text, is_persistent, new_variable_text, domain_text, tele_entry_text, is_end, indices_text, type_text, telescope_text}
use Rattle.celf_spelling.specs.Printable.{IsPrintableBinder, IsPrintablePlace, ArePrintableIndices, IsPrintableType, IsPrintableTelescope}
use Rattle.celf_spelling.specs.Printed.{nowhere, binder_name, printed_object, printed_type, printed_telescope}
use Rattle.celf_spelling.proofs.Standing.{Stands}
use Rattle.celf_spelling.proofs.ObjectSpelled.{Spells, as-atom}
use Rattle.celf_spelling.proofs.Written.{IsWritten}
use Rattle.celf_spelling.proofs.PairSign.{place_text-entry}
use Rattle.celf_spelling.proofs.Objects.{place_name-entry, object-spelled}
use Rattle.celf_spelling.proofs.WrittenTypes.{IsWrittenType, AreWrittenIndices, written-arrow, written-pi}
use Rattle.celf_spelling.proofs.TypeParts.{SpellsType, type-at, function-at, pair-at, top-spelled, name-spelled, no_indices-stand, indices-more, family-spelled, pair-spelled, arrow-spelled, pi-spelled}
use Rattle.celf_spelling.proofs.Telescopes.{SpellsTelescope, no_bindings-spelled, last-spelled, more-spelled, exists-spelled, monad-spelled}

module _ (sig : PlainSignature) (metas : List ℕ) where
  -- ---- families

  indices-end : (ns : List PlainObject) (level : ℕ) (rest : List ℕ) → ends_word rest ≡ true → ends_word (indices_text sig metas level ns ++ rest) ≡ true
  indices-end [] level rest ends = ends
  indices-end (n ∷ ns) level rest ends = refl

  no_indices-spelled : Spells (Stands IsIndices (AreWrittenIndices [])) []
  no_indices-spelled rest ts ends tokens = record { others = ts; rest_tokens = tokens; stands = no_indices-stand ts }

  indices-spelled : (ns : List PlainObject) (level : ℕ) → ArePrintableIndices sig level ns
      → Spells (Stands IsIndices (AreWrittenIndices (map (λ n. printed_object sig level n) ns))) (indices_text sig metas level ns)
  indices-spelled [] level p = no_indices-spelled
  indices-spelled (n ∷ ns) level p =
      let x : List ℕ = object_text sig metas level n in
      let o = as-atom (is_atom n) (IsWritten (printed_object sig level n)) x (object-spelled sig metas n level p.0.1 p.0.0) in
      indices-more (printed_object sig level n) (map (λ n. printed_object sig level n) ns) (grouped (not (is_atom n)) x) (indices_text sig metas level ns)
      (λ rest ends. indices-end ns level rest ends) o (indices-spelled ns level p.1)

  family-at : (k : ℕ) (ns : List PlainObject) (level : ℕ) → IsPrintablePlace sig k → ArePrintableIndices sig level ns
      → SpellsType factor (IsWrittenType (printed_type sig level (family k ns))) (place_text sig k ++ indices_text sig metas level ns)
  family-at k ns level h p =
      rw (place_text-entry sig k h.0 h.1, place_name-entry sig k h.0 h.1)
      (family-spelled h.0.0 (has_dollar h.0.0 h.0.1) (map (λ n. printed_object sig level n) ns) (when (has_dollar h.0.0 h.0.1) (codes "$") ++ h.0.0) (indices_text sig metas level ns)
      (λ rest ends. indices-end ns level rest ends) (name-spelled h.0.0 (has_dollar h.0.0 h.0.1) h.2) (indices-spelled ns level p))

  -- ---- functions

  -- a function whose variable is named or not
  function-spelled : (m : Mode) (b : Bool) (level : ℕ) (a c : plain.DesugaredType) (x y z : List ℕ) → IsPrintableBinder (is_persistent m && b) level
      → SpellsType whole (IsWrittenType a) x → SpellsType operand (IsWrittenType a) y → SpellsType whole (IsWrittenType c) z
      → SpellsType whole (IsWrittenType (plain.function nowhere m (binder_name (is_persistent m && b) level) a c)) (domain_text m (is_persistent m && b) level x y ++ z)
  function-spelled Persistent true level a c x y z small s t r =
      pi-spelled level a (IsWrittenType c) (IsWrittenType (plain.function nowhere Persistent (Some (new_variable_text level)) a c)) x z (small refl)
      (λ at l k p q. written-pi (new_variable_text level) a c at l k p q) s r
  function-spelled Persistent false level a c x y z small s t r =
      arrow-spelled Persistent a (IsWrittenType c) (IsWrittenType (plain.function nowhere Persistent None a c)) y z (λ at l k p q. written-arrow Persistent a c at l k p q) t r
  function-spelled Affine b level a c x y z small s t r =
      arrow-spelled Affine a (IsWrittenType c) (IsWrittenType (plain.function nowhere Affine None a c)) y z (λ at l k p q. written-arrow Affine a c at l k p q) t r
  function-spelled Linear b level a c x y z small s t r =
      arrow-spelled Linear a (IsWrittenType c) (IsWrittenType (plain.function nowhere Linear None a c)) y z (λ at l k p q. written-arrow Linear a c at l k p q) t r

  -- ---- telescopes

  binding-last : (m : Mode) (level : ℕ) (a : plain.DesugaredType) (x y : List ℕ) → SpellsType operand (IsWrittenType a) y
      → SpellsTelescope (plain.binding m (binder_name (is_persistent m && false) level) a plain.end) (tele_entry_text m (is_persistent m && false) false level x y ++ [])
  binding-last Persistent level a x y s = rw (append-nil (y ++ []), append-nil y) (last-spelled Persistent a y s)
  binding-last Affine level a x y s = rw (append-nil (y ++ []), append-nil y) (last-spelled Affine a y s)
  binding-last Linear level a x y s = rw (append-nil (y ++ []), append-nil y) (last-spelled Linear a y s)

  binding-more : (m : Mode) (b : Bool) (level : ℕ) (a : plain.DesugaredType) (d : plain.DesugaredTelescope) (x y z : List ℕ) → IsPrintableBinder (is_persistent m && b) level
      → SpellsType whole (IsWrittenType a) x → SpellsType operand (IsWrittenType a) y → SpellsTelescope d z
      → SpellsTelescope (plain.binding m (binder_name (is_persistent m && b) level) a d) (tele_entry_text m (is_persistent m && b) true level x y ++ z)
  binding-more Persistent true level a d x y z small s t r = exists-spelled level a d x z (small refl) s r
  binding-more Persistent false level a d x y z small s t r = more-spelled Persistent a d y z t r
  binding-more Affine b level a d x y z small s t r = more-spelled Affine a d y z t r
  binding-more Linear b level a d x y z small s t r = more-spelled Linear a d y z t r

  mutual
    pub type-spelled : (a : PlainType) (level : ℕ) (p : Place) → IsPrintableType sig level a → SpellsType p (IsWrittenType (printed_type sig level a)) (type_text sig metas level p a)
    type-spelled (family k ns) level p h = type-at p (IsWrittenType (printed_type sig level (family k ns))) (place_text sig k ++ indices_text sig metas level ns) (family-at k ns level h.0 h.1)
    type-spelled (function m a b) level p h =
        let x : List ℕ = type_text sig metas level whole a in
        let y : List ℕ = type_text sig metas level operand a in
        let z : List ℕ = type_text sig metas (level + 1) whole b in
        function-at p (IsWrittenType (printed_type sig level (function m a b))) (domain_text m (is_persistent m && occurs_type 0 b) level x y ++ z)
        (function-spelled m (occurs_type 0 b) level (printed_type sig level a) (printed_type sig (level + 1) b) x y z h.2
        (type-spelled a level whole h.0) (type-spelled a level operand h.0) (type-spelled b (level + 1) whole h.1))
    type-spelled (both a b) level p h =
        let x : List ℕ = type_text sig metas level factor a in
        let y : List ℕ = type_text sig metas level operand b in
        pair-at p (IsWrittenType (printed_type sig level (both a b))) (x ++ codes " & " ++ y)
        (pair-spelled (printed_type sig level a) (printed_type sig level b) x y (type-spelled a level factor h.0) (type-spelled b level operand h.1))
    type-spelled top level p h = type-at p (IsWrittenType (plain.top nowhere)) (codes "<T>") top-spelled
    type-spelled (monad s) level p h =
        let x : List ℕ = when (is_end s) (codes "1") ++ telescope_text sig metas level s in
        type-at p (IsWrittenType (printed_type sig level (monad s))) (codes "{" ++ x ++ codes "}") (monad-spelled (printed_telescope sig level s) x (telescope-spelled s level h))

    -- the text of a telescope in braces
    pub telescope-spelled : (s : PlainTelescope) (level : ℕ) → IsPrintableTelescope sig level s
        → SpellsTelescope (printed_telescope sig level s) (when (is_end s) (codes "1") ++ telescope_text sig metas level s)
    telescope-spelled end level h = no_bindings-spelled
    telescope-spelled (binding m a end) level h =
        binding-last m level (printed_type sig level a) (type_text sig metas level whole a) (type_text sig metas level operand a) (type-spelled a level operand h.0)
    telescope-spelled (binding m a (binding l c s)) level h =
        binding-more m (occurs_telescope 0 (binding l c s)) level (printed_type sig level a) (printed_telescope sig (level + 1) (binding l c s))
        (type_text sig metas level whole a) (type_text sig metas level operand a) (telescope_text sig metas (level + 1) (binding l c s)) h.2
        (type-spelled a level whole h.0) (type-spelled a level operand h.0) (telescope-spelled (binding l c s) (level + 1) h.1)
