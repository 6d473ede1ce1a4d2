-- The text of a kind or a class spells the tree that it is printed as.
use Rattle.std.proofs.Common.{ℕ, ◌≡◌, ◌+◌, ◌≤◌, Bool, true, false, refl, List, [], ◌∷◌, ◌++◌, Some, None, codes, arith}
use Rattle.clf_syntax.specs.declared.tree.Mode.TheVariants.{Persistent}
use Rattle.clf_syntax.specs.Occurs.{occurs_kind}
use Rattle.clf_syntax.specs.TypeTree.{PlainKind}
use Rattle.clf_sig.specs.Entry.{PlainClass, family_of, constant_of, PlainSignature}
use Rattle.celf_lexer.specs.declared.token.TokenKind.TheVariants as kind
use Rattle.celf_lexer.specs.Tokens.{Lexeme}
use Rattle.celf_lexer.proofs.Spelling.{BeginsWith}
use Rattle.celf_surface.specs.Surface.{WrittenType, type_word}
use Rattle.celf_grammar.specs.Grammar.{IsTypeAtom, atomty_word}
use Rattle.celf_sugar.specs.PlainTree as plain
use Rattle.clf_printer.specs.declared.place.Place.{Place}
use Rattle.clf_printer.specs.declared.place.Place.TheVariants.{Whole as whole, Operand as operand, Factor as factor}
use Rattle.clf_printer.specs.Text.{new_variable_text, domain_text, type_text, kind_text, class_text}
use Rattle.celf_spelling.specs.Printable.{IsPrintableBinder, IsPrintableKind, IsPrintableClass}
use Rattle.celf_spelling.specs.Printed.{binder_name, printed_type, printed_kind, printed_class}
use Rattle.celf_spelling.proofs.Signs.{tokens-type}
use Rattle.celf_spelling.proofs.Standing.{state, end_of, takes-first, opening-first, IsRead}
use Rattle.celf_spelling.proofs.WrittenTypes.{IsWrittenType, IsWrittenKind, written-word, written-kind_arrow, written-kind_pi, IsWrittenClass, written-family_class, written-constant_class}
use Rattle.celf_spelling.proofs.TypeParts.{TypeStands, SpellsType, type-at, arrow-spelled, pi-spelled}
use Rattle.celf_spelling.proofs.Types.{type-spelled}

word-stands : (rest : List ℕ) (ts : List Lexeme) (b : BeginsWith kind.KwType (codes "type") rest ts) → TypeStands factor (IsWrittenKind plain.end) ts b.others
word-stands rest ts b = record { begins = rw (b.is, b.kind_is) refl; stands = record { depth = 0; opened = 0; fits = omega (arith, opening-first b); read = read } }
  where
    read : (m e : ℕ) → 0 ≤ m → IsRead IsTypeAtom (IsWrittenKind plain.end) (state ts (0 + m) e) b.others m
    read m e h =
        let none : 0 + m ≡ m = omega arith in
        rw none (record { tree = type_word _; has = written-word _; end = end_of b.first; parse = atomty_word (takes-first b m e) })

word-spelled : SpellsType factor (IsWrittenKind plain.end) (codes "type")
word-spelled rest ts ends follows tokens =
    let b = tokens-type rest ts ends tokens in
    record { others = b.others; rest_tokens = b.rest_tokens; stands = word-stands rest ts b }

-- an argument in front of a kind
argument-spelled : (b : Bool) (level : ℕ) (a : plain.DesugaredType) (d : plain.DesugaredTelescope) (x y z : List ℕ) → IsPrintableBinder b level
    → SpellsType whole (IsWrittenType a) x → SpellsType operand (IsWrittenType a) y → SpellsType whole (IsWrittenKind d) z
    → SpellsType whole (IsWrittenKind (plain.binding Persistent (binder_name b level) a d)) (domain_text Persistent b level x y ++ z)
argument-spelled true level a d x y z small s t r =
    pi-spelled level a (IsWrittenKind d) (IsWrittenKind (plain.binding Persistent (Some (new_variable_text level)) a d)) x z (small refl)
    (λ at l k p q. written-kind_pi (new_variable_text level) a d at l k p q) s r
argument-spelled false level a d x y z small s t r =
    arrow-spelled Persistent a (IsWrittenKind d) (IsWrittenKind (plain.binding Persistent None a d)) y z (λ at l k p q. written-kind_arrow a d at l k p q) t r

has-stands : (p : Place) (P Q : WrittenType → Type 0) (ts us : List Lexeme) → ((t : WrittenType) → P t → Q t) → TypeStands p P ts us → TypeStands p Q ts us
has-stands p P Q ts us has a = record {
  begins = a.begins;
  stands = record {
    depth = a.stands.depth;
    opened = a.stands.opened;
    fits = a.stands.fits;
    read = λ m e h. let part = a.stands.read m e h in record { tree = part.tree; has = has part.tree part.has; end = part.end; parse = part.parse };
  };
}

has-spelled : (p : Place) (P Q : WrittenType → Type 0) (x : List ℕ) → ((t : WrittenType) → P t → Q t) → SpellsType p P x → SpellsType p Q x
has-spelled p P Q x has s rest ts ends follows tokens =
    let part = s rest ts ends follows tokens in
    record { others = part.others; rest_tokens = part.rest_tokens; stands = has-stands p P Q ts part.others has part.stands }

module _ (sig : PlainSignature) (metas : List ℕ) where
  pub kind-spelled : (k : PlainKind) (level : ℕ) → IsPrintableKind sig level k → SpellsType whole (IsWrittenKind (printed_kind sig level k)) (kind_text sig metas level k)
  kind-spelled [] level h = type-at whole (IsWrittenKind plain.end) (codes "type") word-spelled
  kind-spelled (a ∷ k) level h =
      argument-spelled (occurs_kind 0 k) level (printed_type sig level a) (printed_kind sig (level + 1) k) (type_text sig metas level whole a) (type_text sig metas level operand a)
      (kind_text sig metas (level + 1) k) h.2 (type-spelled sig metas a level whole h.0) (type-spelled sig metas a level operand h.0)
      (kind-spelled k (level + 1) h.1)

  pub class-spelled : (c : PlainClass) → IsPrintableClass sig c → SpellsType whole (IsWrittenClass (printed_class sig c)) (class_text sig metas c)
  class-spelled (family_of k) h =
      has-spelled whole (IsWrittenKind (printed_kind sig 0 k)) (IsWrittenClass (printed_class sig (family_of k))) (kind_text sig metas 0 k)
      (λ t p. written-family_class (printed_kind sig 0 k) t p) (kind-spelled k 0 h)
  class-spelled (constant_of a) h =
      has-spelled whole (IsWrittenType (printed_type sig 0 a)) (IsWrittenClass (printed_class sig (constant_of a))) (type_text sig metas 0 whole a)
      (λ t p. written-constant_class (printed_type sig 0 a) t p) (type-spelled sig metas a 0 whole h)
