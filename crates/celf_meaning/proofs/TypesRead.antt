-- The trees that types, telescopes and kinds are printed as are read as these: where they are simply formed and clean, their heads have
-- names and what occurs in them is named.
use Rattle.std.proofs.Common.{ℕ, ◌≡◌, ◌+◌, Bool, true, false, ◌&&◌, refl, sym, ap, subst, ◌∙◌, List, [], ◌∷◌, length, map, Some, add-one}
use Rattle.std.specs.List.{list_any}
use Rattle.clf_syntax.specs.declared.tree.Mode.{Mode}
use Rattle.clf_syntax.specs.declared.tree.Mode.TheVariants.{Persistent, Affine, Linear}
use Rattle.clf_syntax.specs.Tree.{PlainObject}
use Rattle.clf_syntax.specs.TypeTree.{PlainType, family, function, both, top, monad, PlainTelescope, end, binding, PlainKind, base, arrow, simple_with, lax, simple_binding}
use Rattle.clf_syntax.specs.Simple.{Assignment, extended, erase, erase_telescope, no_holes, EachSimplyTypedWith, SimplyFormedWith, TelescopeSimplyFormedWith, KindSimplyFormedWith}
use Rattle.clf_syntax.specs.Occurs.{occurs, occurs_type, occurs_telescope, occurs_kind}
use Rattle.clf_sig.specs.Entry.{PlainSignature, family_kind}
use Rattle.clf_printer.specs.Text.{is_persistent}
use Rattle.use_contexts.specs.Holding.{is_persistent as may_be_in_types}
use Rattle.celf_sugar.specs.PlainTree.{DesugaredType}
use Rattle.celf_places.proofs.Options.{option_map-some}
use Rattle.typing_laws.specs.SimpleTyping.{families_of}
use Rattle.clf_rules.specs.Clean.{CleanType, CleanTelescope}
use Rattle.celf_places.specs.Heads.{argument_entry, argument_entries}
use Rattle.celf_places.specs.SimpleTypes.{simple_type, simple_telescope, local_of}
use Rattle.celf_explicit.specs.Types.{read_indices, at_indices, read_type, read_telescope, kind_of}
use Rattle.celf_spelling.specs.Printed.{binder_name, printed_object, printed_type, printed_telescope, printed_kind}
use Rattle.celf_spelling.specs.Printable.{ArePrintableIndices, IsPrintableType, IsPrintableTelescope, IsPrintableKind}
use Rattle.celf_meaning.proofs.Made.{mapped, chained, combined_of}
use Rattle.celf_meaning.proofs.Scopes.{Scope, local_at, locals_in, types_in, NamedWhere, named_left, named_right, named_under}
use Rattle.celf_meaning.proofs.Meanings.{FindsItself, family_name, family_head_of}
use Rattle.celf_meaning.proofs.ObjectsRead.{constants, object_read}

-- Linear and affine variables occur in no type of a kind.
abbrev pub CleanKind : PlainKind → Type 0
CleanKind [] = Unit {0}
CleanKind (a ∷ k) = CleanType a × CleanKind k

-- a variable that occurs is named, since it is persistent
named_if : (m : Mode) (b : Bool) → (may_be_in_types m ≡ false → b ≡ false) → b ≡ true → is_persistent m && b ≡ true
named_if Persistent b clean e = e
named_if Affine b clean e = let never : false ≡ true = sym (clean refl) ∙ e in absurd (cc)
named_if Linear b clean e = let never : false ≡ true = sym (clean refl) ∙ e in absurd (cc)

module _ (sig : PlainSignature) (distinct : FindsItself sig) where
  -- ---- without indices
  mutual
    pub simple_read : (k : Assignment) (level : ℕ) (a : PlainType) → SimplyFormedWith (no_holes false) (families_of sig) k a → IsPrintableType sig level a → simple_type sig (printed_type sig level a) ≡ Some (erase a)
    simple_read k level (family f ns) (ts, e, each) p =
        let kind = option_map-some (map erase) (family_kind sig f) ts e in
        mapped base (family_name sig distinct f kind.0 kind.1 p.0)
    simple_read k level (function m a b) f p = combined_of (arrow m) (simple_read k level a f.0 p.0) (simple_read (extended (erase a) k) (level + 1) b f.1 p.1)
    simple_read k level (both a b) f p = combined_of simple_with (simple_read k level a f.0 p.0) (simple_read k level b f.1 p.1)
    simple_read k level top f p = refl
    simple_read k level (monad s) f p = mapped lax (simple_entries_read k level s f p)

    simple_entries_read : (k : Assignment) (level : ℕ) (s : PlainTelescope) → TelescopeSimplyFormedWith (no_holes false) (families_of sig) k s → IsPrintableTelescope sig level s
        → simple_telescope sig (printed_telescope sig level s) ≡ Some (erase_telescope s)
    simple_entries_read k level end f p = refl
    simple_entries_read k level (binding m a s) f p = combined_of (simple_binding m) (simple_read k level a f.0 p.0) (simple_entries_read (extended (erase a) k) (level + 1) s f.1 p.1)

  local_is : (named : Bool) (level : ℕ) (a : PlainType) (t : DesugaredType) → simple_type sig t ≡ Some (erase a) → local_of sig (binder_name named level) t ≡ local_at named level (erase a)
  local_is true level a t e = ap (λ p. (binder_name true level, p)) e
  local_is false level a t e = refl

  -- ---- with indices

  indices_read : (g : Scope) (ns : List PlainObject) (k : PlainKind) → EachSimplyTypedWith (no_holes false) (types_in (constants sig) g) ns (map erase k) → ArePrintableIndices sig (length g) ns
      → NamedWhere g (λ i. list_any (occurs i) ns) → read_indices sig (locals_in g) (map argument_entry k) (map (λ n. printed_object sig (length g) n) ns) ≡ Some ns
  indices_read g [] k t p named = refl
  indices_read g (n ∷ ns) [] t p named = absurd t
  indices_read g (n ∷ ns) (a ∷ k) t p named = combined_of (◌∷◌) (object_read sig distinct g n (erase a) t.0 p.0.0 p.0.1 (named_left g (λ i. occurs i n) (λ i. list_any (occurs i) ns) named))
      (indices_read g ns k t.1 p.1 (named_right g (λ i. occurs i n) (λ i. list_any (occurs i) ns) named))

  mutual
    pub type_read : (g : Scope) (a : PlainType) → SimplyFormedWith (no_holes false) (families_of sig) (types_in (constants sig) g) a → IsPrintableType sig (length g) a → CleanType a → NamedWhere g (λ i. occurs_type i a)
        → read_type sig (locals_in g) (printed_type sig (length g) a) ≡ Some a
    type_read g (family f ns) (ts, e, each) p clean named =
        let kind = option_map-some (map erase) (family_kind sig f) ts e in
        let is = map (λ n. printed_object sig (length g) n) ns in
        chained (at_indices sig (locals_in g) is) (family_head_of sig distinct f kind.0 kind.1 p.0)
        (mapped (family f) (ap (λ k. read_indices sig (locals_in g) (argument_entries k) is) kind.1
        ∙ indices_read g ns kind.0 (subst (λ us. EachSimplyTypedWith (no_holes false) (types_in (constants sig) g) ns us) (sym kind.2) each) p.1 named))
    type_read g (function m a b) f p clean named =
        let flag = is_persistent m && occurs_type 0 b in
        combined_of (function m) (type_read g a f.0 p.0 clean.0 (named_left g (λ i. occurs_type i a) (λ i. occurs_type (i + 1) b) named))
        (ap (λ l. read_type sig (l ∷ locals_in g) (printed_type sig (length g + 1) b)) (local_is flag (length g) a (printed_type sig (length g) a) (simple_read (types_in (constants sig) g) (length g) a f.0 p.0))
        ∙ ap (λ k. read_type sig (locals_in ((flag, erase a) ∷ g)) (printed_type sig k b)) (add-one (length g))
        ∙ type_read ((flag, erase a) ∷ g) b f.1 (subst (λ k. IsPrintableType sig k b) (add-one (length g)) p.1) clean.2
        (named_under g flag (erase a) (λ i. occurs_type i b) (named_if m (occurs_type 0 b) clean.1) (named_right g (λ i. occurs_type i a) (λ i. occurs_type (i + 1) b) named)))
    type_read g (both a b) f p clean named = combined_of both (type_read g a f.0 p.0 clean.0 (named_left g (λ i. occurs_type i a) (λ i. occurs_type i b) named))
        (type_read g b f.1 p.1 clean.1 (named_right g (λ i. occurs_type i a) (λ i. occurs_type i b) named))
    type_read g top f p clean named = refl
    type_read g (monad s) f p clean named = mapped monad (telescope_read g s f p clean named)

    pub telescope_read : (g : Scope) (s : PlainTelescope) → TelescopeSimplyFormedWith (no_holes false) (families_of sig) (types_in (constants sig) g) s → IsPrintableTelescope sig (length g) s → CleanTelescope s
        → NamedWhere g (λ i. occurs_telescope i s) → read_telescope sig (locals_in g) (printed_telescope sig (length g) s) ≡ Some s
    telescope_read g end f p clean named = refl
    telescope_read g (binding m a s) f p clean named =
        let flag = is_persistent m && occurs_telescope 0 s in
        combined_of (binding m) (type_read g a f.0 p.0 clean.0 (named_left g (λ i. occurs_type i a) (λ i. occurs_telescope (i + 1) s) named))
        (ap (λ l. read_telescope sig (l ∷ locals_in g) (printed_telescope sig (length g + 1) s)) (local_is flag (length g) a (printed_type sig (length g) a) (simple_read (types_in (constants sig) g) (length g) a f.0 p.0))
        ∙ ap (λ k. read_telescope sig (locals_in ((flag, erase a) ∷ g)) (printed_telescope sig k s)) (add-one (length g))
        ∙ telescope_read ((flag, erase a) ∷ g) s f.1 (subst (λ k. IsPrintableTelescope sig k s) (add-one (length g)) p.1) clean.2
        (named_under g flag (erase a) (λ i. occurs_telescope i s) (named_if m (occurs_telescope 0 s) clean.1) (named_right g (λ i. occurs_type i a) (λ i. occurs_telescope (i + 1) s) named)))

  pub kind_read : (g : Scope) (k : PlainKind) → KindSimplyFormedWith (no_holes false) (families_of sig) (types_in (constants sig) g) k → IsPrintableKind sig (length g) k → CleanKind k → NamedWhere g (λ i. occurs_kind i k)
      → (s : PlainTelescope) × (read_telescope sig (locals_in g) (printed_kind sig (length g) k) ≡ Some s) × (kind_of s ≡ k)
  kind_read g [] f p clean named = (end, refl, refl)
  kind_read g (a ∷ k) f p clean named =
      let flag = occurs_kind 0 k in
      let later = kind_read ((flag, erase a) ∷ g) k f.1 (subst (λ n. IsPrintableKind sig n k) (add-one (length g)) p.1) clean.1
      (named_under g flag (erase a) (λ i. occurs_kind i k) (λ e. e) (named_right g (λ i. occurs_type i a) (λ i. occurs_kind (i + 1) k) named)) in (
        binding Persistent a later.0,
        combined_of (binding Persistent) (type_read g a f.0 p.0 clean.0 (named_left g (λ i. occurs_type i a) (λ i. occurs_kind (i + 1) k) named))
            (ap (λ l. read_telescope sig (l ∷ locals_in g) (printed_kind sig (length g + 1) k)) (local_is flag (length g) a (printed_type sig (length g) a) (simple_read (types_in (constants sig) g) (length g) a f.0 p.0))
            ∙ ap (λ n. read_telescope sig (locals_in ((flag, erase a) ∷ g)) (printed_kind sig n k)) (add-one (length g))
            ∙ later.1),
        ap (λ ks. a ∷ ks) later.2,
      )
