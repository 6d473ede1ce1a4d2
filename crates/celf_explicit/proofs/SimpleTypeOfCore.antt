-- What is left of a written type without its indices is the simple type of its core.
use Rattle.std.specs.Prelude.{ℕ, ◌≡◌, Bool, true, false, ◌||◌, if◌then◌else◌, List, ◌∷◌, Some, None, option_map}
use Rattle.std.proofs.Common.{ap, ◌∙◌}
use Rattle.clf_syntax.specs.TypeTree as core
use Rattle.clf_syntax.specs.Simple.{erase, erase_telescope}
use Rattle.clf_sig.specs.Entry.{PlainSignature, entry_at}
use Rattle.celf_sugar.specs.declared.plain.PName.{PName}
use Rattle.celf_sugar.specs.PlainTree as plain
use Rattle.celf_names.specs.Names.{family_named}
use Rattle.celf_places.specs.Heads.{Local, has_no_implicit, all_written, family_head, arguments_of}
use Rattle.celf_places.specs.SimpleTypes.{local_of, simple_type, simple_telescope}
use Rattle.celf_explicit.specs.Types.{at_indices, read_indices, read_type, read_telescope}
use Rattle.celf_explicit.specs.Laws.{SimpleTypeOfCore}
use Rattle.celf_places.proofs.Options.{option_map-some, option_and_then-some, combined-some}

written-same : (sig : PlainSignature) (b : Bool) (k j : ℕ) → (if b then Some k else None) ≡ Some j → k ≡ j
written-same sig true k j e = cc
written-same sig false k j e = absurd (cc)

module _ (sig : PlainSignature) where
  family-named : (n : PName) (f : ℕ) → family_head sig n ≡ Some f → family_named sig n.name ≡ Some f
  family-named n f e =
      let found = option_and_then-some (all_written sig n.dollar) (family_named sig n.name) f e in
      found.1 ∙ ap Some (written-same sig (n.dollar || has_no_implicit (entry_at sig found.0)) found.0 f found.2)

  mutual
    type-simple : (ls : List Local) (t : plain.DesugaredType) (a : core.PlainType) → read_type sig ls t ≡ Some a → simple_type sig t ≡ Some (erase a)
    type-simple ls (plain.family s h is) a e =
        let found = option_and_then-some (at_indices sig ls is) (family_head sig h) a e in
        let read = option_map-some (core.family found.0) (read_indices sig ls (arguments_of sig found.0) is) a found.2 in
        rw (family-named h found.0 found.1) (ap (λ x. Some (erase x)) read.2)
    type-simple ls (plain.function s m n a b) c e =
        let found = combined-some (core.function m) (read_type sig ls a) (read_type sig (local_of sig n a ∷ ls) b) c e in
        rw (type-simple ls a found.0 found.2, type-simple (local_of sig n a ∷ ls) b found.1 found.3) (ap (λ x. Some (erase x)) found.4)
    type-simple ls (plain.both s a b) c e =
        let found = combined-some core.both (read_type sig ls a) (read_type sig ls b) c e in
        rw (type-simple ls a found.0 found.2, type-simple ls b found.1 found.3) (ap (λ x. Some (erase x)) found.4)
    type-simple ls (plain.top s) a e = ap (option_map erase) e
    type-simple ls (plain.monad s t) a e =
        let found = option_map-some core.monad (read_telescope sig ls t) a e in
        rw (telescope-simple ls t found.0 found.1) (ap (λ x. Some (erase x)) found.2)

    telescope-simple : (ls : List Local) (t : plain.DesugaredTelescope) (s : core.PlainTelescope) → read_telescope sig ls t ≡ Some s → simple_telescope sig t ≡ Some (erase_telescope s)
    telescope-simple ls plain.end s e = ap (option_map erase_telescope) e
    telescope-simple ls (plain.binding m n a t) s e =
        let found = combined-some (core.binding m) (read_type sig ls a) (read_telescope sig (local_of sig n a ∷ ls) t) s e in
        rw (type-simple ls a found.0 found.2, telescope-simple (local_of sig n a ∷ ls) t found.1 found.3) (ap (λ x. Some (erase_telescope x)) found.4)

pub simple_type_of_core : SimpleTypeOfCore
simple_type_of_core sig ls t a e = type-simple sig ls t a e
