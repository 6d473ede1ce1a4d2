-- Occurrence and renaming in types, telescopes and kinds.
use Rattle.std.specs.Prelude.{ℕ, ◌+◌, ◌≡◌, ◌||◌, true, List, [], ◌∷◌, refl}
use Rattle.std.specs.List.{list_any}
use Rattle.std.proofs.Common.{ap, sym, ◌∙◌, ⊎_elim}
use Rattle.clf_syntax.specs.Tree.{PlainObject}
use Rattle.clf_syntax.specs.TypeTree.{PlainType, family, function, both, top, monad, PlainTelescope, end, binding, PlainKind}
use Rattle.clf_syntax.specs.Renaming.{Renumbering, lifted, ren, ren_objects, ren_type, ren_telescope, ren_kind}
use Rattle.clf_syntax.specs.Occurs.{occurs, occurs_type, occurs_telescope, occurs_kind}
use Rattle.clf_syntax.proofs.OccursLaws.{or_first, or_second, either, lift_agrees, agreeing, Source, from_first, from_second, from_under, source}
use Rattle.clf_syntax.proofs.TypeRenaming.{conses, functions, boths, bindings}
use Rattle.tree_laws.specs.Laws.{LooksAtOccurring, OccursBefore}

agreeing_objects : (r s : Renumbering) (ns : List PlainObject) → ((i : ℕ) → list_any (occurs i) ns ≡ true → r i ≡ s i) → ren_objects r ns ≡ ren_objects s ns
agreeing_objects r s [] h = refl
agreeing_objects r s (n ∷ ns) h = conses (agreeing r s n (λ i e. h i (or_first (occurs i n) (list_any (occurs i) ns) e)))
    (agreeing_objects r s ns (λ i e. h i (or_second (occurs i n) (list_any (occurs i) ns) e)))

mutual
  agreeing_type : (r s : Renumbering) (a : PlainType) → ((i : ℕ) → occurs_type i a ≡ true → r i ≡ s i) → ren_type r a ≡ ren_type s a
  agreeing_type r s (family f ns) h = ap (family f) (agreeing_objects r s ns h)
  agreeing_type r s (function m a b) h = functions m (agreeing_type r s a (λ i e. h i (or_first (occurs_type i a) (occurs_type (i + 1) b) e)))
      (agreeing_type (lifted 1 r) (lifted 1 s) b (lift_agrees 1 r s (λ i. occurs_type i b ≡ true) (λ i e. h i (or_second (occurs_type i a) (occurs_type (i + 1) b) e))))
  agreeing_type r s (both a b) h = boths (agreeing_type r s a (λ i e. h i (or_first (occurs_type i a) (occurs_type i b) e))) (agreeing_type r s b (λ i e. h i (or_second (occurs_type i a) (occurs_type i b) e)))
  agreeing_type r s top h = refl
  agreeing_type r s (monad t) h = ap monad (agreeing_telescope r s t h)

  agreeing_telescope : (r s : Renumbering) (t : PlainTelescope) → ((i : ℕ) → occurs_telescope i t ≡ true → r i ≡ s i) → ren_telescope r t ≡ ren_telescope s t
  agreeing_telescope r s end h = refl
  agreeing_telescope r s (binding m a t) h = bindings m (agreeing_type r s a (λ i e. h i (or_first (occurs_type i a) (occurs_telescope (i + 1) t) e)))
      (agreeing_telescope (lifted 1 r) (lifted 1 s) t (lift_agrees 1 r s (λ i. occurs_telescope i t ≡ true) (λ i e. h i (or_second (occurs_type i a) (occurs_telescope (i + 1) t) e))))

agreeing_kind : (r s : Renumbering) (k : PlainKind) → ((i : ℕ) → occurs_kind i k ≡ true → r i ≡ s i) → ren_kind r k ≡ ren_kind s k
agreeing_kind r s [] h = refl
agreeing_kind r s (a ∷ k) h = conses (agreeing_type r s a (λ i e. h i (or_first (occurs_type i a) (occurs_kind (i + 1) k) e)))
    (agreeing_kind (lifted 1 r) (lifted 1 s) k (lift_agrees 1 r s (λ i. occurs_kind i k ≡ true) (λ i e. h i (or_second (occurs_type i a) (occurs_kind (i + 1) k) e))))

source_objects : (r : Renumbering) (ns : List PlainObject) (i : ℕ) → list_any (occurs i) (ren_objects r ns) ≡ true → Source r i (λ j. list_any (occurs j) ns)
source_objects r [] i e = absurd (cc)
source_objects r (n ∷ ns) i e = ⊎_elim (λ k. from_first r i (λ j. occurs j n) (λ j. list_any (occurs j) ns) (source r n i k))
    (λ k. from_second r i (λ j. occurs j n) (λ j. list_any (occurs j) ns) (source_objects r ns i k)) (either (occurs i (ren r n)) (list_any (occurs i) (ren_objects r ns)) e)

mutual
  source_type : (r : Renumbering) (a : PlainType) (i : ℕ) → occurs_type i (ren_type r a) ≡ true → Source r i (λ j. occurs_type j a)
  source_type r (family f ns) i e = source_objects r ns i e
  source_type r (function m a b) i e = ⊎_elim (λ k. from_first r i (λ j. occurs_type j a) (λ j. occurs_type (j + 1) b) (source_type r a i k))
      (λ k. from_second r i (λ j. occurs_type j a) (λ j. occurs_type (j + 1) b) (from_under 1 r i (λ j. occurs_type j b) (source_type (lifted 1 r) b (i + 1) k)))
      (either (occurs_type i (ren_type r a)) (occurs_type (i + 1) (ren_type (lifted 1 r) b)) e)
  source_type r (both a b) i e = ⊎_elim (λ k. from_first r i (λ j. occurs_type j a) (λ j. occurs_type j b) (source_type r a i k))
      (λ k. from_second r i (λ j. occurs_type j a) (λ j. occurs_type j b) (source_type r b i k)) (either (occurs_type i (ren_type r a)) (occurs_type i (ren_type r b)) e)
  source_type r top i e = absurd (cc)
  source_type r (monad t) i e = source_telescope r t i e

  source_telescope : (r : Renumbering) (t : PlainTelescope) (i : ℕ) → occurs_telescope i (ren_telescope r t) ≡ true → Source r i (λ j. occurs_telescope j t)
  source_telescope r end i e = absurd (cc)
  source_telescope r (binding m a t) i e = ⊎_elim (λ k. from_first r i (λ j. occurs_type j a) (λ j. occurs_telescope (j + 1) t) (source_type r a i k))
      (λ k. from_second r i (λ j. occurs_type j a) (λ j. occurs_telescope (j + 1) t) (from_under 1 r i (λ j. occurs_telescope j t) (source_telescope (lifted 1 r) t (i + 1) k)))
      (either (occurs_type i (ren_type r a)) (occurs_telescope (i + 1) (ren_telescope (lifted 1 r) t)) e)

source_kind : (r : Renumbering) (k : PlainKind) (i : ℕ) → occurs_kind i (ren_kind r k) ≡ true → Source r i (λ j. occurs_kind j k)
source_kind r [] i e = absurd (cc)
source_kind r (a ∷ k) i e = ⊎_elim (λ x. from_first r i (λ j. occurs_type j a) (λ j. occurs_kind (j + 1) k) (source_type r a i x))
    (λ x. from_second r i (λ j. occurs_type j a) (λ j. occurs_kind (j + 1) k) (from_under 1 r i (λ j. occurs_kind j k) (source_kind (lifted 1 r) k (i + 1) x)))
    (either (occurs_type i (ren_type r a)) (occurs_kind (i + 1) (ren_kind (lifted 1 r) k)) e)

pub looks-at-occurring : LooksAtOccurring
looks-at-occurring = record { types = agreeing_type; telescopes = agreeing_telescope; kinds = agreeing_kind }

pub occurs-before : OccursBefore
occurs-before = record { types = source_type; telescopes = source_telescope; kinds = source_kind }
