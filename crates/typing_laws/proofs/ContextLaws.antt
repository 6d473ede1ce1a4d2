-- Weakening and exchange of contexts.
use Rattle.std.specs.Prelude.{ℕ, zero, suc, ◌≡◌, ◌≤◌, ◌&&◌, not, Bool, true, false, [], ◌∷◌, length, Some, refl}
use Rattle.std.proofs.Common.{ap, sym, subst, ◌∙◌, arith, add-one}
use Rattle.clf_syntax.specs.declared.tree.Mode.{Mode}
use Rattle.clf_syntax.specs.declared.tree.Mode.TheVariants.{Persistent, Affine, Linear}
use Rattle.clf_syntax.specs.TypeTree.{PlainType}
use Rattle.clf_syntax.specs.Renaming.{Renumbering, lifted, ren_type, up, raise}
use Rattle.clf_syntax.proofs.RenamingLaws.{ext}
use Rattle.use_contexts.specs.Context.{Context, modes, HasVariable}
use Rattle.use_contexts.specs.Holding.{Holding, SplitEntry, is_linear, is_persistent, is_weak, is_unrestricted, without, Uses}
use Rattle.clf_sig.specs.Entry.{PlainSignature, constant_type}
use Rattle.clf_rules.specs.WellFormed.{WellFormedSignature}
use Rattle.clf_rules.proofs.Signatures.{entries_well_formed}
use Rattle.typing_laws.specs.Contexts.{with_mark, with_entry, ContextWeakening}
use Rattle.typing_laws.proofs.Carried.{Carries, carries_under, carry, past, raised}
use Rattle.typing_laws.proofs.Fixed.{fixed_type}

-- The types of constants mention no variable.
pub constants_closed : (sig : PlainSignature) → WellFormedSignature sig → (r : Renumbering) (c : ℕ) (a : PlainType) → constant_type sig c ≡ Some a → ren_type r a ≡ a
constants_closed sig w r c a e = fixed_type sig [] r (λ i l. absurd (omega arith)) a ((entries_well_formed sig w).1 c a e)

-- ---- a new entry
pub raise_all : (by : ℕ) → raise by 0 ≡ up by
raise_all by = ext (at_number by)
  where
    at_number : (by i : ℕ) → raise by 0 i ≡ up by i
    at_number by i = grind arith

pub raise_next : (k : ℕ) → lifted 1 (raise 1 k) ≡ raise 1 (suc k)
raise_next k = ext (at_number k)
  where
    at_number : (k i : ℕ) → lifted 1 (raise 1 k) i ≡ raise 1 (suc k) i
    at_number k i = grind arith

apart : (m : Mode) → SplitEntry m (is_persistent m) (is_persistent m) (is_persistent m)
apart Persistent = (refl, refl, refl)
apart Affine = (refl, refl)
apart Linear = (refl, refl)

idle : (m : Mode) → not (is_linear m && is_persistent m) ≡ true
idle Persistent = refl
idle Affine = refl
idle Linear = refl

harmless : (m : Mode) → not (not (is_persistent m) && is_persistent m) ≡ true
harmless Persistent = refl
harmless Affine = refl
harmless Linear = refl

both_true : (a b : Bool) → a ≡ true → b ≡ true → a && b ≡ true
both_true true b e f = f
both_true false b e f = e

newest : (m : Mode) (b : PlainType) (g : Context) → Carries (up 1) g ((m, b) ∷ g) (λ h. is_persistent m ∷ h)
newest m b g = record {
  variable = λ i a p. let (n, d, e, f) = p in subst (λ j. HasVariable ((m, b) ∷ g) j (ren_type (up 1) a)) (sym (add-one i)) (n, d, e, ap (ren_type (up 1)) f ∙ raised i d);
  split = λ h p q s. (apart m, s);
  weak = λ h l e. both_true (not (is_linear m && is_persistent m)) (is_weak (modes g) h) (idle m) e;
  unrestricted = λ h l e. both_true (not (not (is_persistent m) && is_persistent m)) (is_unrestricted (modes g) h) (harmless m) e;
  uses = λ h i l p. subst (λ j. Uses (m ∷ modes g) (is_persistent m ∷ h) j) (sym (add-one i)) (p.0, both_true (not (is_linear m && is_persistent m)) (is_weak (modes g) (without i h)) (idle m) p.1);
}

pub same_past : (k : ℕ) (x : Bool) → past (with_mark k x) ≡ with_mark (suc k) x
same_past k x = ext at_holding
  where
    at_holding : (h : Holding) → past (with_mark k x) h ≡ with_mark (suc k) x h
    at_holding [] = refl
    at_holding (y ∷ h) = refl

widened : (k : ℕ) (m : Mode) (b : PlainType) (g : Context) → k ≤ length g → Carries (raise 1 k) g (with_entry k (m, b) g) (with_mark k (is_persistent m))
widened zero m b g l = subst (λ r. Carries r g ((m, b) ∷ g) (λ h. is_persistent m ∷ h)) (sym (raise_all 1)) (newest m b g)
widened (suc k) m b (d ∷ g) l =
    subst (λ r. Carries r (d ∷ g) (with_entry (suc k) (m, b) (d ∷ g)) (with_mark (suc k) (is_persistent m))) (raise_next k)
    (subst (λ T. Carries (lifted 1 (raise 1 k)) (d ∷ g) (with_entry (suc k) (m, b) (d ∷ g)) T) (same_past k (is_persistent m))
    (carries_under d.0 d.1 (raise 1 k) g (with_entry k (m, b) g) (with_mark k (is_persistent m)) (widened k m b g (omega arith))))
widened (suc k) m b [] l = absurd (omega arith)

pub context_weakening : ContextWeakening
context_weakening sig g h k m b w l e = carry sig (constants_closed sig w) (raise 1 k) g (with_entry k (m, b) g) (with_mark k (is_persistent m)) (widened k m b g e) h l
