-- Two neighbouring entries of a context change places.
use Rattle.std.specs.Prelude.{ℕ, zero, suc, ◌+◌, ◌-◌, ◌≡◌, ◌<◌, ◌≤◌, ◌&&◌, not, Bool, true, false, [], ◌∷◌, length, Some, refl}
use Rattle.std.proofs.Common.{ap, sym, subst, ◌∙◌, arith, ⊎_elim}
use Rattle.clf_syntax.specs.declared.tree.Mode.{Mode}
use Rattle.clf_syntax.specs.TypeTree.{PlainType}
use Rattle.clf_syntax.specs.Renaming.{Renumbering, lifted, ren_type, up, raise, crossed}
use Rattle.clf_syntax.proofs.RenamingLaws.{ext, cut, lift_in, lift_out, cross_out}
use Rattle.clf_syntax.proofs.TypeRenaming.{composed_type}
use Rattle.hered_subst.proofs.SimpleTyping.{lift_zero, lift_next}
use Rattle.use_contexts.specs.Context.{Context, modes, HasVariable}
use Rattle.use_contexts.specs.Holding.{Holding, Split, is_linear, is_persistent, is_weak, is_unrestricted, without, Uses}
use Rattle.typing_laws.specs.Contexts.{with_entry, past_one, with_exchange, ContextExchange}
use Rattle.typing_laws.proofs.Carried.{Carries, carries_under, carry, past}
use Rattle.typing_laws.proofs.ContextLaws.{constants_closed}

swap_true : (a b c : Bool) → a && (b && c) ≡ true → b && (a && c) ≡ true
swap_true true b c e = e
swap_true false b c e = absurd (no e)
  where
    no : false ≡ true → ⊥
    no e = cc

far : (i : ℕ) → crossed 1 1 (i + 2) ≡ i + 2
far i = cross_out 1 1 (i + 2) (omega arith)

-- the type of a variable after both entries, and those of the two
behind : (n : ℕ) (b : PlainType) → ren_type (crossed 1 1) (ren_type (up (n + 2)) b) ≡ ren_type (up (n + 2)) b
behind n b = composed_type (crossed 1 1) (up (n + 2)) b ∙ ap (λ r. ren_type r b) (ext (at_number n))
  where
    sum : (n i : ℕ) → i + (n + 2) ≡ (i + n) + 2
    sum n i = omega arith

    at_number : (n i : ℕ) → crossed 1 1 (i + (n + 2)) ≡ i + (n + 2)
    at_number n i = ap (crossed 1 1) (sum n i) ∙ far (i + n) ∙ sym (sum n i)

up_twice : (b : PlainType) → ren_type (up 1) (ren_type (up 1) b) ≡ ren_type (up 2) b
up_twice b = composed_type (up 1) (up 1) b ∙ ap (λ r. ren_type r b) (ext at_number)
  where
    at_number : (i : ℕ) → (i + 1) + 1 ≡ i + 2
    at_number i = omega arith

the_entry : {x y : Mode × PlainType} → Some x ≡ Some y → x.1 ≡ y.1
the_entry e = cc

module _ (e f : Mode × PlainType) (g : Context) where
  abbrev Newer : Context
  Newer = past_one e ∷ f ∷ g

  abbrev Older : Context
  Older = past_one f ∷ e ∷ g

  swap_variable : (i : ℕ) (t : PlainType) → HasVariable Newer i t → HasVariable Older (crossed 1 1 i) (ren_type (crossed 1 1) t)
  swap_variable zero t p = let (m, b, q, k) = p in
      (e.0, e.1, refl, ap (ren_type (crossed 1 1)) (k ∙ ap (ren_type (up 1)) (sym (the_entry q)) ∙ up_twice e.1) ∙ behind 0 e.1)
  swap_variable (suc zero) t p = let (m, b, q, k) = p in
      (f.0, ren_type (up 1) f.1, refl, ap (ren_type (crossed 1 1)) (k ∙ ap (ren_type (up 2)) (sym (the_entry q))) ∙ behind 0 f.1 ∙ sym (up_twice f.1))
  swap_variable (suc (suc i)) t p = let (m, b, q, k) = p in
      subst (λ j. HasVariable Older j (ren_type (crossed 1 1) t)) (sym (far_number i)) (m, b, q, ap (ren_type (crossed 1 1)) (k ∙ deeper i b) ∙ behind (i + 1) b ∙ sym (deeper i b))
    where
      far_number : (i : ℕ) → crossed 1 1 (suc (suc i)) ≡ suc (suc i)
      far_number i = ap (crossed 1 1) (two i) ∙ far i ∙ sym (two i)
        where
          two : (i : ℕ) → suc (suc i) ≡ i + 2
          two i = omega arith

      deeper : (i : ℕ) (b : PlainType) → ren_type (up (suc (suc i) + 1)) b ≡ ren_type (up ((i + 1) + 2)) b
      deeper i b = ap (λ n. ren_type (up n) b) (number i)
        where
          number : (i : ℕ) → suc (suc i) + 1 ≡ (i + 1) + 2
          number i = omega arith

  swap_split : (h p q : Holding) → Split (e.0 ∷ f.0 ∷ modes g) h p q → Split (f.0 ∷ e.0 ∷ modes g) (with_exchange 0 h) (with_exchange 0 p) (with_exchange 0 q)
  swap_split (x ∷ y ∷ h) (u ∷ v ∷ p) (w ∷ z ∷ q) s = (s.1.0, (s.0, s.1.1))
  swap_split [] p q s = absurd s
  swap_split (x ∷ h) [] q s = absurd s
  swap_split (x ∷ h) (u ∷ p) [] s = absurd s
  swap_split (x ∷ []) (u ∷ p) (w ∷ q) s = absurd s.1
  swap_split (x ∷ y ∷ h) (u ∷ []) (w ∷ q) s = absurd s.1
  swap_split (x ∷ y ∷ h) (u ∷ v ∷ p) (w ∷ []) s = absurd s.1

  swap_weak : (h : Holding) → length h ≡ suc (suc (length g)) → is_weak (e.0 ∷ f.0 ∷ modes g) h ≡ true → is_weak (f.0 ∷ e.0 ∷ modes g) (with_exchange 0 h) ≡ true
  swap_weak (x ∷ y ∷ h) l w = swap_true (not (is_linear e.0 && x)) (not (is_linear f.0 && y)) (is_weak (modes g) h) w
  swap_weak (x ∷ []) l w = absurd (omega arith)
  swap_weak [] l w = absurd (omega arith)

  swap_unrestricted : (h : Holding) → length h ≡ suc (suc (length g)) → is_unrestricted (e.0 ∷ f.0 ∷ modes g) h ≡ true → is_unrestricted (f.0 ∷ e.0 ∷ modes g) (with_exchange 0 h) ≡ true
  swap_unrestricted (x ∷ y ∷ h) l w = swap_true (not (not (is_persistent e.0) && x)) (not (not (is_persistent f.0) && y)) (is_unrestricted (modes g) h) w
  swap_unrestricted (x ∷ []) l w = absurd (omega arith)
  swap_unrestricted [] l w = absurd (omega arith)

  far_place : (i : ℕ) → crossed 1 1 (suc (suc i)) ≡ suc (suc i)
  far_place i = ap (crossed 1 1) (two i) ∙ far i ∙ sym (two i)
    where
      two : (i : ℕ) → suc (suc i) ≡ i + 2
      two i = omega arith

  swap_uses : (h : Holding) (i : ℕ) → length h ≡ suc (suc (length g)) → Uses (e.0 ∷ f.0 ∷ modes g) h i → Uses (f.0 ∷ e.0 ∷ modes g) (with_exchange 0 h) (crossed 1 1 i)
  swap_uses (x ∷ y ∷ h) zero l p = (p.0, swap_true (not (is_linear e.0 && false)) (not (is_linear f.0 && y)) (is_weak (modes g) h) p.1)
  swap_uses (x ∷ y ∷ h) (suc zero) l p = (p.0, swap_true (not (is_linear e.0 && x)) (not (is_linear f.0 && false)) (is_weak (modes g) h) p.1)
  swap_uses (x ∷ y ∷ h) (suc (suc i)) l p = subst (λ j. Uses (f.0 ∷ e.0 ∷ modes g) (y ∷ x ∷ h) j) (sym (far_place i))
      (p.0, swap_true (not (is_linear e.0 && x)) (not (is_linear f.0 && y)) (is_weak (modes g) (without i h)) p.1)
  swap_uses (x ∷ []) i l p = absurd (omega arith)
  swap_uses [] i l p = absurd (omega arith)

  pub swapped : Carries (crossed 1 1) Newer Older (with_exchange 0)
  swapped = record { variable = swap_variable; split = swap_split; weak = swap_weak; unrestricted = swap_unrestricted; uses = swap_uses }

-- ---- after newer entries
raise_low : (k i : ℕ) → i < k → raise 1 k i ≡ i
raise_low k i l = grind arith

raise_high : (k i : ℕ) → k ≤ i → raise 1 k i ≡ i + 1
raise_high k i l = grind arith

lift_next_one : (k : ℕ) (r : Renumbering) → lifted 1 (lifted k r) ≡ lifted (suc k) r
lift_next_one k r = ext (at_number k r)
  where
    at_number : (k : ℕ) (r : Renumbering) (i : ℕ) → lifted 1 (lifted k r) i ≡ lifted (suc k) r i
    at_number k r zero = sym (lift_in (suc k) r 0 (omega arith))
    at_number k r (suc i) = lift_next (lifted k r) i ∙ ⊎_elim (λ b. ap suc (lift_in k r i b) ∙ sym (lift_in (suc k) r (suc i) (omega arith)))
        (λ b. ap suc (lift_out k r i b) ∙ outside k r i b) (cut i k)
      where
        difference : (k i : ℕ) → suc i - suc k ≡ i - k
        difference k i = omega arith

        outside : (k : ℕ) (r : Renumbering) (i : ℕ) → k ≤ i → suc (r (i - k) + k) ≡ lifted (suc k) r (suc i)
        outside k r i b = more (r (i - k)) k ∙ sym (ap (λ j. r j + suc k) (difference k i)) ∙ sym (lift_out (suc k) r (suc i) (omega arith))
          where
            more : (n k : ℕ) → suc (n + k) ≡ n + suc k
            more n k = omega arith

-- what stands before both entries mentions neither
past_both : (k i : ℕ) → lifted k (crossed 1 1) (raise 1 k (raise 1 k i)) ≡ raise 1 k (raise 1 k i)
past_both k i = ⊎_elim (λ b. low k i b) (λ b. high k i b) (cut i k)
  where
    low : (k i : ℕ) → i < k → lifted k (crossed 1 1) (raise 1 k (raise 1 k i)) ≡ raise 1 k (raise 1 k i)
    low k i b = let e : raise 1 k (raise 1 k i) ≡ i = ap (raise 1 k) (raise_low k i b) ∙ raise_low k i b in ap (lifted k (crossed 1 1)) e ∙ lift_in k (crossed 1 1) i b ∙ sym e

    sum : (k i : ℕ) → k ≤ i → (i + 1) + 1 ≡ ((i - k) + 2) + k
    sum k i b = omega arith

    rest : (k i : ℕ) → k ≤ i → ((i + 1) + 1) - k ≡ (i - k) + 2
    rest k i b = omega arith

    high : (k i : ℕ) → k ≤ i → lifted k (crossed 1 1) (raise 1 k (raise 1 k i)) ≡ raise 1 k (raise 1 k i)
    high k i b = let e : raise 1 k (raise 1 k i) ≡ (i + 1) + 1 = ap (raise 1 k) (raise_high k i b) ∙ raise_high k (i + 1) (omega arith) in
        ap (lifted k (crossed 1 1)) e ∙ lift_out k (crossed 1 1) ((i + 1) + 1) (omega arith) ∙ ap (λ j. crossed 1 1 j + k) (rest k i b) ∙ ap (λ j. j + k) (far (i - k)) ∙ sym (sum k i b) ∙ sym e

same_past : (k : ℕ) → past (with_exchange k) ≡ with_exchange (suc k)
same_past k = ext at_holding
  where
    at_holding : (h : Holding) → past (with_exchange k) h ≡ with_exchange (suc k) h
    at_holding [] = refl
    at_holding (y ∷ h) = refl

pub exchanged : (k : ℕ) (e f : Mode × PlainType) (g : Context) → k ≤ length g
    → Carries (lifted k (crossed 1 1)) (with_entry k (past_one e) (with_entry k f g)) (with_entry k (past_one f) (with_entry k e g)) (with_exchange k)
exchanged zero e f g l = subst (λ r. Carries r (past_one e ∷ f ∷ g) (past_one f ∷ e ∷ g) (with_exchange 0)) (sym (lift_zero (crossed 1 1))) (swapped e f g)
exchanged (suc k) e f (d ∷ g) l =
    let old = with_entry k (past_one e) (with_entry k f g) in let new = with_entry k (past_one f) (with_entry k e g) in
    let t = ren_type (raise 1 k) (ren_type (raise 1 k) d.1) in
    let same : ren_type (lifted k (crossed 1 1)) (ren_type (raise 1 k) (ren_type (raise 1 k) d.1)) ≡ ren_type (raise 1 k) (ren_type (raise 1 k) d.1) =
    ap (ren_type (lifted k (crossed 1 1))) (composed_type (raise 1 k) (raise 1 k) d.1) ∙ composed_type (lifted k (crossed 1 1)) (λ i. raise 1 k (raise 1 k i)) d.1
    ∙ ap (λ r. ren_type r d.1) (ext (past_both k)) ∙ sym (composed_type (raise 1 k) (raise 1 k) d.1) in
    subst (λ r. Carries r (with_entry (suc k) (past_one e) (with_entry (suc k) f (d ∷ g))) (with_entry (suc k) (past_one f) (with_entry (suc k) e (d ∷ g))) (with_exchange (suc k))) (lift_next_one k (crossed 1 1))
    (subst (λ T. Carries (lifted 1 (lifted k (crossed 1 1))) (with_entry (suc k) (past_one e) (with_entry (suc k) f (d ∷ g))) (with_entry (suc k) (past_one f) (with_entry (suc k) e (d ∷ g))) T) (same_past k)
    (subst (λ a. Carries (lifted 1 (lifted k (crossed 1 1))) (with_entry (suc k) (past_one e) (with_entry (suc k) f (d ∷ g))) ((d.0, a) ∷ with_entry k (past_one f) (with_entry k e g)) (past (with_exchange k))) same
    (carries_under d.0 t (lifted k (crossed 1 1)) old new (with_exchange k) (exchanged k e f g (omega arith)))))
exchanged (suc k) e f [] l = absurd (omega arith)

length_with : (k : ℕ) (e : Mode × PlainType) (g : Context) → k ≤ length g → length (with_entry k e g) ≡ suc (length g)
length_with zero e g l = refl
length_with (suc k) e (d ∷ g) l = ap suc (length_with k e g (omega arith))
length_with (suc k) e [] l = absurd (omega arith)

pub context_exchange : ContextExchange
context_exchange sig g h k e f w l b = carry sig (constants_closed sig w) (lifted k (crossed 1 1)) (with_entry k (past_one e) (with_entry k f g)) (with_entry k (past_one f) (with_entry k e g)) (with_exchange k) (exchanged k e f g b) h
    (l ∙ sym (length_with k (past_one e) (with_entry k f g) (more k (length g) (length (with_entry k f g)) b (length_with k f g b)) ∙ ap suc (length_with k f g b)))
  where
    more : (k n m : ℕ) → k ≤ n → m ≡ suc n → k ≤ m
    more k n m b e = omega arith
