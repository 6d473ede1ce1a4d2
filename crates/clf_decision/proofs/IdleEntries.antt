-- The scopes of the entries of a step end: which entry is left, said of the row that is left, and of the parts that it stands for.
use Rattle.std.proofs.Common.{◌≡◌, ℕ, zero, suc, ◌+◌, ◌<◌, Bool, true, false, if◌then◌else◌, List, [], ◌∷◌, length, Some, slice_get, refl, sym, ap, ◌∙◌, arith}
use Rattle.std.proofs.Math.Logic.{◌⊎◌, inl, inr}
use Rattle.clf_syntax.specs.declared.tree.Mode.{Mode}
use Rattle.clf_syntax.specs.declared.tree.Mode.TheVariants.{Persistent, Affine, Linear}
use Rattle.clf_syntax.specs.TypeTree.{PlainTelescope, end, binding, PlainType}
use Rattle.use_contexts.specs.Context.{Context, modes, telescope_modes, with_entries}
use Rattle.use_contexts.specs.Holding.{Holding, all_held}
use Rattle.use_contexts.specs.Rows.{implies, within, stands, is_unused, newest, older, EachWithin, EachStands, IsSubholding, Stands, Agrees, Leftover}
use Rattle.use_contexts.proofs.Bits.{at_entry, given_2}
use Rattle.clf_rules.specs.Refusal.{unused, level}
use Rattle.clf_rules.specs.Explained.{telescope_width}
use Rattle.clf_rules.proofs.UsedParts.{used_of, used-part}
use Rattle.clf_rules.proofs.Leavings.{row-leaves}
use Rattle.clf_decision.specs.Outcome.{Outcome, passed, refused, and_then}
use Rattle.clf_decision.specs.Checking.{closed_scope, closed_scopes}

-- A linear entry is left of the row, without slack.
pub record LeftAt (ms : List Mode) (l : Holding) (s : Bool) (i : ℕ) : Type 0 where
  pub linear : slice_get ms i ≡ Some Linear
  pub left : slice_get l i ≡ Some true
  pub bare : s ≡ false

-- ---- no part that the row stands for holds such an entry
idle_mark : (h s z : Bool) → s ≡ false → stands Linear h true s z ≡ true → z ≡ false
idle_mark h s false e q = refl
idle_mark true true true e q = cc
idle_mark true false true e q = cc
idle_mark false s true e q = cc

unheld-there : (ms : List Mode) (h l : Holding) (s : Bool) (p : Holding) (i : ℕ) → EachStands ms h l s p → length p ≡ length ms → LeftAt ms l s i → slice_get p i ≡ Some false
unheld-there [] h l s p i w n a = let e = a.linear in absurd (cc)
unheld-there (m ∷ ms) h l s [] i w n a = absurd (omega arith)
unheld-there (m ∷ ms) h [] s (z ∷ p) i w n a = let e = a.left in absurd (cc)
unheld-there (Persistent ∷ ms) h (x ∷ l) s (z ∷ p) zero w n a = let e = a.linear in absurd (cc)
unheld-there (Affine ∷ ms) h (x ∷ l) s (z ∷ p) zero w n a = let e = a.linear in absurd (cc)
unheld-there (Linear ∷ ms) h (true ∷ l) s (z ∷ p) zero w n a = ap Some (idle_mark (newest h) s z a.bare w.0)
unheld-there (Linear ∷ ms) h (false ∷ l) s (z ∷ p) zero w n a = let e = a.left in absurd (cc)
unheld-there (m ∷ ms) h (x ∷ l) s (z ∷ p) (suc i) w n a = unheld-there ms (older h) l s p i w.1 (omega arith) (record { linear = a.linear; left = a.left; bare = a.bare })

pub left-is-idle : (ms : List Mode) (h : Holding) (y : Leftover) (P : Holding → Type 0) (i : ℕ) → Agrees ms h (Some y) P → LeftAt ms y.0 y.1 i → (p : Holding) → IsSubholding ms h p → P p → slice_get p i ≡ Some false
left-is-idle ms h y P i a l p w t = let s = a.1 p w t in unheld-there ms h y.0 y.1 p i s.1 s.0 l

-- ---- and a held linear entry that no part holds is left so
-- A row with slack stands for the whole holding, if that is a part of itself.
pub each_whole : (ms : List Mode) (h l : Holding) → EachWithin ms h h → EachWithin ms h l → EachStands ms h l true h
each_whole [] h l a b = tt
each_whole (m ∷ ms) h l a b = (
  given_2 (within m (newest h) (newest h)) (within m (newest h) (newest l)) (stands m (newest h) (newest l) true (newest h))
      (at_entry (λ m h l _ _ _ _ _ _. implies (within m h h) (implies (within m h l) (stands m h l true h))) refl refl refl m (newest h) (newest l) true true true true true true) a.0 b.0,
  each_whole ms (older h) (older l) a.1 b.1,
)

no-slack : (ms : List Mode) (h l : Holding) (s : Bool) (P : Holding → Type 0) (i : ℕ) → Agrees ms h (Some (l, s)) P → IsSubholding ms h h → slice_get h i ≡ Some true
    → ((p : Holding) → IsSubholding ms h p → P p → slice_get p i ≡ Some false) → s ≡ false
no-slack ms h l true P i a w e f =
    let t : Stands ms h l true h = (w.0, each_whole ms h l w.1 a.0.1) in
    let q = f h w (a.2 h w t) in absurd (cc)
no-slack ms h l false P i a w e f = refl

pub idle-is-left : (g : Context) (h : Holding) (y : Leftover) (P : Holding → Type 0) (i : ℕ) → Agrees (modes g) h (Some y) P → IsSubholding (modes g) h h
    → slice_get (modes g) i ≡ Some Linear → slice_get h i ≡ Some true → ((p : Holding) → IsSubholding (modes g) h p → P p → slice_get p i ≡ Some false) → LeftAt (modes g) y.0 y.1 i
idle-is-left g h (l, s) P i a w m e f =
    let u = used-part (modes g) h (l, s) P a in
    record {
      linear = m;
      left = ((row-leaves g h (l, s) P a).entry i).1 (e, inr (used_of (modes g) h l, u.0, u.1, f (used_of (modes g) h l) u.0 u.1));
      bare = no-slack (modes g) h l s P i a w e f;
    }

-- ---- the row after so many entries
abbrev pub beyond : ℕ → Holding → Holding
beyond zero l = l
beyond (suc k) l = older (beyond k l)

beyond-newer : (k : ℕ) (x : Bool) (l : Holding) → older (beyond k (x ∷ l)) ≡ beyond k l
beyond-newer zero x l = refl
beyond-newer (suc k) x l = ap older (beyond-newer k x l)

beyond-nothing : (k : ℕ) → beyond k [] ≡ []
beyond-nothing zero = refl
beyond-nothing (suc k) = ap older (beyond-nothing k)

newest-there : (k : ℕ) (l : Holding) → newest (beyond k l) ≡ true → slice_get l k ≡ Some true
newest-there k [] e = let f = ap newest (beyond-nothing k) in absurd (cc)
newest-there zero (x ∷ l) e = ap Some e
newest-there (suc k) (x ∷ l) e = newest-there k l (sym (ap newest (beyond-newer k x l)) ∙ e)

there-newest : (k : ℕ) (l : Holding) → slice_get l k ≡ Some true → newest (beyond k l) ≡ true
there-newest k [] e = absurd (cc)
there-newest zero (x ∷ l) e = cc
there-newest (suc k) (x ∷ l) e = ap newest (beyond-newer k x l) ∙ there-newest k l e

-- ---- contexts with entries
behind_held : (ms : List Mode) (h : Holding) (i : ℕ) → slice_get (all_held ms h) (length ms + i) ≡ slice_get h i
behind_held [] h i = let n : 0 + i ≡ i = omega arith in ap (λ j. slice_get h j) n
behind_held (m ∷ ms) h i = let n : suc (length ms) + i ≡ length ms + suc i = omega arith in ap (λ j. slice_get (all_held ms (true ∷ h)) j) n ∙ behind_held ms (true ∷ h) (suc i)

held_among : (ms : List Mode) (h : Holding) (i : ℕ) → i < length ms → slice_get (all_held ms h) i ≡ Some true
held_among [] h i n = absurd (omega arith)
held_among (m ∷ ms) h i n = by (cut (length ms) i n) (held_among ms (true ∷ h) i)
  where
    cut : (k i : ℕ) → i < suc k → (i < k) ⊎ (i ≡ k + 0)
    cut k i n = grind arith

    by : (i < length ms) ⊎ (i ≡ length ms + 0) → (i < length ms → slice_get (all_held ms (true ∷ h)) i ≡ Some true) → slice_get (all_held ms (true ∷ h)) i ≡ Some true
    by (inl l) rest = rest l
    by (inr e) rest = ap (λ j. slice_get (all_held ms (true ∷ h)) j) e ∙ behind_held ms (true ∷ h) 0

pub entered-modes : (u : PlainTelescope) (g : Context) (k : ℕ) → slice_get (modes (with_entries u g)) (telescope_width u + k) ≡ slice_get (modes g) k
entered-modes end g k = let n : 0 + k ≡ k = omega arith in ap (λ i. slice_get (modes g) i) n
entered-modes (binding m a s) g k =
    let n : suc (telescope_width s) + k ≡ telescope_width s + suc k = omega arith in
    ap (λ i. slice_get (modes (with_entries s ((m, a) ∷ g))) i) n ∙ entered-modes s ((m, a) ∷ g) (suc k)

pub entered-length : (u : PlainTelescope) (g : Context) → length (with_entries u g) ≡ telescope_width u + length g
entered-length end g = omega arith
entered-length (binding m a s) g = let e = entered-length s ((m, a) ∷ g) in omega (arith, e)

-- Each of the entries is held.
pub entered-held : (u : PlainTelescope) (h : Holding) (i : ℕ) → i < telescope_width u → slice_get (all_held (telescope_modes u) h) i ≡ Some true
entered-held u h i n = held_among (telescope_modes u) h i n

-- ---- the scopes
-- What the end of the scopes comes to: where it passed, no linear entry is left without slack; where it is refused, one is, and it is the newest.
abbrev pub ScopesEnd : PlainTelescope → Context → Leftover → Outcome Leftover → Type 0
ScopesEnd u g y (passed a) = (a.0 ≡ beyond (telescope_width u) y.0) × (a.1 ≡ y.1) × ((i : ℕ) → i < telescope_width u → LeftAt (modes (with_entries u g)) y.0 y.1 i → ⊥)
ScopesEnd u g y (refused path why) = (i : ℕ) × (path ≡ []) × (why ≡ unused (level (with_entries u g) i)) × (i < telescope_width u)
    × LeftAt (modes (with_entries u g)) y.0 y.1 i × ((j : ℕ) → j < i → LeftAt (modes (with_entries u g)) y.0 y.1 j → ⊥)

unused-mark : (m : Mode) (l s : Bool) → is_unused m l s ≡ true → (m ≡ Linear) × (l ≡ true) × (s ≡ false)
unused-mark Persistent l s e = absurd (cc)
unused-mark Affine l s e = absurd (cc)
unused-mark Linear true true e = absurd (cc)
unused-mark Linear true false e = (refl, refl, refl)
unused-mark Linear false s e = absurd (cc)

used-mark : (m : Mode) (l s : Bool) → is_unused m l s ≡ false → m ≡ Linear → l ≡ true → s ≡ false → ⊥
used-mark Persistent l s e a b c = cc
used-mark Affine l s e a b c = cc
used-mark Linear true true e a b c = cc
used-mark Linear true false e a b c = cc
used-mark Linear false s e a b c = cc

module _ (m : Mode) (t : PlainType) (s : PlainTelescope) (g : Context) (y : Leftover) where
  the-mode : slice_get (modes (with_entries s ((m, t) ∷ g))) (telescope_width s) ≡ Some m
  the-mode = let n : telescope_width s ≡ telescope_width s + 0 = omega arith in ap (λ i. slice_get (modes (with_entries s ((m, t) ∷ g))) i) n ∙ entered-modes s ((m, t) ∷ g) 0

  the-level : suc (length g) ≡ level (with_entries s ((m, t) ∷ g)) (telescope_width s)
  the-level = let e = entered-length s ((m, t) ∷ g) in omega (arith, e)

  last-scope : (a : Leftover) (b : Bool) → is_unused m (newest a.0) a.1 ≡ b → ScopesEnd s ((m, t) ∷ g) y (passed a)
      → ScopesEnd (binding m t s) g y (if b then refused [] (unused (suc (length g))) else passed (older a.0, a.1))
  last-scope a true e c =
      let x = unused-mark m (newest a.0) a.1 e in (
        telescope_width s,
        refl,
        ap unused the-level,
        omega arith,
        record { linear = the-mode ∙ ap Some x.0; left = newest-there (telescope_width s) y.0 (sym (ap newest c.0) ∙ x.1); bare = sym c.1 ∙ x.2 },
        c.2,
      )
  last-scope a false e c = (ap older c.0, c.1, λ i n l. here i n l)
    where
      at-last : (i : ℕ) → i ≡ telescope_width s → LeftAt (modes (with_entries s ((m, t) ∷ g))) y.0 y.1 i → ⊥
      at-last i q l =
          let mode : Some m ≡ Some Linear = sym the-mode ∙ ap (λ j. slice_get (modes (with_entries s ((m, t) ∷ g))) j) (sym q) ∙ l.linear in
          let linear : m ≡ Linear = cc in
          let there : slice_get y.0 (telescope_width s) ≡ Some true = ap (λ j. slice_get y.0 j) (sym q) ∙ l.left in
          used-mark m (newest a.0) a.1 e linear (ap newest c.0 ∙ there-newest (telescope_width s) y.0 there) (c.1 ∙ l.bare)

      cut : (i : ℕ) → i < suc (telescope_width s) → (i < telescope_width s) ⊎ (i ≡ telescope_width s)
      cut i n = grind arith

      by_place : (i : ℕ) → (i < telescope_width s) ⊎ (i ≡ telescope_width s) → LeftAt (modes (with_entries s ((m, t) ∷ g))) y.0 y.1 i → ⊥
      by_place i (inl n) l = c.2 i n l
      by_place i (inr q) l = at-last i q l

      here : (i : ℕ) → i < suc (telescope_width s) → LeftAt (modes (with_entries s ((m, t) ∷ g))) y.0 y.1 i → ⊥
      here i n l = by_place i (cut i n) l

  one-more : (o : Outcome Leftover) → ScopesEnd s ((m, t) ∷ g) y o → ScopesEnd (binding m t s) g y (and_then o (closed_scope m g))
  one-more (refused path why) c = let n = c.3 in (c.0, c.1, c.2, omega arith, c.4, c.5)
  one-more (passed a) c = last-scope a (is_unused m (newest a.0) a.1) refl c

pub scopes-end : (u : PlainTelescope) (g : Context) (y : Leftover) → ScopesEnd u g y (closed_scopes u g y)
scopes-end end g y = (refl, refl, λ i n. absurd (omega arith))
scopes-end (binding m t s) g y = one-more m t s g y (closed_scopes s ((m, t) ∷ g) y) (scopes-end s ((m, t) ∷ g) y)

-- The newest entry that is left is the one that is refused.
newest-one : (i j : ℕ) (P : ℕ → Type 0) → P i → P j → ((k : ℕ) → k < i → P k → ⊥) → ((k : ℕ) → k < j → P k → ⊥) → i ≡ j
newest-one i j P a b f g = by (i_or j)
  where
    i_or : (j : ℕ) → (i < j) ⊎ (i ≡ j) ⊎ (j < i)
    i_or j = grind arith

    by : (i < j) ⊎ (i ≡ j) ⊎ (j < i) → i ≡ j
    by (inl l) = absurd (g i l a)
    by (inr (inl e)) = e
    by (inr (inr l)) = absurd (f j l b)

pub scopes-refused : (u : PlainTelescope) (g : Context) (y : Leftover) (o : Outcome Leftover) (i : ℕ) → ScopesEnd u g y o → i < telescope_width u
    → LeftAt (modes (with_entries u g)) y.0 y.1 i → ((j : ℕ) → j < i → LeftAt (modes (with_entries u g)) y.0 y.1 j → ⊥) → o ≡ refused [] (unused (level (with_entries u g) i))
scopes-refused u g y (passed a) i c n l f = absurd (c.2 i n l)
scopes-refused u g y (refused path why) i c n l f =
    let e : c.0 ≡ i = newest-one c.0 i (λ k. LeftAt (modes (with_entries u g)) y.0 y.1 k) c.4 l c.5 f in
    ap (λ q. refused q why) c.1 ∙ ap (λ z. refused [] z) (c.2 ∙ ap (λ k. unused (level (with_entries u g) k)) e)
