-- A row that stands for exactly the parts with a property is what is left after it.
use Rattle.std.proofs.Common.{◌≡◌, ℕ, zero, suc, not, Bool, true, false, ◌&&◌, List, [], ◌∷◌, length, Option, None, Some, slice_get, refl, sym, ap, ◌∙◌, arith}
use Rattle.std.proofs.Math.Logic.{◌⊎◌, inl, inr}
use Rattle.clf_syntax.specs.declared.tree.Mode.{Mode}
use Rattle.clf_syntax.specs.declared.tree.Mode.TheVariants.{Persistent, Affine, Linear}
use Rattle.use_contexts.specs.Context.{Context, modes}
use Rattle.use_contexts.specs.Holding.{Holding}
use Rattle.use_contexts.specs.Rows.{within, stands, newest, older, EachWithin, EachStands, Agrees, Leftover}
use Rattle.use_contexts.proofs.Bits.{and-left, and-right}
use Rattle.clf_rules.specs.Explained.{CanSpare, Leaves}
use Rattle.clf_rules.proofs.UsedParts.{used_of, used-part}

-- ---- one entry
within_held : (m : Mode) (h : Bool) → within m h true ≡ true → h ≡ true
within_held Persistent h e = and-left h true e
within_held Affine h e = e
within_held Linear h e = e

newest_held : (h : Holding) → newest h ≡ true → slice_get h 0 ≡ Some true
newest_held [] e = cc
newest_held (x ∷ h) e = ap Some e

older_held : (h : Holding) (i : ℕ) → slice_get (older h) i ≡ Some true → slice_get h (suc i) ≡ Some true
older_held [] i e = e
older_held (x ∷ h) i e = e

spared : (h : Bool) → h && not true ≡ false
spared true = refl
spared false = refl

left_where_spared : (m : Mode) (l s : Bool) → stands m true l s false ≡ true → l ≡ true
left_where_spared m true s e = refl
left_where_spared Persistent false s e = absurd (cc)
left_where_spared Affine false s e = absurd (cc)
left_where_spared Linear false s e = absurd (cc)

-- ---- entries of rows
-- What a row leaves, its holding holds.
entry_held : (ms : List Mode) (h l : Holding) (i : ℕ) → EachWithin ms h l → length l ≡ length ms → slice_get l i ≡ Some true → slice_get h i ≡ Some true
entry_held [] h [] i w n e = cc
entry_held [] h (y ∷ l) i w n e = absurd (omega arith)
entry_held (m ∷ ms) h [] i w n e = cc
entry_held (m ∷ ms) h (true ∷ l) zero w n e = newest_held h (within_held m (newest h) w.0)
entry_held (m ∷ ms) h (false ∷ l) zero w n e = absurd (cc)
entry_held (m ∷ ms) h (y ∷ l) (suc i) w n e = older_held h i (entry_held ms (older h) l i w.1 (omega arith) e)

-- What a row leaves and is not persistent, the part with the entries that are used does not hold.
entry_unused : (ms : List Mode) (h l : Holding) (i : ℕ) → length l ≡ length ms → slice_get l i ≡ Some true → (slice_get ms i ≡ Some Persistent → ⊥) → slice_get (used_of ms h l) i ≡ Some false
entry_unused [] h [] i n e p = absurd (cc)
entry_unused [] h (y ∷ l) i n e p = absurd (omega arith)
entry_unused (m ∷ ms) h [] i n e p = absurd (cc)
entry_unused (Persistent ∷ ms) h (y ∷ l) zero n e p = absurd (p refl)
entry_unused (Affine ∷ ms) h (true ∷ l) zero n e p = ap Some (spared (newest h))
entry_unused (Affine ∷ ms) h (false ∷ l) zero n e p = absurd (cc)
entry_unused (Linear ∷ ms) h (true ∷ l) zero n e p = ap Some (spared (newest h))
entry_unused (Linear ∷ ms) h (false ∷ l) zero n e p = absurd (cc)
entry_unused (m ∷ ms) h (y ∷ l) (suc i) n e p = entry_unused ms (older h) l i (omega arith) e p

-- A held entry that is persistent is left.
entry_kept : (ms : List Mode) (h l : Holding) (i : ℕ) → EachWithin ms h l → length l ≡ length ms → slice_get ms i ≡ Some Persistent → slice_get h i ≡ Some true → slice_get l i ≡ Some true
entry_kept [] h l i w n p e = absurd (cc)
entry_kept (m ∷ ms) h [] i w n p e = absurd (omega arith)
entry_kept (m ∷ ms) [] (y ∷ l) i w n p e = absurd (cc)
entry_kept (Persistent ∷ ms) (x ∷ h) (y ∷ l) zero w n p e = ap Some (and-right x y w.0)
entry_kept (Affine ∷ ms) (x ∷ h) (y ∷ l) zero w n p e = absurd (cc)
entry_kept (Linear ∷ ms) (x ∷ h) (y ∷ l) zero w n p e = absurd (cc)
entry_kept (m ∷ ms) (x ∷ h) (y ∷ l) (suc i) w n p e = entry_kept ms h l i w.1 (omega arith) p e

-- A held entry that some part that the row stands for does not hold is left.
entry_left : (ms : List Mode) (h l : Holding) (s : Bool) (p : Holding) (i : ℕ) → EachStands ms h l s p → length l ≡ length ms → slice_get h i ≡ Some true → slice_get p i ≡ Some false
    → length p ≡ length ms → slice_get l i ≡ Some true
entry_left [] h l s [] i w n e f k = absurd (cc)
entry_left [] h l s (z ∷ p) i w n e f k = absurd (omega arith)
entry_left (m ∷ ms) h [] s p i w n e f k = absurd (omega arith)
entry_left (m ∷ ms) [] (y ∷ l) s p i w n e f k = absurd (cc)
entry_left (m ∷ ms) (x ∷ h) (y ∷ l) s [] i w n e f k = absurd (cc)
entry_left (m ∷ ms) (true ∷ h) (y ∷ l) s (false ∷ p) zero w n e f k = ap Some (left_where_spared m y s w.0)
entry_left (m ∷ ms) (false ∷ h) (y ∷ l) s (z ∷ p) zero w n e f k = absurd (cc)
entry_left (m ∷ ms) (true ∷ h) (y ∷ l) s (true ∷ p) zero w n e f k = absurd (cc)
entry_left (m ∷ ms) (x ∷ h) (y ∷ l) s (z ∷ p) (suc i) w n e f k = entry_left ms h l s p i w.1 (omega arith) e f (omega arith)

-- ---- the row and what is left
pub modes_length : (g : Context) → length (modes g) ≡ length g
modes_length [] = refl
modes_length (e ∷ g) = ap suc (modes_length g)

module _ (g : Context) (h : Holding) (x : Leftover) (P : Holding → Type 0) (a : Agrees (modes g) h (Some x) P) where
  there : (i : ℕ) (o : Option Mode) → slice_get (modes g) i ≡ o → slice_get x.0 i ≡ Some true → (slice_get h i ≡ Some true) × ((slice_get (modes g) i ≡ Some Persistent) ⊎ CanSpare g h P i)
  there i (Some Persistent) q e = (entry_held (modes g) h x.0 i a.0.1 a.0.0 e, inl q)
  there i (Some Affine) q e =
      let u = used-part (modes g) h x P a in
      (entry_held (modes g) h x.0 i a.0.1 a.0.0 e, inr (used_of (modes g) h x.0, u.0, u.1, entry_unused (modes g) h x.0 i a.0.0 e (λ p. absurd (cc))))
  there i (Some Linear) q e =
      let u = used-part (modes g) h x P a in
      (entry_held (modes g) h x.0 i a.0.1 a.0.0 e, inr (used_of (modes g) h x.0, u.0, u.1, entry_unused (modes g) h x.0 i a.0.0 e (λ p. absurd (cc))))
  there i None q e =
      let u = used-part (modes g) h x P a in
      (entry_held (modes g) h x.0 i a.0.1 a.0.0 e, inr (used_of (modes g) h x.0, u.0, u.1, entry_unused (modes g) h x.0 i a.0.0 e (λ p. absurd (cc))))

  back : (i : ℕ) → slice_get h i ≡ Some true → (slice_get (modes g) i ≡ Some Persistent) ⊎ CanSpare g h P i → slice_get x.0 i ≡ Some true
  back i e (inl p) = entry_kept (modes g) h x.0 i a.0.1 a.0.0 p e
  back i e (inr p) = let s = a.1 p.0 p.1 p.2 in entry_left (modes g) h x.0 x.1 p.0 i s.1 a.0.0 e p.3 s.0

  pub row-leaves : Leaves g h P x.0
  row-leaves = record { marked = a.0.0 ∙ modes_length g; entry = λ i. ((λ e. there i (slice_get (modes g) i) refl e), (λ q. back i q.0 q.1)) }

same_marks : (l k : Holding) → length l ≡ length k → ((i : ℕ) → slice_get l i ≡ Some true → slice_get k i ≡ Some true) → ((i : ℕ) → slice_get k i ≡ Some true → slice_get l i ≡ Some true) → l ≡ k
same_marks [] [] n f b = refl
same_marks [] (y ∷ k) n f b = absurd (omega arith)
same_marks (x ∷ l) [] n f b = absurd (omega arith)
same_marks (true ∷ l) (true ∷ k) n f b = ap (λ r. true ∷ r) (same_marks l k (omega arith) (λ i. f (suc i)) (λ i. b (suc i)))
same_marks (false ∷ l) (false ∷ k) n f b = ap (λ r. false ∷ r) (same_marks l k (omega arith) (λ i. f (suc i)) (λ i. b (suc i)))
same_marks (true ∷ l) (false ∷ k) n f b = let e = f 0 refl in absurd (cc)
same_marks (false ∷ l) (true ∷ k) n f b = let e = b 0 refl in absurd (cc)

-- What is left after a property is one.
pub leaves-one : (g : Context) (h : Holding) (P : Holding → Type 0) (l k : Holding) → Leaves g h P l → Leaves g h P k → l ≡ k
leaves-one g h P l k u v = same_marks l k (u.marked ∙ sym v.marked) (λ i e. (v.entry i).1 ((u.entry i).0 e)) (λ i e. (u.entry i).1 ((v.entry i).0 e))
