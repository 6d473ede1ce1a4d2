-- What an entry of a tuple leaves of the row that it started from.
use Rattle.std.proofs.Common.{◌≡◌, ℕ, zero, suc, true, false, List, [], ◌∷◌, Option, None, Some, slice_get, refl, ap, ◌∙◌}
use Rattle.std.proofs.Math.Logic.{◌⊎◌, inl, inr}
use Rattle.clf_syntax.specs.declared.tree.Mode.{Mode}
use Rattle.clf_syntax.specs.declared.tree.Mode.TheVariants.{Persistent, Affine, Linear}
use Rattle.use_contexts.specs.Context.{Context, modes}
use Rattle.use_contexts.specs.Holding.{Holding, WellMarked, is_persistent, is_weak, is_unrestricted, persistent_alone, may_use, allowed}
use Rattle.use_contexts.specs.Rows.{IsSubholding, EachWithin, Agrees, Leftover, outside, slack_outside}
use Rattle.use_contexts.proofs.RowLaws.{agrees-same}
use Rattle.use_contexts.proofs.UseLaws.{IsSubholding-self}
use Rattle.use_contexts.proofs.ArgumentLaws.{affine-agrees, alone_length, alone_bare, alone_part, alone_stands}
use Rattle.clf_rules.specs.Explained.{CanSpare, Leaves}
use Rattle.clf_rules.proofs.Leavings.{row-leaves, modes_length}

-- ---- the persistent entries alone
alone_within : (ms : List Mode) (h : Holding) → WellMarked ms h → EachWithin ms h (persistent_alone ms)
alone_within [] h w = tt
alone_within (m ∷ ms) [] w = absurd w
alone_within (Persistent ∷ ms) (x ∷ h) w = let e = w.0 refl in (cc, alone_within ms h w.1)
alone_within (Affine ∷ ms) (x ∷ h) w = (refl, alone_within ms h w.1)
alone_within (Linear ∷ ms) (x ∷ h) w = (refl, alone_within ms h w.1)

pub alone-part : (ms : List Mode) (h : Holding) → WellMarked ms h → IsSubholding ms h (persistent_alone ms)
alone-part ms h w = (alone_length ms, alone_within ms h w)

-- What is typed under some part of them is typed under all of them.
pub alone-has : (ms : List Mode) (y : Leftover) (P : Holding → Type 0) → Agrees ms (persistent_alone ms) (Some y) P → P (persistent_alone ms)
alone-has ms y P a = a.2 (persistent_alone ms) (alone_part ms) (alone_stands ms y.0 y.1 a.0)

alone_mark : (ms : List Mode) (i : ℕ) (m : Mode) → slice_get ms i ≡ Some m → slice_get (persistent_alone ms) i ≡ Some (is_persistent m)
alone_mark [] i m e = absurd (cc)
alone_mark (k ∷ ms) zero m e = let q : k ≡ m = cc in ap (λ j. Some (is_persistent j)) q
alone_mark (k ∷ ms) (suc i) m e = alone_mark ms i m e

no-mark : (ms : List Mode) (h : Holding) (i : ℕ) → WellMarked ms h → slice_get ms i ≡ None → slice_get h i ≡ Some true → ⊥
no-mark [] [] i w e f = cc
no-mark [] (x ∷ h) i w e f = w
no-mark (m ∷ ms) [] i w e f = w
no-mark (m ∷ ms) (x ∷ h) zero w e f = cc
no-mark (m ∷ ms) (x ∷ h) (suc i) w e f = no-mark ms h i w.1 e f

module _ (g : Context) (h : Holding) (w : WellMarked (modes g) h) (P : Holding → Type 0) where
  -- A persistent entry of a tuple leaves all.
  persistent-leaves : P (persistent_alone (modes g)) → Leaves g h (λ p. (is_unrestricted (modes g) p ≡ true) × P p) h
  persistent-leaves a = record {
    marked = (IsSubholding-self (modes g) h w).0 ∙ modes_length g;
    entry = λ i. ((λ e. (e, spared i (slice_get (modes g) i) refl e)), (λ q. q.0));
  }
    where
      by_alone : (i : ℕ) → slice_get (persistent_alone (modes g)) i ≡ Some false → CanSpare g h (λ p. (is_unrestricted (modes g) p ≡ true) × P p) i
      by_alone i e = (persistent_alone (modes g), alone-part (modes g) h w, (alone_bare (modes g), a), e)

      spared : (i : ℕ) (o : Option Mode) → slice_get (modes g) i ≡ o → slice_get h i ≡ Some true → (slice_get (modes g) i ≡ Some Persistent) ⊎ CanSpare g h (λ p. (is_unrestricted (modes g) p ≡ true) × P p) i
      spared i (Some Persistent) q e = inl q
      spared i (Some Affine) q e = inr (by_alone i (alone_mark (modes g) i Affine q))
      spared i (Some Linear) q e = inr (by_alone i (alone_mark (modes g) i Linear q))
      spared i None q e = absurd (no-mark (modes g) h i w q e)

  -- What an entry of a mode leaves is the row outside it.
  pub entry-leaves : (m : Mode) (y : Leftover) → Agrees (modes g) (allowed m (modes g) h) (Some y) P → Leaves g h (λ p. (may_use m (modes g) p ≡ true) × P p) (outside m (modes g) h y.0)
  entry-leaves Persistent y a = persistent-leaves (alone-has (modes g) y P a)
  entry-leaves Affine y a = row-leaves g h (outside Affine (modes g) h y.0, slack_outside Affine y.1) (λ k. (is_weak (modes g) k ≡ true) × P k)
      (affine-agrees (modes g) h (Some y) P (IsSubholding-self (modes g) h w) a)
  entry-leaves Linear y a = row-leaves g h y (λ k. (true ≡ true) × P k) (agrees-same (modes g) h (Some y) P (λ k. (true ≡ true) × P k) (λ k x. (refl, x)) (λ k x. x.1) a)
