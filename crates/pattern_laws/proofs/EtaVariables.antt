-- The variables of eta-long forms, and that the places of a neutral are determined.
use Rattle.std.specs.Prelude.{ℕ, Bool, true, false, zero, suc, ◌+◌, ◌≡◌, ◌≤◌, ◌⊎◌, ◌&&◌, nat_eq, if◌then◌else◌, List, [], ◌∷◌, length, Some, None, refl}
use Rattle.std.proofs.Common.{sym, subst, arith, inl, inr, ⊎_elim}
use Rattle.clf_syntax.specs.declared.tree.Head.TheVariants.{Var}
use Rattle.clf_syntax.specs.Tree.{PlainNeutral, head_alone, app, fst, snd}
use Rattle.clf_syntax.specs.TypeTree.{SimpleType, base, arrow, simple_with, simple_top, lax, SimpleTelescope, simple_end, simple_binding}
use Rattle.clf_syntax.specs.Simple.{simple_modes}
use Rattle.clf_syntax.specs.Renaming.{ren_neutral, up}
use Rattle.clf_syntax.specs.Occurs.{occurs, occurs_neutral, occurs_tuple}
use Rattle.clf_syntax.proofs.OccursLaws.{or_first, or_second, either, source_neutral}
use Rattle.eta_laws.specs.Eta.{eta, variables}
use Rattle.pattern_laws.specs.Patterns.{Place, on, blank, local_at}
use Rattle.pattern_laws.proofs.Occurrences.{target_neutral}

own : (i : ℕ) → nat_eq i i ≡ true
own i = grind arith

same_number : (i v : ℕ) → nat_eq i v ≡ true → i ≡ v
same_number i v e = grind arith

not_both_blank : (a b : Bool) → a && b ≡ false → (a ≡ false) ⊎ (b ≡ false)
not_both_blank true b e = inr e
not_both_blank false b e = inl refl

-- At a type that is not blank the neutral's variables occur in its eta-long form.
pub eta_there : (t : SimpleType) (n : PlainNeutral) (v : ℕ) → blank t ≡ false → occurs_neutral v n ≡ true → occurs v (eta t n) ≡ true
eta_there (base a) n v b e = e
eta_there (arrow m d c) n v b e = eta_there c (app m (ren_neutral (up 1) n) (eta d (head_alone (Var 0)))) (v + 1) b (or_first (occurs_neutral (v + 1) (ren_neutral (up 1) n)) (occurs (v + 1) (eta d (head_alone (Var 0)))) (target_neutral (up 1) n v e))
eta_there (simple_with c d) n v b e = ⊎_elim (λ h. or_first (occurs v (eta c (fst n))) (occurs v (eta d (snd n))) (eta_there c (fst n) v h e)) (λ h. or_second (occurs v (eta c (fst n))) (occurs v (eta d (snd n))) (eta_there d (snd n) v h e)) (not_both_blank (blank c) (blank d) b)
eta_there simple_top n v b e = absurd (cc)
eta_there (lax ts) n v b e = or_first (occurs_neutral v n) (occurs_tuple (v + length (simple_modes ts)) (variables ts)) e

-- No other variables occur there.
mutual
  pub eta_source : (t : SimpleType) (n : PlainNeutral) (v : ℕ) → occurs v (eta t n) ≡ true → occurs_neutral v n ≡ true
  eta_source (base a) n v e = e
  eta_source (arrow m d c) n v e = ⊎_elim
      (λ h. let (j, p, q) = source_neutral (up 1) n (v + 1) h in subst (λ k. occurs_neutral k n ≡ true) (back j p) q)
      (λ h. absurd (apart (eta_source d (head_alone (Var 0)) (v + 1) h)))
      (either (occurs_neutral (v + 1) (ren_neutral (up 1) n)) (occurs (v + 1) (eta d (head_alone (Var 0)))) (eta_source c (app m (ren_neutral (up 1) n) (eta d (head_alone (Var 0)))) (v + 1) e))
    where
      back : (j : ℕ) → j + 1 ≡ v + 1 → j ≡ v
      back j p = omega arith

      apart : nat_eq 0 (v + 1) ≡ true → ⊥
      apart h = let k : 0 ≡ v + 1 = same_number 0 (v + 1) h in omega (arith, k)
  eta_source (simple_with c d) n v e = ⊎_elim (λ h. eta_source c (fst n) v h) (λ h. eta_source d (snd n) v h) (either (occurs v (eta c (fst n))) (occurs v (eta d (snd n))) e)
  eta_source simple_top n v e = absurd (cc)
  eta_source (lax ts) n v e = ⊎_elim (λ h. h) (λ h. absurd (variables_source ts (v + length (simple_modes ts)) (far v (length (simple_modes ts))) h)) (either (occurs_neutral v n) (occurs_tuple (v + length (simple_modes ts)) (variables ts)) e)
    where
      far : (v n : ℕ) → n ≤ v + n
      far v n = omega arith

  variables_source : (ts : SimpleTelescope) (v : ℕ) → length (simple_modes ts) ≤ v → occurs_tuple v (variables ts) ≡ true → ⊥
  variables_source simple_end v h e = cc
  variables_source (simple_binding m t ts) v h e = ⊎_elim
      (λ k. apart (same_number (length (simple_modes ts)) v (eta_source t (head_alone (Var (length (simple_modes ts)))) v k)))
      (λ k. variables_source ts v (omega arith) k)
      (either (occurs v (eta t (head_alone (Var (length (simple_modes ts)))))) (occurs_tuple v (variables ts)) e)
    where
      apart : length (simple_modes ts) ≡ v → ⊥
      apart k = omega (arith, h, k)

-- Of a type that is not blank, eta-long forms of different variables differ.
pub eta_one : (t : SimpleType) (v w : ℕ) → blank t ≡ false → eta t (head_alone (Var v)) ≡ eta t (head_alone (Var w)) → v ≡ w
eta_one t v w b e = sym (same_number w v (eta_source t (head_alone (Var w)) v (subst (λ o. occurs v o ≡ true) e (eta_there t (head_alone (Var v)) v b (own v)))))

shown : (b : Bool) (x v : ℕ) → (if b then None else Some x) ≡ Some v → (b ≡ false) × (x ≡ v)
shown true x v e = absurd (cc)
shown false x v e = (refl, cc)

-- The variable of a place that is not blank occurs in the neutral.
pub place_occurs : (ps : List Place) (n : PlainNeutral) (i v : ℕ) → local_at ps i ≡ Some v → occurs_neutral v (on ps n) ≡ true
place_occurs [] n i v e = absurd (cc)
place_occurs (p ∷ ps) n zero v e = let (b, h) = shown (blank p.1) p.2 v e in or_second (occurs_neutral v (on ps n)) (occurs v (eta p.1 (head_alone (Var p.2)))) (eta_there p.1 (head_alone (Var p.2)) v b (subst (λ k. nat_eq p.2 k ≡ true) h (own p.2)))
place_occurs (p ∷ ps) n (suc i) v e = or_first (occurs_neutral v (on ps n)) (occurs v (eta p.1 (head_alone (Var p.2)))) (place_occurs ps n i v e)
