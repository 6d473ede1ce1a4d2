-- The simple type of an eta-long form goes back from one neutral to another.
use Rattle.std.specs.Prelude.{ℕ, zero, suc, ◌+◌, ◌≡◌, ◌<◌, ◌≤◌, true, false, length, refl}
use Rattle.std.proofs.Common.{ap, arith, inl, ⊎_elim, ◌∙◌}
use Rattle.clf_syntax.specs.declared.tree.Head.{Head}
use Rattle.clf_syntax.specs.declared.tree.Head.TheVariants.{Meta, Var}
use Rattle.clf_syntax.specs.Tree.{PlainNeutral, app, fst, head_alone, head_of, snd}
use Rattle.clf_syntax.specs.TypeTree.{SimpleType, SimpleTelescope, base, arrow, simple_with, simple_top, lax, simple_end, simple_binding}
use Rattle.clf_syntax.specs.Simple.{Assignment, MayStand, SimplyTyped, SimplyTypedNeutral, SimplyTypedTuple, extended, extended_by, no_holes, simple_modes}
use Rattle.clf_syntax.specs.Renaming.{ren_neutral, up}
use Rattle.hered_subst.specs.TypedEnvironments.{is_metavariable}
use Rattle.hered_subst.proofs.SimpleTyping.{of_neutral, renamed_typed_neutral, to_neutral}
use Rattle.hered_subst.proofs.Total.{raised_types}
use Rattle.subst_laws.proofs.TypedBack.{typed_back_neutral}
use Rattle.eta_laws.specs.Eta.{eta, variables}
use Rattle.eta_laws.proofs.Expansions.{meta_renamed}

-- Each simple type that the neutral q has over y, the neutral r has over g.
abbrev pub GoesBack : Assignment → Assignment → PlainNeutral → PlainNeutral → Type 0
GoesBack g y r q = (w : SimpleType) → SimplyTypedNeutral y q w → SimplyTypedNeutral g r w

raised_back : (d : SimpleType) (g y : Assignment) (r q : PlainNeutral) → GoesBack g y r q → GoesBack (extended d g) (extended d y) (ren_neutral (up 1) r) (ren_neutral (up 1) q)
raised_back d g y r q b w p = of_neutral (renamed_typed_neutral (extended d g) (up 1)
    (to_neutral true g r w (b w (of_neutral (typed_back_neutral true (extended d y) (up 1) y (raised_types d y) q (to_neutral true (extended d y) (ren_neutral (up 1) q) w p))))) (raised_types d g))

-- The newest variables, so many, have the same types.
abbrev AgreeFor : ℕ → Assignment → Assignment → Type 0
AgreeFor n g y = (i : ℕ) → i < n → g (Var i) ≡ y (Var i)

agree_one : (n : ℕ) (d : SimpleType) (g y : Assignment) → AgreeFor n g y → AgreeFor (suc n) (extended d g) (extended d y)
agree_one n d g y a zero h = refl
agree_one n d g y a (suc i) h = a i (omega (arith, h))

agree_by : (u : SimpleTelescope) (n : ℕ) (g y : Assignment) → AgreeFor n g y → AgreeFor (n + length (simple_modes u)) (extended_by u g) (extended_by u y)
agree_by simple_end n g y a i h = a i (omega (arith, h))
agree_by (simple_binding m t u) n g y a i h = agree_by u (suc n) (extended t g) (extended t y) (agree_one n t g y a) i (moved (length (simple_modes u)) h)
  where
    moved : (k : ℕ) → i < n + suc k → i < suc n + k
    moved k h = omega (arith, h)

agree_none : (g y : Assignment) → AgreeFor 0 g y
agree_none g y i h = absurd (none h)
  where
    none : {i : ℕ} → i < 0 → ⊥
    none h = omega (arith, h)

stands_back : (r q : PlainNeutral) (w : SimpleType) → is_metavariable (head_of q) ≡ false → MayStand (no_holes true) q w → MayStand (no_holes true) r w
stands_back r q w s p = ⊎_elim (λ a. inl a) (λ a. absurd (no_meta (head_of q) a.0 s a.2)) p
  where
    no_meta : (h : Head) (k : ℕ) → is_metavariable h ≡ false → h ≡ Meta k → ⊥
    no_meta h k e f = cc

mutual
  pub eta_back : (t : SimpleType) (g y : Assignment) (r q : PlainNeutral) → GoesBack g y r q → is_metavariable (head_of q) ≡ false → (w : SimpleType) → SimplyTyped y (eta t q) w → SimplyTyped g (eta t r) w
  eta_back (base a) g y r q b s w p = (stands_back r q w s p.0, b w p.1)
  eta_back (arrow m d c) g y r q b s w p = let (e, v, i, x) = p in (
    e,
    v,
    i,
    eta_back c (extended e g) (extended e y) (app m (ren_neutral (up 1) r) (eta d (head_alone (Var 0)))) (app m (ren_neutral (up 1) q) (eta d (head_alone (Var 0))))
        (λ z k. (k.0, raised_back e g y r q b (arrow m k.0 z) k.1, eta_back d (extended e g) (extended e y) (head_alone (Var 0)) (head_alone (Var 0)) (λ w l. l) refl k.0 k.2))
        (meta_renamed (up 1) q ∙ s) v x,
  )
  eta_back (simple_with c d) g y r q b s w p = let (e, v, i, x, z) = p in
      (e, v, i, eta_back c g y (fst r) (fst q) (λ w k. (k.0, b (simple_with w k.0) k.1)) s e x, eta_back d g y (snd r) (snd q) (λ w k. (k.0, b (simple_with k.0 w) k.1)) s v z)
  eta_back simple_top g y r q b s w p = p
  eta_back (lax ts) g y r q b s w p = let (u, i, (v, x, j, z)) = p in
      (u, i, (v, b (lax v) x, j, variables_back ts (length (simple_modes ts)) (extended_by v g) (extended_by v y) (agrees v (ap length j)) (omega arith) u z))
    where
      agrees : (v : SimpleTelescope) → length (simple_modes v) ≡ length (simple_modes ts) → AgreeFor (length (simple_modes ts)) (extended_by v g) (extended_by v y)
      agrees v e i h = agree_by v 0 g y (agree_none g y) i (moved (length (simple_modes v)) (length (simple_modes ts)) e h)
        where
          moved : (n k : ℕ) → n ≡ k → i < k → i < 0 + n
          moved n k e h = omega (arith, e, h)

  variables_back : (ts : SimpleTelescope) (n : ℕ) (g y : Assignment) → AgreeFor n g y → length (simple_modes ts) ≤ n → (u : SimpleTelescope) → SimplyTypedTuple y (variables ts) u → SimplyTypedTuple g (variables ts) u
  variables_back simple_end n g y a h u p = p
  variables_back (simple_binding m t ts) n g y a h u p = let (d, v, i, x, z) = p in (
    d,
    v,
    i,
    eta_back t g y (head_alone (Var (length (simple_modes ts)))) (head_alone (Var (length (simple_modes ts)))) (λ w k. a (length (simple_modes ts)) (less (length (simple_modes ts)) h) ∙ k) refl d x,
    variables_back ts n g y a (lower (length (simple_modes ts)) h) v z,
  )
    where
      less : (k : ℕ) → suc k ≤ n → k < n
      less k h = omega (arith, h)

      lower : (k : ℕ) → suc k ≤ n → k ≤ n
      lower k h = omega (arith, h)
