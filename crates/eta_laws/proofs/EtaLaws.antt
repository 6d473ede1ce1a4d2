-- To put the eta-long form of a variable for a variable is to rename it.
use Rattle.clf_syntax.proofs.RenamingLaws.{apps, cut, entries, ext, identity, identity_expression, identity_neutral, lift_in, lift_up, pairs, square_neutral}
use Rattle.clf_syntax.specs.Renaming.{Renumbering, lifted, ren, ren_expression, ren_head, ren_neutral, ren_tuple, up}
use Rattle.clf_syntax.specs.Simple.{Assignment, extended, extended_by, simple_modes}
use Rattle.clf_syntax.specs.Tree.{PlainExpression, PlainNeutral, PlainObject, PlainTuple, app, done, entry, fst, head_alone, lam, monadic, snd, step}
use Rattle.clf_syntax.specs.TypeTree.{SimpleTelescope, SimpleType, arrow, base, lax, simple_binding, simple_end, simple_top, simple_with}
use Rattle.clf_syntax.specs.declared.tree.Head.{Head}
use Rattle.clf_syntax.specs.declared.tree.Head.TheVariants.{Const, Meta, Var}
use Rattle.eta_laws.specs.Eta.{becoming, eta, variables}
use Rattle.std.proofs.Common.{add-one, ap, append-nil, append_assoc, arith, inl, inr, subst, sym, ⊎_elim, ◌∙◌}
use Rattle.std.specs.Prelude.{List, Some, [], false, length, refl, suc, true, zero, ℕ, ◌++◌, ◌+◌, ◌-◌, ◌<◌, ◌∷◌, ◌≡◌, ◌≤◌, ◌⊎◌}
use Rattle.hered_subst.proofs.Renamed.{renamed_kept, renamed_value, single_out, under_in}
use Rattle.hered_subst.proofs.SimpleTyping.{Typed, TypedExpression, TypedNeutral, TypedTuple, among_first, among_past, among_there, extended_out, length_append, lift_first, lift_next, lift_under, lift_zero, rank, ranks, renamed_typed, renamed_typed_expression, suited, suited_all, tuple_length, typed_app, typed_atomic, typed_bare, typed_done, typed_empty, typed_entry, typed_fst, typed_lam, typed_metavariable, typed_monadic, typed_pair, typed_snd, typed_step, typed_unit, under_next, under_under, under_zero}
use Rattle.hered_subst.proofs.Single.{renames_neutral, single_at, single_high, single_low}
use Rattle.hered_subst.proofs.Total.{at_most, the_type}
use Rattle.hered_subst.specs.Laws.{keeping}
use Rattle.hered_subst.specs.Substitution.{Environment, Flattened, HasValue, Image, KeepsHead, Substituted, SubstitutedExpression, SubstitutedTuple, among, flat_done, flat_step, keep, kept_app, kept_bare, kept_fst, kept_snd, objects, put, putting, ren_image, single, step_kept, step_value, through_done, through_empty, through_entry, through_kept, through_lam, through_monadic, through_pair, through_unit, through_value, under, value_app, value_bare, value_fst, value_snd}
use Rattle.subst_laws.proofs.Before.{before, before_expression, before_neutral, fits_up}

pub never : false ≡ true → ⊥
never e = cc

mutual
  pub eta_ren : (t : SimpleType) (r : Renumbering) (n : PlainNeutral) → ren r (eta t n) ≡ eta t (ren_neutral r n)
  eta_ren (base a) r n = refl
  eta_ren (arrow m d c) r n = ap (lam m) (eta_ren c (lifted 1 r) (app m (ren_neutral (up 1) n) (eta d (head_alone (Var 0))))
      ∙ ap (eta c) (apps m (square_neutral (lifted 1 r) (up 1) (up 1) r (lift_up 1 r) n) (eta_ren d (lifted 1 r) (head_alone (Var 0)) ∙ ap (λ i. eta d (head_alone (Var i))) (lift_first r))))
  eta_ren (simple_with c d) r n = pairs (eta_ren c r (fst n)) (eta_ren d r (snd n))
  eta_ren simple_top r n = refl
  eta_ren (lax ts) r n = ap (λ u. monadic (step (simple_modes ts) (ren_neutral r n) (done u))) (variables_ren ts (lifted (length (simple_modes ts)) r) (λ i h. lift_in (length (simple_modes ts)) r i h))

  pub variables_ren : (ts : SimpleTelescope) (r : Renumbering) → ((i : ℕ) → i < length (simple_modes ts) → r i ≡ i) → ren_tuple r (variables ts) ≡ variables ts
  variables_ren simple_end r h = refl
  variables_ren (simple_binding m t ts) r h = entries m (eta_ren t r (head_alone (Var (length (simple_modes ts)))) ∙ ap (λ i. eta t (head_alone (Var i))) (h (length (simple_modes ts)) (omega arith))) (variables_ren ts r (λ i k. h i (omega arith)))

mutual
  pub eta_kept : (t : SimpleType) (s : Environment) {n x : PlainNeutral} → KeepsHead s n x → Substituted s (eta t n) (eta t x)
  eta_kept (base a) s p = through_kept p
  eta_kept (arrow m d c) s p = through_lam (eta_kept c (under 1 s) (kept_app (renamed_kept (up 1) (up 1) (under 1 s) (fits_up 1 s) p) (eta_kept d (under 1 s) (kept_bare (under_in 1 s 0 (omega arith))))))
  eta_kept (simple_with c d) s p = through_pair (eta_kept c s (kept_fst p)) (eta_kept d s (kept_snd p))
  eta_kept simple_top s p = through_unit
  eta_kept (lax ts) s p = through_monadic (step_kept p (through_done (variables_kept ts (under (length (simple_modes ts)) s) (λ i h. under_in (length (simple_modes ts)) s i h))))

  pub variables_kept : (ts : SimpleTelescope) (s : Environment) → ((i : ℕ) → i < length (simple_modes ts) → s (Var i) ≡ keep (Var i)) → SubstitutedTuple s (variables ts) (variables ts)
  variables_kept simple_end s h = through_empty
  variables_kept (simple_binding m t ts) s h = through_entry (eta_kept t s (kept_bare (h (length (simple_modes ts)) (omega arith)))) (variables_kept ts s (λ i k. h i (omega arith)))

-- a head, or its eta-long form at a type of at most the rank
abbrev Chosen : ℕ → SimpleType → Head → Image → Type 0
Chosen k t h i = (i ≡ keep h) ⊎ ((i ≡ put (eta t (head_alone h))) × (rank t ≤ k))

-- s is a renaming, but for eta-long forms of variables whose types have at most the rank
abbrev pub Near : ℕ → Assignment → Assignment → Renumbering → Environment → Type 0
Near k g z r s = (h : Head) → (z (ren_head r h) ≡ g h) × ((t : SimpleType) → g h ≡ Some t → Chosen k t (ren_head r h) (s h))

abbrev pub Same : ℕ → Type 0
Same k = (g z : Assignment) (r : Renumbering) (s : Environment) → Near k g z r s → ((o : PlainObject) (t : SimpleType) → Typed false g o t → Substituted s o (ren r o)) × ((e : PlainExpression) (ts : SimpleTelescope) → TypedExpression false g e ts → SubstitutedExpression s e (ren_expression r e))

spared_neutral : (y : PlainObject) (n : PlainNeutral) → KeepsHead (single y 0) (ren_neutral (up 1) n) n
spared_neutral y n = before_neutral (up 1) (single y 0) (subst (λ (s : Environment). KeepsHead s n n) (ext (λ h. sym (image_at h))) (subst (KeepsHead (keeping (λ i. i)) n) (identity_neutral n) (renames_neutral (λ i. i) n)))
  where
    image_at : (h : Head) → single y 0 (ren_head (up 1) h) ≡ keeping (λ i. i) h
    image_at (Const c) = refl
    image_at (Var i) = single_out y i
    image_at (Meta m) = refl

pub lam_near : (a : SimpleType) (g : Assignment) → Near (rank a) (extended a g) (extended a g) (λ i. i) (λ h. single (eta a (head_alone (Var 0))) 0 (ren_head (lifted 1 (up 1)) h))
lam_near a g (Const c) = (refl, (λ t e. inl refl))
lam_near a g (Var zero) = (refl, (λ t e. inr (ap (λ i. single (eta a (head_alone (Var 0))) 0 (Var i)) (lift_first (up 1)) ∙ ap (λ v. put (eta v (head_alone (Var 0)))) (the_type e), at_most (the_type e))))
lam_near a g (Var (suc i)) = (refl, (λ t e. inl (ap (λ j. single (eta a (head_alone (Var 0))) 0 (Var j)) (lift_next (up 1) i) ∙ subst (λ j. single (eta a (head_alone (Var 0))) 0 (Var j) ≡ keep (Var (suc i))) (sum i) (single_out (eta a (head_alone (Var 0))) (suc i)))))
  where
    sum : (i : ℕ) → suc i + 1 ≡ suc (i + 1)
    sum i = omega arith
lam_near a g (Meta m) = (refl, (λ t e. inl refl))

-- where the neutral has a typed value, its eta-long form has that value
module _ (k : ℕ) (again : (j : ℕ) → j < k → Same j) where
  mutual
    pub meets : (s : Environment) (n : PlainNeutral) {g : Assignment} {o : PlainObject} {t : SimpleType} → Typed false g o t → rank t ≤ k → HasValue s n o → Substituted s (eta t n) o
    meets s n (typed_atomic p) h v = through_value v
    meets s n typed_unit h v = through_unit
    meets s n (typed_metavariable i p e) h v = absurd (never i)
    meets s n (typed_pair {c = c} {d = d} p q) h v = through_pair (meets s (fst n) p (omega arith) (value_fst v)) (meets s (snd n) q (omega arith) (value_snd v))
    meets s n (typed_lam {g = g} {m = m} {b = b} {d = d} {c = c} p) h v = through_lam (meets (under 1 s) (app m (ren_neutral (up 1) n) (eta d (head_alone (Var 0)))) p (omega arith)
        (value_app (renamed_value (up 1) (up 1) (under 1 s) (fits_up 1 s) v) (eta_kept d (under 1 s) (kept_bare (under_in 1 s 0 (omega arith))))
        (before (lifted 1 (up 1)) (single (eta d (head_alone (Var 0))) 0) (subst (Substituted (λ h. single (eta d (head_alone (Var 0))) 0 (ren_head (lifted 1 (up 1)) h)) b) (identity b)
        ((again (rank d) (omega arith) (extended d g) (extended d g) (λ i. i) (λ h. single (eta d (head_alone (Var 0))) 0 (ren_head (lifted 1 (up 1)) h)) (lam_near d g)).0 b c p)))))
    meets s n (typed_monadic {ts = ts} p) h v = through_monadic (step_value v (through_done (variables_kept ts (under (length (simple_modes ts)) s) (λ i h. under_in (length (simple_modes ts)) s i h))) (then_self p (omega arith)))

    then_self : {g : Assignment} {e : PlainExpression} {ts : SimpleTelescope} → TypedExpression false g e ts → ranks ts < k → Flattened (length (simple_modes ts)) e (done (variables ts)) e
    then_self (typed_step {ms = ms} {e = e} {us = us} p m q) h = flat_step (subst (λ (o : PlainTuple). Flattened (length (simple_modes us)) e (done o) e)
        (sym (variables_ren us (lifted (length (simple_modes us)) (up (length ms))) (λ i h. lift_in (length (simple_modes us)) (up (length ms)) i h))) (then_self q h))
    then_self (typed_done {t = t} {us = us} p) h = flat_done (tuple_length p) (through_done (subst (λ ns. SubstitutedTuple (putting ns) (variables us) t) (append-nil (objects t)) (all_met p [] (omega arith))))

    all_met : {g : Assignment} {t : PlainTuple} {ts : SimpleTelescope} → TypedTuple false g t ts → (rest : List PlainObject) → ranks ts ≤ k → SubstitutedTuple (putting (objects t ++ rest)) (variables ts) t
    all_met typed_empty rest h = through_empty
    all_met (typed_entry {m = m} {o = o} {t = t} {d = d} {ts = ts} p q) rest h = subst (λ ns. SubstitutedTuple (putting ns) (variables (simple_binding m d ts)) (entry m o t)) (sym (append_assoc (objects t) (o ∷ []) rest))
        (through_entry (meets (putting (objects t ++ o ∷ rest)) (head_alone (Var (length (simple_modes ts)))) p (omega arith) (value_bare (ap (among (objects t ++ o ∷ rest)) (sym (tuple_length q)) ∙ among_there (objects t) rest o)))
        (all_met q (o ∷ rest) (omega arith)))

raised_choice : (k : ℕ) (n : ℕ) (t : SimpleType) (h : Head) (i : Image) → Chosen k t h i → Chosen k t (ren_head (up n) h) (ren_image (up n) i)
raised_choice k n t h i c = ⊎_elim (λ e. inl (ap (ren_image (up n)) e)) (λ e. inr (ap (ren_image (up n)) e.0 ∙ ap put (eta_ren t (up n) (head_alone h)), e.1)) c

near_extended : (k : ℕ) (d : SimpleType) (g z : Assignment) (r : Renumbering) (s : Environment) → Near k g z r s → Near k (extended d g) (extended d z) (lifted 1 r) (under 1 s)
near_extended k d g z r s f (Const c) = ((f (Const c)).0, (λ t e. raised_choice k 1 t (Const c) (s (Const c)) ((f (Const c)).1 t e)))
near_extended k d g z r s f (Meta m) = ((f (Meta m)).0, (λ t e. raised_choice k 1 t (Meta m) (s (Meta m)) ((f (Meta m)).1 t e)))
near_extended k d g z r s f (Var zero) = (suited d g z r (λ h. (f h).0) (Var zero), (λ t e. inl (under_in 1 s 0 (omega arith) ∙ ap (λ i. keep (Var i)) (sym (lift_first r)))))
near_extended k d g z r s f (Var (suc i)) = (
  suited d g z r (λ h. (f h).0) (Var (suc i)),
  (λ t e. subst (λ j. Chosen k t (Var j) (under 1 s (Var (suc i)))) (add-one (r i) ∙ sym (lift_next r i))
      (subst (Chosen k t (Var (r i + 1))) (sym (under_next s i)) (raised_choice k 1 t (Var (r i)) (s (Var i)) ((f (Var i)).1 t e)))),
)

near_extended_by : (k : ℕ) (ts : SimpleTelescope) (g z : Assignment) (r : Renumbering) (s : Environment) → Near k g z r s → Near k (extended_by ts g) (extended_by ts z) (lifted (length (simple_modes ts)) r) (under (length (simple_modes ts)) s)
near_extended_by k simple_end g z r s f = subst (λ q. Near k g z q (under 0 s)) (sym (lift_zero r)) (subst (Near k g z r) (sym (under_zero s)) f)
near_extended_by k (simple_binding m t ts) g z r s f = subst (λ q. Near k (extended_by ts (extended t g)) (extended_by ts (extended t z)) q (under (suc (length (simple_modes ts))) s)) (lift_under (length (simple_modes ts)) r)
    (subst (Near k (extended_by ts (extended t g)) (extended_by ts (extended t z)) (lifted (length (simple_modes ts)) (lifted 1 r))) (under_under (length (simple_modes ts)) s) (near_extended_by k ts (extended t g) (extended t z) (lifted 1 r) (under 1 s) (near_extended k t g z r s f)))

variables_length : (ts : SimpleTelescope) → length (objects (variables ts)) ≡ length (simple_modes ts)
variables_length simple_end = refl
variables_length (simple_binding m t ts) = length_append (objects (variables ts)) (eta t (head_alone (Var (length (simple_modes ts))))) ∙ ap suc (variables_length ts)

abbrev Imaged : SimpleTelescope → Assignment → ℕ → Type 0
Imaged ts z i = (t : SimpleType) × (extended_by ts z (Var i) ≡ Some t) × (among (objects (variables ts)) i ≡ put (eta t (head_alone (Var i)))) × (rank t ≤ ranks ts)

variables_image : (ts : SimpleTelescope) (z : Assignment) (i : ℕ) → i < length (simple_modes ts) → Imaged ts z i
variables_image simple_end z i h = absurd (omega arith)
variables_image (simple_binding m t ts) z i h = ⊎_elim (λ k. old (variables_image ts (extended t z) i k) k) new (cut i (length (simple_modes ts)))
  where
    old : Imaged ts (extended t z) i → i < length (simple_modes ts) → Imaged (simple_binding m t ts) z i
    old a k = (a.0, a.1, among_first (objects (variables ts)) (eta t (head_alone (Var (length (simple_modes ts)))) ∷ []) i (long (variables_length ts) k) ∙ a.2, wider a.0 a.3)
      where
        long : length (objects (variables ts)) ≡ length (simple_modes ts) → i < length (simple_modes ts) → i < length (objects (variables ts))
        long e h = omega arith

        wider : (u : SimpleType) → rank u ≤ ranks ts → rank u ≤ rank t + ranks ts
        wider u h = omega arith

    typed : extended_by ts (extended t z) (Var (length (simple_modes ts))) ≡ Some t
    typed = ap (λ j. extended_by ts (extended t z) (Var j)) (plain_sum (length (simple_modes ts))) ∙ extended_out ts (extended t z) 0
      where
        plain_sum : (n : ℕ) → n ≡ 0 + n
        plain_sum n = omega arith

    final : Imaged (simple_binding m t ts) z (length (simple_modes ts))
    final = (t, typed, ap (among (objects (variables ts) ++ eta t (head_alone (Var (length (simple_modes ts)))) ∷ [])) (sym (variables_length ts)) ∙ among_there (objects (variables ts)) [] (eta t (head_alone (Var (length (simple_modes ts))))), omega arith)

    new : length (simple_modes ts) ≤ i → Imaged (simple_binding m t ts) z i
    new k = subst (Imaged (simple_binding m t ts) z) (same k) final
      where
        same : length (simple_modes ts) ≤ i → length (simple_modes ts) ≡ i
        same k = omega arith

variables_near : (ts : SimpleTelescope) (z : Assignment) → Near (ranks ts) (extended_by ts z) (extended_by ts z) (λ i. i) (λ h. putting (objects (variables ts)) (ren_head (lifted (length (simple_modes ts)) (up (length (simple_modes ts)))) h))
variables_near ts z (Const c) = (refl, (λ t e. inl refl))
variables_near ts z (Meta m) = (refl, (λ t e. inl refl))
variables_near ts z (Var i) = (refl, (λ t e. ⊎_elim (λ h. near t e h (variables_image ts z i h)) (λ h. inl (far h)) (cut i (length (simple_modes ts)))))
  where
    near : (t : SimpleType) → extended_by ts z (Var i) ≡ Some t → i < length (simple_modes ts) → Imaged ts z i → Chosen (ranks ts) t (Var i) (among (objects (variables ts)) (lifted (length (simple_modes ts)) (up (length (simple_modes ts))) i))
    near t e h a = let q : a.0 ≡ t = the_type (sym a.1 ∙ e) in
        inr (ap (among (objects (variables ts))) (lift_in (length (simple_modes ts)) (up (length (simple_modes ts))) i h) ∙ a.2 ∙ ap (λ v. put (eta v (head_alone (Var i)))) q, subst (λ v. rank v ≤ ranks ts) q a.3)

    back : length (simple_modes ts) ≤ i → i - length (simple_modes ts) + length (simple_modes ts) ≡ i
    back h = omega arith

    far : length (simple_modes ts) ≤ i → among (objects (variables ts)) (lifted (length (simple_modes ts)) (up (length (simple_modes ts))) i) ≡ keep (Var i)
    far h = ap (λ j. among (objects (variables ts)) (lifted (length (simple_modes ts)) (up (length (simple_modes ts))) j)) (sym (back h))
        ∙ ap (among (objects (variables ts))) (lift_up (length (simple_modes ts)) (up (length (simple_modes ts))) (i - length (simple_modes ts)))
        ∙ ap (λ n. among (objects (variables ts)) (i - length (simple_modes ts) + length (simple_modes ts) + n)) (sym (variables_length ts))
        ∙ among_past (objects (variables ts)) (i - length (simple_modes ts) + length (simple_modes ts)) ∙ ap (λ j. keep (Var j)) (back h)

single_zero : (y : PlainObject) → single y 0 (Var 0) ≡ put y
single_zero y = refl

put_back : (k : ℕ) → ((j : ℕ) → j < k → Same j) → (ts : SimpleTelescope) (z : Assignment) (e : PlainExpression) (us : SimpleTelescope) → TypedExpression false (extended_by ts z) e us → 1 + ranks ts ≤ k
    → SubstitutedExpression (putting (objects (variables ts))) (ren_expression (lifted (length (simple_modes ts)) (up (length (simple_modes ts)))) e) e
put_back k again ts z e us p h = before_expression (lifted (length (simple_modes ts)) (up (length (simple_modes ts)))) (putting (objects (variables ts)))
    (subst (SubstitutedExpression (λ h. putting (objects (variables ts)) (ren_head (lifted (length (simple_modes ts)) (up (length (simple_modes ts)))) h)) e) (identity_expression e)
    ((again (ranks ts) (omega arith) (extended_by ts z) (extended_by ts z) (λ i. i) (λ h. putting (objects (variables ts)) (ren_head (lifted (length (simple_modes ts)) (up (length (simple_modes ts)))) h)) (variables_near ts z)).1 e us p))

module _ (k : ℕ) (again : (j : ℕ) → j < k → Same j) where
  mutual
    same : (z : Assignment) (r : Renumbering) (s : Environment) {g : Assignment} {o : PlainObject} {t : SimpleType} → Typed false g o t → Near k g z r s → Substituted s o (ren r o)
    same z r s (typed_lam {g = g} {d = d} p) f = through_lam (same (extended d z) (lifted 1 r) (under 1 s) p (near_extended k d g z r s f))
    same z r s (typed_pair p q) f = through_pair (same z r s p f) (same z r s q f)
    same z r s typed_unit f = through_unit
    same z r s (typed_metavariable i p e) f = absurd (never i)
    same z r s (typed_monadic p) f = through_monadic (same_expression z r s p f)
    same z r s (typed_atomic p) f = ⊎_elim (λ u. through_kept u) (λ u. through_value u.0) (same_neutral z r s p f)

    same_neutral : (z : Assignment) (r : Renumbering) (s : Environment) {g : Assignment} {n : PlainNeutral} {t : SimpleType} → TypedNeutral false g n t → Near k g z r s → KeepsHead s n (ren_neutral r n) ⊎ (HasValue s n (eta t (ren_neutral r n)) × (rank t ≤ k))
    same_neutral z r s (typed_bare {h = h} {t = t} e) f = ⊎_elim (λ u. inl (kept_bare u)) (λ u. inr (value_bare u.0, u.1)) ((f h).1 t e)
    same_neutral z r s (typed_app {m = m} {r = n} {o = o} {d = d} {c = c} p q) f = ⊎_elim (λ u. inl (kept_app u (same z r s q f)))
        (λ u. inr (
          value_app u.0 (same z r s q f) (eta_kept c (single (ren r o) 0) (kept_app (spared_neutral (ren r o) (ren_neutral r n))
              (meets k again (single (ren r o) 0) (head_alone (Var 0)) (renamed_typed z r q (λ h. (f h).0)) (left u.1) (value_bare (single_zero (ren r o)))))),
          right u.1,
        ))
        (same_neutral z r s p f)
      where
        left : 1 + (rank d + rank c) ≤ k → rank d ≤ k
        left h = omega arith

        right : 1 + (rank d + rank c) ≤ k → rank c ≤ k
        right h = omega arith
    same_neutral z r s (typed_fst {c = c} {d = d} p) f = ⊎_elim (λ u. inl (kept_fst u)) (λ u. inr (value_fst u.0, left u.1)) (same_neutral z r s p f)
      where
        left : 1 + (rank c + rank d) ≤ k → rank c ≤ k
        left h = omega arith
    same_neutral z r s (typed_snd {c = c} {d = d} p) f = ⊎_elim (λ u. inl (kept_snd u)) (λ u. inr (value_snd u.0, right u.1)) (same_neutral z r s p f)
      where
        right : 1 + (rank c + rank d) ≤ k → rank d ≤ k
        right h = omega arith

    same_expression : (z : Assignment) (r : Renumbering) (s : Environment) {g : Assignment} {e : PlainExpression} {ts : SimpleTelescope} → TypedExpression false g e ts → Near k g z r s → SubstitutedExpression s e (ren_expression r e)
    same_expression z r s (typed_step {g = g} {ms = ms} {r = n} {e = e} {ts = ts} {us = us} p m q) f = subst (λ ns. SubstitutedExpression s (step ns n e) (step ns (ren_neutral r n) (ren_expression (lifted (length ns) r) e))) (sym m)
        (let b : SubstitutedExpression (under (length (simple_modes ts)) s) e (ren_expression (lifted (length (simple_modes ts)) r) e)
        = same_expression (extended_by ts z) (lifted (length (simple_modes ts)) r) (under (length (simple_modes ts)) s) q (near_extended_by k ts g z r s f) in
        ⊎_elim (λ u. step_kept u b)
        (λ u. step_value u.0 b (flat_step (flat_done (variables_length ts) (put_back k again ts z (ren_expression (lifted (length (simple_modes ts)) r) e) us
        (renamed_typed_expression (extended_by ts z) (lifted (length (simple_modes ts)) r) q (suited_all ts g z r (λ h. (f h).0))) u.1))))
        (same_neutral z r s p f))
    same_expression z r s (typed_done p) f = through_done (same_tuple z r s p f)

    same_tuple : (z : Assignment) (r : Renumbering) (s : Environment) {g : Assignment} {t : PlainTuple} {ts : SimpleTelescope} → TypedTuple false g t ts → Near k g z r s → SubstitutedTuple s t (ren_tuple r t)
    same_tuple z r s typed_empty f = through_empty
    same_tuple z r s (typed_entry p q) f = through_entry (same z r s p f) (same_tuple z r s q f)

lower : (k j : ℕ) → j < k → Same j
lower zero j h = absurd (omega arith)
lower (suc k) j h = λ g z r s f. ((λ o t p. same j (λ i l. lower k i (omega arith)) z r s p f), (λ e ts p. same_expression j (λ i l. lower k i (omega arith)) z r s p f))

-- an environment that keeps heads, or puts the eta-long form of what they are renamed to, renames
pub all_same : (k : ℕ) → Same k
all_same k = lower (suc k) k (omega arith)

becoming_low : (k j i : ℕ) → i < k → becoming k j i ≡ i
becoming_low k j i h = grind arith

becoming_at : (k j : ℕ) → becoming k j k ≡ j
becoming_at k j = grind arith

becoming_high : (k j i : ℕ) → k < i → becoming k j i ≡ i - 1
becoming_high k j i h = grind arith

cut3 : (k i : ℕ) → (i < k) ⊎ (i ≡ k) ⊎ (k < i)
cut3 k i = grind arith

pub eta_near : (g z : Assignment) (k j : ℕ) (u : SimpleType) → g (Var k) ≡ Some u → ((h : Head) → z (ren_head (becoming k j) h) ≡ g h) → Near (rank u) g z (becoming k j) (single (eta u (head_alone (Var j))) k)
eta_near g z k j u q f (Const c) = (f (Const c), (λ t e. inl refl))
eta_near g z k j u q f (Meta m) = (f (Meta m), (λ t e. inl refl))
eta_near g z k j u q f (Var i) = (f (Var i), (λ t e. ⊎_elim (λ h. inl (low h)) (λ c. ⊎_elim (λ d. here t e d) (λ h. inl (high h)) c) (cut3 k i)))
  where
    low : i < k → single (eta u (head_alone (Var j))) k (Var i) ≡ keep (Var (becoming k j i))
    low h = single_low (eta u (head_alone (Var j))) k i h ∙ ap (λ n. keep (Var n)) (sym (becoming_low k j i h))

    high : k < i → single (eta u (head_alone (Var j))) k (Var i) ≡ keep (Var (becoming k j i))
    high h = ap (λ n. single (eta u (head_alone (Var j))) k (Var n)) (prior i h) ∙ single_high (eta u (head_alone (Var j))) k (i - 1) (below i h) ∙ ap (λ n. keep (Var n)) (sym (becoming_high k j i h))
      where
        prior : (i : ℕ) → k < i → i ≡ i - 1 + 1
        prior i h = omega arith

        below : (i : ℕ) → k < i → k ≤ i - 1
        below i h = omega arith

    here : (t : SimpleType) → g (Var i) ≡ Some t → i ≡ k → Chosen (rank u) t (Var (becoming k j i)) (single (eta u (head_alone (Var j))) k (Var i))
    here t e d = let r : u ≡ t = the_type (sym q ∙ ap (λ n. g (Var n)) (sym d) ∙ e) in
        inr (ap (λ n. single (eta u (head_alone (Var j))) k (Var n)) d ∙ single_at (eta u (head_alone (Var j))) k ∙ ap (λ v. put (eta v (head_alone (Var j)))) r ∙ ap (λ n. put (eta t (head_alone (Var n)))) (sym (becoming_at k j) ∙ ap (becoming k j) (sym d)), at_most r)
