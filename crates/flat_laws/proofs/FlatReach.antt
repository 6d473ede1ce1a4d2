-- In a flat system every side that is a metavariable reaches the other side.
use Rattle.store_laws.proofs.Numbers.{number_cases}
use Rattle.pattern_laws.proofs.Owning.{on_locals, lacks_same}
use Rattle.clf_syntax.specs.declared.tree.Mode.{Mode}
use Rattle.std.specs.Prelude.{ℕ, Bool, false, ◌+◌, ◌-◌, ◌≡◌, ◌<◌, ◌≤◌, ◌⊎◌, ◌||◌, List, [], ◌∷◌, ◌++◌, length, Some, refl}
use Rattle.std.proofs.Common.{ap, sym, subst, ◌∙◌, arith, inl, inr, ⊎_elim, append_assoc}
use Rattle.clf_syntax.specs.declared.tree.Head.TheVariants.{Const, Var, Meta}
use Rattle.clf_syntax.specs.Tree.{PlainObject, lam, pair, unit, monadic, atomic, hole, PlainNeutral, head_alone, app, fst, snd, PlainExpression, step, done, PlainTuple, empty, entry, head_of}
use Rattle.clf_syntax.specs.TypeTree.{SimpleType, base, arrow, simple_with, simple_top, lax, SimpleTelescope, simple_end, simple_binding}
use Rattle.clf_syntax.specs.Simple.{Assignment, simple_modes}
use Rattle.clf_syntax.specs.Renaming.{Renumbering, lifted, ren, ren_neutral, ren_expression, ren_tuple, up}
use Rattle.hered_subst.specs.TypedEnvironments.{is_metavariable}
use Rattle.eta_laws.specs.Eta.{eta, variables}
use Rattle.pattern_laws.specs.Patterns.{Place, on, OnDistinct, Foreign, Ordered}
use Rattle.pattern_laws.specs.Equations.{scoped, Locals}
use Rattle.store_laws.specs.Mentions.{mentions, mentions_neutral, mentions_expression, mentions_tuple}
use Rattle.pattern_laws.proofs.Places.{same_types}
use Rattle.pattern_laws.proofs.Orders.{searched, ordered_no_circle}
use Rattle.pattern_laws.proofs.Spines.{head_on}
use Rattle.reach_laws.specs.Reach.{Standing, standing_here, standing_body, standing_left, standing_right, standing_below, StandingBelow, in_this, in_earlier, under_fst, under_snd, Prunable, PrunableBelow, InReach, same_reach, head_reach, inside_reach, free_reach}
use Rattle.flat_laws.specs.Flat.{Flat, FlatBelow}
use Rattle.flat_laws.specs.Laws.{FlatReaches}

neither : {a b : Bool} → a ≡ false → b ≡ false → a || b ≡ false
neither {a} {b} e f = rw (e, f) refl

-- Renaming keeps what is mentioned.
mutual
  pub mentions_ren : (k : ℕ) (r : Renumbering) (o : PlainObject) → mentions k (ren r o) ≡ mentions k o
  mentions_ren k r (lam m b) = mentions_ren k (lifted 1 r) b
  mentions_ren k r (pair x y) = rw (mentions_ren k r x, mentions_ren k r y) refl
  mentions_ren k r unit = refl
  mentions_ren k r (monadic e) = mentions_ren_expression k r e
  mentions_ren k r (atomic n) = mentions_ren_neutral k r n
  mentions_ren k r hole = refl

  mentions_ren_neutral : (k : ℕ) (r : Renumbering) (n : PlainNeutral) → mentions_neutral k (ren_neutral r n) ≡ mentions_neutral k n
  mentions_ren_neutral k r (head_alone (Const c)) = refl
  mentions_ren_neutral k r (head_alone (Var i)) = refl
  mentions_ren_neutral k r (head_alone (Meta m)) = refl
  mentions_ren_neutral k r (app m x o) = rw (mentions_ren_neutral k r x, mentions_ren k r o) refl
  mentions_ren_neutral k r (fst x) = mentions_ren_neutral k r x
  mentions_ren_neutral k r (snd x) = mentions_ren_neutral k r x

  mentions_ren_expression : (k : ℕ) (r : Renumbering) (e : PlainExpression) → mentions_expression k (ren_expression r e) ≡ mentions_expression k e
  mentions_ren_expression k r (step ms x e) = rw (mentions_ren_neutral k r x, mentions_ren_expression k (lifted (length ms) r) e) refl
  mentions_ren_expression k r (done t) = mentions_ren_tuple k r t

  mentions_ren_tuple : (k : ℕ) (r : Renumbering) (t : PlainTuple) → mentions_tuple k (ren_tuple r t) ≡ mentions_tuple k t
  mentions_ren_tuple k r empty = refl
  mentions_ren_tuple k r (entry m o t) = rw (mentions_ren k r o, mentions_ren_tuple k r t) refl

-- An eta-long form mentions what its neutral mentions.
mutual
  eta_silent : (k : ℕ) (t : SimpleType) (n : PlainNeutral) → mentions_neutral k n ≡ false → mentions k (eta t n) ≡ false
  eta_silent k (base a) n e = e
  eta_silent k (arrow m d c) n e = eta_silent k c (app m (ren_neutral (up 1) n) (eta d (head_alone (Var 0)))) (neither (mentions_ren_neutral k (up 1) n ∙ e) (eta_silent k d (head_alone (Var 0)) refl))
  eta_silent k (simple_with c d) n e = neither (eta_silent k c (fst n) e) (eta_silent k d (snd n) e)
  eta_silent k simple_top n e = refl
  eta_silent k (lax ts) n e = neither e (variables_silent k ts)

  variables_silent : (k : ℕ) (ts : SimpleTelescope) → mentions_tuple k (variables ts) ≡ false
  variables_silent k simple_end = refl
  variables_silent k (simple_binding m t ts) = neither (eta_silent k t (head_alone (Var (length (simple_modes ts)))) refl) (variables_silent k ts)

pub on_silent : (k : ℕ) (ps : List Place) (n : PlainNeutral) → mentions_neutral k n ≡ false → mentions_neutral k (on ps n) ≡ false
on_silent k [] n e = e
on_silent k (p ∷ ps) n e = neither (on_silent k ps n e) (eta_silent k p.1 (head_alone (Var p.2)) refl)

-- a variable is foreign or not
pub foreign_cases : (n : ℕ) (ps : List Place) (d w : ℕ) → Foreign n ps d w ⊎ (Foreign n ps d w → ⊥)
foreign_cases n ps d w = ⊎_elim
    (λ l. ⊎_elim (λ h. ⊎_elim (λ c. inr (λ f. f.3 c.0 (c.1 ∙ ap (λ v. Some v) (number f.0 f.1)))) (λ c. inl (w - d, back l, h, c)) (searched ps (w - d)))
    (λ h. inr (λ f. high f.0 f.1 f.2 h)) (cut (w - d) n))
    (λ l. inr (λ f. low f.0 f.1 l)) (cut2 d w)
  where
    cut : (a b : ℕ) → (a < b) ⊎ (b ≤ a)
    cut a b = grind arith

    cut2 : (a b : ℕ) → (a ≤ b) ⊎ (b < a)
    cut2 a b = grind arith

    number : (v : ℕ) → w ≡ v + d → w - d ≡ v
    number v e = omega arith

    back : d ≤ w → w ≡ w - d + d
    back l = omega arith

    high : (v : ℕ) → w ≡ v + d → v < n → n ≤ w - d → ⊥
    high v e h k = omega arith

    low : (v : ℕ) → w ≡ v + d → w < d → ⊥
    low v e l = omega arith

-- a foreign local is a head at a rigid place
abbrev HeadAt : Assignment → Locals → List Place → Locals → PlainObject → SimpleType → Type 0
HeadAt g ls ps ds x t = (es : Locals) × (q : PlainNeutral) × (c : SimpleType) × (w : ℕ) × Standing (scoped (ds ++ ls) g) es q c x t × (head_of q ≡ Var w) × Foreign (length ls) ps (length (es ++ ds)) w

abbrev HeadBelow : Assignment → Locals → List Place → Locals → PlainNeutral → Type 0
HeadBelow g ls ps ds n = (es : Locals) × (q : PlainNeutral) × (c : SimpleType) × (w : ℕ) × StandingBelow (scoped (ds ++ ls) g) es q c n × (head_of q ≡ Var w) × Foreign (length ls) ps (length (es ++ ds)) w

-- the metavariable stands on distinct locals at a rigid place
abbrev ItselfAt : Assignment → Locals → ℕ → Locals → PlainObject → SimpleType → Type 0
ItselfAt g ls m ds x t = (es : Locals) × (q : PlainNeutral) × (c : SimpleType) × (zs : List Place) × Standing (scoped (ds ++ ls) g) es q c x t × OnDistinct (scoped (es ++ (ds ++ ls)) g) q m zs c

abbrev ItselfBelow : Assignment → Locals → ℕ → Locals → PlainNeutral → Type 0
ItselfBelow g ls m ds n = (es : Locals) × (q : PlainNeutral) × (c : SimpleType) × (zs : List Place) × StandingBelow (scoped (ds ++ ls) g) es q c n × OnDistinct (scoped (es ++ (ds ++ ls)) g) q m zs c

abbrev Look : Assignment → Locals → ℕ → List Place → Locals → PlainObject → SimpleType → Type 0
Look g ls m ps ds x t = HeadAt g ls ps ds x t ⊎ (ItselfAt g ls m ds x t ⊎ ((mentions m x ≡ false) × Prunable g ls ps ds x t))

abbrev Below : Assignment → Locals → ℕ → List Place → Locals → PlainNeutral → Type 0
Below g ls m ps ds n = (HeadBelow g ls ps ds n ⊎ ((w : ℕ) × (head_of n ≡ Var w) × Foreign (length ls) ps (length ds) w)) ⊎ (ItselfBelow g ls m ds n ⊎ ((mentions_neutral m n ≡ false) × PrunableBelow g ls ps ds n))

of_sides : {A B C D E F : Type 0} → (A → D) → (B → E) → (C → D ⊎ (E ⊎ F)) → A ⊎ (B ⊎ C) → D ⊎ (E ⊎ F)
of_sides f h k c = ⊎_elim (λ a. inl (f a)) (λ d. ⊎_elim (λ b. inr (inl (h b))) (λ e. k e) d) c

module _ (g : Assignment) (ls : Locals) (m : ℕ) (ps : List Place) where
  -- a metavariable on distinct locals in order
  look_flexible : (ds : Locals) (n : PlainNeutral) (t : SimpleType) (k : ℕ) (zs : List Place) → OnDistinct (scoped (ds ++ ls) g) n k zs t → Look g ls m ps ds (atomic n) t
  look_flexible ds n t k zs d = ⊎_elim
      (λ e. inr (inl ([], n, t, zs, standing_here, subst (λ j. OnDistinct (scoped (ds ++ ls) g) n j zs t) e d)))
      (λ e. inr (inr (ap (mentions_neutral m) d.neutral ∙ on_silent m zs (head_alone (Meta k)) e, inr (ap (λ j. is_metavariable (head_of j)) d.neutral ∙ ap is_metavariable (head_on zs (head_alone (Meta k))), inr (k, zs, d)))))
      (number_cases k m)

  under_one : (es ds : Locals) (d : Mode × SimpleType) → es ++ d ∷ ds ≡ (es ++ d ∷ []) ++ ds
  under_one es ds d = sym (append_assoc es (d ∷ []) ds)

  look_rigid : (ds : Locals) (n : PlainNeutral) (t : SimpleType) → is_metavariable (head_of n) ≡ false → Below g ls m ps ds n → Look g ls m ps ds (atomic n) t
  look_rigid ds n t e c = of_sides
      (λ a. ⊎_elim (λ b. let (es, q, k, w, s, i, o) = b in (es, q, k, w, standing_below e s, i, o)) (λ b. ([], n, t, b.0, standing_here, b.1, b.2)) a)
      (λ a. let (es, q, k, zs, s, o) = a in (es, q, k, zs, standing_below e s, o))
      (λ a. inr (inr (a.0, inl (e, a.1)))) c

  mutual
    look : (ds : Locals) (x : PlainObject) (t : SimpleType) → Flat (scoped (ds ++ ls) g) x t → Look g ls m ps ds x t
    look ds (lam md b) t (d, c, e, f) = subst (Look g ls m ps ds (lam md b)) (sym e) (of_sides
        (λ a. let (es, q, k, w, s, h, o) = a in (es ++ (md, d) ∷ [], q, k, w, standing_body s, h, subst (λ l. Foreign (length ls) ps (length l) w) (under_one es ds (md, d)) o))
        (λ a. let (es, q, k, zs, s, o) = a in (es ++ (md, d) ∷ [], q, k, zs, standing_body s, subst (λ l. OnDistinct (scoped l g) q m zs k) (under_one es (ds ++ ls) (md, d)) o))
        (λ a. inr (inr (a.0, (d, c, refl, a.1)))) (look ((md, d) ∷ ds) b c f))
    look ds (pair l r) t (c, d, e, f, h) = subst (Look g ls m ps ds (pair l r)) (sym e) (of_sides
        (λ a. let (es, q, k, w, s, i, o) = a in (es, q, k, w, standing_left s, i, o))
        (λ a. let (es, q, k, zs, s, o) = a in (es, q, k, zs, standing_left s, o))
        (λ a. of_sides
        (λ b. let (es, q, k, w, s, i, o) = b in (es, q, k, w, standing_right s, i, o))
        (λ b. let (es, q, k, zs, s, o) = b in (es, q, k, zs, standing_right s, o))
        (λ b. inr (inr (neither a.0 b.0, (c, d, refl, a.1, b.1)))) (look ds r d h))
        (look ds l c f))
    look ds unit t f = inr (inr (refl, tt))
    look ds (monadic e) t f = absurd f
    look ds (atomic n) t f = ⊎_elim
        (λ h. look_rigid ds n t h.0 (look_below ds n h.0 h.1))
        (λ h. look_flexible ds n t h.0 h.1 h.2)
        f
    look ds hole t f = absurd f

    look_below : (ds : Locals) (n : PlainNeutral) → is_metavariable (head_of n) ≡ false → FlatBelow (scoped (ds ++ ls) g) n → Below g ls m ps ds n
    look_below ds (head_alone (Const c)) e f = inr (inr (refl, (λ w h o. cc)))
    look_below ds (head_alone (Var i)) e f = ⊎_elim (λ o. inl (inr (i, refl, o))) (λ o. inr (inr (refl, (λ w h u. o (subst (λ j. Foreign (length ls) ps (length ds) j) (number h) u))))) (foreign_cases (length ls) ps (length ds) i)
      where
        number : {i w : ℕ} → Var i ≡ Var w → w ≡ i
        number e = cc
    look_below ds (head_alone (Meta k)) e f = absurd (cc)
    look_below ds (app md r o) e (f, (d, c, p, h)) = of_sides
        (λ a. ⊎_elim (λ b. let (es, q, k, w, s, i, u) = b in inl (es, q, k, w, in_earlier s, i, u)) (λ b. inr b) a)
        (λ a. let (es, q, k, zs, s, u) = a in (es, q, k, zs, in_earlier s, u))
        (λ a. of_sides
        (λ b. let (es, q, k, w, s, i, u) = b in inl (es, q, k, w, in_this c p s, i, u))
        (λ b. let (es, q, k, zs, s, u) = b in (es, q, k, zs, in_this c p s, u))
        (λ b. inr (inr (neither a.0 b.0, (a.1, (d, c, p, b.1))))) (look ds o d h))
        (look_below ds r e f)
    look_below ds (fst r) e f = of_sides
        (λ a. ⊎_elim (λ b. let (es, q, k, w, s, i, u) = b in inl (es, q, k, w, under_fst s, i, u)) (λ b. inr b) a)
        (λ a. let (es, q, k, zs, s, u) = a in (es, q, k, zs, under_fst s, u))
        (λ a. inr (inr a)) (look_below ds r e f)
    look_below ds (snd r) e f = of_sides
        (λ a. ⊎_elim (λ b. let (es, q, k, w, s, i, u) = b in inl (es, q, k, w, under_snd s, i, u)) (λ b. inr b) a)
        (λ a. let (es, q, k, zs, s, u) = a in (es, q, k, zs, under_snd s, u))
        (λ a. inr (inr a)) (look_below ds r e f)

one_type : {c d : SimpleType} → Some c ≡ Some d → c ≡ d
one_type e = cc

-- In a flat system a metavariable on distinct locals in order has every flat atomic object in reach.
pub flat_reach : FlatReaches
flat_reach g ls r m ps a fin own o n f = ⊎_elim
    (λ h. rigid h.0 (look_below g ls m ps [] n h.0 h.1))
    (λ h. let (k, zs, d, u) = h in ⊎_elim
    (λ e. same zs (subst (λ j. OnDistinct (scoped ls g) n j zs a) e d) u)
    (λ e. free_reach (ap (mentions_neutral m) d.neutral ∙ on_silent m zs (head_alone (Meta k)) e) (inr (ap (λ j. is_metavariable (head_of j)) d.neutral ∙ ap is_metavariable (head_on zs (head_alone (Meta k))), inr (k, zs, d))))
    (number_cases k m))
    f
  where
    same : (zs : List Place) → OnDistinct (scoped ls g) n m zs a → Ordered zs → InReach g ls r m ps a (atomic n)
    same zs d u = let (t, _) = same_types ps zs a a fin fin (one_type (sym own ∙ d.type)) in same_reach zs zs (on_locals (scoped ls g) n m zs a d) (lacks_same zs (atomic r)) t (ordered_no_circle ps zs t o u)

    rigid : is_metavariable (head_of n) ≡ false → Below g ls m ps [] n → InReach g ls r m ps a (atomic n)
    rigid e c = ⊎_elim
        (λ b. ⊎_elim (λ h. let (es, q, k, w, s, i, u) = h in head_reach es q k w (standing_below e s) i (subst (λ l. Foreign (length ls) ps (length l) w) (none es) u)) (λ h. head_reach [] n a h.0 standing_here h.1 h.2) b)
        (λ d. ⊎_elim (λ h. let (es, q, k, zs, s, u) = h in inside_reach es q zs k e s u) (λ h. free_reach h.0 (inl (e, h.1))) d) c
      where
        none : (es : Locals) → es ++ [] ≡ es
        none [] = refl
        none (x ∷ es) = ap (λ l. x ∷ l) (none es)
