-- A variable for which the eta-long form of another one is put, be it at another simple type, does not occur where that one does not occur afterwards.
use Rattle.std.specs.Prelude.{ℕ, Bool, true, false, ◌+◌, ◌-◌, ◌≡◌, ◌≤◌, ◌⊎◌, ◌||◌, ◌&&◌, nat_eq, List, length, refl}
use Rattle.std.proofs.Common.{ap, sym, subst, ◌∙◌, arith, inl, inr, ⊎_elim}
use Rattle.clf_syntax.specs.declared.tree.Mode.{Mode}
use Rattle.clf_syntax.specs.declared.tree.Head.{Head}
use Rattle.clf_syntax.specs.declared.tree.Head.TheVariants.{Const, Var, Meta}
use Rattle.clf_syntax.specs.Tree.{PlainObject, lam, pair, monadic, atomic, PlainNeutral, head_alone, app, fst, snd, PlainExpression, step, done, PlainTuple, head_of}
use Rattle.clf_syntax.specs.TypeTree.{SimpleType, base, arrow, simple_with, simple_top, lax, SimpleTelescope}
use Rattle.clf_syntax.specs.Simple.{Assignment, extended, extended_by, simple_modes}
use Rattle.clf_syntax.specs.Renaming.{Renumbering, ren_head, ren, ren_neutral, up}
use Rattle.clf_syntax.specs.Occurs.{occurs, occurs_neutral, occurs_expression, occurs_tuple}
use Rattle.clf_syntax.proofs.RenamingLaws.{cut}
use Rattle.clf_syntax.proofs.OccursLaws.{or_first, not_true, not_both, own_number}
use Rattle.hered_subst.specs.Substitution.{Image, keep, put, Environment, ren_image, under, single, Substituted, through_lam, through_pair, through_unit, through_hole, through_monadic, through_kept, through_value, KeepsHead, kept_bare, kept_app, kept_fst, kept_snd, HasValue, value_bare, value_app, value_fst, value_snd, SubstitutedExpression, through_done, step_kept, step_value, step_meta, Flattened, flat_step, flat_done, SubstitutedTuple, through_empty, through_entry}
use Rattle.hered_subst.proofs.Determined.{determined}
use Rattle.hered_subst.proofs.Renamed.{head_renamed, under_in, under_out, single_out}
use Rattle.hered_subst.proofs.SimpleTyping.{Typed, typed_lam, typed_pair, typed_monadic, typed_metavariable, typed_atomic, TypedNeutral, typed_app, typed_fst, typed_snd, TypedExpression, typed_step, typed_done, TypedTuple, typed_entry, rank}
use Rattle.hered_subst.proofs.Total.{RankedEnvironment, env_bound, env_bounds, single_env, raised_types, all_total, total_neutral}
use Rattle.subst_laws.proofs.Compose.{value_typed, object_typed, lam_typed}
use Rattle.subst_laws.proofs.TypedBack.{typed_back_neutral}
use Rattle.eta_laws.specs.Eta.{eta, variables}
use Rattle.eta_laws.proofs.EtaLaws.{eta_ren, eta_kept, never}
use Rattle.pattern_laws.specs.Patterns.{is_blank, blank}
use Rattle.pattern_laws.proofs.EtaVariables.{eta_there}
use Rattle.pattern_laws.proofs.Typings.{blank_is}

-- For variable k the eta-long form of w is put, and nothing else for any head.
abbrev pub PutsFor : Environment → ℕ → SimpleType → ℕ → Type 0
PutsFor s k u w = (s (Var k) ≡ put (eta u (head_alone (Var w)))) × ((h : Head) (n : PlainObject) → s h ≡ put n → n ≡ eta u (head_alone (Var w)))

no_put : {i : Image} {j : Head} {n : PlainObject} → i ≡ keep j → i ≡ put n → ⊥
no_put e f = cc

-- what is put after a renaming
renamed_put : (r : Renumbering) (i : Image) (n : PlainObject) → ren_image r i ≡ put n → (o : PlainObject) × (i ≡ put o) × (n ≡ ren r o)
renamed_put r (keep h) n e = absurd (cc)
renamed_put r (put o) n e = (o, refl, cc)

puts_raised : (n : ℕ) (s : Environment) (k : ℕ) (u : SimpleType) (w : ℕ) → PutsFor s k u w → (i : Image) (o : PlainObject) → ((p : PlainObject) → i ≡ put p → p ≡ eta u (head_alone (Var w))) → ren_image (up n) i ≡ put o → o ≡ eta u (head_alone (Var (w + n)))
puts_raised n s k u w f i o g e = let (p, a, b) = renamed_put (up n) i o e in b ∙ ap (ren (up n)) (g p a) ∙ eta_ren u (up n) (head_alone (Var w))

puts_under : (n : ℕ) (s : Environment) (k : ℕ) (u : SimpleType) (w : ℕ) → PutsFor s k u w → PutsFor (under n s) (k + n) u (w + n)
puts_under n s k u w f = (under_out n s k ∙ ap (ren_image (up n)) f.0 ∙ ap put (eta_ren u (up n) (head_alone (Var w))), at_head)
  where
    back : (i : ℕ) → n ≤ i → i - n + n ≡ i
    back i h = omega arith

    at_head : (h : Head) (o : PlainObject) → under n s h ≡ put o → o ≡ eta u (head_alone (Var (w + n)))
    at_head (Const c) o e = puts_raised n s k u w f (s (Const c)) o (f.1 (Const c)) e
    at_head (Meta m) o e = puts_raised n s k u w f (s (Meta m)) o (f.1 (Meta m)) e
    at_head (Var i) o e = ⊎_elim (λ h. absurd (no_put (under_in n s i h) e))
        (λ h. puts_raised n s k u w f (s (Var (i - n))) o (f.1 (Var (i - n))) (sym (under_out n s (i - n)) ∙ ap (λ j. under n s (Var j)) (back i h) ∙ e)) (cut i n)

pub head_kept : {s : Environment} {n x : PlainNeutral} → KeepsHead s n x → s (head_of n) ≡ keep (head_of x)
head_kept (kept_bare e) = e
head_kept (kept_app p q) = head_kept p
head_kept (kept_fst p) = head_kept p
head_kept (kept_snd p) = head_kept p

head_put : {s : Environment} {n : PlainNeutral} {x : PlainObject} → HasValue s n x → (o : PlainObject) × (s (head_of n) ≡ put o)
head_put (value_bare {n = n} e) = (n, e)
head_put (value_app p q r) = head_put p
head_put (value_fst p) = head_put p
head_put (value_snd p) = head_put p

the_head : {i : Image} {j k : Head} → i ≡ keep j → i ≡ keep k → j ≡ k
the_head e f = cc

pub head_occurs : (n : PlainNeutral) (w : ℕ) → head_of n ≡ Var w → occurs_neutral w n ≡ true
head_occurs (head_alone h) w e = subst (λ j. occurs_neutral w (head_alone j) ≡ true) (sym e) (own_number w)
head_occurs (app m r o) w e = or_first (occurs_neutral w r) (occurs w o) (head_occurs r w e)
head_occurs (fst r) w e = head_occurs r w e
head_occurs (snd r) w e = head_occurs r w e

pub blank_eta : (u : SimpleType) (n : PlainNeutral) → blank u ≡ true → is_blank (eta u n) ≡ true
blank_eta (base a) n e = absurd (cc)
blank_eta (arrow m d c) n e = blank_eta c (app m (ren_neutral (up 1) n) (eta d (head_alone (Var 0)))) e
blank_eta (simple_with c d) n e = both (is_blank (eta c (fst n))) (is_blank (eta d (snd n))) (blank_eta c (fst n) (halves (blank c) (blank d) e).0) (blank_eta d (snd n) (halves (blank c) (blank d) e).1)
  where
    halves : (a b : Bool) → a && b ≡ true → (a ≡ true) × (b ≡ true)
    halves true b e = (refl, e)
    halves false b e = absurd (cc)

    both : (a b : Bool) → a ≡ true → b ≡ true → a && b ≡ true
    both a b e f = rw (e, f) refl
blank_eta simple_top n e = refl
blank_eta (lax ts) n e = absurd (cc)

halves : (a b : Bool) → a && b ≡ true → (a ≡ true) × (b ≡ true)
halves true b e = (refl, e)
halves false b e = absurd (cc)

both : (a b : Bool) → a ≡ true → b ≡ true → a && b ≡ true
both a b e f = rw (e, f) refl

-- A blank object stays blank.
blank_stays : {s : Environment} {o x : PlainObject} → Substituted s o x → is_blank o ≡ true → is_blank x ≡ true
blank_stays (through_lam p) e = blank_stays p e
blank_stays (through_pair {l = l} {r = r} {x = x} {y = y} p q) e = both (is_blank x) (is_blank y) (blank_stays p (halves (is_blank l) (is_blank r) e).0) (blank_stays q (halves (is_blank l) (is_blank r) e).1)
blank_stays through_unit e = refl
blank_stays through_hole e = absurd (cc)
blank_stays (through_monadic p) e = absurd (cc)
blank_stays (through_kept p) e = absurd (cc)
blank_stays (through_value p) e = absurd (cc)

of_atomic : {g : Assignment} {n : PlainNeutral} {t : SimpleType} → Typed false g (atomic n) t → (a : ℕ) × (t ≡ base a) × TypedNeutral false g n t
of_atomic (typed_atomic {a = a} p) = (a, refl, p)
of_atomic (typed_metavariable i p e) = absurd (never i)

of_step : {g : Assignment} {ms : List Mode} {r : PlainNeutral} {e : PlainExpression} {t : SimpleType} → Typed false g (monadic (step ms r e)) t → (u : SimpleType) × TypedNeutral false g r u
of_step (typed_monadic p) = of_expression p
  where
    of_expression : {g : Assignment} {ms : List Mode} {r : PlainNeutral} {e : PlainExpression} {ts : SimpleTelescope} → TypedExpression false g (step ms r e) ts → (u : SimpleType) × TypedNeutral false g r u
    of_expression (typed_step {ts = ts} p m q) = (lax ts, p)

of_lam : {g : Assignment} {m : Mode} {b : PlainObject} {t : SimpleType} → Typed false g (lam m b) t → (d c : SimpleType) × Typed false (extended d g) b c
of_lam (typed_lam {d = d} {c = c} p) = (d, c, p)

of_pair : {g : Assignment} {l r : PlainObject} {t : SimpleType} → Typed false g (pair l r) t → (c d : SimpleType) × Typed false g l c × Typed false g r d
of_pair (typed_pair {c = c} {d = d} p q) = (c, d, p, q)

of_app : {g : Assignment} {m : Mode} {r : PlainNeutral} {o : PlainObject} {t : SimpleType} → TypedNeutral false g (app m r o) t → (u : SimpleType) × TypedNeutral false g r u
of_app (typed_app {m = m} {d = d} {c = c} p q) = (arrow m d c, p)

of_fst : {g : Assignment} {r : PlainNeutral} {t : SimpleType} → TypedNeutral false g (fst r) t → (u : SimpleType) × TypedNeutral false g r u
of_fst (typed_fst {c = c} {d = d} p) = (simple_with c d, p)

of_snd : {g : Assignment} {r : PlainNeutral} {t : SimpleType} → TypedNeutral false g (snd r) t → (u : SimpleType) × TypedNeutral false g r u
of_snd (typed_snd {c = c} {d = d} p) = (simple_with c d, p)

not_both_blank : (a b : Bool) → a && b ≡ false → (a ≡ false) ⊎ (b ≡ false)
not_both_blank true b e = inr e
not_both_blank false b e = inl refl

-- A neutral whose eta-long form is typed, and not blank, is typed.
typed_inside : (c : SimpleType) (g : Assignment) (n : PlainNeutral) (t : SimpleType) → Typed false g (eta c n) t → blank c ≡ false → (u : SimpleType) × TypedNeutral false g n u
typed_inside (base a) g n t p e = (t, (of_atomic p).2)
typed_inside (arrow m d c) g n t p e = let (k, l, q) = of_lam p in let (v, r) = typed_inside c (extended k g) (app m (ren_neutral (up 1) n) (eta d (head_alone (Var 0)))) l q e in
    let (u, s) = of_app r in (u, typed_back_neutral false (extended k g) (up 1) g (raised_types k g) n s)
typed_inside (simple_with c d) g n t p e = let (k, l, q, r) = of_pair p in ⊎_elim
    (λ h. let (v, s) = typed_inside c g (fst n) k q h in of_fst s)
    (λ h. let (v, s) = typed_inside d g (snd n) l r h in of_snd s) (not_both_blank (blank c) (blank d) e)
typed_inside simple_top g n t p e = absurd (cc)
typed_inside (lax ts) g n t p e = of_step p

-- the eta-long form of a neutral with that variable as its head, at a type that is not blank
abbrev IsForm : ℕ → PlainObject → Type 0
IsForm w x = (u : SimpleType) × (q : PlainNeutral) × (x ≡ eta u q) × (head_of q ≡ Var w) × (blank u ≡ false)

cases_of : (b : Bool) → (b ≡ true) ⊎ (b ≡ false)
cases_of true = inl refl
cases_of false = inr refl

form_or_blank : (u : SimpleType) (q : PlainNeutral) (w : ℕ) {x : PlainObject} → x ≡ eta u q → head_of q ≡ Var w → (is_blank x ≡ true) ⊎ IsForm w x
form_or_blank u q w e h = ⊎_elim (λ b. inl (ap is_blank e ∙ blank_eta u q b)) (λ b. inr (u, q, e, h, b)) (cases_of (blank u))

lam_form : {m : Mode} {b : PlainObject} (u : SimpleType) (q : PlainNeutral) → lam m b ≡ eta u q → (k : Mode) × (d c : SimpleType) × (b ≡ eta c (app k (ren_neutral (up 1) q) (eta d (head_alone (Var 0)))))
lam_form (base a) q e = absurd (cc)
lam_form (arrow k d c) q e = (k, d, c, cc)
lam_form (simple_with c d) q e = absurd (cc)
lam_form simple_top q e = absurd (cc)
lam_form (lax ts) q e = absurd (cc)

pair_form : {x y : PlainObject} (u : SimpleType) (q : PlainNeutral) → pair x y ≡ eta u q → (c d : SimpleType) × (x ≡ eta c (fst q)) × (y ≡ eta d (snd q))
pair_form (base a) q e = absurd (cc)
pair_form (arrow k d c) q e = absurd (cc)
pair_form (simple_with c d) q e = (c, d, cc, cc)
pair_form simple_top q e = absurd (cc)
pair_form (lax ts) q e = absurd (cc)

atomic_form : {x : PlainNeutral} (u : SimpleType) (q : PlainNeutral) → atomic x ≡ eta u q → x ≡ q
atomic_form (base a) q e = cc
atomic_form (arrow k d c) q e = absurd (cc)
atomic_form (simple_with c d) q e = absurd (cc)
atomic_form simple_top q e = absurd (cc)
atomic_form (lax ts) q e = absurd (cc)

monadic_form : {g : PlainExpression} (u : SimpleType) (q : PlainNeutral) → monadic g ≡ eta u q → (ts : SimpleTelescope) × (g ≡ step (simple_modes ts) q (done (variables ts)))
monadic_form (base a) q e = absurd (cc)
monadic_form (arrow k d c) q e = absurd (cc)
monadic_form (simple_with c d) q e = absurd (cc)
monadic_form simple_top q e = absurd (cc)
monadic_form (lax ts) q e = (ts, cc)

renumbered : (q : PlainNeutral) (w : ℕ) → head_of q ≡ Var w → head_of (ren_neutral (up 1) q) ≡ Var (w + 1)
renumbered q w e = head_renamed (up 1) q ∙ ap (ren_head (up 1)) e

-- The next argument: what is put for a variable goes into the body of a form.
applied_form : (z : Assignment) (d t : SimpleType) (m : Mode) (b y x : PlainObject) (w : ℕ) → Typed false z (lam m b) (arrow m d t) → Typed false z y d → Substituted (single y 0) b x
    → (is_blank (lam m b) ≡ true) ⊎ IsForm w (lam m b) → (is_blank x ≡ true) ⊎ IsForm w x
applied_form z d t m b y x w p q s c = ⊎_elim (λ e. inl (blank_stays s e)) (λ i. let (u, n, e, h, o) = i in let (k, l, v, f) = lam_form u n e in inner k l v n f h (cases_of (blank v))) c
  where
    inner : (k : Mode) (l v : SimpleType) (n : PlainNeutral) → b ≡ eta v (app k (ren_neutral (up 1) n) (eta l (head_alone (Var 0)))) → head_of n ≡ Var w → (blank v ≡ true) ⊎ (blank v ≡ false) → (is_blank x ≡ true) ⊎ IsForm w x
    inner k l v n f h (inl a) = inl (blank_stays s (ap is_blank f ∙ blank_eta v (app k (ren_neutral (up 1) n) (eta l (head_alone (Var 0)))) a))
    inner k l v n f h (inr a) = let (b2, e2, tb) = lam_typed false p in
        let (t2, tn) = typed_inside v (extended d z) (app k (ren_neutral (up 1) n) (eta l (head_alone (Var 0)))) t (subst (λ o. Typed false (extended d z) o t) (same_body e2 ∙ f) tb) a in
        ⊎_elim (λ r. let (x2, kh, _) = r in inr (v, x2, determined s (subst (λ o. Substituted (single y 0) o (eta v x2)) (sym f) (eta_kept v (single y 0) kh)), the_head (head_kept kh) (kept_there n h), a))
        (λ r. absurd (let (o, hp) = head_put r.1 in no_put (kept_there n h) hp))
        (total_neutral false (rank d) (λ j i. all_total false j) z (single y 0) tn (single_env false d z y q))
      where
        same_body : {c : PlainObject} → lam m b ≡ lam m c → c ≡ b
        same_body e = cc

        kept_there : (n : PlainNeutral) → head_of n ≡ Var w → single y 0 (head_of (ren_neutral (up 1) n)) ≡ keep (Var w)
        kept_there n h = ap (single y 0) (renumbered n w h) ∙ single_out y w

-- The value of a neutral for whose head the form is put is blank, or such a form.
value_form : {s : Environment} {n : PlainNeutral} {x : PlainObject} → HasValue s n x → (r : ℕ) (g z : Assignment) (k : ℕ) (u : SimpleType) (w : ℕ) → RankedEnvironment false r g z s → PutsFor s k u w → {t : SimpleType} → TypedNeutral false g n t → (is_blank x ≡ true) ⊎ IsForm w x
value_form (value_bare {h = h} {n = n} e) r g z k u w f a p = form_or_blank u (head_alone (Var w)) w (a.1 h n e) refl
value_form (value_app {m = m} {b = b} {y = y} {x = x} v i j) r g z k u w f a (typed_app {d = d} {c = c} p q) = applied_form z d c m b y x w (value_typed false r p f v).0 (object_typed false r q f i) j (value_form v r g z k u w f a p)
value_form (value_fst {x = x} {y = y} v) r g z k u w f a (typed_fst p) = ⊎_elim (λ e. inl (halves (is_blank x) (is_blank y) e).0)
    (λ i. let (c, d, e, h) = pair_form i.0 i.1 i.2 in form_or_blank c (fst i.1) w e i.3) (value_form v r g z k u w f a p)
value_form (value_snd {x = x} {y = y} v) r g z k u w f a (typed_snd p) = ⊎_elim (λ e. inl (halves (is_blank x) (is_blank y) e).1)
    (λ i. let (c, d, e, h) = pair_form i.0 i.1 i.2 in form_or_blank d (snd i.1) w h i.3) (value_form v r g z k u w f a p)

form_there : (x : PlainObject) (w : ℕ) → IsForm w x → occurs w x ≡ true
form_there x w i = let (u, q, e, h, b) = i in subst (λ o. occurs w o ≡ true) (sym e) (eta_there u q w b (head_occurs q w h))

flattened_there : {n : ℕ} {g f h : PlainExpression} → Flattened n g f h → (p : List Mode) (q : PlainNeutral) (d : PlainExpression) → g ≡ step p q d → (w : ℕ) → occurs_neutral w q ≡ true → occurs_expression w h ≡ true
flattened_there (flat_step {p = k} {r = r} {h = h} i) p q d e w o = or_first (occurs_neutral w r) (occurs_expression (w + length k) h) (subst (λ n. occurs_neutral w n ≡ true) (same e) o)
  where
    same : {k p : List Mode} {r q : PlainNeutral} {g d : PlainExpression} → step k r g ≡ step p q d → q ≡ r
    same e = cc
flattened_there (flat_done i j) p q d e w o = absurd (cc)

neither : (a b : Bool) → a || b ≡ false → (a ≡ false) × (b ≡ false)
neither true b e = absurd (cc)
neither false b e = (refl, e)

none : {a b : Bool} → a ≡ false → b ≡ false → a || b ≡ false
none e f = rw (e, f) refl

not_this : (s : Environment) (h j : Head) (k : ℕ) (n : PlainObject) → s (Var k) ≡ put n → s h ≡ keep j → occurs_neutral k (head_alone h) ≡ false
not_this s (Const c) j k n f e = refl
not_this s (Var i) j k n f e = not_true (nat_eq i k) (λ h. no_put e (ap (λ l. s (Var l)) (same i k h) ∙ f))
  where
    same : (i k : ℕ) → nat_eq i k ≡ true → i ≡ k
    same i k h = grind arith
not_this s (Meta m) j k n f e = refl

-- Where w does not occur afterwards, variable k does not occur.
mutual
  pub misfit_absent : {s : Environment} {o x : PlainObject} → Substituted s o x → (r : ℕ) (g z : Assignment) (k : ℕ) (u : SimpleType) (w : ℕ) → RankedEnvironment false r g z s → PutsFor s k u w → {t : SimpleType} → Typed false g o t → occurs w x ≡ false → occurs k o ≡ false
  misfit_absent (through_lam {s = s} i) r g z k u w f a (typed_lam {d = d} p) e = misfit_absent i r (extended d g) (extended d z) (k + 1) u (w + 1) (env_bound false r d g z s f) (puts_under 1 s k u w a) p e
  misfit_absent (through_pair {x = x} {y = y} i j) r g z k u w f a (typed_pair p q) e = none (misfit_absent i r g z k u w f a p (neither (occurs w x) (occurs w y) e).0) (misfit_absent j r g z k u w f a q (neither (occurs w x) (occurs w y) e).1)
  misfit_absent through_unit r g z k u w f a p e = refl
  misfit_absent through_hole r g z k u w f a p e = refl
  misfit_absent (through_monadic i) r g z k u w f a (typed_monadic p) e = misfit_absent_expression i r g z k u w f a p e
  misfit_absent (through_kept i) r g z k u w f a p e = misfit_absent_neutral i r g z k u w f a (of_atomic p).2 e
  misfit_absent (through_value {x = x} i) r g z k u w f a p e = let (b, h, q) = of_atomic p in
      absurd (⊎_elim (λ c. not_base c (subst (Typed false z x) h (value_typed false r q f i).0)) (λ c. not_both (form_there x w c) e) (value_form i r g z k u w f a q))
    where
      not_base : {b : ℕ} {x : PlainObject} → is_blank x ≡ true → Typed false z x (base b) → ⊥
      not_base c q = let h = (blank_is q c).0 in cc

  misfit_absent_neutral : {s : Environment} {n x : PlainNeutral} → KeepsHead s n x → (r : ℕ) (g z : Assignment) (k : ℕ) (u : SimpleType) (w : ℕ) → RankedEnvironment false r g z s → PutsFor s k u w → {t : SimpleType} → TypedNeutral false g n t → occurs_neutral w x ≡ false → occurs_neutral k n ≡ false
  misfit_absent_neutral (kept_bare {s = s} {h = h} {j = j} i) r g z k u w f a p e = not_this s h j k (eta u (head_alone (Var w))) a.0 i
  misfit_absent_neutral (kept_app {x = x} {y = y} i j) r g z k u w f a (typed_app p q) e = none (misfit_absent_neutral i r g z k u w f a p (neither (occurs_neutral w x) (occurs w y) e).0) (misfit_absent j r g z k u w f a q (neither (occurs_neutral w x) (occurs w y) e).1)
  misfit_absent_neutral (kept_fst i) r g z k u w f a (typed_fst p) e = misfit_absent_neutral i r g z k u w f a p e
  misfit_absent_neutral (kept_snd i) r g z k u w f a (typed_snd p) e = misfit_absent_neutral i r g z k u w f a p e

  misfit_absent_expression : {s : Environment} {n x : PlainExpression} → SubstitutedExpression s n x → (r : ℕ) (g z : Assignment) (k : ℕ) (u : SimpleType) (w : ℕ) → RankedEnvironment false r g z s → PutsFor s k u w → {t : SimpleTelescope} → TypedExpression false g n t → occurs_expression w x ≡ false → occurs_expression k n ≡ false
  misfit_absent_expression (through_done i) r g z k u w f a (typed_done p) e = misfit_absent_tuple i r g z k u w f a p e
  misfit_absent_expression (step_kept {s = s} {ms = ms} {x = x} {e = d} {f = y} i j) r g z k u w f a (typed_step {ts = ts} p m q) e = none (misfit_absent_neutral i r g z k u w f a p (neither (occurs_neutral w x) (occurs_expression (w + length ms) y) e).0)
      (misfit_absent_expression j r (extended_by ts g) (extended_by ts z) (k + length ms) u (w + length ms) (subst (λ l. RankedEnvironment false r (extended_by ts g) (extended_by ts z) (under l s)) (sym (ap length m)) (env_bounds false r ts g z s f)) (puts_under (length ms) s k u w a) q
      (neither (occurs_neutral w x) (occurs_expression (w + length ms) y) e).1)
  misfit_absent_expression (step_value {g = d} i j l) r g z k u w f a (typed_step p m q) e = absurd (⊎_elim (λ c. absurd (cc))
      (λ c. let (ts, h) = monadic_form c.0 c.1 c.2 in not_both (flattened_there l (simple_modes ts) c.1 (done (variables ts)) h w (head_occurs c.1 w c.3)) e) (value_form i r g z k u w f a p))
  misfit_absent_expression (step_meta {x = x} i h j) r g z k u w f a (typed_step p m q) e = absurd (⊎_elim (λ c. absurd (cc)) (λ c. no_meta (ap head_of (atomic_form c.0 c.1 c.2) ∙ c.3) h) (value_form i r g z k u w f a p))
    where
      no_meta : {n : Head} {v m : ℕ} → n ≡ Var v → n ≡ Meta m → ⊥
      no_meta e f = cc

  misfit_absent_tuple : {s : Environment} {n x : PlainTuple} → SubstitutedTuple s n x → (r : ℕ) (g z : Assignment) (k : ℕ) (u : SimpleType) (w : ℕ) → RankedEnvironment false r g z s → PutsFor s k u w → {t : SimpleTelescope} → TypedTuple false g n t → occurs_tuple w x ≡ false → occurs_tuple k n ≡ false
  misfit_absent_tuple through_empty r g z k u w f a p e = refl
  misfit_absent_tuple (through_entry {x = x} {u = y} i j) r g z k u w f a (typed_entry p q) e = none (misfit_absent i r g z k u w f a p (neither (occurs w x) (occurs_tuple w y) e).0) (misfit_absent_tuple j r g z k u w f a q (neither (occurs w x) (occurs_tuple w y) e).1)
