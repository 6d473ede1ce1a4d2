-- A metavariable on variables: its value is a renaming of what its lambdas hold.
use Rattle.std.specs.Prelude.{ℕ, Bool, true, false, zero, suc, ◌+◌, ◌-◌, ◌≡◌, ◌<◌, ◌≤◌, ◌⊎◌, List, [], ◌∷◌, length, Some, refl}
use Rattle.std.proofs.Common.{ap, sym, subst, ◌∙◌, arith, inl, inr, ⊎_elim}
use Rattle.clf_syntax.specs.declared.tree.Mode.{Mode}
use Rattle.clf_syntax.specs.declared.tree.Head.{Head}
use Rattle.clf_syntax.specs.declared.tree.Head.TheVariants.{Const, Var, Meta}
use Rattle.clf_syntax.specs.Tree.{PlainObject, lam, atomic, PlainNeutral, head_alone, head_of}
use Rattle.clf_syntax.specs.TypeTree.{SimpleType, arrow}
use Rattle.clf_syntax.specs.Simple.{Assignment, extended}
use Rattle.clf_syntax.specs.Renaming.{Renumbering, lifted, ren_head, ren, up, raise}
use Rattle.clf_syntax.specs.Occurs.{occurs}
use Rattle.clf_syntax.proofs.OccursLaws.{agreeing, not_both, not_true, source}
use Rattle.clf_syntax.proofs.RenamingLaws.{ext, composed, identity, lift_up, cut}
use Rattle.hered_subst.proofs.Single.{spared}
use Rattle.hered_subst.specs.Substitution.{keep, put, Environment, ren_image, under, single, Substituted, through_lam, through_value, kept_bare, HasValue, value_bare, value_app}
use Rattle.hered_subst.specs.Laws.{Fits}
use Rattle.hered_subst.proofs.Renamed.{under_in, under_out, image_comp}
use Rattle.hered_subst.proofs.SimpleTyping.{Typed, rank, typed_lam, renamed_typed, lift_zero, lift_first, lift_next, under_zero}
use Rattle.subst_laws.specs.Environments.{Instantiation, instant, image_or}
use Rattle.eta_laws.specs.Eta.{eta, becoming}
use Rattle.eta_laws.proofs.EtaLaws.{eta_kept, eta_near, all_same}
use Rattle.pattern_laws.proofs.TypeParts.{from_type, to_type}
use Rattle.pattern_laws.proofs.Occurrences.{target}
use Rattle.pattern_laws.proofs.Typings.{typed_where, blank_absent}
use Rattle.pattern_laws.specs.Instantiations.{Instantiated}
use Rattle.pattern_laws.specs.Patterns.{Place, on, lams, arrows, filled, Fitting, beneath}

-- eliminations by places keep the head
pub head_on : (ps : List Place) (r : PlainNeutral) → head_of (on ps r) ≡ head_of r
head_on [] r = refl
head_on (p ∷ ps) r = head_on ps r

-- all variables are kept
abbrev pub KeepsVariables : Environment → Type 0
KeepsVariables s = (i : ℕ) → s (Var i) ≡ keep (Var i)

pub keeps_variables : (n : ℕ) (t : Instantiation) → KeepsVariables (under n (instant t))
keeps_variables n t i = ⊎_elim (λ h. under_in n (instant t) i h) (λ h. subst (λ j. under n (instant t) (Var j) ≡ keep (Var j)) (back h) (under_out n (instant t) (i - n))) (cut i n)
  where
    back : n ≤ i → i - n + n ≡ i
    back h = omega arith

lift_over : (n : ℕ) (r : Renumbering) → lifted 1 (lifted n r) ≡ lifted (suc n) r
lift_over n r = ext (λ i. grind arith)

pub ren_lams : (r : Renumbering) (ps : List Place) (b : PlainObject) → ren r (lams ps b) ≡ lams ps (ren (lifted (length ps) r) b)
ren_lams r [] b = ap (λ q. ren q b) (sym (lift_zero r))
ren_lams r (p ∷ ps) b = ren_lams r ps (lam p.0 b) ∙ ap (λ q. lams ps (lam p.0 (ren q b))) (lift_over (length ps) r)

becoming_first : (y : ℕ) → becoming 0 y 0 ≡ y
becoming_first y = grind arith

pub becoming_next : (y i : ℕ) → becoming 0 y (suc i) ≡ i
becoming_next y i = grind arith

pub suits : (z : Assignment) (d : SimpleType) (y : ℕ) → z (Var y) ≡ Some d → (h : Head) → z (ren_head (becoming 0 y) h) ≡ extended d z h
suits z d y e (Const c) = refl
suits z d y e (Meta m) = refl
suits z d y e (Var zero) = ap (λ j. z (Var j)) (becoming_first y) ∙ e
suits z d y e (Var (suc i)) = ap (λ j. z (Var j)) (becoming_next y i)

pub filled_past : (ps : List Place) (j : ℕ) → filled ps (j + length ps) ≡ j
filled_past [] j = none j
  where
    none : (j : ℕ) → j + 0 ≡ j
    none j = omega arith
filled_past (p ∷ ps) j = ap (filled (p ∷ ps)) (sum (length ps)) ∙ filled_past ps j
  where
    sum : (k : ℕ) → j + suc k ≡ suc (j + k)
    sum k = omega arith

-- what becomes of the variables below the lambdas of a closed object that is applied to the places under n locals
abbrev pub applied : ℕ → List Place → Renumbering
applied n ps i = filled ps (lifted (length ps) (up n) i)

pub applied_past : (n : ℕ) (ps : List Place) (i : ℕ) → applied n ps (i + length ps) ≡ i + n
applied_past n ps i = ap (filled ps) (lift_up (length ps) (up n) i) ∙ filled_past ps (i + n)

-- Under other locals the objects are renumbered.
pub fits_instant : (t : Instantiation) (k n : ℕ) (r : Renumbering) → ((i : ℕ) → r (i + k) ≡ i + n) → Fits r r (under k (instant t)) (under n (instant t))
fits_instant t k n r f (Const c) = refl
fits_instant t k n r f (Var i) = keeps_variables n t (r i) ∙ ap (ren_image r) (sym (keeps_variables k t i))
fits_instant t k n r f (Meta m) = sym (image_comp r (up k) (image_or (Meta m) (t m)) ∙ ap (λ q. ren_image q (image_or (Meta m) (t m))) (ext f))

keeps_under : (k : ℕ) (s : Environment) → KeepsVariables s → KeepsVariables (under k s)
keeps_under k s f i = ⊎_elim (λ h. under_in k s i h) (λ h. subst (λ j. under k s (Var j) ≡ keep (Var j)) (back h) (under_out k s (i - k) ∙ ap (ren_image (up k)) (f (i - k)))) (cut i k)
  where
    back : k ≤ i → i - k + k ≡ i
    back h = omega arith

pub under_instant : (n : ℕ) (t : Instantiation) → under 1 (under n (instant t)) ≡ under (suc n) (instant t)
under_instant n t = ext (λ h. at_head h)
  where
    sum : (i : ℕ) → i + n + 1 ≡ i + suc n
    sum i = omega arith

    at_head : (h : Head) → under 1 (under n (instant t)) h ≡ under (suc n) (instant t) h
    at_head (Const c) = refl
    at_head (Var i) = keeps_under 1 (under n (instant t)) (keeps_variables n t) i ∙ sym (keeps_variables (suc n) t i)
    at_head (Meta m) = image_comp (up 1) (up n) (image_or (Meta m) (t m)) ∙ ap (λ r. ren_image r (image_or (Meta m) (t m))) (ext sum)

pub body : {s : Environment} {m : Mode} {b y : PlainObject} → Substituted s (lam m b) y → (x : PlainObject) × (y ≡ lam m x) × Substituted (under 1 s) b x
body (through_lam {x = x} p) = (x, refl, p)

pub through_lams : (t : Instantiation) (ps : List Place) {b x : PlainObject} → Instantiated (length ps) t b x → Substituted (instant t) (lams ps b) (lams ps x)
through_lams t [] {b = b} {x = x} p = subst (λ z. Substituted z b x) (under_zero (instant t)) p
through_lams t (q ∷ ps) {b = b} {x = x} p = through_lams t ps (through_lam (subst (λ z. Substituted z b x) (sym (under_instant (length ps) t)) p))

pub of_lams : (t : Instantiation) (ps : List Place) {b y : PlainObject} → Substituted (instant t) (lams ps b) y → (x : PlainObject) × (y ≡ lams ps x) × Instantiated (length ps) t b x
of_lams t [] {b = b} {y = y} p = (y, refl, subst (λ z. Substituted z b y) (sym (under_zero (instant t))) p)
of_lams t (q ∷ ps) {b = b} p = let (x, e, d) = of_lams t ps p in let (w, f, c) = body d in
    (w, e ∙ ap (lams ps) f, subst (λ z. Substituted z b w) (under_instant (length ps) t) c)

-- a typed lambda's body
lam_typed : {w : Bool} {g : Assignment} {m : Mode} {b : PlainObject} {t : SimpleType} → Typed w g (lam m b) t → (d c : SimpleType) × (t ≡ arrow m d c) × Typed w (extended d g) b c
lam_typed (typed_lam {d = d} {c = c} p) = (d, c, refl, p)

pub body_typed : {w : Bool} {g : Assignment} {m k : Mode} {b : PlainObject} {d c : SimpleType} → Typed w g (lam m b) (arrow k d c) → Typed w (extended d g) b c
body_typed {w = w} {g = g} {b = b} {d = d} {c = c} p = let (e, f, h, q) = lam_typed p in subst (λ t. Typed w (extended t g) b c) (from_type h) (subst (λ t. Typed w (extended e g) b t) (to_type h) q)

eta_renames : (g z : Assignment) (k j : ℕ) (u : SimpleType) → g (Var k) ≡ Some u → ((h : Head) → z (ren_head (becoming k j) h) ≡ g h) → (o : PlainObject) (t : SimpleType) → Typed false g o t → Substituted (single (eta u (head_alone (Var j))) k) o (ren (becoming k j) o)
eta_renames g z k j u e f o t p = (all_same (rank u) g z (becoming k j) (single (eta u (head_alone (Var j))) k) (eta_near g z k j u e f)).0 o t p

pub kept_place : (s : Environment) → KeepsVariables s → (t : SimpleType) (y : ℕ) → Substituted s (eta t (head_alone (Var y))) (eta t (head_alone (Var y)))
kept_place s f t y = eta_kept t s (kept_bare (f y))

raised_back : (y j : ℕ) → 0 < j → raise 1 0 (becoming 0 y j) ≡ j
raised_back y j h = grind arith

becoming_suits : (z : Assignment) (d : SimpleType) (y i : ℕ) → 0 < i → z (Var (becoming 0 y i)) ≡ extended d z (Var i)
becoming_suits z d y zero h = absurd (omega arith)
becoming_suits z d y (suc i) h = ap (λ j. z (Var j)) (becoming_next y i)

-- The eta-long form of a variable, put for the newest variable, renames: at that one's type, and where that one does not occur.
pub placed : (z : Assignment) (d u : SimpleType) (y : ℕ) (o : PlainObject) → ((z (Var y) ≡ Some d) × (u ≡ d)) ⊎ (occurs 0 o ≡ false) → (a : SimpleType) → Typed false (extended d z) o a
    → Substituted (single (eta u (head_alone (Var y))) 0) o (ren (becoming 0 y) o) × Typed false z (ren (becoming 0 y) o) a
placed z d u y o c a t = ⊎_elim
    (λ e. (subst (λ v. Substituted (single (eta v (head_alone (Var y))) 0) o (ren (becoming 0 y) o)) (sym e.1) (eta_renames (extended d z) z 0 y d refl (suits z d y e.0) o a t), renamed_typed z (becoming 0 y) t (suits z d y e.0)))
    (λ h. (
      subst (λ v. Substituted (single (eta u (head_alone (Var y))) 0) v (ren (becoming 0 y) o)) (composed (raise 1 0) (becoming 0 y) o ∙ agreeing (λ j. raise 1 0 (becoming 0 y j)) (λ j. j) o (λ j e. raised_back y j (positive h j e)) ∙ identity o) (spared (eta u (head_alone (Var y))) 0 (ren (becoming 0 y) o)),
      typed_where z (becoming 0 y) t ((λ c. refl), (λ m. refl), (λ j e. becoming_suits z d y j (positive h j e))),
    )) c
  where
    positive : occurs 0 o ≡ false → (j : ℕ) → occurs j o ≡ true → 0 < j
    positive h zero e = absurd (not_both e h)
    positive h (suc j) e = omega arith

-- In the second list the locals have their own simple types. Each place has a local of the place's type, which is its own; or the variable of its lambda does not occur.
abbrev pub Ready : Assignment → List Place → List Place → PlainObject → Type 0
Ready z [] [] c = Unit {0}
Ready z (p ∷ ps) (q ∷ qs) c = (p.0 ≡ q.0) × (p.2 ≡ q.2) × (((z (Var q.2) ≡ Some p.1) × (q.1 ≡ p.1)) ⊎ (occurs 0 c ≡ false)) × Ready z ps qs (lam p.0 c)
Ready z [] (q ∷ qs) c = ⊥
Ready z (p ∷ ps) [] c = ⊥

first_back : (r : Renumbering) (j : ℕ) → lifted 1 r j ≡ 0 → j ≡ 0
first_back r zero e = refl
first_back r (suc j) e = absurd (no (sym (lift_next r j) ∙ e))
  where
    no : suc (r j) ≡ 0 → ⊥
    no e = omega arith

absent_first : (r : Renumbering) (c : PlainObject) → occurs 0 c ≡ false → occurs 0 (ren (lifted 1 r) c) ≡ false
absent_first r c h = not_true (occurs 0 (ren (lifted 1 r) c)) (λ e. let (j, f, o) = source (lifted 1 r) c 0 e in not_both (subst (λ i. occurs i c ≡ true) (first_back r j f) o) h)

pub ready_renamed : (z : Assignment) (r : Renumbering) (ps qs : List Place) (c : PlainObject) → Ready z ps qs c → Ready z ps qs (ren (lifted (length ps) r) c)
ready_renamed z r [] [] c u = tt
ready_renamed z r (p ∷ ps) (q ∷ qs) c u = (
  u.0,
  u.1,
  ⊎_elim (λ e. inl e) (λ h. inr (subst (λ f. occurs 0 (ren f c) ≡ false) (lift_over (length ps) r) (absent_first (lifted (length ps) r) c h))) u.2,
  subst (λ f. Ready z ps qs (lam p.0 (ren f c))) (lift_over (length ps) r) (ready_renamed z r ps qs (lam p.0 c) u.3),
)
ready_renamed z r [] (q ∷ qs) c u = absurd u
ready_renamed z r (p ∷ ps) [] c u = absurd u

pub ready_back : (z : Assignment) (r : Renumbering) (ps qs : List Place) (c : PlainObject) → Ready z ps qs (ren (lifted (length ps) r) c) → Ready z ps qs c
ready_back z r [] [] c u = tt
ready_back z r (p ∷ ps) (q ∷ qs) c u = (
  u.0,
  u.1,
  ⊎_elim (λ e. inl e) (λ h. inr (not_true (occurs 0 c) (λ o. not_both (first_there o) h))) u.2,
  ready_back z r ps qs (lam p.0 c) (subst (λ f. Ready z ps qs (lam p.0 (ren f c))) (sym (lift_over (length ps) r)) u.3),
)
  where
    first_there : occurs 0 c ≡ true → occurs 0 (ren (lifted (suc (length ps)) r) c) ≡ true
    first_there o = subst (λ f. occurs 0 (ren f c) ≡ true) (lift_over (length ps) r) (subst (λ i. occurs i (ren (lifted 1 (lifted (length ps) r)) c) ≡ true) (lift_first (lifted (length ps) r)) (target (lifted 1 (lifted (length ps) r)) c 0 o))
ready_back z r [] (q ∷ qs) c u = absurd u
ready_back z r (p ∷ ps) [] c u = absurd u

-- Places that fit are ready.
pub ready_fitting : (z y : Assignment) (ps : List Place) (c : PlainObject) (a : SimpleType) → Fitting z ps → Typed false (beneath ps y) c a → Ready z ps ps c
ready_fitting z y [] c a f t = tt
ready_fitting z y (p ∷ ps) c a f t = (refl, refl, ⊎_elim (λ e. inl (e, refl)) (λ h. inr (blank_absent t 0 p.1 refl h)) f.0, ready_fitting z y ps (lam p.0 c) (arrow p.0 p.1 a) f.1 (typed_lam t))

-- the body of lambdas that are typed
pub lams_body : {w : Bool} {y : Assignment} (ps : List Place) {c : PlainObject} {a : SimpleType} → Typed w y (lams ps c) (arrows ps a) → Typed w (beneath ps y) c a
lams_body [] t = t
lams_body (p ∷ ps) t = body_typed (lams_body ps t)

-- The value of a neutral at lambdas, applied to variables.
pub value_on : (s : Environment) → KeepsVariables s → (z : Assignment) (ps qs : List Place) (c : PlainObject) → Ready z ps qs c → (a : SimpleType) → Typed false z (lams ps c) (arrows ps a)
    → (r : PlainNeutral) → HasValue s r (lams ps c) → HasValue s (on qs r) (ren (filled ps) c) × Typed false z (ren (filled ps) c) a
value_on s f z [] [] c g a q r v = (subst (HasValue s r) (sym (identity c)) v, subst (λ o. Typed false z o a) (sym (identity c)) q)
value_on s f z [] (k ∷ qs) c g a q r v = absurd g
value_on s f z (p ∷ ps) [] c g a q r v = absurd g
value_on s f z (p ∷ ps) (k ∷ qs) c g a q r v = let (w, u) = value_on s f z ps qs (lam p.0 c) g.3 (arrow p.0 p.1 a) q r v in
    let (x, y) = placed z p.1 k.1 k.2 (ren (lifted 1 (filled ps)) c) (⊎_elim (λ e. inl e) (λ h. inr (absent_first (filled ps) c h)) g.2) a (body_typed u) in
    (subst (HasValue s (on (k ∷ qs) r)) whole (value_app (subst (λ m. HasValue s (on qs r) (lam m (ren (lifted 1 (filled ps)) c))) g.0 w) (kept_place s f k.1 k.2) x), subst (λ o. Typed false z o a) whole y)
  where
    each : (i : ℕ) → becoming 0 k.2 (lifted 1 (filled ps) i) ≡ filled (p ∷ ps) i
    each zero = ap (becoming 0 k.2) (lift_first (filled ps)) ∙ becoming_first k.2 ∙ sym g.1
    each (suc i) = ap (becoming 0 k.2) (lift_next (filled ps) i) ∙ becoming_next k.2 (filled ps i)

    whole : ren (becoming 0 k.2) (ren (lifted 1 (filled ps)) c) ≡ ren (filled (p ∷ ps)) c
    whole = composed (becoming 0 k.2) (lifted 1 (filled ps)) c ∙ ap (λ f. ren f c) (ext each)

-- Under an instantiation, a metavariable on variables is what its object holds below the lambdas, renumbered.
pub flex_value_of : (n : ℕ) (t : Instantiation) (m : ℕ) (y z : Assignment) (ps qs : List Place) (b : PlainObject) (a : SimpleType)
    → ((h : Head) → z (ren_head (up n) h) ≡ y h) → Ready z ps qs b → t m ≡ Some (lams ps b) → Typed false y (lams ps b) (arrows ps a)
    → Instantiated n t (atomic (on qs (head_alone (Meta m)))) (ren (applied n ps) b)
flex_value_of n t m y z ps qs b a f g e q = through_value (subst (HasValue (under n (instant t)) (on qs (head_alone (Meta m)))) (composed (filled ps) (lifted (length ps) (up n)) b)
    ((value_on (under n (instant t)) (keeps_variables n t) z ps qs (ren (lifted (length ps) (up n)) b) (ready_renamed z (up n) ps qs b g) a
    (subst (λ o. Typed false z o (arrows ps a)) (ren_lams (up n) ps b) (renamed_typed z (up n) q f))
    (head_alone (Meta m)) (value_bare (ap (λ i. ren_image (up n) (image_or (Meta m) i)) e ∙ ap put (ren_lams (up n) ps b)))).0))

-- So it is where all places fit.
pub flex_value : (n : ℕ) (t : Instantiation) (m : ℕ) (y z : Assignment) (ps : List Place) (b : PlainObject) (a : SimpleType)
    → ((h : Head) → z (ren_head (up n) h) ≡ y h) → Fitting z ps → t m ≡ Some (lams ps b) → Typed false y (lams ps b) (arrows ps a)
    → Instantiated n t (atomic (on ps (head_alone (Meta m)))) (ren (applied n ps) b)
flex_value n t m y z ps b a f g e q = flex_value_of n t m y z ps ps b a f (ready_fitting z y ps b a g (lams_body ps q)) e q
