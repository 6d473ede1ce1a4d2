-- The renaming of distinct places and its inverse.
use Rattle.std.specs.Prelude.{ℕ, Bool, true, false, zero, suc, ◌+◌, ◌-◌, ◌≡◌, ◌<◌, ◌≤◌, ◌⊎◌, nat_eq, if◌then◌else◌, List, [], ◌∷◌, length, Some, None, refl}
use Rattle.std.proofs.Common.{ap, sym, subst, ◌∙◌, arith, inl, inr, ⊎_elim}
use Rattle.clf_syntax.specs.declared.tree.Mode.{Mode}
use Rattle.clf_syntax.specs.declared.tree.Head.TheVariants.{Var}
use Rattle.clf_syntax.specs.Tree.{PlainObject, lam}
use Rattle.clf_syntax.specs.TypeTree.{SimpleType, arrow}
use Rattle.clf_syntax.specs.Simple.{Assignment, extended}
use Rattle.clf_syntax.specs.Renaming.{up}
use Rattle.clf_syntax.specs.Occurs.{occurs}
use Rattle.clf_syntax.proofs.RenamingLaws.{lift_in, cut}
use Rattle.clf_syntax.proofs.OccursLaws.{not_both}
use Rattle.hered_subst.proofs.SimpleTyping.{Typed, typed_lam}
use Rattle.trace_equal.specs.Exchange.{Joined}
use Rattle.joined_laws.proofs.Respect.{bodies}
use Rattle.pattern_laws.specs.Patterns.{Place, lams, arrows, filled, Fitting, blank, local_at, Distinct, inverse, beneath, SameTypes}
use Rattle.pattern_laws.proofs.Spines.{applied, applied_past}
use Rattle.pattern_laws.proofs.Typings.{blank_absent}

some_one : {v w : ℕ} → Some v ≡ Some w → v ≡ w
some_one e = cc

-- what the first place tells
shown : (b : Bool) (x v : ℕ) → (if b then None else Some x) ≡ Some v → (b ≡ false) × (x ≡ v)
shown true x v e = absurd (cc)
shown false x v e = (refl, some_one e)

own : (i : ℕ) → nat_eq i i ≡ true
own i = grind arith

same_number : (i v : ℕ) → nat_eq i v ≡ true → i ≡ v
same_number i v e = grind arith

pub local_within : (ps : List Place) (i v : ℕ) → local_at ps i ≡ Some v → i < length ps
local_within [] i v e = absurd (cc)
local_within (p ∷ ps) zero v e = omega arith
local_within (p ∷ ps) (suc i) v e = let h = local_within ps i v e in omega arith

pub local_filled : (ps : List Place) (i v : ℕ) → local_at ps i ≡ Some v → filled ps i ≡ v
local_filled [] i v e = absurd (cc)
local_filled (p ∷ ps) zero v e = (shown (blank p.1) p.2 v e).1
local_filled (p ∷ ps) (suc i) v e = local_filled ps i v e

cases_of : (b : Bool) → (b ≡ true) ⊎ (b ≡ false)
cases_of true = inl refl
cases_of false = inr refl

at_true : {b : Bool} (x y : ℕ) → b ≡ true → (if b then x else y) ≡ x
at_true x y e = rw e refl

at_false : {b : Bool} (x y : ℕ) → b ≡ false → (if b then x else y) ≡ y
at_false x y e = rw e refl

tested : (b : Bool) (x j : ℕ) → (if b then false else nat_eq x j) ≡ true → (b ≡ false) × (x ≡ j)
tested true x j e = absurd (cc)
tested false x j e = (refl, same_number x j e)

untested : (b : Bool) (x j : ℕ) → (if b then None else Some x) ≡ Some j → (if b then false else nat_eq x j) ≡ true
untested true x j e = absurd (cc)
untested false x j e = subst (λ k. nat_eq x k ≡ true) (some_one e) (own x)

at_place : {b : Bool} {x : ℕ} → b ≡ false → (if b then None else Some x) ≡ Some x
at_place e = rw e refl

-- A variable that stands at some place stands at the place that the inverse gives.
pub inverse_there : (n : ℕ) (ps : List Place) (i j : ℕ) → local_at ps i ≡ Some j → local_at ps (inverse n ps j) ≡ Some j
inverse_there n [] i j e = absurd (cc)
inverse_there n (p ∷ ps) i j e = ⊎_elim
    (λ h. subst (λ k. local_at (p ∷ ps) k ≡ Some j) (sym (at_true 0 (suc (inverse n ps j)) h)) (let (f, g) = tested (blank p.1) p.2 j h in at_place f ∙ ap (λ v. Some v) g))
    (λ h. subst (λ k. local_at (p ∷ ps) k ≡ Some j) (sym (at_false 0 (suc (inverse n ps j)) h)) (later (λ i. inverse_there n ps i j) i e h))
    (cases_of (if blank p.1 then false else nat_eq p.2 j))
  where
    later : ((i : ℕ) → local_at ps i ≡ Some j → local_at ps (inverse n ps j) ≡ Some j) → (i : ℕ) → local_at (p ∷ ps) i ≡ Some j → (if blank p.1 then false else nat_eq p.2 j) ≡ false → local_at ps (inverse n ps j) ≡ Some j
    later g zero e h = absurd (not_both (untested (blank p.1) p.2 j e) h)
    later g (suc i) e h = g i e

pub inverse_at : (n : ℕ) (ps : List Place) → Distinct ps → (i j : ℕ) → local_at ps i ≡ Some j → inverse n ps j ≡ i
inverse_at n ps d i j e = d (inverse n ps j) i j (inverse_there n ps i j e) e

-- the places have locals
abbrev pub Within : ℕ → List Place → Type 0
Within n ps = (i v : ℕ) → local_at ps i ≡ Some v → v < n

pub inverse_past : (n : ℕ) (ps : List Place) → Within n ps → (i : ℕ) → inverse n ps (i + n) ≡ i + length ps
inverse_past n [] w i = omega arith
inverse_past n (p ∷ ps) w i = at_false 0 (suc (inverse n ps (i + n))) (no (cases_of (if blank p.1 then false else nat_eq p.2 (i + n)))) ∙ ap suc (inverse_past n ps (λ k v e. w (suc k) v e) i) ∙ sum (length ps)
  where
    sum : (k : ℕ) → suc (i + k) ≡ i + suc k
    sum k = omega arith

    far : (if blank p.1 then false else nat_eq p.2 (i + n)) ≡ true → ⊥
    far h = let (f, g) = tested (blank p.1) p.2 (i + n) h in let k : i + n < n = w 0 (i + n) (at_place f ∙ ap (λ v. Some v) g) in omega arith

    no : ((if blank p.1 then false else nat_eq p.2 (i + n)) ≡ true) ⊎ ((if blank p.1 then false else nat_eq p.2 (i + n)) ≡ false) → (if blank p.1 then false else nat_eq p.2 (i + n)) ≡ false
    no c = ⊎_elim (λ h. absurd (far h)) (λ h. h) c

pub applied_local : (n : ℕ) (ps : List Place) (i v : ℕ) → local_at ps i ≡ Some v → applied n ps i ≡ v
applied_local n ps i v e = ap (filled ps) (lift_in (length ps) (up n) i (local_within ps i v e)) ∙ local_filled ps i v e

-- from a variable of the places to its place and back
pub applied_inverse : (n : ℕ) (ps : List Place) (i j : ℕ) → local_at ps i ≡ Some j → applied n ps (inverse n ps j) ≡ j
applied_inverse n ps i j e = applied_local n ps (inverse n ps j) j (inverse_there n ps i j e)

-- a place has a local, or the variable of its lambda has a blank type
pub place_cases : (ps : List Place) (y : Assignment) (i : ℕ) → i < length ps → (local_at ps i ≡ Some (filled ps i)) ⊎ ((u : SimpleType) × (beneath ps y (Var i) ≡ Some u) × (blank u ≡ true))
place_cases [] y i h = absurd (omega arith)
place_cases (p ∷ ps) y zero h = ⊎_elim (λ e. inr (p.1, refl, e)) (λ e. inl (at_place e)) (cases_of (blank p.1))
place_cases (p ∷ ps) y (suc i) h = place_cases ps y i (omega arith)

-- from a variable below the lambdas to the scope of the places and back
pub inverse_applied : (n : ℕ) (ps : List Place) → Distinct ps → Within n ps → (y : Assignment) (b : PlainObject) (a : SimpleType) → Typed false (beneath ps y) b a → (i : ℕ) → occurs i b ≡ true → inverse n ps (applied n ps i) ≡ i
inverse_applied n ps d w y b a t i e = ⊎_elim
    (λ h. ap (inverse n ps) (ap (filled ps) (lift_in (length ps) (up n) i h)) ∙ ⊎_elim (λ l. inverse_at n ps d i (filled ps i) l) (λ u. absurd (not_both e (blank_absent t i u.0 u.1 u.2))) (place_cases ps y i h))
    (λ h. subst (λ j. inverse n ps (applied n ps j) ≡ j) (back h) (ap (inverse n ps) (applied_past n ps (i - length ps)) ∙ inverse_past n ps w (i - length ps)))
    (cut i (length ps))
  where
    back : length ps ≤ i → i - length ps + length ps ≡ i
    back h = omega arith

of_arrow : {w : Bool} {g : Assignment} {o : PlainObject} {m : Mode} {d c : SimpleType} → Typed w g o (arrow m d c) → (b : PlainObject) × (o ≡ lam m b) × Typed w (extended d g) b c
of_arrow (typed_lam {b = b} p) = (b, refl, p)

-- An object of a type of functions is made of lambdas.
pub typed_lams : {w : Bool} {y : Assignment} (ps : List Place) {o : PlainObject} {a : SimpleType} → Typed w y o (arrows ps a) → (b : PlainObject) × (o ≡ lams ps b) × Typed w (beneath ps y) b a
typed_lams [] {o = o} p = (o, refl, p)
typed_lams (p ∷ ps) q = let (c, e, t) = typed_lams ps q in let (b, f, u) = of_arrow t in (b, e ∙ ap (lams ps) f, u)

pub lams_typed : {w : Bool} {y : Assignment} (ps : List Place) {b : PlainObject} {a : SimpleType} → Typed w (beneath ps y) b a → Typed w y (lams ps b) (arrows ps a)
lams_typed [] p = p
lams_typed (q ∷ ps) p = lams_typed ps (typed_lam p)

pub joined_bodies : (ps : List Place) {b c : PlainObject} → Joined (lams ps b) (lams ps c) → Joined b c
joined_bodies [] c = c
joined_bodies (p ∷ ps) c = bodies (joined_bodies ps c)

-- the variable of a place has the type of the place
pub fitting_at : (z : Assignment) (ps : List Place) → Fitting z ps → (y : Assignment) (i v : ℕ) → local_at ps i ≡ Some v → z (Var v) ≡ beneath ps y (Var i)
fitting_at z [] f y i v e = absurd (cc)
fitting_at z (p ∷ ps) f y zero v e = let (g, h) = shown (blank p.1) p.2 v e in subst (λ k. z (Var k) ≡ Some p.1) h (⊎_elim (λ k. k) (λ k. absurd (not_both k g)) f.0)
fitting_at z (p ∷ ps) f y (suc i) v e = fitting_at z ps f.1 y i v e

-- What lies below the lambdas does not go to a local without a place.
pub not_applied : (n : ℕ) (ps : List Place) (y : Assignment) (b : PlainObject) (a : SimpleType) → Typed false (beneath ps y) b a → (v : ℕ) → v < n → ((i : ℕ) → local_at ps i ≡ Some v → ⊥) → (u : ℕ) → occurs u b ≡ true → applied n ps u ≡ v → ⊥
not_applied n ps y b a t v h f u e g = ⊎_elim
    (λ k. ⊎_elim (λ l. f u (l ∙ ap (λ v. Some v) (sym (ap (filled ps) (lift_in (length ps) (up n) u k)) ∙ g))) (λ l. not_both e (blank_absent t u l.0 l.1 l.2)) (place_cases ps y u k))
    (λ k. far (sym (applied_past n ps (u - length ps)) ∙ ap (applied n ps) (back k) ∙ g))
    (cut u (length ps))
  where
    back : length ps ≤ u → u - length ps + length ps ≡ u
    back k = omega arith

    far : u - length ps + n ≡ v → ⊥
    far k = omega arith

-- A variable below the lambdas that goes to a local of the list stands at its place.
pub applied_back : (n : ℕ) (ps : List Place) (y : Assignment) (b : PlainObject) (a : SimpleType) → Typed false (beneath ps y) b a → Distinct ps → (i v : ℕ) → v < n → local_at ps i ≡ Some v → (u : ℕ) → occurs u b ≡ true → applied n ps u ≡ v → u ≡ i
applied_back n ps y b a t d i v h f u e g = ⊎_elim
    (λ k. ⊎_elim (λ l. d u i v (l ∙ ap (λ v. Some v) (sym (ap (filled ps) (lift_in (length ps) (up n) u k)) ∙ g)) f) (λ l. absurd (not_both e (blank_absent t u l.0 l.1 l.2))) (place_cases ps y u k))
    (λ k. absurd (far (sym (applied_past n ps (u - length ps)) ∙ ap (applied n ps) (back k) ∙ g)))
    (cut u (length ps))
  where
    back : length ps ≤ u → u - length ps + length ps ≡ u
    back k = omega arith

    far : u - length ps + n ≡ v → ⊥
    far k = omega arith

pub same_length : (ps zs : List Place) → SameTypes ps zs → length ps ≡ length zs
same_length [] [] s = refl
same_length (p ∷ ps) (q ∷ zs) s = ap suc (same_length ps zs s.2)
same_length [] (q ∷ zs) s = absurd s
same_length (p ∷ ps) [] s = absurd s

pub same_lams : (ps zs : List Place) → SameTypes ps zs → (b : PlainObject) → lams ps b ≡ lams zs b
same_lams [] [] s b = refl
same_lams (p ∷ ps) (q ∷ zs) s b = same_lams ps zs s.2 (lam p.0 b) ∙ ap (λ m. lams zs (lam m b)) s.0
same_lams [] (q ∷ zs) s b = absurd s
same_lams (p ∷ ps) [] s b = absurd s

pub same_beneath : (ps zs : List Place) → SameTypes ps zs → (y : Assignment) → beneath ps y ≡ beneath zs y
same_beneath [] [] s y = refl
same_beneath (p ∷ ps) (q ∷ zs) s y = ap (extended p.1) (same_beneath ps zs s.2 y) ∙ ap (λ c. extended c (beneath zs y)) s.1
same_beneath [] (q ∷ zs) s y = absurd s
same_beneath (p ∷ ps) [] s y = absurd s
