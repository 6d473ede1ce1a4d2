-- What stands at a rigid place stands there after each instantiation.
use Rattle.std.specs.Prelude.{ℕ, Bool, true, false, suc, ◌+◌, ◌≡◌, ◌≤◌, List, Some, refl}
use Rattle.std.proofs.Common.{ap, sym, subst, ◌∙◌, arith}
use Rattle.clf_syntax.specs.declared.tree.Head.{Head}
use Rattle.clf_syntax.specs.declared.tree.Head.TheVariants.{Const, Var, Meta}
use Rattle.clf_syntax.specs.Tree.{PlainObject, pair, atomic, PlainNeutral, head_alone, app, head_of}
use Rattle.clf_syntax.specs.TypeTree.{SimpleType}
use Rattle.clf_syntax.specs.Simple.{Assignment}
use Rattle.clf_syntax.specs.Renaming.{Renumbering, ren_head, ren, up}
use Rattle.clf_syntax.specs.Occurs.{occurs, occurs_neutral}
use Rattle.clf_syntax.proofs.OccursLaws.{or_first, or_second, not_true, not_both, source, own_number}
use Rattle.hered_subst.specs.Substitution.{Image, keep, put, Environment, under, Substituted, through_pair, through_kept, through_value, KeepsHead, kept_bare, kept_app, kept_fst, kept_snd, HasValue, value_bare, value_app, value_fst, value_snd}
use Rattle.hered_subst.proofs.Determined.{determined}
use Rattle.hered_subst.proofs.SimpleTyping.{Typed}
use Rattle.hered_subst.specs.TypedEnvironments.{is_metavariable}
use Rattle.subst_laws.specs.Environments.{Instantiation, instant}
use Rattle.trace_equal.specs.Exchange.{Joined}
use Rattle.pattern_laws.specs.Instantiations.{Instantiated}
use Rattle.pattern_laws.specs.Patterns.{Place, on, lams, arrows, Fitting}
use Rattle.pattern_laws.proofs.Occurrences.{target, absent_joined}
use Rattle.pattern_laws.proofs.Spines.{keeps_variables, applied, body, flex_value, under_instant}
use Rattle.unify_laws.specs.Rigid.{Stands, stands_here, stands_body, stands_left, stands_right, stands_below, StandsBelow, below_argument, below_function, below_fst, below_snd, size, size_neutral}
use Rattle.unify_laws.proofs.Sizes.{size_ren, size_joined}

no_image : {i : Image} {j : Head} {n : PlainObject} → i ≡ keep j → i ≡ put n → ⊥
no_image e f = cc

abbrev pub KeepsOthers : Environment → Type 0
KeepsOthers s = (h : Head) → is_metavariable h ≡ false → s h ≡ keep h

pub keeps_others : (n : ℕ) (t : Instantiation) → KeepsOthers (under n (instant t))
keeps_others n t (Const c) e = refl
keeps_others n t (Var i) e = keeps_variables n t i
keeps_others n t (Meta m) e = absurd (cc)

no_value : {s : Environment} {r : PlainNeutral} {x : PlainObject} → HasValue s r x → KeepsOthers s → is_metavariable (head_of r) ≡ false → ⊥
no_value (value_bare {h = h} e) k f = no_image (k h f) e
no_value (value_app p q w) k f = no_value p k f
no_value (value_fst p) k f = no_value p k f
no_value (value_snd p) k f = no_value p k f

-- A head that is no metavariable is kept.
pub keeps_head : (n : ℕ) (t : Instantiation) {r : PlainNeutral} {x : PlainObject} → is_metavariable (head_of r) ≡ false → Instantiated n t (atomic r) x → (y : PlainNeutral) × (x ≡ atomic y) × KeepsHead (under n (instant t)) r y
keeps_head n t f (through_kept {x = y} p) = (y, refl, p)
keeps_head n t f (through_value p) = absurd (no_value p (keeps_others n t) f)

pub parts : {s : Environment} {l r x : PlainObject} → Substituted s (pair l r) x → (a b : PlainObject) × (x ≡ pair a b) × Substituted s l a × Substituted s r b
parts (through_pair {x = a} {y = b} p q) = (a, b, refl, p, q)

-- what is at the place after the instantiation: it occurs and is counted in the whole
abbrev pub Found : ℕ → Instantiation → ℕ → PlainNeutral → (ℕ → Bool) → ℕ → Type 0
Found n t d q f k = (z : PlainObject) × Instantiated (n + d) t (atomic q) z × ((v : ℕ) → occurs (v + d) z ≡ true → f v ≡ true) × (size z ≤ k)

wider : (n d : ℕ) (t : Instantiation) (q : PlainNeutral) (f g : ℕ → Bool) (k l : ℕ) → ((v : ℕ) → f v ≡ true → g v ≡ true) → k ≤ l → Found n t d q f k → Found n t d q g l
wider n d t q f g k l h j a = (a.0, a.1, (λ v e. h v (a.2 v e)), omega arith)

mutual
  pub rigid : (t : Instantiation) {d : ℕ} {q : PlainNeutral} {o : PlainObject} → Stands d q o → (n : ℕ) (x : PlainObject) → Instantiated n t o x → Found n t d q (λ v. occurs v x) (size x)
  rigid t (stands_here {q = q}) n x p = (x, subst (λ k. Instantiated k t (atomic q) x) (none n) p, (λ v e. subst (λ k. occurs k x ≡ true) (sym (none v)) e), omega arith)
    where
      none : (i : ℕ) → i ≡ i + 0
      none i = omega arith
  rigid t (stands_body {d = d} {q = q} {b = b} s) n x p = let (y, e, c) = body p in
      let (z, i, f, k) = rigid t s (suc n) y (subst (λ u. Substituted u b y) (under_instant n t) c) in
      subst (λ o. Found n t (suc d) q (λ v. occurs v o) (size o)) (sym e)
      (z, subst (λ j. Instantiated j t (atomic q) z) (moved n) i, (λ v h. f (v + 1) (subst (λ j. occurs j z ≡ true) (sym (moved_one v)) h)), omega arith)
    where
      moved : (i : ℕ) → suc i + d ≡ i + suc d
      moved i = omega arith

      moved_one : (i : ℕ) → i + 1 + d ≡ i + suc d
      moved_one i = omega arith
  rigid t (stands_left {d = d} {q = q} s) n x p = let (a, b, e, c, g) = parts p in subst (λ o. Found n t d q (λ v. occurs v o) (size o)) (sym e)
      (wider n d t q (λ v. occurs v a) (λ v. occurs v (pair a b)) (size a) (size (pair a b)) (λ v h. or_first (occurs v a) (occurs v b) h) (omega arith) (rigid t s n a c))
  rigid t (stands_right {d = d} {q = q} s) n x p = let (a, b, e, c, g) = parts p in subst (λ o. Found n t d q (λ v. occurs v o) (size o)) (sym e)
      (wider n d t q (λ v. occurs v b) (λ v. occurs v (pair a b)) (size b) (size (pair a b)) (λ v h. or_second (occurs v a) (occurs v b) h) (omega arith) (rigid t s n b g))
  rigid t (stands_below {d = d} {q = q} f s) n x p = let (y, e, c) = keeps_head n t f p in subst (λ o. Found n t d q (λ v. occurs v o) (size o)) (sym e)
      (wider n d t q (λ v. occurs_neutral v y) (λ v. occurs_neutral v y) (size_neutral y) (suc (size_neutral y)) (λ v h. h) (omega arith) (rigid_below t s n y c))

  pub rigid_below : (t : Instantiation) {d : ℕ} {q r : PlainNeutral} → StandsBelow d q r → (n : ℕ) (y : PlainNeutral) → KeepsHead (under n (instant t)) r y → Found n t d q (λ v. occurs_neutral v y) (size_neutral y)
  rigid_below t {d = d} {q = q} (below_argument s) n y (kept_app {m = m} {x = x} {y = o} p c) = wider n d t q (λ v. occurs v o) (λ v. occurs_neutral v (app m x o)) (size o) (size_neutral (app m x o)) (λ v h. or_second (occurs_neutral v x) (occurs v o) h) (omega arith) (rigid t s n o c)
  rigid_below t {d = d} {q = q} (below_function s) n y (kept_app {m = m} {x = x} {y = o} p c) = wider n d t q (λ v. occurs_neutral v x) (λ v. occurs_neutral v (app m x o)) (size_neutral x) (size_neutral (app m x o)) (λ v h. or_first (occurs_neutral v x) (occurs v o) h) (omega arith) (rigid_below t s n x p)
  rigid_below t {d = d} {q = q} (below_fst s) n y (kept_fst {x = x} p) = wider n d t q (λ v. occurs_neutral v x) (λ v. occurs_neutral v x) (size_neutral x) (suc (size_neutral x)) (λ v h. h) (omega arith) (rigid_below t s n x p)
  rigid_below t {d = d} {q = q} (below_snd s) n y (kept_snd {x = x} p) = wider n d t q (λ v. occurs_neutral v x) (λ v. occurs_neutral v x) (size_neutral x) (suc (size_neutral x)) (λ v h. h) (omega arith) (rigid_below t s n x p)

-- the head of a neutral that is kept
kept_variable : (i : ℕ) {s : Environment} {r y : PlainNeutral} → KeepsHead s r y → KeepsOthers s → head_of r ≡ Var i → occurs_neutral i y ≡ true
kept_variable i {s = s} (kept_bare {h = h} {j = j} e) k f = subst (λ k. occurs_neutral i (head_alone k) ≡ true) (same (ap s (sym f) ∙ e) (k (Var i) refl)) (own_number i)
  where
    same : {a b : Head} {u : Image} → u ≡ keep a → u ≡ keep b → b ≡ a
    same p q = cc
kept_variable i (kept_app {x = x} {y = o} p c) k f = or_first (occurs_neutral i x) (occurs i o) (kept_variable i p k f)
kept_variable i (kept_fst p) k f = kept_variable i p k f
kept_variable i (kept_snd p) k f = kept_variable i p k f

-- A variable that the value of a metavariable on locals does not mention stands in no joined tree.
foreign : (r : Renumbering) (b x : PlainObject) (v : ℕ) → Joined (ren r b) x → ((u : ℕ) → occurs u b ≡ true → r u ≡ v → ⊥) → occurs v x ≡ true → ⊥
foreign r b x v c h e = not_both e (absent_joined v c (not_true (occurs v (ren r b)) (λ d. let (u, p, q) = source r b v d in h u q p)))

-- Clash: a foreign local is a head at a rigid place.
pub foreign_head : (t : Instantiation) (n : ℕ) (r : Renumbering) (b o x : PlainObject) (d v : ℕ) (q : PlainNeutral)
    → Stands d q o → head_of q ≡ Var (v + d) → Instantiated n t o x → ((u : ℕ) → occurs u b ≡ true → r u ≡ v → ⊥) → Joined (ren r b) x → ⊥
foreign_head t n r b o x d v q s e p h c = let (z, i, f, k) = rigid t s n x p in
    foreign r b x v c h (f v (let (y, g, l) = keeps_head (n + d) t (subst (λ j. is_metavariable j ≡ false) (sym e) refl) i in subst (λ w. occurs (v + d) w ≡ true) (sym g) (kept_variable (v + d) l (keeps_others (n + d) t) e)))

-- Clash: the metavariable itself, on variables, at a rigid place below another head.
pub within_itself : (t : Instantiation) (n m : ℕ) (y z : Assignment) (qs : List Place) (b : PlainObject) (a : SimpleType) (d : ℕ) (f : Renumbering) (r : PlainNeutral) (v w : PlainObject)
    → v ≡ ren f b → ((h : Head) → z (ren_head (up (n + d)) h) ≡ y h) → Fitting z qs → t m ≡ Some (lams qs b) → Typed false y (lams qs b) (arrows qs a)
    → is_metavariable (head_of r) ≡ false → StandsBelow d (on qs (head_alone (Meta m))) r → Instantiated n t (atomic r) w → Joined v w → ⊥
within_itself t n m y z qs b a d f r v w e o g h p i s iw c =
    let (x, k, l) = keeps_head n t i iw in
    let (u, j, _, q) = rigid_below t s n x l in
    too_big (size_joined c) (ap size e ∙ size_ren f b) (ap size (determined j (flex_value (n + d) t m y z qs b a o g h p)) ∙ size_ren (applied (n + d) qs) b) (ap size k) q
  where
    too_big : {sv sw sb su sx : ℕ} → sv ≡ sw → sv ≡ sb → su ≡ sb → sw ≡ suc sx → su ≤ sx → ⊥
    too_big p q r s h = omega arith

-- Pruning: where a foreign local is the argument at a place of a metavariable on locals at a rigid place, the object of that metavariable does not mention this argument.
pub foreign_argument : (t : Instantiation) (n k : ℕ) (y z : Assignment) (r : Renumbering) (b c o x : PlainObject) (qs : List Place) (a : SimpleType) (d u v : ℕ)
    → ((h : Head) → z (ren_head (up (n + d)) h) ≡ y h) → Fitting z qs → t k ≡ Some (lams qs c) → Typed false y (lams qs c) (arrows qs a)
    → Stands d (on qs (head_alone (Meta k))) o → applied (n + d) qs u ≡ v + d
    → Instantiated n t o x → Joined (ren r b) x → ((u : ℕ) → occurs u b ≡ true → r u ≡ v → ⊥)
    → occurs u c ≡ false
foreign_argument t n k y z r b c o x qs a d u v f g e q s i p j h = let (w, l, m, _) = rigid t s n x p in
    not_true (occurs u c) (λ oc. foreign r b x v j h (m v
    (subst (λ o. occurs (v + d) o ≡ true) (determined (flex_value (n + d) t k y z qs c a f g e q) l) (subst (λ h. occurs h (ren (applied (n + d) qs) c) ≡ true) i (target (applied (n + d) qs) c u oc)))))
