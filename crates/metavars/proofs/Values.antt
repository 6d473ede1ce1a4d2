-- Values under eliminations and in front of steps, which fit where types type them; and how a refusal is passed on.
use Rattle.std.specs.Prelude.{ℕ, zero, suc, true, ◌≡◌, ◌≢◌, List, length, map, Result, Ok, Err, IfOk, refl}
use Rattle.std.proofs.Common.{ap, sym, subst, ◌∙◌, arith, ⊎_elim, add-one}
use Rattle.std.specs.Result.{IsErrAnd}
use Rattle.clf_syntax.specs.declared.fault.OrWide.{OrWide}
use Rattle.clf_syntax.specs.declared.fault.OrWide.TheVariants.{Fault, NoMemory as WantsMemory, TooFar as PassesFar}
use Rattle.clf_syntax.specs.declared.tree.Mode.{Mode}
use Rattle.clf_syntax.specs.declared.tree.Head.{Head}
use Rattle.clf_syntax.specs.declared.tree.Head.TheVariants.{Const, Var, Meta}
use Rattle.clf_syntax.specs.declared.tree.Obj.{Obj}
use Rattle.clf_syntax.specs.declared.tree.Expr.{Expr}
use Rattle.clf_syntax.specs.declared.tree.SimpleEntry.{SimpleEntry}
use Rattle.clf_syntax.specs.Plain.{plain_obj, plain_expr}
use Rattle.clf_syntax.specs.PlainSimple.{plain_simple_entry, simple_telescope_of}
use Rattle.clf_syntax.specs.Tree.{PlainObject, lam, pair, unit, monadic, atomic, hole, PlainNeutral, PlainExpression, head_of}
use Rattle.clf_syntax.specs.TypeTree.{SimpleType, base, arrow, simple_with, simple_top, lax, SimpleTelescope}
use Rattle.clf_syntax.specs.Simple.{Assignment, extended, extended_by, simple_modes, no_holes, MayStand, SimplyTyped, SimplyTypedExpression}
use Rattle.clf_syntax.proofs.RenamingLaws.{ext}
use Rattle.hered_subst.specs.Substitution.{single, Substituted, Flattened}
use Rattle.hered_subst.specs.Laws.{inserted}
use Rattle.hered_subst.proofs.TypedEnvironments.{inserted_high}
use Rattle.hered_put.specs.declared.fault.PutFault.{PutFault}
use Rattle.hered_put.specs.declared.fault.PutFault.TheVariants.{Untyped, TooFar, NoMemory}
use Rattle.hered_put.specs.Answers.{Keeps}
use Rattle.hered_put.proofs.Called.{entries-length}
use Rattle.metavars.specs.declared.instance.Untyped.{Untyped as IsUntyped}
use Rattle.metavars.specs.Typed.{Keeps as TypedKeeps}
use Rattle.metavars.specs.Outcomes.{Refuses, Gives, IsFaultOf, Applied, NotApplied, AppliedAt, NotAppliedAt, NoPair, IsNoPair, flat_in_front, meta_in_front, MetaInFront, NoMeta, Front, NotFront, Flat, NotFlat}

-- ---- refusals

pub refuses-more : (F G : Type 0) (fault : PutFault) → (F → G) → Refuses F fault → Refuses G fault
refuses-more F G Untyped f h = f h
refuses-more F G TooFar f h = tt
refuses-more F G NoMemory f h = tt

-- a refusal that is passed on, at the exit of a `?`
pub refused-by : {X : Type 0} (F G : Type 0) (P : X → Type 0) (r : Result X PutFault) (fault : PutFault) → IsErrAnd r (λ y. y ≡ fault) → (F → G) → Refuses F fault → Gives G P r
refused-by F G P (Ok x) fault i f h = absurd i
refused-by F G P (Err y) fault i f h = refuses-more F G y f (subst (Refuses F) (sym i) h)

-- an answer that is passed on
pub gives-more : {X : Type 0} (F G : Type 0) (P Q : X → Type 0) (r : Result X PutFault) → (F → G) → ((x : X) → P x → Q x) → Gives F P r → Gives G Q r
gives-more F G P Q (Ok x) f g h = g x h
gives-more F G P Q (Err fault) f g h = refuses-more F G fault f h

-- the fault that is answered for a refusal
pub kept-fault : {X : Type 0} (F : Type 0) (P : X → Type 0) (fault : PutFault) (f : OrWide IsUntyped) → Refuses F fault → IsFaultOf fault f → (F → ⊥) → TypedKeeps {X = X} (Err f) P
kept-fault F P Untyped (Fault u) h i n = n h
kept-fault F P Untyped WantsMemory h i n = tt
kept-fault F P Untyped (PassesFar w) h i n = tt
kept-fault F P TooFar (Fault u) h i n = absurd i
kept-fault F P TooFar WantsMemory h i n = tt
kept-fault F P TooFar (PassesFar w) h i n = tt
kept-fault F P NoMemory (Fault u) h i n = absurd i
kept-fault F P NoMemory WantsMemory h i n = tt
kept-fault F P NoMemory (PassesFar w) h i n = tt

-- ---- what stands at which type

no_function : (n : PlainNeutral) (m : Mode) (d c : SimpleType) → MayStand (no_holes true) n (arrow m d c) → ⊥
no_function n m d c s = ⊎_elim (λ h. let e : arrow m d c ≡ base h.0 = h.1 in absurd (cc)) (λ h. let e : arrow m d c ≡ lax h.1 = h.3 in absurd (cc)) s

no_both : (n : PlainNeutral) (c d : SimpleType) → MayStand (no_holes true) n (simple_with c d) → ⊥
no_both n c d s = ⊎_elim (λ h. let e : simple_with c d ≡ base h.0 = h.1 in absurd (cc)) (λ h. let e : simple_with c d ≡ lax h.1 = h.3 in absurd (cc)) s

meta_at : (n : PlainNeutral) (ts : SimpleTelescope) → MayStand (no_holes true) n (lax ts) → (k : ℕ) × (head_of n ≡ Meta k)
meta_at n ts s = ⊎_elim (λ h. let e : lax ts ≡ base h.0 = h.1 in absurd (cc)) (λ h. (h.0, h.2)) s

-- ---- arguments

newest : (a : SimpleType) (z : Assignment) → extended a z ≡ inserted 0 a z
newest a z = ext (λ h. at_head h)
  where
    at_head : (h : Head) → extended a z h ≡ inserted 0 a z h
    at_head (Const c) = refl
    at_head (Meta m) = refl
    at_head (Var zero) = refl
    at_head (Var (suc i)) = sym (ap (λ j. inserted 0 a z (Var j)) (sym (add-one i)) ∙ inserted_high 0 a z i (omega arith))

-- the body of a typed lambda
body : (z : Assignment) (m : Mode) (d c : SimpleType) (f b : PlainObject) → f ≡ lam m b → SimplyTyped z f (arrow m d c) → SimplyTyped (inserted 0 d z) b c
body z m d c f b e p = let (k, l, i, q) = subst (λ o. SimplyTyped z o (arrow m d c)) e p in
    subst (λ g. SimplyTyped g b c) (newest d z) (subst (λ a. SimplyTyped (extended a z) b c) (domains i) (subst (λ a. SimplyTyped (extended k z) b a) (codomains i) q))
  where
    domains : {k l : SimpleType} → arrow m d c ≡ arrow m k l → k ≡ d
    domains i = cc

    codomains : {k l : SimpleType} → arrow m d c ≡ arrow m k l → l ≡ c
    codomains i = cc

module _ (m : Mode) (d : SimpleType) (y : PlainObject) where
  pub put-applied : (f b : PlainObject) (r : Result Obj PutFault) → f ≡ lam m b → IfOk r (λ x. Substituted (single y 0) b (plain_obj x))
      → ((z : Assignment) → SimplyTyped z y d → (t : SimpleType) → SimplyTyped (inserted 0 d z) b t → Keeps r (λ x. SimplyTyped z (plain_obj x) t))
      → Gives (NotAppliedAt m d f y) (λ x. AppliedAt m d f y (plain_obj x)) r
  unfolding AppliedAt NotAppliedAt
  put-applied f b (Ok x) e q k = ((b, e, q), (λ z c p w. k z w c (body z m d c f b e p)))
  put-applied f b (Err Untyped) e q k = λ z c p w. k z w c (body z m d c f b e p)
  put-applied f b (Err TooFar) e q k = tt
  put-applied f b (Err NoMemory) e q k = tt

  pub other-mode : (k : Mode) (b : PlainObject) → m ≢ k → NotAppliedAt m d (lam k b) y
  unfolding NotAppliedAt
  other-mode k b n z c p w = let (i, j, e, q) = p in n (modes e)
    where
      modes : {c i j : SimpleType} → arrow m d c ≡ arrow k i j → m ≡ k
      modes e = cc

  pub at-pair : (l r : PlainObject) → NotAppliedAt m d (pair l r) y
  unfolding NotAppliedAt
  at-pair l r z c p w = let (i, j, e, q, u) = p in absurd (cc)

  pub at-unit : NotAppliedAt m d unit y
  unfolding NotAppliedAt
  at-unit z c p w = absurd (cc)

  pub at-monadic : (e : PlainExpression) → NotAppliedAt m d (monadic e) y
  unfolding NotAppliedAt
  at-monadic x z c p w = let (s, e, q) = p in absurd (cc)

  pub at-atomic : (n : PlainNeutral) → NotAppliedAt m d (atomic n) y
  unfolding NotAppliedAt
  at-atomic n z c p w = no_function n m d c p.0

  pub at-hole : NotAppliedAt m d hole y
  unfolding NotAppliedAt
  at-hole z c p w = absurd (cc)

  pub at-domain : (k : Mode) (c : SimpleType) (f x : PlainObject) → AppliedAt m d f y x → Applied m (f, arrow k d c) y (x, c)
  unfolding AppliedAt Applied
  at-domain k c f x h = (h.0, (λ z i j e p w. (codomains e, subst (SimplyTyped z x) (codomains e) (h.1 z c (subst (λ a. SimplyTyped z f a) (sym (functions e)) p) (subst (SimplyTyped z y) (sym (domains e)) w)))))
    where
      domains : {i j : SimpleType} → arrow k d c ≡ arrow m i j → d ≡ i
      domains e = cc

      codomains : {i j : SimpleType} → arrow k d c ≡ arrow m i j → c ≡ j
      codomains e = cc

      functions : {i j : SimpleType} → arrow k d c ≡ arrow m i j → arrow m d c ≡ arrow m i j
      functions e = cc

  pub not-at-domain : (k : Mode) (c : SimpleType) (f : PlainObject) → NotAppliedAt m d f y → NotApplied m (f, arrow k d c) y
  unfolding NotAppliedAt NotApplied
  not-at-domain k c f h z i j e p w = h z c (subst (λ a. SimplyTyped z f a) (sym (functions e)) p) (subst (SimplyTyped z y) (sym (domains e)) w)
    where
      domains : {i j : SimpleType} → arrow k d c ≡ arrow m i j → d ≡ i
      domains e = cc

      functions : {i j : SimpleType} → arrow k d c ≡ arrow m i j → arrow m d c ≡ arrow m i j
      functions e = cc

module _ (m : Mode) (f y : PlainObject) where
  pub of-base : (a : ℕ) → NotApplied m (f, base a) y
  unfolding NotApplied
  of-base a z d c e p w = absurd (cc)

  pub of-both : (a b : SimpleType) → NotApplied m (f, simple_with a b) y
  unfolding NotApplied
  of-both a b z d c e p w = absurd (cc)

  pub of-top : NotApplied m (f, simple_top) y
  unfolding NotApplied
  of-top z d c e p w = absurd (cc)

  pub of-lax : (ts : SimpleTelescope) → NotApplied m (f, lax ts) y
  unfolding NotApplied
  of-lax ts z d c e p w = absurd (cc)

pub ruleset applied_laws = (other-mode, at-pair, at-unit, at-monadic, at-atomic, at-hole, of-base, of-both, of-top, of-lax)

-- ---- pairs

pub lam-no-pair : (m : Mode) (b : PlainObject) → IsNoPair (lam m b)
unfolding IsNoPair
lam-no-pair m b l r e = absurd (cc)

pub unit-no-pair : IsNoPair unit
unfolding IsNoPair
unit-no-pair l r e = absurd (cc)

pub monadic-no-pair : (x : PlainExpression) → IsNoPair (monadic x)
unfolding IsNoPair
monadic-no-pair x l r e = absurd (cc)

pub atomic-no-pair : (n : PlainNeutral) → IsNoPair (atomic n)
unfolding IsNoPair
atomic-no-pair n l r e = absurd (cc)

pub hole-no-pair : IsNoPair hole
unfolding IsNoPair
hole-no-pair l r e = absurd (cc)

module _ (f : PlainObject) where
  pub base-no-pair : (a : ℕ) → NoPair (f, base a)
  unfolding NoPair
  base-no-pair a z c d e p = absurd (cc)

  pub function-no-pair : (m : Mode) (a b : SimpleType) → NoPair (f, arrow m a b)
  unfolding NoPair
  function-no-pair m a b z c d e p = absurd (cc)

  pub top-no-pair : NoPair (f, simple_top)
  unfolding NoPair
  top-no-pair z c d e p = absurd (cc)

  pub lax-no-pair : (ts : SimpleTelescope) → NoPair (f, lax ts)
  unfolding NoPair
  lax-no-pair ts z c d e p = absurd (cc)

pub ruleset pair_laws = (lam-no-pair, unit-no-pair, monadic-no-pair, atomic-no-pair, hole-no-pair, base-no-pair, function-no-pair, top-no-pair, lax-no-pair)

-- an object of a product is a pair
pair_of_typed : (z : Assignment) (c d : SimpleType) (f : PlainObject) → SimplyTyped z f (simple_with c d) → (l r : PlainObject) × (f ≡ pair l r)
pair_of_typed z c d (pair l r) p = (l, r, refl)
pair_of_typed z c d (lam m b) p = let (i, j, e, q) = p in absurd (cc)
pair_of_typed z c d unit p = absurd (cc)
pair_of_typed z c d (monadic x) p = let (s, e, q) = p in absurd (cc)
pair_of_typed z c d (atomic n) p = absurd (no_both n c d p.0)
pair_of_typed z c d hole p = absurd (cc)

pub other-no-pair : (f : PlainObject) (t : SimpleType) → IsNoPair f → NoPair (f, t)
unfolding IsNoPair NoPair
other-no-pair f t h z c d e p = let (l, r, q) = pair_of_typed z c d f p in h l r q

-- ---- in front of steps

lax_same : {ts us : SimpleTelescope} → lax ts ≡ lax us → ts ≡ us
lax_same e = cc

module _ (ms : List Mode) (e : PlainExpression) where
  pub flat-front : (g : PlainExpression) (t : SimpleType) (x : PlainExpression) → Flat ms g t e x → Front ms (monadic g, t) e x
  unfolding Flat Front
  flat-front g t x h = (flat_in_front h.0, (λ z ts us i j p q. let (s, k, w) = p in h.1 z ts us i j (subst (SimplyTypedExpression z g) (sym (lax_same k)) w) q))

  pub flat-not_front : (g : PlainExpression) (t : SimpleType) → NotFlat ms g t e → NotFront ms (monadic g, t) e
  unfolding NotFlat NotFront
  flat-not_front g t h z ts us i j p q = let (s, k, w) = p in h z ts us i j (subst (SimplyTypedExpression z g) (sym (lax_same k)) w) q

  pub meta-front : (n : PlainNeutral) (t : SimpleType) (x : PlainExpression) → MetaInFront ms n e x → Front ms (atomic n, t) e x
  unfolding Front
  meta-front n t x (m, h, k) = subst (λ y. Front ms (atomic n, t) e y) (sym k) (meta_in_front h, (λ z ts us i j p q. (ts, p.1, j, q)))

  pub meta-not_front : (n : PlainNeutral) (t : SimpleType) → NoMeta n → NotFront ms (atomic n, t) e
  unfolding NoMeta NotFront
  meta-not_front n t h z ts us i j p q = let (k, l) = meta_at n ts p.0 in h k l

  pub lam-not_front : (m : Mode) (b : PlainObject) (t : SimpleType) → NotFront ms (lam m b, t) e
  unfolding NotFront
  lam-not_front m b t z ts us i j p q = let (d, c, k, w) = p in absurd (cc)

  pub pair-not_front : (l r : PlainObject) (t : SimpleType) → NotFront ms (pair l r, t) e
  unfolding NotFront
  pair-not_front l r t z ts us i j p q = let (d, c, k, w, u) = p in absurd (cc)

  pub unit-not_front : (t : SimpleType) → NotFront ms (unit, t) e
  unfolding NotFront
  unit-not_front t z ts us i j p q = absurd (cc)

  pub hole-not_front : (t : SimpleType) → NotFront ms (hole, t) e
  unfolding NotFront
  hole-not_front t z ts us i j p q = absurd (cc)

  module _ (g : PlainExpression) where
    pub base-not_flat : (a : ℕ) → NotFlat ms g (base a) e
    unfolding NotFlat
    base-not_flat a z ts us i j p q = absurd (cc)

    pub function-not_flat : (m : Mode) (a b : SimpleType) → NotFlat ms g (arrow m a b) e
    unfolding NotFlat
    function-not_flat m a b z ts us i j p q = absurd (cc)

    pub both-not_flat : (a b : SimpleType) → NotFlat ms g (simple_with a b) e
    unfolding NotFlat
    both-not_flat a b z ts us i j p q = absurd (cc)

    pub top-not_flat : NotFlat ms g simple_top e
    unfolding NotFlat
    top-not_flat z ts us i j p q = absurd (cc)

    -- another number of variables than the monad's entries
    pub other-not_flat : (es : List SimpleEntry) → length es ≢ length ms → NotFlat ms g (lax (simple_telescope_of (map plain_simple_entry es))) e
    unfolding NotFlat
    other-not_flat es n z ts us i j p q = n (sym (entries-length es) ∙ ap (λ u. length (simple_modes u)) (lax_same i) ∙ ap length j)

    pub kept-flat : (es : List SimpleEntry) (x : PlainExpression) → Flattened (length ms) g e x
        → ((z : Assignment) (us : SimpleTelescope) → SimplyTypedExpression z g (simple_telescope_of (map plain_simple_entry es)) → SimplyTypedExpression (extended_by (simple_telescope_of (map plain_simple_entry es)) z) e us → SimplyTypedExpression z x us)
        → Flat ms g (lax (simple_telescope_of (map plain_simple_entry es))) e x
    unfolding Flat
    kept-flat es x h k = (h, (λ z ts us i j p q. k z us (subst (SimplyTypedExpression z g) (sym (lax_same i)) p) (subst (λ u. SimplyTypedExpression (extended_by u z) e us) (sym (lax_same i)) q)))

    pub kept-refuses : (es : List SimpleEntry) (fault : PutFault)
        → ((z : Assignment) (us : SimpleTelescope) → SimplyTypedExpression z g (simple_telescope_of (map plain_simple_entry es)) → SimplyTypedExpression (extended_by (simple_telescope_of (map plain_simple_entry es)) z) e us → Keeps {X = Expr} (Err fault) (λ x. SimplyTypedExpression z (plain_expr x) us))
        → Refuses (NotFlat ms g (lax (simple_telescope_of (map plain_simple_entry es))) e) fault
    unfolding NotFlat
    kept-refuses es Untyped k = λ z ts us i j p q. k z us (subst (SimplyTypedExpression z g) (sym (lax_same i)) p) (subst (λ u. SimplyTypedExpression (extended_by u z) e us) (sym (lax_same i)) q)
    kept-refuses es TooFar k = tt
    kept-refuses es NoMemory k = tt

pub ruleset front_laws = (lam-not_front, pair-not_front, unit-not_front, hole-not_front)

pub ruleset flat_laws = (base-not_flat, function-not_flat, both-not_flat, top-not_flat)

pub const-no_meta : (n : PlainNeutral) (c : ℕ) → head_of n ≡ Const c → NoMeta n
unfolding NoMeta
const-no_meta n c e m f = absurd (cc)

pub var-no_meta : (n : PlainNeutral) (i : ℕ) → head_of n ≡ Var i → NoMeta n
unfolding NoMeta
var-no_meta n i e m f = absurd (cc)
