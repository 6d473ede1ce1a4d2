-- Under a typed environment the function makes a typed tree or goes too far: it does not give up.
use Rattle.std.specs.Prelude.{ℕ, Bool, zero, suc, ◌+◌, ◌==◌, ◌≡◌, ◌⊎◌, ◌<◌, ◌≤◌, if◌then◌else◌, true, false, List, [], ◌∷◌, length, refl}
use Rattle.std.proofs.Common.{ap, sym, subst, ◌∙◌, arith, inl, inr, ⊎_elim}
use Rattle.std.proofs.lemmas.Bool.{eq-eqb}
use Rattle.clf_syntax.specs.declared.tree.Mode.{Mode}
use Rattle.clf_syntax.specs.declared.tree.Mode.TheVariants.{Persistent, Affine, Linear}
use Rattle.clf_syntax.specs.declared.tree.Head.{Head}
use Rattle.clf_syntax.specs.declared.tree.Head.TheVariants.{Const, Var, Meta}
use Rattle.clf_syntax.specs.Tree.{PlainObject, lam, pair, monadic, PlainNeutral, head_alone, app, fst, snd, PlainExpression, step, done, PlainTuple, entry, head_of}
use Rattle.clf_syntax.specs.TypeTree.{PlainType, family, function, both, top, monad, PlainTelescope, end, binding, PlainKind, SimpleType, base, arrow, simple_with, lax, SimpleTelescope, simple_binding}
use Rattle.clf_syntax.specs.Simple.{Assignment, erase, extended, extended_by, simple_modes, no_holes, EachSimplyTypedWith, Families, SimplyFormedWith, TelescopeSimplyFormedWith, KindSimplyFormedWith}
use Rattle.clf_syntax.specs.Renaming.{lifted, ren_head, up}
use Rattle.clf_syntax.specs.Written.{fits, fits_head}
use Rattle.hered_subst.specs.Substitution.{Image, keep, put, Environment, under, single, putting, objects}
use Rattle.hered_subst.specs.TypedEnvironments.{is_metavariable}
use Rattle.hered_subst.proofs.SimpleTyping.{Typed, typed_lam, typed_pair, typed_unit, typed_monadic, typed_metavariable, typed_atomic, TypedNeutral, typed_bare, typed_app, typed_fst, typed_snd, TypedExpression, typed_step, typed_done, TypedTuple, typed_empty, typed_entry, rank, ranks, suited_all, tuple_length, to_typed}
use Rattle.hered_subst.proofs.Total.{Suits, RankedEnvironment, env_bound, env_bounds, single_env, putting_env, raised_all, meta_of}
use Rattle.hered_put.specs.Tupled.{tupled}
use Rattle.clf_syntax.specs.Modes.{same_mode}
use Rattle.hered_put.specs.Function.{Answer, made, untyped, too_far, after, Outcome, kept, value, as_object, written, Again, stays_if, stepped, argued, projected_first, projected_second, flattened, combined, standing, free, run_by, run_neutral_by, run_expression_by, run_tuple_by, nested, nested_freely, run_each_by, run_type_by, run_telescope_by, run_kind_by}
use Rattle.hered_put.specs.Laws.{FineUnless}
use Rattle.hered_put.proofs.Sound.{tupled-put}

then-fine : (F : Type 0) {X Y : Type 0} (r : Answer X) (k : X → Answer Y) (P : X → Type 0) (Q : Y → Type 0) → FineUnless F r P → ((x : X) → P x → FineUnless F (k x) Q) → FineUnless F (after r k) Q
then-fine F (made x) k P Q m h = h x m
then-fine F untyped k P Q m h = m
then-fine F too_far k P Q m h = m

-- what smaller ranks do
abbrev pub FineAgain : Type 0 → Bool → ℕ → Again → Type 0
FineAgain F w k again = (j : ℕ) → j < k → (g z : Assignment) (s : Environment) → RankedEnvironment w j g z s
    → ((o : PlainObject) (t : SimpleType) → Typed w g o t → FineUnless F (again.object s o) (λ x. Typed w z x t))
    × ((e : PlainExpression) (ts : SimpleTelescope) → TypedExpression w g e ts → FineUnless F (again.expression s e) (λ x. TypedExpression w z x ts))

-- what a neutral of a type became
abbrev pub Stands : Bool → ℕ → Assignment → PlainNeutral → SimpleType → Outcome → Type 0
Stands w k z r t (kept n) = TypedNeutral w z n t × (is_metavariable (head_of n) ≡ is_metavariable (head_of r))
Stands w k z r t (value o) = Typed w z o t × (rank t ≤ k)

suits-stands : (w : Bool) (k : ℕ) (z : Assignment) (t : SimpleType) (h : Head) (i : Image) → Suits w k z t h i → Stands w k z (head_alone h) t (standing i)
suits-stands w k z t h i c = ⊎_elim
    (λ a. subst (λ j. Stands w k z (head_alone h) t (standing j)) (sym a.1) (typed_bare a.2, a.3))
    (λ a. subst (λ j. Stands w k z (head_alone h) t (standing j)) (sym a.1) (a.2, a.3))
    c

-- What stands for a head is written, or it goes too far.
abbrev pub Writes : Type 0 → (Image → Answer Outcome) → Type 0
Writes F write = (i : Image) → (write i ≡ made (standing i)) ⊎ ((write i ≡ too_far) × F)

suits-fine : (F : Type 0) (write : Image → Answer Outcome) → Writes F write → (w : Bool) (k : ℕ) (z : Assignment) (t : SimpleType) (h : Head) (i : Image) → Suits w k z t h i → FineUnless F (write i) (Stands w k z (head_alone h) t)
suits-fine F write writes w k z t h i c = ⊎_elim
    (λ e. subst (λ (a : Answer Outcome). FineUnless F a (Stands w k z (head_alone h) t)) (sym e) (suits-stands w k z t h i c))
    (λ e. subst (λ (a : Answer Outcome). FineUnless F a (Stands w k z (head_alone h) t)) (sym e.0) e.1)
    (writes i)

pub written-writes : Writes (Unit {0}) written
written-writes (keep h) = by (fits_head h)
  where
    by : (b : Bool) → ((if b then made (kept (head_alone h)) else too_far) ≡ made (kept (head_alone h))) ⊎ (((if b then made (kept (head_alone h)) else too_far) ≡ too_far) × Unit {0})
    by true = inl refl
    by false = inr (refl, tt)
written-writes (put n) = by (fits n)
  where
    by : (b : Bool) → ((if b then made (value n) else too_far) ≡ made (value n)) ⊎ (((if b then made (value n) else too_far) ≡ too_far) × Unit {0})
    by true = inl refl
    by false = inr (refl, tt)

pub free-writes : Writes ⊥ free
free-writes i = inl refl

kind_kept : (n p : ℕ) (h : Head) → is_metavariable (ren_head (lifted n (up p)) h) ≡ is_metavariable h
kind_kept n p (Const c) = refl
kind_kept n p (Var i) = refl
kind_kept n p (Meta m) = refl

suits-at : (w : Bool) (k : ℕ) (z : Assignment) (u : SimpleType) (h j : Head) (i l : Image) → is_metavariable j ≡ is_metavariable h → i ≡ l → Suits w k z u j i → Suits w k z u h l
suits-at w k z u h j i l m e c = ⊎_elim (λ a. inl (a.0, sym e ∙ a.1, a.2, a.3 ∙ m)) (λ a. inr (a.0, sym e ∙ a.1, a.2, a.3)) c

-- the tuple of an expression under p binders, put for the newest variables of what stands outside them
tupled_env : (w : Bool) (ts : SimpleTelescope) (g z : Assignment) (p : ℕ) (t : PlainTuple) → TypedTuple w z t ts → ((h : Head) → z (ren_head (up p) h) ≡ g h) → RankedEnvironment w (ranks ts) (extended_by ts g) z (tupled (objects t) p)
tupled_env w ts g z p t q f h u e =
    suits-at w (ranks ts) z u h (ren_head (lifted (length (objects t)) (up p)) h) (putting (objects t) (ren_head (lifted (length (objects t)) (up p)) h)) (tupled (objects t) p h)
    (kind_kept (length (objects t)) p h) (tupled-put p (objects t) h)
    (putting_env w ts z t q (ren_head (lifted (length (objects t)) (up p)) h) u (subst (λ n. extended_by ts z (ren_head (lifted n (up p)) h) ≡ extended_by ts g h) (sym (tuple_length q)) (suited_all ts g z (up p) f h) ∙ e))

further : (w : Bool) (ps : SimpleTelescope) (ms : List Mode) (g z : Assignment) (p : ℕ) → ms ≡ simple_modes ps → ((h : Head) → z (ren_head (up p) h) ≡ g h) → (h : Head) → extended_by ps z (ren_head (up (p + length ms)) h) ≡ g h
further w ps ms g z p m f h = ap (extended_by ps z) (twice h) ∙ subst (λ n. extended_by ps z (ren_head (up n) (ren_head (up p) h)) ≡ z (ren_head (up p) h)) (sym (ap length m)) (raised_all ps z (ren_head (up p) h)) ∙ f h
  where
    twice : (h : Head) → ren_head (up (p + length ms)) h ≡ ren_head (up (length ms)) (ren_head (up p) h)
    twice (Const c) = refl
    twice (Var i) = ap Var (sum i (length ms))
      where
        sum : (i n : ℕ) → i + (p + n) ≡ i + p + n
        sum i n = omega arith
    twice (Meta k) = refl

pub same-itself : (m : Mode) → same_mode m m ≡ true
same-itself Persistent = refl
same-itself Affine = refl
same-itself Linear = refl

module _ (F : Type 0) (w : Bool) (k : ℕ) (again : Again) (lower : FineAgain F w k again) where
  -- a value at a function, under an argument
  applied-fine : (z : Assignment) (m : Mode) (r : PlainNeutral) (o : PlainObject) {d c : SimpleType} (v : PlainObject) → Typed w z v (arrow m d c) → rank (arrow m d c) ≤ k → (y : PlainObject) → Typed w z y d
      → FineUnless F (argued again m (value v) y) (Stands w k z (app m r o) c)
  applied-fine z m r o {d = d} {c = c} v (typed_lam {b = b} p) h y q = into (same_mode m m) (same-itself m)
    where
      into : (yes : Bool) → yes ≡ true → FineUnless F (after (if yes then again.object (single y 0) b else untyped) (λ x. made (value x))) (Stands w k z (app m r o) c)
      into true e = then-fine F (again.object (single y 0) b) (λ x. made (value x)) (λ x. Typed w z x c) (Stands w k z (app m r o) c)
          ((lower (rank d) (omega arith) (extended d z) z (single y 0) (single_env w d z y q)).0 b c p) (λ x t. (t, omega arith))
      into false e = absurd (cc)

  argued-fine : (z : Assignment) (m : Mode) (r : PlainNeutral) (o : PlainObject) (d c : SimpleType) (v : Outcome) → Stands w k z r (arrow m d c) v → (y : PlainObject) → Typed w z y d → FineUnless F (argued again m v y) (Stands w k z (app m r o) c)
  argued-fine z m r o d c (kept n) a y q = (typed_app a.0 q, a.1)
  argued-fine z m r o d c (value v) a y q = applied-fine z m r o v a.0 a.1 y q

  parts-fine : (z : Assignment) (r : PlainNeutral) {c d : SimpleType} (v : PlainObject) → Typed w z v (simple_with c d) → rank (simple_with c d) ≤ k
      → FineUnless F (projected_first again (value v)) (Stands w k z (fst r) c) × FineUnless F (projected_second again (value v)) (Stands w k z (snd r) d)
  parts-fine z r v (typed_pair p q) h = ((p, omega arith), (q, omega arith))

  first-fine : (z : Assignment) (r : PlainNeutral) (c d : SimpleType) (v : Outcome) → Stands w k z r (simple_with c d) v → FineUnless F (projected_first again v) (Stands w k z (fst r) c)
  first-fine z r c d (kept n) a = (typed_fst a.0, a.1)
  first-fine z r c d (value v) a = (parts-fine z r v a.0 a.1).0

  second-fine : (z : Assignment) (r : PlainNeutral) (c d : SimpleType) (v : Outcome) → Stands w k z r (simple_with c d) v → FineUnless F (projected_second again v) (Stands w k z (snd r) d)
  second-fine z r c d (kept n) a = (typed_snd a.0, a.1)
  second-fine z r c d (value v) a = (parts-fine z r v a.0 a.1).1

  -- an expression and what stands after it
  pub flattened-fine : (g z : Assignment) {e : PlainExpression} {ts : SimpleTelescope} → TypedExpression w z e ts → ranks ts < k → (p n : ℕ) → n ≡ length (simple_modes ts) → ((h : Head) → z (ren_head (up p) h) ≡ g h)
      → (f : PlainExpression) (us : SimpleTelescope) → TypedExpression w (extended_by ts g) f us → FineUnless F (flattened again p n e f) (λ x. TypedExpression w z x us)
  flattened-fine g z {ts = ts} (typed_step {ms = ms} {r = r} {e = e} {ts = ps} a m b) h p n i j f us t =
      then-fine F (flattened again (p + length ms) n e f) (λ x. made (step ms r x)) (λ x. TypedExpression w (extended_by ps z) x us) (λ x. TypedExpression w z x us)
      (flattened-fine g (extended_by ps z) b h (p + length ms) n i (further w ps ms g z p m j) f us t) (λ x q. typed_step a m q)
  flattened-fine g z {ts = ts} (typed_done {t = u} a) h p n i j f us t = here (length (objects u) == n) (eq-eqb (length (objects u)) n (tuple_length a ∙ sym i))
    where
      here : (b : Bool) → b ≡ true → FineUnless F (if b then again.expression (tupled (objects u) p) f else untyped) (λ x. TypedExpression w z x us)
      here true e = (lower (ranks ts) h (extended_by ts g) z (tupled (objects u) p) (tupled_env w ts g z p u a j)).1 f us t
      here false e = absurd (cc)

  pub none : (z : Assignment) (h : Head) → z (ren_head (up 0) h) ≡ z h
  none z (Const c) = refl
  none z (Var i) = ap (λ j. z (Var j)) (zero_more i)
    where
      zero_more : (i : ℕ) → i + 0 ≡ i
      zero_more i = omega arith
  none z (Meta m) = refl

  -- what the value of a right side does
  value-fine : (z : Assignment) (ms : List Mode) {ts : SimpleTelescope} (v : PlainObject) → Typed w z v (lax ts) → rank (lax ts) ≤ k → ms ≡ simple_modes ts → (us : SimpleTelescope) (rest : Answer PlainExpression) → FineUnless F rest (λ f. TypedExpression w (extended_by ts z) f us)
      → FineUnless F (after (stepped (value v)) (λ p. combined again ms p rest)) (λ x. TypedExpression w z x us)
  value-fine z ms {ts = ts} v (typed_monadic {e = g} p) h m us rest q = then-fine F rest (λ f. flattened again 0 (length ms) g f) (λ f. TypedExpression w (extended_by ts z) f us) (λ x. TypedExpression w z x us) q
      (λ f t. flattened-fine z z p (omega arith) 0 (length ms) (ap length m) (none z) f us t)
  value-fine z ms {ts = ts} v (typed_metavariable {n = n} j p i) h m us rest q = meta (is_metavariable (head_of n)) (ap is_metavariable i)
    where
      meta : (b : Bool) → b ≡ true → FineUnless F (after (stays_if b n) (λ p. combined again ms p rest)) (λ x. TypedExpression w z x us)
      meta true e = then-fine F rest (λ f. made (step ms n f)) (λ f. TypedExpression w (extended_by ts z) f us) (λ x. TypedExpression w z x us) q (λ f t. typed_step p m t)
      meta false e = absurd (cc)

  stepped-fine : (z : Assignment) (ms : List Mode) (r : PlainNeutral) (ts : SimpleTelescope) (v : Outcome) → Stands w k z r (lax ts) v → ms ≡ simple_modes ts → (us : SimpleTelescope) (rest : Answer PlainExpression) → FineUnless F rest (λ f. TypedExpression w (extended_by ts z) f us)
      → FineUnless F (after (stepped v) (λ p. combined again ms p rest)) (λ x. TypedExpression w z x us)
  stepped-fine z ms r ts (kept n) a m us rest q = then-fine F rest (λ f. made (step ms n f)) (λ f. TypedExpression w (extended_by ts z) f us) (λ x. TypedExpression w z x us) q (λ f t. typed_step a.0 m t)
  stepped-fine z ms r ts (value v) a m us rest q = value-fine z ms v a.0 a.1 m us rest q

  atomic-fine : (z : Assignment) (r : PlainNeutral) {a : ℕ} (v : Outcome) → Stands w k z r (base a) v → Typed w z (as_object v) (base a)
  atomic-fine z r (kept n) p = typed_atomic p.0
  atomic-fine z r (value o) p = p.0

  meta-fine : (z : Assignment) (r : PlainNeutral) {ts : SimpleTelescope} {m : ℕ} (v : Outcome) → w ≡ true → head_of r ≡ Meta m → Stands w k z r (lax ts) v → Typed w z (as_object v) (lax ts)
  meta-fine z r (kept n) j e p = typed_metavariable j p.0 (meta_of (head_of n) (p.1 ∙ ap is_metavariable e)).1
  meta-fine z r (value o) j e p = p.0

  module _ (write : Image → Answer Outcome) (writes : Writes F write) where
    mutual
      pub fine : (z : Assignment) (s : Environment) {g : Assignment} {o : PlainObject} {t : SimpleType} → Typed w g o t → RankedEnvironment w k g z s → FineUnless F (run_by write again s o) (λ x. Typed w z x t)
      fine z s (typed_lam {g = g} {m = m} {b = b} {d = d} {c = c} p) f = then-fine F (run_by write again (under 1 s) b) (λ x. made (lam m x)) (λ x. Typed w (extended d z) x c) (λ x. Typed w z x (arrow m d c))
          (fine (extended d z) (under 1 s) p (env_bound w k d g z s f)) (λ x q. typed_lam q)
      fine z s (typed_pair {l = l} {r = r} {c = c} {d = d} p q) f = then-fine F (run_by write again s l) (λ x. after (run_by write again s r) (λ y. made (pair x y))) (λ x. Typed w z x c) (λ x. Typed w z x (simple_with c d))
          (fine z s p f) (λ x a. then-fine F (run_by write again s r) (λ y. made (pair x y)) (λ x. Typed w z x d) (λ x. Typed w z x (simple_with c d)) (fine z s q f) (λ y b. typed_pair a b))
      fine z s typed_unit f = typed_unit
      fine z s (typed_monadic {e = e} {ts = ts} p) f = then-fine F (run_expression_by write again s e) (λ x. made (monadic x)) (λ x. TypedExpression w z x ts) (λ x. Typed w z x (lax ts)) (fine_expression z s p f) (λ x q. typed_monadic q)
      fine z s (typed_atomic {n = n} {a = a} p) f = then-fine F (run_neutral_by write again s n) (λ v. made (as_object v)) (Stands w k z n (base a)) (λ x. Typed w z x (base a)) (fine_neutral z s p f) (λ v q. atomic-fine z n v q)
      fine z s (typed_metavariable {n = n} {ts = ts} j p e) f = then-fine F (run_neutral_by write again s n) (λ v. made (as_object v)) (Stands w k z n (lax ts)) (λ x. Typed w z x (lax ts)) (fine_neutral z s p f) (λ v q. meta-fine z n v j e q)

      fine_neutral : (z : Assignment) (s : Environment) {g : Assignment} {n : PlainNeutral} {t : SimpleType} → TypedNeutral w g n t → RankedEnvironment w k g z s → FineUnless F (run_neutral_by write again s n) (Stands w k z n t)
      fine_neutral z s (typed_bare {h = h} {t = t} e) f = suits-fine F write writes w k z t h (s h) (f h t e)
      fine_neutral z s (typed_app {m = m} {r = r} {o = o} {d = d} {c = c} p q) f = then-fine F (run_neutral_by write again s r) (λ v. after (run_by write again s o) (λ y. argued again m v y)) (Stands w k z r (arrow m d c)) (Stands w k z (app m r o) c)
          (fine_neutral z s p f) (λ v a. then-fine F (run_by write again s o) (λ y. argued again m v y) (λ y. Typed w z y d) (Stands w k z (app m r o) c) (fine z s q f) (λ y b. argued-fine z m r o d c v a y b))
      fine_neutral z s (typed_fst {r = r} {c = c} {d = d} p) f = then-fine F (run_neutral_by write again s r) (λ v. projected_first again v) (Stands w k z r (simple_with c d)) (Stands w k z (fst r) c) (fine_neutral z s p f) (λ v a. first-fine z r c d v a)
      fine_neutral z s (typed_snd {r = r} {c = c} {d = d} p) f = then-fine F (run_neutral_by write again s r) (λ v. projected_second again v) (Stands w k z r (simple_with c d)) (Stands w k z (snd r) d) (fine_neutral z s p f) (λ v a. second-fine z r c d v a)

      pub fine_expression : (z : Assignment) (s : Environment) {g : Assignment} {e : PlainExpression} {us : SimpleTelescope} → TypedExpression w g e us → RankedEnvironment w k g z s → FineUnless F (run_expression_by write again s e) (λ x. TypedExpression w z x us)
      fine_expression z s {g = g} (typed_step {ms = ms} {r = r} {e = e} {ts = ts} {us = us} p m q) f =
          then-fine F (run_neutral_by write again s r) (λ v. after (stepped v) (λ p. combined again ms p (run_expression_by write again (under (length ms) s) e))) (Stands w k z r (lax ts)) (λ x. TypedExpression w z x us) (fine_neutral z s p f)
          (λ v a. stepped-fine z ms r ts v a m us (run_expression_by write again (under (length ms) s) e)
          (fine_expression (extended_by ts z) (under (length ms) s) q (subst (λ i. RankedEnvironment w k (extended_by ts g) (extended_by ts z) (under i s)) (sym (ap length m)) (env_bounds w k ts g z s f))))
      fine_expression z s (typed_done {t = t} {us = us} p) f = then-fine F (run_tuple_by write again s t) (λ u. made (done u)) (λ u. TypedTuple w z u us) (λ x. TypedExpression w z x us) (fine_tuple z s p f) (λ u q. typed_done q)

      fine_tuple : (z : Assignment) (s : Environment) {g : Assignment} {t : PlainTuple} {ts : SimpleTelescope} → TypedTuple w g t ts → RankedEnvironment w k g z s → FineUnless F (run_tuple_by write again s t) (λ u. TypedTuple w z u ts)
      fine_tuple z s typed_empty f = typed_empty
      fine_tuple z s (typed_entry {m = m} {o = o} {t = t} {d = d} {ts = ts} p q) f = then-fine F (run_by write again s o) (λ x. after (run_tuple_by write again s t) (λ u. made (entry m x u))) (λ x. Typed w z x d) (λ u. TypedTuple w z u (simple_binding m d ts))
          (fine z s p f) (λ x a. then-fine F (run_tuple_by write again s t) (λ u. made (entry m x u)) (λ u. TypedTuple w z u ts) (λ u. TypedTuple w z u (simple_binding m d ts)) (fine_tuple z s q f) (λ u b. typed_entry a b))

    -- ---- types

    run_each-fine : (g z : Assignment) (s : Environment) → RankedEnvironment w k g z s → (ns : List PlainObject) (ts : List SimpleType) → EachSimplyTypedWith (no_holes w) g ns ts → FineUnless F (run_each_by write again s ns) (λ xs. Unit {0})
    run_each-fine g z s f [] [] p = tt
    run_each-fine g z s f (n ∷ ns) (t ∷ ts) p = then-fine F (run_by write again s n) (λ x. after (run_each_by write again s ns) (λ xs. made (x ∷ xs))) (λ x. Typed w z x t) (λ xs. Unit {0}) (fine z s (to_typed w g n t p.0) f)
        (λ x a. then-fine F (run_each_by write again s ns) (λ xs. made (x ∷ xs)) (λ xs. Unit {0}) (λ xs. Unit {0}) (run_each-fine g z s f ns ts p.1) (λ xs b. tt))
    run_each-fine g z s f [] (t ∷ ts) p = absurd p
    run_each-fine g z s f (n ∷ ns) [] p = absurd p

    module _ (arguments : Families) where
      mutual
        pub type-fine : (g z : Assignment) (s : Environment) → RankedEnvironment w k g z s → (a : PlainType) → SimplyFormedWith (no_holes w) arguments g a → FineUnless F (run_type_by write again s a) (λ x. Unit {0})
        type-fine g z s f (family c ns) p = then-fine F (run_each_by write again s ns) (λ xs. made (family c xs)) (λ xs. Unit {0}) (λ x. Unit {0}) (run_each-fine g z s f ns p.0 p.2) (λ xs q. tt)
        type-fine g z s f (function m a b) p = then-fine F (run_type_by write again s a) (λ x. after (run_type_by write again (under 1 s) b) (λ y. made (function m x y))) (λ x. Unit {0}) (λ x. Unit {0}) (type-fine g z s f a p.0)
            (λ x q. then-fine F (run_type_by write again (under 1 s) b) (λ y. made (function m x y)) (λ y. Unit {0}) (λ y. Unit {0}) (type-fine (extended (erase a) g) (extended (erase a) z) (under 1 s) (env_bound w k (erase a) g z s f) b p.1) (λ y q. tt))
        type-fine g z s f (both a b) p = then-fine F (run_type_by write again s a) (λ x. after (run_type_by write again s b) (λ y. made (both x y))) (λ x. Unit {0}) (λ x. Unit {0}) (type-fine g z s f a p.0)
            (λ x q. then-fine F (run_type_by write again s b) (λ y. made (both x y)) (λ y. Unit {0}) (λ y. Unit {0}) (type-fine g z s f b p.1) (λ y q. tt))
        type-fine g z s f top p = tt
        type-fine g z s f (monad u) p = then-fine F (run_telescope_by write again s u) (λ x. made (monad x)) (λ x. Unit {0}) (λ x. Unit {0}) (telescope-fine g z s f u p) (λ x q. tt)

        pub telescope-fine : (g z : Assignment) (s : Environment) → RankedEnvironment w k g z s → (u : PlainTelescope) → TelescopeSimplyFormedWith (no_holes w) arguments g u → FineUnless F (run_telescope_by write again s u) (λ x. Unit {0})
        telescope-fine g z s f end p = tt
        telescope-fine g z s f (binding m a u) p = then-fine F (run_type_by write again s a) (λ x. after (run_telescope_by write again (under 1 s) u) (λ y. made (binding m x y))) (λ x. Unit {0}) (λ x. Unit {0}) (type-fine g z s f a p.0)
            (λ x q. then-fine F (run_telescope_by write again (under 1 s) u) (λ y. made (binding m x y)) (λ y. Unit {0}) (λ y. Unit {0}) (telescope-fine (extended (erase a) g) (extended (erase a) z) (under 1 s) (env_bound w k (erase a) g z s f) u p.1) (λ y q. tt))

      pub kind-fine : (g z : Assignment) (s : Environment) → RankedEnvironment w k g z s → (l : PlainKind) → KindSimplyFormedWith (no_holes w) arguments g l → FineUnless F (run_kind_by write again s l) (λ x. Unit {0})
      kind-fine g z s f [] p = tt
      kind-fine g z s f (a ∷ l) p = then-fine F (run_type_by write again s a) (λ x. after (run_kind_by write again (under 1 s) l) (λ y. made (x ∷ y))) (λ x. Unit {0}) (λ x. Unit {0}) (type-fine g z s f a p.0)
          (λ x q. then-fine F (run_kind_by write again (under 1 s) l) (λ y. made (x ∷ y)) (λ y. Unit {0}) (λ y. Unit {0}) (kind-fine (extended (erase a) g) (extended (erase a) z) (under 1 s) (env_bound w k (erase a) g z s f) l p.1) (λ y q. tt))

wider : (w : Bool) (j k : ℕ) (g z : Assignment) (s : Environment) → j ≤ k → RankedEnvironment w j g z s → RankedEnvironment w k g z s
wider w j k g z s h f x u e = ⊎_elim (λ a. inl a) (λ a. inr (a.0, a.1, a.2, more (rank u) a.3)) (f x u e)
  where
    more : (r : ℕ) → r ≤ j → r ≤ k
    more r l = omega arith

-- so it is however deep what is put may nest
pub nested-fine : (w : Bool) (k : ℕ) → FineAgain (Unit {0}) w k (nested k)
unfolding nested
nested-fine w zero = λ j h. absurd (omega arith)
nested-fine w (suc k) = λ j h g z s f. (
  (λ o t p. fine (Unit {0}) w k (nested k) (nested-fine w k) written written-writes z s p (wider w j k g z s (omega arith) f)),
  (λ e ts p. fine_expression (Unit {0}) w k (nested k) (nested-fine w k) written written-writes z s p (wider w j k g z s (omega arith) f)),
)

pub freely-fine : (w : Bool) (k : ℕ) → FineAgain ⊥ w k (nested_freely k)
unfolding nested_freely
freely-fine w zero = λ j h. absurd (omega arith)
freely-fine w (suc k) = λ j h g z s f. (
  (λ o t p. fine ⊥ w k (nested_freely k) (freely-fine w k) free free-writes z s p (wider w j k g z s (omega arith) f)),
  (λ e ts p. fine_expression ⊥ w k (nested_freely k) (freely-fine w k) free free-writes z s p (wider w j k g z s (omega arith) f)),
)
