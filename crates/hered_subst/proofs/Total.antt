-- Where both sides are simply typed, a substitution has a result, and the result is typed.
use Rattle.std.specs.Prelude.{ℕ, Bool, true, zero, suc, ◌+◌, ◌-◌, ◌≡◌, ◌<◌, ◌≤◌, ◌⊎◌, List, [], ◌∷◌, ◌++◌, length, Some, refl}
use Rattle.std.proofs.Common.{ap, sym, subst, ◌∙◌, arith, inl, inr, ⊎_elim, add-one}
use Rattle.clf_syntax.specs.declared.tree.Mode.{Mode}
use Rattle.clf_syntax.specs.declared.tree.Head.{Head}
use Rattle.clf_syntax.specs.declared.tree.Head.TheVariants.{Const, Var, Meta}
use Rattle.clf_syntax.specs.Tree.{PlainObject, lam, pair, unit, monadic, atomic, PlainNeutral, head_alone, app, fst, snd, PlainExpression, step, done, PlainTuple, empty, entry, head_of}
use Rattle.clf_syntax.specs.TypeTree.{SimpleType, arrow, simple_with, lax, SimpleTelescope, simple_end, simple_binding}
use Rattle.clf_syntax.specs.Simple.{Assignment, extended, extended_by, simple_modes}
use Rattle.clf_syntax.specs.Renaming.{Renumbering, lifted, ren_head, ren, ren_expression, up}
use Rattle.clf_syntax.proofs.RenamingLaws.{cut}
use Rattle.hered_subst.specs.Substitution.{Image, keep, put, Environment, ren_image, under, among, putting, single, objects, Substituted, through_lam, through_pair, through_unit, through_monadic, through_kept, through_value, KeepsHead, kept_bare, kept_app, kept_fst, kept_snd, HasValue, value_bare, value_app, value_fst, value_snd, SubstitutedExpression, through_done, step_kept, step_value, step_meta, Flattened, flat_step, flat_done, SubstitutedTuple, through_empty, through_entry}
use Rattle.hered_subst.specs.TypedEnvironments.{is_metavariable}
use Rattle.hered_subst.proofs.Renamed.{under_in, single_out}
use Rattle.hered_subst.proofs.SimpleTyping.{Typed, typed_lam, typed_pair, typed_unit, typed_monadic, typed_metavariable, typed_atomic, TypedNeutral, typed_bare, typed_app, typed_fst, typed_snd, TypedExpression, typed_step, typed_done, TypedTuple, typed_empty, typed_entry, rank, ranks, under_under, under_zero, under_next, suited_all, extended_out, renamed_typed, renamed_typed_expression, among_there, among_first, among_past, tuple_length}

pub the_type : {t u : SimpleType} → Some t ≡ Some u → t ≡ u
the_type e = cc

-- a rank that is at most its own, at an equal type
pub at_most : {t u : SimpleType} → t ≡ u → rank u ≤ rank t
at_most {t} e = subst (λ v. rank v ≤ rank t) e (omega arith)

-- a head is kept at its type, or an object of its type is put, of at most the rank
abbrev pub Suits : Bool → ℕ → Assignment → SimpleType → Head → Image → Type 0
Suits w k z u h i = ((j : Head) × (i ≡ keep j) × (z j ≡ Some u) × (is_metavariable j ≡ is_metavariable h)) ⊎ ((n : PlainObject) × (i ≡ put n) × Typed w z n u × (rank u ≤ k))

-- so it is at each head that has a type: a typed environment with ranks, by which the proof goes down
abbrev pub RankedEnvironment : Bool → ℕ → Assignment → Assignment → Environment → Type 0
RankedEnvironment w k g z s = (h : Head) (u : SimpleType) → g h ≡ Some u → Suits w k z u h (s h)

abbrev pub IsTotal : Bool → ℕ → Type 0
IsTotal w k = (g z : Assignment) (s : Environment) → RankedEnvironment w k g z s
    → ((o : PlainObject) (t : SimpleType) → Typed w g o t → (x : PlainObject) × Substituted s o x × Typed w z x t) × ((e : PlainExpression) (ts : SimpleTelescope) → TypedExpression w g e ts → (x : PlainExpression) × SubstitutedExpression s e x × TypedExpression w z x ts)

pub raised_types : (d : SimpleType) (z : Assignment) (h : Head) → extended d z (ren_head (up 1) h) ≡ z h
raised_types d z (Const c) = refl
raised_types d z (Var i) = ap (λ j. extended d z (Var j)) (add-one i)
raised_types d z (Meta m) = refl

same_kind : (r : Renumbering) (h : Head) → is_metavariable (ren_head r h) ≡ is_metavariable h
same_kind r (Const c) = refl
same_kind r (Var i) = refl
same_kind r (Meta m) = refl

raised_suits : (w : Bool) (k : ℕ) (d : SimpleType) (z : Assignment) (u : SimpleType) (h : Head) (i : Image) → Suits w k z u h i → Suits w k (extended d z) u h (ren_image (up 1) i)
raised_suits w k d z u h i c = ⊎_elim
    (λ a. inl (ren_head (up 1) a.0, ap (ren_image (up 1)) a.1, raised_types d z a.0 ∙ a.2, same_kind (up 1) a.0 ∙ a.3))
    (λ a. inr (ren (up 1) a.0, ap (ren_image (up 1)) a.1, renamed_typed (extended d z) (up 1) a.2 (raised_types d z), a.3)) c

pub env_bound : (w : Bool) (k : ℕ) (d : SimpleType) (g z : Assignment) (s : Environment) → RankedEnvironment w k g z s → RankedEnvironment w k (extended d g) (extended d z) (under 1 s)
env_bound w k d g z s f (Const c) u e = raised_suits w k d z u (Const c) (s (Const c)) (f (Const c) u e)
env_bound w k d g z s f (Meta m) u e = raised_suits w k d z u (Meta m) (s (Meta m)) (f (Meta m) u e)
env_bound w k d g z s f (Var zero) u e = inl (Var 0, under_in 1 s 0 (omega arith), e, refl)
env_bound w k d g z s f (Var (suc i)) u e = subst (Suits w k (extended d z) u (Var i)) (sym (under_next s i)) (raised_suits w k d z u (Var i) (s (Var i)) (f (Var i) u e))

pub env_bounds : (w : Bool) (k : ℕ) (ts : SimpleTelescope) (g z : Assignment) (s : Environment) → RankedEnvironment w k g z s → RankedEnvironment w k (extended_by ts g) (extended_by ts z) (under (length (simple_modes ts)) s)
env_bounds w k simple_end g z s f = subst (RankedEnvironment w k g z) (sym (under_zero s)) f
env_bounds w k (simple_binding m t ts) g z s f = subst (RankedEnvironment w k (extended_by ts (extended t g)) (extended_by ts (extended t z))) (under_under (length (simple_modes ts)) s) (env_bounds w k ts (extended t g) (extended t z) (under 1 s) (env_bound w k t g z s f))

pub single_env : (w : Bool) (d : SimpleType) (z : Assignment) (y : PlainObject) → Typed w z y d → RankedEnvironment w (rank d) (extended d z) z (single y 0)
single_env w d z y p (Const c) u e = inl (Const c, refl, e, refl)
single_env w d z y p (Meta m) u e = inl (Meta m, refl, e, refl)
single_env w d z y p (Var zero) u e = inr (y, refl, subst (λ v. Typed w z y v) (the_type e) p, at_most (the_type e))
single_env w d z y p (Var (suc i)) u e = inl (Var i, ap (λ j. single y 0 (Var j)) (sym (add-one i)) ∙ single_out y i, e, refl)

-- a typed tuple, put for the newest variables
pub tuple_env : (w : Bool) {g : Assignment} {t : PlainTuple} {ts : SimpleTelescope} → TypedTuple w g t ts → (z : Assignment) (i : ℕ) → i < length (simple_modes ts)
    → (n : PlainObject) × (u : SimpleType) × (among (objects t) i ≡ put n) × (extended_by ts z (Var i) ≡ Some u) × Typed w g n u × (rank u ≤ ranks ts)
tuple_env w typed_empty z i h = absurd (omega arith)
tuple_env w {g = g} (typed_entry {o = o} {t = t} {d = d} {ts = ts} p q) z i h = ⊎_elim (λ k. old (tuple_env w q (extended d z) i k) k) new (cut i (length (simple_modes ts)))
  where
    Goal : ℕ → Type 0
    Goal j = (n : PlainObject) × (u : SimpleType) × (among (objects t ++ o ∷ []) j ≡ put n) × (extended_by ts (extended d z) (Var j) ≡ Some u) × Typed w g n u × (rank u ≤ rank d + ranks ts)

    old : (n : PlainObject) × (u : SimpleType) × (among (objects t) i ≡ put n) × (extended_by ts (extended d z) (Var i) ≡ Some u) × Typed w g n u × (rank u ≤ ranks ts) → i < length (simple_modes ts) → Goal i
    old a k = (a.0, a.1, among_first (objects t) (o ∷ []) i (long (tuple_length q) k) ∙ a.2, a.3, a.4, wider a.1 a.5)
      where
        long : length (objects t) ≡ length (simple_modes ts) → i < length (simple_modes ts) → i < length (objects t)
        long e h = omega arith

        wider : (u : SimpleType) → rank u ≤ ranks ts → rank u ≤ rank d + ranks ts
        wider u h = omega arith

    typed : extended_by ts (extended d z) (Var (length (simple_modes ts))) ≡ Some d
    typed = ap (λ j. extended_by ts (extended d z) (Var j)) (plain (length (simple_modes ts))) ∙ extended_out ts (extended d z) 0
      where
        plain : (n : ℕ) → n ≡ 0 + n
        plain n = omega arith

    final : Goal (length (simple_modes ts))
    final = (o, d, ap (among (objects t ++ o ∷ [])) (sym (tuple_length q)) ∙ among_there (objects t) [] o, typed, p, omega arith)

    new : length (simple_modes ts) ≤ i → Goal i
    new k = subst Goal (same k) final
      where
        same : length (simple_modes ts) ≤ i → length (simple_modes ts) ≡ i
        same k = omega arith

pub extended_constant : (ts : SimpleTelescope) (g : Assignment) (c : ℕ) → extended_by ts g (Const c) ≡ g (Const c)
extended_constant simple_end g c = refl
extended_constant (simple_binding m t ts) g c = extended_constant ts (extended t g) c

pub extended_metavariable : (ts : SimpleTelescope) (g : Assignment) (c : ℕ) → extended_by ts g (Meta c) ≡ g (Meta c)
extended_metavariable simple_end g c = refl
extended_metavariable (simple_binding m t ts) g c = extended_metavariable ts (extended t g) c

pub putting_env : (w : Bool) (ts : SimpleTelescope) (z : Assignment) (t : PlainTuple) → TypedTuple w z t ts → RankedEnvironment w (ranks ts) (extended_by ts z) z (putting (objects t))
putting_env w ts z t p (Const c) u e = inl (Const c, refl, sym (extended_constant ts z c) ∙ e, refl)
putting_env w ts z t p (Meta m) u e = inl (Meta m, refl, sym (extended_metavariable ts z m) ∙ e, refl)
putting_env w ts z t p (Var i) u e = ⊎_elim (λ h. new (tuple_env w p z i h)) (λ h. far h) (cut i (length (simple_modes ts)))
  where
    new : (n : PlainObject) × (v : SimpleType) × (among (objects t) i ≡ put n) × (extended_by ts z (Var i) ≡ Some v) × Typed w z n v × (rank v ≤ ranks ts) → Suits w (ranks ts) z u (Var i) (among (objects t) i)
    new a = let q : a.1 ≡ u = the_type (sym a.3 ∙ e) in inr (a.0, a.2, subst (λ v. Typed w z a.0 v) q a.4, subst (λ v. rank v ≤ ranks ts) q a.5)

    back : length (simple_modes ts) ≤ i → i - length (simple_modes ts) + length (simple_modes ts) ≡ i
    back h = omega arith

    far : length (simple_modes ts) ≤ i → Suits w (ranks ts) z u (Var i) (among (objects t) i)
    far h = inl (
      Var (i - length (simple_modes ts)),
      ap (among (objects t)) (sym (back h)) ∙ ap (λ n. among (objects t) (i - length (simple_modes ts) + n)) (sym (tuple_length p)) ∙ among_past (objects t) (i - length (simple_modes ts)),
      sym (extended_out ts z (i - length (simple_modes ts))) ∙ ap (λ j. extended_by ts z (Var j)) (back h) ∙ e,
      refl,
    )

pub raised_all : (ts : SimpleTelescope) (z : Assignment) (h : Head) → extended_by ts z (ren_head (up (length (simple_modes ts))) h) ≡ z h
raised_all ts z (Const c) = extended_constant ts z c
raised_all ts z (Var i) = extended_out ts z i
raised_all ts z (Meta m) = extended_metavariable ts z m

pub kept_kind : (w : Bool) (k : ℕ) {g z : Assignment} {s : Environment} {n x : PlainNeutral} {t : SimpleType} → TypedNeutral w g n t → RankedEnvironment w k g z s → KeepsHead s n x → is_metavariable (head_of x) ≡ is_metavariable (head_of n)
kept_kind w k (typed_bare {h = h} {t = t} q) f (kept_bare e) = ⊎_elim (λ a. first_case (sym e ∙ a.1) a.3) (λ a. absurd (second_case (sym e ∙ a.1))) (f h t q)
  where
    first_case : {i j : Head} → keep i ≡ keep j → is_metavariable j ≡ is_metavariable h → is_metavariable i ≡ is_metavariable h
    first_case e p = ap is_metavariable (same e) ∙ p
      where
        same : {i j : Head} → keep i ≡ keep j → i ≡ j
        same e = cc

    second_case : {i : Head} {n : PlainObject} → keep i ≡ put n → ⊥
    second_case e = cc
kept_kind w k (typed_app t u) f (kept_app p q) = kept_kind w k t f p
kept_kind w k (typed_fst t) f (kept_fst p) = kept_kind w k t f p
kept_kind w k (typed_snd t) f (kept_snd p) = kept_kind w k t f p

pub meta_of : (h : Head) → is_metavariable h ≡ true → (m : ℕ) × (h ≡ Meta m)
meta_of (Const c) e = absurd (cc)
meta_of (Var i) e = absurd (cc)
meta_of (Meta m) e = (m, refl)

module _ (w : Bool) (k : ℕ) (again : (j : ℕ) → j < k → IsTotal w j) where
  -- the steps of a typed expression, then the rest
  pub then_total : {z : Assignment} {e : PlainExpression} {ts : SimpleTelescope} → TypedExpression w z e ts → ranks ts < k → (f : PlainExpression) (us : SimpleTelescope) → TypedExpression w (extended_by ts z) f us → (x : PlainExpression) × Flattened (length (simple_modes ts)) e f x × TypedExpression w z x us
  then_total {z = z} {ts = ts} (typed_step {ms = ms} {r = r} {ts = ps} p m q) h f us t =
      let (x, a, b) = then_total q h (ren_expression (lifted (length (simple_modes ts)) (up (length ms))) f) us
      (renamed_typed_expression (extended_by ts (extended_by ps z)) (lifted (length (simple_modes ts)) (up (length ms))) t
      (suited_all ts z (extended_by ps z) (up (length ms)) (subst (λ n. (h : Head) → extended_by ps z (ren_head (up n) h) ≡ z h) (sym (ap length m)) (raised_all ps z)))) in
      (step ms r x, flat_step a, typed_step p m b)
  then_total {z = z} {ts = ts} (typed_done {t = u} p) h f us t =
      let (x, a, b) = (again (ranks ts) h (extended_by ts z) z (putting (objects u)) (putting_env w ts z u p)).1 f us t in
      (x, flat_done (tuple_length p) a, b)

  -- what the value of a neutral at a monad does
  step_total : (s : Environment) {z : Assignment} {o : PlainObject} {ts : SimpleTelescope} → Typed w z o (lax ts) → ranks ts < k → (ms : List Mode) → ms ≡ simple_modes ts → (n : PlainNeutral) → HasValue s n o → (e f : PlainExpression) (us : SimpleTelescope)
      → SubstitutedExpression (under (length ms) s) e f → TypedExpression w (extended_by ts z) f us → (x : PlainExpression) × SubstitutedExpression s (step ms n e) x × TypedExpression w z x us
  step_total s {z = z} {ts = ts} (typed_monadic {e = g} p) h ms m n v e f us b t = let (x, a, c) = then_total p h f us t in
      (x, step_value v b (subst (λ i. Flattened i g f x) (sym (ap length m)) a), c)
  step_total s (typed_metavariable {n = q} j p i) h ms m n v e f us b t = (step ms q f, step_meta v i b, typed_step p m t)

  applied : (s : Environment) (z : Assignment) {n : PlainNeutral} {m : Mode} {d c : SimpleType} {i : PlainObject} (x : PlainObject) → HasValue s n x → Typed w z x (arrow m d c) → rank (arrow m d c) ≤ k → (y : PlainObject) → Substituted s i y → Typed w z y d
      → (v : PlainObject) × HasValue s (app m n i) v × Typed w z v c × (rank c ≤ k)
  applied s z {d = d} {c = c} x v (typed_lam {b = b} p) h y a q = let (r, e, t) = (again (rank d) (omega arith) (extended d z) z (single y 0) (single_env w d z y q)).0 b c p in
      (r, value_app v a e, t, omega arith)

  pub parts : (s : Environment) (z : Assignment) {n : PlainNeutral} {c d : SimpleType} (x : PlainObject) → HasValue s n x → Typed w z x (simple_with c d) → rank (simple_with c d) ≤ k
      → ((v : PlainObject) × HasValue s (fst n) v × Typed w z v c × (rank c ≤ k)) × ((v : PlainObject) × HasValue s (snd n) v × Typed w z v d × (rank d ≤ k))
  parts s z x v (typed_pair {l = l} {r = r} p q) h = ((l, value_fst v, p, omega arith), (r, value_snd v, q, omega arith))

  mutual
    total : (z : Assignment) (s : Environment) {g : Assignment} {o : PlainObject} {t : SimpleType} → Typed w g o t → RankedEnvironment w k g z s → (x : PlainObject) × Substituted s o x × Typed w z x t
    total z s (typed_lam {g = g} {m = m} {d = d} p) f = let (x, a, b) = total (extended d z) (under 1 s) p (env_bound w k d g z s f) in (lam m x, through_lam a, typed_lam b)
    total z s (typed_pair p q) f = let (x, a, b) = total z s p f in let (y, c, d) = total z s q f in (pair x y, through_pair a c, typed_pair b d)
    total z s typed_unit f = (unit, through_unit, typed_unit)
    total z s (typed_monadic p) f = let (x, a, b) = total_expression z s p f in (monadic x, through_monadic a, typed_monadic b)
    total z s (typed_atomic p) f = ⊎_elim (λ u. (atomic u.0, through_kept u.1, typed_atomic u.2)) (λ u. (u.0, through_value u.1, u.2)) (total_neutral z s p f)
    total z s (typed_metavariable {n = n} j p e) f = ⊎_elim
        (λ u. let (m, i) = meta_of (head_of u.0) (kept_kind w k p f u.1 ∙ ap is_metavariable e) in (atomic u.0, through_kept u.1, typed_metavariable j u.2 i))
        (λ u. (u.0, through_value u.1, u.2)) (total_neutral z s p f)

    pub total_neutral : (z : Assignment) (s : Environment) {g : Assignment} {n : PlainNeutral} {t : SimpleType} → TypedNeutral w g n t → RankedEnvironment w k g z s → ((x : PlainNeutral) × KeepsHead s n x × TypedNeutral w z x t) ⊎ ((x : PlainObject) × HasValue s n x × Typed w z x t × (rank t ≤ k))
    total_neutral z s (typed_bare {h = h} {t = t} e) f = ⊎_elim (λ u. inl (head_alone u.0, kept_bare u.1, typed_bare u.2)) (λ u. inr (u.0, value_bare u.1, u.2, u.3)) (f h t e)
    total_neutral z s (typed_app {m = m} {d = d} {c = c} p q) f = let (y, a, b) = total z s q f in ⊎_elim (λ u. inl (app m u.0 y, kept_app u.1 a, typed_app u.2 b)) (λ u. inr (applied s z u.0 u.1 u.2 u.3 y a b)) (total_neutral z s p f)
    total_neutral z s (typed_fst p) f = ⊎_elim (λ u. inl (fst u.0, kept_fst u.1, typed_fst u.2)) (λ u. inr ((parts s z u.0 u.1 u.2 u.3).0)) (total_neutral z s p f)
    total_neutral z s (typed_snd p) f = ⊎_elim (λ u. inl (snd u.0, kept_snd u.1, typed_snd u.2)) (λ u. inr ((parts s z u.0 u.1 u.2 u.3).1)) (total_neutral z s p f)

    total_expression : (z : Assignment) (s : Environment) {g : Assignment} {e : PlainExpression} {us : SimpleTelescope} → TypedExpression w g e us → RankedEnvironment w k g z s → (x : PlainExpression) × SubstitutedExpression s e x × TypedExpression w z x us
    total_expression z s {g = g} (typed_step {ms = ms} {r = n} {e = e} {ts = ts} {us = us} p m q) f =
        let (x, a, b) = total_expression (extended_by ts z) (under (length ms) s) q (subst (λ i. RankedEnvironment w k (extended_by ts g) (extended_by ts z) (under i s)) (sym (ap length m)) (env_bounds w k ts g z s f)) in
        ⊎_elim (λ u. (step ms u.0 x, step_kept u.1 a, typed_step u.2 m b)) (λ u. step_total s u.2 (within u.3) ms m n u.1 e x us a b) (total_neutral z s p f)
      where
        within : 1 + ranks ts ≤ k → ranks ts < k
        within h = omega arith
    total_expression z s (typed_done p) f = let (x, a, b) = total_tuple z s p f in (done x, through_done a, typed_done b)

    total_tuple : (z : Assignment) (s : Environment) {g : Assignment} {t : PlainTuple} {ts : SimpleTelescope} → TypedTuple w g t ts → RankedEnvironment w k g z s → (x : PlainTuple) × SubstitutedTuple s t x × TypedTuple w z x ts
    total_tuple z s typed_empty f = (empty, through_empty, typed_empty)
    total_tuple z s (typed_entry {m = m} p q) f = let (x, a, b) = total z s p f in let (y, c, d) = total_tuple z s q f in (entry m x y, through_entry a c, typed_entry b d)

lower : (w : Bool) (k j : ℕ) → j < k → IsTotal w j
lower w zero j h = absurd (omega arith)
lower w (suc k) j h = λ g z s f. ((λ o t p. total w j (λ i l. lower w k i (omega arith)) z s p f), (λ e ts p. total_expression w j (λ i l. lower w k i (omega arith)) z s p f))

-- what is simply typed has a typed result
pub all_total : (w : Bool) (k : ℕ) → IsTotal w k
all_total w k = lower w (suc k) k (omega arith)
