-- Two substitutions, one after the other, are one.
use Rattle.clf_syntax.proofs.RenamingLaws.{cut, ext, identity, identity_expression, lift_id, square_expression}
use Rattle.clf_syntax.specs.Renaming.{lifted, ren, ren_expression, ren_head, up}
use Rattle.clf_syntax.specs.Simple.{Assignment, extended, extended_by, simple_modes}
use Rattle.clf_syntax.specs.Tree.{PlainExpression, PlainNeutral, PlainObject, PlainTuple, app, atomic, done, empty, entry, fst, head_alone, head_of, lam, monadic, pair, snd, step, unit}
use Rattle.clf_syntax.specs.TypeTree.{SimpleTelescope, SimpleType, arrow, lax, simple_binding, simple_end, simple_with}
use Rattle.clf_syntax.specs.declared.tree.Head.{Head}
use Rattle.clf_syntax.specs.declared.tree.Head.TheVariants.{Const, Meta, Var}
use Rattle.clf_syntax.specs.declared.tree.Mode.{Mode}
use Rattle.std.proofs.Common.{add-one, ap, arith, inl, inr, subst, sym, ⊎_elim, ◌∙◌}
use Rattle.std.specs.Prelude.{Bool, List, [], length, refl, suc, zero, ℕ, ◌++◌, ◌+◌, ◌-◌, ◌<◌, ◌∷◌, ◌≡◌, ◌≤◌, ◌⊎◌}
use Rattle.hered_subst.proofs.Determined.{apart, determined, determined_expression, determined_flattened, determined_kept, determined_value}
use Rattle.hered_subst.proofs.Renamed.{fits_under, lift_square, renamed, renamed_expression, renamed_flattened, single_out, under_in, under_out}
use Rattle.hered_subst.proofs.SimpleTyping.{Typed, TypedExpression, TypedNeutral, TypedTuple, among_past, rank, ranks, renamed_typed_expression, suited_all, tuple_length, typed_app, typed_atomic, typed_bare, typed_done, typed_empty, typed_entry, typed_fst, typed_lam, typed_metavariable, typed_monadic, typed_pair, typed_snd, typed_step, typed_unit, under_next, under_under, under_zero}
use Rattle.hered_subst.proofs.Single.{renames, renames_expression, under_keeping}
use Rattle.hered_subst.proofs.Total.{RankedEnvironment, Suits, all_total, env_bound, env_bounds, kept_kind, meta_of, putting_env, raised_all, single_env, then_total, total_neutral}
use Rattle.hered_subst.specs.Laws.{Fits, keeping}
use Rattle.hered_subst.specs.Substitution.{Environment, Flattened, HasValue, Image, KeepsHead, Substituted, SubstitutedExpression, SubstitutedTuple, among, flat_done, flat_step, keep, kept_app, kept_bare, kept_fst, kept_snd, objects, put, putting, ren_image, single, step_kept, step_meta, step_value, through_done, through_empty, through_entry, through_kept, through_lam, through_monadic, through_pair, through_unit, through_value, under, value_app, value_bare, value_fst, value_snd}
use Rattle.hered_subst.specs.TypedEnvironments.{is_metavariable}
use Rattle.subst_laws.proofs.Before.{before, fits_up}
use Rattle.subst_laws.specs.Environments.{Composed, Follows}

raised_follows : (n : ℕ) (u : Environment) (i k : Image) → Follows u i k → Follows (under n u) (ren_image (up n) i) (ren_image (up n) k)
raised_follows n u i k c = ⊎_elim
    (λ a. inl (ren_head (up n) a.0, ap (ren_image (up n)) a.1, ap (ren_image (up n)) a.2 ∙ sym (fits_up n u a.0)))
    (λ a. inr (ren (up n) a.0, ren (up n) a.1, ap (ren_image (up n)) a.2, ap (ren_image (up n)) a.3, renamed (up n) (up n) (under n u) (fits_up n u) a.4)) c

pub back : (n i : ℕ) → n ≤ i → i - n + n ≡ i
back n i h = omega arith

pub composed_bound : (d : SimpleType) (g : Assignment) (s u v : Environment) → Composed g s u v → Composed (extended d g) (under 1 s) (under 1 u) (under 1 v)
composed_bound d g s u v f (Const c) t e = raised_follows 1 u (s (Const c)) (v (Const c)) (f (Const c) t e)
composed_bound d g s u v f (Meta m) t e = raised_follows 1 u (s (Meta m)) (v (Meta m)) (f (Meta m) t e)
composed_bound d g s u v f (Var zero) t e = inl (Var 0, under_in 1 s 0 (omega arith), under_in 1 v 0 (omega arith) ∙ sym (under_in 1 u 0 (omega arith)))
composed_bound d g s u v f (Var (suc i)) t e = subst (λ o. Follows (under 1 u) o (under 1 v (Var (suc i)))) (sym (under_next s i))
    (subst (Follows (under 1 u) (ren_image (up 1) (s (Var i)))) (sym (under_next v i)) (raised_follows 1 u (s (Var i)) (v (Var i)) (f (Var i) t e)))

pub composed_bounds : (ts : SimpleTelescope) (g : Assignment) (s u v : Environment) → Composed g s u v → Composed (extended_by ts g) (under (length (simple_modes ts)) s) (under (length (simple_modes ts)) u) (under (length (simple_modes ts)) v)
composed_bounds simple_end g s u v f = subst (λ a. Composed g a (under 0 u) (under 0 v)) (sym (under_zero s)) (subst (λ a. Composed g s a (under 0 v)) (sym (under_zero u)) (subst (Composed g s u) (sym (under_zero v)) f))
composed_bounds (simple_binding m t ts) g s u v f = subst (λ a. Composed (extended_by ts (extended t g)) a (under (suc (length (simple_modes ts))) u) (under (suc (length (simple_modes ts))) v)) (under_under (length (simple_modes ts)) s)
    (subst (λ a. Composed (extended_by ts (extended t g)) (under (length (simple_modes ts)) (under 1 s)) a (under (suc (length (simple_modes ts))) v)) (under_under (length (simple_modes ts)) u)
    (subst (Composed (extended_by ts (extended t g)) (under (length (simple_modes ts)) (under 1 s)) (under (length (simple_modes ts)) (under 1 u))) (under_under (length (simple_modes ts)) v)
    (composed_bounds ts (extended t g) (under 1 s) (under 1 u) (under 1 v) (composed_bound t g s u v f))))

-- objects for the newest variables, and u for the others
abbrev pick : (ℕ → Image) → List PlainObject → ℕ → Image
pick f [] i = f i
pick f (n ∷ ns) zero = put n
pick f (n ∷ ns) (suc i) = pick f ns i

abbrev in_front : List PlainObject → Environment → Environment
in_front ns u (Const c) = u (Const c)
in_front ns u (Var i) = pick (λ j. u (Var j)) ns i
in_front ns u (Meta m) = u (Meta m)

data Each (u : Environment) : List PlainObject → List PlainObject → Type 0 where
  each_none : Each u [] []
  each_more : {n x : PlainObject} {ns xs : List PlainObject} → Substituted u n x → Each u ns xs → Each u (n ∷ ns) (x ∷ xs)

each_last : (u : Environment) {ns xs : List PlainObject} (n x : PlainObject) → Each u ns xs → Substituted u n x → Each u (ns ++ n ∷ []) (xs ++ x ∷ [])
each_last u n x each_none p = each_more p each_none
each_last u n x (each_more q e) p = each_more q (each_last u n x e p)

each_tuple : {u : Environment} {t x : PlainTuple} → SubstitutedTuple u t x → Each u (objects t) (objects x)
each_tuple through_empty = each_none
each_tuple {u = u} (through_entry {o = o} {x = x} p q) = each_last u o x (each_tuple q) p

picked : (u : Environment) {ns xs : List PlainObject} → Each u ns xs → (i : ℕ) → Follows u (among ns i) (pick (λ j. u (Var j)) xs i)
picked u each_none i = inl (Var i, refl, refl)
picked u (each_more {n = n} {x = x} p e) zero = inr (n, x, refl, refl, p)
picked u (each_more p e) (suc i) = picked u e i

composed_putting : (u : Environment) (ns xs : List PlainObject) → Each u ns xs → (h : Head) → Follows u (putting ns h) (in_front xs u h)
composed_putting u ns xs e (Const c) = inl (Const c, refl, refl)
composed_putting u ns xs e (Var i) = picked u e i
composed_putting u ns xs e (Meta m) = inl (Meta m, refl, refl)

putting_up : (ns : List PlainObject) (h : Head) → putting ns (ren_head (up (length ns)) h) ≡ keep h
putting_up ns (Const c) = refl
putting_up ns (Var i) = among_past ns i
putting_up ns (Meta m) = refl

head_idle : (h : Head) → keep h ≡ keeping (λ i. i) h
head_idle (Const c) = refl
head_idle (Var i) = refl
head_idle (Meta m) = refl

pub spare : (ns : List PlainObject) (n : PlainObject) → Substituted (putting ns) (ren (up (length ns)) n) n
spare ns n = before (up (length ns)) (putting ns) (subst (λ (s : Environment). Substituted s n n) (ext (λ h. sym (putting_up ns h ∙ head_idle h))) (subst (Substituted (keeping (λ i. i)) n) (identity n) (renames (λ i. i) n)))

spare_image : (ns : List PlainObject) (i : Image) → Follows (putting ns) (ren_image (up (length ns)) i) i
spare_image ns (keep h) = inl (ren_head (up (length ns)) h, refl, sym (putting_up ns h))
spare_image ns (put n) = inr (ren (up (length ns)) n, n, refl, refl, spare ns n)

pick_in : (f : ℕ → Image) (ns : List PlainObject) (i : ℕ) → i < length ns → pick f ns i ≡ among ns i
pick_in f [] i h = absurd (omega arith)
pick_in f (n ∷ ns) zero h = refl
pick_in f (n ∷ ns) (suc i) h = pick_in f ns i (omega arith)

pick_out : (f : ℕ → Image) (ns : List PlainObject) (i : ℕ) → pick f ns (i + length ns) ≡ f i
pick_out f [] i = ap f (plain_sum i)
  where
    plain_sum : (i : ℕ) → i + 0 ≡ i
    plain_sum i = omega arith
pick_out f (n ∷ ns) i = ap (pick f (n ∷ ns)) (sum (length ns)) ∙ pick_out f ns i
  where
    sum : (k : ℕ) → i + suc k ≡ suc (i + k)
    sum k = omega arith

composed_after : (u : Environment) (xs : List PlainObject) (h : Head) → Follows (putting xs) (under (length xs) u h) (in_front xs u h)
composed_after u xs (Const c) = spare_image xs (u (Const c))
composed_after u xs (Meta m) = spare_image xs (u (Meta m))
composed_after u xs (Var i) = ⊎_elim
    (λ h. inl (Var i, under_in (length xs) u i h, pick_in (λ j. u (Var j)) xs i h))
    (λ h. subst (λ j. Follows (putting xs) (under (length xs) u (Var j)) (pick (λ j. u (Var j)) xs j)) (back (length xs) i h)
    (subst (λ o. Follows (putting xs) o (pick (λ j. u (Var j)) xs (i - length xs + length xs))) (sym (under_out (length xs) u (i - length xs)))
    (subst (Follows (putting xs) (ren_image (up (length xs)) (u (Var (i - length xs))))) (sym (pick_out (λ j. u (Var j)) xs (i - length xs))) (spare_image xs (u (Var (i - length xs)))))))
    (cut i (length xs))

pub single_is : (y : PlainObject) → single y 0 ≡ putting (y ∷ [])
single_is y = ext (λ h. image_at h)
  where
    image_at : (h : Head) → single y 0 h ≡ putting (y ∷ []) h
    image_at (Const c) = refl
    image_at (Var zero) = refl
    image_at (Var (suc i)) = ap (λ j. single y 0 (Var j)) (sym (add-one i)) ∙ single_out y i
    image_at (Meta m) = refl

-- the statements
abbrev pub Three : Bool → Assignment → Assignment → Environment → Environment → Environment → PlainObject → SimpleType → Type 0
Three w z y s u v o t = (x : PlainObject) × (r : PlainObject) × Substituted s o x × Substituted u x r × Substituted v o r × Typed w z x t × Typed w y r t

abbrev pub ThreeExpression : Bool → Assignment → Assignment → Environment → Environment → Environment → PlainExpression → SimpleTelescope → Type 0
ThreeExpression w z y s u v o t = (x : PlainExpression) × (r : PlainExpression) × SubstitutedExpression s o x × SubstitutedExpression u x r × SubstitutedExpression v o r × TypedExpression w z x t × TypedExpression w y r t

abbrev pub Composes : Bool → ℕ → ℕ → Type 0
Composes w m n = (g z y : Assignment) (s u v : Environment) → RankedEnvironment w m g z s → RankedEnvironment w n z y u → Composed g s u v
    → ((o : PlainObject) (t : SimpleType) → Typed w g o t → Three w z y s u v o t) × ((e : PlainExpression) (ts : SimpleTelescope) → TypedExpression w g e ts → ThreeExpression w z y s u v e ts)

-- substitution goes into the steps and the rest
abbrev pub ThenComposes : Bool → SimpleTelescope → ℕ → Type 0
ThenComposes w ts n = (z y : Assignment) (u : Environment) → RankedEnvironment w n z y u → (g d : PlainExpression) → TypedExpression w z g ts → SubstitutedExpression u g d → (f k : PlainExpression) (us : SimpleTelescope) → TypedExpression w (extended_by ts z) f us → SubstitutedExpression (under (length (simple_modes ts)) u) f k
    → (x : PlainExpression) × (r : PlainExpression) × Flattened (length (simple_modes ts)) g f x × SubstitutedExpression u x r × Flattened (length (simple_modes ts)) d k r × TypedExpression w z x us × TypedExpression w y r us

-- what a typed part becomes is typed
pub expression_typed : (w : Bool) (k : ℕ) {g z : Assignment} {s : Environment} {e x : PlainExpression} {ts : SimpleTelescope} → TypedExpression w g e ts → RankedEnvironment w k g z s → SubstitutedExpression s e x → TypedExpression w z x ts
expression_typed w k {g = g} {z = z} {s = s} {e = e} {ts = ts} p f q = let (x, a, b) = (all_total w k g z s f).1 e ts p in subst (λ (o : PlainExpression). TypedExpression w z o ts) (determined_expression a q) b

pub kept_typed : (w : Bool) (k : ℕ) {g z : Assignment} {s : Environment} {n x : PlainNeutral} {t : SimpleType} → TypedNeutral w g n t → RankedEnvironment w k g z s → KeepsHead s n x → TypedNeutral w z x t
kept_typed w k {z = z} {s = s} {t = t} p f q = ⊎_elim (λ a. subst (λ (o : PlainNeutral). TypedNeutral w z o t) (determined_kept a.1 q) a.2) (λ a. absurd (apart q a.1)) (total_neutral w k (λ j l. all_total w j) z s p f)

pub value_typed : (w : Bool) (k : ℕ) {g z : Assignment} {s : Environment} {n : PlainNeutral} {x : PlainObject} {t : SimpleType} → TypedNeutral w g n t → RankedEnvironment w k g z s → HasValue s n x → Typed w z x t × (rank t ≤ k)
value_typed w k {z = z} {s = s} {t = t} p f q = ⊎_elim (λ a. absurd (apart a.1 q)) (λ a. (subst (λ (o : PlainObject). Typed w z o t) (determined_value a.1 q) a.2, a.3)) (total_neutral w k (λ j l. all_total w j) z s p f)

pub spare_expression : (k : ℕ) (ns : List PlainObject) (p : ℕ) → length ns ≡ p → (f : PlainExpression) → SubstitutedExpression (under k (putting ns)) (ren_expression (lifted k (up p)) f) f
spare_expression k ns p e f = subst (λ q. SubstitutedExpression (under k (putting ns)) (ren_expression (lifted k (up q)) f) f) e
    (subst (SubstitutedExpression (under k (putting ns)) (ren_expression (lifted k (up (length ns))) f)) (ap (λ g. ren_expression g f) (lift_id k) ∙ identity_expression f)
    (renamed_expression (lifted k (up (length ns))) (lifted k (λ i. i)) (under k (putting ns)) (fits_under k (up (length ns)) (λ i. i) (keeping (λ i. i)) (putting ns) fits)
    (subst (λ (s : Environment). SubstitutedExpression s f f) (sym (under_keeping k (λ i. i) ∙ ap keeping (lift_id k))) (subst (SubstitutedExpression (keeping (λ i. i)) f) (identity_expression f) (renames_expression (λ i. i) f)))))
  where
    fits : Fits (up (length ns)) (λ i. i) (keeping (λ i. i)) (putting ns)
    fits (Const c) = refl
    fits (Var i) = among_past ns i
    fits (Meta m) = refl

pub under_types : (ps : SimpleTelescope) (y : Assignment) (ms : List Mode) → ms ≡ simple_modes ps → (h : Head) → extended_by ps y (ren_head (up (length ms)) h) ≡ y h
under_types ps y ms m = subst (λ n. (h : Head) → extended_by ps y (ren_head (up n) h) ≡ y h) (sym (ap length m)) (raised_all ps y)

module _ (w : Bool) (ts : SimpleTelescope) (n : ℕ) (one_way : Composes w (ranks ts) n) (other_way : Composes w n (ranks ts)) (less : (j : ℕ) → j < n → ThenComposes w ts j) where
  -- steps, and then steps
  assoc : {y : Assignment} {h : PlainExpression} {ps : SimpleTelescope} → TypedExpression w y h ps → ranks ps < n → (e : PlainExpression) → TypedExpression w (extended_by ps y) e ts → (d : PlainExpression) → Flattened (length (simple_modes ps)) h e d
      → (f : PlainExpression) (us : SimpleTelescope) → TypedExpression w (extended_by ts y) f us → (x : PlainExpression) → Flattened (length (simple_modes ts)) e (ren_expression (lifted (length (simple_modes ts)) (up (length (simple_modes ps)))) f) x
      → (r : PlainExpression) × Flattened (length (simple_modes ps)) h x r × Flattened (length (simple_modes ts)) d f r × TypedExpression w y r us
  assoc {y = y} {ps = ps} (typed_step {ms = ms} {r = a} {e = h} {ts = qs} pa m q) lt e te d (flat_step {h = i} th) f us tf x th2 =
      let (r, b, c, tr) = assoc q lt (ren_expression (lifted (length (simple_modes ps)) (up (length ms))) e)
      (renamed_typed_expression (extended_by ps (extended_by qs y)) (lifted (length (simple_modes ps)) (up (length ms))) te (suited_all ps y (extended_by qs y) (up (length ms)) (under_types qs y ms m)))
      i th (ren_expression (lifted (length (simple_modes ts)) (up (length ms))) f) us
      (renamed_typed_expression (extended_by ts (extended_by qs y)) (lifted (length (simple_modes ts)) (up (length ms))) tf (suited_all ts y (extended_by qs y) (up (length ms)) (under_types qs y ms m)))
      (ren_expression (lifted (length (simple_modes ps)) (up (length ms))) x)
      (subst (λ (o : PlainExpression). Flattened (length (simple_modes ts)) (ren_expression (lifted (length (simple_modes ps)) (up (length ms))) e) o (ren_expression (lifted (length (simple_modes ps)) (up (length ms))) x))
      (square_expression (lifted (length (simple_modes ts)) (lifted (length (simple_modes ps)) (up (length ms)))) (lifted (length (simple_modes ts)) (up (length (simple_modes ps)))) (lifted (length (simple_modes ts)) (up (length (simple_modes ps)))) (lifted (length (simple_modes ts)) (up (length ms))) (lift_square (length (simple_modes ts)) (up (length ms)) (length (simple_modes ps))) f)
      (renamed_flattened (lifted (length (simple_modes ps)) (up (length ms))) th2)) in
      (step ms a r, flat_step b, flat_step c, typed_step pa m tr)
  assoc {y = y} {ps = ps} (typed_done {t = t} pt) lt e te d (flat_done l sub) f us tf x th2 =
      let (o, r, a, b, c, to, tr) = less (ranks ps) lt (extended_by ps y) y (putting (objects t)) (putting_env w ps y t pt) e d te sub (ren_expression (lifted (length (simple_modes ts)) (up (length (simple_modes ps)))) f) f us
      (renamed_typed_expression (extended_by ts (extended_by ps y)) (lifted (length (simple_modes ts)) (up (length (simple_modes ps)))) tf (suited_all ts y (extended_by ps y) (up (length (simple_modes ps))) (raised_all ps y)))
      (spare_expression (length (simple_modes ts)) (objects t) (length (simple_modes ps)) (tuple_length pt) f) in
      (r, flat_done l (subst (λ (i : PlainExpression). SubstitutedExpression (putting (objects t)) i r) (determined_flattened a th2) b), c, tr)

  abbrev Result : (z y : Assignment) (u : Environment) (g d f k : PlainExpression) (us : SimpleTelescope) → Type 0
  Result z y u g d f k us = (x : PlainExpression) × (r : PlainExpression) × Flattened (length (simple_modes ts)) g f x × SubstitutedExpression u x r × Flattened (length (simple_modes ts)) d k r × TypedExpression w z x us × TypedExpression w y r us

  at_end : (z y : Assignment) (u : Environment) → RankedEnvironment w n z y u → (t x : PlainTuple) → TypedTuple w z t ts → TypedExpression w y (done x) ts → SubstitutedTuple u t x → (f k : PlainExpression) (us : SimpleTelescope) → TypedExpression w (extended_by ts z) f us → SubstitutedExpression (under (length (simple_modes ts)) u) f k
      → Result z y u (done t) (done x) f k us
  at_end z y u env t x pt (typed_done px) st f k us tf sf =
      let (o, r, a, b, c, to, tr) = (one_way (extended_by ts z) z y (putting (objects t)) u (in_front (objects x) u) (putting_env w ts z t pt) env (λ h a q. composed_putting u (objects t) (objects x) (each_tuple st) h)).1 f us tf in
      let (i, j, a2, b2, c2, ti, tj) = (other_way (extended_by ts z) (extended_by ts y) y (under (length (simple_modes ts)) u) (putting (objects x)) (in_front (objects x) u) (env_bounds w n ts z y u env) (putting_env w ts y x px)
      (λ h a e. subst (λ q. Follows (putting (objects x)) (under q u h) (in_front (objects x) u h)) (tuple_length px) (composed_after u (objects x) h))).1 f us tf in
      (o, r, flat_done (tuple_length pt) a, b, flat_done (tuple_length px) (subst (SubstitutedExpression (putting (objects x)) k) (determined_expression c2 c) (subst (λ (q : PlainExpression). SubstitutedExpression (putting (objects x)) q j) (determined_expression a2 sf) b2)), to, tr)

  mon_typed : {y : Assignment} {h : PlainExpression} {ps : SimpleTelescope} → Typed w y (monadic h) (lax ps) → TypedExpression w y h ps
  mon_typed (typed_monadic p) = p

  leaf_typed : {y : Assignment} {i : PlainNeutral} {ps : SimpleTelescope} → Typed w y (atomic i) (lax ps) → TypedNeutral w y i (lax ps)
  leaf_typed (typed_metavariable j p e) = p

  one_step : (z y : Assignment) (u : Environment) → RankedEnvironment w n z y u → (a : PlainNeutral) (g : PlainExpression) (ps : SimpleTelescope) → TypedNeutral w z a (lax ps) → TypedExpression w (extended_by ps z) g ts
      → ((d f k : PlainExpression) (us : SimpleTelescope) → RankedEnvironment w n (extended_by ps z) (extended_by ps y) (under (length (simple_modes ps)) u) → SubstitutedExpression (under (length (simple_modes ps)) u) g d → TypedExpression w (extended_by ts (extended_by ps z)) f us → SubstitutedExpression (under (length (simple_modes ts)) (under (length (simple_modes ps)) u)) f k → Result (extended_by ps z) (extended_by ps y) (under (length (simple_modes ps)) u) g d f k us)
      → (d f k : PlainExpression) (us : SimpleTelescope) → SubstitutedExpression u (step (simple_modes ps) a g) d → TypedExpression w (extended_by ts z) f us → SubstitutedExpression (under (length (simple_modes ts)) u) f k → Result z y u (step (simple_modes ps) a g) d f k us
  one_step z y u env a g ps pa tg rec d f k us (step_kept {x = b} {f = i} kp sg) tf sf =
      let (x, r, c, e, h, tx, tr) = rec i (ren_expression (lifted (length (simple_modes ts)) (up (length (simple_modes ps)))) f) (ren_expression (lifted (length (simple_modes ts)) (up (length (simple_modes ps)))) k) us (env_bounds w n ps z y u env) sg
      (renamed_typed_expression (extended_by ts (extended_by ps z)) (lifted (length (simple_modes ts)) (up (length (simple_modes ps)))) tf (suited_all ts z (extended_by ps z) (up (length (simple_modes ps))) (raised_all ps z)))
      (renamed_expression (lifted (length (simple_modes ts)) (up (length (simple_modes ps)))) (lifted (length (simple_modes ts)) (up (length (simple_modes ps)))) (under (length (simple_modes ts)) (under (length (simple_modes ps)) u))
      (fits_under (length (simple_modes ts)) (up (length (simple_modes ps))) (up (length (simple_modes ps))) u (under (length (simple_modes ps)) u) (fits_up (length (simple_modes ps)) u)) sf) in
      (step (simple_modes ps) a x, step (simple_modes ps) b r, flat_step c, step_kept kp e, flat_step h, typed_step pa refl tx, typed_step (kept_typed w n pa env kp) refl tr)
  one_step z y u env a g ps pa tg rec d f k us (step_meta {x = b} {f = i} vv j sg) tf sf =
      let (x, r, c, e, h, tx, tr) = rec i (ren_expression (lifted (length (simple_modes ts)) (up (length (simple_modes ps)))) f) (ren_expression (lifted (length (simple_modes ts)) (up (length (simple_modes ps)))) k) us (env_bounds w n ps z y u env) sg
      (renamed_typed_expression (extended_by ts (extended_by ps z)) (lifted (length (simple_modes ts)) (up (length (simple_modes ps)))) tf (suited_all ts z (extended_by ps z) (up (length (simple_modes ps))) (raised_all ps z)))
      (renamed_expression (lifted (length (simple_modes ts)) (up (length (simple_modes ps)))) (lifted (length (simple_modes ts)) (up (length (simple_modes ps)))) (under (length (simple_modes ts)) (under (length (simple_modes ps)) u))
      (fits_under (length (simple_modes ts)) (up (length (simple_modes ps))) (up (length (simple_modes ps))) u (under (length (simple_modes ps)) u) (fits_up (length (simple_modes ps)) u)) sf) in
      (step (simple_modes ps) a x, step (simple_modes ps) b r, flat_step c, step_meta vv j e, flat_step h, typed_step pa refl tx, typed_step (leaf_typed (value_typed w n pa env vv).0) refl tr)
  one_step z y u env a g ps pa tg rec d f k us (step_value {f = i} {g = h0} vv sg th) tf sf =
      let (x, q, c, e, h, tx, tq) = rec i (ren_expression (lifted (length (simple_modes ts)) (up (length (simple_modes ps)))) f) (ren_expression (lifted (length (simple_modes ts)) (up (length (simple_modes ps)))) k) us (env_bounds w n ps z y u env) sg
      (renamed_typed_expression (extended_by ts (extended_by ps z)) (lifted (length (simple_modes ts)) (up (length (simple_modes ps)))) tf (suited_all ts z (extended_by ps z) (up (length (simple_modes ps))) (raised_all ps z)))
      (renamed_expression (lifted (length (simple_modes ts)) (up (length (simple_modes ps)))) (lifted (length (simple_modes ts)) (up (length (simple_modes ps)))) (under (length (simple_modes ts)) (under (length (simple_modes ps)) u))
      (fits_under (length (simple_modes ts)) (up (length (simple_modes ps))) (up (length (simple_modes ps))) u (under (length (simple_modes ps)) u) (fits_up (length (simple_modes ps)) u)) sf) in
      let (r, b1, b2, tr) = assoc (mon_typed (value_typed w n pa env vv).0) (within (value_typed w n pa env vv).1) i (expression_typed w n tg (env_bounds w n ps z y u env) sg) d th k us (expression_typed w n tf (env_bounds w n ts z y u env) sf) q h in
      (step (simple_modes ps) a x, r, flat_step c, step_value vv e b1, b2, typed_step pa refl tx, tr)
    where
      within : 1 + ranks ps ≤ n → ranks ps < n
      within h = omega arith

  goes : (z y : Assignment) (u : Environment) {g : PlainExpression} → TypedExpression w z g ts → RankedEnvironment w n z y u → (d : PlainExpression) → SubstitutedExpression u g d → (f k : PlainExpression) (us : SimpleTelescope) → TypedExpression w (extended_by ts z) f us → SubstitutedExpression (under (length (simple_modes ts)) u) f k
      → Result z y u g d f k us
  goes z y u (typed_done {t = t} pt) env d (through_done {u = x} st) f k us tf sf = at_end z y u env t x pt (expression_typed w n (typed_done pt) env (through_done st)) st f k us tf sf
  goes z y u (typed_step {ms = ms} {r = a} {e = g} {ts = ps} pa m q) env d sd f k us tf sf =
      subst (λ i. (d : PlainExpression) → SubstitutedExpression u (step i a g) d → Result z y u (step i a g) d f k us) (sym m)
      (λ d sd. one_step z y u env a g ps pa q (λ d f k us env2 sd tf sf. goes (extended_by ps z) (extended_by ps y) (under (length (simple_modes ps)) u) q env2 d sd f k us tf sf) d f k us sd tf sf) d sd

pub pair_typed : (w : Bool) {y : Assignment} {c d : SimpleType} {r : PlainObject} → Typed w y r (simple_with c d) → (a : PlainObject) × (b : PlainObject) × (r ≡ pair a b) × Typed w y a c × Typed w y b d
pair_typed w (typed_pair {l = l} {r = r} p q) = (l, r, refl, p, q)

pub lam_typed : (w : Bool) {y : Assignment} {m : Mode} {d c : SimpleType} {r : PlainObject} → Typed w y r (arrow m d c) → (b : PlainObject) × (r ≡ lam m b) × Typed w (extended d y) b c
lam_typed w (typed_lam {b = b} p) = (b, refl, p)

body_of : {u : Environment} {m : Mode} {b r : PlainObject} → Substituted u (lam m b) r → (a : PlainObject) × (r ≡ lam m a) × Substituted (under 1 u) b a
body_of (through_lam {x = x} p) = (x, refl, p)

parts_of : {u : Environment} {a b r : PlainObject} → Substituted u (pair a b) r → (c : PlainObject) × (d : PlainObject) × (r ≡ pair c d) × Substituted u a c × Substituted u b d
parts_of (through_pair {x = x} {y = y} p q) = (x, y, refl, p, q)

steps_of : {u : Environment} {e : PlainExpression} {r : PlainObject} → Substituted u (monadic e) r → (d : PlainExpression) × (r ≡ monadic d) × SubstitutedExpression u e d
steps_of (through_monadic {f = f} p) = (f, refl, p)

pub pair_parts : (w : Bool) {y : Assignment} {c d : SimpleType} {a b : PlainObject} → Typed w y (pair a b) (simple_with c d) → Typed w y a c × Typed w y b d
pair_parts w (typed_pair p q) = (p, q)

pub object_typed : (w : Bool) (k : ℕ) {g z : Assignment} {s : Environment} {o x : PlainObject} {t : SimpleType} → Typed w g o t → RankedEnvironment w k g z s → Substituted s o x → Typed w z x t
object_typed w k {g = g} {z = z} {s = s} {o = o} {t = t} p f q = let (x, a, b) = (all_total w k g z s f).0 o t p in subst (λ (i : PlainObject). Typed w z i t) (determined a q) b

pub clash : {i : Image} {j : Head} {n : PlainObject} → i ≡ keep j → i ≡ put n → ⊥
clash e f = cc

pub same_head : {i : Image} {j k : Head} → i ≡ keep j → i ≡ keep k → j ≡ k
same_head e f = cc

pub same_put : {i : Image} {j k : PlainObject} → i ≡ put j → i ≡ put k → j ≡ k
same_put e f = cc

module _ (w : Bool) (m n : ℕ) (left : (j : ℕ) → j < m → Composes w j n) (right : (j : ℕ) → j < m → Composes w n j) (thens : (ts : SimpleTelescope) → ranks ts < m → ThenComposes w ts n) where
  abbrev Kept : Assignment → Assignment → Environment → Environment → Environment → PlainNeutral → SimpleType → Type 0
  Kept z y s u v i t = (x : PlainNeutral) × KeepsHead s i x × TypedNeutral w z x t × (((r : PlainNeutral) × KeepsHead u x r × KeepsHead v i r × TypedNeutral w y r t) ⊎ ((r : PlainObject) × HasValue u x r × HasValue v i r × Typed w y r t × (rank t ≤ n)))

  abbrev Valued : Assignment → Assignment → Environment → Environment → Environment → PlainNeutral → SimpleType → Type 0
  Valued z y s u v i t = (x : PlainObject) × (r : PlainObject) × HasValue s i x × Substituted u x r × HasValue v i r × Typed w z x t × Typed w y r t × (rank t ≤ m)

  image_at : (z y : Assignment) (s u v : Environment) (t : SimpleType) (h : Head) → Suits w m z t h (s h) → RankedEnvironment w n z y u → Follows u (s h) (v h) → Kept z y s u v (head_alone h) t ⊎ Valued z y s u v (head_alone h) t
  image_at z y s u v t h es eu f = ⊎_elim
      (λ a. ⊎_elim
      (λ b. inl (
        head_alone a.0,
        kept_bare a.1,
        typed_bare a.2,
        ⊎_elim
            (λ c. inl (head_alone c.0, kept_bare c.1, kept_bare (b.2 ∙ ap u (same_head b.1 a.1) ∙ c.1), typed_bare c.2))
            (λ c. inr (c.0, value_bare c.1, value_bare (b.2 ∙ ap u (same_head b.1 a.1) ∙ c.1), c.2, c.3))
            (eu a.0 t a.2),
      ))
      (λ b. absurd (clash a.1 b.2)) f)
      (λ a. ⊎_elim (λ b. absurd (clash b.1 a.1))
      (λ b. let sub : Substituted u a.0 b.1 = subst (λ (q : PlainObject). Substituted u q b.1) (same_put b.2 a.1) b.4 in inr (a.0, b.1, value_bare a.1, sub, value_bare b.3, a.2, object_typed w n a.2 eu sub, a.3)) f)
      es

  -- a lambda, put by u for a head that s keeps
  after_kept : (z y : Assignment) (s u v : Environment) (k : Mode) (d c : SimpleType) (i : PlainNeutral) (o : PlainObject) (x : PlainNeutral) (r : PlainObject) → KeepsHead s i x → TypedNeutral w z x (arrow k d c) → HasValue u x r → HasValue v i r → Typed w y r (arrow k d c) → rank (arrow k d c) ≤ n
      → Three w z y s u v o d → Kept z y s u v (app k i o) c
  after_kept z y s u v k d c i o x r ks tx vu vv tr h (a, b, sa, ub, vb, ta, tb) =
      let (l, e, tl) = lam_typed w tr in
      let (q, sq, tq) = (all_total w (rank d) (extended d y) y (single b 0) (single_env w d y b tb)).0 l c tl in
      (app k x a, kept_app ks sa, typed_app tx ta, inr (q, value_app (subst (HasValue u x) e vu) ub sq, value_app (subst (HasValue v i) e vv) vb sq, tq, within h))
    where
      within : 1 + (rank d + rank c) ≤ n → rank c ≤ n
      within h = omega arith

  -- a lambda, put by s
  after_value : (z y : Assignment) (s u v : Environment) → RankedEnvironment w n z y u → (k : Mode) (d c : SimpleType) (i : PlainNeutral) (o : PlainObject) (x r : PlainObject) → HasValue s i x → Substituted u x r → HasValue v i r → Typed w z x (arrow k d c) → rank (arrow k d c) ≤ m
      → Three w z y s u v o d → Valued z y s u v (app k i o) c
  after_value z y s u v env k d c i o x r vs ux vv tx h (a, b, sa, ub, vb, ta, tb) =
      let (l, e, tl) = lam_typed w tx in
      let (l2, e2, ul) = body_of (subst (λ (q : PlainObject). Substituted u q r) e ux) in
      let (p, q, sp, uq, aq, tp, tq) = (left (rank d) (low h) (extended d z) z y (single a 0) u (in_front (b ∷ []) u) (single_env w d z a ta) env
      (λ h t e. subst (λ f. Follows u (f h) (in_front (b ∷ []) u h)) (sym (single_is a)) (composed_putting u (a ∷ []) (b ∷ []) (each_more ub each_none) h))).0 l c tl in
      let (p2, q2, sp2, uq2, aq2, tp2, tq2) = (right (rank d) (low h) (extended d z) (extended d y) y (under 1 u) (single b 0) (in_front (b ∷ []) u) (env_bound w n d z y u env) (single_env w d y b tb)
      (λ h t e. subst (λ f. Follows f (under 1 u h) (in_front (b ∷ []) u h)) (sym (single_is b)) (composed_after u (b ∷ []) h))).0 l c tl in (
        p,
        q,
        value_app (subst (HasValue s i) e vs) sa sp,
        uq,
        value_app (subst (HasValue v i) e2 vv) vb (subst (Substituted (single b 0) l2) (determined aq2 aq) (subst (λ (t : PlainObject). Substituted (single b 0) t q2) (determined sp2 ul) uq2)),
        tp,
        tq,
        within h,
      )
    where
      low : 1 + (rank d + rank c) ≤ m → rank d < m
      low h = omega arith

      within : 1 + (rank d + rank c) ≤ m → rank c ≤ m
      within h = omega arith

  -- steps, put by u for the head of what is put first
  step_after : (y : Assignment) (u : Environment) (ts : SimpleTelescope) (ms : List Mode) → ms ≡ simple_modes ts → (i : PlainNeutral) (r : PlainObject) → Typed w y r (lax ts) → HasValue u i r → (v : Environment) (j : PlainNeutral) → HasValue v j r → (e f k : PlainExpression) (us : SimpleTelescope)
      → SubstitutedExpression (under (length ms) u) f k → SubstitutedExpression (under (length ms) v) e k → TypedExpression w (extended_by ts y) k us → (x : PlainExpression) × SubstitutedExpression u (step ms i f) x × SubstitutedExpression v (step ms j e) x × TypedExpression w y x us
  step_after y u ts ms h i r (typed_monadic {e = g} p) vu v j vv e f k us sf se tk =
      let (x, a, b) = then_total w (suc (ranks ts)) (λ q l. all_total w q) p (omega arith) k us tk in
      (x, step_value vu sf (subst (λ q. Flattened q g k x) (sym (ap length h)) a), step_value vv se (subst (λ q. Flattened q g k x) (sym (ap length h)) a), b)
  step_after y u ts ms h i r (typed_metavariable {n = q} z p l) vu v j vv e f k us sf se tk = (step ms q k, step_meta vu l sf, step_meta vv l se, typed_step p h tk)

  -- a step whose right side s gives a value
  value_step : (z y : Assignment) (s u v : Environment) → RankedEnvironment w n z y u → (ts : SimpleTelescope) (ms : List Mode) → ms ≡ simple_modes ts → (i : PlainNeutral) (x r : PlainObject) → Typed w z x (lax ts) → rank (lax ts) ≤ m → HasValue s i x → Substituted u x r → Typed w y r (lax ts) → HasValue v i r
      → (e f k : PlainExpression) (us : SimpleTelescope) → SubstitutedExpression (under (length ms) s) e f → SubstitutedExpression (under (length ms) u) f k → SubstitutedExpression (under (length ms) v) e k → TypedExpression w (extended_by ts z) f us → TypedExpression w (extended_by ts y) k us
      → ThreeExpression w z y s u v (step ms i e) us
  value_step z y s u v env ts ms h i x r (typed_monadic {e = g} p) le vs ux tr vv e f k us se uf ve tf tk =
      let (d, eq, ud) = steps_of ux in
      let (a, b, ta, ub, tb, tya, tyb) = thens ts (within le) z y u env g d p ud f k us tf (subst (λ q. SubstitutedExpression (under q u) f k) (ap length h) uf) in
      (a, b, step_value vs se (subst (λ q. Flattened q g f a) (sym (ap length h)) ta), ub, step_value (subst (HasValue v i) eq vv) ve (subst (λ q. Flattened q d k b) (sym (ap length h)) tb), tya, tyb)
    where
      within : 1 + ranks ts ≤ m → ranks ts < m
      within q = omega arith
  value_step z y s u v env ts ms h i x r (typed_metavariable {n = q} j p l) le vs (through_kept {x = q2} kq) tr vv e f k us se uf ve tf tk =
      let (b, bi) = meta_of (head_of q2) (kept_kind w n p env kq ∙ ap is_metavariable l) in
      (step ms q f, step ms q2 k, step_meta vs l se, step_kept kq uf, step_meta vv bi ve, typed_step p h tf, typed_step (kept_typed w n p env kq) h tk)
  value_step z y s u v env ts ms h i x r (typed_metavariable {n = q} j p l) le vs (through_value vq) tr vv e f k us se uf ve tf tk =
      let (b, ub, vb, tb) = step_after y u ts ms h q r tr vq v i vv e f k us uf ve tk in
      (step ms q f, b, step_meta vs l se, ub, vb, typed_step p h tf, tb)

  -- a step, from its right side and the rest
  three_step : (z y : Assignment) (s u v : Environment) → RankedEnvironment w n z y u → (ts : SimpleTelescope) (ms : List Mode) → ms ≡ simple_modes ts → (i : PlainNeutral) (e : PlainExpression) (us : SimpleTelescope)
      → ThreeExpression w (extended_by ts z) (extended_by ts y) (under (length ms) s) (under (length ms) u) (under (length ms) v) e us → Kept z y s u v i (lax ts) ⊎ Valued z y s u v i (lax ts) → ThreeExpression w z y s u v (step ms i e) us
  three_step z y s u v eu ts ms h i e us (x, r, a, b, c, tx, tr) o = ⊎_elim
      (λ l. ⊎_elim
      (λ k. (step ms l.0 x, step ms k.0 r, step_kept l.1 a, step_kept k.1 b, step_kept k.2 c, typed_step l.2 h tx, typed_step k.3 h tr))
      (λ k. let (o, uo, vo, to) = step_after y u ts ms h l.0 k.0 k.3 k.1 v i k.2 e x r us b c tr in (step ms l.0 x, o, step_kept l.1 a, uo, vo, typed_step l.2 h tx, to)) l.3)
      (λ l. value_step z y s u v eu ts ms h i l.0 l.1 l.5 l.7 l.2 l.3 l.6 l.4 e x r us a b c tx tr)
      o

  mutual
    three : (z y : Assignment) (s u v : Environment) {g : Assignment} {o : PlainObject} {t : SimpleType} → Typed w g o t → RankedEnvironment w m g z s → RankedEnvironment w n z y u → Composed g s u v → Three w z y s u v o t
    three z y s u v (typed_lam {g = g} {m = k} {d = d} p) es eu f =
        let (x, r, a, b, c, tx, tr) = three (extended d z) (extended d y) (under 1 s) (under 1 u) (under 1 v) p (env_bound w m d g z s es) (env_bound w n d z y u eu) (composed_bound d g s u v f) in
        (lam k x, lam k r, through_lam a, through_lam b, through_lam c, typed_lam tx, typed_lam tr)
    three z y s u v (typed_pair p q) es eu f =
        let (x, r, a, b, c, tx, tr) = three z y s u v p es eu f in
        let (x2, r2, a2, b2, c2, tx2, tr2) = three z y s u v q es eu f in
        (pair x x2, pair r r2, through_pair a a2, through_pair b b2, through_pair c c2, typed_pair tx tx2, typed_pair tr tr2)
    three z y s u v typed_unit es eu f = (unit, unit, through_unit, through_unit, through_unit, typed_unit, typed_unit)
    three z y s u v (typed_monadic p) es eu f = let (x, r, a, b, c, tx, tr) = three_expression z y s u v p es eu f in (monadic x, monadic r, through_monadic a, through_monadic b, through_monadic c, typed_monadic tx, typed_monadic tr)
    three z y s u v (typed_atomic p) es eu f = ⊎_elim
        (λ q. ⊎_elim
        (λ l. (atomic q.0, atomic l.0, through_kept q.1, through_kept l.1, through_kept l.2, typed_atomic q.2, typed_atomic l.3))
        (λ l. (atomic q.0, l.0, through_kept q.1, through_value l.1, through_value l.2, typed_atomic q.2, l.3)) q.3)
        (λ q. (q.0, q.1, through_value q.2, q.3, through_value q.4, q.5, q.6)) (three_neutral z y s u v p es eu f)
    three z y s u v (typed_metavariable {n = i} j p e) es eu f = ⊎_elim
        (λ q. let (a, ai) = meta_of (head_of q.0) (kept_kind w m p es q.1 ∙ ap is_metavariable e) in ⊎_elim
        (λ l. let (b, bi) = meta_of (head_of l.0) (kept_kind w n q.2 eu l.1 ∙ ap is_metavariable ai) in (atomic q.0, atomic l.0, through_kept q.1, through_kept l.1, through_kept l.2, typed_metavariable j q.2 ai, typed_metavariable j l.3 bi))
        (λ l. (atomic q.0, l.0, through_kept q.1, through_value l.1, through_value l.2, typed_metavariable j q.2 ai, l.3)) q.3)
        (λ q. (q.0, q.1, through_value q.2, q.3, through_value q.4, q.5, q.6)) (three_neutral z y s u v p es eu f)

    three_neutral : (z y : Assignment) (s u v : Environment) {g : Assignment} {i : PlainNeutral} {t : SimpleType} → TypedNeutral w g i t → RankedEnvironment w m g z s → RankedEnvironment w n z y u → Composed g s u v → Kept z y s u v i t ⊎ Valued z y s u v i t
    three_neutral z y s u v {g = g} (typed_bare {h = h} {t = t} e) es eu f = image_at z y s u v t h (es h t e) eu (f h t e)
    three_neutral z y s u v (typed_app {m = k} {r = i} {o = o} {d = d} {c = c} p q) es eu f =
        let a = three z y s u v q es eu f in
        ⊎_elim
        (λ l. ⊎_elim
        (λ b. inl (app k l.0 a.0, kept_app l.1 a.2, typed_app l.2 a.5, inl (app k b.0 a.1, kept_app b.1 a.3, kept_app b.2 a.4, typed_app b.3 a.6)))
        (λ b. inl (after_kept z y s u v k d c i o l.0 b.0 l.1 l.2 b.1 b.2 b.3 b.4 a)) l.3)
        (λ l. inr (after_value z y s u v eu k d c i o l.0 l.1 l.2 l.3 l.4 l.5 l.7 a))
        (three_neutral z y s u v p es eu f)
    three_neutral z y s u v (typed_fst {r = i} {c = c} {d = d} p) es eu f = ⊎_elim
        (λ l. ⊎_elim
        (λ b. inl (fst l.0, kept_fst l.1, typed_fst l.2, inl (fst b.0, kept_fst b.1, kept_fst b.2, typed_fst b.3)))
        (λ b. let (a1, a2, e, t1, t2) = pair_typed w b.3 in inl (fst l.0, kept_fst l.1, typed_fst l.2, inr (a1, value_fst (subst (HasValue u l.0) e b.1), value_fst (subst (HasValue v i) e b.2), t1, low b.4))) l.3)
        (λ l. let (a1, a2, e, t1, t2) = pair_typed w l.5 in let (c1, c2, e2, s1, s2) = parts_of (subst (λ (q : PlainObject). Substituted u q l.1) e l.3) in
        inr (a1, c1, value_fst (subst (HasValue s i) e l.2), s1, value_fst (subst (HasValue v i) e2 l.4), t1, (pair_parts w (subst (λ (q : PlainObject). Typed w y q (simple_with c d)) e2 l.6)).0, high l.7))
        (three_neutral z y s u v p es eu f)
      where
        low : 1 + (rank c + rank d) ≤ n → rank c ≤ n
        low h = omega arith

        high : 1 + (rank c + rank d) ≤ m → rank c ≤ m
        high h = omega arith
    three_neutral z y s u v (typed_snd {r = i} {c = c} {d = d} p) es eu f = ⊎_elim
        (λ l. ⊎_elim
        (λ b. inl (snd l.0, kept_snd l.1, typed_snd l.2, inl (snd b.0, kept_snd b.1, kept_snd b.2, typed_snd b.3)))
        (λ b. let (a1, a2, e, t1, t2) = pair_typed w b.3 in inl (snd l.0, kept_snd l.1, typed_snd l.2, inr (a2, value_snd (subst (HasValue u l.0) e b.1), value_snd (subst (HasValue v i) e b.2), t2, low b.4))) l.3)
        (λ l. let (a1, a2, e, t1, t2) = pair_typed w l.5 in let (c1, c2, e2, s1, s2) = parts_of (subst (λ (q : PlainObject). Substituted u q l.1) e l.3) in
        inr (a2, c2, value_snd (subst (HasValue s i) e l.2), s2, value_snd (subst (HasValue v i) e2 l.4), t2, (pair_parts w (subst (λ (q : PlainObject). Typed w y q (simple_with c d)) e2 l.6)).1, high l.7))
        (three_neutral z y s u v p es eu f)
      where
        low : 1 + (rank c + rank d) ≤ n → rank d ≤ n
        low h = omega arith

        high : 1 + (rank c + rank d) ≤ m → rank d ≤ m
        high h = omega arith

    three_expression : (z y : Assignment) (s u v : Environment) {g : Assignment} {e : PlainExpression} {us : SimpleTelescope} → TypedExpression w g e us → RankedEnvironment w m g z s → RankedEnvironment w n z y u → Composed g s u v → ThreeExpression w z y s u v e us
    three_expression z y s u v (typed_step {g = g} {ms = ms} {r = i} {e = e} {ts = ts} {us = us} p h q) es eu f =
        three_step z y s u v eu ts ms h i e us
        (three_expression (extended_by ts z) (extended_by ts y) (under (length ms) s) (under (length ms) u) (under (length ms) v) q
        (subst (λ k. RankedEnvironment w m (extended_by ts g) (extended_by ts z) (under k s)) (sym (ap length h)) (env_bounds w m ts g z s es))
        (subst (λ k. RankedEnvironment w n (extended_by ts z) (extended_by ts y) (under k u)) (sym (ap length h)) (env_bounds w n ts z y u eu))
        (subst (λ k. Composed (extended_by ts g) (under k s) (under k u) (under k v)) (sym (ap length h)) (composed_bounds ts g s u v f)))
        (three_neutral z y s u v p es eu f)
    three_expression z y s u v (typed_done p) es eu f = let (x, r, a, b, c, tx, tr) = three_tuple z y s u v p es eu f in (done x, done r, through_done a, through_done b, through_done c, typed_done tx, typed_done tr)

    three_tuple : (z y : Assignment) (s u v : Environment) {g : Assignment} {t : PlainTuple} {us : SimpleTelescope} → TypedTuple w g t us → RankedEnvironment w m g z s → RankedEnvironment w n z y u → Composed g s u v
        → (x : PlainTuple) × (r : PlainTuple) × SubstitutedTuple s t x × SubstitutedTuple u x r × SubstitutedTuple v t r × TypedTuple w z x us × TypedTuple w y r us
    three_tuple z y s u v typed_empty es eu f = (empty, empty, through_empty, through_empty, through_empty, typed_empty, typed_empty)
    three_tuple z y s u v (typed_entry {m = k} p q) es eu f =
        let (x, r, a, b, c, tx, tr) = three z y s u v p es eu f in
        let (x2, r2, a2, b2, c2, tx2, tr2) = three_tuple z y s u v q es eu f in
        (entry k x x2, entry k r r2, through_entry a a2, through_entry b b2, through_entry c c2, typed_entry tx tx2, typed_entry tr tr2)

  composes : Composes w m n
  composes g z y s u v es eu f = ((λ o t p. three z y s u v p es eu f), (λ e ts p. three_expression z y s u v p es eu f))

thens_by : (w : Bool) (ts : SimpleTelescope) (k : ℕ) → ((m n : ℕ) → m + n < k → Composes w m n) → (b j : ℕ) → j < b → ranks ts + j < k → ThenComposes w ts j
thens_by w ts k given zero j h l = absurd (omega arith)
thens_by w ts k given (suc b) j h l = λ z y u env g d p q f i us t sf. goes w ts j (given (ranks ts) j l) (given j (ranks ts) (omega arith)) (λ i e. thens_by w ts k given b i (omega arith) (omega arith)) z y u p env d q f i us t sf

composes_by : (w : Bool) (k m n : ℕ) → m + n < k → Composes w m n
composes_by w zero m n h = absurd (omega arith)
composes_by w (suc k) m n h = composes w m n (λ j l. composes_by w k j n (omega arith)) (λ j l. composes_by w k n j (omega arith))
    (λ ts l. thens_by w ts k (λ a b e. composes_by w k a b e) (suc n) n (omega arith) (omega arith))

-- where s takes g to z and u takes z to y, product typed, what v does atomic once is what s and then u do
pub all_composes : (w : Bool) (m n : ℕ) → Composes w m n
all_composes w m n = composes_by w (suc (m + n)) m n (omega arith)

pub all_thens : (w : Bool) (ts : SimpleTelescope) (n : ℕ) → ThenComposes w ts n
all_thens w ts n = thens_by w ts (suc (ranks ts + n)) (λ a b l. all_composes w a b) (suc n) n (omega arith) (omega arith)
