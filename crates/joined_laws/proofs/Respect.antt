-- Joined objects, put for the heads of joined trees, give joined trees.
use Rattle.clf_syntax.proofs.RenamingLaws.{composed_expression, cross_up, ext, lift_comp}
use Rattle.clf_syntax.specs.Renaming.{crossed, lifted, ren, ren_expression, ren_head, up}
use Rattle.clf_syntax.specs.Simple.{Assignment, extended, extended_by, simple_modes}
use Rattle.clf_syntax.specs.Tree.{PlainExpression, PlainNeutral, PlainObject, PlainTuple, atomic, lam, monadic, pair, step}
use Rattle.clf_syntax.specs.TypeTree.{SimpleTelescope, SimpleType, simple_binding, simple_end}
use Rattle.clf_syntax.specs.declared.tree.Head.{Head}
use Rattle.clf_syntax.specs.declared.tree.Head.TheVariants.{Const, Meta, Var}
use Rattle.clf_syntax.specs.declared.tree.Mode.{Mode}
use Rattle.joined_laws.proofs.ExchangedTyped.{exchanged_typed, exchanged_typed_expression, exchanged_typed_tuple}
use Rattle.joined_laws.specs.Environments.{JoinedEnvironment, JoinedImage}
use Rattle.std.proofs.Common.{ap, arith, inl, inr, subst, sym, ⊎_elim, ◌∙◌}
use Rattle.std.specs.Prelude.{Bool, List, [], length, refl, suc, zero, ℕ, ◌++◌, ◌∷◌, ◌≡◌}
use Rattle.trace_equal.proofs.Closed.{alike, carried, joined, like_to, trail}
use Rattle.trace_equal.proofs.Moves.{renamed as renamed_exchange, renamed_expression as renamed_exchange_expression}
use Rattle.trace_equal.specs.Exchange.{Exchanged, ExchangedExpression, ExchangedTuple, Joined, JoinedExpression, exchange, in_done, in_entry, in_later_entry, in_later_steps, in_right_side, next, stop}
use Rattle.trace_equal.specs.Matching.{Matches, MatchesExpression, MatchesNeutral, match_atomic, match_lam, match_monadic, match_pair}
use Rattle.hered_subst.proofs.Determined.{determined, determined_expression, determined_flattened}
use Rattle.hered_subst.proofs.Renamed.{renamed_flattened, under_in}
use Rattle.hered_subst.proofs.SimpleTyping.{Typed, TypedExpression, ranks, renamed_typed_expression, suited_all, typed_done, typed_step, under_next, under_under, under_zero}
use Rattle.hered_subst.proofs.Total.{RankedEnvironment, all_total, putting_env, then_total}
use Rattle.hered_subst.specs.Substitution.{Environment, Flattened, Image, Substituted, SubstitutedExpression, among, flat_done, flat_step, objects, putting, ren_image, under}
use Rattle.subst_laws.proofs.Compose.{under_types}

-- the parts of joined objects
like_lam : {m : Mode} {b x : PlainObject} → Matches (lam m b) x → (c : PlainObject) × (x ≡ lam m c) × Matches b c
like_lam (match_lam {c = c} p) = (c, refl, p)

like_pair : {a b x : PlainObject} → Matches (pair a b) x → (c : PlainObject) × (d : PlainObject) × (x ≡ pair c d) × Matches a c × Matches b d
like_pair (match_pair {k = k} {s = s} p q) = (k, s, refl, p, q)

pub like_monadic : {e : PlainExpression} {x : PlainObject} → Matches (monadic e) x → (f : PlainExpression) × (x ≡ monadic f) × MatchesExpression e f
like_monadic (match_monadic {f = f} p) = (f, refl, p)

pub like_atomic : {n : PlainNeutral} {x : PlainObject} → Matches (atomic n) x → (o : PlainNeutral) × (x ≡ atomic o) × MatchesNeutral n o
like_atomic (match_atomic {o = o} p) = (o, refl, p)

pub bodies : {m : Mode} {b c : PlainObject} → Joined (lam m b) (lam m c) → Joined b c
bodies {m} {b} {c} j = let (d, e, l) = like_lam (like_to (alike (lam m b)) j) in subst (Joined b) (cc) (joined l)

pub firsts : {a b c d : PlainObject} → Joined (pair a b) (pair c d) → Joined a c × Joined b d
firsts {a} {b} {c} {d} j = let (x, y, e, p, q) = like_pair (like_to (alike (pair a b)) j) in (subst (Joined a) (cc) (joined p), subst (Joined b) (cc) (joined q))

-- environments with joined objects
raised_image : (n : ℕ) (i k : Image) → JoinedImage i k → JoinedImage (ren_image (up n) i) (ren_image (up n) k)
raised_image n i k c = ⊎_elim (λ a. inl (ren_head (up n) a.0, ap (ren_image (up n)) a.1, ap (ren_image (up n)) a.2))
    (λ a. inr (ren (up n) a.0, ren (up n) a.1, ap (ren_image (up n)) a.2, ap (ren_image (up n)) a.3, carried (ren (up n)) (λ _ _ x. renamed_exchange (up n) x) a.4)) c

pub joined_bound : (d : SimpleType) (g : Assignment) (s z : Environment) → JoinedEnvironment g s z → JoinedEnvironment (extended d g) (under 1 s) (under 1 z)
joined_bound d g s z f (Const c) t e = raised_image 1 (s (Const c)) (z (Const c)) (f (Const c) t e)
joined_bound d g s z f (Meta c) t e = raised_image 1 (s (Meta c)) (z (Meta c)) (f (Meta c) t e)
joined_bound d g s z f (Var zero) t e = inl (Var 0, under_in 1 s 0 (omega arith), under_in 1 z 0 (omega arith))
joined_bound d g s z f (Var (suc i)) t e = subst (λ o. JoinedImage o (under 1 z (Var (suc i)))) (sym (under_next s i))
    (subst (JoinedImage (ren_image (up 1) (s (Var i)))) (sym (under_next z i)) (raised_image 1 (s (Var i)) (z (Var i)) (f (Var i) t e)))

pub joined_bounds : (ts : SimpleTelescope) (g : Assignment) (s z : Environment) → JoinedEnvironment g s z → JoinedEnvironment (extended_by ts g) (under (length (simple_modes ts)) s) (under (length (simple_modes ts)) z)
joined_bounds simple_end g s z f = subst (λ a. JoinedEnvironment g a (under 0 z)) (sym (under_zero s)) (subst (JoinedEnvironment g s) (sym (under_zero z)) f)
joined_bounds (simple_binding m t ts) g s z f = subst (λ a. JoinedEnvironment (extended_by ts (extended t g)) a (under (suc (length (simple_modes ts))) z)) (under_under (length (simple_modes ts)) s)
    (subst (JoinedEnvironment (extended_by ts (extended t g)) (under (length (simple_modes ts)) (under 1 s))) (under_under (length (simple_modes ts)) z)
    (joined_bounds ts (extended t g) (under 1 s) (under 1 z) (joined_bound t g s z f)))

pub data EachJoined : List PlainObject → List PlainObject → Type 0 where
  j_none : EachJoined [] []
  j_more : {n x : PlainObject} {ns xs : List PlainObject} → Joined n x → EachJoined ns xs → EachJoined (n ∷ ns) (x ∷ xs)

pub each_same : (ns : List PlainObject) → EachJoined ns ns
each_same [] = j_none
each_same (n ∷ ns) = j_more stop (each_same ns)

each_end : {ns xs : List PlainObject} {n x : PlainObject} → EachJoined ns xs → Joined n x → EachJoined (ns ++ n ∷ []) (xs ++ x ∷ [])
each_end j_none j = j_more j j_none
each_end (j_more k e) j = j_more k (each_end e j)

pub each_exchanged : {t u : PlainTuple} → ExchangedTuple t u → EachJoined (objects t) (objects u)
each_exchanged (in_entry {t = t} x) = each_end (each_same (objects t)) (next x stop)
each_exchanged (in_later_entry x) = each_end (each_exchanged x) stop

joined_among : {ns xs : List PlainObject} → EachJoined ns xs → (i : ℕ) → JoinedImage (among ns i) (among xs i)
joined_among j_none i = inl (Var i, refl, refl)
joined_among (j_more {n = n} {x = x} j e) zero = inr (n, x, refl, refl, j)
joined_among (j_more j e) (suc i) = joined_among e i

pub joined_putting : {ns xs : List PlainObject} → EachJoined ns xs → (h : Head) → JoinedImage (putting ns h) (putting xs h)
joined_putting e (Const c) = inl (Const c, refl, refl)
joined_putting e (Var i) = joined_among e i
joined_putting e (Meta m) = inl (Meta m, refl, refl)

-- the statements: joined environments on one tree, and one environment on an exchange
abbrev pub Across : Bool → ℕ → Type 0
Across w k = (g z : Assignment) (s v : Environment) → RankedEnvironment w k g z s → RankedEnvironment w k g z v → JoinedEnvironment g s v
    → ((o : PlainObject) (t : SimpleType) → Typed w g o t → (x y : PlainObject) → Substituted s o x → Substituted v o y → Joined x y) × ((o : PlainExpression) (t : SimpleTelescope) → TypedExpression w g o t → (x y : PlainExpression) → SubstitutedExpression s o x → SubstitutedExpression v o y → JoinedExpression x y)

abbrev pub Along : Bool → ℕ → Type 0
Along w k = (g z : Assignment) (s : Environment) → RankedEnvironment w k g z s
    → ((o u : PlainObject) (t : SimpleType) → Exchanged o u → Typed w g o t → (x y : PlainObject) → Substituted s o x → Substituted s u y → Joined x y) × ((o u : PlainExpression) (t : SimpleTelescope) → ExchangedExpression o u → TypedExpression w g o t → (x y : PlainExpression) → SubstitutedExpression s o x → SubstitutedExpression s u y → JoinedExpression x y)

module _ (w : Bool) (k : ℕ) (along : Along w k) where
  pub all_along : {g z : Assignment} {s : Environment} {o u : PlainObject} {t : SimpleType} {x y : PlainObject} → RankedEnvironment w k g z s → Joined o u → Typed w g o t → Substituted s o x → Substituted s u y → Joined x y
  all_along {x = x} f stop p a b = subst (Joined x) (determined a b) stop
  all_along {g = g} {z = z} {s = s} {o = o} {t = t} {x = x} f (next {b = m} e j) p a b =
      let (c, d, td) = (all_total w k g z s f).0 m t (exchanged_typed w e p) in
      trail ((along g z s f).0 o m t e p x c a d) (all_along f j (exchanged_typed w e p) d b)

  pub all_along_expression : {g z : Assignment} {s : Environment} {o u : PlainExpression} {t : SimpleTelescope} {x y : PlainExpression} → RankedEnvironment w k g z s → JoinedExpression o u → TypedExpression w g o t → SubstitutedExpression s o x → SubstitutedExpression s u y → JoinedExpression x y
  all_along_expression {x = x} f stop p a b = subst (JoinedExpression x) (determined_expression a b) stop
  all_along_expression {g = g} {z = z} {s = s} {o = o} {t = t} {x = x} f (next {b = m} e j) p a b =
      let (c, d, td) = (all_total w k g z s f).1 m t (exchanged_typed_expression w e p) in
      trail ((along g z s f).1 o m t e p x c a d) (all_along_expression f j (exchanged_typed_expression w e p) d b)

swapped : (n a b i : ℕ) → lifted n (crossed a b) (lifted n (up b) (lifted n (up a) i)) ≡ lifted n (up a) (lifted n (up b) i)
swapped n a b i = ap (lifted n (crossed a b)) (ap (λ f. f i) (lift_comp n (up b) (up a))) ∙ ap (λ f. f i) (lift_comp n (crossed a b) (λ j. up b (up a j)))
    ∙ ap (λ f. lifted n f i) (ext (cross_up a b)) ∙ sym (ap (λ f. f i) (lift_comp n (up a) (up b)))

pub swapped_expression : (n a b : ℕ) (f : PlainExpression) → ren_expression (lifted n (crossed a b)) (ren_expression (lifted n (up b)) (ren_expression (lifted n (up a)) f)) ≡ ren_expression (lifted n (up a)) (ren_expression (lifted n (up b)) f)
swapped_expression n a b f = ap (ren_expression (lifted n (crossed a b))) (composed_expression (lifted n (up b)) (lifted n (up a)) f) ∙ composed_expression (lifted n (crossed a b)) (λ i. lifted n (up b) (lifted n (up a) i)) f
    ∙ ap (λ r. ren_expression r f) (ext (swapped n a b)) ∙ sym (composed_expression (lifted n (up a)) (lifted n (up b)) f)

-- joined steps and then joined rests
module _ (w : Bool) (ts : SimpleTelescope) (across : Across w (ranks ts)) (along : Along w (ranks ts)) where
  then_rest : {z : Assignment} {g : PlainExpression} → TypedExpression w z g ts → (f e : PlainExpression) (us : SimpleTelescope) → TypedExpression w (extended_by ts z) f us → JoinedExpression f e → (x y : PlainExpression) → Flattened (length (simple_modes ts)) g f x → Flattened (length (simple_modes ts)) g e y → JoinedExpression x y
  then_rest {z = z} (typed_step {ms = ms} {r = r} {ts = ps} p m q) f e us tf j x y (flat_step {h = h} a) (flat_step {h = i} b) = carried (step ms r) (λ _ _ x. in_later_steps x)
      (then_rest q (ren_expression (lifted (length (simple_modes ts)) (up (length ms))) f) (ren_expression (lifted (length (simple_modes ts)) (up (length ms))) e) us
      (renamed_typed_expression (extended_by ts (extended_by ps z)) (lifted (length (simple_modes ts)) (up (length ms))) tf (suited_all ts z (extended_by ps z) (up (length ms)) (under_types ps z ms m)))
      (carried (ren_expression (lifted (length (simple_modes ts)) (up (length ms)))) (λ _ _ x. renamed_exchange_expression (lifted (length (simple_modes ts)) (up (length ms))) x) j) h i a b)
  then_rest {z = z} (typed_done {t = t} p) f e us tf j x y (flat_done l a) (flat_done n b) = all_along_expression w (ranks ts) along (putting_env w ts z t p) j tf a b

  then_head : {z : Assignment} {g d : PlainExpression} → ExchangedExpression g d → TypedExpression w z g ts → (f : PlainExpression) (us : SimpleTelescope) → TypedExpression w (extended_by ts z) f us → (x y : PlainExpression) → Flattened (length (simple_modes ts)) g f x → Flattened (length (simple_modes ts)) d f y → JoinedExpression x y
  then_head (in_right_side {p = p} {r = r} {s = s} v) tg f us tf x y (flat_step {h = h} a) (flat_step b) = next (in_right_side v) (subst (λ (o : PlainExpression). JoinedExpression (step p s h) (step p s o)) (determined_flattened a b) stop)
  then_head {z = z} (in_later_steps {p = p} {r = r} v) (typed_step {ts = ps} pr m q) f us tf x y (flat_step {h = h} a) (flat_step {h = i} b) = carried (step p r) (λ _ _ x. in_later_steps x)
      (then_head v q (ren_expression (lifted (length (simple_modes ts)) (up (length p))) f) us
      (renamed_typed_expression (extended_by ts (extended_by ps z)) (lifted (length (simple_modes ts)) (up (length p))) tf (suited_all ts z (extended_by ps z) (up (length p)) (under_types ps z p m))) h i a b)
  then_head {z = z} (in_done {t = t} {u = u} v) (typed_done p) f us tf x y (flat_done l a) (flat_done n b) =
      (across (extended_by ts z) z (putting (objects t)) (putting (objects u)) (putting_env w ts z t p) (putting_env w ts z u (exchanged_typed_tuple w v p)) (λ h t q. joined_putting (each_exchanged v) h)).1 f us tf x y a b
  then_head (exchange {p = p} {q = q} {r = r} {s = s} {v = v} {w = i} {e = e} {f = e2} h k l) tg f us tf x y (flat_step (flat_step {h = x2} a)) (flat_step (flat_step {h = y2} b)) =
      next (exchange h k (determined_flattened b (subst (λ (o : PlainExpression). Flattened (length (simple_modes ts)) o (ren_expression (lifted (length (simple_modes ts)) (up (length p))) (ren_expression (lifted (length (simple_modes ts)) (up (length q))) f)) (ren_expression (crossed (length p) (length q)) x2)) (sym l)
      (subst (λ (o : PlainExpression). Flattened (length (simple_modes ts)) (ren_expression (crossed (length p) (length q)) e) o (ren_expression (crossed (length p) (length q)) x2)) (swapped_expression (length (simple_modes ts)) (length p) (length q) f) (renamed_flattened (crossed (length p) (length q)) a))))) stop

  pub then_joined : {z : Assignment} {g d : PlainExpression} → JoinedExpression g d → TypedExpression w z g ts → (f e : PlainExpression) (us : SimpleTelescope) → TypedExpression w (extended_by ts z) f us → JoinedExpression f e → (x y : PlainExpression) → Flattened (length (simple_modes ts)) g f x → Flattened (length (simple_modes ts)) d e y → JoinedExpression x y
  then_joined stop tg f e us tf j x y a b = then_rest tg f e us tf j x y a b
  then_joined {g = g} (next {b = m} v i) tg f e us tf j x y a b =
      let (c, d, td) = then_total w (suc (ranks ts)) (λ j l. all_total w j) (exchanged_typed_expression w v tg) (omega arith) f us tf in
      trail (then_head v tg f us tf x c a d) (then_joined i (exchanged_typed_expression w v tg) f e us tf j c y d b)
