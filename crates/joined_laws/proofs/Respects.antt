-- Joined objects, put for the heads of joined trees, give joined trees: the proof.
use Rattle.clf_syntax.proofs.RenamingLaws.{binds, cross_cross, cross_new, cross_old, cross_out, cross_up, cut, ext, undone_expression}
use Rattle.clf_syntax.specs.Renaming.{crossed, ren_expression, ren_head, ren_neutral, up}
use Rattle.clf_syntax.specs.Simple.{Assignment, extended, extended_by, simple_modes}
use Rattle.clf_syntax.specs.Tree.{PlainExpression, PlainNeutral, PlainObject, PlainTuple, app, atomic, done, empty, entry, fst, head_alone, head_of, lam, monadic, pair, snd, step, unit}
use Rattle.clf_syntax.specs.TypeTree.{SimpleTelescope, SimpleType, arrow, lax, simple_with}
use Rattle.clf_syntax.specs.declared.tree.Head.TheVariants.{Const, Meta, Var}
use Rattle.clf_syntax.specs.declared.tree.Mode.{Mode}
use Rattle.joined_laws.proofs.ExchangedTyped.{exchanged_typed, exchanged_typed_expression}
use Rattle.joined_laws.proofs.Respect.{Across, Along, all_along, all_along_expression, bodies, firsts, j_more, j_none, joined_bound, joined_bounds, joined_putting, like_atomic, like_monadic, then_joined}
use Rattle.joined_laws.proofs.Slide.{slide, slide_all}
use Rattle.joined_laws.specs.Environments.{JoinedEnvironment, JoinedImage}
use Rattle.std.proofs.Common.{ap, arith, inl, inr, subst, sym, ⊎_elim, ◌∙◌}
use Rattle.std.specs.Prelude.{Bool, List, [], length, refl, suc, zero, ℕ, ◌+◌, ◌-◌, ◌<◌, ◌∷◌, ◌≡◌, ◌≤◌, ◌⊎◌}
use Rattle.trace_equal.proofs.Closed.{alike, carried, joined_expression, joined_neutral, like_to, trail}
use Rattle.trace_equal.proofs.Joined.{undone_expression as exchange_back}
use Rattle.trace_equal.specs.Exchange.{Exchanged, ExchangedExpression, ExchangedNeutral, ExchangedTuple, Joined, JoinedExpression, JoinedNeutral, JoinedTuple, exchange, in_argument, in_atomic, in_done, in_entry, in_fst, in_function, in_lam, in_later_entry, in_later_steps, in_left, in_monadic, in_right, in_right_side, in_snd, next, stop}
use Rattle.trace_equal.specs.Matching.{MatchesNeutral, match_app, match_bare, match_fst, match_snd}
use Rattle.hered_subst.proofs.Determined.{apart, determined, determined_expression, determined_value}
use Rattle.hered_subst.proofs.Renamed.{head_renamed, image_comp, renamed_expression, renamed_kept, renamed_value, under_in, under_out}
use Rattle.hered_subst.proofs.SimpleTyping.{Typed, TypedExpression, TypedNeutral, TypedTuple, rank, ranks, typed_app, typed_atomic, typed_bare, typed_done, typed_empty, typed_entry, typed_fst, typed_lam, typed_metavariable, typed_monadic, typed_pair, typed_snd, typed_step, typed_unit}
use Rattle.hered_subst.proofs.Total.{RankedEnvironment, all_total, env_bound, env_bounds, raised_all, single_env, then_total, total_neutral}
use Rattle.hered_subst.specs.Laws.{Fits}
use Rattle.hered_subst.specs.Substitution.{Environment, Flattened, HasValue, Image, KeepsHead, Substituted, SubstitutedExpression, SubstitutedTuple, keep, kept_app, kept_bare, kept_fst, kept_snd, putting, ren_image, single, step_kept, step_meta, step_value, through_done, through_empty, through_entry, through_kept, through_lam, through_monadic, through_pair, through_unit, through_value, under, value_app, value_bare, value_fst, value_snd}
use Rattle.subst_laws.proofs.Before.{fits_up}
use Rattle.subst_laws.proofs.Compose.{expression_typed, lam_typed, object_typed, pair_typed, single_is, value_typed}
use Rattle.subst_laws.proofs.TypedBack.{typed_back_neutral}

pub joined_back_expression : {a b : PlainExpression} → JoinedExpression a b → JoinedExpression b a
joined_back_expression stop = stop
joined_back_expression (next x j) = trail (joined_back_expression j) (next (exchange_back x) stop)

like_head : {a b : PlainNeutral} → MatchesNeutral a b → head_of b ≡ head_of a
like_head match_bare = refl
like_head (match_app p q) = like_head p
like_head (match_fst p) = like_head p
like_head (match_snd p) = like_head p

-- two blocks of binders
pub cross_under : (a b : ℕ) (s : Environment) → Fits (crossed a b) (crossed a b) (under b (under a s)) (under a (under b s))
cross_under a b s (Const c) = turn a b (s (Const c))
  where
    turn : (a b : ℕ) (i : Image) → ren_image (up a) (ren_image (up b) i) ≡ ren_image (crossed a b) (ren_image (up b) (ren_image (up a) i))
    turn a b i = image_comp (up a) (up b) i ∙ ap (λ r. ren_image r i) (ext (λ j. sym (cross_up a b j))) ∙ sym (ap (ren_image (crossed a b)) (image_comp (up b) (up a) i) ∙ image_comp (crossed a b) (λ j. up b (up a j)) i)
cross_under a b s (Meta c) = turn a b (s (Meta c))
  where
    turn : (a b : ℕ) (i : Image) → ren_image (up a) (ren_image (up b) i) ≡ ren_image (crossed a b) (ren_image (up b) (ren_image (up a) i))
    turn a b i = image_comp (up a) (up b) i ∙ ap (λ r. ren_image r i) (ext (λ j. sym (cross_up a b j))) ∙ sym (ap (ren_image (crossed a b)) (image_comp (up b) (up a) i) ∙ image_comp (crossed a b) (λ j. up b (up a j)) i)
cross_under a b s (Var i) = ⊎_elim new (λ h. ⊎_elim (old h) out (cut i (b + a))) (cut i b)
  where
    Goal : ℕ → Type 0
    Goal j = under a (under b s) (Var (crossed a b j)) ≡ ren_image (crossed a b) (under b (under a s) (Var j))

    turn : (i : Image) → ren_image (up a) (ren_image (up b) i) ≡ ren_image (crossed a b) (ren_image (up b) (ren_image (up a) i))
    turn i = image_comp (up a) (up b) i ∙ ap (λ r. ren_image r i) (ext (λ j. sym (cross_up a b j))) ∙ sym (ap (ren_image (crossed a b)) (image_comp (up b) (up a) i) ∙ image_comp (crossed a b) (λ j. up b (up a j)) i)

    new : i < b → Goal i
    new h = ap (λ j. under a (under b s) (Var j)) (cross_new a b i h) ∙ under_out a (under b s) i ∙ ap (ren_image (up a)) (under_in b s i h)
        ∙ sym (ap (ren_image (crossed a b)) (under_in b (under a s) i h) ∙ ap (λ j. keep (Var j)) (cross_new a b i h))

    old : b ≤ i → i < b + a → Goal i
    old h k = ap (λ j. under a (under b s) (Var j)) (cross_old a b i h k) ∙ under_in a (under b s) (i - b) (less h k)
        ∙ sym (ap (λ j. ren_image (crossed a b) (under b (under a s) (Var j))) (first_case h) ∙ ap (ren_image (crossed a b)) (under_out b (under a s) (i - b) ∙ ap (ren_image (up b)) (under_in a s (i - b) (less h k)))
        ∙ ap (λ j. keep (Var j)) (ap (crossed a b) (sym (first_case h)) ∙ cross_old a b i h k))
      where
        less : b ≤ i → i < b + a → i - b < a
        less h k = omega arith

        first_case : b ≤ i → i ≡ i - b + b
        first_case h = omega arith

    out : b + a ≤ i → Goal i
    out h = ap (λ j. under a (under b s) (Var j)) (cross_out a b i h ∙ first_case h) ∙ under_out a (under b s) (i - b - a + b) ∙ ap (ren_image (up a)) (under_out b s (i - b - a)) ∙ turn (s (Var (i - b - a)))
        ∙ sym (ap (λ j. ren_image (crossed a b) (under b (under a s) (Var j))) (two h) ∙ ap (ren_image (crossed a b)) (under_out b (under a s) (i - b - a + a) ∙ ap (ren_image (up b)) (under_out a s (i - b - a))))
      where
        first_case : b + a ≤ i → i ≡ i - b - a + b + a
        first_case h = omega arith

        two : b + a ≤ i → i ≡ i - b - a + a + b
        two h = omega arith

-- what becomes of a step: it stays, or opens
abbrev Stays : Environment → PlainNeutral → PlainNeutral → Type 0
Stays s n r = (ms : List Mode) (e f : PlainExpression) → SubstitutedExpression (under (length ms) s) e f → SubstitutedExpression s (step ms n e) (step ms r f)

abbrev Outcome : Bool → Assignment → Environment → PlainNeutral → SimpleTelescope → Type 0
Outcome w z s n ps = ((r : PlainNeutral) × Stays s n r × ((c : ℕ) → Stays (under c s) (ren_neutral (up c) n) (ren_neutral (up c) r)))
    ⊎ ((e : PlainExpression) × HasValue s n (monadic e) × TypedExpression w z e ps)

of_value : (w : Bool) (z : Assignment) (s : Environment) (n : PlainNeutral) (ps : SimpleTelescope) (x : PlainObject) → HasValue s n x → Typed w z x (lax ps) → Outcome w z s n ps
of_value w z s n ps x v (typed_monadic {e = e} p) = inr (e, v, p)
of_value w z s n ps x v (typed_metavariable {n = r} {k = k} j p i) = inl (r, (λ ms e f q. step_meta v i q), λ c ms e f q. step_meta (renamed_value (up c) (up c) (under c s) (fits_up c s) v) (head_renamed (up c) r ∙ ap (ren_head (up c)) i) q)

outcome : (w : Bool) (k : ℕ) {g z : Assignment} {s : Environment} {n : PlainNeutral} {ps : SimpleTelescope} → TypedNeutral w g n (lax ps) → RankedEnvironment w k g z s → Outcome w z s n ps
outcome w k {z = z} {s = s} {n = n} {ps = ps} p f = ⊎_elim
    (λ a. inl (a.0, (λ ms e f q. step_kept a.1 q), λ c ms e f q. step_kept (renamed_kept (up c) (up c) (under c s) (fits_up c s) a.1) q))
    (λ a. of_value w z s n ps a.0 a.1 a.2) (total_neutral w k (λ j l. all_total w j) z s p f)

mons : {e f : PlainExpression} → monadic e ≡ monadic f → e ≡ f
mons h = cc

no_at : {e : PlainExpression} {n : PlainNeutral} → monadic e ≡ atomic n → ⊥
no_at h = cc

opened : {s : Environment} {n : PlainNeutral} {f e x : PlainExpression} {ms : List Mode} → HasValue s n (monadic f) → SubstitutedExpression s (step ms n e) x → (d : PlainExpression) × SubstitutedExpression (under (length ms) s) e d × Flattened (length ms) f d x
opened v (step_kept k a) = absurd (apart k v)
opened {x = x} {ms = ms} v (step_value {f = d} u a t) = (d, a, subst (λ (o : PlainExpression). Flattened (length ms) o d x) (mons (determined_value u v)) t)
opened v (step_meta u i a) = absurd (no_at (determined_value v u))

-- one exchange of two steps
swap : (w : Bool) (k : ℕ) {g z : Assignment} {s : Environment} → RankedEnvironment w k g z s → (ps qs : SimpleTelescope) (r v : PlainNeutral) (e : PlainExpression) (us : SimpleTelescope) → TypedNeutral w g r (lax ps) → TypedNeutral w g v (lax qs) → TypedExpression w (extended_by qs (extended_by ps g)) e us
    → (x y : PlainExpression) → SubstitutedExpression s (step (simple_modes ps) r (step (simple_modes qs) (ren_neutral (up (length (simple_modes ps))) v) e)) x
    → SubstitutedExpression s (step (simple_modes qs) v (step (simple_modes ps) (ren_neutral (up (length (simple_modes qs))) r) (ren_expression (crossed (length (simple_modes ps)) (length (simple_modes qs))) e))) y → JoinedExpression x y
swap w k {g = g} {z = z} {s = s} env ps qs r v e us pr pv pe x y sx sy =
    let (i, ei, ti) = (all_total w k (extended_by qs (extended_by ps g)) (extended_by qs (extended_by ps z)) (under (length (simple_modes qs)) (under (length (simple_modes ps)) s)) env2).1 e us pe in
    ⊎_elim
    (λ a. ⊎_elim
    (λ b. subst (λ (o : PlainExpression). JoinedExpression o y) (determined_expression (a.1 (simple_modes ps) (step (simple_modes qs) (ren_neutral (up (length (simple_modes ps))) v) e) (step (simple_modes qs) (ren_neutral (up (length (simple_modes ps))) b.0) i) (b.2 (length (simple_modes ps)) (simple_modes qs) e i ei)) sx)
    (subst (JoinedExpression (step (simple_modes ps) a.0 (step (simple_modes qs) (ren_neutral (up (length (simple_modes ps))) b.0) i)))
    (determined_expression (b.1 (simple_modes qs) (step (simple_modes ps) (ren_neutral (up (length (simple_modes qs))) r) (ren_expression (crossed (length (simple_modes ps)) (length (simple_modes qs))) e)) (step (simple_modes ps) (ren_neutral (up (length (simple_modes qs))) a.0) (ren_expression (crossed (length (simple_modes ps)) (length (simple_modes qs))) i))
    (a.2 (length (simple_modes qs)) (simple_modes ps) (ren_expression (crossed (length (simple_modes ps)) (length (simple_modes qs))) e) (ren_expression (crossed (length (simple_modes ps)) (length (simple_modes qs))) i) (over ei))) sy)
    (next (exchange refl refl refl) stop)))
    (λ b. let (d, sd, td) = opened b.1 sy in
    let (o, to, j) = slide td (simple_modes ps) a.0 i (determined_expression sd (a.2 (length (simple_modes qs)) (simple_modes ps) (ren_expression (crossed (length (simple_modes ps)) (length (simple_modes qs))) e) (ren_expression (crossed (length (simple_modes ps)) (length (simple_modes qs))) i) (over ei))) in
    subst (λ (q : PlainExpression). JoinedExpression q y) (determined_expression (a.1 (simple_modes ps) (step (simple_modes qs) (ren_neutral (up (length (simple_modes ps))) v) e) o (step_value (higher (length (simple_modes ps)) b.1) ei to)) sx) j)
    (outcome w k pv env))
    (λ a. let (d, sd, td) = opened a.1 sx in ⊎_elim
    (λ b. let (o, to, j) = slide td (simple_modes qs) b.0 (ren_expression (crossed (length (simple_modes ps)) (length (simple_modes qs))) i)
    (determined_expression sd (b.2 (length (simple_modes ps)) (simple_modes qs) e i ei) ∙ binds (simple_modes qs) refl (sym (undone_expression (crossed (length (simple_modes qs)) (length (simple_modes ps))) (crossed (length (simple_modes ps)) (length (simple_modes qs))) (cross_cross (length (simple_modes ps)) (length (simple_modes qs))) i))) in
    joined_back_expression (subst (λ (q : PlainExpression). JoinedExpression q x) (determined_expression (b.1 (simple_modes qs) (step (simple_modes ps) (ren_neutral (up (length (simple_modes qs))) r) (ren_expression (crossed (length (simple_modes ps)) (length (simple_modes qs))) e)) o (step_value (higher (length (simple_modes qs)) a.1) (over ei) to)) sy) j))
    (λ b. let (c, sc, tc) = opened (higher (length (simple_modes ps)) b.1) sd in
    let (h, sh, th) = opened b.1 sy in
    let (l, sl, tl) = opened (higher (length (simple_modes qs)) a.1) sh in
    slide_all w ps qs a.2 b.0 b.2 c us (expression_typed w k pe env2 sc) d x h y td tc
    (subst (λ (o : PlainExpression). Flattened (length (simple_modes ps)) (ren_expression (up (length (simple_modes qs))) a.0) o h) (determined_expression sl (over sc)) tl) th)
    (outcome w k pv env))
    (outcome w k pr env)
  where
    env2 : RankedEnvironment w k (extended_by qs (extended_by ps g)) (extended_by qs (extended_by ps z)) (under (length (simple_modes qs)) (under (length (simple_modes ps)) s))
    env2 = env_bounds w k qs (extended_by ps g) (extended_by ps z) (under (length (simple_modes ps)) s) (env_bounds w k ps g z s env)

    over : {i : PlainExpression} → SubstitutedExpression (under (length (simple_modes qs)) (under (length (simple_modes ps)) s)) e i → SubstitutedExpression (under (length (simple_modes ps)) (under (length (simple_modes qs)) s)) (ren_expression (crossed (length (simple_modes ps)) (length (simple_modes qs))) e) (ren_expression (crossed (length (simple_modes ps)) (length (simple_modes qs))) i)
    over p = renamed_expression (crossed (length (simple_modes ps)) (length (simple_modes qs))) (crossed (length (simple_modes ps)) (length (simple_modes qs))) (under (length (simple_modes ps)) (under (length (simple_modes qs)) s)) (cross_under (length (simple_modes ps)) (length (simple_modes qs)) s) p

    higher : (c : ℕ) {n : PlainNeutral} {f : PlainExpression} → HasValue s n (monadic f) → HasValue (under c s) (ren_neutral (up c) n) (monadic (ren_expression (up c) f))
    higher c v = renamed_value (up c) (up c) (under c s) (fits_up c s) v

ret_sub : {s : Environment} {t : PlainTuple} {x : PlainExpression} → SubstitutedExpression s (done t) x → (u : PlainTuple) × SubstitutedTuple s t u
ret_sub (through_done {u = u} p) = (u, p)

crossing_at : (w : Bool) (k : ℕ) {g z : Assignment} {s : Environment} → RankedEnvironment w k g z s → (ps qs : SimpleTelescope) (p q : List Mode) → simple_modes ps ≡ p → simple_modes qs ≡ q → (r v : PlainNeutral) (e : PlainExpression) (us : SimpleTelescope) → TypedNeutral w g r (lax ps) → TypedNeutral w g v (lax qs) → TypedExpression w (extended_by qs (extended_by ps g)) e us
    → (x y : PlainExpression) → SubstitutedExpression s (step p r (step q (ren_neutral (up (length p)) v) e)) x → SubstitutedExpression s (step q v (step p (ren_neutral (up (length q)) r) (ren_expression (crossed (length p) (length q)) e))) y → JoinedExpression x y
crossing_at w k {g = g} {z = z} {s = s} env ps qs p q m n r v e us pr pv pe x y = subst (λ i. SubstitutedExpression s (step i r (step q (ren_neutral (up (length i)) v) e)) x → SubstitutedExpression s (step q v (step i (ren_neutral (up (length q)) r) (ren_expression (crossed (length i) (length q)) e))) y → JoinedExpression x y) m
    (subst (λ j. SubstitutedExpression s (step (simple_modes ps) r (step j (ren_neutral (up (length (simple_modes ps))) v) e)) x → SubstitutedExpression s (step j v (step (simple_modes ps) (ren_neutral (up (length j)) r) (ren_expression (crossed (length (simple_modes ps)) (length j)) e))) y → JoinedExpression x y) n
    (λ a b. swap w k env ps qs r v e us pr pv pe x y a b))

crossing : (w : Bool) (k : ℕ) (z : Assignment) (s : Environment) {g : Assignment} {p q : List Mode} {r d v i : PlainNeutral} {e f : PlainExpression} {us : SimpleTelescope} → i ≡ ren_neutral (up (length p)) v → d ≡ ren_neutral (up (length q)) r → f ≡ ren_expression (crossed (length p) (length q)) e
    → TypedExpression w g (step p r (step q i e)) us → RankedEnvironment w k g z s → (x y : PlainExpression) → SubstitutedExpression s (step p r (step q i e)) x → SubstitutedExpression s (step q v (step p d f)) y → JoinedExpression x y
crossing w k z s {g = g} {p = p} {q = q} {r = r} {d = d} {v = v} {e = e} h j l (typed_step {ts = ps} pr m (typed_step {ts = qs} {us = us} pi n pe)) env x y a b =
    crossing_at w k env ps qs p q (sym m) (sym n) r v e us pr
    (typed_back_neutral w (extended_by ps g) (up (length (simple_modes ps))) g (raised_all ps g) v (subst (λ (o : PlainNeutral). TypedNeutral w (extended_by ps g) o (lax qs)) (h ∙ ap (λ i. ren_neutral (up i) v) (ap length m)) pi)) pe x y
    (subst (λ (o : PlainNeutral). SubstitutedExpression s (step p r (step q o e)) x) h a) (subst (λ (o : PlainNeutral). SubstitutedExpression s (step q v (step p o (ren_expression (crossed (length p) (length q)) e))) y) j (subst (λ (o : PlainExpression). SubstitutedExpression s (step q v (step p d o)) y) l b))

module _ (w : Bool) (k : ℕ) (across : (j : ℕ) → j < k → Across w j) (along : (j : ℕ) → j < k → Along w j) where
  -- joined lambdas atomic joined arguments
  applied : (z : Assignment) (d c : SimpleType) (b e : PlainObject) → Typed w (extended d z) b c → Joined b e → (y i : PlainObject) → Typed w z y d → Typed w z i d → Joined y i → rank d < k
      → (x r : PlainObject) → Substituted (single y 0) b x → Substituted (single i 0) e r → Joined x r
  applied z d c b e tb j y i ty ti jy h x r sx sr =
      let (m, sm, tm) = (all_total w (rank d) (extended d z) z (single i 0) (single_env w d z i ti)).0 b c tb in
      trail ((across (rank d) h (extended d z) z (single y 0) (single i 0) (single_env w d z y ty) (single_env w d z i ti) near).0 b c tb x m sx sm)
      (all_along w (rank d) (along (rank d) h) (single_env w d z i ti) j tb sm sr)
    where
      near : JoinedEnvironment (extended d z) (single y 0) (single i 0)
      near h t e = subst (λ f. JoinedImage (f h) (single i 0 h)) (sym (single_is y)) (subst (λ f. JoinedImage (putting (y ∷ []) h) (f h)) (sym (single_is i)) (joined_putting (j_more jy j_none) h))

  -- joined values atomic a step, and joined rests
  stepped : (z : Assignment) (s v : Environment) (ts : SimpleTelescope) (ms : List Mode) → ms ≡ simple_modes ts → (n i : PlainNeutral) (x y : PlainObject) → Typed w z x (lax ts) → Joined x y → rank (lax ts) ≤ k → HasValue s n x → HasValue v i y
      → (e d f h : PlainExpression) (us : SimpleTelescope) → SubstitutedExpression (under (length ms) s) e f → SubstitutedExpression (under (length ms) v) d h → TypedExpression w (extended_by ts z) f us → TypedExpression w (extended_by ts z) h us → JoinedExpression f h
      → (a b : PlainExpression) × SubstitutedExpression s (step ms n e) a × SubstitutedExpression v (step ms i d) b × JoinedExpression a b
  stepped z s v ts ms m n i x y (typed_monadic {e = g} p) j le vx vy e d f h us sf sh tf th jf =
      let (g2, eq, l) = like_monadic (like_to (alike (monadic g)) j) in
      let (a, ta, tya) = then_total w (suc (ranks ts)) (λ q l. all_total w q) p (omega arith) f us tf in
      let (b, tb, tyb) = then_total w (suc (ranks ts)) (λ q l. all_total w q) (typed_like p (joined_expression l)) (omega arith) h us th in (
        a,
        b,
        step_value vx sf (subst (λ q. Flattened q g f a) (sym (ap length m)) ta),
        step_value (subst (HasValue v i) eq vy) sh (subst (λ q. Flattened q g2 h b) (sym (ap length m)) tb),
        then_joined w ts (across (ranks ts) (within le)) (along (ranks ts) (within le)) (joined_expression l) p f h us tf jf a b ta tb,
      )
    where
      within : 1 + ranks ts ≤ k → ranks ts < k
      within q = omega arith

      typed_like : {g d : PlainExpression} → TypedExpression w z g ts → JoinedExpression g d → TypedExpression w z d ts
      typed_like p stop = p
      typed_like p (next x q) = typed_like (exchanged_typed_expression w x p) q
  stepped z s v ts ms m n i x y (typed_metavariable {n = q} {k = a} t p o) j le vx vy e d f h us sf sh tf th jf =
      let (r, eq, l) = like_atomic (like_to (alike (atomic q)) j) in
      (step ms q f, step ms r h, step_meta vx o sf, step_meta (subst (HasValue v i) eq vy) (like_head l ∙ o) sh, trail (carried (λ (o : PlainNeutral). step ms o f) (λ _ _ x. in_right_side x) (joined_neutral l)) (carried (step ms r) (λ _ _ x. in_later_steps x) jf))

  abbrev Pair : Assignment → Environment → Environment → PlainNeutral → PlainNeutral → SimpleType → Type 0
  Pair z s v n i t = ((x : PlainNeutral) × (y : PlainNeutral) × KeepsHead s n x × KeepsHead v i y × JoinedNeutral x y) ⊎ ((x : PlainObject) × (y : PlainObject) × HasValue s n x × HasValue v i y × Joined x y × Typed w z x t × Typed w z y t × (rank t ≤ k))

  applied_pair : (z : Assignment) (s v : Environment) (m : Mode) (d c : SimpleType) (n i : PlainNeutral) (o u : PlainObject) → Pair z s v n i (arrow m d c) → (y r : PlainObject) → Substituted s o y → Substituted v u r → Joined y r → Typed w z y d → Typed w z r d → Pair z s v (app m n o) (app m i u) c
  applied_pair z s v m d c n i o u p y r sy sr j ty tr = ⊎_elim
      (λ a. inl (app m a.0 y, app m a.1 r, kept_app a.2 sy, kept_app a.3 sr, trail (carried (λ (q : PlainNeutral). app m q y) (λ _ _ x. in_function x) a.4) (carried (app m a.1) (λ _ _ x. in_argument x) j)))
      (λ a. let (b, e, tb) = lam_typed w a.5 in let (b2, e2, tb2) = lam_typed w a.6 in
      let (x, sx, tx) = (all_total w (rank d) (extended d z) z (single y 0) (single_env w d z y ty)).0 b c tb in
      let (x2, sx2, tx2) = (all_total w (rank d) (extended d z) z (single r 0) (single_env w d z r tr)).0 b2 c tb2 in
      inr (
        x,
        x2,
        value_app (subst (HasValue s n) e a.2) sy sx,
        value_app (subst (HasValue v i) e2 a.3) sr sx2,
        applied z d c b b2 tb (bodies (subst (λ (q : PlainObject). Joined q (lam m b2)) e (subst (Joined a.0) e2 a.4))) y r ty tr j (low a.7) x x2 sx sx2,
        tx,
        tx2,
        high a.7,
      ))
      p
    where
      low : 1 + (rank d + rank c) ≤ k → rank d < k
      low h = omega arith

      high : 1 + (rank d + rank c) ≤ k → rank c ≤ k
      high h = omega arith

  parted : (z : Assignment) (s v : Environment) (c d : SimpleType) (n i : PlainNeutral) → Pair z s v n i (simple_with c d) → Pair z s v (fst n) (fst i) c × Pair z s v (snd n) (snd i) d
  parted z s v c d n i p = ⊎_elim
      (λ a. (inl (fst a.0, fst a.1, kept_fst a.2, kept_fst a.3, carried fst (λ _ _ x. in_fst x) a.4), inl (snd a.0, snd a.1, kept_snd a.2, kept_snd a.3, carried snd (λ _ _ x. in_snd x) a.4)))
      (λ a. let (b, e, q, tb, te) = pair_typed w a.5 in let (b2, e2, q2, tb2, te2) = pair_typed w a.6 in
      let (j, l) = firsts (subst (λ (o : PlainObject). Joined o (pair b2 e2)) q (subst (Joined a.0) q2 a.4)) in
      (inr (b, b2, value_fst (subst (HasValue s n) q a.2), value_fst (subst (HasValue v i) q2 a.3), j, tb, tb2, low a.7), inr (e, e2, value_snd (subst (HasValue s n) q a.2), value_snd (subst (HasValue v i) q2 a.3), l, te, te2, high a.7)))
      p
    where
      low : 1 + (rank c + rank d) ≤ k → rank c ≤ k
      low h = omega arith

      high : 1 + (rank c + rank d) ≤ k → rank d ≤ k
      high h = omega arith

  -- joined environments
  mutual
    across_object : (z : Assignment) (s v : Environment) {g : Assignment} {o : PlainObject} {t : SimpleType} → Typed w g o t → RankedEnvironment w k g z s → RankedEnvironment w k g z v → JoinedEnvironment g s v → (x : PlainObject) × (y : PlainObject) × Substituted s o x × Substituted v o y × Joined x y
    across_object z s v (typed_lam {g = g} {m = m} {d = d} p) es ev j = let (x, y, a, b, c) = across_object (extended d z) (under 1 s) (under 1 v) p (env_bound w k d g z s es) (env_bound w k d g z v ev) (joined_bound d g s v j) in
        (lam m x, lam m y, through_lam a, through_lam b, carried (lam m) (λ _ _ x. in_lam x) c)
    across_object z s v (typed_pair p q) es ev j = let (x, y, a, b, c) = across_object z s v p es ev j in let (x2, y2, a2, b2, c2) = across_object z s v q es ev j in
        (pair x x2, pair y y2, through_pair a a2, through_pair b b2, trail (carried (λ (o : PlainObject). pair o x2) (λ _ _ x. in_left x) c) (carried (pair y) (λ _ _ x. in_right x) c2))
    across_object z s v typed_unit es ev j = (unit, unit, through_unit, through_unit, stop)
    across_object z s v (typed_monadic p) es ev j = let (x, y, a, b, c) = across_expression z s v p es ev j in (monadic x, monadic y, through_monadic a, through_monadic b, carried monadic (λ _ _ x. in_monadic x) c)
    across_object z s v (typed_atomic p) es ev j = ⊎_elim (λ a. (atomic a.0, atomic a.1, through_kept a.2, through_kept a.3, carried atomic (λ _ _ x. in_atomic x) a.4)) (λ a. (a.0, a.1, through_value a.2, through_value a.3, a.4)) (across_neutral z s v p es ev j)
    across_object z s v (typed_metavariable i p e) es ev j = ⊎_elim (λ a. (atomic a.0, atomic a.1, through_kept a.2, through_kept a.3, carried atomic (λ _ _ x. in_atomic x) a.4)) (λ a. (a.0, a.1, through_value a.2, through_value a.3, a.4)) (across_neutral z s v p es ev j)

    across_neutral : (z : Assignment) (s v : Environment) {g : Assignment} {n : PlainNeutral} {t : SimpleType} → TypedNeutral w g n t → RankedEnvironment w k g z s → RankedEnvironment w k g z v → JoinedEnvironment g s v → Pair z s v n n t
    across_neutral z s v (typed_bare {h = h} {t = t} e) es ev j = ⊎_elim (λ a. inl (head_alone a.0, head_alone a.0, kept_bare a.1, kept_bare a.2, stop))
        (λ a. inr (a.0, a.1, value_bare a.2, value_bare a.3, a.4, (value_typed w k (typed_bare e) es (value_bare a.2)).0, (value_typed w k (typed_bare e) ev (value_bare a.3)).0, (value_typed w k (typed_bare e) es (value_bare a.2)).1)) (j h t e)
    across_neutral z s v (typed_app {m = m} {r = n} {o = o} {d = d} {c = c} p q) es ev j = let (y, r, a, b, l) = across_object z s v q es ev j in
        applied_pair z s v m d c n n o o (across_neutral z s v p es ev j) y r a b l (object_typed w k q es a) (object_typed w k q ev b)
    across_neutral z s v (typed_fst {r = n} {c = c} {d = d} p) es ev j = (parted z s v c d n n (across_neutral z s v p es ev j)).0
    across_neutral z s v (typed_snd {r = n} {c = c} {d = d} p) es ev j = (parted z s v c d n n (across_neutral z s v p es ev j)).1

    across_expression : (z : Assignment) (s v : Environment) {g : Assignment} {e : PlainExpression} {us : SimpleTelescope} → TypedExpression w g e us → RankedEnvironment w k g z s → RankedEnvironment w k g z v → JoinedEnvironment g s v → (x : PlainExpression) × (y : PlainExpression) × SubstitutedExpression s e x × SubstitutedExpression v e y × JoinedExpression x y
    across_expression z s v (typed_step {g = g} {ms = ms} {r = n} {e = e} {ts = ts} {us = us} p m q) es ev j =
        let es2 : RankedEnvironment w k (extended_by ts g) (extended_by ts z) (under (length ms) s) = subst (λ i. RankedEnvironment w k (extended_by ts g) (extended_by ts z) (under i s)) (sym (ap length m)) (env_bounds w k ts g z s es) in
        let ev2 : RankedEnvironment w k (extended_by ts g) (extended_by ts z) (under (length ms) v) = subst (λ i. RankedEnvironment w k (extended_by ts g) (extended_by ts z) (under i v)) (sym (ap length m)) (env_bounds w k ts g z v ev) in
        let (x, y, a, b, l) = across_expression (extended_by ts z) (under (length ms) s) (under (length ms) v) q es2 ev2 (subst (λ i. JoinedEnvironment (extended_by ts g) (under i s) (under i v)) (sym (ap length m)) (joined_bounds ts g s v j)) in
        ⊎_elim (λ c. (step ms c.0 x, step ms c.1 y, step_kept c.2 a, step_kept c.3 b, trail (carried (λ (o : PlainNeutral). step ms o x) (λ _ _ x. in_right_side x) c.4) (carried (step ms c.1) (λ _ _ x. in_later_steps x) l)))
        (λ c. stepped z s v ts ms m n n c.0 c.1 c.5 c.4 c.7 c.2 c.3 e e x y us a b (expression_typed w k q es2 a) (expression_typed w k q ev2 b) l) (across_neutral z s v p es ev j)
    across_expression z s v (typed_done p) es ev j = let (x, y, a, b, l) = across_tuple z s v p es ev j in (done x, done y, through_done a, through_done b, carried done (λ _ _ x. in_done x) l)

    across_tuple : (z : Assignment) (s v : Environment) {g : Assignment} {t : PlainTuple} {us : SimpleTelescope} → TypedTuple w g t us → RankedEnvironment w k g z s → RankedEnvironment w k g z v → JoinedEnvironment g s v → (x : PlainTuple) × (y : PlainTuple) × SubstitutedTuple s t x × SubstitutedTuple v t y × JoinedTuple x y
    across_tuple z s v typed_empty es ev j = (empty, empty, through_empty, through_empty, stop)
    across_tuple z s v (typed_entry {m = m} p q) es ev j = let (x, y, a, b, c) = across_object z s v p es ev j in let (x2, y2, a2, b2, c2) = across_tuple z s v q es ev j in
        (entry m x x2, entry m y y2, through_entry a a2, through_entry b b2, trail (carried (λ (o : PlainObject). entry m o x2) (λ _ _ x. in_entry x) c) (carried (entry m y) (λ _ _ x. in_later_entry x) c2))

  -- determined exchange
  still : (z : Assignment) (s : Environment) {g : Assignment} {n : PlainNeutral} {t : SimpleType} → TypedNeutral w g n t → RankedEnvironment w k g z s → Pair z s s n n t
  still z s p f = ⊎_elim (λ a. inl (a.0, a.0, a.1, a.1, stop)) (λ a. inr (a.0, a.0, a.1, a.1, stop, a.2, a.2, a.3)) (total_neutral w k (λ j l. all_total w j) z s p f)

  mutual
    along_object : (z : Assignment) (s : Environment) {g : Assignment} {o u : PlainObject} {t : SimpleType} → Exchanged o u → Typed w g o t → RankedEnvironment w k g z s → (x : PlainObject) × (y : PlainObject) × Substituted s o x × Substituted s u y × Joined x y
    along_object z s (in_lam e) (typed_lam {g = g} {m = m} {d = d} p) f = let (x, y, a, b, c) = along_object (extended d z) (under 1 s) e p (env_bound w k d g z s f) in (lam m x, lam m y, through_lam a, through_lam b, carried (lam m) (λ _ _ x. in_lam x) c)
    along_object z s {g = g} (in_left e) (typed_pair {r = r} {d = d} p q) f = let (x, y, a, b, c) = along_object z s e p f in let (i, l, t) = (all_total w k g z s f).0 r d q in
        (pair x i, pair y i, through_pair a l, through_pair b l, carried (λ (o : PlainObject). pair o i) (λ _ _ x. in_left x) c)
    along_object z s {g = g} (in_right e) (typed_pair {l = r} {c = d} p q) f = let (x, y, a, b, c) = along_object z s e q f in let (i, l, t) = (all_total w k g z s f).0 r d p in
        (pair i x, pair i y, through_pair l a, through_pair l b, carried (pair i) (λ _ _ x. in_right x) c)
    along_object z s (in_monadic e) (typed_monadic p) f = let (x, y, a, b, c) = along_expression z s e p f in (monadic x, monadic y, through_monadic a, through_monadic b, carried monadic (λ _ _ x. in_monadic x) c)
    along_object z s (in_atomic e) (typed_atomic p) f = ⊎_elim (λ a. (atomic a.0, atomic a.1, through_kept a.2, through_kept a.3, carried atomic (λ _ _ x. in_atomic x) a.4)) (λ a. (a.0, a.1, through_value a.2, through_value a.3, a.4)) (along_neutral z s e p f)
    along_object z s (in_atomic e) (typed_metavariable i p h) f = ⊎_elim (λ a. (atomic a.0, atomic a.1, through_kept a.2, through_kept a.3, carried atomic (λ _ _ x. in_atomic x) a.4)) (λ a. (a.0, a.1, through_value a.2, through_value a.3, a.4)) (along_neutral z s e p f)

    along_neutral : (z : Assignment) (s : Environment) {g : Assignment} {n i : PlainNeutral} {t : SimpleType} → ExchangedNeutral n i → TypedNeutral w g n t → RankedEnvironment w k g z s → Pair z s s n i t
    along_neutral z s {g = g} (in_function {r = n} {s = i} {o = o} e) (typed_app {m = m} {d = d} {c = c} p q) f = let (y, a, t) = (all_total w k g z s f).0 o d q in
        applied_pair z s s m d c n i o o (along_neutral z s e p f) y y a a stop t t
    along_neutral z s (in_argument {r = n} {o = o} {u = u} e) (typed_app {m = m} {d = d} {c = c} p q) f = let (y, r, a, b, j) = along_object z s e q f in
        applied_pair z s s m d c n n o u (still z s p f) y r a b j (object_typed w k q f a) (object_typed w k (exchanged_typed w e q) f b)
    along_neutral z s (in_fst {r = n} {s = i} e) (typed_fst {c = c} {d = d} p) f = (parted z s s c d n i (along_neutral z s e p f)).0
    along_neutral z s (in_snd {r = n} {s = i} e) (typed_snd {c = c} {d = d} p) f = (parted z s s c d n i (along_neutral z s e p f)).1

    along_expression : (z : Assignment) (s : Environment) {g : Assignment} {o u : PlainExpression} {us : SimpleTelescope} → ExchangedExpression o u → TypedExpression w g o us → RankedEnvironment w k g z s → (x : PlainExpression) × (y : PlainExpression) × SubstitutedExpression s o x × SubstitutedExpression s u y × JoinedExpression x y
    along_expression z s (in_right_side {r = n} {s = i} {e = e} v) (typed_step {g = g} {ms = ms} {ts = ts} {us = us} p m q) f =
        let f2 : RankedEnvironment w k (extended_by ts g) (extended_by ts z) (under (length ms) s) = subst (λ i. RankedEnvironment w k (extended_by ts g) (extended_by ts z) (under i s)) (sym (ap length m)) (env_bounds w k ts g z s f) in
        let (x, a, t) = (all_total w k (extended_by ts g) (extended_by ts z) (under (length ms) s) f2).1 e us q in
        ⊎_elim (λ c. (step ms c.0 x, step ms c.1 x, step_kept c.2 a, step_kept c.3 a, carried (λ (o : PlainNeutral). step ms o x) (λ _ _ x. in_right_side x) c.4))
        (λ c. stepped z s s ts ms m n i c.0 c.1 c.5 c.4 c.7 c.2 c.3 e e x x us a a t t stop) (along_neutral z s v p f)
    along_expression z s (in_later_steps {r = n} {e = e} {f = d} v) (typed_step {g = g} {ms = ms} {ts = ts} {us = us} p m q) f =
        let f2 : RankedEnvironment w k (extended_by ts g) (extended_by ts z) (under (length ms) s) = subst (λ i. RankedEnvironment w k (extended_by ts g) (extended_by ts z) (under i s)) (sym (ap length m)) (env_bounds w k ts g z s f) in
        let (x, y, a, b, l) = along_expression (extended_by ts z) (under (length ms) s) v q f2 in
        ⊎_elim (λ c. (step ms c.0 x, step ms c.1 y, step_kept c.2 a, step_kept c.3 b, trail (carried (λ (o : PlainNeutral). step ms o x) (λ _ _ x. in_right_side x) c.4) (carried (step ms c.1) (λ _ _ x. in_later_steps x) l)))
        (λ c. stepped z s s ts ms m n n c.0 c.1 c.5 c.4 c.7 c.2 c.3 e d x y us a b (expression_typed w k q f2 a) (expression_typed w k (exchanged_typed_expression w v q) f2 b) l) (still z s p f)
    along_expression z s (in_done v) (typed_done p) f = let (x, y, a, b, l) = along_tuple z s v p f in (done x, done y, through_done a, through_done b, carried done (λ _ _ x. in_done x) l)
    along_expression z s {g = g} {o = o} {u = u} {us = us} (exchange h i j) p f =
        let (x, a, t) = (all_total w k g z s f).1 o us p in
        let (y, b, l) = (all_total w k g z s f).1 u us (exchanged_typed_expression w (exchange h i j) p) in
        (x, y, a, b, crossing w k z s h i j p f x y a b)

    along_tuple : (z : Assignment) (s : Environment) {g : Assignment} {o u : PlainTuple} {us : SimpleTelescope} → ExchangedTuple o u → TypedTuple w g o us → RankedEnvironment w k g z s → (x : PlainTuple) × (y : PlainTuple) × SubstitutedTuple s o x × SubstitutedTuple s u y × JoinedTuple x y
    along_tuple z s {g = g} (in_entry {t = r} e) (typed_entry {m = m} {ts = d} p q) f = let (x, y, a, b, c) = along_object z s e p f in let (i, l, t) = (all_total w k g z s f).1 (done r) d (typed_done q) in
        let (i2, l2) = ret_sub l in (entry m x i2, entry m y i2, through_entry a l2, through_entry b l2, carried (λ (o : PlainObject). entry m o i2) (λ _ _ x. in_entry x) c)
    along_tuple z s {g = g} (in_later_entry {o = o} e) (typed_entry {m = m} {d = d} p q) f = let (x, y, a, b, c) = along_tuple z s e q f in let (i, l, t) = (all_total w k g z s f).0 o d p in
        (entry m i x, entry m i y, through_entry l a, through_entry l b, carried (entry m i) (λ _ _ x. in_later_entry x) c)

  across_here : Across w k
  across_here g z s v es ev j = (
    (λ o t p x y a b. let (i, l, c, d, q) = across_object z s v p es ev j in subst (λ (n : PlainObject). Joined n y) (determined c a) (subst (Joined i) (determined d b) q)),
    (λ o t p x y a b. let (i, l, c, d, q) = across_expression z s v p es ev j in subst (λ (n : PlainExpression). JoinedExpression n y) (determined_expression c a) (subst (JoinedExpression i) (determined_expression d b) q)),
  )

  along_here : Along w k
  along_here g z s f = (
    (λ o u t e p x y a b. let (i, l, c, d, q) = along_object z s e p f in subst (λ (n : PlainObject). Joined n y) (determined c a) (subst (Joined i) (determined d b) q)),
    (λ o u t e p x y a b. let (i, l, c, d, q) = along_expression z s e p f in subst (λ (n : PlainExpression). JoinedExpression n y) (determined_expression c a) (subst (JoinedExpression i) (determined_expression d b) q)),
  )

below_all : (w : Bool) (k j : ℕ) → j < k → Across w j × Along w j
below_all w zero j h = absurd (omega arith)
below_all w (suc k) j h = (across_here w j (λ i l. (below_all w k i (omega arith)).0) (λ i l. (below_all w k i (omega arith)).1), along_here w j (λ i l. (below_all w k i (omega arith)).0) (λ i l. (below_all w k i (omega arith)).1))

-- joined objects put for the heads of joined trees give joined trees
pub respects : (w : Bool) (k : ℕ) (g z : Assignment) (s v : Environment) → RankedEnvironment w k g z s → RankedEnvironment w k g z v → JoinedEnvironment g s v → (o u : PlainObject) (t : SimpleType) → Typed w g o t → Joined o u → (x y : PlainObject) → Substituted s o x → Substituted v u y → Joined x y
respects w k g z s v es ev j o u t p q x y a b =
    let (m, c, d) = (all_total w k g z v ev).0 o t p in
    trail (((below_all w (suc k) k (omega arith)).0 g z s v es ev j).0 o t p x m a c) (all_along w k (below_all w (suc k) k (omega arith)).1 ev q p c b)

pub respects_expression : (w : Bool) (k : ℕ) (g z : Assignment) (s v : Environment) → RankedEnvironment w k g z s → RankedEnvironment w k g z v → JoinedEnvironment g s v → (o u : PlainExpression) (t : SimpleTelescope) → TypedExpression w g o t → JoinedExpression o u → (x y : PlainExpression) → SubstitutedExpression s o x → SubstitutedExpression v u y → JoinedExpression x y
respects_expression w k g z s v es ev j o u t p q x y a b =
    let (m, c, d) = (all_total w k g z v ev).1 o t p in
    trail (((below_all w (suc k) k (omega arith)).0 g z s v es ev j).1 o t p x m a c) (all_along_expression w k (below_all w (suc k) k (omega arith)).1 ev q p c b)
