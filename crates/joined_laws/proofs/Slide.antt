-- A step slides past the steps that a value brings in.
use Rattle.clf_syntax.proofs.RenamingLaws.{binds, composed_expression, cross_cross, cross_new, cross_old, cross_out, cut, ext, identity_expression, identity_neutral, lift_comp, lift_cross, lift_up, square_expression, square_neutral, undone_expression}
use Rattle.clf_syntax.specs.Renaming.{Renumbering, crossed, lifted, ren, ren_expression, ren_head, ren_neutral, up}
use Rattle.clf_syntax.specs.Simple.{Assignment, extended_by, simple_modes}
use Rattle.clf_syntax.specs.Tree.{PlainExpression, PlainNeutral, PlainObject, step}
use Rattle.clf_syntax.specs.TypeTree.{SimpleTelescope}
use Rattle.clf_syntax.specs.declared.tree.Head.{Head}
use Rattle.clf_syntax.specs.declared.tree.Head.TheVariants.{Const, Meta, Var}
use Rattle.clf_syntax.specs.declared.tree.Mode.{Mode}
use Rattle.std.proofs.Common.{ap, arith, subst, sym, ⊎_elim, ◌∙◌}
use Rattle.std.specs.Prelude.{Bool, List, [], length, map, refl, suc, zero, ℕ, ◌+◌, ◌-◌, ◌<◌, ◌∷◌, ◌≡◌, ◌≤◌}
use Rattle.trace_equal.proofs.Closed.{carried, trail}
use Rattle.trace_equal.specs.Exchange.{JoinedExpression, exchange, in_later_steps, next, stop}
use Rattle.hered_subst.proofs.Determined.{apart, determined_expression, determined_flattened, determined_kept}
use Rattle.hered_subst.proofs.Renamed.{length_map, renamed_expression, renamed_flattened, renamed_objects, under_in, under_out}
use Rattle.hered_subst.proofs.SimpleTyping.{TypedExpression, among_past, image_idle, ranks, renamed_typed_expression, suited_all, typed_done, typed_step}
use Rattle.hered_subst.proofs.Single.{renames_expression, renames_neutral}
use Rattle.hered_subst.proofs.Total.{putting_env, raised_all}
use Rattle.hered_subst.specs.Laws.{Fits, keeping}
use Rattle.hered_subst.specs.Substitution.{Environment, Flattened, KeepsHead, SubstitutedExpression, among, flat_done, flat_step, keep, objects, putting, ren_image, step_kept, step_meta, step_value, under}
use Rattle.subst_laws.proofs.Before.{before_expression, before_neutral}
use Rattle.subst_laws.proofs.Compose.{all_thens, under_types}

among_map : (r : Renumbering) (ns : List PlainObject) (i : ℕ) → i < length ns → among (map (ren r) ns) i ≡ ren_image r (among ns i)
among_map r [] i h = absurd (omega arith)
among_map r (n ∷ ns) zero h = refl
among_map r (n ∷ ns) (suc i) h = among_map r ns i (omega arith)

among_far : (ns : List PlainObject) (n i : ℕ) → length ns ≡ n → among ns (i + n) ≡ keep (Var i)
among_far ns n i e = ap (λ k. among ns (i + k)) (sym e) ∙ among_past ns i

-- putting under a block that was crossed
cross_env : (a b : ℕ) (ns : List PlainObject) → length ns ≡ b → (h : Head) → under a (putting ns) (ren_head (crossed a b) h) ≡ putting (map (ren (up a)) ns) h
cross_env a b ns e (Const c) = refl
cross_env a b ns e (Meta m) = refl
cross_env a b ns e (Var i) = ⊎_elim new (λ h. ⊎_elim (old h) out (cut i (b + a))) (cut i b)
  where
    Goal : ℕ → Type 0
    Goal j = under a (putting ns) (Var (crossed a b j)) ≡ among (map (ren (up a)) ns) j

    long : length (map (ren (up a)) ns) ≡ b
    long = length_map (ren (up a)) ns ∙ e

    new : i < b → Goal i
    new h = ap (λ j. under a (putting ns) (Var j)) (cross_new a b i h) ∙ under_out a (putting ns) i ∙ sym (among_map (up a) ns i (less e h))
      where
        less : length ns ≡ b → i < b → i < length ns
        less e h = omega arith

    old : b ≤ i → i < b + a → Goal i
    old h k = ap (λ j. under a (putting ns) (Var j)) (cross_old a b i h k) ∙ under_in a (putting ns) (i - b) (less h k) ∙ sym (ap (among (map (ren (up a)) ns)) (first_case h) ∙ among_far (map (ren (up a)) ns) b (i - b) long)
      where
        less : b ≤ i → i < b + a → i - b < a
        less h k = omega arith

        first_case : b ≤ i → i ≡ i - b + b
        first_case h = omega arith

    out : b + a ≤ i → Goal i
    out h = ap (λ j. under a (putting ns) (Var j)) (cross_out a b i h ∙ first_case h) ∙ under_out a (putting ns) (i - b - a + b) ∙ ap (ren_image (up a)) (among_far ns b (i - b - a) e)
        ∙ sym (ap (among (map (ren (up a)) ns)) (second_case h) ∙ among_far (map (ren (up a)) ns) b (i - b - a + a) long)
      where
        first_case : b + a ≤ i → i ≡ i - b - a + b + a
        first_case h = omega arith

        second_case : b + a ≤ i → i ≡ i - b - a + a + b
        second_case h = omega arith

-- crossing, after what is past a block
cross_lift : (a c i : ℕ) → crossed a c (lifted c (up a) i) ≡ up a i
cross_lift a c i = grind arith

cross_past : (a c i : ℕ) → crossed a c (up c i) ≡ lifted a (up c) i
cross_past a c i = grind arith

keeps_self : (n : PlainNeutral) (s : Environment) → ((h : Head) → s h ≡ keep h) → KeepsHead s n n
keeps_self n s f = subst (λ (z : Environment). KeepsHead z n n) (ext (λ h. image_at h ∙ sym (f h))) (subst (KeepsHead (keeping (λ i. i)) n) (identity_neutral n) (renames_neutral (λ i. i) n))
  where
    image_at : (h : Head) → keeping (λ i. i) h ≡ keep h
    image_at (Const c) = refl
    image_at (Var i) = refl
    image_at (Meta m) = refl

self_expression : (e : PlainExpression) (s : Environment) → ((h : Head) → s h ≡ keep h) → SubstitutedExpression s e e
self_expression e s f = subst (λ (z : Environment). SubstitutedExpression z e e) (ext (λ h. image_at h ∙ sym (f h))) (subst (SubstitutedExpression (keeping (λ i. i)) e) (identity_expression e) (renames_expression (λ i. i) e))
  where
    image_at : (h : Head) → keeping (λ i. i) h ≡ keep h
    image_at (Const c) = refl
    image_at (Var i) = refl
    image_at (Meta m) = refl

far_heads : (ns : List PlainObject) (b : ℕ) → length ns ≡ b → (h : Head) → putting ns (ren_head (up b) h) ≡ keep h
far_heads ns b e (Const c) = refl
far_heads ns b e (Var i) = among_far ns b i e
far_heads ns b e (Meta m) = refl

spare_neutral : (ns : List PlainObject) (b : ℕ) → length ns ≡ b → (n : PlainNeutral) → KeepsHead (putting ns) (ren_neutral (up b) n) n
spare_neutral ns b e n = before_neutral (up b) (putting ns) (keeps_self n (λ h. putting ns (ren_head (up b) h)) (far_heads ns b e))

spare0 : (ns : List PlainObject) (b : ℕ) → length ns ≡ b → (f : PlainExpression) → SubstitutedExpression (putting ns) (ren_expression (up b) f) f
spare0 ns b e f = before_expression (up b) (putting ns) (self_expression f (λ h. putting ns (ren_head (up b) h)) (far_heads ns b e))

head_comp2 : (a b : ℕ) (h : Head) → ren_head (crossed b a) (ren_head (crossed a b) h) ≡ h
head_comp2 a b (Const c) = refl
head_comp2 a b (Var i) = ap (λ j. Var j) (cross_cross a b i)
head_comp2 a b (Meta m) = refl

-- a substitution of what is past a block, seen from the other side
uncross_sub : (a b : ℕ) (ns : List PlainObject) → length ns ≡ b → (e y : PlainExpression) → SubstitutedExpression (under a (putting ns)) (ren_expression (crossed a b) e) y → SubstitutedExpression (putting (map (ren (up a)) ns)) e y
uncross_sub a b ns l e y p = subst (λ (o : PlainExpression). SubstitutedExpression (putting (map (ren (up a)) ns)) o y) (undone_expression (crossed b a) (crossed a b) (cross_cross a b) e)
    (subst (SubstitutedExpression (putting (map (ren (up a)) ns)) (ren_expression (crossed b a) (ren_expression (crossed a b) e))) (identity_expression y)
    (renamed_expression (crossed b a) (λ i. i) (putting (map (ren (up a)) ns)) fits p))
  where
    fits : Fits (crossed b a) (λ i. i) (under a (putting ns)) (putting (map (ren (up a)) ns))
    fits h = sym (cross_env a b ns l (ren_head (crossed b a) h)) ∙ ap (under a (putting ns)) (head_comp2 b a h) ∙ sym (image_idle (under a (putting ns) h))

cross_sub : (a b : ℕ) (ns : List PlainObject) → length ns ≡ b → (e y : PlainExpression) → SubstitutedExpression (putting (map (ren (up a)) ns)) e y → SubstitutedExpression (under a (putting ns)) (ren_expression (crossed a b) e) y
cross_sub a b ns l e y p = before_expression (crossed a b) (under a (putting ns)) (subst (λ (s : Environment). SubstitutedExpression s e y) (ext (λ h. sym (cross_env a b ns l h))) p)

kept_front : {s : Environment} {p : List Mode} {n r : PlainNeutral} {e x : PlainExpression} → KeepsHead s n r → SubstitutedExpression s (step p n e) x → (y : PlainExpression) × (x ≡ step p r y) × SubstitutedExpression (under (length p) s) e y
kept_front {p = p} k (step_kept {f = f} q a) = (f, binds p (determined_kept q k) refl, a)
kept_front k (step_value v a t) = absurd (apart k v)
kept_front k (step_meta v i a) = absurd (apart k v)

-- a step goes in front of the steps g
pub slide : {b : ℕ} {g x : PlainExpression} {o : PlainExpression} → Flattened b g o x → (p : List Mode) (r : PlainNeutral) (e : PlainExpression) → o ≡ step p (ren_neutral (up b) r) (ren_expression (crossed (length p) b) e)
    → (y : PlainExpression) × Flattened b (ren_expression (up (length p)) g) e y × JoinedExpression (step p r y) x
slide {b = b} (flat_done {n = n} {t = t} {h = x} l sub) p r e i =
    let (y, f, a) = kept_front (spare_neutral (objects t) b l r) (subst (λ (q : PlainExpression). SubstitutedExpression (putting (objects t)) q x) i sub) in (
      y,
      flat_done (ap length (renamed_objects (up (length p)) t) ∙ length_map (ren (up (length p))) (objects t) ∙ l)
          (subst (λ ns. SubstitutedExpression (putting ns) e y) (sym (renamed_objects (up (length p)) t)) (uncross_sub (length p) b (objects t) l e y a)),
      subst (JoinedExpression (step p r y)) (sym f) stop,
    )
slide {b = b} (flat_step {n = n} {p = c} {r = v} {g = g} {f = o} {h = x} th) p r e i =
    let (y, a, j) = slide th p (ren_neutral (up (length c)) r) (ren_expression (lifted b (lifted (length p) (up (length c)))) e) (ap (ren_expression (lifted b (up (length c)))) i ∙ binds p side tail) in
    (step c (ren_neutral (up (length p)) v) (ren_expression (crossed (length c) (length p)) y), flat_step (there a), trail (next (exchange refl refl refl) stop) (carried (step c v) (λ _ _ x. in_later_steps x) (subst (λ (q : PlainExpression). JoinedExpression (step p (ren_neutral (up (length c)) r) q) x) (sym (undone_expression (crossed (length p) (length c)) (crossed (length c) (length p)) (cross_cross (length c) (length p)) y)) j)))
  where
    side : ren_neutral (lifted b (up (length c))) (ren_neutral (up b) r) ≡ ren_neutral (up b) (ren_neutral (up (length c)) r)
    side = square_neutral (lifted b (up (length c))) (up b) (up b) (up (length c)) (lift_up b (up (length c))) r

    tail : ren_expression (lifted (length p) (lifted b (up (length c)))) (ren_expression (crossed (length p) b) e) ≡ ren_expression (crossed (length p) b) (ren_expression (lifted b (lifted (length p) (up (length c)))) e)
    tail = square_expression (lifted (length p) (lifted b (up (length c)))) (crossed (length p) b) (crossed (length p) b) (lifted b (lifted (length p) (up (length c)))) (lift_cross (length p) b (up (length c))) e

    there : {y : PlainExpression} → Flattened b (ren_expression (up (length p)) g) (ren_expression (lifted b (lifted (length p) (up (length c)))) e) y → Flattened b (ren_expression (lifted (length c) (up (length p))) g) (ren_expression (lifted b (up (length c))) e) (ren_expression (crossed (length c) (length p)) y)
    there {y} a = subst (λ (q : PlainExpression). Flattened b q (ren_expression (lifted b (up (length c))) e) (ren_expression (crossed (length c) (length p)) y)) first
        (subst (λ (q : PlainExpression). Flattened b (ren_expression (crossed (length c) (length p)) (ren_expression (up (length p)) g)) q (ren_expression (crossed (length c) (length p)) y)) second (renamed_flattened (crossed (length c) (length p)) a))
      where
        first : ren_expression (crossed (length c) (length p)) (ren_expression (up (length p)) g) ≡ ren_expression (lifted (length c) (up (length p))) g
        first = composed_expression (crossed (length c) (length p)) (up (length p)) g ∙ ap (λ q. ren_expression q g) (ext (cross_past (length c) (length p)))

        second : ren_expression (lifted b (crossed (length c) (length p))) (ren_expression (lifted b (lifted (length p) (up (length c)))) e) ≡ ren_expression (lifted b (up (length c))) e
        second = composed_expression (lifted b (crossed (length c) (length p))) (lifted b (lifted (length p) (up (length c)))) e ∙ ap (λ q. ren_expression q e) (lift_comp b (crossed (length c) (length p)) (lifted (length p) (up (length c))) ∙ ap (lifted b) (ext (cross_lift (length c) (length p))))

-- steps slide past steps
pub slide_all : (w : Bool) (ps qs : SimpleTelescope) {z : Assignment} {h : PlainExpression} → TypedExpression w z h ps → (g : PlainExpression) → TypedExpression w z g qs → (e : PlainExpression) (us : SimpleTelescope) → TypedExpression w (extended_by qs (extended_by ps z)) e us → (y x k i : PlainExpression)
    → Flattened (length (simple_modes ps)) h y x → Flattened (length (simple_modes qs)) (ren_expression (up (length (simple_modes ps))) g) e y
    → Flattened (length (simple_modes ps)) (ren_expression (up (length (simple_modes qs))) h) (ren_expression (crossed (length (simple_modes ps)) (length (simple_modes qs))) e) k → Flattened (length (simple_modes qs)) g k i → JoinedExpression x i
slide_all w ps qs {z = z} (typed_done {t = t} p) g tg e us te y x k i (flat_done l a) b (flat_done n c) d =
    let (o, r, t1, s1, t2, to, tr) = all_thens w qs (ranks ps) (extended_by ps z) z (putting (objects t)) (putting_env w ps z t p)
    (ren_expression (up (length (simple_modes ps))) g) g (renamed_typed_expression (extended_by ps z) (up (length (simple_modes ps))) tg (raised_all ps z)) (spare0 (objects t) (length (simple_modes ps)) l g) e k us te inner in
    subst (JoinedExpression x) (determined_expression (subst (λ (q : PlainExpression). SubstitutedExpression (putting (objects t)) q x) (sym (determined_flattened t1 b)) a) s1 ∙ determined_flattened t2 d) stop
  where
    inner : SubstitutedExpression (under (length (simple_modes qs)) (putting (objects t))) e k
    inner = subst (λ (q : PlainExpression). SubstitutedExpression (under (length (simple_modes qs)) (putting (objects t))) q k) (undone_expression (crossed (length (simple_modes qs)) (length (simple_modes ps))) (crossed (length (simple_modes ps)) (length (simple_modes qs))) (cross_cross (length (simple_modes ps)) (length (simple_modes qs))) e)
        (cross_sub (length (simple_modes qs)) (length (simple_modes ps)) (objects t) l (ren_expression (crossed (length (simple_modes ps)) (length (simple_modes qs))) e) k
        (subst (λ ns. SubstitutedExpression (putting ns) (ren_expression (crossed (length (simple_modes ps)) (length (simple_modes qs))) e) k) (renamed_objects (up (length (simple_modes qs))) t) c))
slide_all w ps qs {z = z} (typed_step {ms = ms} {r = v} {e = h} {ts = rs} pv m q) g tg e us te y x k i (flat_step {h = x1} a) b (flat_step {h = k1} c) d =
    let (j, f, l) = slide d ms v (ren_expression (crossed (length (simple_modes qs)) (length ms)) k1) (binds ms refl (sym (undone_expression (crossed (length ms) (length (simple_modes qs))) (crossed (length (simple_modes qs)) (length ms)) (cross_cross (length (simple_modes qs)) (length ms)) k1))) in
    trail (carried (step ms v) (λ _ _ x. in_later_steps x)
    (slide_all w ps qs q (ren_expression (up (length ms)) g) (renamed_typed_expression (extended_by rs z) (up (length ms)) tg (under_types rs z ms m))
    (ren_expression deep e) us (renamed_typed_expression (extended_by qs (extended_by ps (extended_by rs z))) deep te (suited_all qs (extended_by ps z) (extended_by ps (extended_by rs z)) (lifted (length (simple_modes ps)) (up (length ms))) (suited_all ps z (extended_by rs z) (up (length ms)) (under_types rs z ms m))))
    (ren_expression (lifted (length (simple_modes ps)) (up (length ms))) y) x1 (ren_expression (crossed (length (simple_modes qs)) (length ms)) k1) j a b2 c2 f)) l
  where
    deep : Renumbering
    deep = lifted (length (simple_modes qs)) (lifted (length (simple_modes ps)) (up (length ms)))

    b2 : Flattened (length (simple_modes qs)) (ren_expression (up (length (simple_modes ps))) (ren_expression (up (length ms)) g)) (ren_expression deep e) (ren_expression (lifted (length (simple_modes ps)) (up (length ms))) y)
    b2 = subst (λ (o : PlainExpression). Flattened (length (simple_modes qs)) o (ren_expression deep e) (ren_expression (lifted (length (simple_modes ps)) (up (length ms))) y))
        (square_expression (lifted (length (simple_modes ps)) (up (length ms))) (up (length (simple_modes ps))) (up (length (simple_modes ps))) (up (length ms)) (lift_up (length (simple_modes ps)) (up (length ms))) g)
        (renamed_flattened (lifted (length (simple_modes ps)) (up (length ms))) b)

    c2 : Flattened (length (simple_modes ps)) (ren_expression (up (length (simple_modes qs))) h) (ren_expression (crossed (length (simple_modes ps)) (length (simple_modes qs))) (ren_expression deep e)) (ren_expression (crossed (length (simple_modes qs)) (length ms)) k1)
    c2 = subst (λ (o : PlainExpression). Flattened (length (simple_modes ps)) o (ren_expression (crossed (length (simple_modes ps)) (length (simple_modes qs))) (ren_expression deep e)) (ren_expression (crossed (length (simple_modes qs)) (length ms)) k1)) first
        (subst (λ (o : PlainExpression). Flattened (length (simple_modes ps)) (ren_expression (crossed (length (simple_modes qs)) (length ms)) (ren_expression (lifted (length ms) (up (length (simple_modes qs)))) h)) o (ren_expression (crossed (length (simple_modes qs)) (length ms)) k1)) second
        (renamed_flattened (crossed (length (simple_modes qs)) (length ms)) c))
      where
        first : ren_expression (crossed (length (simple_modes qs)) (length ms)) (ren_expression (lifted (length ms) (up (length (simple_modes qs)))) h) ≡ ren_expression (up (length (simple_modes qs))) h
        first = composed_expression (crossed (length (simple_modes qs)) (length ms)) (lifted (length ms) (up (length (simple_modes qs)))) h ∙ ap (λ r. ren_expression r h) (ext (cross_lift (length (simple_modes qs)) (length ms)))

        second : ren_expression (lifted (length (simple_modes ps)) (crossed (length (simple_modes qs)) (length ms))) (ren_expression (lifted (length (simple_modes ps)) (up (length ms))) (ren_expression (crossed (length (simple_modes ps)) (length (simple_modes qs))) e))
            ≡ ren_expression (crossed (length (simple_modes ps)) (length (simple_modes qs))) (ren_expression deep e)
        second = composed_expression (lifted (length (simple_modes ps)) (crossed (length (simple_modes qs)) (length ms))) (lifted (length (simple_modes ps)) (up (length ms))) (ren_expression (crossed (length (simple_modes ps)) (length (simple_modes qs))) e)
            ∙ ap (λ r. ren_expression r (ren_expression (crossed (length (simple_modes ps)) (length (simple_modes qs))) e)) (lift_comp (length (simple_modes ps)) (crossed (length (simple_modes qs)) (length ms)) (up (length ms)) ∙ ap (lifted (length (simple_modes ps))) (ext (cross_past (length (simple_modes qs)) (length ms))))
            ∙ square_expression (lifted (length (simple_modes ps)) (lifted (length (simple_modes qs)) (up (length ms)))) (crossed (length (simple_modes ps)) (length (simple_modes qs))) (crossed (length (simple_modes ps)) (length (simple_modes qs))) deep (lift_cross (length (simple_modes ps)) (length (simple_modes qs)) (up (length ms))) e
