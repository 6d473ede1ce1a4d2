-- Environments under contexts, with one variable more, and of instantiations.
use Rattle.clf_syntax.proofs.RenamingLaws.{cut, ext}
use Rattle.clf_syntax.specs.Renaming.{raise, ren, ren_head, up}
use Rattle.clf_syntax.specs.Simple.{Assignment, erase, extended_over}
use Rattle.clf_syntax.specs.Tree.{PlainObject}
use Rattle.clf_syntax.specs.TypeTree.{PlainType, SimpleType}
use Rattle.clf_syntax.specs.declared.tree.Head.{Head}
use Rattle.clf_syntax.specs.declared.tree.Head.TheVariants.{Const, Meta, Var}
use Rattle.clf_syntax.specs.declared.tree.Mode.{Mode}
use Rattle.std.proofs.Common.{ap, arith, inl, inr, subst, sym, ⊎_elim, ◌∙◌}
use Rattle.std.specs.Prelude.{List, [], length, refl, suc, true, zero, ℕ, ◌+◌, ◌-◌, ◌<◌, ◌∷◌, ◌≡◌, ◌≤◌}
use Rattle.hered_subst.proofs.Bounded.{Kept, Meets}
use Rattle.hered_subst.proofs.Renamed.{image_comp, under_in, under_out}
use Rattle.hered_subst.proofs.SimpleTyping.{renamed_typed, under_under, under_zero}
use Rattle.hered_subst.proofs.Single.{single_at, single_high, single_low, spared}
use Rattle.hered_subst.proofs.TypedEnvironments.{cut3, inserted_at, inserted_high, inserted_low, keeps_bound, of_kept, to_kept}
use Rattle.hered_subst.specs.Laws.{Fits, inserted}
use Rattle.hered_subst.specs.Substitution.{Environment, Image, Substituted, keep, put, ren_image, single, under}
use Rattle.hered_subst.specs.TypedEnvironments.{TypedEnvironment, is_metavariable}
use Rattle.subst_laws.proofs.Compose.{composed_bound, composed_bounds}
use Rattle.subst_laws.specs.Environments.{Composed, ComposedInstantiation, Follows, GoesOver, Instantiation, TypedInstantiation, image_or, instant}
use Rattle.subst_laws.specs.Laws.{GoesOverIsTyped, InstantIsEnvironment, UnderBinders, UnderContext, UnderGoesOver, UnderRenames}

before : (k i : ℕ) → k < i → i - 1 + 1 ≡ i
before k i h = omega arith

below : (k i : ℕ) → k < i → k ≤ i - 1
below k i h = omega arith

-- under binders
pub under_sum : (n : ℕ) (s : Environment) → under 1 (under n s) ≡ under (suc n) s
under_sum zero s = ap (under 1) (under_zero s)
under_sum (suc n) s = ap (under 1) (sym (under_under n s)) ∙ under_sum n (under 1 s) ∙ under_under (suc n) s

pub under_binders : UnderBinders
under_binders g s u v f = ((λ d. composed_bound d g s u v f), (λ ts. composed_bounds ts g s u v f))

keeps_over : (es : List (Mode × PlainType)) (g z : Assignment) (s : Environment) → TypedEnvironment true g z s → TypedEnvironment true (extended_over es g) (extended_over es z) (under (length es) s)
keeps_over [] g z s f = subst (TypedEnvironment true g z) (sym (under_zero s)) f
keeps_over (e ∷ es) g z s f = subst (TypedEnvironment true (extended_over (e ∷ es) g) (extended_over (e ∷ es) z)) (under_sum (length es) s)
    (keeps_bound true (erase e.1) (extended_over es g) (extended_over es z) (under (length es) s) (keeps_over es g z s f))

composed_over : (es : List (Mode × PlainType)) (g : Assignment) (s u v : Environment) → Composed g s u v → Composed (extended_over es g) (under (length es) s) (under (length es) u) (under (length es) v)
composed_over [] g s u v f = subst (λ a. Composed g a (under 0 u) (under 0 v)) (sym (under_zero s)) (subst (λ a. Composed g s a (under 0 v)) (sym (under_zero u)) (subst (Composed g s u) (sym (under_zero v)) f))
composed_over (e ∷ es) g s u v f = subst (λ a. Composed (extended_over (e ∷ es) g) a (under (suc (length es)) u) (under (suc (length es)) v)) (under_sum (length es) s)
    (subst (λ a. Composed (extended_over (e ∷ es) g) (under 1 (under (length es) s)) a (under (suc (length es)) v)) (under_sum (length es) u)
    (subst (Composed (extended_over (e ∷ es) g) (under 1 (under (length es) s)) (under 1 (under (length es) u))) (under_sum (length es) v)
    (composed_bound (erase e.1) (extended_over es g) (under (length es) s) (under (length es) u) (under (length es) v) (composed_over es g s u v f))))

pub under_context : UnderContext
under_context es = (keeps_over es, composed_over es)

-- renaming of locals
pub under_renames : UnderRenames
under_renames s n l r low high (Const c) = past (s (Const c))
  where
    past : (i : Image) → ren_image (up l) i ≡ ren_image r (ren_image (up n) i)
    past i = sym (image_comp r (up n) i ∙ ap (λ f. ren_image f i) (ext high))
under_renames s n l r low high (Meta m) = past (s (Meta m))
  where
    past : (i : Image) → ren_image (up l) i ≡ ren_image r (ren_image (up n) i)
    past i = sym (image_comp r (up n) i ∙ ap (λ f. ren_image f i) (ext high))
under_renames s n l r low high (Var i) = ⊎_elim
    (λ h. under_in l s (r i) (low i h) ∙ sym (ap (ren_image r) (under_in n s i h)))
    (λ h. subst (λ j. under l s (Var (r j)) ≡ ren_image r (under n s (Var j))) (back h) (far (i - n)))
    (cut i n)
  where
    past : (i : Image) → ren_image (up l) i ≡ ren_image r (ren_image (up n) i)
    past i = sym (image_comp r (up n) i ∙ ap (λ f. ren_image f i) (ext high))

    back : n ≤ i → i - n + n ≡ i
    back h = omega arith

    far : (j : ℕ) → under l s (Var (r (j + n))) ≡ ren_image r (under n s (Var (j + n)))
    far j = ap (λ k. under l s (Var k)) (high j) ∙ under_out l s j ∙ past (s (Var j)) ∙ sym (ap (ren_image r) (under_out n s j))

-- one more variable
raise_low : (k i : ℕ) → i < k → raise 1 k i ≡ i
raise_low k i h = grind arith

raise_high : (k i : ℕ) → k ≤ i → raise 1 k i ≡ i + 1
raise_high k i h = grind arith

up_raised : (n k i : ℕ) → k ≤ n → raise 1 k (up n i) ≡ up (n + 1) i
up_raised n k i h = grind arith

pub under_goes_over : UnderGoesOver
under_goes_over s n k h = (fits, under_in (n + 1) s k (omega arith))
  where
    past : (i : Image) → ren_image (up (n + 1)) i ≡ ren_image (raise 1 k) (ren_image (up n) i)
    past i = sym (image_comp (raise 1 k) (up n) i ∙ ap (λ f. ren_image f i) (ext (λ j. up_raised n k j h)))

    small : (i : ℕ) → i < n → raise 1 k i < n + 1
    small i l = grind arith

    far : (j : ℕ) → under (n + 1) s (Var (raise 1 k (j + n))) ≡ ren_image (raise 1 k) (under n s (Var (j + n)))
    far j = ap (λ i. under (n + 1) s (Var i)) (up_raised n k j h) ∙ under_out (n + 1) s j ∙ past (s (Var j)) ∙ sym (ap (ren_image (raise 1 k)) (under_out n s j))

    back : (i : ℕ) → n ≤ i → i - n + n ≡ i
    back i l = omega arith

    fits : Fits (raise 1 k) (raise 1 k) (under n s) (under (n + 1) s)
    fits (Const c) = past (s (Const c))
    fits (Meta m) = past (s (Meta m))
    fits (Var i) = ⊎_elim (λ l. under_in (n + 1) s (raise 1 k i) (small i l) ∙ sym (ap (ren_image (raise 1 k)) (under_in n s i l)))
        (λ l. subst (λ j. under (n + 1) s (Var (raise 1 k j)) ≡ ren_image (raise 1 k) (under n s (Var j))) (back i l) (far (i - n))) (cut i n)

pub inserted_raised : (k : ℕ) (a : SimpleType) (z : Assignment) (j : Head) → inserted k a z (ren_head (raise 1 k) j) ≡ z j
inserted_raised k a z (Const c) = refl
inserted_raised k a z (Meta m) = refl
inserted_raised k a z (Var i) = ⊎_elim (λ h. ap (λ j. inserted k a z (Var j)) (raise_low k i h) ∙ inserted_low k a z i h) (λ h. ap (λ j. inserted k a z (Var j)) (raise_high k i h) ∙ inserted_high k a z i h) (cut i k)

raised_at : (k : ℕ) (a : SimpleType) (z : Assignment) (u : SimpleType) (h : Head) (i : Image) → Meets true z u h i → Meets true (inserted k a z) u h (ren_image (raise 1 k) i)
raised_at k a z u h i c = ⊎_elim
    (λ b. inl (ren_head (raise 1 k) b.0, ap (ren_image (raise 1 k)) b.1, inserted_raised k a z b.0 ∙ b.2, kind b.0 ∙ b.3))
    (λ b. inr (ren (raise 1 k) b.0, ap (ren_image (raise 1 k)) b.1, renamed_typed (inserted k a z) (raise 1 k) b.2 (inserted_raised k a z))) c
  where
    kind : (j : Head) → is_metavariable (ren_head (raise 1 k) j) ≡ is_metavariable j
    kind (Const c) = refl
    kind (Var i) = refl
    kind (Meta m) = refl

over_kept : (g z : Assignment) (k : ℕ) (a : SimpleType) (s v : Environment) → Kept true g z s → GoesOver k s v → Kept true (inserted k a g) (inserted k a z) v
over_kept g z k a s v f o (Const c) u e = subst (Meets true (inserted k a z) u (Const c)) (sym (o.0 (Const c))) (raised_at k a z u (Const c) (s (Const c)) (f (Const c) u e))
over_kept g z k a s v f o (Meta m) u e = subst (Meets true (inserted k a z) u (Meta m)) (sym (o.0 (Meta m))) (raised_at k a z u (Meta m) (s (Meta m)) (f (Meta m) u e))
over_kept g z k a s v f o (Var i) u e = ⊎_elim (λ h. low h) (λ x. ⊎_elim (λ h. here h) (λ h. high h) x) (cut3 k i)
  where
    low : i < k → Meets true (inserted k a z) u (Var i) (v (Var i))
    low h = subst (Meets true (inserted k a z) u (Var i)) (sym (o.0 (Var i)) ∙ ap (λ j. v (Var j)) (raise_low k i h)) (raised_at k a z u (Var i) (s (Var i)) (f (Var i) u (sym (inserted_low k a g i h) ∙ e)))

    here : i ≡ k → Meets true (inserted k a z) u (Var i) (v (Var i))
    here h = inl (Var k, ap (λ j. v (Var j)) h ∙ o.1, inserted_at k a z ∙ sym (ap (λ j. inserted k a g (Var j)) h ∙ inserted_at k a g) ∙ e, refl)

    high : k < i → Meets true (inserted k a z) u (Var i) (v (Var i))
    high h = subst (Meets true (inserted k a z) u (Var (i - 1))) (sym (o.0 (Var (i - 1))) ∙ ap (λ j. v (Var j)) (raise_high k (i - 1) (below k i h) ∙ before k i h))
        (raised_at k a z u (Var (i - 1)) (s (Var (i - 1))) (f (Var (i - 1)) u (sym (inserted_high k a g (i - 1) (below k i h)) ∙ ap (λ j. inserted k a g (Var j)) (before k i h) ∙ e)))

pub over_keeps : GoesOverIsTyped
over_keeps g z k a s v f o = of_kept true (inserted k a g) (inserted k a z) v (over_kept g z k a s v (to_kept true g z s f) o)

-- an object put for a variable, and then an environment, is an environment
abbrev pub afterwards : Environment → PlainObject → Image → Image
afterwards s i (keep j) = s j
afterwards s i (put o) = put i

abbrev pub together : PlainObject → ℕ → Environment → PlainObject → Environment
together n k s i h = afterwards s i (single n k h)

pub put_first : (g : Assignment) (n i : PlainObject) (k : ℕ) (s : Environment) → Substituted s n i → Composed g (single n k) s (together n k s i)
put_first g n i k s p (Const c) t e = inl (Const c, refl, refl)
put_first g n i k s p (Meta m) t e = inl (Meta m, refl, refl)
put_first g n i k s p (Var j) t e = ⊎_elim (λ h. inl (Var j, single_low n k j h, ap (afterwards s i) (single_low n k j h)))
    (λ x. ⊎_elim (λ q. inr (n, i, here q, ap (afterwards s i) (here q), p)) (λ h. inl (Var (j - 1), high h, ap (afterwards s i) (high h))) x)
    (cut3 k j)
  where
    here : j ≡ k → single n k (Var j) ≡ put n
    here q = ap (λ l. single n k (Var l)) q ∙ single_at n k

    high : k < j → single n k (Var j) ≡ keep (Var (j - 1))
    high h = ap (λ l. single n k (Var l)) (sym (before k j h)) ∙ single_high n k (j - 1) (below k j h)

single_raised : (i : PlainObject) (k : ℕ) (h : Head) → single i k (ren_head (raise 1 k) h) ≡ keep h
single_raised i k (Const c) = refl
single_raised i k (Meta m) = refl
single_raised i k (Var j) = ⊎_elim (λ h. ap (λ l. single i k (Var l)) (raise_low k j h) ∙ single_low i k j h) (λ h. ap (λ l. single i k (Var l)) (raise_high k j h) ∙ single_high i k j h) (cut j k)

spared_image : (i : PlainObject) (k : ℕ) (x : Image) → Follows (single i k) (ren_image (raise 1 k) x) x
spared_image i k (keep h) = inl (ren_head (raise 1 k) h, refl, sym (single_raised i k h))
spared_image i k (put o) = inr (ren (raise 1 k) o, o, refl, refl, spared i k o)

pub put_later : (g : Assignment) (n i : PlainObject) (k : ℕ) (s v : Environment) → GoesOver k s v → Composed g v (single i k) (together n k s i)
put_later g n i k s v o (Const c) t e = subst (λ x. Follows (single i k) x (s (Const c))) (sym (o.0 (Const c))) (spared_image i k (s (Const c)))
put_later g n i k s v o (Meta m) t e = subst (λ x. Follows (single i k) x (s (Meta m))) (sym (o.0 (Meta m))) (spared_image i k (s (Meta m)))
put_later g n i k s v o (Var j) t e = ⊎_elim
    (λ h. through j (single_low n k j h) (ap (λ l. v (Var l)) (raise_low k j h)))
    (λ x. ⊎_elim (λ q. inl (Var k, ap (λ l. v (Var l)) q ∙ o.1, ap (afterwards s i) (here q) ∙ sym (single_at i k)))
    (λ h. through (j - 1) (high h) (ap (λ l. v (Var l)) (raise_high k (j - 1) (below k j h) ∙ before k j h))) x)
    (cut3 k j)
  where
    here : j ≡ k → single n k (Var j) ≡ put n
    here q = ap (λ l. single n k (Var l)) q ∙ single_at n k

    high : k < j → single n k (Var j) ≡ keep (Var (j - 1))
    high h = ap (λ l. single n k (Var l)) (sym (before k j h)) ∙ single_high n k (j - 1) (below k j h)

    through : (l : ℕ) → single n k (Var j) ≡ keep (Var l) → v (Var (raise 1 k l)) ≡ v (Var j) → Follows (single i k) (v (Var j)) (together n k s i (Var j))
    through l q r = subst (λ x. Follows (single i k) x (together n k s i (Var j))) (sym (o.0 (Var l)) ∙ r)
        (subst (Follows (single i k) (ren_image (raise 1 k) (s (Var l)))) (sym (ap (afterwards s i) q)) (spared_image i k (s (Var l))))

-- instantiations
pub instant_is_environment : InstantIsEnvironment
instant_is_environment g = (typed, composed)
  where
    typed : (z : Assignment) (t : Instantiation) → TypedInstantiation g z t → TypedEnvironment true g z (instant t)
    typed z t p (Const c) u e = inl (Const c, refl, p.0 c u e, refl)
    typed z t p (Var i) u e = inl (Var i, refl, p.1 i u e, refl)
    typed z t p (Meta m) u e = ⊎_elim (λ a. inl (Meta m, ap (image_or (Meta m)) a.0, a.1, refl)) (λ a. inr (a.0, ap (image_or (Meta m)) a.1, a.2)) (p.2 m u e)

    composed : (t u v : Instantiation) → ComposedInstantiation g t u v → Composed g (instant t) (instant u) (instant v)
    composed t u v p (Const c) a e = inl (Const c, refl, refl)
    composed t u v p (Var i) a e = inl (Var i, refl, refl)
    composed t u v p (Meta m) a e = ⊎_elim (λ b. inl (Meta m, ap (image_or (Meta m)) b.0, ap (image_or (Meta m)) b.1)) (λ b. inr (b.0, b.1, ap (image_or (Meta m)) b.2, ap (image_or (Meta m)) b.3, b.4)) (p m a e)
