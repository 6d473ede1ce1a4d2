-- Typed environments without ranks: under binders, for one object, for the objects of a tuple; and what they give.
use Rattle.std.specs.Prelude.{ℕ, Bool, zero, suc, ◌+◌, ◌-◌, ◌≡◌, ◌<◌, ◌≤◌, ◌⊎◌, length, Some, refl}
use Rattle.std.proofs.Common.{ap, sym, subst, ◌∙◌, arith, inl, inr, ⊎_elim}
use Rattle.clf_syntax.specs.declared.tree.Head.{Head}
use Rattle.clf_syntax.specs.declared.tree.Head.TheVariants.{Const, Var, Meta}
use Rattle.clf_syntax.specs.Tree.{PlainObject, PlainExpression, PlainTuple}
use Rattle.clf_syntax.specs.TypeTree.{SimpleType, SimpleTelescope, simple_end, simple_binding}
use Rattle.clf_syntax.specs.Simple.{Assignment, extended, extended_by, simple_modes, no_holes, SimplyTypedWith, TupleSimplyTypedWith}
use Rattle.clf_syntax.specs.Renaming.{ren, ren_head, up}
use Rattle.hered_subst.specs.Substitution.{Image, Environment, ren_image, under, single, putting, objects, Substituted, SubstitutedExpression}
use Rattle.hered_subst.specs.TypedEnvironments.{is_metavariable, TypedEnvironment}
use Rattle.hered_subst.specs.Laws.{inserted, PutIsTyped, TypedUnderBinders}
use Rattle.hered_subst.proofs.Renamed.{under_in}
use Rattle.hered_subst.proofs.Single.{single_low, single_at, single_high}
use Rattle.hered_subst.proofs.SimpleTyping.{Typed, TypedExpression, to_typed, of_typed, to_tuple, renamed_typed, under_next, under_under, under_zero}
use Rattle.hered_subst.proofs.Total.{the_type, raised_types, putting_env, all_total}
use Rattle.hered_subst.proofs.Bounded.{Kept, Meets, bound, limited, limited_in, ranked, supported, supported_expression}

-- an environment that keeps simple types, where the flag allows metavariables at monads
pub raised_meets : (w : Bool) (d : SimpleType) (z : Assignment) (u : SimpleType) (h : Head) (i : Image) → Meets w z u h i → Meets w (extended d z) u h (ren_image (up 1) i)
raised_meets w d z u h i c = ⊎_elim
    (λ a. inl (ren_head (up 1) a.0, ap (ren_image (up 1)) a.1, raised_types d z a.0 ∙ a.2, raised_kind a.0 ∙ a.3))
    (λ a. inr (ren (up 1) a.0, ap (ren_image (up 1)) a.1, renamed_typed (extended d z) (up 1) a.2 (raised_types d z))) c
  where
    raised_kind : (j : Head) → is_metavariable (ren_head (up 1) j) ≡ is_metavariable j
    raised_kind (Const c) = refl
    raised_kind (Var i) = refl
    raised_kind (Meta m) = refl

pub kept_bound : (w : Bool) (d : SimpleType) (g z : Assignment) (s : Environment) → Kept w g z s → Kept w (extended d g) (extended d z) (under 1 s)
kept_bound w d g z s f (Const c) u e = raised_meets w d z u (Const c) (s (Const c)) (f (Const c) u e)
kept_bound w d g z s f (Meta m) u e = raised_meets w d z u (Meta m) (s (Meta m)) (f (Meta m) u e)
kept_bound w d g z s f (Var zero) u e = inl (Var 0, under_in 1 s 0 (omega arith), e, refl)
kept_bound w d g z s f (Var (suc i)) u e = subst (Meets w (extended d z) u (Var i)) (sym (under_next s i)) (raised_meets w d z u (Var i) (s (Var i)) (f (Var i) u e))

-- the result
pub total_object : (w : Bool) (g z : Assignment) (s : Environment) → Kept w g z s → {o : PlainObject} {t : SimpleType} → Typed w g o t → (x : PlainObject) × Substituted s o x × Typed w z x t
total_object w g z s f {o} {t} p = let (k, a) = supported p in
    (all_total w (bound k g) (limited k g) z s (ranked w g z s k (λ h u l e. f h u e))).0 o t (a (limited k g) (limited_in k g))

pub total_steps : (w : Bool) (g z : Assignment) (s : Environment) → Kept w g z s → {o : PlainExpression} {t : SimpleTelescope} → TypedExpression w g o t → (x : PlainExpression) × SubstitutedExpression s o x × TypedExpression w z x t
total_steps w g z s f {o} {t} p = let (k, a) = supported_expression p in
    (all_total w (bound k g) (limited k g) z s (ranked w g z s k (λ h u l e. f h u e))).1 o t (a (limited k g) (limited_in k g))

-- between the words of the statements and the families of the proofs
pub to_kept : (w : Bool) (g z : Assignment) (s : Environment) → TypedEnvironment w g z s → Kept w g z s
to_kept w g z s f h u e = ⊎_elim (λ a. inl a) (λ a. inr (a.0, a.1, to_typed w z a.0 u a.2)) (f h u e)

pub of_kept : (w : Bool) (g z : Assignment) (s : Environment) → Kept w g z s → TypedEnvironment w g z s
of_kept w g z s f h u e = ⊎_elim (λ a. inl a) (λ a. inr (a.0, a.1, of_typed a.2)) (f h u e)

-- under binders
pub keeps_bound : (w : Bool) (d : SimpleType) (g z : Assignment) (s : Environment) → TypedEnvironment w g z s → TypedEnvironment w (extended d g) (extended d z) (under 1 s)
keeps_bound w d g z s f = of_kept w (extended d g) (extended d z) (under 1 s) (kept_bound w d g z s (to_kept w g z s f))

pub keeps_bounds : (w : Bool) (ts : SimpleTelescope) (g z : Assignment) (s : Environment) → TypedEnvironment w g z s → TypedEnvironment w (extended_by ts g) (extended_by ts z) (under (length (simple_modes ts)) s)
keeps_bounds w simple_end g z s f = subst (TypedEnvironment w g z) (sym (under_zero s)) f
keeps_bounds w (simple_binding m t ts) g z s f = subst (TypedEnvironment w (extended_by ts (extended t g)) (extended_by ts (extended t z))) (under_under (length (simple_modes ts)) s)
    (keeps_bounds w ts (extended t g) (extended t z) (under 1 s) (keeps_bound w t g z s f))

pub typed_under_binders : TypedUnderBinders
typed_under_binders w g z s f = ((λ d. keeps_bound w d g z s f), (λ u. keeps_bounds w u g z s f))

-- the places of a new variable
pub inserted_low : (k : ℕ) (u : SimpleType) (z : Assignment) (i : ℕ) → i < k → inserted k u z (Var i) ≡ z (Var i)
inserted_low k u z i h = grind arith

pub inserted_at : (k : ℕ) (u : SimpleType) (z : Assignment) → inserted k u z (Var k) ≡ Some u
inserted_at k u z = grind arith

pub inserted_high : (k : ℕ) (u : SimpleType) (z : Assignment) (i : ℕ) → k ≤ i → inserted k u z (Var (i + 1)) ≡ z (Var i)
inserted_high k u z i h = grind arith

pub cut3 : (k i : ℕ) → (i < k) ⊎ (i ≡ k) ⊎ (k < i)
cut3 k i = grind arith

-- what is put
pub kept_single : (w : Bool) (z : Assignment) (k : ℕ) (n : PlainObject) (u : SimpleType) → Typed w z n u → Kept w (inserted k u z) z (single n k)
kept_single w z k n u p (Const c) t e = inl (Const c, refl, e, refl)
kept_single w z k n u p (Meta m) t e = inl (Meta m, refl, e, refl)
kept_single w z k n u p (Var i) t e = ⊎_elim (λ h. inl (Var i, single_low n k i h, sym (inserted_low k u z i h) ∙ e, refl))
    (λ x. ⊎_elim
    (λ q. let r : u ≡ t = the_type (sym (ap (λ j. inserted k u z (Var j)) q ∙ inserted_at k u z) ∙ e) in inr (n, ap (λ j. single n k (Var j)) q ∙ single_at n k, subst (λ v. Typed w z n v) r p))
    (λ h. inl (Var (i - 1), ap (λ j. single n k (Var j)) (sym (before h)) ∙ single_high n k (i - 1) (below h), sym (ap (λ j. inserted k u z (Var j)) (sym (before h)) ∙ inserted_high k u z (i - 1) (below h)) ∙ e, refl))
    x)
    (cut3 k i)
  where
    before : k < i → i - 1 + 1 ≡ i
    before h = omega arith

    below : k < i → k ≤ i - 1
    below h = omega arith

pub keeps_single : (w : Bool) (z : Assignment) (k : ℕ) (n : PlainObject) (u : SimpleType) → SimplyTypedWith (no_holes w) z n u → TypedEnvironment w (inserted k u z) z (single n k)
keeps_single w z k n u p = of_kept w (inserted k u z) z (single n k) (kept_single w z k n u (to_typed w z n u p))

keeps_putting : (w : Bool) (z : Assignment) (t : PlainTuple) (ts : SimpleTelescope) → TupleSimplyTypedWith (no_holes w) z t ts → TypedEnvironment w (extended_by ts z) z (putting (objects t))
keeps_putting w z t ts p = of_kept w (extended_by ts z) z (putting (objects t)) (λ h u e. ⊎_elim (λ a. inl a) (λ a. inr (a.0, a.1, a.2)) (putting_env w ts z t (to_tuple w z t ts p) h u e))

pub put_is_typed : PutIsTyped
put_is_typed w z = ((λ k n u p. keeps_single w z k n u p), (λ t s p. keeps_putting w z t s p))
