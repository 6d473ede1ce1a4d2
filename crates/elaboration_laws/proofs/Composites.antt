-- Environments in turn, and environments under locals.
use Rattle.std.proofs.Common.{ap, inl, inr, subst, sym, ⊎_elim, ◌∙◌}
use Rattle.std.specs.Prelude.{List, None, Option, Some, [], length, refl, suc, true, ℕ, ◌∷◌, ◌≡◌}
use Rattle.clf_syntax.proofs.RenamingLaws.{lift_id}
use Rattle.clf_syntax.specs.Renaming.{ren_head}
use Rattle.clf_syntax.specs.Simple.{Assignment, Families, SimplyTyped, extended}
use Rattle.clf_syntax.specs.Tree.{PlainObject}
use Rattle.clf_syntax.specs.TypeTree.{SimpleType}
use Rattle.clf_syntax.specs.declared.tree.Head.{Head}
use Rattle.clf_syntax.specs.declared.tree.Head.TheVariants.{Const, Meta, Var}
use Rattle.hered_subst.proofs.SimpleTyping.{under_zero}
use Rattle.hered_subst.proofs.Single.{under_keeping}
use Rattle.hered_subst.proofs.TypedEnvironments.{keeps_bound}
use Rattle.hered_subst.proofs.TypedResults.{typed_has_result}
use Rattle.hered_subst.proofs.Types.{is_determined}
use Rattle.hered_subst.specs.Laws.{keeping}
use Rattle.hered_subst.specs.Substitution.{Environment, Image, Substituted, keep, put, under}
use Rattle.hered_subst.specs.TypedEnvironments.{StandsFor, TypedEnvironment}
use Rattle.trace_equal.specs.Exchange.{stop}
use Rattle.subst_laws.proofs.Compose.{composed_bound}
use Rattle.subst_laws.proofs.Environs.{under_sum}
use Rattle.subst_laws.proofs.Results.{composition, unmoved}
use Rattle.subst_laws.specs.Environments.{Composed, Follows}
use Rattle.joined_laws.proofs.Results.{respects_all}
use Rattle.joined_laws.specs.Environments.{JoinedEnvironment, JoinedImage}
use Rattle.pattern_laws.specs.Equations.{Equation, Locals, Solves, SolvesEach, TypedEquation, TypedEquations, scoped}
use Rattle.pattern_laws.specs.Instantiations.{Types, closed}

-- An environment that does what two do in turn.
module _ (g z y : Assignment) (s u : Environment) (typed_s : TypedEnvironment true g z s) (typed_u : TypedEnvironment true z y u) where
  image : (h : Head) (t : SimpleType) → z h ≡ z h → StandsFor true z t h (s h) → Image
  image h t e = ⊎_elim (λ c. u c.0) (λ c. put ((typed_has_result true (λ f. None) z y u typed_u).object c.0 t c.2).0)

  at : (h : Head) (x : Option SimpleType) → g h ≡ x → Image
  at h None e = keep h
  at h (Some t) e = image h t refl (typed_s h t e)

  pub in_turn : Environment
  in_turn h = at h (g h) refl

  follows : (h : Head) (t : SimpleType) (c : StandsFor true z t h (s h)) → Follows u (s h) (image h t refl c)
  unfolding image
  follows h t (inl c) = inl (c.0, c.1, refl)
  follows h t (inr c) = let r = (typed_has_result true (λ f. None) z y u typed_u).object c.0 t c.2 in inr (c.0, r.0, c.1, refl, r.1)

  follows_at : (h : Head) (t : SimpleType) (x : Option SimpleType) (e : g h ≡ x) → x ≡ Some t → Follows u (s h) (at h x e)
  unfolding at
  follows_at h t None e i = absurd (nothing i)
    where
      nothing : None ≡ Some t → ⊥
      nothing k = cc
  follows_at h t (Some v) e i = follows h v (typed_s h v e)

  pub composed : Composed g s u in_turn
  unfolding in_turn
  composed h t e = follows_at h t (g h) refl e

-- under locals
pub typed_under : (g z : Assignment) (s : Environment) → TypedEnvironment true g z s → (ls : Locals) → TypedEnvironment true (scoped ls g) (scoped ls z) (under (length ls) s)
typed_under g z s f [] = subst (TypedEnvironment true g z) (sym (under_zero s)) f
typed_under g z s f (l ∷ ls) = subst (TypedEnvironment true (extended l.1 (scoped ls g)) (extended l.1 (scoped ls z))) (under_sum (length ls) s)
    (keeps_bound true l.1 (scoped ls g) (scoped ls z) (under (length ls) s) (typed_under g z s f ls))

pub composed_under : (g : Assignment) (s u v : Environment) → Composed g s u v → (ls : Locals) → Composed (scoped ls g) (under (length ls) s) (under (length ls) u) (under (length ls) v)
composed_under g s u v f [] = subst (λ e. Composed g e (under 0 u) (under 0 v)) (sym (under_zero s))
    (subst (λ e. Composed g s e (under 0 v)) (sym (under_zero u)) (subst (λ e. Composed g s u e) (sym (under_zero v)) f))
composed_under g s u v f (l ∷ ls) = subst (λ e. Composed (extended l.1 (scoped ls g)) e (under (suc (length ls)) u) (under (suc (length ls)) v)) (under_sum (length ls) s)
    (subst (λ e. Composed (extended l.1 (scoped ls g)) (under 1 (under (length ls) s)) e (under (suc (length ls)) v)) (under_sum (length ls) u)
    (subst (λ e. Composed (extended l.1 (scoped ls g)) (under 1 (under (length ls) s)) (under 1 (under (length ls) u)) e) (under_sum (length ls) v)
    (composed_bound l.1 (scoped ls g) (under (length ls) s) (under (length ls) u) (under (length ls) v) (composed_under g s u v f ls))))

-- an environment puts the same as itself
pub joined_self : (g : Assignment) (s : Environment) → JoinedEnvironment g s s
joined_self g s h t e = at (s h)
  where
    at : (i : Image) → JoinedImage i i
    at (keep j) = inl (j, refl, refl)
    at (put n) = inr (n, n, refl, refl, stop)

-- What s does, t and then e do, and b takes back what e does: so t solves what s solves.
module _ (g z y : Assignment) (t e s b : Environment) (typed_t : TypedEnvironment true g z t) (typed_e : TypedEnvironment true z y e) (typed_b : TypedEnvironment true y z b)
    (turns : Composed g t e s) (back : Composed z e b (keeping (λ i. i))) where
  no_families : Families
  no_families f = None

  pub side : (ls : Locals) (l x : PlainObject) (a : SimpleType) → SimplyTyped (scoped ls g) l a → Substituted (under (length ls) s) l x
      → (w : PlainObject) × Substituted (under (length ls) t) l w × SimplyTyped (scoped ls y) x a × Substituted (under (length ls) b) x w
  unfolding no_families
  side ls l x a p c =
      let (w, c1, p1) = (typed_has_result true no_families (scoped ls g) (scoped ls z) (under (length ls) t) (typed_under g z t typed_t ls)).object l a p in
      let (x', c2, p2) = (typed_has_result true no_families (scoped ls z) (scoped ls y) (under (length ls) e) (typed_under z y e typed_e ls)).object w a p1 in
      let same = (is_determined (under (length ls) s)).0 l x' x
      ((composition no_families (scoped ls g) (scoped ls z) (scoped ls y) (under (length ls) t) (under (length ls) e) (under (length ls) s) (typed_under g z t typed_t ls) (typed_under z y e typed_e ls)
      (composed_under g t e s turns ls)).object l w x' a p c1 c2) c in
      let c3 = subst (λ v. Substituted (under (length ls) e) w v) same c2 in let p3 = subst (λ v. SimplyTyped (scoped ls y) v a) same p2 in
      let (w', c4, p4) = (typed_has_result true no_families (scoped ls y) (scoped ls z) (under (length ls) b) (typed_under y z b typed_b ls)).object x a p3 in
      let both_ = (composition no_families (scoped ls z) (scoped ls y) (scoped ls z) (under (length ls) e) (under (length ls) b) (under (length ls) (keeping (λ i. i))) (typed_under z y e typed_e ls) (typed_under y z b typed_b ls)
      (composed_under z e b (keeping (λ i. i)) back ls)).object w x w' a p1 c3 c4 in
      let still = (unmoved no_families (scoped ls z) (under (length ls) (keeping (λ i. i))) (λ h u i. idle_under (length ls) h)).object w a p1 in
      let equal = (is_determined (under (length ls) (keeping (λ i. i)))).0 w w' w both_ still in
      (w, c1, p3, subst (λ v. Substituted (under (length ls) b) x v) equal c4)
    where
      idle_under : (n : ℕ) (h : Head) → under n (keeping (λ i. i)) h ≡ keep h
      idle_under n h = ap (λ f. f h) (under_keeping n (λ i. i)) ∙ ap (λ r. keep (ren_head r h)) (lift_id n) ∙ same_head h
        where
          same_head : (h : Head) → keep (ren_head (λ i. i) h) ≡ keep h
          same_head (Const c) = refl
          same_head (Var i) = refl
          same_head (Meta m) = refl

  pub solves_back : (constants metas : Types) → closed constants metas ≡ g → (q : List Equation) → TypedEquations constants metas q → SolvesEach s q → SolvesEach t q
  solves_back constants metas same [] p c = tt
  solves_back constants metas same (d ∷ q) p c = (one d p.0 c.0, solves_back constants metas same q p.1 c.1)
    where
      one : (d : Equation) → TypedEquation constants metas d → Solves s d → Solves t d
      one d p c = let (x, x', c1, c2, j) = c in
          let (w, d1, p1, b1) = side d.locals d.left x d.type (subst (λ v. SimplyTyped (scoped d.locals v) d.left d.type) same p.0) c1 in
          let (w', d2, p2, b2) = side d.locals d.right x' d.type (subst (λ v. SimplyTyped (scoped d.locals v) d.right d.type) same p.1) c2 in (
            w,
            w',
            d1,
            d2,
            (respects_all no_families (scoped d.locals y) (scoped d.locals z) (under (length d.locals) b) (under (length d.locals) b) (typed_under y z b typed_b d.locals) (typed_under y z b typed_b d.locals)
                (joined_self (scoped d.locals y) (under (length d.locals) b))).object x x' w w' d.type p1 j b1 b2,
          )
