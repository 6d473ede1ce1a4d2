-- Whether families have the type <T> or none makes no difference to what is simply typed: nothing stands at it as a head.
use Rattle.std.specs.Prelude.{ℕ, zero, suc, ◌≡◌, ◌⊎◌, true, List, [], ◌∷◌, Some, refl}
use Rattle.std.proofs.Common.{inl, inr, sym, ◌∙◌, ⊎_elim}
use Rattle.clf_syntax.specs.declared.tree.Mode.{Mode}
use Rattle.clf_syntax.specs.declared.tree.Head.{Head}
use Rattle.clf_syntax.specs.declared.tree.Head.TheVariants.{Const, Var, Meta}
use Rattle.clf_syntax.specs.Tree.{PlainObject, lam, pair, unit, monadic, atomic, hole, PlainNeutral, head_alone, app, fst, snd, PlainExpression, step, done, PlainTuple, empty, entry}
use Rattle.clf_syntax.specs.TypeTree.{SimpleType, base, arrow, simple_with, simple_top, lax, SimpleTelescope, simple_end, simple_binding}
use Rattle.clf_syntax.specs.Simple.{Assignment, extended, extended_by, no_holes, MayStand, SimplyTyped, SimplyTypedNeutral, SimplyTypedExpression, SimplyTypedTuple}

-- Each head that a types has the same type by b, or it is <T>.
abbrev pub ButTop : Assignment → Assignment → Type 0
ButTop a b = (h : Head) (t : SimpleType) → a h ≡ Some t → (b h ≡ Some t) ⊎ (t ≡ simple_top)

deeper : (a b : Assignment) (d : SimpleType) → ButTop a b → ButTop (extended d a) (extended d b)
deeper a b d r (Const c) t e = r (Const c) t e
deeper a b d r (Meta m) t e = r (Meta m) t e
deeper a b d r (Var zero) t e = inl e
deeper a b d r (Var (suc i)) t e = r (Var i) t e

deeper_by : (s : SimpleTelescope) (a b : Assignment) → ButTop a b → ButTop (extended_by s a) (extended_by s b)
deeper_by simple_end a b r = r
deeper_by (simple_binding m t s) a b r = deeper_by s (extended t a) (extended t b) (deeper a b t r)

no_arrow : {X : Type 0} {m : Mode} {d c : SimpleType} → arrow m d c ≡ simple_top → X
no_arrow e = absurd (cc)

no_with : {X : Type 0} {c d : SimpleType} → simple_with c d ≡ simple_top → X
no_with e = absurd (cc)

no_lax : {X : Type 0} {s : SimpleTelescope} → lax s ≡ simple_top → X
no_lax e = absurd (cc)

stands_not : {X : Type 0} (n : PlainNeutral) (t : SimpleType) → MayStand (no_holes true) n t → t ≡ simple_top → X
stands_not n t (inl (f, e)) q = absurd (cc)
stands_not n t (inr (k, s, h, e, f)) q = absurd (cc)

mutual
  pub kept : (a b : Assignment) (o : PlainObject) (t : SimpleType) → ButTop a b → SimplyTyped a o t → SimplyTyped b o t
  kept a b (lam m n) t r p = let (d, c, e, q) = p in (d, c, e, kept (extended d a) (extended d b) n c (deeper a b d r) q)
  kept a b (pair x y) t r p = let (c, d, e, q, s) = p in (c, d, e, kept a b x c r q, kept a b y d r s)
  kept a b unit t r p = p
  kept a b (monadic x) t r p = let (s, e, q) = p in (s, e, kept_expression a b x s r q)
  kept a b (atomic n) t r p = ⊎_elim (λ q. (p.0, q)) (λ e. stands_not n t p.0 e) (kept_neutral a b n t r p.1)
  kept a b hole t r p = p

  kept_neutral : (a b : Assignment) (n : PlainNeutral) (t : SimpleType) → ButTop a b → SimplyTypedNeutral a n t → SimplyTypedNeutral b n t ⊎ (t ≡ simple_top)
  kept_neutral a b (head_alone h) t r p = r h t p
  kept_neutral a b (app m x n) t r p = let (d, q, s) = p in ⊎_elim (λ y. inl (d, y, kept a b n d r s)) (λ e. no_arrow e) (kept_neutral a b x (arrow m d t) r q)
  kept_neutral a b (fst x) t r p = let (d, q) = p in ⊎_elim (λ y. inl (d, y)) (λ e. no_with e) (kept_neutral a b x (simple_with t d) r q)
  kept_neutral a b (snd x) t r p = let (c, q) = p in ⊎_elim (λ y. inl (c, y)) (λ e. no_with e) (kept_neutral a b x (simple_with c t) r q)

  kept_expression : (a b : Assignment) (x : PlainExpression) (s : SimpleTelescope) → ButTop a b → SimplyTypedExpression a x s → SimplyTypedExpression b x s
  kept_expression a b (step ms x e) s r p = let (u, q, f, v) = p in
      (u, ⊎_elim (λ y. y) (λ e. no_lax e) (kept_neutral a b x (lax u) r q), f, kept_expression (extended_by u a) (extended_by u b) e s (deeper_by u a b r) v)
  kept_expression a b (done t) s r p = kept_tuple a b t s r p

  kept_tuple : (a b : Assignment) (x : PlainTuple) (s : SimpleTelescope) → ButTop a b → SimplyTypedTuple a x s → SimplyTypedTuple b x s
  kept_tuple a b empty s r p = p
  kept_tuple a b (entry m n x) s r p = let (d, u, e, q, v) = p in (d, u, e, kept a b n d r q, kept_tuple a b x u r v)
