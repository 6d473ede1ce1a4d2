-- Nothing is left of flat equations.
use Rattle.std.specs.Prelude.{ℕ, true, ◌≡◌, List, [], ◌∷◌, refl}
use Rattle.std.proofs.Common.{sym, subst, ◌∙◌, ⊎_elim}
use Rattle.std.specs.List.{slice_get}
use Rattle.clf_syntax.specs.declared.tree.Mode.{Mode}
use Rattle.clf_syntax.specs.Tree.{PlainObject, lam, pair, unit, monadic, atomic, hole, PlainNeutral, PlainExpression, head_of}
use Rattle.clf_syntax.specs.TypeTree.{SimpleType, base, arrow, simple_with, simple_top, lax, SimpleTelescope}
use Rattle.clf_syntax.specs.Simple.{Assignment, SimplyTyped}
use Rattle.hered_subst.specs.TypedEnvironments.{is_metavariable}
use Rattle.store_laws.specs.Additions.{meta_types}
use Rattle.pattern_laws.specs.Instantiations.{Types, closed}
use Rattle.pattern_laws.specs.Equations.{scoped, Locals, Equation, TypedEquation, listed_here}
use Rattle.pattern_laws.specs.Patterns.{Place, OnDistinct, Ordered, IsFinal}
use Rattle.pattern_laws.proofs.Owning.{on_locals, lacks_same}
use Rattle.reach_laws.specs.Reach.{InReach, Reaches, Stuck}
use Rattle.reach_laws.proofs.PartsUnder.{part_typed}
use Rattle.reach_laws.proofs.Rests.{typed_listed}
use Rattle.reach_walk.proofs.OneReading.{stands_final}
use Rattle.flat_laws.specs.Flat.{Flat}
use Rattle.flat_laws.proofs.FlatReach.{flat_reach}
use Rattle.flat_systems.specs.Systems.{FlatEquation}
use Rattle.flat_systems.specs.Laws.{NothingFlatIsLeft}
use Rattle.flat_systems.proofs.Parts.{part_flat, flat_flexible}

not_function : (t : SimpleType) → IsFinal t → (m : Mode) (d c : SimpleType) → t ≡ arrow m d c → ⊥
not_function t f m d c e = ⊎_elim (λ h. of_base h.0 h.1) (λ h. of_lax h.0 h.1) f
  where
    of_base : (a : ℕ) → t ≡ base a → ⊥
    of_base a h = never (sym h ∙ e)
      where
        never : base a ≡ arrow m d c → ⊥
        never e = cc

    of_lax : (s : SimpleTelescope) → t ≡ lax s → ⊥
    of_lax s h = never (sym h ∙ e)
      where
        never : lax s ≡ arrow m d c → ⊥
        never e = cc

not_pair : (t : SimpleType) → IsFinal t → (c d : SimpleType) → t ≡ simple_with c d → ⊥
not_pair t f c d e = ⊎_elim (λ h. of_base h.0 h.1) (λ h. of_lax h.0 h.1) f
  where
    of_base : (a : ℕ) → t ≡ base a → ⊥
    of_base a h = never (sym h ∙ e)
      where
        never : base a ≡ simple_with c d → ⊥
        never e = cc

    of_lax : (s : SimpleTelescope) → t ≡ lax s → ⊥
    of_lax s h = never (sym h ∙ e)
      where
        never : lax s ≡ simple_with c d → ⊥
        never e = cc

not_top : (t : SimpleType) → IsFinal t → t ≡ simple_top → ⊥
not_top t f e = ⊎_elim (λ h. of_base h.0 h.1) (λ h. of_lax h.0 h.1) f
  where
    of_base : (a : ℕ) → t ≡ base a → ⊥
    of_base a h = never (sym h ∙ e)
      where
        never : base a ≡ simple_top → ⊥
        never e = cc

    of_lax : (s : SimpleTelescope) → t ≡ lax s → ⊥
    of_lax s h = never (sym h ∙ e)
      where
        never : lax s ≡ simple_top → ⊥
        never e = cc

-- A flat object of a family or a monad is a neutral.
flat_is_neutral : (g : Assignment) (x : PlainObject) (t : SimpleType) → IsFinal t → SimplyTyped g x t → Flat g x t → (n : PlainNeutral) × (x ≡ atomic n)
flat_is_neutral g (lam m b) t f p (d, c, e, h) = absurd (not_function t f m d c e)
flat_is_neutral g (pair l r) t f p (c, d, e, h, k) = absurd (not_pair t f c d e)
flat_is_neutral g unit t f p h = absurd (not_top t f p)
flat_is_neutral g (monadic e) t f p h = absurd h
flat_is_neutral g (atomic n) t f p h = (n, refl)
flat_is_neutral g hole t f p h = absurd h

module _ (constants metas : Types) (ls : Locals) (t : SimpleType) where
  -- A side that is a metavariable reaches the other one.
  flat_reaches : (x y : PlainObject) (r : PlainNeutral) → x ≡ atomic r → is_metavariable (head_of r) ≡ true → SimplyTyped (scoped ls (closed constants metas)) x t → SimplyTyped (scoped ls (closed constants metas)) y t
      → Flat (scoped ls (closed constants metas)) x t → Flat (scoped ls (closed constants metas)) y t → Reaches (closed constants metas) ls t x y
  flat_reaches x y r e h p q f k = of (flat_flexible (scoped ls (closed constants metas)) r t (subst (λ z. Flat (scoped ls (closed constants metas)) z t) e f) h) (flat_is_neutral (scoped ls (closed constants metas)) y t final q k)
    where
      final : IsFinal t
      final = stands_final (scoped ls (closed constants metas)) r t (subst (λ z. SimplyTyped (scoped ls (closed constants metas)) z t) e p)

      of : (k : ℕ) × (zs : List Place) × OnDistinct (scoped ls (closed constants metas)) r k zs t × Ordered zs → (n : PlainNeutral) × (y ≡ atomic n) → Reaches (closed constants metas) ls t x y
      of (m, zs, d, o) (n, i) = record {
        neutral = r;
        meta = m;
        places = zs;
        own = zs;
        is_neutral = e;
        on_locals = on_locals (scoped ls (closed constants metas)) r m zs t d;
        lacks = lacks_same zs y;
        in_reach = subst (λ z. InReach (closed constants metas) ls r m zs t z) (sym i) (flat_reach (closed constants metas) ls r m zs t final d.type o n (subst (λ z. Flat (scoped ls (closed constants metas)) z t) i k));
      }

  not_monadic : (x : PlainObject) (f : PlainExpression) → x ≡ monadic f → Flat (scoped ls (closed constants metas)) x t → ⊥
  not_monadic x f e h = subst (λ z. Flat (scoped ls (closed constants metas)) z t) e h

-- A flat equation is not stuck.
not_stuck : (constants metas : Types) (e : Equation) → TypedEquation constants metas e → FlatEquation constants metas e → Stuck constants metas e → ⊥
not_stuck constants metas e t f s = ⊎_elim
    (λ h. ⊎_elim
    (λ r. h.not_left (flat_reaches constants metas e.locals e.type e.left e.right r.0 r.1 r.2 t.0 t.1 f.0 f.1))
    (λ r. h.not_right (flat_reaches constants metas e.locals e.type e.right e.left r.0 r.1 r.2 t.1 t.0 f.1 f.0)) h.flexible)
    (λ h. not_monadic constants metas e.locals e.type e.left h.left.0 h.left.1 f.0) s

pub nothing_flat_is_left : NothingFlatIsLeft
nothing_flat_is_left constants zs es [] ready flat rest = refl
nothing_flat_is_left constants zs es (e ∷ left) ready flat rest = let (d, l, p) = rest.met e listed_here in
    absurd (not_stuck (slice_get constants) (slice_get (meta_types zs)) e
    (part_typed (slice_get constants) (slice_get (meta_types zs)) p (typed_listed (slice_get constants) (slice_get (meta_types zs)) d es l ready.typed))
    (part_flat (slice_get constants) (slice_get (meta_types zs)) p (flat.equations d l)) (rest.stuck e listed_here))
