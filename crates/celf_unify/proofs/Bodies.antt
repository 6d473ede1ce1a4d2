-- An equation and its parts.
use Rattle.std.specs.Prelude.{◌≡◌, List, [], ◌∷◌, refl}
use Rattle.std.proofs.Common.{ap, sym, subst, ◌∙◌, arith}
use Rattle.clf_syntax.specs.declared.tree.Mode.{Mode}
use Rattle.clf_syntax.specs.Tree.{PlainObject, lam, pair}
use Rattle.clf_syntax.specs.TypeTree.{SimpleType, arrow, simple_with}
use Rattle.clf_syntax.specs.Simple.{SimplyTyped}
use Rattle.trace_equal.specs.Exchange.{Joined}
use Rattle.pattern_laws.specs.Instantiations.{Types, closed}
use Rattle.pattern_laws.specs.Equations.{Locals, scoped, Equation, Listed, listed_here, listed_later, TypedEquation}
use Rattle.reach_laws.specs.Rest.{ComesDown, down_joined, down_listed, down_lam, down_pair, PartOf, part_itself, part_body, part_left, part_right}
use Rattle.solver_laws.specs.Reduced.{Reduced}
use Rattle.celf_unify.specs.Examined.{TakenApart}

pub the_one : {x e : Equation} → Listed x (e ∷ []) → e ≡ x
the_one listed_here = refl
the_one {e = e} (listed_later l) = elim l [ ]

module _ (constants metas : Types) where
  pub reduced_one : (e : Equation) (ds : List Equation) → ComesDown constants metas ds e → ((x : Equation) → Listed x ds → PartOf constants metas e x) → Reduced constants metas (e ∷ []) ds
  reduced_one e ds h f = record {
    down = (λ x l. subst (ComesDown constants metas ds) (the_one l) h);
    met = (λ x l. (e, listed_here, f x l));
  }

  -- Nothing comes of joined sides.
  pub apart_joined : (e : Equation) → Joined e.left e.right → TakenApart constants metas e []
  apart_joined e j = record { reduced = reduced_one e [] (down_joined j) (λ x l. elim l [ ]); smaller = omega arith }

  lams_apart : (ls : Locals) (m : Mode) (b c : PlainObject) (d a : SimpleType)
      → TakenApart constants metas (record { locals = ls; left = lam m b; right = lam m c; type = arrow m d a }) (record { locals = (m, d) ∷ ls; left = b; right = c; type = a } ∷ [])
  lams_apart ls m b c d a = record {
    reduced = reduced_one (record { locals = ls; left = lam m b; right = lam m c; type = arrow m d a }) (record { locals = (m, d) ∷ ls; left = b; right = c; type = a } ∷ []) (down_lam (down_listed listed_here))
        (λ x l. subst (PartOf constants metas (record { locals = ls; left = lam m b; right = lam m c; type = arrow m d a })) (the_one l) (part_body part_itself));
    smaller = omega arith;
  }

  mode_of : {n m : Mode} {d c e f : SimpleType} → arrow n d c ≡ arrow m e f → n ≡ m
  mode_of h = cc

  -- Of two lambdas the bodies are left, under one local more.
  pub apart_lams : (e : Equation) (m k n : Mode) (b c : PlainObject) (d a : SimpleType) → TypedEquation constants metas e → e.left ≡ lam m b → e.right ≡ lam k c → e.type ≡ arrow n d a
      → (f : Equation) → f.locals ≡ (n, d) ∷ e.locals → f.left ≡ b → f.right ≡ c → f.type ≡ a → TakenApart constants metas e (f ∷ [])
  apart_lams e m k n b c d a t x y z f fl fx fy fz = subst (λ o. TakenApart constants metas o (f ∷ [])) (sym whole) (subst (λ o. TakenApart constants metas (record { locals = e.locals; left = lam m b; right = lam m c; type = arrow m d a }) (o ∷ [])) (sym part) (lams_apart e.locals m b c d a))
    where
      typed_lam : (o : PlainObject) (j : Mode) (u : PlainObject) → SimplyTyped (scoped e.locals (closed constants metas)) o e.type → o ≡ lam j u → n ≡ j
      typed_lam o j u p q = let p' = subst (λ v. SimplyTyped (scoped e.locals (closed constants metas)) v e.type) q p in mode_of (sym z ∙ p'.2)

      modes : n ≡ m
      modes = typed_lam e.left m b t.0 x

      others : n ≡ k
      others = typed_lam e.right k c t.1 y

      whole : e ≡ record { locals = e.locals; left = lam m b; right = lam m c; type = arrow m d a }
      whole = same x (y ∙ ap (λ j. lam j c) (sym others ∙ modes)) (z ∙ ap (λ j. arrow j d a) modes)
        where
          same : e.left ≡ lam m b → e.right ≡ lam m c → e.type ≡ arrow m d a → e ≡ record { locals = e.locals; left = lam m b; right = lam m c; type = arrow m d a }
          same x y z = rw (← x, ← y, ← z) refl

      part : f ≡ record { locals = (m, d) ∷ e.locals; left = b; right = c; type = a }
      part = same (fl ∙ ap (λ j. (j, d) ∷ e.locals) modes) fx fy fz
        where
          same : f.locals ≡ (m, d) ∷ e.locals → f.left ≡ b → f.right ≡ c → f.type ≡ a → f ≡ record { locals = (m, d) ∷ e.locals; left = b; right = c; type = a }
          same fl fx fy fz = rw (← fl, ← fx, ← fy, ← fz) refl

  pairs_apart : (ls : Locals) (l k r s : PlainObject) (c d : SimpleType)
      → TakenApart constants metas (record { locals = ls; left = pair l r; right = pair k s; type = simple_with c d }) (record { locals = ls; left = r; right = s; type = d } ∷ record { locals = ls; left = l; right = k; type = c } ∷ [])
  pairs_apart ls l k r s c d = record {
    reduced = reduced_one (record { locals = ls; left = pair l r; right = pair k s; type = simple_with c d }) (record { locals = ls; left = r; right = s; type = d } ∷ record { locals = ls; left = l; right = k; type = c } ∷ [])
        (down_pair (down_listed (listed_later listed_here)) (down_listed listed_here)) (λ x n. of x n);
    smaller = omega arith;
  }
    where
      of : (x : Equation) → Listed x (record { locals = ls; left = r; right = s; type = d } ∷ record { locals = ls; left = l; right = k; type = c } ∷ []) → PartOf constants metas (record { locals = ls; left = pair l r; right = pair k s; type = simple_with c d }) x
      of x listed_here = part_right l k c part_itself
      of x (listed_later n) = subst (PartOf constants metas (record { locals = ls; left = pair l r; right = pair k s; type = simple_with c d })) (the_one n) (part_left r s d part_itself)

  -- Of two pairs the seconds and the firsts are left.
  pub apart_pairs : (e : Equation) (l k r s : PlainObject) (c d : SimpleType) → e.left ≡ pair l r → e.right ≡ pair k s → e.type ≡ simple_with c d
      → TakenApart constants metas e (record { locals = e.locals; left = r; right = s; type = d } ∷ record { locals = e.locals; left = l; right = k; type = c } ∷ [])
  apart_pairs e l k r s c d x y z = subst (λ o. TakenApart constants metas o (record { locals = e.locals; left = r; right = s; type = d } ∷ record { locals = e.locals; left = l; right = k; type = c } ∷ [])) (sym whole) (pairs_apart e.locals l k r s c d)
    where
      whole : e ≡ record { locals = e.locals; left = pair l r; right = pair k s; type = simple_with c d }
      whole = rw (← x, ← y, ← z) refl
