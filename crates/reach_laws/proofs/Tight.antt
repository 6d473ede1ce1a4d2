-- What the solutions give the metavariables of the start, with all solutions put in, is tight for these.
use Rattle.store_laws.proofs.Mentioned.{mentioned}
use Rattle.std.specs.Prelude.{ℕ, true, ◌≡◌, ◌<◌, ◌⊎◌, nat_eq, List, [], ◌∷◌, ◌++◌, Option, Some, None, refl}
use Rattle.std.proofs.Common.{ap, sym, subst, ◌∙◌, arith, inl, inr, ⊎_elim, append_assoc}
use Rattle.clf_syntax.specs.declared.tree.Head.TheVariants.{Var, Meta}
use Rattle.clf_syntax.specs.Tree.{PlainObject, lam, atomic, PlainNeutral, head_alone}
use Rattle.clf_syntax.specs.TypeTree.{SimpleType, arrow}
use Rattle.clf_syntax.specs.Simple.{Assignment, extended, SimplyTyped}
use Rattle.clf_syntax.proofs.OccursLaws.{not_both, not_true, or_first}
use Rattle.hered_subst.proofs.SimpleTyping.{to_typed}
use Rattle.eta_laws.specs.Eta.{eta}
use Rattle.pattern_laws.specs.Patterns.{Place, on, lams, arrows, Fitting, Distinct, beneath, masked, Ordered}
use Rattle.pattern_laws.specs.Instantiations.{closed}
use Rattle.pattern_laws.specs.Equations.{scoped, Locals}
use Rattle.store_laws.specs.Mentions.{mentions, mentions_neutral}
use Rattle.unify_laws.specs.Progress.{CameFrom}
use Rattle.unify_laws.proofs.Preserved.{Fits}
use Rattle.reach_laws.specs.Reach.{Standing, standing_here, standing_body}
use Rattle.reach_laws.specs.Rest.{Tight, StandsIn}
use Rattle.reach_laws.specs.Laws.{IsTight}
use Rattle.reach_laws.proofs.Tightness.{new_one_stands}

-- the places as locals
abbrev types_of : List Place → Locals
types_of [] = []
types_of (p ∷ ps) = (p.0, p.1) ∷ types_of ps

scoped_beneath : (ps : List Place) (g : Assignment) → scoped (types_of ps) g ≡ beneath ps g
scoped_beneath [] g = refl
scoped_beneath (p ∷ ps) g = ap (extended p.1) (scoped_beneath ps g)

-- What stands below lambdas stands in the whole.
standing_lams : (g : Assignment) (ps : List Place) (es : Locals) (q : PlainNeutral) (c t : SimpleType) (b : PlainObject) → Standing (beneath ps g) es q c b t → Standing g (es ++ types_of ps) q c (lams ps b) (arrows ps t)
standing_lams g [] es q c t b s = subst (λ l. Standing g l q c b t) (none es) s
  where
    none : (l : Locals) → l ≡ l ++ []
    none [] = refl
    none (x ∷ l) = ap (λ k. x ∷ k) (none l)
standing_lams g (p ∷ ps) es q c t b s = subst (λ l. Standing g l q c (lams (p ∷ ps) b) (arrows (p ∷ ps) t)) (append_assoc es ((p.0, p.1) ∷ []) (types_of ps)) (standing_lams g ps (es ++ (p.0, p.1) ∷ []) q c (arrow p.0 p.1 t) (lam p.0 b) (standing_body s))

fitting_of : (z : Assignment) (ps : List Place) → Fits z ps → Fitting z ps
fitting_of z [] f = tt
fitting_of z (p ∷ ps) f = (inl f.0, fitting_of z ps f.1)

pub distinct_of : (ps : List Place) → Ordered ps → Distinct ps
distinct_of ps o i j v e f = ⊎_elim (λ h. absurd (never (o i j v v h e f))) (λ c. ⊎_elim (λ h. h) (λ h. absurd (never (o j i v v h f e))) c) (three i j)
  where
    never : v < v → ⊥
    never h = omega arith

    three : (i j : ℕ) → (i < j) ⊎ ((i ≡ j) ⊎ (j < i))
    three i j = grind arith

some_none : {X : Type 0} {b : X} {o : Option X} → o ≡ None → o ≡ Some b → ⊥
some_none e f = cc

cases_of : {X : Type 0} (o : Option X) → (o ≡ None) ⊎ ((b : X) × (o ≡ Some b))
cases_of None = inl refl
cases_of (Some b) = inr (b, refl)

one_object : {a b : PlainObject} → Some a ≡ Some b → a ≡ b
one_object e = cc

own : (i : ℕ) → nat_eq i i ≡ true
own i = grind arith

mentions_on : (k : ℕ) (ps : List Place) → mentions_neutral k (on ps (head_alone (Meta k))) ≡ true
mentions_on k [] = own k
mentions_on k (p ∷ ps) = or_first (mentions_neutral k (on ps (head_alone (Meta k)))) (mentions k (eta p.1 (head_alone (Var p.2)))) (mentions_on k ps)

mentions_lams : (k : ℕ) (ps : List Place) (b : PlainObject) → mentions k b ≡ true → mentions k (lams ps b) ≡ true
mentions_lams k [] b e = e
mentions_lams k (p ∷ ps) b e = mentions_lams k ps (lam p.0 b) e

-- Tight, from where the metavariables came: solutions are only added.
pub tight : IsTight
tight constants start now w stays traced s all typed typed_now list holds m x k lm e h = ⊎_elim
    (λ g. ⊎_elim (λ n. inr (not_true (list k) (λ l. some_none n (holds.there k l).1), new g n)) (λ n. inl (old g n.0 n.1, all.unsolved k g)) (cases_of (start.metas k)))
    (λ g. absurd (not_both h (all.finished m x e k g.0 g.1)))
    (cases_of (now.given k))
  where
    old : now.given k ≡ None → (b : SimpleType) → start.metas k ≡ Some b → list k ≡ true
    old g b n = ⊎_elim (λ u. holds.all k b n u) (λ u. absurd (some_none g (stays k u.0 u.1))) (cases_of (start.given k))

    typed_x : (a : SimpleType) × SimplyTyped (closed constants now.metas) x a
    typed_x = ⊎_elim (λ g. absurd (some_none (all.unsolved m g) e)) (λ g. let (a, t, _) = typed_now.1 m g.0 g.1 in ⊎_elim (λ u. absurd (some_none u.0 e)) (λ u. (a, subst (λ y. SimplyTyped (closed constants now.metas) y a) (one_object (sym u.1 ∙ e)) u.2)) (typed.2 m a t)) (cases_of (now.given m))

    typed_k : (u : SimpleType) × (now.metas k ≡ Some u)
    typed_k = mentioned (to_typed true (closed constants now.metas) x typed_x.0 typed_x.1) k h

    new : now.given k ≡ None → start.metas k ≡ None → StandsIn constants now.metas list s k
    new g n = let (u, tu) = typed_k in let (i, b, sb, d, (j, nj, cf)) = new_one_stands start now traced s all k u tu n (all.unsolved k g) in record {
      meta = i;
      type = arrows d.places d.result;
      tree = lams d.places (atomic (on d.kept (head_alone (Meta k))));
      listed = unsolved i b sb j nj cf;
      typed = d.own;
      given = d.value;
      binders = types_of d.places;
      neutral = on d.kept (head_alone (Meta k));
      places = d.kept;
      result = d.result;
      standing = standing_lams (closed constants now.metas) d.places [] (on d.kept (head_alone (Meta k))) d.result d.result (atomic (on d.kept (head_alone (Meta k)))) standing_here;
      on_distinct = record {
        neutral = refl;
        type = scoped_there d.places ∙ d.there;
        fitting = subst (λ z. Fitting z d.kept) (sym (scoped_beneath d.places (closed constants now.metas))) (fitting_of (beneath d.places (closed constants now.metas)) d.kept (d.fits (closed constants now.metas)));
        distinct = distinct_of d.kept d.ordered;
      };
    }
      where
        scoped_there : (ps : List Place) → scoped (types_of ps) (closed constants now.metas) (Meta k) ≡ now.metas k
        scoped_there [] = refl
        scoped_there (q ∷ ps) = scoped_there ps

        unsolved : (i : ℕ) (b : SimpleType) → start.metas i ≡ Some b → (j : ℕ) → start.metas j ≡ None → CameFrom now.metas now.given j i → list i ≡ true
        unsolved i b sb j nj cf = ⊎_elim (λ u. holds.all i b sb u) (λ u. absurd (clash u.0 u.1)) (cases_of (start.given i))
          where
            clash : (o : PlainObject) → start.given i ≡ Some o → ⊥
            clash o e = let (a, ea, ta) = w.1 i o e in some_none nj
                (mentioned (to_typed true (closed constants start.metas) o a ta) j (subst (λ v. mentions j v ≡ true) (one_object (sym cf.solution ∙ stays i o e)) (mentions_lams j cf.places (atomic (on (masked 0 cf.mask cf.places) (head_alone (Meta j)))) (mentions_on j (masked 0 cf.mask cf.places))))).1
