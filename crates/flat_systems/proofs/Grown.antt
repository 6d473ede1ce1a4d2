-- What is flat over some metavariables is flat over more.
use Rattle.std.specs.Prelude.{zero, suc, List, [], ◌∷◌}
use Rattle.std.proofs.Common.{inl, inr, ⊎_elim, true}
use Rattle.clf_syntax.specs.declared.tree.Head.TheVariants.{Const, Var, Meta}
use Rattle.clf_syntax.specs.Tree.{PlainObject, lam, pair, unit, monadic, atomic, hole, PlainNeutral, head_alone, app, fst, snd}
use Rattle.clf_syntax.specs.TypeTree.{SimpleType, arrow}
use Rattle.clf_syntax.specs.Simple.{Assignment, extended}
use Rattle.hered_subst.proofs.SimpleTyping.{to_neutral, of_neutral}
use Rattle.pattern_laws.specs.Patterns.{Place, arrows, Fitting}
use Rattle.unify_laws.proofs.Preserved.{typed_more_neutral}
use Rattle.flat_laws.specs.Flat.{Flat, FlatBelow}
use Rattle.solver_laws.proofs.Grown.{More}

more_extended : (d : SimpleType) (g z : Assignment) → More g z → More (extended d g) (extended d z)
more_extended d g z f (Const c) u e = f (Const c) u e
more_extended d g z f (Var zero) u e = e
more_extended d g z f (Var (suc i)) u e = f (Var i) u e
more_extended d g z f (Meta m) u e = f (Meta m) u e

fitting_more : (g z : Assignment) → More g z → (ps : List Place) → Fitting g ps → Fitting z ps
fitting_more g z f [] p = tt
fitting_more g z f (p ∷ ps) (c, r) = (⊎_elim (λ e. inl (f (Var p.2) p.1 e)) (λ e. inr e) c, fitting_more g z f ps r)

mutual
  pub flat_more : (g z : Assignment) → More g z → (x : PlainObject) (t : SimpleType) → Flat g x t → Flat z x t
  flat_more g z f (lam m b) t (d, c, e, p) = (d, c, e, flat_more (extended d g) (extended d z) (more_extended d g z f) b c p)
  flat_more g z f (pair l r) t (c, d, e, p, q) = (c, d, e, flat_more g z f l c p, flat_more g z f r d q)
  flat_more g z f unit t p = tt
  flat_more g z f (monadic e) t p = absurd p
  flat_more g z f (atomic n) t p = ⊎_elim (λ h. inl (h.0, flat_more_below g z f n h.1))
      (λ h. inr (h.0, h.1, record { neutral = h.2.neutral; type = f (Meta h.0) (arrows h.1 t) h.2.type; fitting = fitting_more g z f h.1 h.2.fitting; distinct = h.2.distinct }, h.3))
      p
  flat_more g z f hole t p = absurd p

  pub flat_more_below : (g z : Assignment) → More g z → (n : PlainNeutral) → FlatBelow g n → FlatBelow z n
  flat_more_below g z f (head_alone h) p = tt
  flat_more_below g z f (app m r o) (p, (d, e, q, h)) = (flat_more_below g z f r p, (d, e, of_neutral (typed_more_neutral z (to_neutral true g r (arrow m d e) q) f), flat_more g z f o d h))
  flat_more_below g z f (fst r) p = flat_more_below g z f r p
  flat_more_below g z f (snd r) p = flat_more_below g z f r p
