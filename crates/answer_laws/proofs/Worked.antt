-- The worked equations.
use Rattle.std.specs.Prelude.{ℕ, suc, ◌+◌, ◌≡◌, List, [], ◌∷◌, length, Some, None, refl}
use Rattle.std.proofs.Common.{ap, sym, subst, ◌∙◌, arith}
use Rattle.clf_syntax.specs.declared.tree.Mode.{Mode}
use Rattle.clf_syntax.specs.declared.tree.Head.{Head}
use Rattle.clf_syntax.specs.declared.tree.Head.TheVariants.{Const, Var, Meta}
use Rattle.clf_syntax.specs.Tree.{PlainObject, lam, monadic, atomic, PlainNeutral, PlainExpression, head_alone, app}
use Rattle.clf_syntax.specs.TypeTree.{SimpleType, base, arrow, lax, SimpleTelescope}
use Rattle.clf_syntax.specs.Simple.{Assignment, simple_modes, EtaLong}
use Rattle.hered_subst.specs.Substitution.{Image, keep, put, under, single, Substituted, through_monadic, through_kept, through_value, kept_bare, kept_app, value_bare, value_app, through_done, step_meta}
use Rattle.hered_subst.proofs.Renamed.{under_in}
use Rattle.trace_equal.specs.Exchange.{Joined, stop}
use Rattle.trace_equal.specs.Matching.{Matches, MatchesNeutral, match_atomic, match_app}
use Rattle.trace_equal.proofs.Closed.{like_to, alike}
use Rattle.subst_laws.specs.Environments.{Instantiation, instant, image_or}
use Rattle.eta_laws.specs.Eta.{eta, variables}
use Rattle.eta_laws.proofs.EtaLaws.{variables_kept}
use Rattle.eta_laws.proofs.Expanding.{eta_expands}
use Rattle.store_laws.specs.PutIn.{PutIn}
use Rattle.store_laws.specs.Additions.{set}
use Rattle.pattern_laws.specs.Instantiations.{Instantiated}
use Rattle.pattern_laws.specs.Equations.{Equation, Solves, Listed}
use Rattle.pattern_laws.proofs.Spines.{keeps_variables, kept_place}
use Rattle.unify_laws.specs.Parts.{shape_head, shape_app}
use Rattle.unify_laws.specs.Rigid.{size}
use Rattle.reach_laws.specs.Unified.{Unified, Clashed}
use Rattle.answer_laws.specs.Worked.{circular, CircleIsNoAnswer, ClashIsAtPart, NothingForeignIsLeft, cornered, corner, CornerAtMonad}

of_meta : (s : Instantiation) (x y : PlainObject) → s 0 ≡ Some x → Substituted (instant s) (atomic (head_alone (Meta 0))) y → y ≡ x
of_meta s x y e (through_kept (kept_bare k)) = absurd (no_keep (ap (image_or (Meta 0)) e) k)
  where
    no_keep : {i : Image} {n : PlainObject} {j : Head} → i ≡ put n → i ≡ keep j → ⊥
    no_keep f g = absurd (cc)
of_meta s x y e (through_value (value_bare k)) = same (ap (image_or (Meta 0)) e) k
  where
    same : {i : Image} {n o : PlainObject} → i ≡ put n → i ≡ put o → o ≡ n
    same f g = cc

larger : (m : Mode) (j : Head) (x y : PlainObject) → y ≡ x → x ≡ atomic (app m (head_alone j) y) → ⊥
larger m j x y e f = not_larger (size y) (size x) (ap size e) (ap size f)
  where
    not_larger : (n k : ℕ) → n ≡ k → k ≡ suc (suc (1 + n)) → ⊥
    not_larger n k e f = omega arith

no_closing : (m : Mode) (s : Instantiation) (x : PlainObject) → s 0 ≡ Some x → Substituted (instant s) (atomic (app m (head_alone (Const 0)) (atomic (head_alone (Meta 0))))) x → ⊥
no_closing m s x e (through_kept (kept_app {y = y} (kept_bare {j = j} k) t)) = larger m j x y (of_meta s x y e t) refl
no_closing m s x e (through_value (value_app (value_bare k) t u)) = absurd (cc)

none_put_in : (m : Mode) (s : Instantiation) → PutIn (circular m).given s → ⊥
none_put_in m s p = let (x, e, i) = p.solved 0 (atomic (app m (head_alone (Const 0)) (atomic (head_alone (Meta 0))))) refl in no_closing m s x e i

pub circle_is_no_answer : CircleIsNoAnswer
circle_is_no_answer m left u = none_put_in m u.ends.0 u.ends.2.put_in.put_in

pub clash_is_at_part : ClashIsAtPart
clash_is_at_part constants start now under m x y c = c.at.no_further.no_neutrals (app m (head_alone (Const 0)) x) (app m (head_alone (Const 0)) y) c.at.is_left c.at.is_right (shape_app (shape_head refl))

pub nothing_foreign_is_left : NothingForeignIsLeft
nothing_foreign_is_left constants metas e left r l = none (r.met e l).1
  where
    none : {d : Equation} → Listed d [] → ⊥
    none k = elim k [ ]

-- the eta-long form of the newest variable, with ?1 put for it
expanded : (ts : SimpleTelescope) → Substituted (single (atomic (head_alone (Meta 1))) 0) (eta (lax ts) (head_alone (Var 0))) (eta (lax ts) (head_alone (Meta 1)))
expanded ts = through_monadic (step_meta (value_bare refl) refl (through_done (variables_kept ts (under (length (simple_modes ts)) (single (atomic (head_alone (Meta 1))) 0)) (λ i h. under_in (length (simple_modes ts)) (single (atomic (head_alone (Meta 1))) 0) i h))))

becomes_corner : (m : Mode) (ts : SimpleTelescope) → Instantiated 1 (cornered m) (atomic (app m (head_alone (Meta 0)) (eta (arrow m (lax ts) (base 0)) (head_alone (Var 0))))) (corner m (eta (lax ts) (head_alone (Meta 1))))
becomes_corner m ts = through_value (value_app (value_bare refl) (kept_place (under 1 (instant (cornered m))) (keeps_variables 1 (cornered m)) (arrow m (lax ts) (base 0)) 0)
    (through_value (value_app (value_bare refl) (through_kept (kept_bare refl)) (through_kept (kept_app (kept_bare refl) (expanded ts))))))

argument_match : {m k : Mode} {r s : PlainNeutral} {o u : PlainObject} → Matches (atomic (app m r o)) (atomic (app k s u)) → Matches o u
argument_match (match_atomic (match_app a b)) = b

apart : {e : PlainExpression} {n : PlainNeutral} → Matches (monadic e) (atomic n) → ⊥
apart x = elim x [ ]

pub corner_at_monad : CornerAtMonad
corner_at_monad = record {
  becomes = becomes_corner;
  unjoined = (λ m ts j. apart (argument_match (like_to (alike (corner m (eta (lax ts) (head_alone (Meta 1))))) j)));
  solved = (λ m ts g t o p i. (corner m o, corner m o, both m t (eta (lax ts) (head_alone (Meta 1))) o (eta_expands g (under 1 (instant t)) (head_alone (Meta 1)) o (lax ts) p i), both m t (atomic (head_alone (Meta 1))) o i, stop));
}
  where
    both : (m : Mode) (t : Instantiation) (n o : PlainObject) → Instantiated 1 t n o → Instantiated 1 t (corner m n) (corner m o)
    both m t n o i = through_kept (kept_app (kept_bare (keeps_variables 1 t 0)) i)
