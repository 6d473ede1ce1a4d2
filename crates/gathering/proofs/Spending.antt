-- Where the instance of an object has a type, the object uses what the instance uses.
use Rattle.std.proofs.Common.{ap, arith, inl, inr, subst, sym, ⊎_elim, ◌∙◌}
use Rattle.std.specs.List.{slice_get}
use Rattle.std.specs.Prelude.{List, Some, [], length, suc, true, zero, ℕ, ◌<◌, ◌∷◌, ◌≡◌}
use Rattle.clf_syntax.specs.Renaming.{ren_telescope, up}
use Rattle.clf_syntax.specs.Tree.{PlainExpression, PlainNeutral, PlainObject, PlainTuple, app, atomic, done, empty, entry, fst, head_alone, hole, lam, monadic, pair, snd, step, unit}
use Rattle.clf_syntax.specs.TypeTree.{PlainTelescope, PlainType, both, family, function, monad}
use Rattle.clf_syntax.specs.declared.tree.Head.{Head}
use Rattle.clf_syntax.specs.declared.tree.Head.TheVariants.{Const, Meta, Var}
use Rattle.clf_syntax.specs.declared.tree.Mode.{Mode}
use Rattle.use_contexts.specs.Context.{Context, HasVariable, modes, with_entries}
use Rattle.use_contexts.specs.Holding.{Holding, all_held}
use Rattle.clf_sig.specs.Entry.{PlainSignature}
use Rattle.hered_subst.proofs.Renamed.{under_in}
use Rattle.hered_subst.specs.Substitution.{Environment, HasValue, Image, KeepsHead, Substituted, SubstitutedExpression, SubstitutedTuple, keep, kept_app, kept_bare, kept_fst, kept_snd, put, ren_image, step_kept, step_meta, step_value, through_done, through_empty, through_entry, through_kept, through_lam, through_monadic, through_pair, through_value, under, value_app, value_bare, value_fst, value_snd}
use Rattle.subst_laws.proofs.Environs.{under_sum}
use Rattle.pattern_laws.specs.Equations.{Equation}
use Rattle.clf_rules.specs.Typing.{ExpressionHasType, HasType, HeadHasType, Synthesizes, TupleHasType}
use Rattle.gathering.proofs.Formed.{under_entries}
use Rattle.gathering.proofs.Heads.{filled, not_implicit, variable_next}
use Rattle.gathering.proofs.Judged.{entry_modes}
use Rattle.gathering.proofs.Parts.{application_gathers_parts, application_rule_parts, entry_gathers_parts, lambda_gathers_parts, lambda_rule_parts, leaf_gathers_parts, monadic_gathers_parts, pair_gathers_parts, pair_rule_parts, step_gathers_parts, step_rule_parts, to_application_spends, to_entry_spends, to_lambda_spends, to_pair_spends, to_step_spends, tuple_entry_rule_parts}
use Rattle.gathering.specs.Gather.{ExpressionGathers, Gathers, HeadGathers, NeutralGathers, TupleGathers}
use Rattle.gathering.specs.Instances.{KeepsGiven}
use Rattle.gathering.specs.Setting.{NoImplicit, Setting}
use Rattle.gathering.specs.Shape.{EntryShapes, Shape, at_both, at_function, at_monad, with_shapes}
use Rattle.gathering.specs.Spend.{ExpressionSpends, HeadSpends, NeutralSpends, Spends, TupleSpends, with_modes}

kept_head : {i : Image} {j k : Head} → i ≡ keep j → i ≡ keep k → k ≡ j
kept_head e f = cc

keep_not_put : {i : Image} {j : Head} {n : PlainObject} → i ≡ keep j → i ≡ put n → ⊥
keep_not_put e f = cc

constant_under : (n : ℕ) (s : Environment) (c : ℕ) → s (Const c) ≡ keep (Const c) → under n s (Const c) ≡ keep (Const c)
constant_under n s c e = ap (ren_image (up n)) e

-- The environment keeps the local variables, and its metavariables are no heads here.
module _ (sig : PlainSignature) (z : Setting) (none : NoImplicit z) where
  abbrev pub KeepsHeads : Context → Environment → Type 0
  KeepsHeads g v = (w : List Shape) (x : Head) (a : PlainType) (o : Shape) → HeadGathers z g w x a o → v x ≡ keep x

  module _ (s : Environment) (front : Context) (within : (g : Context) → KeepsHeads g (under (length g) s)) where
    head_spends : (g h : Context) (w : List Shape) (k : Holding) (x : Head) (a b : PlainType) (o : Shape) → HeadGathers z g w x a o → HeadHasType sig h k x b → HeadSpends z w (modes h) k x o
    head_spends g h w k (Const c) a b o p t = (t.1, a, p.0, p.1)
    head_spends g h w k (Var i) a b o p t = (t.0, p.1)
    head_spends g h w k (Meta m) a b o p t = absurd (not_implicit z none m a p.0)

    pub no_value : (n : PlainNeutral) (g : Context) (w : List Shape) (a : PlainType) (o : Shape) (q : List Equation) {v : Environment} {x : PlainObject} → v ≡ under (length g) s → NeutralGathers z g w n a o q → HasValue v n x → ⊥
    no_value (head_alone y) g w a o q e p (value_bare f) = keep_not_put (ap (λ (v : Environment). v y) e ∙ within g w y a o p.0) f
    no_value (app m r n) g w a o q e p (value_app v u t) = let (b, c, d, x, p1, p2, y, l, i, j) = application_gathers_parts p in no_value r g w (function m b c) (at_function d x o) p1 e y v
    no_value (fst r) g w a o q e p (value_fst v) = no_value r g w (both a p.0) (at_both o p.1) q e p.2 v
    no_value (snd r) g w a o q e p (value_snd v) = no_value r g w (both p.0 a) (at_both p.1 o) q e p.2 v

    mutual
      pub spends_object : (n : PlainObject) (g h : Context) (w : List Shape) (k : Holding) (t u : PlainType) (o : Shape) (q : List Equation) {v : Environment} {x : PlainObject} → v ≡ under (length g) s → Gathers z g w n t o q → Substituted v n x → HasType sig h k x u → Spends z w (modes h) k n o
      spends_object (lam m b) g h w k t u o q e p (through_lam r) y = let (a, c, d, i, j, l, f, p') = lambda_gathers_parts p in let (b1, b2, j', y') = lambda_rule_parts y in
          to_lambda_spends (d, i, j, f, spends_object b ((m, a) ∷ g) ((m, b1) ∷ h) (i ∷ w) (true ∷ k) c b2 j q (ap (under 1) e ∙ under_sum (length g) s) p' r y')
      spends_object (pair l r) g h w k t u o q e p (through_pair r1 r2) y = let (a, c, i, j, q1, q2, e1, e2, p1, p2, e3) = pair_gathers_parts p in let (b1, b2, y0, y1, y2) = pair_rule_parts y in
          to_pair_spends (i, j, e2, spends_object l g h w k a b1 i q1 e p1 r1 y1, spends_object r g h w k c b2 j q2 e p2 r2 y2)
      spends_object unit g h w k t u o q e p r y = tt
      spends_object (monadic x) g h w k t u o q e p (through_monadic r) y = let (a, i, e1, e2, p') = monadic_gathers_parts p in (i, e2, spends_result x g h w k a y.0 i q e p' r y.2)
      spends_object (atomic n) g h w k t u o q e p (through_kept r) y = ⊎_elim
          (λ p. let (a, ns, os, ts, i, q1, q2, j, p1, l, p2, f) = leaf_gathers_parts p in inl (i, spends_neutral n g h w k (family a os) (family y.number y.found) i q1 e p1 r y.neutral))
          (λ p. let p = filled z none p in inr (p.number, p.fills, p.head)) p
      spends_object (atomic n) g h w k t u o q e p (through_value r) y = ⊎_elim
          (λ p. let (a, ns, os, ts, i, q1, q2, j, p1, l, p2, f) = leaf_gathers_parts p in absurd (no_value n g w (family a os) i q1 e p1 r))
          (λ p. let p = filled z none p in inr (p.number, p.fills, p.head)) p
      spends_object hole g h w k t u o q e p r y = tt

      pub spends_neutral : (n : PlainNeutral) (g h : Context) (w : List Shape) (k : Holding) (a b : PlainType) (o : Shape) (q : List Equation) {v : Environment} {x : PlainNeutral} → v ≡ under (length g) s → NeutralGathers z g w n a o q → KeepsHead v n x → Synthesizes sig h k x b → NeutralSpends z w (modes h) k n o
      spends_neutral (head_alone x) g h w k a b o q e p (kept_bare {j = j} f) y = head_spends g h w k x a b o p.0 (subst (λ (l : Head). HeadHasType sig h k l b) (kept_head (ap (λ (v : Environment). v x) e ∙ within g w x a o p.0) f) y)
      spends_neutral (app m r n) g h w k a b o q e p (kept_app r1 r2) y = let (c, d, l, i, q1, q2, p1, p2, p3, p4) = application_gathers_parts p in let (c', d', h1, h2, y0, y1, y2, y3, y4) = application_rule_parts y in
          to_application_spends (
            l,
            i,
            h1,
            h2,
            y0,
            spends_neutral r g h w h1 (function m c d) (function m c' d') (at_function l i o) q1 e p1 r1 y1,
            y2,
            ⊎_elim (λ x. inl x.0) (λ x. inr (x.0, spends_object n g h w h2 c c' i q2 e x.1 r2 y3)) p2,
          )
      spends_neutral (fst r) g h w k a b o q e p (kept_fst r1) y = (p.1, spends_neutral r g h w k (both a p.0) (both b y.0) (at_both o p.1) q e p.2 r1 y.1)
      spends_neutral (snd r) g h w k a b o q e p (kept_snd r1) y = (p.1, spends_neutral r g h w k (both p.0 a) (both y.0 b) (at_both p.1 o) q e p.2 r1 y.1)

      pub spends_result : (n : PlainExpression) (g h : Context) (w : List Shape) (k : Holding) (t u : PlainTelescope) (o : EntryShapes) (q : List Equation) {v : Environment} {x : PlainExpression} → v ≡ under (length g) s → ExpressionGathers z g w n t o q → SubstitutedExpression v n x → ExpressionHasType sig h k x u → ExpressionSpends z w (modes h) k n o
      spends_result (step ms r x) g h w k t u o q {v = v} e p (step_kept r1 r2) y = let (a, i, q1, q2, p1, m, p2, j) = step_gathers_parts p in let (b, h1, h2, y0, y1, y2, y3) = step_rule_parts y in
          to_step_spends (
            i,
            h1,
            h2,
            y0,
            spends_neutral r g h w h1 (monad a) (monad b) (at_monad i) q1 e p1 r1 y1,
            subst (λ l. ExpressionSpends z (with_shapes i w) l (all_held ms h2) x o) (entry_modes b h ∙ ap (λ l. with_modes l (modes h)) y2)
                (spends_result x (with_entries a g) (with_entries b h) (with_shapes i w) (all_held ms h2) (ren_telescope (up (length ms)) t) (ren_telescope (up (length ms)) u) o q2
                (ap (under (length ms)) e ∙ ap (λ (l : List Mode). under (length l) (under (length g) s)) (sym m) ∙ under_entries a g s) p2 r2 y3),
          )
      spends_result (step ms r x) g h w k t u o q e p (step_value r1 r2 r3) y = let (a, i, q1, q2, p1, m, p2, j) = step_gathers_parts p in absurd (no_value r g w (monad a) (at_monad i) q1 e p1 r1)
      spends_result (step ms r x) g h w k t u o q e p (step_meta r1 r2 r3) y = let (a, i, q1, q2, p1, m, p2, j) = step_gathers_parts p in absurd (no_value r g w (monad a) (at_monad i) q1 e p1 r1)
      spends_result (done x) g h w k t u o q e p (through_done r) y = spends_tuple x g h w k t u o q e p r y

      pub spends_tuple : (n : PlainTuple) (g h : Context) (w : List Shape) (k : Holding) (t u : PlainTelescope) (o : EntryShapes) (q : List Equation) {v : Environment} {x : PlainTuple} → v ≡ under (length g) s → TupleGathers z g w n t o q → SubstitutedTuple v n x → TupleHasType sig h k x u → TupleSpends z w (modes h) k n o
      spends_tuple empty g h w k t u o q e p through_empty y = y.1
      spends_tuple (entry m n x) g h w k t u o q e p (through_entry r1 r2) y = let (a, b, c, l, i, j, q1, q2, e1, e2, p1, p2, p3, p4) = entry_gathers_parts p in let (a', c', d', h1, h2, y0, y1, y2, y3, y4, y5) = tuple_entry_rule_parts y in
          to_entry_spends (l, i, j, h1, h2, e2, y1, y2, ⊎_elim (λ x. inl x.0) (λ x. inr (x.0, spends_object n g h w h1 a a' i q1 e x.1 r1 y3)) p1, spends_tuple x g h w h2 c d' j q2 e p3 r2 y5)

-- the heads of gathering are kept where the constants are
pub below : (g : Context) (i : ℕ) (a : PlainType) → HasVariable g i a → i < length g
below [] i a e = absurd (nowhere e.2)
  where
    nowhere : {x : Mode × PlainType} → slice_get [] i ≡ Some x → ⊥
    nowhere k = cc
below (e ∷ g) zero a q = omega arith
below (e ∷ g) (suc i) a q = let (b, k, l) = variable_next e g i a q in let f = below g i b k in omega (arith, f)

pub keeps_heads : (sig : PlainSignature) (z : Setting) (s : Environment) → (none : NoImplicit z) → KeepsGiven z s → (g : Context) → KeepsHeads sig z none g (under (length g) s)
keeps_heads sig z s none f g w (Const c) a o p = constant_under (length g) s c (f c a p.0)
keeps_heads sig z s none f g w (Var i) a o p = under_in (length g) s i (below g i a p.0)
keeps_heads sig z s none f g w (Meta m) a o p = absurd (not_implicit z none m a p.0)
