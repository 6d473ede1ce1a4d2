-- Where the instance of an object has a type, the equations that are gathered of it are solved.
use Rattle.std.proofs.Common.{ap, inl, subst, sym, ⊎_elim, ◌∙◌}
use Rattle.std.specs.Prelude.{Bool, List, [], false, length, refl, true, ℕ, ◌∷◌, ◌≡◌, ◌⊎◌}
use Rattle.clf_syntax.specs.Renaming.{ren_telescope, up}
use Rattle.clf_syntax.specs.Simple.{Assignment, SimplyFormed, SimplyFormedContext, SimplyFormedTelescope, SimplyTyped, SimplyTypedExpression, SimplyTypedNeutral, SimplyTypedTuple, erase, erase_telescope, extended_by, extended_over}
use Rattle.clf_syntax.specs.Tree.{PlainExpression, PlainNeutral, PlainObject, PlainTuple, app, atomic, done, empty, entry, fst, head_alone, hole, lam, monadic, pair, snd, step, unit}
use Rattle.clf_syntax.specs.TypeTree.{PlainTelescope, PlainType, SimpleTelescope, SimpleType, arrow, both, family, function, monad}
use Rattle.clf_syntax.specs.declared.tree.Head.{Head}
use Rattle.clf_syntax.specs.declared.tree.Head.TheVariants.{Const, Meta, Var}
use Rattle.clf_syntax.specs.declared.tree.Mode.{Mode}
use Rattle.use_contexts.specs.Context.{Context, with_entries}
use Rattle.use_contexts.specs.Holding.{Holding, all_held}
use Rattle.clf_sig.specs.Entry.{PlainSignature}
use Rattle.hered_subst.specs.Substitution.{Environment, HasValue, Image, KeepsHead, Substituted, SubstitutedEach, SubstitutedExpression, SubstitutedTelescope, SubstitutedTuple, SubstitutedType, keep, kept_app, kept_bare, kept_fst, kept_snd, put, step_kept, step_meta, step_value, through_done, through_empty, through_entry, through_hole, through_kept, through_lam, through_monadic, through_pair, through_unit, through_value, under, value_app, value_bare, value_fst, value_snd}
use Rattle.hered_subst.specs.TypedEnvironments.{TypedEnvironment}
use Rattle.subst_laws.proofs.Environs.{under_sum}
use Rattle.subst_laws.proofs.Renamed.{erase_renamed_telescope}
use Rattle.pattern_laws.specs.Equations.{Equation, SolvesEach}
use Rattle.clf_rules.specs.Typing.{ExpressionHasType, HasType, HeadHasType, Synthesizes, TupleHasType}
use Rattle.typing_laws.proofs.Erased.{entered, erased_modes}
use Rattle.gathering.proofs.Formed.{formed_entries, formed_past, head_formed, instance_entries, under_entries}
use Rattle.gathering.proofs.Heads.{carries, filled}
use Rattle.gathering.proofs.Inverted.{bindings_between, boths_between, families_between, functions_between, monads_between, pairs_solved, same_length, solves_both}
use Rattle.gathering.proofs.Parts.{application_gathers_parts, application_rule_parts, atomic_rule_parts, entry_gathers_parts, lambda_gathers_parts, lambda_rule_parts, leaf_gathers_parts, monadic_gathers_parts, pair_gathers_parts, pair_rule_parts, step_gathers_parts, step_rule_parts, tuple_entry_rule_parts}
use Rattle.gathering.proofs.Puts.{formed_put, formed_put_telescope, put_after, put_after_telescope}
use Rattle.gathering.proofs.Unders.{past_telescope}
use Rattle.gathering.specs.Gather.{ExpressionGathers, Gathers, HeadGathers, NeutralGathers, TupleGathers}
use Rattle.gathering.specs.Instances.{ConstantsAreClosed, FixedHeads, FormedSetting, HeadType, InstanceContext}
use Rattle.gathering.specs.Setting.{NoImplicit, Setting, SettingType, simple_locals}
use Rattle.gathering.specs.Shape.{EntryShapes, Shape, at_both, at_function, at_monad, with_shapes}

keep_not_put : {i : Image} {j : Head} {n : PlainObject} → i ≡ keep j → i ≡ put n → ⊥
keep_not_put e f = cc

kept_head : {i : Image} {j k : Head} → i ≡ keep j → i ≡ keep k → k ≡ j
kept_head e f = cc

pub head_type : (z : Setting) (g : Context) (w : List Shape) (x : Head) (a : PlainType) (o : Shape) → HeadGathers z g w x a o → SettingType z g x a
head_type z g w (Const c) a o p = p.0
head_type z g w (Var i) a o p = p.0
head_type z g w (Meta k) a o p = p.0

typed_head : (sig : PlainSignature) (g : Context) (h : Holding) (x : Head) (a : PlainType) → HeadHasType sig g h x a → HeadType sig g x a
typed_head sig g h (Const c) a p = p.0
typed_head sig g h (Var i) a p = p.1
typed_head sig g h (Meta k) a p = p

module _ (sig : PlainSignature) (z : Setting) (front : Context) (zf : Assignment) (s : Environment)
    (closed : ConstantsAreClosed sig) (fixed : FixedHeads sig z front s) (formed : FormedSetting z) (none : NoImplicit z) (keeps : TypedEnvironment true z.simple zf s) where
  abbrev Z : Context → Assignment
  Z g = extended_over g z.simple

  abbrev S : Context → Environment
  S g = under (length g) s

  no_value : (n : PlainNeutral) (g h : Context) (w : List Shape) (a : PlainType) (o : Shape) (q : List Equation) {x : PlainObject} → InstanceContext s front g h → NeutralGathers z g w n a o q → HasValue (S g) n x → ⊥
  no_value (head_alone y) g h w a o q i p (value_bare e) = let (j, k, f) = carries sig z front s closed none fixed g h i y a (head_type z g w y a o p.0) in keep_not_put k e
  no_value (app m r n) g h w a o q i p (value_app v u t) = let (b, c, d, x, p1, p2, y, l, e, f) = application_gathers_parts p in no_value r g h w (function m b c) (at_function d x o) p1 i y v
  no_value (fst r) g h w a o q i p (value_fst v) = no_value r g h w (both a p.0) (at_both o p.1) q i p.2 v
  no_value (snd r) g h w a o q i p (value_snd v) = no_value r g h w (both p.0 a) (at_both p.1 o) q i p.2 v

  abbrev Argument : Context → List Shape → Bool → PlainObject → PlainType → Shape → List Equation → Type 0
  Argument g w d n a u y = ((d ≡ true) × SimplyTyped (Z g) n (erase a) × (y ≡ [])) ⊎ ((d ≡ false) × Gathers z g w n a u y)

  argument : (n : PlainObject) (g : Context) (w : List Shape) (a : PlainType) (d : Bool) (u : Shape) (y : List Equation) → (Gathers z g w n a u y → SolvesEach s y × SimplyTyped (Z g) n (erase a))
      → Argument g w d n a u y → SolvesEach s y × SimplyTyped (Z g) n (erase a)
  argument n g w a d u y f p = ⊎_elim (λ p. (subst (SolvesEach s) (sym p.2) tt, p.1)) (λ p. f p.1) p

  mutual
    pub solves_object : (o : PlainObject) (g h : Context) (w : List Shape) (t u : PlainType) (v : Shape) (q : List Equation) (k : Holding) {x : PlainObject}
        → InstanceContext s front g h → SimplyFormedContext z.arguments z.simple g → Gathers z g w o t v q → Substituted (S g) o x → HasType sig h k x u → SubstitutedType (S g) t u → SimplyFormed z.arguments (Z g) t
        → SolvesEach s q × SimplyTyped (Z g) o (erase t)
    solves_object (lam m b) g h w t u v q k i f p (through_lam {x = x} r) y c d =
        let (a, e, n, a', e', j, l, p') = lambda_gathers_parts p in let (b1, b2, j', y') = lambda_rule_parts y in let (c1, c2) = functions_between c j j' in let d' = subst (λ (y : PlainType). SimplyFormed z.arguments (Z g) y) j d in
        let (r1, r2) = solves_object b ((m, a) ∷ g) ((m, b1) ∷ h) (a' ∷ w) e b2 e' q (true ∷ k) (refl, c1, i) (d'.0, f) p' (subst (λ (u : Environment). Substituted u b x) (under_sum (length g) s) r) y'
        (subst (λ (u : Environment). SubstitutedType u e b2) (under_sum (length g) s) c2) d'.1 in
        (r1, (erase a, erase e, ap erase j, r2))
    solves_object (pair l r) g h w t u v q k i f p (through_pair {x = x} {y = x'} a b) y c d =
        let (e, e', n, n', q1, q2, j, j', p1, p2, m) = pair_gathers_parts p in let (b1, b2, y0, y1, y2) = pair_rule_parts y in let (c1, c2) = boths_between c j y0 in let d' = subst (λ (y : PlainType). SimplyFormed z.arguments (Z g) y) j d in
        let (r1, r2) = solves_object l g h w e b1 n q1 k i f p1 a y1 c1 d'.0 in let (r3, r4) = solves_object r g h w e' b2 n' q2 k i f p2 b y2 c2 d'.1 in
        (subst (SolvesEach s) (sym m) (solves_both s q1 q2 r1 r3), (erase e, erase e', ap erase j, r2, r4))
    solves_object unit g h w t u v q k i f p through_unit y c d = (subst (SolvesEach s) (sym p.1) tt, ap erase p.0)
    solves_object (monadic e) g h w t u v q k i f p (through_monadic r) y c d =
        let (a, n, j, j', p') = monadic_gathers_parts p in let (b, j1, y') = y in let d' = subst (λ (y : PlainType). SimplyFormed z.arguments (Z g) y) j d in
        let (r1, r2) = solves_result e g h w a b n q k i f p' r y' (monads_between c j j1) d' in (r1, (erase_telescope a, ap erase j, r2))
    solves_object (atomic n) g h w t u v q k i f p (through_kept {x = x} r) y c d = ⊎_elim
        (λ p. let (a, ns, os, ts, o, q1, q2, j, p1, e, p2, m) = leaf_gathers_parts p in let (a', ns', os', j', y1, y2) = atomic_rule_parts y in
        let (r1, r2, r3, r4) = solves_neutral n g h w (family a os) o q1 k (family a' os') i f p1 r y1 in
        let (x1, x2) = families_between r1 refl refl in let (x3, x4) = families_between c j j' in (
          subst (SolvesEach s) (sym m) (solves_both s q1 q2 r2 (pairs_solved s (simple_locals g) ts os ns os' ns' q2 p2
              (subst (λ (l : ℕ). SubstitutedEach (under l s) os os') (sym (same_length g)) x1) (subst (λ (l : ℕ). SubstitutedEach (under l s) ns ns') (sym (same_length g)) x3) y2)),
          subst (λ (b : SimpleType). SimplyTyped (Z g) (atomic n) b) (sym (ap erase j)) (inl (a, refl), r3),
        ))
        (λ p. let p = filled z none p in (subst (SolvesEach s) (sym p.equations) tt, p.typed)) p
    solves_object (atomic n) g h w t u v q k i f p (through_value r) y c d = ⊎_elim
        (λ p. let (a, ns, os, ts, o, q1, q2, j, p1, e, p2, m) = leaf_gathers_parts p in absurd (no_value n g h w (family a os) o q1 i p1 r))
        (λ p. let p = filled z none p in (subst (SolvesEach s) (sym p.equations) tt, p.typed)) p
    solves_object hole g h w t u v q k i f p through_hole y c d = absurd y

    pub solves_neutral : (n : PlainNeutral) (g h : Context) (w : List Shape) (a : PlainType) (o : Shape) (q : List Equation) (k : Holding) (b : PlainType) {x : PlainNeutral}
        → InstanceContext s front g h → SimplyFormedContext z.arguments z.simple g → NeutralGathers z g w n a o q → KeepsHead (S g) n x → Synthesizes sig h k x b
        → SubstitutedType (S g) a b × SolvesEach s q × SimplyTypedNeutral (Z g) n (erase a) × SimplyFormed z.arguments (Z g) a
    solves_neutral (head_alone y) g h w a o q k b i f p (kept_bare {j = x} e) t =
        let (j, l, c) = carries sig z front s closed none fixed g h i y a (head_type z g w y a o p.0) in
        let (m, n) = head_formed z formed none g f y a (head_type z g w y a o p.0) in
        (c b (subst (λ (v : Head). HeadType sig h v b) (kept_head l e) (typed_head sig h k x b t)), subst (SolvesEach s) (sym p.1) tt, n, m)
    solves_neutral (app m r n) g h w a o q k b i f p (kept_app {x = x} {y = y} e e') t =
        let (d, c, l, u, q1, q2, p1, p2, p3, p4) = application_gathers_parts p in let (d', c', h1, h2, t0, t1, t2, t3, t4) = application_rule_parts t in
        let (r1, r2, r3, r4) = solves_neutral r g h w (function m d c) (at_function l u o) q1 h1 (function m d' c') i f p1 e t1 in
        let (x1, x2) = functions_between r1 refl refl in
        let (r5, r6) = argument n g w d l u q2 (λ p'. solves_object n g h w d d' u q2 h2 i f p' e' t3 x1 r4.0) p2 in
        let (f1, f2) = formed_put z g n (erase d) r6 c a r4.1 p3 in (
          put_after z zf s keeps g n y (erase d) r6 e' c a c' b r4.1 p3 x2 t4,
          subst (SolvesEach s) (sym p4) (solves_both s q1 q2 r2 r5),
          (erase d, subst (λ (v : SimpleType). SimplyTypedNeutral (Z g) r (arrow m (erase d) v)) (sym f2) r3, r6),
          f1,
        )
    solves_neutral (fst r) g h w a o q k b i f p (kept_fst e) t =
        let (r1, r2, r3, r4) = solves_neutral r g h w (both a p.0) (at_both o p.1) q k (both b t.0) i f p.2 e t.1 in ((boths_between r1 refl refl).0, r2, (erase p.0, r3), r4.0)
    solves_neutral (snd r) g h w a o q k b i f p (kept_snd e) t =
        let (r1, r2, r3, r4) = solves_neutral r g h w (both p.0 a) (at_both p.1 o) q k (both t.0 b) i f p.2 e t.1 in ((boths_between r1 refl refl).1, r2, (erase p.0, r3), r4.1)

    pub solves_result : (e : PlainExpression) (g h : Context) (w : List Shape) (t u : PlainTelescope) (v : EntryShapes) (q : List Equation) (k : Holding) {x : PlainExpression}
        → InstanceContext s front g h → SimplyFormedContext z.arguments z.simple g → ExpressionGathers z g w e t v q → SubstitutedExpression (S g) e x → ExpressionHasType sig h k x u → SubstitutedTelescope (S g) t u → SimplyFormedTelescope z.arguments (Z g) t
        → SolvesEach s q × SimplyTypedExpression (Z g) e (erase_telescope t)
    solves_result (step ms r e) g h w t u v q k i f p (step_kept {x = x} {f = x'} a b) y c d =
        let (a', n, q1, q2, p1, p2, p3, p4) = step_gathers_parts p in let (b', h1, h2, y0, y1, y2, y3) = step_rule_parts y in
        let (r1, r2, r3, r4) = solves_neutral r g h w (monad a') (at_monad n) q1 h1 (monad b') i f p1 a y1 in
        let m = monads_between r1 refl refl in
        let deeper = ap (λ (l : List Mode). under (length l) (S g)) (sym p2) ∙ under_entries a' g s in
        let (r5, r6) = solves_result e (with_entries a' g) (with_entries b' h) (with_shapes n w) (ren_telescope (up (length ms)) t) (ren_telescope (up (length ms)) u) v q2 (all_held ms h2)
        (instance_entries s front m g h refl i) (formed_entries z.arguments z.simple a' g r4 f) p3
        (subst (λ (l : Environment). SubstitutedExpression l e x') deeper b) y3
        (subst (λ (l : Environment). SubstitutedTelescope l (ren_telescope (up (length ms)) t) (ren_telescope (up (length ms)) u)) deeper (past_telescope (length ms) (S g) c))
        (formed_past z g a' t ms p2 d) in (
          subst (SolvesEach s) (sym p4) (solves_both s q1 q2 r2 r5),
          (
            erase_telescope a',
            r3,
            erased_modes a' ∙ p2,
            subst (λ (l : SimpleTelescope). SimplyTypedExpression (extended_by (erase_telescope a') (Z g)) e l) (erase_renamed_telescope (up (length ms)) t)
                (subst (λ (l : Assignment). SimplyTypedExpression l e (erase_telescope (ren_telescope (up (length ms)) t))) (entered z.simple a' g) r6),
          ),
        )
    solves_result (step ms r e) g h w t u v q k i f p (step_value a b l) y c d =
        let (a', n, q1, q2, p1, p2, p3, p4) = step_gathers_parts p in absurd (no_value r g h w (monad a') (at_monad n) q1 i p1 a)
    solves_result (step ms r e) g h w t u v q k i f p (step_meta a b l) y c d =
        let (a', n, q1, q2, p1, p2, p3, p4) = step_gathers_parts p in absurd (no_value r g h w (monad a') (at_monad n) q1 i p1 a)
    solves_result (done x) g h w t u v q k i f p (through_done r) y c d = solves_tuple x g h w t u v q k i f p r y c d

    pub solves_tuple : (e : PlainTuple) (g h : Context) (w : List Shape) (t u : PlainTelescope) (v : EntryShapes) (q : List Equation) (k : Holding) {x : PlainTuple}
        → InstanceContext s front g h → SimplyFormedContext z.arguments z.simple g → TupleGathers z g w e t v q → SubstitutedTuple (S g) e x → TupleHasType sig h k x u → SubstitutedTelescope (S g) t u → SimplyFormedTelescope z.arguments (Z g) t
        → SolvesEach s q × SimplyTypedTuple (Z g) e (erase_telescope t)
    solves_tuple empty g h w t u v q k i f p through_empty y c d = (subst (SolvesEach s) (sym p.1) tt, ap erase_telescope p.0)
    solves_tuple (entry m n e) g h w t u v q k i f p (through_entry {x = x} r r') y c d =
        let (a, b, b', l, o, n', q1, q2, j, j', p1, p2, p3, p4) = entry_gathers_parts p in let (a', c', d', h1, h2, y0, y1, y2, y3, y4, y5) = tuple_entry_rule_parts y in
        let (x1, x2) = bindings_between c j y0 in let d1 = subst (λ (y : PlainTelescope). SimplyFormedTelescope z.arguments (Z g) y) j d in
        let (r1, r2) = argument n g w a l o q1 (λ p'. solves_object n g h w a a' o q1 h1 i f p' r y3 x1 d1.0) p1 in
        let (f1, f2) = formed_put_telescope z g n (erase a) r2 b b' d1.1 p2 in
        let (r3, r4) = solves_tuple e g h w b' d' n' q2 h2 i f p3 r' y5 (put_after_telescope z zf s keeps g n x (erase a) r2 r b b' c' d' d1.1 p2 x2 y4) f1 in (
          subst (SolvesEach s) (sym p4) (solves_both s q1 q2 r1 r3),
          (erase a, erase_telescope b, ap erase_telescope j, r2, subst (λ (l : SimpleTelescope). SimplyTypedTuple (Z g) e l) f2 r4),
        )
