-- What is gathered is simply typed.
use Rattle.std.proofs.Common.{ap, inl, subst, sym, ⊎_elim, ◌∙◌}
use Rattle.std.specs.Prelude.{Bool, List, Some, [], length, refl, ◌++◌, ◌∷◌, ◌≡◌}
use Rattle.clf_syntax.proofs.RenamingLaws.{ext}
use Rattle.clf_syntax.specs.Renaming.{ren_telescope, up}
use Rattle.clf_syntax.specs.Simple.{Assignment, SimplyFormed, SimplyFormedContext, SimplyFormedTelescope, SimplyTyped, SimplyTypedEach, SimplyTypedExpression, SimplyTypedNeutral, SimplyTypedTuple, erase, erase_telescope, extended, extended_by, extended_over}
use Rattle.clf_syntax.specs.Tree.{PlainExpression, PlainNeutral, PlainObject, PlainTuple, app, atomic, done, empty, entry, fst, head_alone, hole, lam, monadic, pair, snd, step, unit}
use Rattle.clf_syntax.specs.TypeTree.{PlainTelescope, PlainType, SimpleTelescope, SimpleType, arrow, both, family, function, monad}
use Rattle.clf_syntax.specs.declared.tree.Head.{Head}
use Rattle.clf_syntax.specs.declared.tree.Head.TheVariants.{Const, Meta, Var}
use Rattle.use_contexts.specs.Context.{Context, with_entries}
use Rattle.subst_laws.proofs.Renamed.{erase_renamed_telescope}
use Rattle.pattern_laws.specs.Equations.{Equation, scoped}
use Rattle.pattern_laws.specs.Instantiations.{closed}
use Rattle.typing_laws.proofs.Erased.{entered, erased_modes}
use Rattle.gathering.proofs.Formed.{formed_entries, formed_past, head_formed}
use Rattle.gathering.proofs.Heads.{filled}
use Rattle.gathering.proofs.Parts.{application_gathers_parts, entry_gathers_parts, lambda_gathers_parts, leaf_gathers_parts, monadic_gathers_parts, pair_gathers_parts, step_gathers_parts}
use Rattle.gathering.proofs.Puts.{formed_put, formed_put_telescope}
use Rattle.gathering.proofs.Solving.{head_type}
use Rattle.gathering.specs.Complete.{ExpressionHasNoHole, HasNoHole, NeutralHasNoHole, TupleHasNoHole}
use Rattle.gathering.specs.Gather.{ExpressionGathers, Gathers, NeutralGathers, PartGathers, TupleGathers}
use Rattle.gathering.specs.Instances.{FormedSetting}
use Rattle.gathering.specs.Laws.{GatheredIsTyped}
use Rattle.gathering.specs.Setting.{EquationsTyped, NoImplicit, NoVariables, Pairs, Setting, simple_locals}
use Rattle.gathering.specs.Shape.{EntryShapes, Shape, at_both, at_function, at_monad, with_shapes}

typed_both : (z : Setting) (p q : List Equation) → EquationsTyped z p → EquationsTyped z q → EquationsTyped z (p ++ q)
typed_both z [] q x y = y
typed_both z (e ∷ p) q x y = (x.0, typed_both z p q x.1 y)

same_simple : (z : Setting) → NoVariables z → closed (λ c. z.simple (Const c)) (λ m. z.simple (Meta m)) ≡ z.simple
same_simple z free = ext (λ h. at_head h)
  where
    at_head : (h : Head) → closed (λ c. z.simple (Const c)) (λ m. z.simple (Meta m)) h ≡ z.simple h
    at_head (Const c) = refl
    at_head (Var i) = sym (free i)
    at_head (Meta m) = refl

same_scope : (g : Context) (y : Assignment) → scoped (simple_locals g) y ≡ extended_over g y
same_scope [] y = refl
same_scope (e ∷ g) y = ap (extended (erase e.1)) (same_scope g y)

the_value : {A : Type 0} {a b : A} → Some a ≡ Some b → a ≡ b
the_value e = cc

module _ (z : Setting) (formed : FormedSetting z) (none : NoImplicit z) (free : NoVariables z) where
  abbrev Z : Context → Assignment
  Z g = extended_over g z.simple

  in_scope : (g : Context) (o : PlainObject) (t : SimpleType) → SimplyTyped (Z g) o t → SimplyTyped (scoped (simple_locals g) (closed (λ c. z.simple (Const c)) (λ m. z.simple (Meta m)))) o t
  in_scope g o t p = subst (λ (y : Assignment). SimplyTyped y o t) (sym (ap (scoped (simple_locals g)) (same_simple z free) ∙ same_scope g z.simple)) p

  pairs_typed : (g : Context) (ts : List SimpleType) (os ns : List PlainObject) (q : List Equation) → Pairs (simple_locals g) ts os ns q → SimplyTypedEach (Z g) os ts → SimplyTypedEach (Z g) ns ts → EquationsTyped z q
  pairs_typed g [] [] [] q p a b = subst (EquationsTyped z) (sym p) tt
  pairs_typed g (t ∷ ts) (o ∷ os) (n ∷ ns) q p a b = subst (EquationsTyped z) (sym p.1) ((in_scope g o t a.0, in_scope g n t b.0), pairs_typed g ts os ns p.0 p.2 a.1 b.1)
  pairs_typed g [] (o ∷ os) ns q p a b = absurd p
  pairs_typed g [] [] (n ∷ ns) q p a b = absurd p
  pairs_typed g (t ∷ ts) [] ns q p a b = absurd p
  pairs_typed g (t ∷ ts) (o ∷ os) [] q p a b = absurd p

  argument : (n : PlainObject) (g : Context) (w : List Shape) (a : PlainType) (d : Bool) (u : Shape) (y : List Equation) → (Gathers z g w n a u y → EquationsTyped z y × SimplyTyped (Z g) n (erase a))
      → PartGathers z g d n a y (Gathers z g w n a u y) → EquationsTyped z y × SimplyTyped (Z g) n (erase a)
  argument n g w a d u y f p = ⊎_elim (λ p. (subst (EquationsTyped z) (sym p.2) tt, p.1)) (λ p. f p.1) p

  mutual
    pub gathered_object : (o : PlainObject) (g : Context) (w : List Shape) (t : PlainType) (v : Shape) (q : List Equation) → SimplyFormedContext z.arguments z.simple g → HasNoHole o → Gathers z g w o t v q → SimplyFormed z.arguments (Z g) t
        → EquationsTyped z q × SimplyTyped (Z g) o (erase t)
    gathered_object (lam m b) g w t v q f k p d =
        let (a, e, n, a', e', j, l, p') = lambda_gathers_parts p in let d' = subst (λ (y : PlainType). SimplyFormed z.arguments (Z g) y) j d in
        let (r1, r2) = gathered_object b ((m, a) ∷ g) (a' ∷ w) e e' q (d'.0, f) k p' d'.1 in (r1, (erase a, erase e, ap erase j, r2))
    gathered_object (pair l r) g w t v q f k p d =
        let (e, e', n, n', q1, q2, j, j', p1, p2, m) = pair_gathers_parts p in let d' = subst (λ (y : PlainType). SimplyFormed z.arguments (Z g) y) j d in
        let (r1, r2) = gathered_object l g w e n q1 f k.0 p1 d'.0 in let (r3, r4) = gathered_object r g w e' n' q2 f k.1 p2 d'.1 in
        (subst (EquationsTyped z) (sym m) (typed_both z q1 q2 r1 r3), (erase e, erase e', ap erase j, r2, r4))
    gathered_object unit g w t v q f k p d = (subst (EquationsTyped z) (sym p.1) tt, ap erase p.0)
    gathered_object (monadic e) g w t v q f k p d =
        let (a, n, j, j', p') = monadic_gathers_parts p in let d' = subst (λ (y : PlainType). SimplyFormed z.arguments (Z g) y) j d in
        let (r1, r2) = gathered_expression e g w a n q f k p' d' in (r1, (erase_telescope a, ap erase j, r2))
    gathered_object (atomic n) g w t v q f k p d = ⊎_elim
        (λ p. let (a, ns, os, ts, o, q1, q2, j, p1, e, p2, m) = leaf_gathers_parts p in let d' = subst (λ (y : PlainType). SimplyFormed z.arguments (Z g) y) j d in
        let (r1, r2, r3) = gathered_neutral n g w (family a os) o q1 f k p1 in (
          subst (EquationsTyped z) (sym m) (typed_both z q1 q2 r1 (pairs_typed g ts os ns q2 p2
              (subst (λ l. SimplyTypedEach (Z g) os l) (the_value (sym r3.1 ∙ e)) r3.2) (subst (λ l. SimplyTypedEach (Z g) ns l) (the_value (sym d'.1 ∙ e)) d'.2))),
          subst (λ (b : SimpleType). SimplyTyped (Z g) (atomic n) b) (sym (ap erase j)) (inl (a, refl), r2),
        ))
        (λ p. let p = filled z none p in (subst (EquationsTyped z) (sym p.equations) tt, p.typed)) p
    gathered_object hole g w t v q f k p d = absurd k

    pub gathered_neutral : (n : PlainNeutral) (g : Context) (w : List Shape) (a : PlainType) (o : Shape) (q : List Equation) → SimplyFormedContext z.arguments z.simple g → NeutralHasNoHole n → NeutralGathers z g w n a o q
        → EquationsTyped z q × SimplyTypedNeutral (Z g) n (erase a) × SimplyFormed z.arguments (Z g) a
    gathered_neutral (head_alone y) g w a o q f k p = let (m, n) = head_formed z formed none g f y a (head_type z g w y a o p.0) in (subst (EquationsTyped z) (sym p.1) tt, n, m)
    gathered_neutral (app m r n) g w a o q f k p =
        let (d, c, l, u, q1, q2, p1, p2, p3, p4) = application_gathers_parts p in
        let (r1, r2, r3) = gathered_neutral r g w (function m d c) (at_function l u o) q1 f k.0 p1 in
        let (r4, r5) = argument n g w d l u q2 (λ p'. gathered_object n g w d u q2 f k.1 p' r3.0) p2 in
        let (f1, f2) = formed_put z g n (erase d) r5 c a r3.1 p3 in
        (subst (EquationsTyped z) (sym p4) (typed_both z q1 q2 r1 r4), (erase d, subst (λ (v : SimpleType). SimplyTypedNeutral (Z g) r (arrow m (erase d) v)) (sym f2) r2, r5), f1)
    gathered_neutral (fst r) g w a o q f k p = let (r1, r2, r3) = gathered_neutral r g w (both a p.0) (at_both o p.1) q f k p.2 in (r1, (erase p.0, r2), r3.0)
    gathered_neutral (snd r) g w a o q f k p = let (r1, r2, r3) = gathered_neutral r g w (both p.0 a) (at_both p.1 o) q f k p.2 in (r1, (erase p.0, r2), r3.1)

    pub gathered_expression : (e : PlainExpression) (g : Context) (w : List Shape) (t : PlainTelescope) (v : EntryShapes) (q : List Equation) → SimplyFormedContext z.arguments z.simple g → ExpressionHasNoHole e → ExpressionGathers z g w e t v q
        → SimplyFormedTelescope z.arguments (Z g) t → EquationsTyped z q × SimplyTypedExpression (Z g) e (erase_telescope t)
    gathered_expression (step ms r e) g w t v q f k p d =
        let (a', n, q1, q2, p1, p2, p3, p4) = step_gathers_parts p in let (r1, r2, r3) = gathered_neutral r g w (monad a') (at_monad n) q1 f k.0 p1 in
        let (r4, r5) = gathered_expression e (with_entries a' g) (with_shapes n w) (ren_telescope (up (length ms)) t) v q2 (formed_entries z.arguments z.simple a' g r3 f) k.1 p3 (formed_past z g a' t ms p2 d) in (
          subst (EquationsTyped z) (sym p4) (typed_both z q1 q2 r1 r4),
          (
            erase_telescope a',
            r2,
            erased_modes a' ∙ p2,
            subst (λ (l : SimpleTelescope). SimplyTypedExpression (extended_by (erase_telescope a') (Z g)) e l) (erase_renamed_telescope (up (length ms)) t)
                (subst (λ (l : Assignment). SimplyTypedExpression l e (erase_telescope (ren_telescope (up (length ms)) t))) (entered z.simple a' g) r5),
          ),
        )
    gathered_expression (done x) g w t v q f k p d = gathered_tuple x g w t v q f k p d

    pub gathered_tuple : (e : PlainTuple) (g : Context) (w : List Shape) (t : PlainTelescope) (v : EntryShapes) (q : List Equation) → SimplyFormedContext z.arguments z.simple g → TupleHasNoHole e → TupleGathers z g w e t v q
        → SimplyFormedTelescope z.arguments (Z g) t → EquationsTyped z q × SimplyTypedTuple (Z g) e (erase_telescope t)
    gathered_tuple empty g w t v q f k p d = (subst (EquationsTyped z) (sym p.1) tt, ap erase_telescope p.0)
    gathered_tuple (entry m n e) g w t v q f k p d =
        let (a, b, b', l, o, n', q1, q2, j, j', p1, p2, p3, p4) = entry_gathers_parts p in let d1 = subst (λ (y : PlainTelescope). SimplyFormedTelescope z.arguments (Z g) y) j d in
        let (r1, r2) = argument n g w a l o q1 (λ p'. gathered_object n g w a o q1 f k.0 p' d1.0) p1 in
        let (f1, f2) = formed_put_telescope z g n (erase a) r2 b b' d1.1 p2 in
        let (r3, r4) = gathered_tuple e g w b' n' q2 f k.1 p3 f1 in
        (subst (EquationsTyped z) (sym p4) (typed_both z q1 q2 r1 r3), (erase a, erase_telescope b, ap erase_telescope j, r2, subst (λ (l : SimpleTelescope). SimplyTypedTuple (Z g) e l) f2 r4))

pub gathered_is_typed : GatheredIsTyped
gathered_is_typed z formed none free g w n a o q f d k p = gathered_object z formed none free n g w a o q f k p d
