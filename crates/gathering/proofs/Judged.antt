-- Where nothing is unknown or passed over, gathering of equations that hold is typing.
use Rattle.std.proofs.Common.{ap, subst, sym, ⊎_elim, ◌∙◌}
use Rattle.std.specs.List.{slice_get}
use Rattle.std.specs.Prelude.{Bool, List, Some, [], false, length, refl, suc, true, zero, ℕ, ◌++◌, ◌∷◌, ◌≡◌}
use Rattle.clf_syntax.specs.Renaming.{ren_telescope, up}
use Rattle.clf_syntax.specs.Tree.{PlainExpression, PlainNeutral, PlainObject, PlainTuple, app, atomic, done, empty, entry, fst, head_alone, hole, lam, monadic, pair, snd, step, unit}
use Rattle.clf_syntax.specs.TypeTree.{PlainTelescope, PlainType, SimpleType, binding, both, end, family, function, monad}
use Rattle.clf_syntax.specs.declared.tree.Head.{Head}
use Rattle.clf_syntax.specs.declared.tree.Head.TheVariants.{Const, Meta, Var}
use Rattle.clf_syntax.specs.declared.tree.Mode.{Mode}
use Rattle.use_contexts.specs.Context.{Context, modes, telescope_modes, with_entries}
use Rattle.use_contexts.specs.Holding.{Holding, all_held}
use Rattle.clf_sig.specs.Entry.{PlainSignature}
use Rattle.trace_equal.specs.Exchange.{JoinedEach}
use Rattle.pattern_laws.specs.Equations.{Equation, Locals}
use Rattle.clf_rules.specs.Typing.{ExpressionHasType, HasType, HeadHasType, Synthesizes, TupleHasType}
use Rattle.gathering.proofs.Heads.{filled, not_implicit}
use Rattle.gathering.proofs.Parts.{application_gathers_parts, application_spends_parts, entry_gathers_parts, entry_spends_parts, lambda_gathers_parts, lambda_spends_parts, leaf_gathers_parts, monadic_gathers_parts, pair_gathers_parts, pair_spends_parts, step_gathers_parts, step_spends_parts, to_application_rule, to_atomic_rule, to_lambda_rule, to_pair_rule, to_step_rule, to_tuple_entry_rule}
use Rattle.gathering.specs.Complete.{ExpressionHasNoHole, HasNoHole, HoldEach, NeutralHasNoHole, OverSignature, TupleHasNoHole}
use Rattle.gathering.specs.Gather.{ExpressionGathers, Gathers, HeadGathers, NeutralGathers, TupleGathers}
use Rattle.gathering.specs.Setting.{NoImplicit, Pairs, Setting, simple_locals}
use Rattle.gathering.specs.Shape.{EachPassesNone, EntryShapes, PassesNoEntry, PassesNone, Shape, an_entry, at_both, at_function, at_monad, no_entry, with_shapes}
use Rattle.gathering.specs.Spend.{ExpressionSpends, HeadSpends, NeutralSpends, Spends, TupleSpends, with_modes}

not_both : {d : Bool} → d ≡ true → d ≡ false → ⊥
not_both e f = cc

no_fill : {d : Bool} → d ≡ false → d ≡ true → ⊥
no_fill e f = cc

pub hold_first : (p q : List Equation) → HoldEach (p ++ q) → HoldEach p
hold_first [] q x = tt
hold_first (e ∷ p) q x = (x.0, hold_first p q x.1)

pub hold_second : (p q : List Equation) → HoldEach (p ++ q) → HoldEach q
hold_second [] q x = x
hold_second (e ∷ p) q x = hold_second p q x.1

hold_parts : (q p y : List Equation) → q ≡ p ++ y → HoldEach q → HoldEach p × HoldEach y
hold_parts q p y e h = let h' = subst HoldEach e h in (hold_first p y h', hold_second p y h')

pairs_hold : (l : Locals) (ts : List SimpleType) (os ns : List PlainObject) (q : List Equation) → Pairs l ts os ns q → HoldEach q → JoinedEach os ns
pairs_hold l [] [] [] q p h = tt
pairs_hold l (t ∷ ts) (o ∷ os) (n ∷ ns) q p h = let h' = subst HoldEach p.1 h in (h'.0, pairs_hold l ts os ns p.0 p.2 h'.1)
pairs_hold l [] (o ∷ os) ns q p h = absurd p
pairs_hold l [] [] (n ∷ ns) q p h = absurd p
pairs_hold l (t ∷ ts) [] ns q p h = absurd p
pairs_hold l (t ∷ ts) (o ∷ os) [] q p h = absurd p

pub entry_modes : (t : PlainTelescope) (g : Context) → modes (with_entries t g) ≡ with_modes (telescope_modes t) (modes g)
entry_modes end g = refl
entry_modes (binding m a t) g = entry_modes t ((m, a) ∷ g)

none_at : (w : List Shape) → EachPassesNone w → (i : ℕ) (o : Shape) → slice_get w i ≡ Some o → PassesNone o
none_at [] n i o e = absurd (cc)
none_at (u ∷ w) n zero o e = let k : u ≡ o = cc in subst PassesNone k n.0
none_at (u ∷ w) n (suc i) o e = none_at w n.1 i o e

none_entries : (x : EntryShapes) (w : List Shape) → PassesNoEntry x → EachPassesNone w → EachPassesNone (with_shapes x w)
none_entries no_entry w p q = q
none_entries (an_entry d u x) w p q = none_entries x (u ∷ w) p.2 (p.1, q)

the_value : {a b : PlainType} → Some a ≡ Some b → a ≡ b
the_value e = cc

the_shape : {a b : Shape} → Some a ≡ Some b → a ≡ b
the_shape e = cc

function_shapes : {d e : Bool} {u v x y : Shape} → at_function d u x ≡ at_function e v y → (d ≡ e) × (u ≡ v) × (x ≡ y)
function_shapes e = (cc, cc, cc)

pair_shapes : {u v x y : Shape} → at_both u x ≡ at_both v y → (u ≡ v) × (x ≡ y)
pair_shapes e = (cc, cc)

monad_shape : {x y : EntryShapes} → at_monad x ≡ at_monad y → x ≡ y
monad_shape e = cc

entry_shapes : {d e : Bool} {u v : Shape} {x y : EntryShapes} → an_entry d u x ≡ an_entry e v y → (d ≡ e) × (u ≡ v) × (x ≡ y)
entry_shapes e = (cc, cc, cc)

there : {o u : Shape} → o ≡ u → PassesNone o → PassesNone u
there e p = subst PassesNone e p

module _ (sig : PlainSignature) (z : Setting) (over : OverSignature sig z) (no_implicit : NoImplicit z) (fills : z.fills ≡ false) (none : (a : PlainType) → PassesNone (z.shape a)) where
  -- the shapes that are found pass over nothing
  none_neutral : (n : PlainNeutral) (g : Context) (w : List Shape) (a : PlainType) (o : Shape) (q : List Equation) → EachPassesNone w → NeutralGathers z g w n a o q → PassesNone o
  none_neutral (head_alone x) g w a o q e p = head x p.0
    where
      head : (x : Head) → HeadGathers z g w x a o → PassesNone o
      head (Const c) p = there (sym p.1) (none a)
      head (Var i) p = none_at w e i o p.1
      head (Meta k) p = absurd (not_implicit z no_implicit k a p.0)
  none_neutral (app m r n) g w a o q e p = let (b, c, d, u, p1, p2, x1, x2, x3, x4) = application_gathers_parts p in (none_neutral r g w (function m b c) (at_function d u o) p1 e x1).2
  none_neutral (fst r) g w a o q e p = (none_neutral r g w (both a p.0) (at_both o p.1) q e p.2).0
  none_neutral (snd r) g w a o q e p = (none_neutral r g w (both p.0 a) (at_both p.1 o) q e p.2).1

  one_head : (g : Context) (w : List Shape) (ms : List Mode) (k : Holding) (x : Head) (a : PlainType) (o v : Shape) → HeadGathers z g w x a o → HeadSpends z w ms k x v → o ≡ v
  one_head g w ms k (Const c) a o v p h = p.1 ∙ ap z.shape (the_value (sym p.0 ∙ h.2)) ∙ sym h.3
  one_head g w ms k (Var i) a o v p h = the_shape (sym p.1 ∙ h.1)
  one_head g w ms k (Meta m) a o v p h = absurd (not_implicit z no_implicit m a p.0)

  one_shape : (n : PlainNeutral) (g : Context) (w : List Shape) (ms : List Mode) (k : Holding) (a : PlainType) (o v : Shape) (q : List Equation) → NeutralGathers z g w n a o q → NeutralSpends z w ms k n v → o ≡ v
  one_shape (head_alone x) g w ms k a o v q p h = one_head g w ms k x a o v p.0 h
  one_shape (app m r n) g w ms k a o v q p h = let (b, c, d, u, p1, p2, x1, x2, x3, x4) = application_gathers_parts p in let (d', u', h1, h2, y1, y2, y3, y4) = application_spends_parts h in
      (function_shapes (one_shape r g w ms h1 (function m b c) (at_function d u o) (at_function d' u' v) p1 x1 y2)).2
  one_shape (fst r) g w ms k a o v q p h = (pair_shapes (one_shape r g w ms k (both a p.0) (at_both o p.1) (at_both v h.0) q p.2 h.1)).0
  one_shape (snd r) g w ms k a o v q p h = (pair_shapes (one_shape r g w ms k (both p.0 a) (at_both p.1 o) (at_both h.0 v) q p.2 h.1)).1

  head_typed : (g : Context) (w : List Shape) (k : Holding) (x : Head) (a : PlainType) (o v : Shape) → HeadGathers z g w x a o → HeadSpends z w (modes g) k x v → HeadHasType sig g k x a
  head_typed g w k (Const c) a o v p h = (over c a p.0, h.0)
  head_typed g w k (Var i) a o v p h = (h.0, p.0)
  head_typed g w k (Meta m) a o v p h = absurd (not_implicit z no_implicit m a p.0)

  mutual
    pub typed_object : (n : PlainObject) (g : Context) (w : List Shape) (k : Holding) (t : PlainType) (o : Shape) (q : List Equation) → EachPassesNone w → PassesNone o → HasNoHole n
        → Gathers z g w n t o q → HoldEach q → Spends z w (modes g) k n o → HasType sig g k n t
    typed_object (lam m b) g w k t o q e n f p h s = let (a, c, d, x, y, i, j, p') = lambda_gathers_parts p in let (d', x', y', j', s') = lambda_spends_parts s in
        let no = there j n in let (l1, l2, l3) = function_shapes (sym j' ∙ j) in
        to_lambda_rule (
          a,
          c,
          i,
          typed_object b ((m, a) ∷ g) (x ∷ w) (true ∷ k) c y q (no.1, e) no.2 f p' h
              (subst (λ l. Spends z (x ∷ w) (m ∷ modes g) (true ∷ k) b l) l3 (subst (λ l. Spends z (l ∷ w) (m ∷ modes g) (true ∷ k) b y') l2 s')),
        )
    typed_object (pair l r) g w k t o q e n f p h s = let (a, c, x, y, q1, q2, i, j, p1, p2, j2) = pair_gathers_parts p in let (x', y', j', s1, s2) = pair_spends_parts s in
        let no = there j n in let (l1, l2) = pair_shapes (sym j' ∙ j) in let (h1, h2) = hold_parts q q1 q2 j2 h in
        to_pair_rule (a, c, i, typed_object l g w k a x q1 e no.0 f.0 p1 h1 (subst (λ v. Spends z w (modes g) k l v) l1 s1), typed_object r g w k c y q2 e no.1 f.1 p2 h2 (subst (λ v. Spends z w (modes g) k r v) l2 s2))
    typed_object unit g w k t o q e n f p h s = p.0
    typed_object (monadic x) g w k t o q e n f p h s = let (a, v, i, j, p') = monadic_gathers_parts p in let (v', j', s') = s in
        (a, i, typed_result x g w k a v q e (subst PassesNone j n) f p' h (subst (λ l. ExpressionSpends z w (modes g) k x l) (monad_shape (sym j' ∙ j)) s'))
    typed_object (atomic n) g w k t o q e _ f p h s = ⊎_elim
        (λ p. ⊎_elim
        (λ s. let (a, ns, os, ts, x, q1, q2, i, p1, j1, p2, j2) = leaf_gathers_parts p in let (h1, h2) = hold_parts q q1 q2 j2 h in
        to_atomic_rule (a, ns, os, i, typed_neutral n g w k (family a os) x s.0 q1 e f p1 h1 s.1, pairs_hold (simple_locals g) ts os ns q2 p2 h2))
        (λ s. absurd (no_fill fills s.1)) s)
        (λ p. absurd (no_fill fills (filled z no_implicit p).fills)) p
    typed_object hole g w k t o q e n f p h s = absurd f

    pub typed_neutral : (n : PlainNeutral) (g : Context) (w : List Shape) (k : Holding) (a : PlainType) (o v : Shape) (q : List Equation) → EachPassesNone w → NeutralHasNoHole n
        → NeutralGathers z g w n a o q → HoldEach q → NeutralSpends z w (modes g) k n v → Synthesizes sig g k n a
    typed_neutral (head_alone x) g w k a o v q e f p h s = head_typed g w k x a o v p.0 s
    typed_neutral (app m r n) g w k a o v q e f p h s = let (b, c, d, u, q1, q2, x1, x2, x3, x4) = application_gathers_parts p in let (d', u', h1, h2, y1, y2, y3, y4) = application_spends_parts s in
        let (k1, k2) = hold_parts q q1 q2 x4 h in let (l1, l2, l3) = function_shapes (one_shape r g w (modes g) h1 (function m b c) (at_function d u o) (at_function d' u' v) q1 x1 y2) in
        let (n1, n2, n3) = none_neutral r g w (function m b c) (at_function d u o) q1 e x1 in
        to_application_rule (
          b,
          c,
          h1,
          h2,
          y1,
          typed_neutral r g w h1 (function m b c) (at_function d u o) (at_function d' u' v) q1 e f.0 x1 k1 y2,
          y3,
          ⊎_elim (λ x. absurd (not_both x.0 n1)) (λ x. ⊎_elim (λ y. absurd (not_both (l1 ∙ y) n1))
              (λ y. typed_object n g w h2 b u q2 e n2 f.1 x.1 k2 (subst (λ l. Spends z w (modes g) h2 n l) (sym l2) y.1)) y4) x2,
          x3,
        )
    typed_neutral (fst r) g w k a o v q e f p h s = (p.0, typed_neutral r g w k (both a p.0) (at_both o p.1) (at_both v s.0) q e f p.2 h s.1)
    typed_neutral (snd r) g w k a o v q e f p h s = (p.0, typed_neutral r g w k (both p.0 a) (at_both p.1 o) (at_both s.0 v) q e f p.2 h s.1)

    pub typed_result : (n : PlainExpression) (g : Context) (w : List Shape) (k : Holding) (t : PlainTelescope) (o : EntryShapes) (q : List Equation) → EachPassesNone w → PassesNoEntry o → ExpressionHasNoHole n
        → ExpressionGathers z g w n t o q → HoldEach q → ExpressionSpends z w (modes g) k n o → ExpressionHasType sig g k n t
    typed_result (step ms r x) g w k t o q e n f p h s = let (a, v, q1, q2, p1, m, p2, j) = step_gathers_parts p in let (v', h1, h2, y1, y2, y3) = step_spends_parts s in
        let (k1, k2) = hold_parts q q1 q2 j h in let l = monad_shape (one_shape r g w (modes g) h1 (monad a) (at_monad v) (at_monad v') q1 p1 y2) in
        let nv = none_neutral r g w (monad a) (at_monad v) q1 e p1 in
        to_step_rule (
          a,
          h1,
          h2,
          y1,
          typed_neutral r g w h1 (monad a) (at_monad v) (at_monad v') q1 e f.0 p1 k1 y2,
          m,
          typed_result x (with_entries a g) (with_shapes v w) (all_held ms h2) (ren_telescope (up (length ms)) t) o q2 (none_entries v w nv e) n f.1 p2 k2
              (subst (λ y. ExpressionSpends z (with_shapes v w) y (all_held ms h2) x o) (ap (λ y. with_modes y (modes g)) (sym m) ∙ sym (entry_modes a g))
              (subst (λ y. ExpressionSpends z (with_shapes y w) (with_modes ms (modes g)) (all_held ms h2) x o) (sym l) y3)),
        )
    typed_result (done x) g w k t o q e n f p h s = typed_tuple x g w k t o q e n f p h s

    pub typed_tuple : (n : PlainTuple) (g : Context) (w : List Shape) (k : Holding) (t : PlainTelescope) (o : EntryShapes) (q : List Equation) → EachPassesNone w → PassesNoEntry o → TupleHasNoHole n
        → TupleGathers z g w n t o q → HoldEach q → TupleSpends z w (modes g) k n o → TupleHasType sig g k n t
    typed_tuple empty g w k t o q e n f p h s = (p.0, s)
    typed_tuple (entry m n x) g w k t o q e n' f p h s = let (a, b, c, d, u, y, q1, q2, i, j, p1, p2, p3, p4) = entry_gathers_parts p in let (d', u', y', h1, h2, j', y1, y2, y3, y4) = entry_spends_parts s in
        let (k1, k2) = hold_parts q q1 q2 p4 h in let no = subst PassesNoEntry j n' in let (l1, l2, l3) = entry_shapes (sym j' ∙ j) in
        to_tuple_entry_rule (
          a,
          b,
          c,
          h1,
          h2,
          i,
          y1,
          y2,
          ⊎_elim (λ x. absurd (not_both x.0 no.0)) (λ x. ⊎_elim (λ y. absurd (not_both (sym l1 ∙ y) no.0))
              (λ y. typed_object n g w h1 a u q1 e no.1 f.0 x.1 k1 (subst (λ l. Spends z w (modes g) h1 n l) l2 y.1)) y3) p1,
          p2,
          typed_tuple x g w h2 c y q2 e no.2 f.1 p3 k2 (subst (λ l. TupleSpends z w (modes g) h2 x l) l3 y4),
        )
