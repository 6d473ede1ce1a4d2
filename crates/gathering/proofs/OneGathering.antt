-- What is gathered is determined by the object, its type and its context; and a neutral synthesizes one type.
use Rattle.std.proofs.Common.{ap, subst, sym, ⊎_elim, ◌∙◌}
use Rattle.std.specs.List.{slice_get}
use Rattle.std.specs.Prelude.{Bool, List, Option, Some, [], false, length, refl, true, ℕ, ◌++◌, ◌+◌, ◌∷◌, ◌≡◌}
use Rattle.clf_syntax.specs.Renaming.{ren_telescope, ren_type, up}
use Rattle.clf_syntax.specs.Tree.{PlainExpression, PlainNeutral, PlainObject, PlainTuple, app, atomic, done, empty, entry, fst, head_alone, head_of, hole, lam, monadic, pair, snd, step, unit}
use Rattle.clf_syntax.specs.TypeTree.{PlainTelescope, PlainType, SimpleType, binding, both, family, function, monad}
use Rattle.clf_syntax.specs.declared.tree.Head.{Head}
use Rattle.clf_syntax.specs.declared.tree.Head.TheVariants.{Const, Meta, Var}
use Rattle.clf_syntax.specs.declared.tree.Mode.{Mode}
use Rattle.use_contexts.specs.Context.{Context, with_entries}
use Rattle.hered_subst.proofs.Types.{determined_telescope, determined_type}
use Rattle.hered_subst.specs.Substitution.{SubstitutedTelescope, SubstitutedType, single}
use Rattle.pattern_laws.specs.Equations.{Equation, Locals}
use Rattle.gathering.proofs.Heads.{filled, not_implicit}
use Rattle.gathering.proofs.Parts.{application_gathers_parts, entry_gathers_parts, lambda_gathers_parts, leaf_gathers_parts, monadic_gathers_parts, pair_gathers_parts, step_gathers_parts}
use Rattle.gathering.specs.Gather.{ExpressionGathers, Gathers, HeadGathers, NeutralGathers, TupleGathers}
use Rattle.gathering.specs.Setting.{NoImplicit, Pairs, Setting, simple_locals}
use Rattle.gathering.specs.Shape.{EntryShapes, Shape, an_entry, at_both, at_function, at_monad, with_shapes}

appended : {p q x y : List Equation} → p ≡ q → x ≡ y → p ++ x ≡ q ++ y
appended e f = cc

function_parts : {m n : Mode} {a b c d : PlainType} → function m a c ≡ function n b d → (a ≡ b) × (c ≡ d)
function_parts e = (cc, cc)

both_parts : {a b c d : PlainType} → both a c ≡ both b d → (a ≡ b) × (c ≡ d)
both_parts e = (cc, cc)

monad_part : {s t : PlainTelescope} → monad s ≡ monad t → s ≡ t
monad_part e = cc

family_parts : {f g : ℕ} {ns os : List PlainObject} → family f ns ≡ family g os → (f ≡ g) × (ns ≡ os)
family_parts e = (cc, cc)

binding_parts : {m n : Mode} {a b : PlainType} {s t : PlainTelescope} → binding m a s ≡ binding n b t → (a ≡ b) × (s ≡ t)
binding_parts e = (cc, cc)

shape_parts : {d e : Bool} {u v x y : Shape} → at_function d u x ≡ at_function e v y → (d ≡ e) × (u ≡ v) × (x ≡ y)
shape_parts e = (cc, cc, cc)

pair_shapes : {u v x y : Shape} → at_both u x ≡ at_both v y → (u ≡ v) × (x ≡ y)
pair_shapes e = (cc, cc)

monad_shape : {x y : EntryShapes} → at_monad x ≡ at_monad y → x ≡ y
monad_shape e = cc

entry_shapes : {d e : Bool} {u v : Shape} {x y : EntryShapes} → an_entry d u x ≡ an_entry e v y → (d ≡ e) × (u ≡ v) × (x ≡ y)
entry_shapes e = (cc, cc, cc)

the_value : {A : Type 0} {a b : A} → Some a ≡ Some b → a ≡ b
the_value e = cc

second_part : (x : Option (Mode × PlainType)) (e : Mode × PlainType) (m : Mode) (a : PlainType) → x ≡ Some e → x ≡ Some (m, a) → e.1 ≡ a
second_part x e m a p q = cc

at_place : (x : Option (Mode × PlainType)) (m n : Mode) (a b : PlainType) → x ≡ Some (m, a) → x ≡ Some (n, b) → a ≡ b
at_place x m n a b e f = second_part x (m, a) n b e f

not_both : {d : Bool} → d ≡ true → d ≡ false → ⊥
not_both e f = cc

one_list : (l k : Locals) (ts ts' : List SimpleType) (os os' ns ns' : List PlainObject) (q y : List Equation) → Pairs l ts os ns q → Pairs k ts' os' ns' y → l ≡ k → ts ≡ ts' → os ≡ os' → ns ≡ ns' → q ≡ y
one_list l k ts ts' os os' ns ns' q y p r e f g h = same k ts' os' ns' q y (subst (λ x. Pairs k ts' os' x q) h (subst (λ x. Pairs k ts' x ns q) g (subst (λ x. Pairs k x os ns q) f (subst (λ x. Pairs x ts os ns q) e p)))) r
  where
    conses : {x : Equation} {a b : List Equation} → a ≡ b → x ∷ a ≡ x ∷ b
    conses e = cc

    same : (l : Locals) (ts : List SimpleType) (os ns : List PlainObject) (q y : List Equation) → Pairs l ts os ns q → Pairs l ts os ns y → q ≡ y
    same l [] [] [] q y p r = p ∙ sym r
    same l (t ∷ ts) (o ∷ os) (n ∷ ns) q y p r = p.1 ∙ conses (same l ts os ns p.0 r.0 p.2 r.2) ∙ sym r.1
    same l [] (o ∷ os) ns q y p r = absurd p
    same l [] [] (n ∷ ns) q y p r = absurd p
    same l (t ∷ ts) [] ns q y p r = absurd p
    same l (t ∷ ts) (o ∷ os) [] q y p r = absurd p

there_type : (n : PlainObject) {c d t : PlainType} → SubstitutedType (single n 0) c t → c ≡ d → SubstitutedType (single n 0) d t
there_type n {t = t} p e = subst (λ x. SubstitutedType (single n 0) x t) e p

there_telescope : (n : PlainObject) {c d t : PlainTelescope} → SubstitutedTelescope (single n 0) c t → c ≡ d → SubstitutedTelescope (single n 0) d t
there_telescope n {t = t} p e = subst (λ x. SubstitutedTelescope (single n 0) x t) e p

module _ (z : Setting) (none : NoImplicit z) where
  -- over equal contexts and types
  moved : (n : PlainObject) (q : List Equation) {g h : Context} {w x : List Shape} {t u : PlainType} {o v : Shape} → Gathers z g w n t o q → g ≡ h → w ≡ x → t ≡ u → o ≡ v → Gathers z h x n u v q
  moved n q {h = h} {w = w} {x = x} {t = t} {u = u} {o = o} {v = v} p a b c d =
      subst (λ y. Gathers z h x n u y q) d (subst (λ y. Gathers z h x n y o q) c (subst (λ y. Gathers z h y n t o q) b (subst (λ y. Gathers z y w n t o q) a p)))

  moved_result : (n : PlainExpression) (q : List Equation) {g h : Context} {w x : List Shape} {t u : PlainTelescope} {o v : EntryShapes} → ExpressionGathers z g w n t o q → g ≡ h → w ≡ x → t ≡ u → o ≡ v → ExpressionGathers z h x n u v q
  moved_result n q {h = h} {w = w} {x = x} {t = t} {u = u} {o = o} {v = v} p a b c d =
      subst (λ y. ExpressionGathers z h x n u y q) d (subst (λ y. ExpressionGathers z h x n y o q) c (subst (λ y. ExpressionGathers z h y n t o q) b (subst (λ y. ExpressionGathers z y w n t o q) a p)))

  moved_tuple : (g : Context) (w : List Shape) (n : PlainTuple) (q : List Equation) {t u : PlainTelescope} {o v : EntryShapes} → TupleGathers z g w n t o q → t ≡ u → o ≡ v → TupleGathers z g w n u v q
  moved_tuple g w n q {t = t} {u = u} {o = o} {v = v} p c d = subst (λ y. TupleGathers z g w n u y q) d (subst (λ y. TupleGathers z g w n y o q) c p)

  one_head : (g : Context) (w : List Shape) (x : Head) (a b : PlainType) (o v : Shape) → HeadGathers z g w x a o → HeadGathers z g w x b v → (a ≡ b) × (o ≡ v)
  one_head g w (Const c) a b o v p r = let e : a ≡ b = the_value (sym p.0 ∙ r.0) in (e, p.1 ∙ ap z.shape e ∙ sym r.1)
  one_head g w (Var i) a b o v p r = let (m, c, k, j) = p.0 in let (m', d, k', j') = r.0 in (j ∙ ap (ren_type (up (i + 1))) (at_place (slice_get g i) m m' c d k k') ∙ sym j', the_value (sym p.1 ∙ r.1))
  one_head g w (Meta k) a b o v p r = absurd (not_implicit z none k a p.0)

  no_metavariable : (g : Context) (w : List Shape) (n : PlainNeutral) (a : PlainType) (o : Shape) (q : List Equation) (k : ℕ) → NeutralGathers z g w n a o q → head_of n ≡ Meta k → ⊥
  no_metavariable g w (head_alone x) a o q k p e = no_head x e p.0
    where
      no_head : (x : Head) → x ≡ Meta k → HeadGathers z g w x a o → ⊥
      no_head (Const c) e p = cc
      no_head (Var i) e p = cc
      no_head (Meta m) e p = not_implicit z none m a p.0
  no_metavariable g w (app m r n) a o q k p e = let (b, c, d, x, p1, p2, y, l, i, j) = application_gathers_parts p in no_metavariable g w r (function m b c) (at_function d x o) p1 k y e
  no_metavariable g w (fst r) a o q k p e = no_metavariable g w r (both a p.0) (at_both o p.1) q k p.2 e
  no_metavariable g w (snd r) a o q k p e = no_metavariable g w r (both p.0 a) (at_both p.1 o) q k p.2 e

  mutual
    pub one_object : (n : PlainObject) (g : Context) (w : List Shape) (t : PlainType) (o : Shape) (q y : List Equation) → Gathers z g w n t o q → Gathers z g w n t o y → q ≡ y
    one_object (lam m b) g w t o q y p r = let (a, c, d, u, v, e, f, x) = lambda_gathers_parts p in let (a', c', d', u', v', e', f', x') = lambda_gathers_parts r in
        let (i, j) = function_parts (sym e' ∙ e) in let (k, l, k') = shape_parts (sym f' ∙ f) in
        one_object b ((m, a) ∷ g) (u ∷ w) c v q y x (moved b y x' (ap (λ h. (m, h) ∷ g) i) (ap (λ h. h ∷ w) l) j k')
    one_object (pair l r) g w t o q y p x = let (a, c, u, v, p1, p2, e, f, x1, x2, j) = pair_gathers_parts p in let (a', c', u', v', q1, q2, e', f', y1, y2, j') = pair_gathers_parts x in
        let (i, k) = both_parts (sym e' ∙ e) in let (i', k') = pair_shapes (sym f' ∙ f) in
        j ∙ appended (one_object l g w a u p1 q1 x1 (moved l q1 y1 refl refl i i')) (one_object r g w c v p2 q2 x2 (moved r q2 y2 refl refl k k')) ∙ sym j'
    one_object unit g w t o q y p r = p.1 ∙ sym r.1
    one_object (monadic e) g w t o q y p r = let (s, v, i, j, x) = monadic_gathers_parts p in let (s', v', i', j', x') = monadic_gathers_parts r in one_result e g w s v q y x (moved_result e y x' refl refl (monad_part (sym i' ∙ i)) (monad_shape (sym j' ∙ j)))
    one_object (atomic n) g w t o q y p r = ⊎_elim
        (λ p. ⊎_elim
        (λ r. let (f, ns, os, ts, u, p1, p2, e, x, i, j, k) = leaf_gathers_parts p in let (f', ns', os', ts', u', q1, q2, e', x', i', j', k') = leaf_gathers_parts r in
        let (a, b, c) = one_neutral n g w (family f os) (family f' os') u u' p1 q1 x x' in let (h, l) = family_parts a in
        k ∙ appended c (one_list (simple_locals g) (simple_locals g) ts ts' os os' ns ns' p2 q2 j j' refl (the_value (sym i ∙ ap z.arguments h ∙ i')) l ((family_parts (sym e ∙ e')).1)) ∙ sym k')
        (λ r. let (f, ns, os, ts, u, p1, p2, e, x, i, j, k) = leaf_gathers_parts p in let r = filled z none r in absurd (no_metavariable g w n (family f os) u p1 r.number x r.head)) r)
        (λ p. ⊎_elim
        (λ r. let (f, ns, os, ts, u, p1, p2, e, x, i, j, k) = leaf_gathers_parts r in let p = filled z none p in absurd (no_metavariable g w n (family f os) u p1 p.number x p.head))
        (λ r. (filled z none p).equations ∙ sym (filled z none r).equations) r) p
    one_object hole g w t o q y p r = p ∙ sym r

    pub one_neutral : (n : PlainNeutral) (g : Context) (w : List Shape) (a b : PlainType) (o v : Shape) (q y : List Equation) → NeutralGathers z g w n a o q → NeutralGathers z g w n b v y → (a ≡ b) × (o ≡ v) × (q ≡ y)
    one_neutral (head_alone x) g w a b o v q y p r = let (e, f) = one_head g w x a b o v p.0 r.0 in (e, f, p.1 ∙ sym r.1)
    one_neutral (app m r n) g w a b o v q y p x = let (d, c, l, u, p1, p2, x1, x2, x3, x4) = application_gathers_parts p in let (d', c', l', u', q1, q2, y1, y2, y3, y4) = application_gathers_parts x in
        let (e, f, j) = one_neutral r g w (function m d c) (function m d' c') (at_function l u o) (at_function l' u' v) p1 q1 x1 y1 in
        let (i, k) = function_parts e in let (i', k', k2) = shape_parts f in (
          determined_type x3 (there_type n y3 (sym k)),
          k2,
          x4 ∙ appended j (⊎_elim
              (λ p. ⊎_elim (λ r. p.2 ∙ sym r.2) (λ r. absurd (not_both p.0 (i' ∙ r.0))) y2)
              (λ p. ⊎_elim (λ r. absurd (not_both r.0 (sym i' ∙ p.0))) (λ r. one_object n g w d u p2 q2 p.1 (moved n q2 r.1 refl refl (sym i) (sym k'))) y2) x2) ∙ sym y4,
        )
    one_neutral (fst r) g w a b o v q y p x = let (e, f, j) = one_neutral r g w (both a p.0) (both b x.0) (at_both o p.1) (at_both v x.1) q y p.2 x.2 in ((both_parts e).0, (pair_shapes f).0, j)
    one_neutral (snd r) g w a b o v q y p x = let (e, f, j) = one_neutral r g w (both p.0 a) (both x.0 b) (at_both p.1 o) (at_both x.1 v) q y p.2 x.2 in ((both_parts e).1, (pair_shapes f).1, j)

    pub one_result : (n : PlainExpression) (g : Context) (w : List Shape) (t : PlainTelescope) (o : EntryShapes) (q y : List Equation) → ExpressionGathers z g w n t o q → ExpressionGathers z g w n t o y → q ≡ y
    one_result (step ms r e) g w t o q y p x = let (s, v, p1, p2, x1, x2, x3, x4) = step_gathers_parts p in let (s', v', q1, q2, y1, y2, y3, y4) = step_gathers_parts x in
        let (i, j, k) = one_neutral r g w (monad s) (monad s') (at_monad v) (at_monad v') p1 q1 x1 y1 in
        x4 ∙ appended k (one_result e (with_entries s g) (with_shapes v w) (ren_telescope (up (length ms)) t) o p2 q2 x3
        (moved_result e q2 y3 (ap (λ h. with_entries h g) (sym (monad_part i))) (ap (λ h. with_shapes h w) (sym (monad_shape j))) refl refl)) ∙ sym y4
    one_result (done x) g w t o q y p r = one_tuple x g w t o q y p r

    pub one_tuple : (n : PlainTuple) (g : Context) (w : List Shape) (t : PlainTelescope) (o : EntryShapes) (q y : List Equation) → TupleGathers z g w n t o q → TupleGathers z g w n t o y → q ≡ y
    one_tuple empty g w t o q y p r = p.1 ∙ sym r.1
    one_tuple (entry m n e) g w t o q y p r = let (a, b, c, d, u, v, p1, p2, i, j, x1, x2, x3, x4) = entry_gathers_parts p in let (a', b', c', d', u', v', q1, q2, i', j', y1, y2, y3, y4) = entry_gathers_parts r in
        let (k, l) = binding_parts (sym i' ∙ i) in let (k1, k2, k3) = entry_shapes (sym j' ∙ j) in
        x4 ∙ appended (⊎_elim
        (λ p. ⊎_elim (λ r. p.2 ∙ sym r.2) (λ r. absurd (not_both p.0 (sym k1 ∙ r.0))) y1)
        (λ p. ⊎_elim (λ r. absurd (not_both r.0 (k1 ∙ p.0))) (λ r. one_object n g w a u p1 q1 p.1 (moved n q1 r.1 refl refl k k2)) y1) x1)
        (one_tuple e g w c v p2 q2 x3 (moved_tuple g w e q2 y3 (determined_telescope (there_telescope n y2 l) x2) k3)) ∙ sym y4
