-- What fits is simply typed, and something is gathered of it.
use Rattle.std.proofs.Common.{ap, inl, inr, subst, sym, ⊎_elim, ◌∙◌}
use Rattle.std.specs.Prelude.{List, None, Option, Some, [], false, length, refl, suc, true, zero, ℕ, ◌++◌, ◌+◌, ◌∷◌, ◌≡◌}
use Rattle.clf_syntax.specs.Renaming.{ren_telescope, ren_type, up}
use Rattle.clf_syntax.specs.Simple.{Assignment, SimplyFormed, SimplyFormedContext, SimplyFormedTelescope, SimplyTyped, SimplyTypedEach, SimplyTypedExpression, SimplyTypedNeutral, SimplyTypedTuple, erase, erase_telescope, extended, extended_by, extended_over, simple_modes}
use Rattle.clf_syntax.specs.Tree.{PlainExpression, PlainNeutral, PlainObject, PlainTuple, app, atomic, done, empty, entry, fst, head_alone, hole, lam, monadic, pair, snd, step, unit}
use Rattle.clf_syntax.specs.TypeTree.{PlainTelescope, PlainType, SimpleTelescope, SimpleType, arrow, base, binding, both, end, family, function, lax, monad, simple_binding, simple_end, simple_top, simple_with, top}
use Rattle.clf_syntax.specs.declared.tree.Head.{Head}
use Rattle.clf_syntax.specs.declared.tree.Head.TheVariants.{Const, Meta, Var}
use Rattle.clf_syntax.specs.declared.tree.Mode.{Mode}
use Rattle.use_contexts.specs.Context.{Context, HasVariable, telescope_modes, with_entries}
use Rattle.hered_subst.proofs.TypedEnvironments.{put_is_typed}
use Rattle.hered_subst.proofs.TypedResults.{typed_has_result}
use Rattle.hered_subst.specs.Laws.{inserted}
use Rattle.hered_subst.specs.Substitution.{SubstitutedTelescope, SubstitutedType, single}
use Rattle.subst_laws.proofs.Renamed.{erase_renamed, erase_renamed_telescope}
use Rattle.pattern_laws.specs.Equations.{Equation, Locals}
use Rattle.typing_laws.proofs.Erased.{entered, of_constant}
use Rattle.typing_laws.proofs.FormedTypes.{as_inserted}
use Rattle.gathering.proofs.Formed.{formed_entries, formed_past, head_formed}
use Rattle.gathering.proofs.Heads.{not_implicit}
use Rattle.gathering.proofs.Parts.{application_conforms_parts, entry_conforms_parts, lambda_conforms_parts, leaf_conforms_parts, monadic_conforms_parts, pair_conforms_parts, step_conforms_parts, to_application_gathers, to_entry_gathers, to_filled_in, to_lambda_gathers, to_leaf_gathers, to_monadic_gathers, to_pair_gathers, to_step_gathers}
use Rattle.gathering.specs.Conform.{Conforms, ExpressionConforms, HeadConforms, NeutralConforms, TupleConforms}
use Rattle.gathering.specs.Gather.{ExpressionGathers, Gathers, HeadGathers, NeutralGathers, TupleGathers}
use Rattle.gathering.specs.Instances.{FormedSetting}
use Rattle.gathering.specs.Setting.{NoImplicit, NoVariables, Pairs, Setting, simple_locals}
use Rattle.gathering.specs.Shape.{EntryShapes, Shape, at_both, at_function, at_monad, with_shapes}

the_value : {A : Type 0} {a b : A} → Some a ≡ Some b → a ≡ b
the_value e = cc

no_value : {A : Type 0} {a : A} (x : Option A) → x ≡ None → x ≡ Some a → ⊥
no_value x e f = cc

erased_modes : (t : PlainTelescope) → simple_modes (erase_telescope t) ≡ telescope_modes t
erased_modes end = refl
erased_modes (binding m a t) = ap (λ l. m ∷ l) (erased_modes t)

-- types, by their erasures
is_function : (m : Mode) (d c : SimpleType) (t : PlainType) → erase t ≡ arrow m d c → (a b : PlainType) × (t ≡ function m a b) × (erase a ≡ d) × (erase b ≡ c)
is_function m d c (family f ns) e = absurd (cc)
is_function m d c (function n a b) e = (a, b, again n a b e, cc, cc)
  where
    again : (n : Mode) (a b : PlainType) → arrow n (erase a) (erase b) ≡ arrow m d c → function n a b ≡ function m a b
    again n a b e = let i : n ≡ m = cc in ap (λ k. function k a b) i
is_function m d c (both a b) e = absurd (cc)
is_function m d c top e = absurd (cc)
is_function m d c (monad s) e = absurd (cc)

is_both : (d c : SimpleType) (t : PlainType) → erase t ≡ simple_with d c → (a b : PlainType) × (t ≡ both a b) × (erase a ≡ d) × (erase b ≡ c)
is_both d c (family f ns) e = absurd (cc)
is_both d c (function n a b) e = absurd (cc)
is_both d c (both a b) e = (a, b, refl, cc, cc)
is_both d c top e = absurd (cc)
is_both d c (monad s) e = absurd (cc)

is_top : (t : PlainType) → erase t ≡ simple_top → t ≡ top
is_top (family f ns) e = absurd (cc)
is_top (function n a b) e = absurd (cc)
is_top (both a b) e = absurd (cc)
is_top top e = refl
is_top (monad s) e = absurd (cc)

is_monad : (s : SimpleTelescope) (t : PlainType) → erase t ≡ lax s → (u : PlainTelescope) × (t ≡ monad u) × (erase_telescope u ≡ s)
is_monad s (family f ns) e = absurd (cc)
is_monad s (function n a b) e = absurd (cc)
is_monad s (both a b) e = absurd (cc)
is_monad s top e = absurd (cc)
is_monad s (monad u) e = (u, refl, cc)

is_family : (f : ℕ) (t : PlainType) → erase t ≡ base f → (ns : List PlainObject) × (t ≡ family f ns)
is_family f (family g ns) e = (ns, let i : g ≡ f = cc in ap (λ k. family k ns) i)
is_family f (function n a b) e = absurd (cc)
is_family f (both a b) e = absurd (cc)
is_family f top e = absurd (cc)
is_family f (monad s) e = absurd (cc)

is_end : (t : PlainTelescope) → erase_telescope t ≡ simple_end → t ≡ end
is_end end e = refl
is_end (binding m a t) e = absurd (cc)

is_binding : (m : Mode) (d : SimpleType) (c : SimpleTelescope) (t : PlainTelescope) → erase_telescope t ≡ simple_binding m d c → (a : PlainType) × (u : PlainTelescope) × (t ≡ binding m a u) × (erase a ≡ d) × (erase_telescope u ≡ c)
is_binding m d c end e = absurd (cc)
is_binding m d c (binding n a t) e = (a, t, again n a t e, cc, cc)
  where
    again : (n : Mode) (a : PlainType) (t : PlainTelescope) → simple_binding n (erase a) (erase_telescope t) ≡ simple_binding m d c → binding n a t ≡ binding m a t
    again n a t e = let i : n ≡ m = cc in ap (λ k. binding k a t) i

-- what fits is simply typed
module _ (z : Setting) where
  mutual
    pub conforms_typed : (n : PlainObject) (w : List Shape) (b : Assignment) (t : SimpleType) (o : Shape) → Conforms z w b n t o → SimplyTyped b n t
    conforms_typed (lam m n) w b t o p = let (a, c, d, u, v, e, f, x) = lambda_conforms_parts p in (a, c, e, conforms_typed n (u ∷ w) (extended a b) c v x)
    conforms_typed (pair l r) w b t o p = let (a, c, u, v, e, f, x, y) = pair_conforms_parts p in (a, c, e, conforms_typed l w b a u x, conforms_typed r w b c v y)
    conforms_typed unit w b t o p = p
    conforms_typed (monadic e) w b t o p = let (s, v, e', f, x) = monadic_conforms_parts p in (s, e', conforms_typed_result e w b s v x)
    conforms_typed (atomic n) w b t o p = ⊎_elim (λ p. (inl (p.number, p.type), conforms_typed_neutral n w b t p.found_shape p.neutral))
        (⊎_elim (λ p. p.typed) (λ p. (inr (p.number, p.entries, p.head, p.type, refl), conforms_typed_neutral n w b t p.found_shape p.neutral))) p
    conforms_typed hole w b t o p = absurd p

    pub conforms_typed_neutral : (n : PlainNeutral) (w : List Shape) (b : Assignment) (t : SimpleType) (o : Shape) → NeutralConforms z w b n t o → SimplyTypedNeutral b n t
    conforms_typed_neutral (head_alone x) w b t o p = p.0
    conforms_typed_neutral (app m r n) w b t o p = let (a, d, u, x, y) = application_conforms_parts p in (a, conforms_typed_neutral r w b (arrow m a t) (at_function d u o) x, ⊎_elim (λ p. p.1) (λ p. conforms_typed n w b a u p.1) y)
    conforms_typed_neutral (fst r) w b t o p = (p.0, conforms_typed_neutral r w b (simple_with t p.0) (at_both o p.1) p.2)
    conforms_typed_neutral (snd r) w b t o p = (p.0, conforms_typed_neutral r w b (simple_with p.0 t) (at_both p.1 o) p.2)

    pub conforms_typed_result : (n : PlainExpression) (w : List Shape) (b : Assignment) (t : SimpleTelescope) (o : EntryShapes) → ExpressionConforms z w b n t o → SimplyTypedExpression b n t
    conforms_typed_result (step ms r e) w b t o p = let (s, x, y, m, v) = step_conforms_parts p in (s, conforms_typed_neutral r w b (lax s) (at_monad x) y, m, conforms_typed_result e (with_shapes x w) (extended_by s b) t o v)
    conforms_typed_result (done x) w b t o p = conforms_typed_tuple x w b t o p

    pub conforms_typed_tuple : (n : PlainTuple) (w : List Shape) (b : Assignment) (t : SimpleTelescope) (o : EntryShapes) → TupleConforms z w b n t o → SimplyTypedTuple b n t
    conforms_typed_tuple empty w b t o p = p
    conforms_typed_tuple (entry m n e) w b t o p = let (a, c, d, u, x, i, j, y, v) = entry_conforms_parts p in (a, c, i, ⊎_elim (λ p. p.1) (λ p. conforms_typed n w b a u p.1) y, conforms_typed_tuple e w b c x v)

-- a variable with a simple type stands in the context
pub variable_there : (z : Setting) → NoVariables z → (g : Context) (i : ℕ) (t : SimpleType) → extended_over g z.simple (Var i) ≡ Some t → (a : PlainType) × HasVariable g i a × (erase a ≡ t)
variable_there z n [] i t e = absurd (no_value (z.simple (Var i)) (n i) e)
variable_there z n (e ∷ g) zero t p = (ren_type (up 1) e.1, (e.0, e.1, refl, refl), erase_renamed (up 1) e.1 ∙ the_value p)
variable_there z n (e ∷ g) (suc i) t p = let (a, (m, b, k, j), l) = variable_there z n g i t p in (ren_type (up (suc i + 1)) b, (m, b, k, refl), erase_renamed (up (suc i + 1)) b ∙ sym (ap erase j ∙ erase_renamed (up (i + 1)) b) ∙ l)

constant_there : (g : Context) (b : Assignment) (c : ℕ) → extended_over g b (Const c) ≡ b (Const c)
constant_there [] b c = refl
constant_there (e ∷ g) b c = of_constant b g c

all_pairs : (b : Assignment) (l : Locals) (ts : List SimpleType) (os ns : List PlainObject) → SimplyTypedEach b os ts → SimplyTypedEach b ns ts → (q : List Equation) × Pairs l ts os ns q
all_pairs b l [] [] [] p r = ([], refl)
all_pairs b l (t ∷ ts) (o ∷ os) (n ∷ ns) p r = let (q, x) = all_pairs b l ts os ns p.1 r.1 in (record { locals = l; left = o; right = n; type = t } ∷ q, (q, refl, x))
all_pairs b l [] (o ∷ os) ns p r = absurd p
all_pairs b l [] [] (n ∷ ns) p r = absurd r
all_pairs b l (t ∷ ts) [] ns p r = absurd p
all_pairs b l (t ∷ ts) (o ∷ os) [] p r = absurd r

module _ (z : Setting) (formed : FormedSetting z) (none : NoImplicit z) (no_variables : NoVariables z) where
  abbrev Z : Context → Assignment
  Z g = extended_over g z.simple

  put_there : (g : Context) (n : PlainObject) (a : SimpleType) → SimplyTyped (Z g) n a → (c : PlainType) → SimplyFormed z.arguments (extended a (Z g)) c → (t : PlainType) × SubstitutedType (single n 0) c t × SimplyFormed z.arguments (Z g) t × (erase t ≡ erase c)
  put_there g n a p c f = (typed_has_result true z.arguments (inserted 0 a (Z g)) (Z g) (single n 0) ((put_is_typed true (Z g)).0 0 n a p)).type c (subst (λ (b : Assignment). SimplyFormed z.arguments b c) (sym (as_inserted a (Z g))) f)

  put_there_telescope : (g : Context) (n : PlainObject) (a : SimpleType) → SimplyTyped (Z g) n a → (c : PlainTelescope) → SimplyFormedTelescope z.arguments (extended a (Z g)) c
      → (t : PlainTelescope) × SubstitutedTelescope (single n 0) c t × SimplyFormedTelescope z.arguments (Z g) t × (erase_telescope t ≡ erase_telescope c)
  put_there_telescope g n a p c f = (typed_has_result true z.arguments (inserted 0 a (Z g)) (Z g) (single n 0) ((put_is_typed true (Z g)).0 0 n a p)).telescope c (subst (λ (b : Assignment). SimplyFormedTelescope z.arguments b c) (sym (as_inserted a (Z g))) f)

  head_there : (g : Context) (w : List Shape) → SimplyFormedContext z.arguments z.simple g → (x : Head) (t : SimpleType) (o : Shape) → Z g x ≡ Some t → HeadConforms z w x o
      → (a : PlainType) × HeadGathers z g w x a o × (erase a ≡ t) × SimplyFormed z.arguments (Z g) a
  head_there g w f (Const c) t o e p = let (m, n) = head_formed z formed none g f (Const c) p.0 p.1 in (p.0, (p.1, p.2), the_value (sym n ∙ e), m)
  head_there g w f (Var i) t o e p = let (a, v, l) = variable_there z no_variables g i t e in let (m, n) = head_formed z formed none g f (Var i) a v in (a, (v, p), l, m)
  head_there g w f (Meta k) t o e p = absurd (not_implicit z none k p.0 p.1)

  mutual
    pub conforms_gathers : (n : PlainObject) (g : Context) (w : List Shape) (t : PlainType) (u : SimpleType) (o : Shape) → SimplyFormedContext z.arguments z.simple g → SimplyFormed z.arguments (Z g) t → erase t ≡ u → Conforms z w (Z g) n u o → (q : List Equation) × Gathers z g w n t o q
    conforms_gathers (lam m n) g w t u o f d k p = let (a, c, l, x, y, e, i, p') = lambda_conforms_parts p in let (a', c', j, ka, kc) = is_function m a c t (k ∙ e) in
        let d' = subst (λ (y : PlainType). SimplyFormed z.arguments (Z g) y) j d in
        let (q, r) = conforms_gathers n ((m, a') ∷ g) (x ∷ w) c' c y (d'.0, f) d'.1 kc (subst (λ (v : SimpleType). Conforms z (x ∷ w) (extended v (Z g)) n c y) (sym ka) p') in
        (q, to_lambda_gathers (a', c', l, x, y, j, i, r))
    conforms_gathers (pair l r) g w t u o f d k p = let (a, c, x, y, e, i, p1, p2) = pair_conforms_parts p in let (a', c', j, ka, kc) = is_both a c t (k ∙ e) in
        let d' = subst (λ (y : PlainType). SimplyFormed z.arguments (Z g) y) j d in
        let (q1, r1) = conforms_gathers l g w a' a x f d'.0 ka p1 in let (q2, r2) = conforms_gathers r g w c' c y f d'.1 kc p2 in
        (q1 ++ q2, to_pair_gathers (a', c', x, y, q1, q2, j, i, r1, r2, refl))
    conforms_gathers unit g w t u o f d k p = ([], (is_top t (k ∙ p), refl))
    conforms_gathers (monadic e) g w t u o f d k p = let (s, v, e', i, p') = monadic_conforms_parts p in let (s', j, ks) = is_monad s t (k ∙ e') in
        let d' = subst (λ (y : PlainType). SimplyFormed z.arguments (Z g) y) j d in
        let (q, r) = conforms_gathers_result e g w s' s v f d' ks p' in (q, to_monadic_gathers (s', v, j, i, r))
    conforms_gathers (atomic n) g w t u o f d k p = ⊎_elim
        (λ p. let (c, v, e, p') = leaf_conforms_parts p in let (a, q1, r, ka, fa) = conforms_gathers_neutral n g w u v f p' in
        let (os, j) = is_family c a (ka ∙ e) in let (ns, j') = is_family c t (k ∙ e) in
        let fo = subst (λ (y : PlainType). SimplyFormed z.arguments (Z g) y) j fa in let fn = subst (λ (y : PlainType). SimplyFormed z.arguments (Z g) y) j' d in
        let (q2, r2) = all_pairs (Z g) (simple_locals g) fo.0 os ns fo.2 (subst (λ (ts : List SimpleType). SimplyTypedEach (Z g) ns ts) (the_value (sym fn.1 ∙ fo.1)) fn.2) in
        (q1 ++ q2, inl (to_leaf_gathers (c, ns, os, fo.0, v, q1, q2, j', subst (λ (y : PlainType). NeutralGathers z g w n y v q1) j r, fo.1, r2, refl))))
        (⊎_elim (λ p. ([], inr (inl (to_filled_in (p.number, p.fills, p.head, p.not_implicit, subst (λ (v : SimpleType). SimplyTyped (Z g) (atomic n) v) (sym k) p.typed, refl)))))
        (λ p. absurd (not_implicit z none p.number p.read p.implicit))) p
    conforms_gathers hole g w t u o f d k p = absurd p

    pub conforms_gathers_neutral : (n : PlainNeutral) (g : Context) (w : List Shape) (t : SimpleType) (o : Shape) → SimplyFormedContext z.arguments z.simple g → NeutralConforms z w (Z g) n t o
        → (a : PlainType) × (q : List Equation) × NeutralGathers z g w n a o q × (erase a ≡ t) × SimplyFormed z.arguments (Z g) a
    conforms_gathers_neutral (head_alone x) g w t o f p = let (a, r, k, d) = head_there g w f x t o p.0 p.1 in (a, [], (r, refl), k, d)
    conforms_gathers_neutral (app m r n) g w t o f p = let (a, l, u, p1, p2) = application_conforms_parts p in let (b, q1, r1, k, d) = conforms_gathers_neutral r g w (arrow m a t) (at_function l u o) f p1 in
        let (b', c', j, ka, kc) = is_function m a t b k in let d' = subst (λ (y : PlainType). SimplyFormed z.arguments (Z g) y) j d in
        let r1' = subst (λ (y : PlainType). NeutralGathers z g w r y (at_function l u o) q1) j r1 in
        let typed = ⊎_elim (λ (p : (l ≡ true) × SimplyTyped (Z g) n a). p.1) (λ (p : (l ≡ false) × Conforms z w (Z g) n a u). conforms_typed z n w (Z g) a u p.1) p2 in
        let typed' = subst (λ (v : SimpleType). SimplyTyped (Z g) n v) (sym ka) typed in
        let (x, y, fx, ex) = put_there g n (erase b') typed' c' d'.1 in
        ⊎_elim (λ p. (x, q1 ++ [], to_application_gathers (b', c', l, u, q1, [], r1', inl (p.0, typed', refl), y, refl), ex ∙ kc, fx))
        (λ p. let (q2, r2) = conforms_gathers n g w b' a u f d'.0 ka p.1 in (x, q1 ++ q2, to_application_gathers (b', c', l, u, q1, q2, r1', inr (p.0, r2), y, refl), ex ∙ kc, fx)) p2
    conforms_gathers_neutral (fst r) g w t o f p = let (c, v, p') = p in let (b, q, x, k, d) = conforms_gathers_neutral r g w (simple_with t c) (at_both o v) f p' in
        let (a', c', j, ka, kc) = is_both t c b k in let d' = subst (λ (y : PlainType). SimplyFormed z.arguments (Z g) y) j d in
        (a', q, (c', v, subst (λ (y : PlainType). NeutralGathers z g w r y (at_both o v) q) j x), ka, d'.0)
    conforms_gathers_neutral (snd r) g w t o f p = let (c, v, p') = p in let (b, q, x, k, d) = conforms_gathers_neutral r g w (simple_with c t) (at_both v o) f p' in
        let (a', c', j, ka, kc) = is_both c t b k in let d' = subst (λ (y : PlainType). SimplyFormed z.arguments (Z g) y) j d in
        (c', q, (a', v, subst (λ (y : PlainType). NeutralGathers z g w r y (at_both v o) q) j x), kc, d'.1)

    pub conforms_gathers_result : (n : PlainExpression) (g : Context) (w : List Shape) (t : PlainTelescope) (u : SimpleTelescope) (o : EntryShapes) → SimplyFormedContext z.arguments z.simple g → SimplyFormedTelescope z.arguments (Z g) t → erase_telescope t ≡ u
        → ExpressionConforms z w (Z g) n u o → (q : List Equation) × ExpressionGathers z g w n t o q
    conforms_gathers_result (step ms r e) g w t u o f d k p = let (s, x, p1, m, p2) = step_conforms_parts p in let (a, q1, r1, ka, fa) = conforms_gathers_neutral r g w (lax s) (at_monad x) f p1 in
        let (s', j, ks) = is_monad s a ka in let fa' = subst (λ (y : PlainType). SimplyFormed z.arguments (Z g) y) j fa in
        let ms' = sym (erased_modes s') ∙ ap simple_modes ks ∙ m in
        let (q2, r2) = conforms_gathers_result e (with_entries s' g) (with_shapes x w) (ren_telescope (up (length ms)) t) u o (formed_entries z.arguments z.simple s' g fa' f) (formed_past z g s' t ms ms' d)
        (erase_renamed_telescope (up (length ms)) t ∙ k)
        (subst (λ (b : Assignment). ExpressionConforms z (with_shapes x w) b e u o) (sym (entered z.simple s' g ∙ ap (λ l. extended_by l (Z g)) ks)) p2) in
        (q1 ++ q2, to_step_gathers (s', x, q1, q2, subst (λ (y : PlainType). NeutralGathers z g w r y (at_monad x) q1) j r1, ms', r2, refl))
    conforms_gathers_result (done x) g w t u o f d k p = conforms_gathers_tuple x g w t u o f d k p

    pub conforms_gathers_tuple : (n : PlainTuple) (g : Context) (w : List Shape) (t : PlainTelescope) (u : SimpleTelescope) (o : EntryShapes) → SimplyFormedContext z.arguments z.simple g → SimplyFormedTelescope z.arguments (Z g) t → erase_telescope t ≡ u
        → TupleConforms z w (Z g) n u o → (q : List Equation) × TupleGathers z g w n t o q
    conforms_gathers_tuple empty g w t u o f d k p = ([], (is_end t (k ∙ p), refl))
    conforms_gathers_tuple (entry m n e) g w t u o f d k p = let (a, c, l, v, x, i, j, p1, p2) = entry_conforms_parts p in let (a', c', j', ka, kc) = is_binding m a c t (k ∙ i) in
        let d' = subst (λ (y : PlainTelescope). SimplyFormedTelescope z.arguments (Z g) y) j' d in
        let typed = ⊎_elim (λ (p : (l ≡ true) × SimplyTyped (Z g) n a). p.1) (λ (p : (l ≡ false) × Conforms z w (Z g) n a v). conforms_typed z n w (Z g) a v p.1) p1 in
        let typed' = subst (λ (v : SimpleType). SimplyTyped (Z g) n v) (sym ka) typed in
        let (b, y, fy, ey) = put_there_telescope g n (erase a') typed' c' d'.1 in
        let (q2, r2) = conforms_gathers_tuple e g w b c x f fy (ey ∙ kc) p2 in
        ⊎_elim (λ p. ([] ++ q2, to_entry_gathers (a', c', b, l, v, x, [], q2, j', j, inl (p.0, typed', refl), y, r2, refl)))
        (λ p. let (q1, r1) = conforms_gathers n g w a' a v f d'.0 ka p.1 in (q1 ++ q2, to_entry_gathers (a', c', b, l, v, x, q1, q2, j', j, inr (p.0, r1), y, r2, refl))) p1
