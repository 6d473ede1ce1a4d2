-- Of an instance of an object the instances of its equations are gathered.
use Rattle.std.proofs.Common.{ap, inl, inr, subst, sym, ⊎_elim, ◌∙◌}
use Rattle.std.specs.List.{slice_get}
use Rattle.std.specs.Prelude.{Bool, List, Some, [], false, length, refl, suc, true, zero, ℕ, ◌++◌, ◌+◌, ◌∷◌, ◌≡◌, ◌⊎◌}
use Rattle.clf_syntax.specs.Renaming.{ren_telescope, ren_type, up}
use Rattle.clf_syntax.specs.Simple.{Assignment, SimplyFormed, SimplyFormedContext, SimplyFormedTelescope, SimplyTyped, SimplyTypedExpression, SimplyTypedNeutral, SimplyTypedTuple, erase, erase_telescope, extended, extended_by, extended_over}
use Rattle.clf_syntax.specs.Tree.{PlainExpression, PlainNeutral, PlainObject, PlainTuple, app, atomic, done, empty, entry, fst, head_alone, hole, lam, monadic, pair, snd, step, unit}
use Rattle.clf_syntax.specs.TypeTree.{PlainTelescope, PlainType, SimpleTelescope, SimpleType, arrow, binding, both, end, family, function, monad, top}
use Rattle.clf_syntax.specs.declared.tree.Head.{Head}
use Rattle.clf_syntax.specs.declared.tree.Head.TheVariants.{Const, Meta, Var}
use Rattle.clf_syntax.specs.declared.tree.Mode.{Mode}
use Rattle.use_contexts.specs.Context.{Context, HasVariable, telescope_modes, with_entries}
use Rattle.hered_subst.proofs.TypedResults.{result_is_typed}
use Rattle.hered_subst.specs.Substitution.{Environment, HasValue, Image, KeepsHead, Substituted, SubstitutedEach, SubstitutedExpression, SubstitutedTelescope, SubstitutedTuple, SubstitutedType, each_next, each_none, in_binding, in_both, in_end, in_family, in_function, in_monad, in_top, keep, kept_app, kept_bare, kept_fst, kept_snd, put, step_kept, step_meta, step_value, through_done, through_empty, through_entry, through_hole, through_kept, through_lam, through_monadic, through_pair, through_unit, through_value, under}
use Rattle.hered_subst.specs.TypedEnvironments.{TypedEnvironment}
use Rattle.subst_laws.proofs.Environs.{under_sum}
use Rattle.subst_laws.proofs.Renamed.{erase_renamed_telescope}
use Rattle.pattern_laws.specs.Equations.{Equation, Locals}
use Rattle.typing_laws.proofs.Erased.{entered, erased_modes, put_type}
use Rattle.gathering.proofs.Formed.{formed_entries, formed_past, head_formed, instance_entries, under_entries}
use Rattle.gathering.proofs.Heads.{filled, next_number, not_implicit, variable_first, variable_next}
use Rattle.gathering.proofs.Inverted.{same_length}
use Rattle.gathering.proofs.Parts.{application_gathers_parts, entry_gathers_parts, lambda_gathers_parts, leaf_gathers_parts, monadic_gathers_parts, pair_gathers_parts, step_gathers_parts, to_application_gathers, to_entry_gathers, to_lambda_gathers, to_leaf_gathers, to_monadic_gathers, to_pair_gathers, to_step_gathers}
use Rattle.gathering.proofs.Puts.{formed_put, formed_put_telescope, keeps_at, put_there, put_there_telescope}
use Rattle.gathering.proofs.Solving.{head_type}
use Rattle.gathering.proofs.Spending.{KeepsHeads, keeps_heads, no_value}
use Rattle.gathering.proofs.Unders.{past_telescope, past_type}
use Rattle.gathering.specs.Becoming.{BecomeEach, SameHeads}
use Rattle.gathering.specs.Complete.{ExpressionHasNoHole, HasNoHole, NeutralHasNoHole, TupleHasNoHole}
use Rattle.gathering.specs.Gather.{ExpressionGathers, Gathers, HeadGathers, NeutralGathers, TupleGathers}
use Rattle.gathering.specs.Instances.{FormedSetting, InstanceContext}
use Rattle.gathering.specs.Laws.{GatheringIsKept}
use Rattle.gathering.specs.Setting.{NoImplicit, Pairs, Setting, simple_locals}
use Rattle.gathering.specs.Shape.{EntryShapes, Shape, at_both, at_function, at_monad, with_shapes}

keep_not_put : {i : Image} {j : Head} {n : PlainObject} → i ≡ keep j → i ≡ put n → ⊥
keep_not_put e f = cc

kept_head : {i : Image} {j k : Head} → i ≡ keep j → i ≡ keep k → k ≡ j
kept_head e f = cc

no_fill : {d : Bool} → d ≡ false → d ≡ true → ⊥
no_fill e f = cc

kept_modes : {s : Environment} {t u : PlainTelescope} → SubstitutedTelescope s t u → telescope_modes u ≡ telescope_modes t
kept_modes in_end = refl
kept_modes (in_binding {m = m} p q) = ap (λ l. m ∷ l) (kept_modes q)

of_function : {s : Environment} {m : Mode} {a c y : PlainType} → SubstitutedType s (function m a c) y → (b d : PlainType) × (y ≡ function m b d) × SubstitutedType s a b × SubstitutedType (under 1 s) c d
of_function (in_function {x = x} {y = y} p q) = (x, y, refl, p, q)

of_both : {s : Environment} {a c y : PlainType} → SubstitutedType s (both a c) y → (b d : PlainType) × (y ≡ both b d) × SubstitutedType s a b × SubstitutedType s c d
of_both (in_both {x = x} {y = y} p q) = (x, y, refl, p, q)

of_top : {s : Environment} {y : PlainType} → SubstitutedType s top y → y ≡ top
of_top in_top = refl

of_monad : {s : Environment} {t : PlainTelescope} {y : PlainType} → SubstitutedType s (monad t) y → (u : PlainTelescope) × (y ≡ monad u) × SubstitutedTelescope s t u
of_monad (in_monad {u = u} p) = (u, refl, p)

of_family : {s : Environment} {f : ℕ} {ns : List PlainObject} {y : PlainType} → SubstitutedType s (family f ns) y → (xs : List PlainObject) × (y ≡ family f xs) × SubstitutedEach s ns xs
of_family (in_family {xs = xs} p) = (xs, refl, p)

of_end : {s : Environment} {y : PlainTelescope} → SubstitutedTelescope s end y → y ≡ end
of_end in_end = refl

of_binding : {s : Environment} {m : Mode} {a : PlainType} {t y : PlainTelescope} → SubstitutedTelescope s (binding m a t) y → (b : PlainType) × (u : PlainTelescope) × (y ≡ binding m b u) × SubstitutedType s a b × SubstitutedTelescope (under 1 s) t u
of_binding (in_binding {x = x} {u = u} p q) = (x, u, refl, p, q)

heads_of : {s : Environment} {o : PlainObject} {os xs : List PlainObject} → SubstitutedEach s (o ∷ os) xs → (y : PlainObject) × (ys : List PlainObject) × (xs ≡ y ∷ ys) × Substituted s o y × SubstitutedEach s os ys
heads_of (each_next {x = x} {xs = xs} p q) = (x, xs, refl, p, q)

none_of : {s : Environment} {xs : List PlainObject} → SubstitutedEach s [] xs → xs ≡ []
none_of each_none = refl

become_both : (s : Environment) (p q x y : List Equation) → BecomeEach s p x → BecomeEach s q y → BecomeEach s (p ++ q) (x ++ y)
become_both s [] q [] y a b = b
become_both s [] q (f ∷ x) y a b = absurd a
become_both s (e ∷ p) q [] y a b = absurd a
become_both s (e ∷ p) q (f ∷ x) y a b = (a.0, become_both s p q x y a.1 b)

-- the pairs of lists that have the substitution
pairs_become : (s : Environment) (l k : Locals) → l ≡ k → (ts : List SimpleType) (os ns xs ys : List PlainObject) (q : List Equation) → Pairs l ts os ns q → SubstitutedEach (under (length l) s) os xs → SubstitutedEach (under (length l) s) ns ys
    → (p : List Equation) × Pairs k ts xs ys p × BecomeEach s q p
pairs_become s l k e [] [] [] xs ys q p a b = ([], subst (λ v. Pairs k [] v ys []) (sym (none_of a)) (subst (λ v. Pairs k [] [] v []) (sym (none_of b)) refl), subst (λ v. BecomeEach s v []) (sym p) tt)
pairs_become s l k e (t ∷ ts) (o ∷ os) (n ∷ ns) xs ys q p a b =
    let (x, xs', i, c, c') = heads_of a in let (y, ys', j, d, d') = heads_of b in let (q', r, f) = pairs_become s l k e ts os ns xs' ys' p.0 p.2 c' d' in (
      record { locals = k; left = x; right = y; type = t } ∷ q',
      subst (λ v. Pairs k (t ∷ ts) v ys (record { locals = k; left = x; right = y; type = t } ∷ q')) (sym i) (subst (λ v. Pairs k (t ∷ ts) (x ∷ xs') v (record { locals = k; left = x; right = y; type = t } ∷ q')) (sym j) (q', refl, r)),
      subst (λ v. BecomeEach s v (record { locals = k; left = x; right = y; type = t } ∷ q')) (sym p.1) (record { locals = e; type = refl; left = c; right = d }, f),
    )
pairs_become s l k e [] (o ∷ os) ns xs ys q p a b = absurd p
pairs_become s l k e [] [] (n ∷ ns) xs ys q p a b = absurd p
pairs_become s l k e (t ∷ ts) [] ns xs ys q p a b = absurd p
pairs_become s l k e (t ∷ ts) (o ∷ os) [] xs ys q p a b = absurd p

conses : {A : Type 0} {a b : A} {x y : List A} → a ≡ b → x ≡ y → a ∷ x ≡ b ∷ y
conses e f = cc

same_entry : (m n : Mode) (a b : PlainType) → m ≡ n → erase b ≡ erase a → let e : Mode × SimpleType = (m, erase a) in let f : Mode × SimpleType = (n, erase b) in e ≡ f
same_entry m n a b e f = cc

pub same_locals : (s : Environment) (g h : Context) → InstanceContext s [] g h → simple_locals g ≡ simple_locals h
same_locals s [] h p = ap simple_locals (sym p)
same_locals s (e ∷ g) [] p = absurd p
same_locals s (e ∷ g) (d ∷ h) p = conses (same_entry e.0 d.0 e.1 d.1 p.0 (put_type p.1)) (same_locals s g h p.2)

pub same_over : (s : Environment) (b : Assignment) (g h : Context) → InstanceContext s [] g h → extended_over g b ≡ extended_over h b
same_over s b [] h p = ap (λ (x : Context). extended_over x b) (sym p)
same_over s b (e ∷ g) [] p = absurd p
same_over s b (e ∷ g) (d ∷ h) p = ap (λ t. extended t (extended_over g b)) (sym (put_type p.1)) ∙ ap (extended (erase d.1)) (same_over s b g h p.2)

nothing_there : {A : Type 0} (i : ℕ) {x : Mode × PlainType} → slice_get [] i ≡ Some x → A
nothing_there i k = absurd (none i k)
  where
    none : (i : ℕ) {x : Mode × PlainType} → slice_get [] i ≡ Some x → ⊥
    none i k = cc

variable_becomes : (s : Environment) (g h : Context) → InstanceContext s [] g h → (i : ℕ) (a : PlainType) → HasVariable g i a → (b : PlainType) × HasVariable h i b × SubstitutedType (under (length g) s) a b
variable_becomes s [] h p i a q = nothing_there i q.2
variable_becomes s (e ∷ g) [] p i a q = absurd p
variable_becomes s (e ∷ g) (d ∷ h) p zero a q = (
  ren_type (up 1) d.1,
  (d.0, d.1, refl, refl),
  subst (λ (u : Environment). SubstitutedType u a (ren_type (up 1) d.1)) (under_sum (length g) s)
      (subst (λ (x : PlainType). SubstitutedType (under 1 (under (length g) s)) x (ren_type (up 1) d.1)) (sym (variable_first e g a q)) (past_type 1 (under (length g) s) p.1)),
)
variable_becomes s (e ∷ g) (d ∷ h) p (suc i) a q = let (a', k, l) = variable_next e g i a q in let (b, (m, c, x, j), f) = variable_becomes s g h p.2 i a' k in (
  ren_type (up (suc i + 1)) c,
  (m, c, x, refl),
  subst (λ (u : Environment). SubstitutedType u a (ren_type (up (suc i + 1)) c)) (under_sum (length g) s)
      (subst (λ (x : PlainType). SubstitutedType (under 1 (under (length g) s)) x (ren_type (up (suc i + 1)) c)) (sym l)
      (subst (λ (y : PlainType). SubstitutedType (under 1 (under (length g) s)) (ren_type (up 1) a') y) (sym (next_number i c ∙ ap (ren_type (up 1)) (sym j))) (past_type 1 (under (length g) s) f))),
)

closed_past : (s : Environment) (n : ℕ) (a : PlainType) → ((r : ℕ → ℕ) → ren_type r a ≡ a) → SubstitutedType s a a → SubstitutedType (under n s) a a
closed_past s n a c p = subst (λ (x : PlainType). SubstitutedType (under n s) x a) (c (up n)) (subst (λ (x : PlainType). SubstitutedType (under n s) (ren_type (up n) a) x) (c (up n)) (past_type n s p))

module _ (z y : Setting) (s : Environment) (same : SameHeads z y s) (formed : FormedSetting z) (none : NoImplicit z) where
  abbrev zf : Assignment
  zf = y.simple

  keeps : TypedEnvironment true z.simple y.simple s
  keeps = same.typed

  abbrev Z : Context → Assignment
  Z g = extended_over g z.simple

  abbrev S : Context → Environment
  S g = under (length g) s

  keeps_all : (g : Context) → KeepsHeads [] z none g (S g)
  keeps_all g = keeps_heads [] z s none (λ c a e. (same.kept c a e).0) g

  none_put : (n : PlainNeutral) (g : Context) (w : List Shape) (a : PlainType) (o : Shape) (q : List Equation) {x : PlainObject} → NeutralGathers z g w n a o q → HasValue (S g) n x → ⊥
  none_put n g w a o q p v = no_value [] z none s [] keeps_all n g w a o q refl p v

  head_becomes : (g h : Context) (w : List Shape) (x : Head) (a : PlainType) (o : Shape) → InstanceContext s [] g h → HeadGathers z g w x a o → (b : PlainType) × HeadGathers y h w x b o × SubstitutedType (S g) a b
  head_becomes g h w (Const c) a o i p = (a, (ap (λ f. f c) (sym same.given) ∙ p.0, p.1 ∙ ap (λ f. f a) same.shape), closed_past s (length g) a ((formed c a p.0).closed) ((same.kept c a p.0).1))
  head_becomes g h w (Var v) a o i p = let (b, k, l) = variable_becomes s g h i v a p.0 in (b, (k, p.1), l)
  head_becomes g h w (Meta m) a o i p = absurd (not_implicit z none m a p.0)

  typed_there : (g h : Context) → InstanceContext s [] g h → (n x : PlainObject) (a b : PlainType) → SimplyTyped (Z g) n (erase a) → Substituted (S g) n x → SubstitutedType (S g) a b → SimplyTyped (extended_over h y.simple) x (erase b)
  typed_there g h i n x a b p r c = subst (λ (v : Assignment). SimplyTyped v x (erase b)) (same_over s y.simple g h i) (subst (λ (t : SimpleType). SimplyTyped (extended_over g y.simple) x t) (sym (put_type c))
      ((result_is_typed true z.arguments (Z g) (extended_over g y.simple) (S g) (keeps_at z zf s keeps g)).object n x (erase a) p r))

  abbrev Argument : Setting → Context → List Shape → Bool → PlainObject → PlainType → Shape → List Equation → Type 0
  Argument z g w d n a u y = ((d ≡ true) × SimplyTyped (extended_over g z.simple) n (erase a) × (y ≡ [])) ⊎ ((d ≡ false) × Gathers z g w n a u y)

  argument : (n x : PlainObject) (g h : Context) (w : List Shape) (a b : PlainType) (d : Bool) (u : Shape) (q : List Equation) → InstanceContext s [] g h → Substituted (S g) n x → SubstitutedType (S g) a b
      → (Gathers z g w n a u q → (p : List Equation) × Gathers y h w x b u p × BecomeEach s q p × SimplyTyped (Z g) n (erase a))
      → Argument z g w d n a u q → (p : List Equation) × Argument y h w d x b u p × BecomeEach s q p × SimplyTyped (Z g) n (erase a)
  argument n x g h w a b d u q i r c f p = ⊎_elim
      (λ p. ([], inl (p.0, typed_there g h i n x a b p.1 r c, refl), subst (λ v. BecomeEach s v []) (sym p.2) tt, p.1))
      (λ p. let (q', k, l, m) = f p.1 in (q', inr (p.0, k), l, m)) p

  mutual
    pub becomes_object : (o : PlainObject) (g h : Context) (w : List Shape) (t u : PlainType) (v : Shape) (q : List Equation) {x : PlainObject}
        → InstanceContext s [] g h → SimplyFormedContext z.arguments z.simple g → HasNoHole o → Gathers z g w o t v q → Substituted (S g) o x → SubstitutedType (S g) t u → SimplyFormed z.arguments (Z g) t
        → (p : List Equation) × Gathers y h w x u v p × BecomeEach s q p × SimplyTyped (Z g) o (erase t)
    becomes_object (lam m b) g h w t u v q i f k p (through_lam {x = x} r) c d =
        let (a, e, n, a', e', j, l, p') = lambda_gathers_parts p in let d' = subst (λ (y : PlainType). SimplyFormed z.arguments (Z g) y) j d in
        let (b1, b2, j', c1, c2) = of_function (subst (λ (y : PlainType). SubstitutedType (S g) y u) j c) in
        let (q', r1, r2, r3) = becomes_object b ((m, a) ∷ g) ((m, b1) ∷ h) (a' ∷ w) e b2 e' q (refl, c1, i) (d'.0, f) k p' (subst (λ (u : Environment). Substituted u b x) (under_sum (length g) s) r)
        (subst (λ (u : Environment). SubstitutedType u e b2) (under_sum (length g) s) c2) d'.1 in
        (q', to_lambda_gathers (b1, b2, n, a', e', j', l, r1), r2, (erase a, erase e, ap erase j, r3))
    becomes_object (pair l r) g h w t u v q i f k p (through_pair {x = x} {y = x'} a b) c d =
        let (e, e', n, n', q1, q2, j, j', p1, p2, m) = pair_gathers_parts p in let d' = subst (λ (y : PlainType). SimplyFormed z.arguments (Z g) y) j d in
        let (b1, b2, j1, c1, c2) = of_both (subst (λ (y : PlainType). SubstitutedType (S g) y u) j c) in
        let (q3, r1, r2, r3) = becomes_object l g h w e b1 n q1 i f k.0 p1 a c1 d'.0 in let (q4, r4, r5, r6) = becomes_object r g h w e' b2 n' q2 i f k.1 p2 b c2 d'.1 in
        (q3 ++ q4, to_pair_gathers (b1, b2, n, n', q3, q4, j1, j', r1, r4, refl), subst (λ l. BecomeEach s l (q3 ++ q4)) (sym m) (become_both s q1 q2 q3 q4 r2 r5), (erase e, erase e', ap erase j, r3, r6))
    becomes_object unit g h w t u v q i f k p through_unit c d = ([], (of_top (subst (λ (y : PlainType). SubstitutedType (S g) y u) p.0 c), refl), subst (λ l. BecomeEach s l []) (sym p.1) tt, ap erase p.0)
    becomes_object (monadic e) g h w t u v q i f k p (through_monadic r) c d =
        let (a, n, j, j', p') = monadic_gathers_parts p in let d' = subst (λ (y : PlainType). SimplyFormed z.arguments (Z g) y) j d in let (b, j1, c1) = of_monad (subst (λ (y : PlainType). SubstitutedType (S g) y u) j c) in
        let (q', r1, r2, r3) = becomes_result e g h w a b n q i f k p' r c1 d' in (q', to_monadic_gathers (b, n, j1, j', r1), r2, (erase_telescope a, ap erase j, r3))
    becomes_object (atomic n) g h w t u v q i f k p (through_kept {x = x} r) c d = ⊎_elim
        (λ p. let (a, ns, os, ts, o, q1, q2, j, p1, e, p2, m) = leaf_gathers_parts p in let (ns', j', c') = of_family (subst (λ (y : PlainType). SubstitutedType (S g) y u) j c) in
        let (b, q3, r1, r2, r3, r4, r5) = becomes_neutral n g h w (family a os) o q1 i f k p1 r in let (os', j1, c1) = of_family r2 in
        let (q4, r6, r7) = pairs_become s (simple_locals g) (simple_locals h) (same_locals s g h i) ts os ns os' ns' q2 p2
        (subst (λ (l : ℕ). SubstitutedEach (under l s) os os') (sym (same_length g)) c1) (subst (λ (l : ℕ). SubstitutedEach (under l s) ns ns') (sym (same_length g)) c') in (
          q3 ++ q4,
          inl (to_leaf_gathers (a, ns', os', ts, o, q3, q4, j', subst (λ (l : PlainType). NeutralGathers y h w x l o q3) j1 r1, ap (λ f. f a) (sym same.arguments) ∙ e, r6, refl)),
          subst (λ l. BecomeEach s l (q3 ++ q4)) (sym m) (become_both s q1 q2 q3 q4 r3 r7),
          subst (λ (b : SimpleType). SimplyTyped (Z g) (atomic n) b) (sym (ap erase j)) (inl (a, refl), r4),
        ))
        (λ p. absurd (no_fill same.fills (filled z none p).fills)) p
    becomes_object (atomic n) g h w t u v q i f k p (through_value r) c d = ⊎_elim
        (λ p. let (a, ns, os, ts, o, q1, q2, j, p1, e, p2, m) = leaf_gathers_parts p in absurd (none_put n g w (family a os) o q1 p1 r))
        (λ p. absurd (no_fill same.fills (filled z none p).fills)) p
    becomes_object hole g h w t u v q i f k p through_hole c d = absurd k

    pub becomes_neutral : (n : PlainNeutral) (g h : Context) (w : List Shape) (a : PlainType) (o : Shape) (q : List Equation) {x : PlainNeutral}
        → InstanceContext s [] g h → SimplyFormedContext z.arguments z.simple g → NeutralHasNoHole n → NeutralGathers z g w n a o q → KeepsHead (S g) n x
        → (b : PlainType) × (p : List Equation) × NeutralGathers y h w x b o p × SubstitutedType (S g) a b × BecomeEach s q p × SimplyTypedNeutral (Z g) n (erase a) × SimplyFormed z.arguments (Z g) a
    becomes_neutral (head_alone v) g h w a o q i f k p (kept_bare {j = j} e) =
        let (b, l, c) = head_becomes g h w v a o i p.0 in
        let (m, n) = head_formed z formed none g f v a (head_type z g w v a o p.0) in
        (b, [], (subst (λ (l : Head). HeadGathers y h w l b o) (kept_head e (keeps_all g w v a o p.0)) l, refl), c, subst (λ l. BecomeEach s l []) (sym p.1) tt, n, m)
    becomes_neutral (app m r n) g h w a o q i f k p (kept_app {x = x} {y = x'} e e') =
        let (d, c, l, u, q1, q2, p1, p2, p3, p4) = application_gathers_parts p in
        let (b, q3, r1, r2, r3, r4, r5) = becomes_neutral r g h w (function m d c) (at_function l u o) q1 i f k.0 p1 e in
        let (d', c', j, x1, x2) = of_function r2 in
        let (q4, r6, r7, r8) = argument n x' g h w d d' l u q2 i e' x1 (λ p'. becomes_object n g h w d d' u q2 i f k.1 p' e' x1 r5.0) p2 in
        let (f1, f2) = formed_put z g n (erase d) r8 c a r5.1 p3 in
        let (t, y1, y2) = put_there z zf s keeps g n x' (erase d) r8 e' c a c' r5.1 p3 x2 in (
          t,
          q3 ++ q4,
          to_application_gathers (d', c', l, u, q3, q4, subst (λ (l' : PlainType). NeutralGathers y h w x l' (at_function l u o) q3) j r1, r6, y1, refl),
          y2,
          subst (λ l. BecomeEach s l (q3 ++ q4)) (sym p4) (become_both s q1 q2 q3 q4 r3 r7),
          (erase d, subst (λ (v : SimpleType). SimplyTypedNeutral (Z g) r (arrow m (erase d) v)) (sym f2) r4, r8),
          f1,
        )
    becomes_neutral (fst r) g h w a o q i f k p (kept_fst {x = x} e) =
        let (b, q', r1, r2, r3, r4, r5) = becomes_neutral r g h w (both a p.0) (at_both o p.1) q i f k p.2 e in let (b1, b2, j, x1, x2) = of_both r2 in
        (b1, q', (b2, p.1, subst (λ (l : PlainType). NeutralGathers y h w x l (at_both o p.1) q') j r1), x1, r3, (erase p.0, r4), r5.0)
    becomes_neutral (snd r) g h w a o q i f k p (kept_snd {x = x} e) =
        let (b, q', r1, r2, r3, r4, r5) = becomes_neutral r g h w (both p.0 a) (at_both p.1 o) q i f k p.2 e in let (b1, b2, j, x1, x2) = of_both r2 in
        (b2, q', (b1, p.1, subst (λ (l : PlainType). NeutralGathers y h w x l (at_both p.1 o) q') j r1), x2, r3, (erase p.0, r4), r5.1)

    pub becomes_result : (e : PlainExpression) (g h : Context) (w : List Shape) (t u : PlainTelescope) (v : EntryShapes) (q : List Equation) {x : PlainExpression}
        → InstanceContext s [] g h → SimplyFormedContext z.arguments z.simple g → ExpressionHasNoHole e → ExpressionGathers z g w e t v q → SubstitutedExpression (S g) e x → SubstitutedTelescope (S g) t u → SimplyFormedTelescope z.arguments (Z g) t
        → (p : List Equation) × ExpressionGathers y h w x u v p × BecomeEach s q p × SimplyTypedExpression (Z g) e (erase_telescope t)
    becomes_result (step ms r e) g h w t u v q i f k p (step_kept {x = x} {f = x'} a b) c d =
        let (a', n, q1, q2, p1, p2, p3, p4) = step_gathers_parts p in
        let (b0, q3, r1, r2, r3, r4, r5) = becomes_neutral r g h w (monad a') (at_monad n) q1 i f k.0 p1 a in
        let (b', j, m) = of_monad r2 in
        let deeper = ap (λ (l : List Mode). under (length l) (S g)) (sym p2) ∙ under_entries a' g s in
        let (q4, r6, r7, r8) = becomes_result e (with_entries a' g) (with_entries b' h) (with_shapes n w) (ren_telescope (up (length ms)) t) (ren_telescope (up (length ms)) u) v q2
        (instance_entries s [] m g h refl i) (formed_entries z.arguments z.simple a' g r5 f) k.1 p3
        (subst (λ (l : Environment). SubstitutedExpression l e x') deeper b)
        (subst (λ (l : Environment). SubstitutedTelescope l (ren_telescope (up (length ms)) t) (ren_telescope (up (length ms)) u)) deeper (past_telescope (length ms) (S g) c))
        (formed_past z g a' t ms p2 d) in (
          q3 ++ q4,
          to_step_gathers (b', n, q3, q4, subst (λ (l : PlainType). NeutralGathers y h w x l (at_monad n) q3) j r1, kept_modes m ∙ p2, r6, refl),
          subst (λ l. BecomeEach s l (q3 ++ q4)) (sym p4) (become_both s q1 q2 q3 q4 r3 r7),
          (
            erase_telescope a',
            r4,
            erased_modes a' ∙ p2,
            subst (λ (l : SimpleTelescope). SimplyTypedExpression (extended_by (erase_telescope a') (Z g)) e l) (erase_renamed_telescope (up (length ms)) t)
                (subst (λ (l : Assignment). SimplyTypedExpression l e (erase_telescope (ren_telescope (up (length ms)) t))) (entered z.simple a' g) r8),
          ),
        )
    becomes_result (step ms r e) g h w t u v q i f k p (step_value a b l) c d =
        let (a', n, q1, q2, p1, p2, p3, p4) = step_gathers_parts p in absurd (none_put r g w (monad a') (at_monad n) q1 p1 a)
    becomes_result (step ms r e) g h w t u v q i f k p (step_meta a b l) c d =
        let (a', n, q1, q2, p1, p2, p3, p4) = step_gathers_parts p in absurd (none_put r g w (monad a') (at_monad n) q1 p1 a)
    becomes_result (done x) g h w t u v q i f k p (through_done r) c d = becomes_tuple x g h w t u v q i f k p r c d

    pub becomes_tuple : (e : PlainTuple) (g h : Context) (w : List Shape) (t u : PlainTelescope) (v : EntryShapes) (q : List Equation) {x : PlainTuple}
        → InstanceContext s [] g h → SimplyFormedContext z.arguments z.simple g → TupleHasNoHole e → TupleGathers z g w e t v q → SubstitutedTuple (S g) e x → SubstitutedTelescope (S g) t u → SimplyFormedTelescope z.arguments (Z g) t
        → (p : List Equation) × TupleGathers y h w x u v p × BecomeEach s q p × SimplyTypedTuple (Z g) e (erase_telescope t)
    becomes_tuple empty g h w t u v q i f k p through_empty c d = ([], (of_end (subst (λ (y : PlainTelescope). SubstitutedTelescope (S g) y u) p.0 c), refl), subst (λ l. BecomeEach s l []) (sym p.1) tt, ap erase_telescope p.0)
    becomes_tuple (entry m n e) g h w t u v q i f k p (through_entry {x = x} r r') c d =
        let (a, b, b', l, o, n', q1, q2, j, j', p1, p2, p3, p4) = entry_gathers_parts p in let d1 = subst (λ (y : PlainTelescope). SimplyFormedTelescope z.arguments (Z g) y) j d in
        let (a', c', j1, x1, x2) = of_binding (subst (λ (y : PlainTelescope). SubstitutedTelescope (S g) y u) j c) in
        let (q3, r1, r2, r3) = argument n x g h w a a' l o q1 i r x1 (λ p'. becomes_object n g h w a a' o q1 i f k.0 p' r x1 d1.0) p1 in
        let (f1, f2) = formed_put_telescope z g n (erase a) r3 b b' d1.1 p2 in
        let (d', y1, y2) = put_there_telescope z zf s keeps g n x (erase a) r3 r b b' c' d1.1 p2 x2 in
        let (q4, r4, r5, r6) = becomes_tuple e g h w b' d' n' q2 i f k.1 p3 r' y2 f1 in (
          q3 ++ q4,
          to_entry_gathers (a', c', d', l, o, n', q3, q4, j1, j', r1, y1, r4, refl),
          subst (λ l. BecomeEach s l (q3 ++ q4)) (sym p4) (become_both s q1 q2 q3 q4 r2 r5),
          (erase a, erase_telescope b, ap erase_telescope j, r3, subst (λ (l : SimpleTelescope). SimplyTypedTuple (Z g) e l) f2 r6),
        )

pub gathering_is_kept : GatheringIsKept
gathering_is_kept z y s same formed none g h a b i w n x o q r k p =
    let (q', e1, e2, e3) = becomes_object z y s same formed none n g h w a b o q i.context i.formed_context k p r i.type i.formed in (q', e1, e2)
