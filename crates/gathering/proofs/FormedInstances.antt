-- Where an instance of a type, telescope or kind is well formed, what is gathered of it is solved.
use Rattle.std.proofs.Common.{ap, subst, sym, ◌∙◌}
use Rattle.std.specs.Prelude.{List, Some, [], length, map, refl, true, ℕ, ◌+◌, ◌∷◌, ◌≡◌}
use Rattle.clf_syntax.specs.Simple.{Assignment, SimplyFormed, SimplyFormedContext, SimplyFormedKind, SimplyFormedTelescope, SimplyTypedEach, erase, extended_over}
use Rattle.clf_syntax.specs.Tree.{PlainObject}
use Rattle.clf_syntax.specs.TypeTree.{PlainKind, PlainTelescope, PlainType, binding, both, end, family, function, monad, top}
use Rattle.clf_syntax.specs.declared.tree.Mode.{Mode}
use Rattle.clf_syntax.specs.declared.tree.Mode.TheVariants.{Persistent}
use Rattle.use_contexts.specs.Context.{Context, modes}
use Rattle.use_contexts.specs.Holding.{persistent_alone}
use Rattle.clf_sig.specs.Entry.{PlainSignature}
use Rattle.hered_subst.proofs.TypedEnvironments.{put_is_typed}
use Rattle.hered_subst.proofs.TypedResults.{result_is_typed}
use Rattle.hered_subst.specs.Laws.{inserted}
use Rattle.hered_subst.specs.Substitution.{Environment, Substituted, SubstitutedEach, SubstitutedKind, SubstitutedTelescope, SubstitutedType, each_next, in_argument, in_binding, in_both, in_family, in_function, in_monad, in_no_argument, ren_image, single, under}
use Rattle.subst_laws.proofs.Environs.{under_sum}
use Rattle.subst_laws.proofs.Results.{put_commutes}
use Rattle.pattern_laws.specs.Equations.{Equation, SolvesEach}
use Rattle.clf_rules.specs.WellFormed.{IndicesHaveTypes, WellFormedKind, WellFormedTelescope, WellFormedType}
use Rattle.typing_laws.proofs.Erased.{put_type}
use Rattle.typing_laws.proofs.FormedTypes.{as_inserted}
use Rattle.gathering.proofs.Inverted.{solves_both}
use Rattle.gathering.proofs.Parts.{in_order_parts, index_gathers_parts}
use Rattle.gathering.proofs.Puts.{goes_at, keeps_at}
use Rattle.gathering.proofs.Solving.{solves_object}
use Rattle.gathering.specs.Instances.{FormedKinds, InstanceContext, KeepsSignature, Takes}
use Rattle.gathering.specs.Items.{IndicesGather, KindGathers, TelescopeGathers, TypeGathers}
use Rattle.gathering.specs.Laws.{WellFormedSolves}
use Rattle.gathering.specs.Setting.{Setting}
use Rattle.gathering.specs.Shape.{Shape, unmarked_shape}

the_value : {A : Type 0} {a b : A} → Some a ≡ Some b → a ≡ b
the_value e = cc

conses : {A : Type 0} {a b : A} {x y : List A} → a ≡ b → x ≡ y → a ∷ x ≡ b ∷ y
conses e f = cc

pub put_kind : {s : Environment} {k l : PlainKind} → SubstitutedKind s k l → map erase l ≡ map erase k
put_kind in_no_argument = refl
put_kind (in_argument p q) = conses (put_type p) (put_kind q)

of_argument : {s : Environment} {a : PlainType} {k y : PlainKind} → SubstitutedKind s (a ∷ k) y → (b : PlainType) × (l : PlainKind) × (y ≡ b ∷ l) × SubstitutedType s a b × SubstitutedKind (under 1 s) k l
of_argument (in_argument {x = x} {l = l} p q) = (x, l, refl, p, q)

of_none : {s : Environment} {y : PlainKind} → SubstitutedKind s [] y → y ≡ []
of_none in_no_argument = refl

of_family : {s : Environment} {f : ℕ} {ns : List PlainObject} {y : PlainType} → SubstitutedType s (family f ns) y → (xs : List PlainObject) × (y ≡ family f xs) × SubstitutedEach s ns xs
of_family (in_family {xs = xs} p) = (xs, refl, p)

of_function : {s : Environment} {m : Mode} {a c y : PlainType} → SubstitutedType s (function m a c) y → (b d : PlainType) × (y ≡ function m b d) × SubstitutedType s a b × SubstitutedType (under 1 s) c d
of_function (in_function {x = x} {y = y} p q) = (x, y, refl, p, q)

of_both : {s : Environment} {a c y : PlainType} → SubstitutedType s (both a c) y → (b d : PlainType) × (y ≡ both b d) × SubstitutedType s a b × SubstitutedType s c d
of_both (in_both {x = x} {y = y} p q) = (x, y, refl, p, q)

of_monad : {s : Environment} {t : PlainTelescope} {y : PlainType} → SubstitutedType s (monad t) y → (u : PlainTelescope) × (y ≡ monad u) × SubstitutedTelescope s t u
of_monad (in_monad {u = u} p) = (u, refl, p)

of_binding : {s : Environment} {m : Mode} {a : PlainType} {t y : PlainTelescope} → SubstitutedTelescope s (binding m a t) y → (b : PlainType) × (u : PlainTelescope) × (y ≡ binding m b u) × SubstitutedType s a b × SubstitutedTelescope (under 1 s) t u
of_binding (in_binding {x = x} {u = u} p q) = (x, u, refl, p, q)

of_next : {s : Environment} {n : PlainObject} {ns ys : List PlainObject} → SubstitutedEach s (n ∷ ns) ys → (x : PlainObject) × (xs : List PlainObject) × (ys ≡ x ∷ xs) × Substituted s n x × SubstitutedEach s ns xs
of_next (each_next {x = x} {xs = xs} p q) = (x, xs, refl, p, q)

module _ (sig : PlainSignature) (z : Setting) (front : Context) (y : Assignment) (s : Environment) (takes : Takes sig z front y s) (keeps : KeepsSignature sig s) (kinds : FormedKinds sig z) where
  abbrev Z : Context → Assignment
  Z g = extended_over g z.simple

  abbrev S : Context → Environment
  S g = under (length g) s

  solves_indices : (ns : List PlainObject) (g h : Context) (w : List Shape) (k l : PlainKind) (q : List Equation) (xs : List PlainObject) → InstanceContext s front g h → SimplyFormedContext z.arguments z.simple g
      → IndicesGather sig z g w ns k q → SubstitutedEach (S g) ns xs → IndicesHaveTypes sig h xs l → SubstitutedKind (S g) k l → SimplyFormedKind z.arguments (Z g) k → SolvesEach s q × SimplyTypedEach (Z g) ns (map erase k)
  solves_indices [] g h w [] l q xs i f p c d e r = (subst (SolvesEach s) (sym p) tt, tt)
  solves_indices [] g h w (a ∷ k) l q xs i f p c d e r = absurd p
  solves_indices (n ∷ ns) g h w [] l q xs i f p c d e r = absurd p
  solves_indices (n ∷ ns) g h w (a ∷ k) l q xs i f p c d e r =
      let (k1, q1, q2, p1, p2, p3, p4) = index_gathers_parts p in let (x, ys, j, c1, c2) = of_next c in let (b, l', j', e1, e2) = of_argument e in
      let d' = subst (λ (l : PlainKind). IndicesHaveTypes sig h (x ∷ ys) l) j' (subst (λ (v : List PlainObject). IndicesHaveTypes sig h v l) j d) in
      let (r1, r2) = solves_object sig z front y s takes.constants takes.fixed takes.formed takes.no_implicit takes.typed n g h w a b (unmarked_shape a) q1 (persistent_alone (modes h)) i f p1 c1 d'.index e1 r.0 in
      let r' = subst (λ (v : Assignment). SimplyFormedKind z.arguments v k) (sym (as_inserted (erase a) (Z g))) r.1 in
      let e3 = ((put_commutes z.arguments (Z g) (extended_over g y) 0 (erase a) (S g) (under 1 (S g)) (keeps_at z y s takes.typed g) (goes_at z y s takes.typed g) n x r2 c1).kind k k1 l' d'.after_put r' p2 e2).1 d'.put in
      let fk = (result_is_typed true z.arguments (inserted 0 (erase a) (Z g)) (Z g) (single n 0) ((put_is_typed true (Z g)).0 0 n (erase a) r2)).kind k k1 r' p2 in
      let (r3, r4) = solves_indices ns g h w k1 d'.after_put q2 ys i f p3 c2 d'.later e3 fk in
      (subst (SolvesEach s) (sym p4) (solves_both s q1 q2 r1 r3), (r2, subst (λ v. SimplyTypedEach (Z g) ns v) (put_kind p2) r4))

  mutual
    solves_type : (a : PlainType) (g h : Context) (w : List Shape) (b : PlainType) (q : List Equation) {v : Environment} → v ≡ S g → InstanceContext s front g h → SimplyFormedContext z.arguments z.simple g
        → SubstitutedType v a b → WellFormedType sig h b → TypeGathers sig z g w a q → SolvesEach s q × SimplyFormed z.arguments (Z g) a
    solves_type (family f ns) g h w b q e i d c r p =
        let (xs, j, c') = of_family c in let (k, l, p') = p in let (k', l', r') = subst (WellFormedType sig h) j r in let formed = kinds f k l in
        let (r1, r2) = solves_indices ns g h w k k q xs i d p' (subst (λ (v : Environment). SubstitutedEach v ns xs) e c') (subst (IndicesHaveTypes sig h xs) (the_value (sym l' ∙ l)) r') (formed.stays (S g) (λ c x m. ap (ren_image (λ v. v + length g)) (keeps c x m))) (formed.formed g) in
        (r1, (map erase k, formed.arguments, r2))
    solves_type (function m a a') g h w b q e i d c r p =
        let (b1, b2, j, c1, c2) = of_function c in let (q1, q2, p1, p2, p3) = in_order_parts p in let r' = subst (WellFormedType sig h) j r in
        let (r1, r2) = solves_type a g h w b1 q1 e i d c1 r'.0 p1 in
        let (r3, r4) = solves_type a' ((m, a) ∷ g) ((m, b1) ∷ h) (unmarked_shape a ∷ w) b2 q2 (ap (under 1) e ∙ under_sum (length g) s) (refl, subst (λ (v : Environment). SubstitutedType v a b1) e c1, i) (r2, d) c2 r'.1 p2 in
        (subst (SolvesEach s) (sym p3) (solves_both s q1 q2 r1 r3), (r2, r4))
    solves_type (both a a') g h w b q e i d c r p =
        let (b1, b2, j, c1, c2) = of_both c in let (q1, q2, p1, p2, p3) = in_order_parts p in let r' = subst (WellFormedType sig h) j r in
        let (r1, r2) = solves_type a g h w b1 q1 e i d c1 r'.0 p1 in let (r3, r4) = solves_type a' g h w b2 q2 e i d c2 r'.1 p2 in
        (subst (SolvesEach s) (sym p3) (solves_both s q1 q2 r1 r3), (r2, r4))
    solves_type top g h w b q e i d c r p = (subst (SolvesEach s) (sym p) tt, tt)
    solves_type (monad t) g h w b q e i d c r p = let (u, j, c1) = of_monad c in solves_telescope t g h w u q e i d c1 (subst (WellFormedType sig h) j r) p

    solves_telescope : (a : PlainTelescope) (g h : Context) (w : List Shape) (b : PlainTelescope) (q : List Equation) {v : Environment} → v ≡ S g → InstanceContext s front g h → SimplyFormedContext z.arguments z.simple g
        → SubstitutedTelescope v a b → WellFormedTelescope sig h b → TelescopeGathers sig z g w a q → SolvesEach s q × SimplyFormedTelescope z.arguments (Z g) a
    solves_telescope end g h w b q e i d c r p = (subst (SolvesEach s) (sym p) tt, tt)
    solves_telescope (binding m a t) g h w b q e i d c r p =
        let (b1, b2, j, c1, c2) = of_binding c in let (q1, q2, p1, p2, p3) = in_order_parts p in let r' = subst (WellFormedTelescope sig h) j r in
        let (r1, r2) = solves_type a g h w b1 q1 e i d c1 r'.0 p1 in
        let (r3, r4) = solves_telescope t ((m, a) ∷ g) ((m, b1) ∷ h) (unmarked_shape a ∷ w) b2 q2 (ap (under 1) e ∙ under_sum (length g) s) (refl, subst (λ (v : Environment). SubstitutedType v a b1) e c1, i) (r2, d) c2 r'.1 p2 in
        (subst (SolvesEach s) (sym p3) (solves_both s q1 q2 r1 r3), (r2, r4))

module _ (sig : PlainSignature) (z : Setting) (front : Context) (y : Assignment) (s : Environment) (takes : Takes sig z front y s) (keeps : KeepsSignature sig s) (kinds : FormedKinds sig z) where
  solves_kind : (k : PlainKind) (g h : Context) (w : List Shape) (l : PlainKind) (q : List Equation) {v : Environment} → v ≡ under (length g) s → InstanceContext s front g h → SimplyFormedContext z.arguments z.simple g
      → SubstitutedKind v k l → WellFormedKind sig h l → KindGathers sig z g w k q → SolvesEach s q × SimplyFormedKind z.arguments (extended_over g z.simple) k
  solves_kind [] g h w l q e i d c r p = (subst (SolvesEach s) (sym p) tt, tt)
  solves_kind (a ∷ k) g h w l q e i d c r p = let (b1, b2, j, c1, c2) = of_argument c in let (q1, q2, p1, p2, p3) = in_order_parts p in let r' = subst (WellFormedKind sig h) j r in
      let (r1, r2) = solves_type sig z front y s takes keeps kinds a g h w b1 q1 e i d c1 r'.0 p1 in
      let (r3, r4) = solves_kind k ((Persistent, a) ∷ g) ((Persistent, b1) ∷ h) (unmarked_shape a ∷ w) b2 q2 (ap (under 1) e ∙ under_sum (length g) s) (refl, subst (λ (v : Environment). SubstitutedType v a b1) e c1, i) (r2, d) c2 r'.1 p2 in
      (subst (SolvesEach s) (sym p3) (solves_both s q1 q2 r1 r3), (r2, r4))

pub well_formed_solves : WellFormedSolves
well_formed_solves sig z front y s takes keeps kinds g h w q i f = record {
  types = λ a b c r p. solves_type sig z front y s takes keeps kinds a g h w b q refl i f c r p;
  telescopes = λ a b c r p. solves_telescope sig z front y s takes keeps kinds a g h w b q refl i f c r p;
  kinds = λ k l c r p. solves_kind sig z front y s takes keeps kinds k g h w l q refl i f c r p;
}
