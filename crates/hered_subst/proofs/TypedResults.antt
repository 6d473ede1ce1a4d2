-- A typed substitution has a result, also in types, and whatever is a result is typed.
use Rattle.std.specs.Prelude.{Bool, ◌≡◌, List, [], ◌∷◌, refl}
use Rattle.std.proofs.Common.{ap, sym, subst}
use Rattle.clf_syntax.specs.declared.tree.Mode.{Mode}
use Rattle.clf_syntax.specs.Tree.{PlainObject}
use Rattle.clf_syntax.specs.TypeTree.{PlainType, family, function, both, top, monad, PlainTelescope, end, binding, PlainKind, SimpleType, arrow, simple_with, SimpleTelescope, lax, simple_binding}
use Rattle.clf_syntax.specs.Simple.{erase, erase_telescope, Assignment, extended, no_holes, SimplyTypedWith, ExpressionSimplyTypedWith, EachSimplyTypedWith, Families, SimplyFormedWith, TelescopeSimplyFormedWith, KindSimplyFormedWith}
use Rattle.hered_subst.specs.Substitution.{Environment, under, SubstitutedEach, each_none, each_next, SubstitutedType, in_family, in_function, in_both, in_top, in_monad, SubstitutedTelescope, in_end, in_binding, SubstitutedKind, in_no_argument, in_argument}
use Rattle.hered_subst.specs.TypedEnvironments.{TypedEnvironment}
use Rattle.hered_subst.specs.Laws.{TypedHasResult, ResultIsTyped}
use Rattle.hered_subst.proofs.Determined.{determined, determined_expression}
use Rattle.hered_subst.proofs.Types.{determined_each, determined_kind, determined_telescope, determined_type}
use Rattle.hered_subst.proofs.SimpleTyping.{to_typed, to_expression, of_typed, of_expression}
use Rattle.hered_subst.proofs.TypedEnvironments.{to_kept, keeps_bound, total_object, total_steps}

pub arrows : (m : Mode) {a b c d : SimpleType} → a ≡ b → c ≡ d → arrow m a c ≡ arrow m b d
arrows m e f = cc

pub products : {a b c d : SimpleType} → a ≡ b → c ≡ d → simple_with a c ≡ simple_with b d
products e f = cc

pub bindings : (m : Mode) {a b : SimpleType} {c d : SimpleTelescope} → a ≡ b → c ≡ d → simple_binding m a c ≡ simple_binding m b d
bindings m e f = cc

total_each : (w : Bool) (g z : Assignment) (s : Environment) → TypedEnvironment w g z s → (ns : List PlainObject) (ts : List SimpleType) → EachSimplyTypedWith (no_holes w) g ns ts → (xs : List PlainObject) × SubstitutedEach s ns xs × EachSimplyTypedWith (no_holes w) z xs ts
total_each w g z s f [] [] p = ([], each_none, tt)
total_each w g z s f (n ∷ ns) (t ∷ ts) p = let (x, a, b) = total_object w g z s (to_kept w g z s f) (to_typed w g n t p.0) in let (xs, c, d) = total_each w g z s f ns ts p.1 in (x ∷ xs, each_next a c, (of_typed b, d))
total_each w g z s f [] (t ∷ ts) p = absurd p
total_each w g z s f (n ∷ ns) [] p = absurd p

module _ (w : Bool) (arguments : Families) where
  mutual
    pub total_type : (g z : Assignment) (s : Environment) → TypedEnvironment w g z s → (a : PlainType) → SimplyFormedWith (no_holes w) arguments g a → (x : PlainType) × SubstitutedType s a x × SimplyFormedWith (no_holes w) arguments z x × (erase x ≡ erase a)
    total_type g z s f (family c ns) p = let (ts, e, q) = p in let (xs, a, b) = total_each w g z s f ns ts q in (family c xs, in_family a, (ts, e, b), refl)
    total_type g z s f (function m a b) p = let (x, c, d, e) = total_type g z s f a p.0 in
        let (y, h, i, j) = total_type (extended (erase a) g) (extended (erase a) z) (under 1 s) (keeps_bound w (erase a) g z s f) b p.1 in
        (function m x y, in_function c h, (d, subst (λ t. SimplyFormedWith (no_holes w) arguments (extended t z) y) (sym e) i), arrows m e j)
    total_type g z s f (both a b) p = let (x, c, d, e) = total_type g z s f a p.0 in let (y, h, i, j) = total_type g z s f b p.1 in (both x y, in_both c h, (d, i), products e j)
    total_type g z s f top p = (top, in_top, tt, refl)
    total_type g z s f (monad u) p = let (x, c, d, e) = total_telescope g z s f u p in (monad x, in_monad c, d, ap lax e)

    pub total_telescope : (g z : Assignment) (s : Environment) → TypedEnvironment w g z s → (a : PlainTelescope) → TelescopeSimplyFormedWith (no_holes w) arguments g a → (x : PlainTelescope) × SubstitutedTelescope s a x × TelescopeSimplyFormedWith (no_holes w) arguments z x × (erase_telescope x ≡ erase_telescope a)
    total_telescope g z s f end p = (end, in_end, tt, refl)
    total_telescope g z s f (binding m a b) p = let (x, c, d, e) = total_type g z s f a p.0 in
        let (y, h, i, j) = total_telescope (extended (erase a) g) (extended (erase a) z) (under 1 s) (keeps_bound w (erase a) g z s f) b p.1 in
        (binding m x y, in_binding c h, (d, subst (λ t. TelescopeSimplyFormedWith (no_holes w) arguments (extended t z) y) (sym e) i), bindings m e j)

  pub total_kind : (g z : Assignment) (s : Environment) → TypedEnvironment w g z s → (a : PlainKind) → KindSimplyFormedWith (no_holes w) arguments g a → (x : PlainKind) × SubstitutedKind s a x × KindSimplyFormedWith (no_holes w) arguments z x
  total_kind g z s f [] p = ([], in_no_argument, tt)
  total_kind g z s f (a ∷ l) p = let (x, c, d, e) = total_type g z s f a p.0 in
      let (y, h, i) = total_kind (extended (erase a) g) (extended (erase a) z) (under 1 s) (keeps_bound w (erase a) g z s f) l p.1 in
      (x ∷ y, in_argument c h, (d, subst (λ t. KindSimplyFormedWith (no_holes w) arguments (extended t z) y) (sym e) i))

pub typed_has_result : TypedHasResult
typed_has_result w arguments g z s f = record {
  object = λ o t p. let (x, a, b) = total_object w g z s (to_kept w g z s f) (to_typed w g o t p) in (x, a, of_typed b);
  expression = λ o t p. let (x, a, b) = total_steps w g z s (to_kept w g z s f) (to_expression w g o t p) in (x, a, of_expression b);
  each = λ ns ts p. total_each w g z s f ns ts p;
  type = λ a p. total_type w arguments g z s f a p;
  telescope = λ a p. total_telescope w arguments g z s f a p;
  kind = λ k p. total_kind w arguments g z s f k p;
}

pub result_is_typed : ResultIsTyped
result_is_typed w arguments g z s f = let all = typed_has_result w arguments g z s f in record {
  object = λ o x t p q. let (y, a, b) = all.object o t p in subst (λ i. SimplyTypedWith (no_holes w) z i t) (determined a q) b;
  expression = λ o x t p q. let (y, a, b) = all.expression o t p in subst (λ i. ExpressionSimplyTypedWith (no_holes w) z i t) (determined_expression a q) b;
  each = λ o x t p q. let (y, a, b) = all.each o t p in subst (λ i. EachSimplyTypedWith (no_holes w) z i t) (determined_each a q) b;
  type = λ o x p q. let (y, a, b, c) = all.type o p in subst (λ i. SimplyFormedWith (no_holes w) arguments z i × (erase i ≡ erase o)) (determined_type a q) (b, c);
  telescope = λ o x p q. let (y, a, b, c) = all.telescope o p in subst (λ i. TelescopeSimplyFormedWith (no_holes w) arguments z i × (erase_telescope i ≡ erase_telescope o)) (determined_telescope a q) (b, c);
  kind = λ o x p q. let (y, a, b) = all.kind o p in subst (λ i. KindSimplyFormedWith (no_holes w) arguments z i) (determined_kind a q) b;
}
