-- Two typed substitutions in turn are one, without ranks; and so of lists, types, telescopes and kinds.
use Rattle.clf_syntax.specs.Simple.{Assignment, Families, SimplyFormed, SimplyFormedKind, SimplyFormedTelescope, SimplyTypedEach, erase, extended}
use Rattle.clf_syntax.specs.Tree.{PlainExpression, PlainObject}
use Rattle.clf_syntax.specs.TypeTree.{PlainKind, PlainTelescope, PlainType, SimpleTelescope, SimpleType, binding, both, end, family, function, monad, top}
use Rattle.std.proofs.Common.{subst}
use Rattle.std.specs.Prelude.{Bool, List, [], true, ◌∷◌}
use Rattle.hered_subst.proofs.Bounded.{Kept, bound, known, limited, limited_in, limited_of, ranked, supported, supported_expression}
use Rattle.hered_subst.proofs.Determined.{determined, determined_expression}
use Rattle.hered_subst.proofs.SimpleTyping.{Typed, TypedExpression, to_typed}
use Rattle.hered_subst.proofs.TypedEnvironments.{keeps_bound, to_kept}
use Rattle.hered_subst.specs.Substitution.{Environment, Substituted, SubstitutedEach, SubstitutedExpression, SubstitutedKind, SubstitutedTelescope, SubstitutedType, each_next, each_none, in_argument, in_binding, in_both, in_end, in_family, in_function, in_monad, in_no_argument, in_top, under}
use Rattle.hered_subst.specs.TypedEnvironments.{TypedEnvironment}
use Rattle.subst_laws.proofs.Compose.{all_composes, composed_bound}
use Rattle.subst_laws.specs.Environments.{Composed}

-- two in turn are one
pub compose_object : (w : Bool) (g z y : Assignment) (s u v : Environment) → Kept w g z s → Kept w z y u → Composed g s u v → {o x r : PlainObject} {t : SimpleType} → Typed w g o t → Substituted s o x → Substituted u x r → Substituted v o r
compose_object w g z y s u v es eu f {o} {x} {r} {t} p sx ux =
    let (k, a) = supported p in
    let (j, b) = known w g z s es k in
    let (x2, r2, a2, b2, c2, tx, tr) = (all_composes w (bound k g) (bound j z) (limited k g) (limited j z) y s u v
    (ranked w g (limited j z) s k (b (limited j z) (limited_in j z))) (ranked w z y u j (λ h i l e. eu h i e)) (λ h i e. f h i (limited_of k g h i e).1)).0 o t (a (limited k g) (limited_in k g)) in
    subst (Substituted v o) (determined b2 (subst (λ (q : PlainObject). Substituted u q r) (determined sx a2) ux)) c2

pub compose_steps : (w : Bool) (g z y : Assignment) (s u v : Environment) → Kept w g z s → Kept w z y u → Composed g s u v → {o x r : PlainExpression} {t : SimpleTelescope} → TypedExpression w g o t → SubstitutedExpression s o x → SubstitutedExpression u x r → SubstitutedExpression v o r
compose_steps w g z y s u v es eu f {o} {x} {r} {t} p sx ux =
    let (k, a) = supported_expression p in
    let (j, b) = known w g z s es k in
    let (x2, r2, a2, b2, c2, tx, tr) = (all_composes w (bound k g) (bound j z) (limited k g) (limited j z) y s u v
    (ranked w g (limited j z) s k (b (limited j z) (limited_in j z))) (ranked w z y u j (λ h i l e. eu h i e)) (λ h i e. f h i (limited_of k g h i e).1)).1 o t (a (limited k g) (limited_in k g)) in
    subst (SubstitutedExpression v o) (determined_expression b2 (subst (λ (q : PlainExpression). SubstitutedExpression u q r) (determined_expression sx a2) ux)) c2

pub compose_each : (g z y : Assignment) (s u v : Environment) → TypedEnvironment true g z s → TypedEnvironment true z y u → Composed g s u v → {ns xs rs : List PlainObject} (ts : List SimpleType) → SimplyTypedEach g ns ts → SubstitutedEach s ns xs → SubstitutedEach u xs rs → SubstitutedEach v ns rs
compose_each g z y s u v es eu f ts p each_none each_none = each_none
compose_each g z y s u v es eu f [] p (each_next a b) (each_next c d) = absurd p
compose_each g z y s u v es eu f (t ∷ ts) p (each_next {o = n} a b) (each_next c d) = each_next (compose_object true g z y s u v (to_kept true g z s es) (to_kept true z y u eu) f (to_typed true g n t p.0) a c) (compose_each g z y s u v es eu f ts p.1 b d)

-- the same of types, telescopes and kinds
module _ (arguments : Families) where
  mutual
    pub compose_type : (g z y : Assignment) (s u v : Environment) → TypedEnvironment true g z s → TypedEnvironment true z y u → Composed g s u v → {x r : PlainType} (a : PlainType) → SimplyFormed arguments g a → SubstitutedType s a x → SubstitutedType u x r → SubstitutedType v a r
    compose_type g z y s u v es eu f (family c ns) p (in_family a) (in_family b) = let (ts, e, q) = p in in_family (compose_each g z y s u v es eu f ts q a b)
    compose_type g z y s u v es eu f (function m a b) p (in_function c d) (in_function e h) = in_function (compose_type g z y s u v es eu f a p.0 c e)
        (compose_type (extended (erase a) g) (extended (erase a) z) (extended (erase a) y) (under 1 s) (under 1 u) (under 1 v) (keeps_bound true (erase a) g z s es) (keeps_bound true (erase a) z y u eu) (composed_bound (erase a) g s u v f) b p.1 d h)
    compose_type g z y s u v es eu f (both a b) p (in_both c d) (in_both e h) = in_both (compose_type g z y s u v es eu f a p.0 c e) (compose_type g z y s u v es eu f b p.1 d h)
    compose_type g z y s u v es eu f top p in_top in_top = in_top
    compose_type g z y s u v es eu f (monad t) p (in_monad a) (in_monad b) = in_monad (compose_telescope g z y s u v es eu f t p a b)

    pub compose_telescope : (g z y : Assignment) (s u v : Environment) → TypedEnvironment true g z s → TypedEnvironment true z y u → Composed g s u v → {x r : PlainTelescope} (a : PlainTelescope) → SimplyFormedTelescope arguments g a → SubstitutedTelescope s a x → SubstitutedTelescope u x r → SubstitutedTelescope v a r
    compose_telescope g z y s u v es eu f end p in_end in_end = in_end
    compose_telescope g z y s u v es eu f (binding m a b) p (in_binding c d) (in_binding e h) = in_binding (compose_type g z y s u v es eu f a p.0 c e)
        (compose_telescope (extended (erase a) g) (extended (erase a) z) (extended (erase a) y) (under 1 s) (under 1 u) (under 1 v) (keeps_bound true (erase a) g z s es) (keeps_bound true (erase a) z y u eu) (composed_bound (erase a) g s u v f) b p.1 d h)

  pub compose_kind : (g z y : Assignment) (s u v : Environment) → TypedEnvironment true g z s → TypedEnvironment true z y u → Composed g s u v → {x r : PlainKind} (a : PlainKind) → SimplyFormedKind arguments g a → SubstitutedKind s a x → SubstitutedKind u x r → SubstitutedKind v a r
  compose_kind g z y s u v es eu f [] p in_no_argument in_no_argument = in_no_argument
  compose_kind g z y s u v es eu f (a ∷ b) p (in_argument c d) (in_argument e h) = in_argument (compose_type g z y s u v es eu f a p.0 c e)
      (compose_kind (extended (erase a) g) (extended (erase a) z) (extended (erase a) y) (under 1 s) (under 1 u) (under 1 v) (keeps_bound true (erase a) g z s es) (keeps_bound true (erase a) z y u eu) (composed_bound (erase a) g s u v f) b p.1 d h)
