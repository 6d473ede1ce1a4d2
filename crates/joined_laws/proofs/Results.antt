-- Joined objects, put for the heads of joined trees, give joined trees: without ranks, and of all sorts of trees.
use Rattle.clf_syntax.specs.Simple.{Assignment, Families, SimplyFormed, SimplyFormedKind, SimplyFormedTelescope, SimplyTypedEach, erase, extended}
use Rattle.clf_syntax.specs.Tree.{PlainExpression, PlainObject}
use Rattle.clf_syntax.specs.TypeTree.{PlainKind, PlainTelescope, PlainType, SimpleTelescope, SimpleType, binding, both, end, family, function, monad, top}
use Rattle.joined_laws.proofs.ExchangedTyped.{exchanged_typed_expression, joined_typed}
use Rattle.joined_laws.proofs.Formed.{joined_each_typed, joined_formed, joined_formed_kind, joined_formed_telescope}
use Rattle.joined_laws.proofs.Respect.{joined_bound}
use Rattle.joined_laws.proofs.Respects.{respects, respects_expression}
use Rattle.joined_laws.specs.Environments.{JoinedEnvironment}
use Rattle.joined_laws.specs.JoinedTypes.{JoinedKind, JoinedTelescope, JoinedType, joined_argument, joined_binding, joined_both, joined_end, joined_family, joined_function, joined_monad, joined_no_argument, joined_top}
use Rattle.joined_laws.specs.Laws.{JoinedKeepsTypes, Respects}
use Rattle.std.specs.Prelude.{Bool, List, [], true, ◌∷◌}
use Rattle.trace_equal.specs.Exchange.{Joined, JoinedEach, JoinedExpression, next, stop}
use Rattle.hered_subst.proofs.Bounded.{Kept, bound, limited, limited_in, limited_of, ranked, supported, supported_expression}
use Rattle.hered_subst.proofs.SimpleTyping.{Typed, TypedExpression, of_expression, of_typed, to_expression, to_typed}
use Rattle.hered_subst.proofs.TypedEnvironments.{keeps_bound, to_kept}
use Rattle.hered_subst.specs.Substitution.{Environment, Substituted, SubstitutedEach, SubstitutedExpression, SubstitutedKind, SubstitutedTelescope, SubstitutedType, each_next, each_none, in_argument, in_binding, in_both, in_end, in_family, in_function, in_monad, in_no_argument, in_top, under}
use Rattle.hered_subst.specs.TypedEnvironments.{TypedEnvironment}

-- joined objects for the heads of joined trees
pub respects_object : (w : Bool) (g z : Assignment) (s v : Environment) → Kept w g z s → Kept w g z v → JoinedEnvironment g s v → {o u x y : PlainObject} {t : SimpleType} → Typed w g o t → Joined o u → Substituted s o x → Substituted v u y → Joined x y
respects_object w g z s v es ev j {o} {u} {x} {y} {t} p q a b =
    let (k, c) = supported p in
    respects w (bound k g) (limited k g) z s v (ranked w g z s k (λ h i l e. es h i e)) (ranked w g z v k (λ h i l e. ev h i e)) (λ h i e. j h i (limited_of k g h i e).1) o u t (c (limited k g) (limited_in k g)) q x y a b

pub respects_steps : (w : Bool) (g z : Assignment) (s v : Environment) → Kept w g z s → Kept w g z v → JoinedEnvironment g s v → {o u x y : PlainExpression} {t : SimpleTelescope} → TypedExpression w g o t → JoinedExpression o u → SubstitutedExpression s o x → SubstitutedExpression v u y → JoinedExpression x y
respects_steps w g z s v es ev j {o} {u} {x} {y} {t} p q a b =
    let (k, c) = supported_expression p in
    respects_expression w (bound k g) (limited k g) z s v (ranked w g z s k (λ h i l e. es h i e)) (ranked w g z v k (λ h i l e. ev h i e)) (λ h i e. j h i (limited_of k g h i e).1) o u t (c (limited k g) (limited_in k g)) q x y a b

pub respects_each : (g z : Assignment) (s v : Environment) → TypedEnvironment true g z s → TypedEnvironment true g z v → JoinedEnvironment g s v → {ns os xs ys : List PlainObject} (ts : List SimpleType) → SimplyTypedEach g ns ts → JoinedEach ns os → SubstitutedEach s ns xs → SubstitutedEach v os ys → JoinedEach xs ys
respects_each g z s v es ev j ts p q each_none each_none = tt
respects_each g z s v es ev j ts p q each_none (each_next a b) = absurd q
respects_each g z s v es ev j ts p q (each_next a b) each_none = absurd q
respects_each g z s v es ev j [] p q (each_next a b) (each_next c d) = absurd p
respects_each g z s v es ev j (t ∷ ts) p q (each_next {o = n} a b) (each_next c d) = (respects_object true g z s v (to_kept true g z s es) (to_kept true g z v ev) j (to_typed true g n t p.0) q.0 a c, respects_each g z s v es ev j ts p.1 q.1 b d)

module _ (arguments : Families) where
  mutual
    pub respects_type : (g z : Assignment) (s v : Environment) → TypedEnvironment true g z s → TypedEnvironment true g z v → JoinedEnvironment g s v → {b x y : PlainType} (a : PlainType) → SimplyFormed arguments g a → JoinedType a b → SubstitutedType s a x → SubstitutedType v b y → JoinedType x y
    respects_type g z s v es ev j (family c ns) p (joined_family q) (in_family a) (in_family b) = let (ts, e, t) = p in joined_family (respects_each g z s v es ev j ts t q a b)
    respects_type g z s v es ev j (function m a b) p (joined_function q r) (in_function c d) (in_function e h) = joined_function (respects_type g z s v es ev j a p.0 q c e)
        (respects_type (extended (erase a) g) (extended (erase a) z) (under 1 s) (under 1 v) (keeps_bound true (erase a) g z s es) (keeps_bound true (erase a) g z v ev) (joined_bound (erase a) g s v j) b p.1 r d h)
    respects_type g z s v es ev j (both a b) p (joined_both q r) (in_both c d) (in_both e h) = joined_both (respects_type g z s v es ev j a p.0 q c e) (respects_type g z s v es ev j b p.1 r d h)
    respects_type g z s v es ev j top p joined_top in_top in_top = joined_top
    respects_type g z s v es ev j (monad t) p (joined_monad q) (in_monad a) (in_monad b) = joined_monad (respects_telescope g z s v es ev j t p q a b)

    pub respects_telescope : (g z : Assignment) (s v : Environment) → TypedEnvironment true g z s → TypedEnvironment true g z v → JoinedEnvironment g s v → {b x y : PlainTelescope} (a : PlainTelescope) → SimplyFormedTelescope arguments g a → JoinedTelescope a b → SubstitutedTelescope s a x → SubstitutedTelescope v b y → JoinedTelescope x y
    respects_telescope g z s v es ev j end p joined_end in_end in_end = joined_end
    respects_telescope g z s v es ev j (binding m a b) p (joined_binding q r) (in_binding c d) (in_binding e h) = joined_binding (respects_type g z s v es ev j a p.0 q c e)
        (respects_telescope (extended (erase a) g) (extended (erase a) z) (under 1 s) (under 1 v) (keeps_bound true (erase a) g z s es) (keeps_bound true (erase a) g z v ev) (joined_bound (erase a) g s v j) b p.1 r d h)

  pub respects_kind : (g z : Assignment) (s v : Environment) → TypedEnvironment true g z s → TypedEnvironment true g z v → JoinedEnvironment g s v → {b x y : PlainKind} (a : PlainKind) → SimplyFormedKind arguments g a → JoinedKind a b → SubstitutedKind s a x → SubstitutedKind v b y → JoinedKind x y
  respects_kind g z s v es ev j [] p joined_no_argument in_no_argument in_no_argument = joined_no_argument
  respects_kind g z s v es ev j (a ∷ b) p (joined_argument q r) (in_argument c d) (in_argument e h) = joined_argument (respects_type g z s v es ev j a p.0 q c e)
      (respects_kind (extended (erase a) g) (extended (erase a) z) (under 1 s) (under 1 v) (keeps_bound true (erase a) g z s es) (keeps_bound true (erase a) g z v ev) (joined_bound (erase a) g s v j) b p.1 r d h)

pub respects_all : Respects
respects_all arguments g z s v es ev j = record {
  object = λ o u x y t p q a b. respects_object true g z s v (to_kept true g z s es) (to_kept true g z v ev) j (to_typed true g o t p) q a b;
  expression = λ o u x y t p q a b. respects_steps true g z s v (to_kept true g z s es) (to_kept true g z v ev) j (to_expression true g o t p) q a b;
  each = λ ns os xs ys ts p q a b. respects_each g z s v es ev j ts p q a b;
  type = λ o u x y p q a b. respects_type arguments g z s v es ev j o p q a b;
  telescope = λ o u x y p q a b. respects_telescope arguments g z s v es ev j o p q a b;
  kind = λ o u x y p q a b. respects_kind arguments g z s v es ev j o p q a b;
}

joined_steps_typed : (w : Bool) (g : Assignment) {e f : PlainExpression} {t : SimpleTelescope} → JoinedExpression e f → TypedExpression w g e t → TypedExpression w g f t
joined_steps_typed w g stop p = p
joined_steps_typed w g (next x j) p = joined_steps_typed w g j (exchanged_typed_expression w x p)

pub joined_keeps_types : JoinedKeepsTypes
joined_keeps_types w g arguments = record {
  object = λ o u t j p. of_typed (joined_typed w j (to_typed w g o t p));
  expression = λ e f t j p. of_expression (joined_steps_typed w g j (to_expression w g e t p));
  each = λ ns os ts j p. joined_each_typed w g ns os ts j p;
  type = λ a b j p. joined_formed w arguments g j p;
  telescope = λ a b j p. joined_formed_telescope w arguments g j p;
  kind = λ a b j p. joined_formed_kind w arguments g j p;
}
