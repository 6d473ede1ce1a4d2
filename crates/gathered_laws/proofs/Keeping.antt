-- Formed cores have no holes; formed cores and typed equations stay so under typed environments.
use Rattle.std.proofs.Common.{subst, sym}
use Rattle.std.specs.Prelude.{List, None, [], length, true, ◌∷◌, ◌≡◌}
use Rattle.clf_syntax.specs.Simple.{Assignment, Families, SimplyFormed, SimplyFormedKind, SimplyFormedTelescope, SimplyTyped, SimplyTypedEach, SimplyTypedExpression, SimplyTypedNeutral, SimplyTypedTuple, erase, extended, extended_by}
use Rattle.clf_syntax.specs.Tree.{PlainExpression, PlainNeutral, PlainObject, PlainTuple, app, atomic, done, empty, entry, fst, head_alone, hole, lam, monadic, pair, snd, step, unit}
use Rattle.clf_syntax.specs.TypeTree.{PlainKind, PlainTelescope, PlainType, SimpleTelescope, SimpleType, arrow, binding, both, end, family, function, lax, monad, simple_with, top}
use Rattle.clf_sig.specs.Core.{PlainCore, checks, declares, equates, queries, traces}
use Rattle.clf_sig.specs.Entry.{PlainClass, constant_of, family_of}
use Rattle.hered_subst.proofs.SimpleTyping.{under_zero}
use Rattle.hered_subst.proofs.TypedEnvironments.{keeps_bound}
use Rattle.hered_subst.proofs.TypedResults.{result_is_typed}
use Rattle.hered_subst.specs.Substitution.{Environment, Substituted, SubstitutedType, under}
use Rattle.hered_subst.specs.TypedEnvironments.{TypedEnvironment}
use Rattle.subst_laws.proofs.Environs.{under_sum}
use Rattle.pattern_laws.specs.Equations.{Equation, Locals, TypedEquations, scoped}
use Rattle.pattern_laws.specs.Instantiations.{Types, closed}
use Rattle.typing_laws.proofs.Erased.{put_type}
use Rattle.gathering.specs.Becoming.{BecomeEach}
use Rattle.gathering.specs.Complete.{ExpressionHasNoHole, HasNoHole, NeutralHasNoHole, TupleHasNoHole}
use Rattle.celf_elaboration.specs.Items.{SubstitutedClass, SubstitutedCore, in_check, in_constant_class, in_declaration, in_equation, in_family_class, in_query, in_trace}
use Rattle.celf_gather.specs.Holes.{ClassHasNoHole, EachHasNoHole, KindHasNoHole, TelescopeHasNoHole, TypeHasNoHole}
use Rattle.gathered_laws.specs.Formed.{ClassIsFormed, CoreIsFormed}
use Rattle.gathered_laws.specs.Laws.{CoreStaysFormed, EquationsStayTyped, FormedCoreHasNoHole}

-- ---- no hole is typed

mutual
  object_whole : (n : PlainObject) (g : Assignment) (t : SimpleType) → SimplyTyped g n t → HasNoHole n
  object_whole (lam m b) g t (d, c, e, p) = object_whole b (extended d g) c p
  object_whole (pair l r) g t (c, d, e, p, q) = (object_whole l g c p, object_whole r g d q)
  object_whole unit g t p = tt
  object_whole (monadic x) g t (s, e, p) = expression_whole x g s p
  object_whole (atomic n) g t (stands, p) = neutral_whole n g t p
  object_whole hole g t p = absurd (cc)

  neutral_whole : (n : PlainNeutral) (g : Assignment) (t : SimpleType) → SimplyTypedNeutral g n t → NeutralHasNoHole n
  neutral_whole (head_alone h) g t p = tt
  neutral_whole (app m r n) g t (d, p, q) = (neutral_whole r g (arrow m d t) p, object_whole n g d q)
  neutral_whole (fst r) g t (d, p) = neutral_whole r g (simple_with t d) p
  neutral_whole (snd r) g t (c, p) = neutral_whole r g (simple_with c t) p

  expression_whole : (x : PlainExpression) (g : Assignment) (s : SimpleTelescope) → SimplyTypedExpression g x s → ExpressionHasNoHole x
  expression_whole (step ms r x) g s (u, p, m, q) = (neutral_whole r g (lax u) p, expression_whole x (extended_by u g) s q)
  expression_whole (done t) g s p = tuple_whole t g s p

  tuple_whole : (t : PlainTuple) (g : Assignment) (s : SimpleTelescope) → SimplyTypedTuple g t s → TupleHasNoHole t
  tuple_whole empty g s p = tt
  tuple_whole (entry m n t) g s (d, u, e, p, q) = (object_whole n g d p, tuple_whole t g u q)

each_whole : (ns : List PlainObject) (g : Assignment) (ts : List SimpleType) → SimplyTypedEach g ns ts → EachHasNoHole ns
each_whole [] g ts p = tt
each_whole (n ∷ ns) g [] p = absurd p
each_whole (n ∷ ns) g (t ∷ ts) p = (object_whole n g t p.0, each_whole ns g ts p.1)

module _ (arguments : Families) where
  mutual
    type_whole : (a : PlainType) (g : Assignment) → SimplyFormed arguments g a → TypeHasNoHole a
    type_whole (family f ns) g (ts, e, p) = each_whole ns g ts p
    type_whole (function m a b) g p = (type_whole a g p.0, type_whole b (extended (erase a) g) p.1)
    type_whole (both a b) g p = (type_whole a g p.0, type_whole b g p.1)
    type_whole top g p = tt
    type_whole (monad s) g p = telescope_whole s g p

    telescope_whole : (s : PlainTelescope) (g : Assignment) → SimplyFormedTelescope arguments g s → TelescopeHasNoHole s
    telescope_whole end g p = tt
    telescope_whole (binding m a s) g p = (type_whole a g p.0, telescope_whole s (extended (erase a) g) p.1)

  kind_whole : (k : PlainKind) (g : Assignment) → SimplyFormedKind arguments g k → KindHasNoHole k
  kind_whole [] g p = tt
  kind_whole (a ∷ k) g p = (type_whole a g p.0, kind_whole k (extended (erase a) g) p.1)

  class_whole : (c : PlainClass) (g : Assignment) → ClassIsFormed arguments g c → ClassHasNoHole c
  class_whole (family_of k) g p = kind_whole k g p
  class_whole (constant_of a) g p = type_whole a g p

pub formed_core_has_no_hole : FormedCoreHasNoHole
formed_core_has_no_hole arguments g (declares name e) p = class_whole arguments e.class g p
formed_core_has_no_hole arguments g (queries a) p = type_whole arguments a g p
formed_core_has_no_hole arguments g (traces s) p = telescope_whole arguments s g p
formed_core_has_no_hole arguments g (equates m n a) p = (type_whole arguments a g p.0, object_whole m g (erase a) p.1, object_whole n g (erase a) p.2)
formed_core_has_no_hole arguments g (checks n a) p = (type_whole arguments a g p.0, object_whole n g (erase a) p.1)

-- ---- environments

module _ (arguments : Families) (g z : Assignment) (s : Environment) (typed : TypedEnvironment true g z s) where
  -- an object at a type, after the environment
  at_type : {n x : PlainObject} {a b : PlainType} → Substituted s n x → SubstitutedType s a b → SimplyTyped g n (erase a) → SimplyTyped z x (erase b)
  at_type {n = n} {x = x} {a = a} p q h = subst (SimplyTyped z x) (sym (put_type q)) ((result_is_typed true arguments g z s typed).object n x (erase a) h p)

  type_stays : {a b : PlainType} → SubstitutedType s a b → SimplyFormed arguments g a → SimplyFormed arguments z b
  type_stays {a = a} {b = b} p f = ((result_is_typed true arguments g z s typed).type a b f p).0

  class_stays : {c d : PlainClass} → SubstitutedClass s c d → ClassIsFormed arguments g c → ClassIsFormed arguments z d
  class_stays (in_family_class {k = k} {l = l} p) f = (result_is_typed true arguments g z s typed).kind k l f p
  class_stays (in_constant_class p) f = type_stays p f

  core_stays : {c d : PlainCore} → SubstitutedCore s c d → CoreIsFormed arguments g c → CoreIsFormed arguments z d
  core_stays (in_declaration p) f = class_stays p f
  core_stays (in_query p) f = type_stays p f
  core_stays (in_trace {t = t} {u = u} p) f = ((result_is_typed true arguments g z s typed).telescope t u f p).0
  core_stays (in_equation p q r) f = (type_stays r f.0, at_type p r f.1, at_type q r f.2)
  core_stays (in_check p r) f = (type_stays r f.0, at_type p r f.1)

pub core_stays_formed : CoreStaysFormed
core_stays_formed arguments g z s typed c d p f = core_stays arguments g z s typed p f

typed_under : (g z : Assignment) (s : Environment) → TypedEnvironment true g z s → (ls : Locals) → TypedEnvironment true (scoped ls g) (scoped ls z) (under (length ls) s)
typed_under g z s f [] = subst (TypedEnvironment true g z) (sym (under_zero s)) f
typed_under g z s f (l ∷ ls) = subst (TypedEnvironment true (extended l.1 (scoped ls g)) (extended l.1 (scoped ls z))) (under_sum (length ls) s)
    (keeps_bound true l.1 (scoped ls g) (scoped ls z) (under (length ls) s) (typed_under g z s f ls))

none : Families
none f = None

module _ (constants metas more grown : Types) (s : Environment) (typed : TypedEnvironment true (closed constants metas) (closed more grown) s) where
  side_stays : (e f : Equation) → e.locals ≡ f.locals → e.type ≡ f.type → (n x : PlainObject) → SimplyTyped (scoped e.locals (closed constants metas)) n e.type → Substituted (under (length e.locals) s) n x
      → SimplyTyped (scoped f.locals (closed more grown)) x f.type
  side_stays e f i j n x p q = subst (λ ls. SimplyTyped (scoped ls (closed more grown)) x f.type) i (subst (SimplyTyped (scoped e.locals (closed more grown)) x) j
      ((result_is_typed true none (scoped e.locals (closed constants metas)) (scoped e.locals (closed more grown)) (under (length e.locals) s) (typed_under (closed constants metas) (closed more grown) s typed e.locals)).object n x e.type p q))

  equations_stay : (p q : List Equation) → BecomeEach s p q → TypedEquations constants metas p → TypedEquations more grown q
  equations_stay [] [] b t = tt
  equations_stay (e ∷ p) (f ∷ q) b t = ((side_stays e f b.0.locals b.0.type e.left f.left t.0.0 b.0.left, side_stays e f b.0.locals b.0.type e.right f.right t.0.1 b.0.right), equations_stay p q b.1 t.1)
  equations_stay [] (f ∷ q) b t = absurd b
  equations_stay (e ∷ p) [] b t = absurd b

pub equations_stay_typed : EquationsStayTyped
equations_stay_typed constants metas more grown s typed p q b t = equations_stay constants metas more grown s typed p q b t
