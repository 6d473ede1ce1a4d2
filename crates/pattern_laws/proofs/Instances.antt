-- Instances of typed trees under locals.
use Rattle.std.specs.Prelude.{ℕ, true, false, zero, suc, ◌+◌, ◌≡◌, ◌<◌, [], ◌∷◌, length, Some, None, refl}
use Rattle.std.proofs.Common.{ap, sym, subst, ◌∙◌, arith, inl, inr}
use Rattle.clf_syntax.specs.declared.tree.Head.{Head}
use Rattle.clf_syntax.specs.declared.tree.Head.TheVariants.{Const, Var, Meta}
use Rattle.clf_syntax.specs.Tree.{PlainObject}
use Rattle.clf_syntax.specs.TypeTree.{SimpleType}
use Rattle.clf_syntax.specs.Simple.{Assignment, Families, extended, SimplyTyped}
use Rattle.clf_syntax.specs.Renaming.{ren_head, up}
use Rattle.hered_subst.specs.Substitution.{Image, keep, put, under}
use Rattle.hered_subst.proofs.SimpleTyping.{Typed, to_typed, under_zero}
use Rattle.hered_subst.specs.TypedEnvironments.{TypedEnvironment}
use Rattle.hered_subst.proofs.TypedEnvironments.{keeps_bound}
use Rattle.hered_subst.proofs.TypedResults.{typed_has_result}
use Rattle.subst_laws.specs.Environments.{Composed, Instantiation, instant}
use Rattle.subst_laws.proofs.Environs.{instant_is_environment}
use Rattle.subst_laws.proofs.Compose.{composed_bound}
use Rattle.eta_laws.proofs.Expanding.{long}
use Rattle.trace_equal.specs.Exchange.{stop, Joined}
use Rattle.joined_laws.specs.Environments.{JoinedEnvironment, JoinedImage}
use Rattle.joined_laws.proofs.Respect.{joined_bound}
use Rattle.joined_laws.proofs.Results.{respects_all}
use Rattle.pattern_laws.specs.Instantiations.{Instantiated, Types, closed, over, Instantiates}
use Rattle.pattern_laws.specs.Equations.{scoped, Locals}
use Rattle.pattern_laws.proofs.Spines.{under_instant}

-- an object of an instantiation
pub instance_typed : (constants parameters : Types) (o : PlainObject) (a : SimpleType) → SimplyTyped (over constants parameters) o a → Typed false (over constants parameters) o a
instance_typed constants parameters o a p = long (over constants parameters) (λ m. refl) (to_typed true (over constants parameters) o a p)

-- under locals
pub typed_over : (constants parameters : Types) (ls : Locals) (o : PlainObject) (a : SimpleType) → SimplyTyped (scoped ls (over constants parameters)) o a → Typed false (scoped ls (over constants parameters)) o a
typed_over constants parameters ls o a p = long (scoped ls (over constants parameters)) (no_meta ls) (to_typed true (scoped ls (over constants parameters)) o a p)
  where
    no_meta : (ls : Locals) (m : ℕ) → scoped ls (over constants parameters) (Meta m) ≡ None
    no_meta [] m = refl
    no_meta (l ∷ ls) m = no_meta ls m

-- the variables after the locals
pub scoped_out : (ls : Locals) (y : Assignment) (h : Head) → scoped ls y (ren_head (up (length ls)) h) ≡ y h
scoped_out [] y (Const c) = refl
scoped_out [] y (Var i) = ap (λ j. y (Var j)) (none i)
  where
    none : (i : ℕ) → i + 0 ≡ i
    none i = omega arith
scoped_out [] y (Meta m) = refl
scoped_out (t ∷ ls) y (Const c) = scoped_out ls y (Const c)
scoped_out (t ∷ ls) y (Var i) = ap (λ j. extended t.1 (scoped ls y) (Var j)) (sum (length ls)) ∙ scoped_out ls y (Var i)
  where
    sum : (n : ℕ) → i + suc n ≡ suc (i + n)
    sum n = omega arith
scoped_out (t ∷ ls) y (Meta m) = scoped_out ls y (Meta m)

-- A variable that has a type is one of the locals, and has the same type over parameters.
pub scoped_in : (constants metas parameters : Types) (ls : Locals) (v : ℕ) (u : SimpleType) → scoped ls (closed constants metas) (Var v) ≡ Some u → (v < length ls) × (scoped ls (over constants parameters) (Var v) ≡ Some u)
scoped_in constants metas parameters [] v u e = absurd (cc)
scoped_in constants metas parameters (t ∷ ls) zero u e = (omega arith, e)
scoped_in constants metas parameters (t ∷ ls) (suc v) u e = let (h, f) = scoped_in constants metas parameters ls v u e in (omega arith, f)

pub scoped_meta : (ls : Locals) (g : Assignment) (m : ℕ) → scoped ls g (Meta m) ≡ g (Meta m)
scoped_meta [] g m = refl
scoped_meta (t ∷ ls) g m = scoped_meta ls g m

pub keeps : (constants metas parameters : Types) (t : Instantiation) → Instantiates constants metas parameters t → TypedEnvironment true (closed constants metas) (over constants parameters) (instant t)
keeps constants metas parameters t f = (instant_is_environment (closed constants metas)).0 (over constants parameters) t
    ((λ c u e. e), (λ i u e. absurd (cc)), (λ m u e. inr (f m u e)))

-- A typed instantiation is typed under locals, one still does what two do in turn, and what it puts is still joined.
pub typed_scoped : (g z : Assignment) (s : Instantiation) → TypedEnvironment true g z (instant s) → (ls : Locals) → TypedEnvironment true (scoped ls g) (scoped ls z) (under (length ls) (instant s))
typed_scoped g z s f [] = subst (TypedEnvironment true g z) (sym (under_zero (instant s))) f
typed_scoped g z s f (l ∷ ls) = subst (TypedEnvironment true (extended l.1 (scoped ls g)) (extended l.1 (scoped ls z))) (under_instant (length ls) s)
    (keeps_bound true l.1 (scoped ls g) (scoped ls z) (under (length ls) (instant s)) (typed_scoped g z s f ls))

pub composed_scoped : (g : Assignment) (s u v : Instantiation) → Composed g (instant s) (instant u) (instant v) → (ls : Locals) → Composed (scoped ls g) (under (length ls) (instant s)) (under (length ls) (instant u)) (under (length ls) (instant v))
composed_scoped g s u v f [] = subst (λ e. Composed g e (under 0 (instant u)) (under 0 (instant v))) (sym (under_zero (instant s)))
    (subst (λ e. Composed g (instant s) e (under 0 (instant v))) (sym (under_zero (instant u))) (subst (λ e. Composed g (instant s) (instant u) e) (sym (under_zero (instant v))) f))
composed_scoped g s u v f (l ∷ ls) = subst (λ e. Composed (extended l.1 (scoped ls g)) e (under (suc (length ls)) (instant u)) (under (suc (length ls)) (instant v))) (under_instant (length ls) s)
    (subst (λ e. Composed (extended l.1 (scoped ls g)) (under 1 (under (length ls) (instant s))) e (under (suc (length ls)) (instant v))) (under_instant (length ls) u)
    (subst (λ e. Composed (extended l.1 (scoped ls g)) (under 1 (under (length ls) (instant s))) (under 1 (under (length ls) (instant u))) e) (under_instant (length ls) v)
    (composed_bound l.1 (scoped ls g) (under (length ls) (instant s)) (under (length ls) (instant u)) (under (length ls) (instant v)) (composed_scoped g s u v f ls))))

pub joined_scoped : (g : Assignment) (s v : Instantiation) → JoinedEnvironment g (instant s) (instant v) → (ls : Locals) → JoinedEnvironment (scoped ls g) (under (length ls) (instant s)) (under (length ls) (instant v))
joined_scoped g s v f [] = subst (λ e. JoinedEnvironment g e (under 0 (instant v))) (sym (under_zero (instant s))) (subst (λ e. JoinedEnvironment g (instant s) e) (sym (under_zero (instant v))) f)
joined_scoped g s v f (l ∷ ls) = subst (λ e. JoinedEnvironment (extended l.1 (scoped ls g)) e (under (suc (length ls)) (instant v))) (under_instant (length ls) s)
    (subst (λ e. JoinedEnvironment (extended l.1 (scoped ls g)) (under 1 (under (length ls) (instant s))) e) (under_instant (length ls) v)
    (joined_bound l.1 (scoped ls g) (under (length ls) (instant s)) (under (length ls) (instant v)) (joined_scoped g s v f ls)))

pub keeps_under : (constants metas parameters : Types) (t : Instantiation) → Instantiates constants metas parameters t → (ls : Locals) → TypedEnvironment true (scoped ls (closed constants metas)) (scoped ls (over constants parameters)) (under (length ls) (instant t))
keeps_under constants metas parameters t f = typed_scoped (closed constants metas) (over constants parameters) t (keeps constants metas parameters t f)

-- no family has arguments
no_families : Families
no_families f = None

-- A typed tree has an instance, which is typed.
pub instance : (constants metas parameters : Types) (t : Instantiation) → Instantiates constants metas parameters t → (ls : Locals) (o : PlainObject) (a : SimpleType) → SimplyTyped (scoped ls (closed constants metas)) o a
    → (x : PlainObject) × Instantiated (length ls) t o x × SimplyTyped (scoped ls (over constants parameters)) x a
instance constants metas parameters t f ls o a p = (typed_has_result true no_families (scoped ls (closed constants metas)) (scoped ls (over constants parameters)) (under (length ls) (instant t)) (keeps_under constants metas parameters t f ls)).object o a p

-- The sides of joined typed trees have joined instances.
pub respected : (constants metas parameters : Types) (t : Instantiation) → Instantiates constants metas parameters t → (ls : Locals) (o u : PlainObject) (a : SimpleType) → SimplyTyped (scoped ls (closed constants metas)) o a
    → Joined o u → (x y : PlainObject) → Instantiated (length ls) t o x → Instantiated (length ls) t u y → Joined x y
respected constants metas parameters t f ls o u a p j x y i k = (respects_all no_families (scoped ls (closed constants metas)) (scoped ls (over constants parameters)) (under (length ls) (instant t)) (under (length ls) (instant t))
    (keeps_under constants metas parameters t f ls) (keeps_under constants metas parameters t f ls) (λ h v e. itself (under (length ls) (instant t) h))).object o u x y a p j i k
  where
    itself : (i : Image) → JoinedImage i i
    itself (keep h) = inl (h, refl, refl)
    itself (put n) = inr (n, n, refl, refl, stop)
