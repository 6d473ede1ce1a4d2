-- Environments that put joined objects: for a variable, for the objects of a tuple, under binders, of instantiations.
use Rattle.clf_syntax.specs.Simple.{Assignment, erase, extended_over}
use Rattle.clf_syntax.specs.Tree.{PlainObject, PlainTuple}
use Rattle.clf_syntax.specs.TypeTree.{PlainType}
use Rattle.clf_syntax.specs.declared.tree.Head.TheVariants.{Const, Meta, Var}
use Rattle.clf_syntax.specs.declared.tree.Mode.{Mode}
use Rattle.joined_laws.proofs.Respect.{EachJoined, each_exchanged, each_same, j_more, j_none, joined_bound, joined_bounds, joined_putting}
use Rattle.joined_laws.specs.Environments.{JoinedEnvironment}
use Rattle.joined_laws.specs.Laws.{JoinedInstances, JoinedPut, JoinedUnder}
use Rattle.std.proofs.Common.{ap, arith, inl, inr, subst, sym, ⊎_elim, ◌∙◌}
use Rattle.std.specs.Prelude.{List, [], length, refl, suc, ℕ, ◌+◌, ◌-◌, ◌<◌, ◌∷◌, ◌≡◌, ◌≤◌}
use Rattle.trace_equal.proofs.Closed.{trail}
use Rattle.trace_equal.specs.Exchange.{Joined, JoinedTuple, next, stop}
use Rattle.hered_subst.proofs.SimpleTyping.{under_zero}
use Rattle.hered_subst.proofs.Single.{single_at, single_high, single_low}
use Rattle.hered_subst.proofs.TypedEnvironments.{cut3}
use Rattle.hered_subst.specs.Laws.{inserted}
use Rattle.hered_subst.specs.Substitution.{Environment, objects, single, under}
use Rattle.subst_laws.proofs.Environs.{under_sum}
use Rattle.subst_laws.specs.Environments.{image_or}

before : (k i : ℕ) → k < i → i - 1 + 1 ≡ i
before k i h = omega arith

below : (k i : ℕ) → k < i → k ≤ i - 1
below k i h = omega arith

joined_single : (g : Assignment) (k : ℕ) (n o : PlainObject) → Joined n o → JoinedEnvironment g (single n k) (single o k)
joined_single g k n o j (Const c) t e = inl (Const c, refl, refl)
joined_single g k n o j (Meta m) t e = inl (Meta m, refl, refl)
joined_single g k n o j (Var i) t e = ⊎_elim (λ h. inl (Var i, single_low n k i h, single_low o k i h))
    (λ x. ⊎_elim
    (λ q. inr (n, o, ap (λ l. single n k (Var l)) q ∙ single_at n k, ap (λ l. single o k (Var l)) q ∙ single_at o k, j))
    (λ h. inl (Var (i - 1), ap (λ l. single n k (Var l)) (sym (before k i h)) ∙ single_high n k (i - 1) (below k i h), ap (λ l. single o k (Var l)) (sym (before k i h)) ∙ single_high o k (i - 1) (below k i h)))
    x)
    (cut3 k i)

joined_over : (es : List (Mode × PlainType)) (g : Assignment) (s v : Environment) → JoinedEnvironment g s v → JoinedEnvironment (extended_over es g) (under (length es) s) (under (length es) v)
joined_over [] g s v f = subst (λ a. JoinedEnvironment g a (under 0 v)) (sym (under_zero s)) (subst (JoinedEnvironment g s) (sym (under_zero v)) f)
joined_over (e ∷ es) g s v f = subst (λ a. JoinedEnvironment (extended_over (e ∷ es) g) a (under (suc (length es)) v)) (under_sum (length es) s)
    (subst (JoinedEnvironment (extended_over (e ∷ es) g) (under 1 (under (length es) s))) (under_sum (length es) v)
    (joined_bound (erase e.1) (extended_over es g) (under (length es) s) (under (length es) v) (joined_over es g s v f)))

each_trans : {ns os us : List PlainObject} → EachJoined ns os → EachJoined os us → EachJoined ns us
each_trans j_none j_none = j_none
each_trans (j_more j e) (j_more k f) = j_more (trail j k) (each_trans e f)

tuple_joined : {t u : PlainTuple} → JoinedTuple t u → EachJoined (objects t) (objects u)
tuple_joined {t} stop = each_same (objects t)
tuple_joined (next x j) = each_trans (each_exchanged x) (tuple_joined j)

pub joined_put : JoinedPut
joined_put z = ((λ k a n o j. joined_single (inserted k a z) k n o j), (λ ts t u j h a e. joined_putting (tuple_joined j) h))

pub joined_under : JoinedUnder
joined_under g s v f = ((λ d. joined_bound d g s v f), (λ ts. joined_bounds ts g s v f), (λ es. joined_over es g s v f))

pub joined_instances : JoinedInstances
joined_instances g t v p (Const c) a e = inl (Const c, refl, refl)
joined_instances g t v p (Var i) a e = inl (Var i, refl, refl)
joined_instances g t v p (Meta m) a e = ⊎_elim (λ b. inl (Meta m, ap (image_or (Meta m)) b.0, ap (image_or (Meta m)) b.1)) (λ b. inr (b.0, b.1, ap (image_or (Meta m)) b.2, ap (image_or (Meta m)) b.3, b.4)) (p m a e)
