-- All solutions put in: a pass is absorbed, and where no solved metavariable is mentioned nothing changes. And equations without metavariables.
use Rattle.pattern_laws.proofs.Instances.{typed_scoped, composed_scoped}
use Rattle.std.specs.Prelude.{◌≡◌, [], ◌∷◌, length, Option, Some, None, refl}
use Rattle.std.proofs.Common.{subst, inl, inr, ⊎_elim, true}
use Rattle.clf_syntax.specs.declared.tree.Head.{Head}
use Rattle.clf_syntax.specs.declared.tree.Head.TheVariants.{Const, Var, Meta}
use Rattle.clf_syntax.specs.Tree.{PlainObject}
use Rattle.clf_syntax.specs.TypeTree.{SimpleType}
use Rattle.clf_syntax.specs.Simple.{Families, SimplyTyped}
use Rattle.hered_subst.specs.Substitution.{keep, under}
use Rattle.hered_subst.proofs.Determined.{determined}
use Rattle.hered_subst.specs.TypedEnvironments.{TypedEnvironment}
use Rattle.subst_laws.specs.Environments.{Instantiation, instant, Composed, ComposedInstantiation, TypedInstantiation}
use Rattle.subst_laws.proofs.Environs.{instant_is_environment}
use Rattle.subst_laws.proofs.Results.{composition, unmoved}
use Rattle.trace_equal.specs.Exchange.{Joined}
use Rattle.pattern_laws.specs.Instantiations.{Instantiated, Types, closed}
use Rattle.pattern_laws.specs.Equations.{scoped, Locals}
use Rattle.store_laws.specs.PutIn.{PutIn}
use Rattle.pattern_laws.proofs.Spines.{keeps_variables}
use Rattle.unify_laws.specs.Laws.{GroundClashes}

no_families : Families
no_families f = None

module _ (constants metas : Types) (given s : Instantiation) (all : PutIn given s)
    (typed_given : TypedInstantiation (closed constants metas) (closed constants metas) given) (typed : TypedInstantiation (closed constants metas) (closed constants metas) s) where
  one_type : {X : Type 0} {c d : X} {o : Option X} → o ≡ Some c → o ≡ Some d → c ≡ d
  one_type e f = cc

  -- s does what the given solutions do, and then s
  absorbed : ComposedInstantiation (closed constants metas) given s s
  absorbed m a e = ⊎_elim (λ u. inl (u.0, refl)) (λ u. let (x, f, i) = all.solved m u.0 u.1 in inr (u.0, x, u.1, f, i)) (typed_given.2 m a e)

  keeps_given : (ls : Locals) (t : Instantiation) → TypedInstantiation (closed constants metas) (closed constants metas) t → TypedEnvironment true (scoped ls (closed constants metas)) (scoped ls (closed constants metas)) (under (length ls) (instant t))
  keeps_given ls t p = typed_scoped (closed constants metas) (closed constants metas) t ((instant_is_environment (closed constants metas)).0 (closed constants metas) t p) ls

  composed_under : (ls : Locals) → Composed (scoped ls (closed constants metas)) (under (length ls) (instant given)) (under (length ls) (instant s)) (under (length ls) (instant s))
  composed_under = composed_scoped (closed constants metas) given s s ((instant_is_environment (closed constants metas)).1 given s s absorbed)

  -- One pass changes nothing for the whole.
  pub pass_absorbed : (ls : Locals) (o x y : PlainObject) (a : SimpleType) → SimplyTyped (scoped ls (closed constants metas)) o a → Instantiated (length ls) given o x → Instantiated (length ls) s x y → Instantiated (length ls) s o y
  pass_absorbed ls o x y a p i k = (composition no_families (scoped ls (closed constants metas)) (scoped ls (closed constants metas)) (scoped ls (closed constants metas)) (under (length ls) (instant given)) (under (length ls) (instant s)) (under (length ls) (instant s))
      (keeps_given ls given typed_given) (keeps_given ls s typed) (composed_under ls)).object o x y a p i k

-- A tree that is typed without metavariables is left as it is by each instantiation.
pub left_as_is : (constants : Types) (t : Instantiation) (ls : Locals) (o : PlainObject) (a : SimpleType) → SimplyTyped (scoped ls (closed constants (λ m. None))) o a → Instantiated (length ls) t o o
left_as_is constants t ls o a p = (unmoved no_families (scoped ls (closed constants (λ m. None))) (under (length ls) (instant t)) (at_head ls)).object o a p
  where
    at_head : (ls : Locals) (h : Head) (u : SimpleType) → scoped ls (closed constants (λ m. None)) h ≡ Some u → under (length ls) (instant t) h ≡ keep h
    at_head ls (Const c) u e = refl
    at_head ls (Var i) u e = keeps_variables (length ls) t i
    at_head [] (Meta m) u e = absurd (cc)
    at_head (d ∷ ls) (Meta m) u e = absurd (none ls e)
      where
        none : (ls : Locals) → scoped ls (closed constants (λ m. None)) (Meta m) ≡ Some u → ⊥
        none [] e = cc
        none (d ∷ ls) e = none ls e

-- Clash: sides without metavariables that are not joined.
pub ground_clash : GroundClashes
ground_clash constants t ls o u a p q h s = let (x, y, i, k, j) = s in
    h (subst (λ z. Joined z u) (determined i (left_as_is constants t ls o a p)) (subst (λ z. Joined x z) (determined k (left_as_is constants t ls u a q)) j))
