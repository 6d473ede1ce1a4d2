-- What unification finds is most general.
use Rattle.std.proofs.Common.{inr, subst, ⊎_elim, ◌∙◌}
use Rattle.std.specs.Prelude.{None, Option, Some, refl, true, ℕ, ◌≡◌, ◌⊎◌}
use Rattle.clf_syntax.specs.Renaming.{ren_head}
use Rattle.clf_syntax.specs.Simple.{Assignment, Families}
use Rattle.clf_syntax.specs.Tree.{PlainObject}
use Rattle.clf_syntax.specs.TypeTree.{SimpleType}
use Rattle.clf_syntax.specs.declared.tree.Head.{Head}
use Rattle.clf_syntax.specs.declared.tree.Head.TheVariants.{Const, Meta, Var}
use Rattle.hered_subst.proofs.TypedResults.{result_is_typed, typed_has_result}
use Rattle.hered_subst.proofs.Types.{is_determined}
use Rattle.hered_subst.specs.Laws.{ResultsAreTyped, keeping}
use Rattle.hered_subst.specs.Substitution.{keep}
use Rattle.hered_subst.specs.TypedEnvironments.{TypedEnvironment}
use Rattle.trace_equal.specs.Exchange.{Joined, stop}
use Rattle.subst_laws.proofs.Environs.{instant_is_environment}
use Rattle.subst_laws.proofs.Instances.{instances_of_instances}
use Rattle.subst_laws.proofs.Results.{composition, unmoved}
use Rattle.subst_laws.specs.Environments.{Composed, ComposedInstantiation, Instantiation, TypedInstantiation, instant}
use Rattle.subst_laws.specs.Laws.{KeepsTrees}
use Rattle.joined_laws.proofs.Environs.{joined_instances}
use Rattle.joined_laws.proofs.JoinedLaws.{joined_types_laws}
use Rattle.joined_laws.proofs.Results.{respects_all}
use Rattle.joined_laws.specs.Environments.{JoinedEnvironment}
use Rattle.pattern_laws.proofs.Instances.{keeps}
use Rattle.pattern_laws.specs.Instantiations.{Agrees, Instantiates, Types, closed, over}
use Rattle.typing_laws.proofs.FormedTypes.{renames}
use Rattle.reach_laws.specs.Unified.{IsPutIn}
use Rattle.unify_laws.specs.Problems.{Extends, Grows, Problem}
use Rattle.elaboration_laws.specs.General.{IsInstanceUnder, SolutionsAreInstances}

none_given : {s : PlainObject} → None ≡ Some s → ⊥
none_given e = cc

the_object : {x : Option PlainObject} {a b : PlainObject} → x ≡ Some a → x ≡ Some b → a ≡ b
the_object e f = cc

not_none : {x : Option PlainObject} {a : PlainObject} → x ≡ None → x ≡ Some a → ⊥
not_none e f = cc

pub typed_v : (constants metas parameters : Types) (v : Instantiation) → Instantiates constants metas parameters v → TypedInstantiation (closed constants metas) (over constants parameters) v
typed_v constants metas parameters v inst = ((λ c u e. e), (λ i u e. absurd (no_variable e)), (λ m u e. inr (inst m u e)))
  where
    no_variable : {u : SimpleType} → None ≡ Some u → ⊥
    no_variable e = cc

module _ (arguments : Families) (constants metas : Types) (now : Problem) (s : Instantiation) (grows : Grows metas now.metas) (put_in : IsPutIn constants now.metas now.given s)
    (parameters : Types) (t v : Instantiation) (inst_t : Instantiates constants metas parameters t) (extends : Extends metas t v)
    (inst_v : Instantiates constants now.metas parameters v) (agrees : Agrees v s) where
  abbrev g : Assignment
  g = closed constants metas

  abbrev g' : Assignment
  g' = closed constants now.metas

  abbrev z : Assignment
  z = over constants parameters

  larger : (h : Head) (u : SimpleType) → g h ≡ Some u → g' (ren_head (λ i. i) h) ≡ Some u
  larger (Const c) u e = e
  larger (Var i) u e = e
  larger (Meta m) u e = grows m u e

  larger_head : (h : Head) (u : SimpleType) → g h ≡ Some u → g' h ≡ Some u
  larger_head (Const c) u e = e
  larger_head (Var i) u e = e
  larger_head (Meta m) u e = grows m u e

  env_s : TypedEnvironment true g' g' (instant s)
  env_s = (instant_is_environment g').0 g' s put_in.assigns

  env_v : TypedEnvironment true g' z (instant v)
  env_v = (instant_is_environment g').0 z v (typed_v constants now.metas parameters v inst_v)

  -- nothing is changed
  idle : (h : Head) → keeping (λ i. i) h ≡ keep h
  idle (Const c) = refl
  idle (Var i) = refl
  idle (Meta m) = refl

  unchanged : KeepsTrees arguments g (keeping (λ i. i))
  unchanged = unmoved arguments g (keeping (λ i. i)) (λ h u e. idle h)

  larger_trees : ResultsAreTyped true arguments g g' (keeping (λ i. i))
  larger_trees = result_is_typed true arguments g g' (keeping (λ i. i)) (renames g g' (λ i. i) larger)

  module _ (w : Instantiation) (turns : ComposedInstantiation g' s v w) (typed_w : TypedInstantiation g' z w) where
    env_w : TypedEnvironment true g z (instant w)
    env_w h u e = (instant_is_environment g').0 z w typed_w h u (larger_head h u e)

    composed : Composed g' (instant s) (instant v) (instant w)
    composed = (instant_is_environment g').1 s v w turns

    joined_at : (m : ℕ) (a : SimpleType) → g (Meta m) ≡ Some a → ((t m ≡ None) × (w m ≡ None)) ⊎ ((n x : PlainObject) × (t m ≡ Some n) × (w m ≡ Some x) × Joined n x)
    joined_at m a e = let (o, i, j) = inst_t m a e in ⊎_elim
        (λ c. inr (o, o, i, c.1 ∙ extends m a e ∙ i, stop))
        (λ c. let (n, x, k, l, r) = c in let (o', y, i', r', q) = agrees m n k in
        inr (o, x, i, l, subst (λ b. Joined b x) (the_object i' (extends m a e ∙ i)) (subst (λ b. Joined o' b) ((is_determined (instant v)).0 n y x r' r) q)))
        (turns m a (grows m a e))

    joined_env : JoinedEnvironment g (instant t) (instant w)
    joined_env = joined_instances g t w joined_at

    same : IsInstanceUnder arguments constants metas s t v
    same = record {
      objects = λ n m x a p c d. let p' = larger_trees.object n n a p (unchanged.object n a p) in
          let (y, e, f) = (typed_has_result true arguments g' z (instant v) env_v).object m a ((result_is_typed true arguments g' g' (instant s) env_s).object n m a p' c) in
          (y, e, (respects_all arguments g z (instant t) (instant w) (keeps constants metas parameters t inst_t) env_w joined_env).object n n x y a p stop d ((composition arguments g' g' z (instant s) (instant v) (instant w) env_s env_v composed).object n m y a p' c e));
      types = λ n m x p c d. let p' = (larger_trees.type n n p (unchanged.type n p)).0 in
          let (y, e, f, f2) = (typed_has_result true arguments g' z (instant v) env_v).type m ((result_is_typed true arguments g' g' (instant s) env_s).type n m p' c).0 in
          (y, e, (respects_all arguments g z (instant t) (instant w) (keeps constants metas parameters t inst_t) env_w joined_env).type n n x y p (joined_types_laws.type.0 n) d ((composition arguments g' g' z (instant s) (instant v) (instant w) env_s env_v composed).type n m y p' c e));
      telescopes = λ n m x p c d. let p' = (larger_trees.telescope n n p (unchanged.telescope n p)).0 in
          let (y, e, f, f2) = (typed_has_result true arguments g' z (instant v) env_v).telescope m ((result_is_typed true arguments g' g' (instant s) env_s).telescope n m p' c).0 in
          (y, e, (respects_all arguments g z (instant t) (instant w) (keeps constants metas parameters t inst_t) env_w joined_env).telescope n n x y p (joined_types_laws.telescope.0 n) d ((composition arguments g' g' z (instant s) (instant v) (instant w) env_s env_v composed).telescope n m y p' c e));
      kinds = λ n m x p c d. let p' = larger_trees.kind n n p (unchanged.kind n p) in
          let (y, e, f) = (typed_has_result true arguments g' z (instant v) env_v).kind m ((result_is_typed true arguments g' g' (instant s) env_s).kind n m p' c) in
          (y, e, (respects_all arguments g z (instant t) (instant w) (keeps constants metas parameters t inst_t) env_w joined_env).kind n n x y p (joined_types_laws.kind.0 n) d ((composition arguments g' g' z (instant s) (instant v) (instant w) env_s env_v composed).kind n m y p' c e));
    }

pub solutions_are_instances : SolutionsAreInstances
solutions_are_instances arguments constants metas q now s keeps_solutions grows put_in parameters t inst solves =
    let (v, extends, (inst_v, agrees_v, solved)) = keeps_solutions.0 parameters t (inst, (λ m o e. absurd (none_given e)), solves) in
    let (w, turns, typed_w) = instances_of_instances (closed constants now.metas) (closed constants now.metas) (over constants parameters) s v put_in.assigns
    (typed_v constants now.metas parameters v inst_v) in
    (v, inst_v, same arguments constants metas now s grows put_in parameters t v inst extends inst_v (put_in.instances parameters v inst_v agrees_v) w turns typed_w)
