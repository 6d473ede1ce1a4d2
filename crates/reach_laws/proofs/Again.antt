-- With one more solution there is again an assignment with all solutions put in, of which what agrees with the solutions is an instance.
use Rattle.reach_laws.specs.Rest.{IsAssignment}
use Rattle.std.specs.Prelude.{ℕ, ◌≡◌, ◌⊎◌, List, [], Option, Some, None, refl}
use Rattle.std.proofs.Common.{ap, sym, subst, ◌∙◌, inl, inr, ⊎_elim, true}
use Rattle.clf_syntax.specs.Tree.{PlainObject}
use Rattle.clf_syntax.specs.TypeTree.{SimpleType}
use Rattle.clf_syntax.specs.Simple.{SimplyTyped}
use Rattle.hered_subst.specs.Substitution.{Substituted}
use Rattle.hered_subst.proofs.SimpleTyping.{under_zero}
use Rattle.hered_subst.proofs.TypedResults.{typed_has_result, result_is_typed}
use Rattle.trace_equal.specs.Exchange.{Joined}
use Rattle.trace_equal.proofs.Closed.{trail}
use Rattle.subst_laws.specs.Environments.{Instantiation, instant, TypedInstantiation}
use Rattle.subst_laws.proofs.Environs.{instant_is_environment}
use Rattle.store_laws.proofs.Numbers.{number_cases, set_there, set_else, some_none}
use Rattle.store_laws.proofs.Closing.{no_families, Gives, gives_typed, next, composed_next, closed_again, next_gives}
use Rattle.store_laws.specs.Additions.{set}
use Rattle.pattern_laws.specs.Instantiations.{Types, closed, over, Instantiates, Instantiated, Agrees}
use Rattle.pattern_laws.proofs.Instances.{keeps}
use Rattle.unify_laws.proofs.Assign.{agrees_fewer}
use Rattle.unify_laws.proofs.Consequences.{put_in}
use Rattle.reach_laws.specs.Laws.{PutInAgain}
use Rattle.reach_laws.specs.Unified.{IsPutIn}
use Rattle.reach_laws.proofs.Rests.{put_in_types}

one_object : {o : Option PlainObject} {a b : PlainObject} → o ≡ Some a → o ≡ Some b → a ≡ b
one_object e f = cc

-- what t makes of the object that is given to metavariable k, joined with what t gives it
abbrev InstanceAt : Instantiation → ℕ → PlainObject → Type 0
InstanceAt t k z = (u x : PlainObject) × (t k ≡ Some u) × Substituted (instant t) z x × Joined u x

module _ (constants metas parameters : Types) (t : Instantiation) (f : Instantiates constants metas parameters t) where
  -- what an instantiation makes of a tree is joined with what it makes of it after an assignment of which it is an instance
  joined_after : (v : Instantiation) → Agrees t v → Gives (closed constants metas) v → (x y z w : PlainObject) (b : SimpleType) → SimplyTyped (closed constants metas) x b
      → Substituted (instant v) x y → Substituted (instant t) x z → Substituted (instant t) y w → Joined z w
  joined_after v g h x y z w b p i j k = put_in constants metas parameters v t f g h [] x y z w b p (at_none v i) (at_none t j) (at_none t k)
    where
      at_none : (v : Instantiation) {x y : PlainObject} → Substituted (instant v) x y → Instantiated 0 v x y
      at_none v {x} {y} i = subst (λ e. Substituted e x y) (sym (under_zero (instant v))) i

  instance_of : (x : PlainObject) (b : SimpleType) → SimplyTyped (closed constants metas) x b → (y : PlainObject) × Substituted (instant t) x y
  instance_of x b p = let (y, i, _) = (typed_has_result true no_families (closed constants metas) (over constants parameters) (instant t) (keeps constants metas parameters t f)).object x b p in (y, i)

  -- The new solution with all solutions put in, and then what it makes of the others.
  pub instances_again : (given s : Instantiation) → Agrees t s → Gives (closed constants metas) s → (m : ℕ) (o x : PlainObject) (a : SimpleType) → metas m ≡ Some a → SimplyTyped (closed constants metas) o a → SimplyTyped (closed constants metas) x a
      → Substituted (instant s) o x → Agrees t (set m o given) → (v : Instantiation) → Gives (closed constants metas) v
      → ((k : ℕ) (b : SimpleType) → metas k ≡ Some b → ((s k ≡ None) × (v k ≡ set m x (λ i. None) k)) ⊎ ((n y : PlainObject) × (s k ≡ Some n) × (v k ≡ Some y) × Substituted (instant (set m x (λ i. None))) n y))
      → Agrees t v
  instances_again given s agrees_s gives_s m o x a tm to tx put g v gives_v composed k z e = let (b, tb, tz) = gives_v k z e in ⊎_elim
      (λ p. agrees_only k z (sym p.1 ∙ e))
      (λ p. subst (InstanceAt t k) (one_object p.3 e) (at_old p.0 p.1 p.2 p.4))
      (composed k b tb)
    where
      at_new : InstanceAt t m x
      at_new = let (u, y, h, i, j) = g m o (set_there m o given) in let (w, k) = instance_of x a tx in
          (u, w, h, k, trail j (joined_after s agrees_s gives_s o x y w a to put i k))

      agrees_only : Agrees t (set m x (λ i. None))
      agrees_only k y e = ⊎_elim
          (λ h. subst (λ n. InstanceAt t n y) (sym h) (subst (InstanceAt t m) (one_object (set_there m x (λ i. None)) (sym (ap (set m x (λ i. None)) h) ∙ e)) at_new))
          (λ h. absurd (some_none (set_else m k x (λ i. None) h) e)) (number_cases k m)

      gives_only : Gives (closed constants metas) (set m x (λ i. None))
      gives_only k y e = ⊎_elim
          (λ h. (a, ap metas h ∙ tm, subst (λ z. SimplyTyped (closed constants metas) z a) (one_object (set_there m x (λ i. None)) (sym (ap (set m x (λ i. None)) h) ∙ e)) tx))
          (λ h. absurd (some_none (set_else m k x (λ i. None) h) e)) (number_cases k m)

      at_old : (n y : PlainObject) → s k ≡ Some n → Substituted (instant (set m x (λ i. None))) n y → InstanceAt t k y
      at_old n y e i = let (u, w, h, l, j) = agrees_s k n e in let (b, tb, tn) = gives_s k n e in
          let (q, r) = instance_of y b ((result_is_typed true no_families (closed constants metas) (closed constants metas) (instant (set m x (λ i. None)))
          ((instant_is_environment (closed constants metas)).0 (closed constants metas) (set m x (λ i. None)) (gives_typed (closed constants metas) (set m x (λ i. None)) gives_only))).object n y b tn i) in
          (u, q, h, r, trail j (joined_after (set m x (λ i. None)) agrees_only gives_only n y w q b tn i l r))

pub put_in_again : PutInAgain
put_in_again constants metas given s p typed m o x a n e to put free whole = (
  next (closed constants metas) given s p.put_in gives m o x a n e put to tx free whole typed,
  record {
    put_in = closed_again (closed constants metas) given s p.put_in gives m o x a n e put to tx free whole typed;
    assigns = gives_typed (closed constants metas) (next (closed constants metas) given s p.put_in gives m o x a n e put to tx free whole typed) (next_gives (closed constants metas) given s p.put_in gives m o x a n e put to tx free whole typed);
    instances = (λ parameters t f g. instances_again constants metas parameters t f given s (p.instances parameters t f (agrees_fewer t given m o n g)) gives m o x a e to tx put g
        (next (closed constants metas) given s p.put_in gives m o x a n e put to tx free whole typed)
        (next_gives (closed constants metas) given s p.put_in gives m o x a n e put to tx free whole typed)
        (composed_next (closed constants metas) given s p.put_in gives m o x a n e put to tx free whole typed));
  },
)
  where
    gives : Gives (closed constants metas) s
    gives = put_in_types constants metas given s p typed

    tx : SimplyTyped (closed constants metas) x a
    tx = (result_is_typed true no_families (closed constants metas) (closed constants metas) (instant s) ((instant_is_environment (closed constants metas)).0 (closed constants metas) s p.assigns)).object o x a to put
