-- One more solution, which mentions nothing solved: all solutions are put in again.
use Rattle.std.specs.Prelude.{ℕ, false, ◌≡◌, List, [], Option, Some, None}
use Rattle.std.proofs.Common.{ap, sym, subst, ◌∙◌, ⊎_elim}
use Rattle.clf_syntax.specs.Tree.{PlainObject}
use Rattle.clf_syntax.specs.TypeTree.{SimpleType}
use Rattle.clf_syntax.specs.Simple.{SimplyTyped}
use Rattle.hered_subst.specs.Substitution.{Substituted}
use Rattle.subst_laws.specs.Environments.{Instantiation, instant, ComposedInstantiation}
use Rattle.store_laws.specs.Mentions.{mentions}
use Rattle.store_laws.proofs.Numbers.{number_cases, set_there, set_else}
use Rattle.store_laws.proofs.Closing.{Gives, gives_typed, next, composed_next, closed_again, next_gives}
use Rattle.store_laws.specs.Additions.{set}
use Rattle.pattern_laws.specs.Instantiations.{Types, closed}
use Rattle.pattern_laws.specs.Equations.{Equation}
use Rattle.unify_laws.proofs.Assign.{agrees_fewer}
use Rattle.reach_laws.specs.Rest.{IsAssignment}
use Rattle.reach_laws.specs.Unified.{IsPutIn}
use Rattle.reach_laws.proofs.Again.{instances_again}
use Rattle.answer_laws.proofs.Sources.{absorbed_again}
use Rattle.solver_laws.specs.Solving.{FromEarlierSide, unsolved_types}
use Rattle.solver_laws.proofs.Open.{open_stays, open_silent, put_in_twice, closed_tree}

one_object : {a b : PlainObject} → Some a ≡ Some b → a ≡ b
one_object e = cc

module _ (constants metas : Types) (given s : Instantiation) (all : IsPutIn constants metas given s) (gives : Gives (closed constants metas) s) (typed : Gives (closed constants metas) given)
    (m : ℕ) (o : PlainObject) (a : SimpleType) (open_ : given m ≡ None) (type_of : metas m ≡ Some a)
    (typed_o : SimplyTyped (closed constants (unsolved_types metas given)) o a) (free : mentions m o ≡ false) where
  pub closed_o : SimplyTyped (closed constants metas) o a
  closed_o = closed_tree constants metas given o a typed_o

  pub stays : Substituted (instant s) o o
  stays = open_stays constants metas given s all.put_in o a typed_o

  pub whole : (k : ℕ) (u : PlainObject) → given k ≡ Some u → mentions k o ≡ false
  whole k u e = open_silent constants metas given [] o a typed_o k u e

  abbrev pub following : Instantiation
  following = next (closed constants metas) given s all.put_in gives m o o a open_ type_of stays closed_o closed_o free whole typed

  gives_following : Gives (closed constants metas) following
  gives_following = next_gives (closed constants metas) given s all.put_in gives m o o a open_ type_of stays closed_o closed_o free whole typed

  pub following_put_in : IsPutIn constants metas (set m o given) following
  following_put_in = record {
    put_in = closed_again (closed constants metas) given s all.put_in gives m o o a open_ type_of stays closed_o closed_o free whole typed;
    assigns = gives_typed (closed constants metas) following gives_following;
    instances = (λ parameters t f g. instances_again constants metas parameters t f given s (all.instances parameters t f (agrees_fewer t given m o open_ g)) gives m o o a type_of closed_o closed_o stays g following gives_following
        (composed_next (closed constants metas) given s all.put_in gives m o o a open_ type_of stays closed_o closed_o free whole typed));
  }

  -- the new solution alone
  only_gives : Gives (closed constants metas) (set m o (λ k. None))
  only_gives k x e = ⊎_elim
      (λ h. (a, ap metas h ∙ type_of, subst (λ u. SimplyTyped (closed constants metas) u a) (one_object (sym (set_there m o (λ k. None)) ∙ sym (ap (set m o (λ k. None)) h) ∙ e)) closed_o))
      (λ h. absurd (no_object (set_else m k o (λ k. None) h) e)) (number_cases k m)
    where
      no_object : {x : PlainObject} {o : Option PlainObject} → o ≡ None → o ≡ Some x → ⊥
      no_object e f = cc

  -- What does what earlier solutions do and then s, does so after the new one.
  pub following_again : (earlier : Instantiation) → IsAssignment constants metas earlier → ComposedInstantiation (closed constants metas) earlier s s → ComposedInstantiation (closed constants metas) earlier following following
  following_again earlier first both = absorbed_again constants metas earlier s (set m o (λ k. None)) following first all.assigns (gives_typed (closed constants metas) (set m o (λ k. None)) only_gives) both
      (composed_next (closed constants metas) given s all.put_in gives m o o a open_ type_of stays closed_o closed_o free whole typed)

  pub following_after : ComposedInstantiation (closed constants metas) s following following
  following_after = following_again s all.assigns (put_in_twice constants metas given s all.put_in gives)

  pub from_following : (es : List Equation) (u : PlainObject) → FromEarlierSide constants metas es s u → FromEarlierSide constants metas es following u
  from_following es u h = record {
    from = record {
      earlier = h.from.earlier;
      assigns = h.from.assigns;
      absorbed = following_again h.from.earlier h.from.assigns h.from.absorbed;
      equation = h.from.equation;
      after = h.from.after;
      part = h.from.part;
      listed = h.from.listed;
      is_under = h.from.is_under;
      is_part = h.from.is_part;
      places = h.from.places;
      within = h.from.within;
      solution = h.from.solution;
    };
    gives = h.gives;
  }
