-- The worked substitutions and exchanges.
use Rattle.std.specs.Prelude.{◌≡◌, true, false, [], ◌∷◌, refl}
use Rattle.std.proofs.Common.{arith}
use Rattle.clf_syntax.specs.declared.tree.Mode.TheVariants.{Linear}
use Rattle.clf_syntax.specs.Tree.{PlainObject, lam, pair, atomic, app, fst, PlainExpression, step}
use Rattle.hered_subst.specs.Substitution.{single, Substituted, through_lam, through_kept, through_value, through_monadic, kept_bare, kept_fst, value_bare, value_app, value_fst, value_snd, step_value, through_done, through_entry, through_empty, flat_step, flat_done, in_family, each_next, each_none}
use Rattle.hered_subst.proofs.Types.{is_determined}
use Rattle.trace_equal.specs.Exchange.{ExchangedExpression, in_right_side, in_later_steps, exchange, stop, next, JoinedExpression, in_monadic}
use Rattle.trace_equal.proofs.Joined.{independence_in_words, stays_neutral, stays_expression}
use Rattle.clf_rules.specs.Examples.{constant, local, variable, z, gold, alone, together}
use Rattle.typing_laws.specs.WorkedTrees.{identity, SubstitutionExamples, dependent, ExchangeExamples}

number_falls : variable 0 ≡ variable 1 → ⊥
number_falls e = cc

not_gold : z ≡ gold → ⊥
not_gold e = cc

nothing : (n : PlainObject) → Substituted (single identity 0) (atomic (fst (local 0))) n → ⊥
nothing n (through_kept (kept_fst (kept_bare e))) = absurd (cc)
nothing n (through_value (value_fst (value_bare e))) = absurd (cc)

under_lambda : Substituted (single (variable 0) 0) (lam Linear (variable 1)) (lam Linear (variable 1))
under_lambda = through_lam (through_value (value_bare refl))

lambdas : lam Linear (variable 1) ≡ lam Linear (variable 0) → ⊥
lambdas e = cc

pub substitution_examples : SubstitutionExamples
substitution_examples = record {
  at_the_variable = through_value (value_bare refl);
  older_variable = through_kept (kept_bare refl);
  older_variable_kept = λ p. number_falls ((is_determined (single z 0)).0 (variable 1) (variable 0) (variable 1) (through_kept (kept_bare refl)) p);
  under_a_binder = under_lambda;
  bound = λ p. lambdas ((is_determined (single (variable 0) 0)).0 (lam Linear (variable 1)) (lam Linear (variable 1)) (lam Linear (variable 0)) under_lambda p);
  applied = through_value (value_app (value_bare refl) (through_kept (kept_bare refl)) (through_value (value_bare refl)));
  first_part = through_value (value_fst (value_bare refl));
  second_part = through_value (value_snd (value_bare refl));
  other_part = λ p. not_gold ((is_determined (single (pair z gold) 0)).0 (atomic (fst (local 0))) z gold (through_value (value_fst (value_bare refl))) p);
  no_pair = nothing;
  in_a_step = through_monadic (step_value (value_bare refl) (through_done (through_entry (through_kept (kept_bare refl)) (through_entry (through_kept (kept_bare refl)) through_empty)))
      (flat_step (flat_step (flat_done refl (through_done (through_entry (through_value (value_bare refl)) (through_entry (through_value (value_bare refl)) through_empty)))))));
  in_an_index = in_family (each_next (through_value (value_bare refl)) each_none);
}

-- ---- exchanges
tf : true ≡ false → ⊥
tf e = cc

in_second_step : {e : PlainExpression} → ExchangedExpression (step (Linear ∷ []) (app Linear (constant 9) (variable 0)) (alone (variable 0))) e → ⊥
in_second_step (in_right_side x) = stays_neutral refl x
in_second_step (in_later_steps x) = stays_expression refl x

no_exchange : {e : PlainExpression} → ExchangedExpression dependent e → ⊥
no_exchange (in_right_side x) = stays_neutral refl x
no_exchange (in_later_steps x) = in_second_step x
no_exchange (exchange {v = v} h k l) = tf ((independence_in_words 1 (app Linear (constant 9) (variable 0))).1 (v, h) 0 (omega arith))

no_other_order : (e : PlainExpression) → JoinedExpression dependent e → e ≡ dependent
no_other_order e stop = refl
no_other_order e (next x p) = absurd (no_exchange x)

in_place : (e : PlainExpression) → JoinedExpression (together z gold) e → e ≡ together z gold
in_place e stop = refl
in_place e (next x p) = absurd (stays_expression refl x)

other_places : together gold z ≡ together z gold → ⊥
other_places e = cc

pub exchange_examples : ExchangeExamples
exchange_examples = record {
  independent_steps = in_monadic (exchange {v = constant 1} refl refl refl);
  dependent_steps = no_other_order;
  entries = λ p. other_places (in_place (together gold z) p);
}
