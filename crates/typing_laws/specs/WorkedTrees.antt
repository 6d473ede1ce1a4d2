-- Worked substitutions and exchanges: what they make of small trees, and what they do not. The constants are those of the kernel's
-- worked judgments.
use Rattle.std.specs.Prelude.{◌≡◌, [], ◌∷◌}
use Rattle.clf_syntax.specs.declared.tree.Mode.TheVariants.{Linear}
use Rattle.clf_syntax.specs.Tree.{PlainObject, lam, pair, monadic, atomic, app, fst, snd, PlainExpression, step}
use Rattle.hered_subst.specs.Substitution.{single, Substituted, SubstitutedType}
use Rattle.trace_equal.specs.Exchange.{Exchanged, JoinedExpression}
use Rattle.clf_rules.specs.Examples.{vec, constant, local, variable, z, gold, minting, alone, together, opened}

-- \x. x
abbrev pub identity : PlainObject
identity = lam Linear (variable 0)

pub record SubstitutionExamples : Type 0 where
  -- z for x in x is z. Of the older variables each falls by one.
  pub at_the_variable : Substituted (single z 0) (variable 0) z
  pub older_variable : Substituted (single z 0) (variable 1) (variable 0)
  pub older_variable_kept : Substituted (single z 0) (variable 1) (variable 1) → ⊥
  -- y for x in \x'. x is \x'. y: the variable that is put is not bound.
  pub under_a_binder : Substituted (single (variable 0) 0) (lam Linear (variable 1)) (lam Linear (variable 1))
  pub bound : Substituted (single (variable 0) 0) (lam Linear (variable 1)) (lam Linear (variable 0)) → ⊥
  -- \x'. x' for x in x e is e, and <z, e> for x in #1 x is z, in #2 x is e.
  pub applied : Substituted (single identity 0) (atomic (app Linear (local 0) gold)) gold
  pub first_part : Substituted (single (pair z gold) 0) (atomic (fst (local 0))) z
  pub second_part : Substituted (single (pair z gold) 0) (atomic (snd (local 0))) gold
  pub other_part : Substituted (single (pair z gold) 0) (atomic (fst (local 0))) gold → ⊥
  -- \x'. x' for x in #1 x is nothing.
  pub no_pair : (n : PlainObject) → Substituted (single identity 0) (atomic (fst (local 0))) n → ⊥
  -- {let {x1} = c in let {x2} = c in [x1, x2]} for x in {let {x1, x2} = x in [x1, x2]} is what is put: its steps come first.
  pub in_a_step : Substituted (single (monadic (minting (minting (together (variable 1) (variable 0))))) 0) opened (monadic (minting (minting (together (variable 1) (variable 0)))))
  -- z for x in v x is v z.
  pub in_an_index : SubstitutedType (single z 0) (vec (variable 0)) (vec z)

-- let {x} = c in let {y} = l x in y, where the second step needs the first
abbrev pub dependent : PlainExpression
dependent = minting (step (Linear ∷ []) (app Linear (constant 9) (variable 0)) (alone (variable 0)))

pub record ExchangeExamples : Type 0 where
  -- let {x} = c in let {y} = c in [x, y] becomes let {y} = c in let {x} = c in [x, y].
  pub independent_steps : Exchanged (monadic (minting (minting (together (variable 1) (variable 0))))) (monadic (minting (minting (together (variable 0) (variable 1)))))
  -- Where the second step needs the first, there is no other order.
  pub dependent_steps : (e : PlainExpression) → JoinedExpression dependent e → e ≡ dependent
  -- The entries of a tuple have their places.
  pub entries : JoinedExpression (together z gold) (together gold z) → ⊥
