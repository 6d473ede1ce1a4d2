-- From the words of reach to the steps.
use Rattle.std.specs.Prelude.{ℕ, Bool, true, false, suc, ◌+◌, ◌≡◌, ◌⊎◌, nat_eq, List, [], ◌∷◌, ◌++◌, length, Option, Some, None, refl}
use Rattle.std.proofs.Common.{ap, sym, subst, ◌∙◌, arith, inl, inr, ⊎_elim, add-one}
use Rattle.clf_syntax.specs.declared.tree.Mode.{Mode}
use Rattle.clf_syntax.specs.declared.tree.Head.TheVariants.{Const, Var, Meta}
use Rattle.clf_syntax.specs.Tree.{PlainObject, lam, PlainNeutral, PlainExpression, PlainTuple}
use Rattle.clf_syntax.specs.TypeTree.{SimpleType, base, arrow, simple_with, simple_top, lax, SimpleTelescope}
use Rattle.clf_syntax.specs.Simple.{Assignment, extended, simple_modes, SimplyTyped}
use Rattle.clf_syntax.specs.Occurs.{occurs, occurs_neutral, occurs_expression, occurs_tuple}
use Rattle.clf_syntax.proofs.OccursLaws.{either, not_both}
use Rattle.hered_subst.proofs.SimpleTyping.{Typed, typed_lam, typed_pair, typed_unit, typed_monadic, typed_metavariable, typed_atomic, TypedNeutral, typed_bare, typed_app, typed_fst, typed_snd, TypedExpression, typed_step, typed_done, TypedTuple, typed_empty, typed_entry, to_typed, extended_out}
use Rattle.pattern_laws.specs.Patterns.{Place, arrows, local_at, Distinct, Covers, inverse, SameTypes, Ends, ends_here, ends_later, IsFinal, NoForeign}
use Rattle.pattern_laws.specs.Instantiations.{Types, closed}
use Rattle.pattern_laws.specs.Equations.{scoped, Locals}
use Rattle.pattern_laws.proofs.Inverse.{inverse_there}
use Rattle.pattern_laws.proofs.Instances.{scoped_in}
use Rattle.unify_laws.specs.Rigid.{Stands, stands_here, stands_body, stands_left, stands_right, stands_below, StandsBelow, below_argument, below_function, below_fst, below_snd}
use Rattle.reach_laws.specs.Reach.{Standing, standing_here, standing_body, standing_left, standing_right, standing_below, StandingBelow, in_this, in_earlier, under_fst, under_snd}

one_more : (ds : Locals) (d : Mode × SimpleType) → suc (length ds) ≡ length (ds ++ d ∷ [])
one_more [] d = refl
one_more (e ∷ ds) d = ap suc (one_more ds d)

-- What stands at a rigid place, with the types of the binders, stands there under as many binders.
mutual
  pub stands : {g : Assignment} {ds : Locals} {q : PlainNeutral} {c t : SimpleType} {o : PlainObject} → Standing g ds q c o t → Stands (length ds) q o
  stands standing_here = stands_here
  stands (standing_body {ds = ds} {q = q} {d = d} {m = m} {b = b} s) = subst (λ n. Stands n q (lam m b)) (one_more ds (m, d)) (stands_body (stands s))
  stands (standing_left s) = stands_left (stands s)
  stands (standing_right s) = stands_right (stands s)
  stands (standing_below e s) = stands_below e (stands_in s)

  pub stands_in : {g : Assignment} {ds : Locals} {q n : PlainNeutral} {c : SimpleType} → StandingBelow g ds q c n → StandsBelow (length ds) q n
  stands_in (in_this e p s) = below_argument (stands s)
  stands_in (in_earlier s) = below_function (stands_in s)
  stands_in (under_fst s) = below_fst (stands_in s)
  stands_in (under_snd s) = below_snd (stands_in s)
