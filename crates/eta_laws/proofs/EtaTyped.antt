-- Eta-long forms and simple typing.
use Rattle.clf_syntax.specs.Renaming.{up}
use Rattle.clf_syntax.specs.Simple.{Assignment, extended, extended_by, simple_modes}
use Rattle.clf_syntax.specs.Tree.{PlainExpression, PlainNeutral, PlainObject, PlainTuple, app, atomic, done, empty, head_alone, monadic, step}
use Rattle.clf_syntax.specs.TypeTree.{SimpleTelescope, SimpleType, arrow, base, lax, simple_binding, simple_end, simple_top, simple_with}
use Rattle.clf_syntax.specs.declared.tree.Head.TheVariants.{Meta, Var}
use Rattle.clf_syntax.specs.declared.tree.Mode.{Mode}
use Rattle.eta_laws.proofs.EtaLaws.{all_same, eta_near}
use Rattle.eta_laws.specs.Eta.{becoming, eta, variables}
use Rattle.eta_laws.specs.Laws.{EtaIsTyped, EtaRenames, EtaRenamesNoMore}
use Rattle.std.proofs.Common.{ap, arith, ◌∙◌}
use Rattle.std.specs.Prelude.{Bool, Some, [], false, length, refl, true, ℕ, ◌+◌, ◌<◌, ◌≡◌}
use Rattle.hered_subst.proofs.Determined.{determined}
use Rattle.hered_subst.proofs.SimpleTyping.{Typed, TypedExpression, TypedNeutral, TypedTuple, extended_out, not_allowed, of_typed, rank, renamed_typed_neutral, to_expression, to_neutral, to_typed, typed_app, typed_atomic, typed_bare, typed_done, typed_empty, typed_entry, typed_fst, typed_lam, typed_metavariable, typed_monadic, typed_pair, typed_snd, typed_step, typed_unit}
use Rattle.hered_subst.proofs.Total.{raised_types}
use Rattle.hered_subst.specs.Substitution.{Substituted, kept_app, kept_bare, single, step_meta, through_done, through_empty, through_kept, through_monadic, through_value, value_app, value_bare}

-- what is eta-long is simply typed
mutual
  loosened : {g : Assignment} {o : PlainObject} {t : SimpleType} → Typed false g o t → Typed true g o t
  loosened (typed_lam p) = typed_lam (loosened p)
  loosened (typed_pair p q) = typed_pair (loosened p) (loosened q)
  loosened typed_unit = typed_unit
  loosened (typed_monadic p) = typed_monadic (loosened_expression p)
  loosened (typed_metavariable i p e) = absurd (not_allowed i)
  loosened (typed_atomic p) = typed_atomic (loosened_neutral p)

  loosened_neutral : {g : Assignment} {n : PlainNeutral} {t : SimpleType} → TypedNeutral false g n t → TypedNeutral true g n t
  loosened_neutral (typed_bare e) = typed_bare e
  loosened_neutral (typed_app p q) = typed_app (loosened_neutral p) (loosened q)
  loosened_neutral (typed_fst p) = typed_fst (loosened_neutral p)
  loosened_neutral (typed_snd p) = typed_snd (loosened_neutral p)

  loosened_expression : {g : Assignment} {e : PlainExpression} {s : SimpleTelescope} → TypedExpression false g e s → TypedExpression true g e s
  loosened_expression (typed_step p m q) = typed_step (loosened_neutral p) m (loosened_expression q)
  loosened_expression (typed_done p) = typed_done (loosened_tuple p)

  loosened_tuple : {g : Assignment} {x : PlainTuple} {s : SimpleTelescope} → TypedTuple false g x s → TypedTuple true g x s
  loosened_tuple typed_empty = typed_empty
  loosened_tuple (typed_entry p q) = typed_entry (loosened p) (loosened_tuple q)

-- the eta-long form has the type of the neutral
mutual
  pub eta_typed : (w : Bool) (g : Assignment) (t : SimpleType) {n : PlainNeutral} → TypedNeutral w g n t → Typed w g (eta t n) t
  eta_typed w g (base a) p = typed_atomic p
  eta_typed w g (arrow m d c) p = typed_lam (eta_typed w (extended d g) c (typed_app (renamed_typed_neutral (extended d g) (up 1) p (raised_types d g)) (eta_typed w (extended d g) d (typed_bare refl))))
  eta_typed w g (simple_with c d) p = typed_pair (eta_typed w g c (typed_fst p)) (eta_typed w g d (typed_snd p))
  eta_typed w g simple_top p = typed_unit
  eta_typed w g (lax ts) p = typed_monadic (typed_step p refl (typed_done (variables_typed w ts g (extended_by ts g) (λ i h. refl))))

  variables_typed : (w : Bool) (ts : SimpleTelescope) (g f : Assignment) → ((i : ℕ) → i < length (simple_modes ts) → f (Var i) ≡ extended_by ts g (Var i)) → TypedTuple w f (variables ts) ts
  variables_typed w simple_end g f h = typed_empty
  variables_typed w (simple_binding m t ts) g f h = typed_entry (eta_typed w f t (typed_bare (h (length (simple_modes ts)) (omega arith) ∙ newest))) (variables_typed w ts (extended t g) f (λ i l. h i (omega arith)))
    where
      plain_sum : (n : ℕ) → n ≡ 0 + n
      plain_sum n = omega arith

      newest : extended_by ts (extended t g) (Var (length (simple_modes ts))) ≡ Some t
      newest = ap (λ j. extended_by ts (extended t g) (Var j)) (plain_sum (length (simple_modes ts))) ∙ extended_out ts (extended t g) 0

pub eta_is_typed : EtaIsTyped
eta_is_typed = (
  (λ w g n t p. of_typed (eta_typed w g t (to_neutral w g n t p))),
  (λ g o t p. of_typed (loosened (to_typed false g o t p))),
)

pub eta_renames : EtaRenames
eta_renames g z k j u q f = (
  (λ o t p. (all_same (rank u) g z (becoming k j) (single (eta u (head_alone (Var j))) k) (eta_near g z k j u q f)).0 o t (to_typed false g o t p)),
  (λ e s p. (all_same (rank u) g z (becoming k j) (single (eta u (head_alone (Var j))) k) (eta_near g z k j u q f)).1 e s (to_expression false g e s p)),
)

-- where a metavariable stands at a monad
becomes : (m : Mode) → Substituted (single (eta (arrow m (lax simple_end) (base 0)) (head_alone (Var 0))) 0) (atomic (app m (head_alone (Var 0)) (atomic (head_alone (Meta 0))))) (atomic (app m (head_alone (Var 0)) (monadic (step [] (head_alone (Meta 0)) (done empty)))))
becomes m = through_value (value_app (value_bare refl) (through_kept (kept_bare refl)) (through_kept (kept_app (kept_bare refl) (through_monadic (step_meta (value_bare refl) refl (through_done through_empty))))))

differs : (m : Mode) → atomic (app m (head_alone (Var 0)) (monadic (step [] (head_alone (Meta 0)) (done empty)))) ≡ atomic (app m (head_alone (Var 0)) (atomic (head_alone (Meta 0)))) → ⊥
differs m e = cc

pub eta_renames_no_more : EtaRenamesNoMore
eta_renames_no_more m p = differs m (determined (becomes m) p)
