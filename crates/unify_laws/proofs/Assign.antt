-- The step that solves a metavariable on distinct locals by the other side.
use Rattle.store_laws.proofs.Numbers.{number_cases, set_there, set_else}
use Rattle.std.specs.Prelude.{ℕ, false, ◌≡◌, ◌⊎◌, nat_eq, length, Option, Some, None, refl}
use Rattle.std.proofs.Common.{ap, sym, subst, ◌∙◌, ⊎_elim}
use Rattle.clf_syntax.specs.Tree.{PlainObject}
use Rattle.hered_subst.specs.Substitution.{Substituted}
use Rattle.subst_laws.specs.Environments.{Instantiation, instant}
use Rattle.trace_equal.specs.Exchange.{Joined}
use Rattle.pattern_laws.specs.Patterns.{inverted}
use Rattle.store_laws.specs.Additions.{set}
use Rattle.pattern_laws.specs.Instantiations.{Agrees}
use Rattle.inversion_laws.proofs.Cores.{solution_forced, solution_found}
use Rattle.unify_laws.specs.Laws.{AssignKeeps, AssignSettles}

-- What is there already is another number.
pub another : {X : Type 0} (m k : ℕ) (g : ℕ → Option X) (s : X) → g m ≡ None → g k ≡ Some s → nat_eq k m ≡ false
another m k g s e f = ⊎_elim (λ h. absurd (none_some (sym (ap g h) ∙ f) e)) (λ h. h) (number_cases k m)
  where
    none_some : {o : Option _} → o ≡ Some s → o ≡ None → ⊥
    none_some e f = cc

pub agrees_more : (t given : Instantiation) (m : ℕ) (s : PlainObject) → Agrees t given → (o x : PlainObject) × (t m ≡ Some o) × Substituted (instant t) s x × Joined o x → Agrees t (set m s given)
agrees_more t given m s f g k u e = ⊎_elim
    (λ h. subst (λ k. (o x : PlainObject) × (t k ≡ Some o) × Substituted (instant t) u x × Joined o x) (sym h)
    (subst (λ u. (o x : PlainObject) × (t m ≡ Some o) × Substituted (instant t) u x × Joined o x) (the_same (sym (set_there m s given) ∙ sym (ap (set m s given) h) ∙ e)) g))
    (λ h. f k u (sym (set_else m k s given h) ∙ e))
    (number_cases k m)
  where
    the_same : {a b : PlainObject} → Some a ≡ Some b → a ≡ b
    the_same e = cc

pub agrees_fewer : (t given : Instantiation) (m : ℕ) (s : PlainObject) → given m ≡ None → Agrees t (set m s given) → Agrees t given
agrees_fewer t given m s n f k u e = f k u (set_else m k s given (another m k given u n e) ∙ e)

-- The metavariable of an equation is given the other side, inverted. The equation follows from those of the problem, which stay.
pub assign_step : AssignKeeps
assign_step constants metas given es ls r m ps qs a x con d l n = (
  (λ parameters t s. (t, (λ k b e. refl), (s.0, agrees_more t given m (inverted (length ls) ps x) s.1 (solution_forced constants metas parameters t s.0 ls r m ps qs a d x l (con parameters t s)), s.2))),
  (λ parameters t s. (s.0, agrees_fewer t given m (inverted (length ls) ps x) n s.1, s.2)),
)

-- After it the equation holds by the solutions alone, where each variable of the other side stands at a place.
pub assign_done : AssignSettles
assign_done constants metas given ls r m ps qs a x d tx l cov parameters t s = let (o, w, e, p, j) = s.1 m (inverted (length ls) ps x) (set_there m (inverted (length ls) ps x) given) in
    solution_found constants metas parameters t s.0 ls r m ps qs a d x tx l cov o w e p j
