-- The loop that takes equations apart.
use Rattle.std.specs.Prelude.{◌+◌, ◌≡◌, ◌<◌, List, [], ◌∷◌, ◌++◌, length, map, refl}
use Rattle.std.proofs.Common.{ap, sym, subst, ◌∙◌, arith, ⊎_elim}
use Rattle.std.proofs.lemmas.List.{map-append}
use Rattle.pattern_laws.specs.Instantiations.{Types}
use Rattle.pattern_laws.specs.Equations.{Equation, Listed, listed_here, listed_later, TypedEquation, TypedEquations}
use Rattle.reach_laws.proofs.Down.{listed_behind}
use Rattle.reach_laws.proofs.PartsUnder.{part_typed}
use Rattle.reach_laws.proofs.Rests.{typed_listed}
use Rattle.answer_laws.proofs.InTurn.{listed_cases}
use Rattle.solver_laws.specs.Reduced.{Reduced, LeftOver, work_size}
use Rattle.solver_laws.proofs.Reducing.{work_is_reduced}
use Rattle.celf_constraints.specs.declared.equation.Equation.{Equation as Declared}
use Rattle.celf_constraints.specs.Equated.{plain_equation}
use Rattle.celf_unify.specs.declared.answer.Clash.{Clash}
use Rattle.celf_unify.specs.declared.step.Step.{Step}
use Rattle.celf_unify.specs.Gathered.{PartIn, ClashIn, StepOf, StepIn}
use Rattle.celf_unify.specs.Examined.{ClashOf}

pub none_left : (s : List Declared) → length s ≡ 0 → map plain_equation s ≡ []
none_left [] h = refl
none_left (e ∷ s) h = absurd (omega (arith, h))

-- a stack and what was taken from it
pub popped : (s t : List Declared) (e : Declared) → s ≡ t ++ e ∷ [] → map plain_equation s ≡ map plain_equation t ++ plain_equation e ∷ []
popped s t e h = ap (map plain_equation) h ∙ map-append plain_equation t (e ∷ [])

pub size_append : (a b : List Equation) → work_size (a ++ b) ≡ work_size a + work_size b
size_append [] b = omega arith
size_append (e ∷ a) b = let h = size_append a b in omega (arith, h)

pub parts_smaller : (all ws ds more : List Equation) (e : Equation) → all ≡ ws ++ e ∷ [] → more ≡ ws ++ ds → work_size ds < work_size (e ∷ []) → work_size more < work_size all
parts_smaller all ws ds more e f g h = let a = ap work_size f ∙ size_append ws (e ∷ []) in let b = ap work_size g ∙ size_append ws ds in omega (arith, a, b, h)

pub one_smaller : (all ws : List Equation) (e : Equation) → all ≡ ws ++ e ∷ [] → work_size ws < work_size all
one_smaller all ws e f = let a = ap work_size f ∙ size_append ws (e ∷ []) in omega (arith, a)

module _ (constants metas : Types) (es left all ws : List Equation) (e : Equation) (r : Reduced constants metas es (left ++ all)) (popped_one : all ≡ ws ++ e ∷ []) where
  state : Reduced constants metas es (left ++ (ws ++ e ∷ []))
  state = subst (λ l. Reduced constants metas es (left ++ l)) popped_one r

  last_part : PartIn constants metas es e
  last_part = state.met e (listed_behind e left (ws ++ e ∷ []) (listed_behind e ws (e ∷ []) listed_here))

  pub last_typed : TypedEquations constants metas es → TypedEquation constants metas e
  last_typed t = let (d, l, p) = last_part in part_typed constants metas p (typed_listed constants metas d es l t)

  pub with_parts : (ds more : List Equation) → more ≡ ws ++ ds → Reduced constants metas (e ∷ []) ds → Reduced constants metas es (left ++ more)
  with_parts ds more g q = subst (λ l. Reduced constants metas es (left ++ l)) (sym g) ((work_is_reduced constants metas).last es left ws ds e state q)

  pub with_left_over : (now : List Equation) → now ≡ left ++ e ∷ [] → Reduced constants metas es (now ++ ws)
  with_left_over now g = subst (λ l. Reduced constants metas es (l ++ ws)) (sym g) ((work_is_reduced constants metas).left_over es left ws e state)

  pub clash_in : (c : Clash) → ClashOf constants metas e c → ClashIn constants metas es c
  clash_in c h = record { part = e; is_part = last_part; clashes = h.clashes; under = h.under; left = h.left; right = h.right }

  pub step_in : (step : Step) (rest : List Equation) → rest ≡ ws ++ e ∷ [] → StepOf constants metas e step → StepIn constants metas es rest step
  step_in step rest g h = subst (λ l. StepIn constants metas es l step) (sym g) (record {
    parts = (λ d l. state.met d (listed_behind d left (ws ++ e ∷ []) l));
    equation = e;
    listed = listed_behind e ws (e ∷ []) listed_here;
    step_of = h;
  })

-- what is left over, with one more
pub over_more : (constants metas : Types) (left now : List Equation) (e : Equation) → now ≡ left ++ e ∷ [] → ((d : Equation) → Listed d left → LeftOver constants metas d) → LeftOver constants metas e → (d : Equation) → Listed d now → LeftOver constants metas d
over_more constants metas left now e g f h d l = ⊎_elim (λ k. f d k) (λ k. subst (LeftOver constants metas) (the_one k) h) (listed_cases left (e ∷ []) d (subst (Listed d) g l))
  where
    the_one : {d : Equation} → Listed d (e ∷ []) → e ≡ d
    the_one listed_here = refl
    the_one (listed_later k) = elim k [ ]

pub none_over : (constants metas : Types) (left : List Equation) → left ≡ [] → (d : Equation) → Listed d left → LeftOver constants metas d
none_over constants metas left g d l = absurd (none (subst (Listed d) g l))
  where
    none : Listed d [] → ⊥
    none k = elim k [ ]
