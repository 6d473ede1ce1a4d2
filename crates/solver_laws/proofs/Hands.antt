-- Equations in hand: they are typed, mention nothing solved, and are solved by all that solves the given ones; and they go on with the solutions, as those that are held do.
use Rattle.std.specs.Prelude.{ℕ, true, false, ◌≡◌, ◌||◌, Bool, [], ◌∷◌, length, Some, refl}
use Rattle.std.proofs.Common.{sym, subst, ◌∙◌}
use Rattle.clf_syntax.specs.Tree.{PlainObject, PlainNeutral}
use Rattle.clf_syntax.specs.TypeTree.{SimpleType}
use Rattle.clf_syntax.specs.Simple.{Assignment, SimplyTyped}
use Rattle.hered_subst.specs.Substitution.{under}
use Rattle.subst_laws.specs.Environments.{Instantiation, instant, ComposedInstantiation}
use Rattle.subst_laws.proofs.Environs.{instant_is_environment}
use Rattle.subst_laws.proofs.Results.{composition}
use Rattle.store_laws.specs.Mentions.{mentions, mentions_neutral}
use Rattle.store_laws.proofs.Closing.{no_families, Gives}
use Rattle.pattern_laws.specs.Instantiations.{Types, closed, Instantiated}
use Rattle.pattern_laws.specs.Equations.{Locals, scoped, Equation, TypedEquation, TypedEquations, Listed}
use Rattle.pattern_laws.proofs.Instances.{typed_scoped, composed_scoped}
use Rattle.unify_laws.specs.Parts.{PartAt, part_here, part_function, part_fst, part_snd}
use Rattle.unify_laws.specs.Problems.{Problem, Grows, Consequence}
use Rattle.unify_laws.proofs.Consequences.{listed_solved}
use Rattle.unify_laws.proofs.Preserved.{equations_more}
use Rattle.reach_laws.specs.Rest.{IsAssignment, PartOf, part_itself, part_body, part_left, part_right, part_argument, EquationUnder}
use Rattle.reach_laws.proofs.PartsUnder.{part_typed, parts_stay, some_result}
use Rattle.reach_laws.proofs.Rests.{typed_listed, typed_under, part_solved, each_solved, put_in_types}
use Rattle.answer_laws.proofs.InTurn.{part_of_part, one_under}
use Rattle.solver_laws.specs.Solving.{Solving, InHand, Held, unsolved_types}
use Rattle.solver_laws.proofs.Grown.{part_grown}
use Rattle.solver_laws.proofs.Open.{open_typed, open_silent, equation_open, put_in_twice}

first_false : (a b : Bool) → a || b ≡ false → a ≡ false
first_false true b e = absurd (cc)
first_false false b e = refl

second_false : (a b : Bool) → a || b ≡ false → b ≡ false
second_false true b e = absurd (cc)
second_false false b e = e

argument_silent : {g : Assignment} {o u : PlainObject} {c : SimpleType} {r n : PlainNeutral} → PartAt g o u c r n → (k : ℕ) → mentions_neutral k r ≡ false → mentions_neutral k n ≡ false → (mentions k o ≡ false) × (mentions k u ≡ false)
argument_silent (part_here e t) k f h = (second_false _ _ f, second_false _ _ h)
argument_silent (part_function p) k f h = argument_silent p k (first_false _ _ f) (first_false _ _ h)
argument_silent (part_fst p) k f h = argument_silent p k f h
argument_silent (part_snd p) k f h = argument_silent p k f h

-- What an equation does not mention its parts do not mention.
pub part_silent : {constants metas : Types} {e d : Equation} → PartOf constants metas e d → (k : ℕ) → mentions k e.left ≡ false → mentions k e.right ≡ false → (mentions k d.left ≡ false) × (mentions k d.right ≡ false)
part_silent part_itself k f h = (f, h)
part_silent (part_body p) k f h = part_silent p k f h
part_silent (part_left r s d p) k f h = let (a, b) = part_silent p k f h in (first_false _ _ a, first_false _ _ b)
part_silent (part_right l n c p) k f h = let (a, b) = part_silent p k f h in (second_false _ _ a, second_false _ _ b)
part_silent (part_argument r n a p s q) k f h = let (b, c) = part_silent p k f h in argument_silent q k b c

module _ (constants : Types) (start now : Problem) (s : Instantiation) (solving : Solving constants start now s) where
  pub solving_gives : Gives (closed constants now.metas) s
  solving_gives = put_in_types constants now.metas now.given s solving.put_in solving.progress.typed.1

  -- the given equations are typed now too
  pub given_typed : TypedEquations constants now.metas start.equations
  given_typed = subst (TypedEquations constants now.metas) solving.progress.same solving.progress.typed.0

  after_typed : (e : Equation) (h : InHand constants start now s e) → TypedEquation constants now.metas h.after
  after_typed e h = (typed_under constants now.metas s solving.put_in.assigns (h.equation ∷ []) (h.after ∷ []) (typed_listed constants now.metas h.equation start.equations h.listed given_typed, tt) (h.is_under, tt)).0

  pub hand_typed : (e : Equation) → InHand constants start now s e → TypedEquation constants now.metas e
  hand_typed e h = part_typed constants now.metas h.is_part (after_typed e h)

  pub hand_silent : (e : Equation) → InHand constants start now s e → (k : ℕ) (o : PlainObject) → now.given k ≡ Some o → (mentions k e.left ≡ false) × (mentions k e.right ≡ false)
  hand_silent e h k o f = part_silent h.is_part k (open_silent constants now.metas now.given h.after.locals h.after.left h.after.type after_open.0 k o f) (open_silent constants now.metas now.given h.after.locals h.after.right h.after.type after_open.1 k o f)
    where
      after_open : TypedEquation constants (unsolved_types now.metas now.given) h.after
      after_open = equation_open constants now.metas now.given s solving.put_in.put_in solving_gives h.equation h.after (typed_listed constants now.metas h.equation start.equations h.listed given_typed) h.is_under

  pub hand_open : (e : Equation) → InHand constants start now s e → TypedEquation constants (unsolved_types now.metas now.given) e
  hand_open e h = (open_typed constants now.metas now.given e.locals e.left e.type (hand_typed e h).0 (λ k o f. (hand_silent e h k o f).0), open_typed constants now.metas now.given e.locals e.right e.type (hand_typed e h).1 (λ k o f. (hand_silent e h k o f).1))

  pub hand_follows : (e : Equation) → InHand constants start now s e → Consequence constants now e
  hand_follows e h parameters t sol = part_solved constants now.metas t h.is_part
      ((each_solved constants now.metas parameters s t sol.0 (solving.put_in.instances parameters t sol.0 sol.1) solving_gives (h.equation ∷ []) (h.after ∷ [])
      (typed_listed constants now.metas h.equation start.equations h.listed given_typed, tt) (h.is_under, tt)).0
      (listed_solved t h.equation now.equations (subst (Listed h.equation) (sym solving.progress.same) h.listed) sol.2, tt)).0

  -- a part of what is in hand
  pub part_in_hand : (e d : Equation) → InHand constants start now s e → PartOf constants now.metas e d → InHand constants start now s d
  part_in_hand e d h p = record { equation = h.equation; after = h.after; listed = h.listed; is_under = h.is_under; is_part = part_of_part p h.is_part }

-- An assignment that does what another does and then itself.
absorbed : (constants metas : Types) (s v : Instantiation) → IsAssignment constants metas s → IsAssignment constants metas v → ComposedInstantiation (closed constants metas) s v v
    → (ls : Locals) (x y z : PlainObject) (a : SimpleType) → SimplyTyped (scoped ls (closed constants metas)) x a → Instantiated (length ls) s x y → Instantiated (length ls) v y z → Instantiated (length ls) v x z
absorbed constants metas s v first second both ls x y z a p i k = (composition no_families (scoped ls (closed constants metas)) (scoped ls (closed constants metas)) (scoped ls (closed constants metas)) (under (length ls) (instant s)) (under (length ls) (instant v)) (under (length ls) (instant v))
    (typed_scoped (closed constants metas) (closed constants metas) s ((instant_is_environment (closed constants metas)).0 (closed constants metas) s first) ls)
    (typed_scoped (closed constants metas) (closed constants metas) v ((instant_is_environment (closed constants metas)).0 (closed constants metas) v second) ls)
    (composed_scoped (closed constants metas) s v v ((instant_is_environment (closed constants metas)).1 s v v both) ls)).object x y z a p i k

-- What v makes of an equation after s, where it does what s does and then itself, it makes of the equation.
under_absorbed : (constants metas : Types) (s v : Instantiation) → IsAssignment constants metas s → IsAssignment constants metas v → ComposedInstantiation (closed constants metas) s v v
    → (e d u : Equation) → TypedEquation constants metas e → EquationUnder s e d → EquationUnder v d u → EquationUnder v e u
under_absorbed constants metas s v first second both e d u t i k = record {
  locals = k.locals ∙ i.locals;
  type = k.type ∙ i.type;
  left = absorbed constants metas s v first second both e.locals e.left d.left u.left e.type t.0 i.left (subst (λ ls. Instantiated (length ls) v d.left u.left) i.locals k.left);
  right = absorbed constants metas s v first second both e.locals e.right d.right u.right e.type t.1 i.right (subst (λ ls. Instantiated (length ls) v d.right u.right) i.locals k.right);
}

-- An assignment makes an equation of each.
pub result_under : (constants metas : Types) (v : Instantiation) → IsAssignment constants metas v → (e : Equation) → TypedEquation constants metas e → (d : Equation) × EquationUnder v e d
result_under constants metas v f e t = let (x, i, _) = some_result constants metas v f e.locals e.left e.type t.0 in let (y, k, _) = some_result constants metas v f e.locals e.right e.type t.1 in
    (record { locals = e.locals; left = x; right = y; type = e.type }, record { locals = refl; type = refl; left = i; right = k })

-- What is in hand goes on with more solutions.
hand_moves : (constants : Types) (start now then : Problem) (s v : Instantiation) → Solving constants start now s → Solving constants start then v → Grows now.metas then.metas
    → ComposedInstantiation (closed constants then.metas) s v v → IsAssignment constants then.metas s → (e d : Equation) → InHand constants start now s e → EquationUnder v e d → InHand constants start then v d
hand_moves constants start now then s v before after grows both first e d h u = of (result_under constants then.metas v after.put_in.assigns h.after typed_after)
  where
    typed_given : TypedEquation constants then.metas h.equation
    typed_given = typed_listed constants then.metas h.equation start.equations h.listed (given_typed constants start then v after)

    typed_after : TypedEquation constants then.metas h.after
    typed_after = (typed_under constants then.metas s first (h.equation ∷ []) (h.after ∷ []) (typed_given, tt) (h.is_under, tt)).0

    of : (x : Equation) × EquationUnder v h.after x → InHand constants start then v d
    of (x, i) = record {
      equation = h.equation;
      after = x;
      listed = h.listed;
      is_under = under_absorbed constants then.metas s v first after.put_in.assigns both h.equation h.after x typed_given h.is_under i;
      is_part = (parts_stay constants then.metas h.after e (part_grown constants now.metas then.metas grows h.is_part) typed_after).1 v after.put_in.assigns x d i u;
    }

-- ---- equations that are held

module _ (constants : Types) (start now : Problem) (s : Instantiation) (solving : Solving constants start now s) where
  -- The solutions leave what is in hand as it is.
  pub hand_holds : (e : Equation) → InHand constants start now s e → Held constants start now s e
  hand_holds e h = let (d, u) = result_under constants now.metas s solving.put_in.assigns e typed in record {
    typed = typed;
    after = d;
    is_under = u;
    in_hand = hand_moves constants start now now s s solving solving (λ m a f. f)
        (put_in_twice constants now.metas now.given s solving.put_in.put_in (solving_gives constants start now s solving)) solving.put_in.assigns e d h u;
  }
    where
      typed : TypedEquation constants now.metas e
      typed = hand_typed constants start now s solving e h

  pub held_hand : (e d : Equation) → Held constants start now s e → EquationUnder s e d → InHand constants start now s d
  held_hand e d h u = subst (InHand constants start now s) (one_under s e h.after d h.is_under u) h.in_hand

-- What is held goes on with more solutions.
pub held_moves : (constants : Types) (start now then : Problem) (s v : Instantiation) → Solving constants start now s → Solving constants start then v → Grows now.metas then.metas
    → ComposedInstantiation (closed constants then.metas) s v v → IsAssignment constants then.metas s → (e : Equation) → Held constants start now s e → Held constants start then v e
held_moves constants start now then s v before after grows both first e h = of (result_under constants then.metas v after.put_in.assigns h.after typed_after)
  where
    typed : TypedEquation constants then.metas e
    typed = (equations_more constants now.metas then.metas grows (e ∷ []) (h.typed, tt)).0

    typed_after : TypedEquation constants then.metas h.after
    typed_after = (typed_under constants then.metas s first (e ∷ []) (h.after ∷ []) (typed, tt) (h.is_under, tt)).0

    of : (u : Equation) × EquationUnder v h.after u → Held constants start then v e
    of (u, i) = record {
      typed = typed;
      after = u;
      is_under = under_absorbed constants then.metas s v first after.put_in.assigns both e h.after u typed h.is_under i;
      in_hand = hand_moves constants start now then s v before after grows both first h.after u h.in_hand i;
    }
