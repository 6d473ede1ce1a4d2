-- How a check that ends before its end answers the outcomes of what stands around.
use Rattle.std.proofs.Common.{◌≡◌, ℕ, suc, List, [], ◌∷◌, length, reverse, Err, refl, sym, ap, subst, ◌∙◌}
use Rattle.clf_syntax.specs.declared.fault.OrWide.{OrWide}
use Rattle.clf_syntax.specs.declared.fault.OrWide.TheVariants.{Fault, NoMemory as NoRoom, TooFar as Far}
use Rattle.clf_syntax.specs.Wide.{IsWide}
use Rattle.use_contexts.specs.Context.{Context, modes}
use Rattle.use_contexts.specs.Holding.{Holding, WellMarked}
use Rattle.clf_kernel.specs.declared.refusal.Refusal.{Refusal}
use Rattle.clf_kernel.specs.declared.refusal.Stop.{Stop}
use Rattle.clf_kernel.specs.declared.refusal.Stop.TheVariants.{Refused, NoMemory, TooFar}
use Rattle.clf_rules.specs.Refusal.{Cause}
use Rattle.clf_decision.specs.Outcome.{Outcome, refused, at_part, and_then}
use Rattle.clf_kernel.specs.Answers.{plain_cause}
use Rattle.clf_kernel.specs.Stops.{Stops, Ends, IsShort, IsPartOf, IsFault, Answers}

pub refusal_stops : (A : Type 0) (path : List ℕ) (cause : Cause) (s : Stop) → Ends path cause s → Stops {A = A} (refused path cause) s
refusal_stops A path cause (Refused outward c) e = ap (λ p. refused p cause) (sym e.0) ∙ ap (λ k. refused (reverse outward.items) k) (sym e.1)
refusal_stops A path cause NoMemory e = tt
refusal_stops A path cause (TooFar w) e = e

-- what comes after a part does not come after a part that is refused
pub then_stops : {A B : Type 0} (want : Outcome A) (f : A → Outcome B) (s : Stop) → Stops want s → Stops (and_then want f) s
then_stops want f (Refused outward c) e = ap (λ w. and_then w f) e
then_stops want f NoMemory e = tt
then_stops want f (TooFar w) e = e

pub short_stops : {A : Type 0} (want : Outcome A) (s : Stop) → IsShort s → Stops want s
short_stops want (Refused outward c) e = absurd e
short_stops want NoMemory e = tt
short_stops want (TooFar w) e = e

pub part_stops : {A : Type 0} (want : Outcome A) (place : ℕ) (s t : Stop) → IsPartOf place s t → Stops want s → Stops (at_part place want) t
part_stops want place (Refused outward c) t e f = subst (λ w. Stops (at_part place w) t) (sym f) (refusal_stops _ (place ∷ reverse outward.items) (plain_cause c) t e)
part_stops want place NoMemory t e f = subst (λ s. Stops (at_part place want) s) (sym e) tt
part_stops want place (TooFar w) t e f = subst (λ s. Stops (at_part place want) s) (sym e) f

pub ruleset stop_laws = (refusal_stops, then_stops, short_stops)

-- what a public call answers where its check ends so
pub fault_answers : {X A : Type 0} (plain : X → A) (want : Outcome A) (s : Stop) (f : OrWide Refusal) → IsFault s f → Stops want s → Answers {X = X} plain want (Err f)
fault_answers plain want (Refused outward c) (Fault r) e p = p ∙ ap (λ l. refused l (plain_cause c)) (sym e.0) ∙ ap (λ k. refused r.path.items (plain_cause k)) (sym e.1)
fault_answers plain want NoMemory NoRoom e p = tt
fault_answers plain want (TooFar w) (Far v) e p = subst IsWide (sym e) p
fault_answers plain want (Refused outward c) NoRoom e p = absurd e
fault_answers plain want (Refused outward c) (Far v) e p = absurd e
fault_answers plain want NoMemory (Fault r) e p = absurd e
fault_answers plain want NoMemory (Far v) e p = absurd e
fault_answers plain want (TooFar w) (Fault r) e p = absurd e
fault_answers plain want (TooFar w) NoRoom e p = absurd e

pub marked_length : (g : Context) (h : Holding) → WellMarked (modes g) h → length h ≡ length g
marked_length [] [] w = refl
marked_length [] (b ∷ h) w = absurd w
marked_length (e ∷ g) [] w = absurd w
marked_length (e ∷ g) (b ∷ h) w = ap suc (marked_length g h w.1)

pub ruleset answer_laws = (fault_answers, marked_length)
