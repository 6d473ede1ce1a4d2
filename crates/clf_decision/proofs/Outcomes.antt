-- Outcomes, one after the other.
use Rattle.std.proofs.Common.{◌≡◌, refl}
use Rattle.clf_decision.specs.Outcome.{Outcome, passed, refused, and_then}

pub then_passed : {A : Type 0} (w : Outcome A) → and_then w passed ≡ w
then_passed (passed a) = refl
then_passed (refused path cause) = refl

pub then_then : {A B C : Type 0} (w : Outcome A) (f : A → Outcome B) (k : B → Outcome C) → and_then (and_then w f) k ≡ and_then w (λ x. and_then (f x) k)
then_then (passed a) f k = refl
then_then (refused path cause) f k = refl

-- what comes after a part, as another does
pub then_same : {A B : Type 0} (w : Outcome A) (f k : A → Outcome B) → ((a : A) → f a ≡ k a) → and_then w f ≡ and_then w k
then_same (passed a) f k e = e a
then_same (refused path cause) f k e = refl

pub then_itself : {A : Type 0} (w : Outcome A) (f : A → Outcome A) → ((a : A) → f a ≡ passed a) → and_then w f ≡ w
then_itself (passed a) f e = e a
then_itself (refused path cause) f e = refl
