-- The places of a metavariable on locals are determined by the neutral.
use Rattle.std.specs.Prelude.{ℕ, Bool, true, false, zero, suc, ◌≡◌, if◌then◌else◌, [], ◌∷◌, Some, None, refl}
use Rattle.std.proofs.Common.{ap, sym, ◌∙◌}
use Rattle.clf_syntax.specs.declared.tree.Mode.{Mode}
use Rattle.clf_syntax.specs.declared.tree.Head.TheVariants.{Var}
use Rattle.clf_syntax.specs.Tree.{PlainObject, PlainNeutral, head_alone, app}
use Rattle.eta_laws.specs.Eta.{eta}
use Rattle.pattern_laws.specs.Patterns.{on, blank}
use Rattle.pattern_laws.specs.Laws.{OneReading}
use Rattle.pattern_laws.proofs.EtaVariables.{eta_one}

function_of : {m k : Mode} {r s : PlainNeutral} {o u : PlainObject} → app m r o ≡ app k s u → r ≡ s
function_of e = cc

argument_of : {m k : Mode} {r s : PlainNeutral} {o u : PlainObject} → app m r o ≡ app k s u → o ≡ u
argument_of e = cc

same_place : (b : Bool) (v w : ℕ) → (b ≡ false → v ≡ w) → (if b then None else Some v) ≡ (if b then None else Some w)
same_place true v w f = refl
same_place false v w f = ap (λ n. Some n) (f refl)

-- Two readings of one neutral have the same locals at the same places.
pub one_reading : OneReading
one_reading [] [] m k s e i = refl
one_reading [] (z ∷ zs) m k s e i = absurd s
one_reading (p ∷ ps) [] m k s e i = absurd s
one_reading (p ∷ ps) (z ∷ zs) m k s e zero = same_place (blank p.1) p.2 z.2 (λ b. eta_one p.1 p.2 z.2 b (argument_of e ∙ ap (λ t. eta t (head_alone (Var z.2))) (sym s.1))) ∙ ap (λ t. if blank t then None else Some z.2) s.1
one_reading (p ∷ ps) (z ∷ zs) m k s e (suc i) = one_reading ps zs m k s.2 (function_of e) i
