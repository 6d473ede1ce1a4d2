-- How a walk that ends before its end answers what stands around.
use Rattle.std.proofs.Common.{◌≡◌, ap, subst, sym}
use Rattle.hered_put.specs.declared.fault.PutFault.{PutFault}
use Rattle.hered_put.specs.declared.fault.PutFault.TheVariants.{Untyped, TooFar, NoMemory}
use Rattle.hered_put.specs.Answers.{FailsAs}
use Rattle.hered_put.specs.Function.{Answer, untyped, after}
use Rattle.celf_gather.specs.declared.stop.Stop.{Stop}
use Rattle.celf_gather.specs.declared.stop.Stop.TheVariants.{Misfit, Short}
use Rattle.celf_gather.specs.Stops.{Stops, IsShort, IsUnput}

-- nothing comes after a part of which nothing is gathered
pub then_stops : {A B : Type 0} (want : Answer A) (f : A → Answer B) (s : Stop) → Stops want s → Stops (after want f) s
then_stops want f Misfit e = ap (λ w. after w f) e
then_stops want f (Short w) e = e

pub short_stops : {A : Type 0} (want : Answer A) (s : Stop) → IsShort s → Stops want s
short_stops want Misfit e = absurd e
short_stops want (Short w) e = e

pub unput_stops : {A : Type 0} (want : Answer A) (fault : PutFault) (s : Stop) → FailsAs want fault → IsUnput fault s → Stops want s
unput_stops want Untyped s p e = subst (Stops want) (sym e) p
unput_stops want TooFar s p e = short_stops want s e
unput_stops want NoMemory s p e = short_stops want s e

pub misfit_stops : {A : Type 0} (want : Answer A) {s : Stop} → s ≡ Misfit → Stops want s → want ≡ untyped
misfit_stops want e p = subst (Stops want) e p

pub ruleset stop_laws = (then_stops, short_stops)
