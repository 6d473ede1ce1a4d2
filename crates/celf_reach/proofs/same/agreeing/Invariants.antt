use Rattle.celf_constraints.specs.Reading.{plain_places}
use Rattle.celf_reach.proofs.Agreed.{AgreedTo}
use Rattle.celf_reach.proofs.same.agreeing.Given as goal

abbrev pub invariant-loop-place : goal.invariant-loop-place
invariant-loop-place l = AgreedTo (plain_places l.places) (plain_places l.others) l.place l.mask.items
