use Rattle.std.proofs.Common.{arith, ℕ, List}
use Rattle.std.proofs.lemmas.Grind.{common_steps}
use Rattle.celf_front.proofs.Circles.{runs_from}
use Rattle.celf_front.proofs.circle.from_on.Goals as goal

pub returns : goal.returns
returns c =
    let made = λ (part : List ℕ). runs_from c.args.numbers.now c.args.start c.place_of.result part c.place_of.ensures.within c.place_of.ensures.found in
    grind (arith, common_steps, made)
