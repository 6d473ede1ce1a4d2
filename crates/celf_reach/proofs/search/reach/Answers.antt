use Rattle.std.proofs.lemmas.Result.{IfOk-weaker}
use Rattle.celf_reach.proofs.search.reach.Goals as goal

pub returns-in-Some : goal.returns-in-Some
returns-in-Some c = record { answer = IfOk-weaker c.reach_neutral.result _ _ (λ r h. h c.in-Some.ensures) c.reach_neutral.ensures.answer; too_far = c.reach_neutral.ensures.too_far }

pub returns-in-None : goal.returns-in-None
returns-in-None c = record { answer = λ s d r. c.in-None.ensures r.neutral r.is_neutral; too_far = tt }
