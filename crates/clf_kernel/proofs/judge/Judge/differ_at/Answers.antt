use Rattle.std.proofs.Common.{[], sym, subst}
use Rattle.clf_kernel.specs.Answers.{plain_left}
use Rattle.clf_kernel.specs.Stops.{Stops}
use Rattle.clf_kernel.proofs.Stops.{refusal_stops}
use Rattle.clf_kernel.proofs.Differences.{found_ends, wanted_ends, index_refused}
use Rattle.clf_kernel.proofs.judge.Judge.differ_at.Goals.{then-place-found-via-then-place-found, then-place-found-via-else-place-found+then-place-wanted}
use Rattle.clf_kernel.specs.Judge.{context_of}
use Rattle.clf_kernel.proofs.judge.Judge.differ_at.Goals as goal

pub returns-then-place-found-clause-outcome : goal.returns-then-place-found-clause-outcome
returns-then-place-found-clause-outcome c =
    elim c.then-place-found.branch [ then-place-found-via-then-place-found w ↦ found_ends (context_of c.args.self.now) (plain_left c.args.left) c.args.place c.args.found.now c.args.wanted.now c.requires.there w.if-place-found.true | then-place-found-via-else-place-found+then-place-wanted w ↦ wanted_ends (context_of c.args.self.now) (plain_left c.args.left) c.args.place c.args.found.now c.args.wanted.now c.requires.there w.if-place-wanted.true ]

pub returns-clause-outcome : goal.returns-clause-outcome
returns-clause-outcome c =
    subst (λ o. Stops o c.refuse_indices.result)
    (sym (index_refused (context_of c.args.self.now) (plain_left c.args.left) c.args.place c.args.found.now c.args.wanted.now c.requires.there c.index-found-place.result c.index-wanted-place.result c.if-place-found.false c.index-found-place.is c.if-place-wanted.false c.index-wanted-place.is))
    (refusal_stops _ [] _ c.refuse_indices.result c.refuse_indices.ensures)
