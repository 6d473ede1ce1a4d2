use Rattle.std.proofs.Common.{subst, sym, ◌∙◌, arith, ◌≡◌, ◌≤◌, ◌+◌, ◌-◌, ℕ, length, refl}
use Rattle.clf_syntax.specs.Plain.{plain_obj}
use Rattle.clf_syntax.specs.Renaming.{up}
use Rattle.hered_subst.specs.Substitution.{put, ren_image}
use Rattle.hered_put.specs.Answers.{Answers}
use Rattle.hered_put.specs.Outcomes.{plain_outcome}
use Rattle.hered_put.specs.Pieces.{image_of}
use Rattle.hered_put.proofs.Environments.{tuple-rest, tuple-image, written-far}
use Rattle.hered_put.proofs.head.tuple_outcome.Goals as goal

pub returns-then-place-tuple : goal.returns-then-place-tuple
returns-then-place-tuple c =
    let e = tuple-image c.args.raised c.args.index c.args.tuple.now c.index-tuple-tuple.result (omega arith) c.index-tuple-tuple.is in
    rw e (subst (λ y. Answers plain_outcome (image_of (ren_image (up c.args.binders) (put (plain_obj y.obj)))) c.shifted.result) (sym c.index-tuple-tuple.is) c.shifted.ensures)

pub returns-in-Some : goal.returns-in-Some
returns-in-Some c =
    let e : c.args.index - length c.args.tuple.now + c.args.binders + c.args.raised ≡ c.in-Some.number = omega (arith, c.in-Some.ensures) in
    let r = tuple-rest c.args.binders c.args.raised c.args.index c.args.tuple.now c.in-Some.number (omega arith) e in
    rw r c.kept_variable.ensures

pub returns-in-None : goal.returns-in-None
returns-in-None c =
    let j : ℕ = c.args.index - length c.args.tuple.now + c.args.binders + c.args.raised in
    let far : 4294967296 ≤ j = omega (arith, c.in-None.ensures) in
    tuple-rest c.args.binders c.args.raised c.args.index c.args.tuple.now j (omega arith) refl ∙ written-far j far
