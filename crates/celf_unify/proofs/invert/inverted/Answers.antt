use Rattle.std.proofs.Common.{◌≡◌, ◌∙◌, ap, map}
use Rattle.clf_syntax.specs.Plain.{plain_obj}
use Rattle.clf_syntax.specs.Renaming.{ren}
use Rattle.clf_syntax.specs.Renamings.{renumbering_by}
use Rattle.clf_syntax.proofs.OccursLaws.{agreeing}
use Rattle.celf_constraints.specs.Reading.{plain_place}
use Rattle.pattern_laws.specs.Patterns.{lams, inverse}
use Rattle.celf_unify.proofs.invert.inverted.Goals as goal

pub returns-in-Ok-clause-inverted : goal.returns-in-Ok-clause-inverted
returns-in-Ok-clause-inverted c =
    let e : plain_obj c.in-Ok.body ≡ ren (renumbering_by c.in_ok-names.names) (plain_obj c.args.obj.now) = cc (c.in-Ok.ensures.0) in
    c.in_ok-lambdas-in-Ok.ensures ∙ ap (lams (map plain_place c.args.places.now))
    (e ∙ agreeing (renumbering_by c.in_ok-names.names) (inverse c.args.count (map plain_place c.args.places.now)) (plain_obj c.args.obj.now) (λ v o. c.in_ok-names.ensures.inverse v (c.requires.within v o)))
