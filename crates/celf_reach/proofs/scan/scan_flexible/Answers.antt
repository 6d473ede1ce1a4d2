use Rattle.std.proofs.Common.{ap, subst, ◌∙◌}
use Rattle.clf_syntax.specs.Plain.{plain_obj, plain_neutral}
use Rattle.clf_syntax.specs.Tree.{atomic}
use Rattle.clf_simple.proofs.Lists.{neutral_head}
use Rattle.hered_subst.specs.TypedEnvironments.{is_metavariable}
use Rattle.celf_constraints.specs.Reading.{ReadsLocals}
use Rattle.celf_reach.specs.Scanned.{plain_found}
use Rattle.celf_reach.proofs.Passing.{carried, passes_flexible}
use Rattle.celf_reach.proofs.Situations.{finds_loose, finds_unread, read_there}
use Rattle.celf_reach.proofs.scan.scan_flexible.Goals as goal

pub returns-in_ok-loose-in-None-clause-found : goal.returns-in_ok-loose-in-None-clause-found
returns-in_ok-loose-in-None-clause-found c t e m =
    finds_loose c.args.sought.now c.args.types.now (plain_obj c.args.obj.now) (atomic (plain_neutral c.args.neutral.now)) t (plain_found c.in_ok-loose-in-None.field-0) e c.in_ok-loose-in-None.ensures
    (finds_unread c.args.sought.now c.args.types.now (plain_neutral c.args.neutral.now) t (ap is_metavariable (neutral_head c.args.neutral.now) ∙ m)
    (λ z u h q. subst (ReadsLocals z (plain_neutral c.args.neutral.now) u) c.in-None.is (c.in_ok-read_in_scope.ensures.places z u h q)))

pub returns-in_ok-scan_places-in-Some-clause-found : goal.returns-in_ok-scan_places-in-Some-clause-found
returns-in_ok-scan_places-in-Some-clause-found c t e m =
    c.in_ok-scan_places-in-Some.ensures (plain_neutral c.args.neutral.now) t e (ap is_metavariable (neutral_head c.args.neutral.now) ∙ m)
    (read_there c.args.sought.now c.args.types.now (plain_neutral c.args.neutral.now) t c.in-Some.places
    (λ z u h q. subst (ReadsLocals z (plain_neutral c.args.neutral.now) u) c.in-Some.is (c.in_ok-read_in_scope.ensures.places z u h q)))

pub returns-in_err-read_in_scope-clause-too_far : goal.returns-in_err-read_in_scope-clause-too_far
returns-in_err-read_in_scope-clause-too_far c = carried c.from_residual.result c.in_err-read_in_scope.field-0.0 _ c.from_residual.ensures.1
    (λ t e m. passes_flexible c.args.sought.now c.args.types.now (plain_obj c.args.obj.now) (plain_neutral c.args.neutral.now) t c.in_err-read_in_scope.field-0.0 e (ap is_metavariable (neutral_head c.args.neutral.now) ∙ m)
    c.in_err-read_in_scope.ensures.too_far)
