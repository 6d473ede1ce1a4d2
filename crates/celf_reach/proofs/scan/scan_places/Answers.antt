use Rattle.std.specs.Prelude.{not, refl}
use Rattle.std.specs.Option.{option_map}
use Rattle.std.proofs.Common.{ap, sym, subst, ◌∙◌}
use Rattle.std.proofs.lemmas.Result.{IfOk-weaker}
use Rattle.clf_syntax.specs.Plain.{plain_obj}
use Rattle.celf_constraints.specs.Reading.{plain_places}
use Rattle.celf_reach.specs.Masks.{PrunesTo}
use Rattle.celf_reach.specs.Scanned.{plain_found, plain_prune}
use Rattle.celf_reach.proofs.Misfitting.{finds_at_misfit, finds_at_places}
use Rattle.celf_reach.proofs.scan.scan_places.Goals as goal

pub returns-then-has_misfit : goal.returns-then-has_misfit
returns-then-has_misfit c = IfOk-weaker c.loose.result _ _
    (λ f h n t e m r. finds_at_misfit c.args.sought.now c.args.types.now (plain_obj c.args.obj.now) n t c.args.places (plain_found f) (sym c.has_misfit.ensures ∙ c.if-has_misfit.true) h e m r) c.loose.ensures

pub returns : goal.returns
returns c n t e m r = finds_at_places c.args.sought.now c.args.types.now (plain_obj c.args.obj.now) n t c.args.places _ _ (option_map plain_prune c.in_ok-prune_of.field-0) (sym c.has_misfit.ensures ∙ c.if-has_misfit.false)
    refl (ap not c.mentions.ensures)
    (subst (λ d. PrunesTo c.args.sought.now.marks.now d c.args.places.meta (plain_places c.args.places) (option_map plain_prune c.in_ok-prune_of.field-0)) c.depth.ensures c.in_ok-prune_of.ensures) e m r
