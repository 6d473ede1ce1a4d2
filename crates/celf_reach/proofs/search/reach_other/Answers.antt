use Rattle.std.specs.Prelude.{length, refl}
use Rattle.std.proofs.Common.{ap, sym, subst, ◌∙◌}
use Rattle.clf_syntax.specs.Plain.{plain_obj}
use Rattle.clf_syntax.specs.PlainSimple.{plain_simple}
use Rattle.clf_simple.specs.Scope.{scope}
use Rattle.celf_constraints.specs.Equated.{plain_locals}
use Rattle.celf_constraints.specs.Reading.{plain_places}
use Rattle.reach_walk.specs.Marks.{MarksForeign}
use Rattle.celf_reach.specs.Scanned.{plain_found}
use Rattle.celf_reach.specs.declared.tables.Sought.{Sought}
use Rattle.celf_reach.proofs.Composing.{locals_long, scanned, told_answers}
use Rattle.celf_reach.proofs.Passing.{carried, passes_tables}
use Rattle.celf_reach.proofs.search.reach_other.Goals as goal

pub returns-clause-answer : goal.returns-clause-answer
returns-clause-answer c side n h l =
    let sought : Sought = record {
      consts = c.args.tables.now.consts;
      metas = c.args.tables.now.metas;
      meta = c.args.places.meta;
      count = length c.args.tables.now.locals.now;
      marks = c.as_slice.result;
    } in
    told_answers c.args.tables.now (plain_simple c.args.ty.now) c.args.places (plain_obj c.args.other.now) (plain_found c.in_ok-found.found) c.as_slice.result.now c.told.result c.told.ensures
    (subst (MarksForeign (length (plain_locals c.args.tables.now.locals.now)) (plain_places c.args.places)) (sym c.as_slice.ensures.value)
    (subst (λ m. MarksForeign m (plain_places c.args.places) c.in_ok-marks.marks.items) (sym (locals_long c.args.tables.now.locals.now)) c.in_ok-marks.ensures))
    (λ zs k d. scanned c.args.tables.now (plain_simple c.args.ty.now) sought c.as_slice-2.result.now c.args.places.meta (plain_obj c.args.other.now) (plain_found c.in_ok-found.found) refl refl refl
    (ap scope c.as_slice-2.ensures.value ∙ c.in_ok-types.ensures) c.in_ok-found.ensures.found zs k d) h l side n

pub returns-in_err-found-clause-too_far : goal.returns-in_err-found-clause-too_far
returns-in_err-found-clause-too_far c =
    let sought : Sought = record {
      consts = c.args.tables.now.consts;
      metas = c.args.tables.now.metas;
      meta = c.args.places.meta;
      count = length c.args.tables.now.locals.now;
      marks = c.as_slice.result;
    } in
    carried c.from_residual-in_err-found.result c.in_err-found.field-0.0 _ c.from_residual-in_err-found.ensures.1
    (passes_tables c.args.tables.now (plain_simple c.args.ty.now) sought c.as_slice-2.result.now (plain_obj c.args.other.now) c.in_err-found.field-0.0 (plain_places c.args.places) refl refl
    (subst (MarksForeign (length (plain_locals c.args.tables.now.locals.now)) (plain_places c.args.places)) (sym c.as_slice.ensures.value)
    (subst (λ m. MarksForeign m (plain_places c.args.places) c.in_ok-marks.marks.items) (sym (locals_long c.args.tables.now.locals.now)) c.in_ok-marks.ensures))
    (ap scope c.as_slice-2.ensures.value ∙ c.in_ok-types.ensures) c.in_err-found.ensures.too_far)
