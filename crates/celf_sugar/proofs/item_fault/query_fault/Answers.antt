use Rattle.std.proofs.Common.{None, refl, ◌∙◌}
use Rattle.celf_surface.specs.Surface.{surface, query}
use Rattle.celf_sugar.proofs.AnswerLaws.{faults-first}
use Rattle.celf_sugar.proofs.item_fault.query_fault.Goals as goal

pub returns : goal.returns
returns c = c.first.ensures ∙ faults-first (query c.args.d c.args.e c.args.l c.args.a (surface c.args.ty.now)) (record { kind_place = c.kind_place.result; not_async = c.not_async.result; redex = c.type_redex.result; out_of_range = c.query_range.result; bad_implicit = None }) c.kind_place.ensures c.not_async.ensures c.type_redex.ensures c.query_range.ensures refl
