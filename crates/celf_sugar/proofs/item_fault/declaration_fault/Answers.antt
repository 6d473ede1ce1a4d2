use Rattle.std.proofs.Common.{ap, sym, ◌∙◌, ◌-◌, ◌^◌, min}
use Rattle.celf_surface.specs.Surface.{surface, declare}
use Rattle.celf_sugar.specs.ClassLeading.{class_leading}
use Rattle.celf_sugar.proofs.LeadingLaws.{class-leads}
use Rattle.celf_sugar.proofs.AnswerLaws.{faults-first}
use Rattle.celf_sugar.proofs.item_fault.declaration_fault.Goals as goal

pub returns : goal.returns
returns c = λ name. c.first.ensures ∙ faults-first (declare name c.args.implicit (surface c.args.ty.now)) (record { kind_place = c.kind_place.result; not_async = c.not_async.result; redex = c.type_redex.result; out_of_range = c.implicit_outside.result; bad_implicit = c.too_many.result }) c.kind_place.ensures c.not_async.ensures c.type_redex.ensures c.implicit_outside.ensures (c.too_many.ensures (surface c.args.ty.now) (sym (c.class_leading.ensures ∙ ap (λ k. min (class_leading k) (2 ^ 64 - 1)) c.requires ∙ ap (λ n. min n (2 ^ 64 - 1)) (class-leads (surface c.args.ty.now)))))
