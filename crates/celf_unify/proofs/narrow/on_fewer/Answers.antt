use Rattle.std.proofs.Common.{◌<◌, ◌∙◌, map, ap, sym, subst}
use Rattle.clf_syntax.specs.declared.tree.Obj.{At}
use Rattle.clf_syntax.specs.Plain.{plain_obj, plain_neutral, plain-At}
use Rattle.clf_syntax.specs.PlainSimple.{plain_simple}
use Rattle.std.specs.List.{slice_get}
use Rattle.clf_syntax.specs.declared.tree.Head.TheVariants.{Meta}
use Rattle.clf_syntax.specs.Tree.{head_alone}
use Rattle.store_laws.specs.Additions.{meta_types}
use Rattle.metavars.specs.Stored.{additions}
use Rattle.celf_constraints.specs.Reading.{plain_place}
use Rattle.pattern_laws.specs.Patterns.{arrows, lams, on, masked}
use Rattle.celf_unify.proofs.Shapes.{narrows, get_there, counted}
use Rattle.celf_unify.proofs.narrow.on_fewer.Goals as goal

pub returns-clause-narrows : goal.returns-clause-narrows
returns-clause-narrows c = narrows c.args.store.now c.args.meta c.args.mask.now (plain_simple c.index-metas-meta.result) (map plain_place c.in_ok-shape.shape.places.items) (map plain_place c.in_ok-kept.kept.items) (plain_simple c.in_ok-shape.shape.end.now) c.in_ok-new.new
    (plain_simple c.in_ok-function_of.field-0) (plain_neutral c.in_ok-neutral.neutral) (plain_obj c.in_ok-lambdas.field-0)
    (ap (λ ts. slice_get ts c.args.meta) (sym c.metas-metas.ensures) ∙ get_there c.metas-metas.result.now c.args.meta c.index-metas-meta.result (subst (λ n. c.args.meta < n) (sym (counted c.metas-metas.result.now (meta_types (additions c.args.store.now)) c.metas-metas.ensures)) c.requires.may.there) c.index-metas-meta.is)
    c.in_ok-shape.ensures
    (c.in_ok-kept.ensures.kept ∙ ap (λ xs. masked 0 c.args.mask.now (map plain_place xs)) c.as_slice-places.ensures.value)
    (c.in_ok-new.ensures.number ∙ counted c.metas-metas.result.now (meta_types (additions c.args.store.now)) c.metas-metas.ensures)
    (c.in_ok-function_of.ensures ∙ ap (λ xs. arrows (map plain_place xs) (plain_simple c.in_ok-shape.shape.end.now)) c.as_slice-2.ensures.value)
    (c.in_ok-neutral.ensures.neutral ∙ ap (λ xs. on (map plain_place xs) (head_alone (Meta c.in_ok-new.new))) c.as_slice.ensures.value)
    (c.in_ok-lambdas.ensures ∙ ap (λ xs. lams (map plain_place xs) (plain_obj (At c.in_ok-neutral.neutral))) c.as_slice-places.ensures.value ∙ ap (lams (map plain_place c.in_ok-shape.shape.places.items)) (plain-At c.in_ok-neutral.neutral))
