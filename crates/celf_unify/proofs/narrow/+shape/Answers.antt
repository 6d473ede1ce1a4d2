use Rattle.std.proofs.Common.{◌∙◌, map, reverse, ap, sym, subst}
use Rattle.std.proofs.lemmas.Result.{IfOk-weaker}
use Rattle.clf_syntax.specs.TypeTree.{arrow}
use Rattle.clf_syntax.specs.PlainSimple.{plain_simple, plain-SimpleFun}
use Rattle.pattern_laws.specs.Patterns.{arrows}
use Rattle.celf_constraints.specs.Reading.{plain_place}
use Rattle.celf_unify.specs.Narrowed.{HasShape}
use Rattle.celf_unify.proofs.Shapes.{turned, shape_next, no_function}
use Rattle.celf_unify.proofs.narrow.+shape.Goals as goal

pub returns-in_ok-with_argument-in-Fun : goal.returns-in_ok-with_argument-in-Fun
returns-in_ok-with_argument-in-Fun t c = IfOk-weaker c.shape_under.result _ _
    (λ s h. subst (λ x. HasShape (arrows (reverse (map plain_place c.args.before.items)) x) (map plain_place s.places.items) (plain_simple s.end.now))
    (ap (λ d. arrow c.in-Fun.mode (plain_simple d) (plain_simple c.get.result.now)) c.get-in-Fun.ensures ∙ ap (λ d. arrow c.in-Fun.mode (plain_simple c.in-Fun.dom) (plain_simple d)) c.get.ensures ∙ sym (ap plain_simple c.in-Fun.is ∙ plain-SimpleFun c.in-Fun.mode c.in-Fun.dom c.in-Fun.cod))
    (shape_next (map plain_place c.args.before.items) (map plain_place c.in_ok-with_argument-in-Fun.field-0.items) (map plain_place s.places.items) c.in-Fun.mode (plain_simple c.get-in-Fun.result.now) (plain_simple c.get.result.now) (plain_simple s.end.now) 0 c.in_ok-with_argument-in-Fun.ensures h))
    c.shape_under.ensures

pub returns-in-Atom : goal.returns-in-Atom
returns-in-Atom t c = record {
  whole = ap (λ ps. arrows ps (plain_simple c.args.ty.now)) (ap (map plain_place) c.reverse.ensures.items ∙ turned plain_place c.args.before.items);
  no_function = no_function c.args.ty.now c.in-Atom.is;
}
