use Rattle.std.proofs.Common.{map, ap, sym, ◌∙◌, ◌++◌, [], ◌∷◌}
use Rattle.clf_syntax.specs.TypeTree.{arrow}
use Rattle.clf_syntax.specs.Plain.{plain_obj}
use Rattle.clf_syntax.specs.PlainSimple.{plain_simple, plain-SimpleFun}
use Rattle.celf_constraints.specs.Equated.{plain_equation, plain_locals}
use Rattle.celf_unify.specs.Sided.{posed}
use Rattle.celf_unify.proofs.Shapes.{no_function}
use Rattle.celf_unify.proofs.Together.{matched_app, no_app}
use Rattle.celf_unify.proofs.spines.arguments.Goals as goal

pub returns-in_ok-with_equation-in-Fun : goal.returns-in_ok-with_equation-in-Fun
returns-in_ok-with_equation-in-Fun c = λ g r n u h t. matched_app g (plain_locals c.args.locals.now) c.in-Fun.mode c.args.mode (plain_obj c.args.obj.now) (plain_obj c.args.other.now) r n (plain_simple c.args.state.ty.now) (plain_simple c.get.result.now) (plain_simple c.get-in-Fun.result.now) u
    (map plain_equation c.args.state.parts.items) (map plain_equation c.in_ok-with_equation-in-Fun.field-0.items)
    (ap plain_simple c.in-Fun.is ∙ plain-SimpleFun c.in-Fun.mode c.in-Fun.dom c.in-Fun.cod ∙ sym (ap (λ d. arrow c.in-Fun.mode (plain_simple d) (plain_simple c.get-in-Fun.result.now)) c.get.ensures ∙ ap (λ d. arrow c.in-Fun.mode (plain_simple c.in-Fun.dom) (plain_simple d)) c.get-in-Fun.ensures)) h t
    (c.in_ok-with_equation-in-Fun.ensures ∙ ap (λ e. map plain_equation c.args.state.parts.items ++ e ∷ []) (c.in_ok-part-in-Fun.ensures
    ∙ ap (λ ls. posed ls (plain_simple c.get.result.now) (plain_obj c.args.obj.now) (plain_obj c.args.other.now)) c.in_ok-copy_locals-in-Fun.ensures))

pub returns-in-Atom : goal.returns-in-Atom
returns-in-Atom c = λ g r n u h t s. no_app g (plain_locals c.args.locals.now) c.args.mode (plain_obj c.args.obj.now) r n (plain_simple c.args.state.ty.now) u (map plain_equation c.args.state.parts.items) (no_function c.args.state.ty.now c.in-Atom.is) h t
