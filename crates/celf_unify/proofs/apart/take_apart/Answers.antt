use Rattle.std.proofs.Common.{ap, sym, ◌∙◌}
use Rattle.clf_syntax.specs.TypeTree.{arrow, simple_with}
use Rattle.clf_syntax.specs.PlainSimple.{plain_simple, plain-SimpleFun, plain-SimpleWith, plain-SimpleTop}
use Rattle.celf_constraints.specs.Equated.{plain_equation}
use Rattle.celf_unify.proofs.Insides.{no_top}
use Rattle.celf_unify.proofs.apart.take_apart.Goals as goal

pub unreachable-requires : goal.unreachable-requires
unreachable-requires c = no_top c.args.store.now (plain_equation c.args.equation.now) c.requires.rigid (ap plain_simple c.in-Top.is ∙ plain-SimpleTop)

pub returns-in_ok-lambda_parts-in-Fun-clause-judged : goal.returns-in_ok-lambda_parts-in-Fun-clause-judged
returns-in_ok-lambda_parts-in-Fun-clause-judged c = c.in_ok-lambda_parts-in-Fun.ensures c.args.store.now c.requires.rigid
    (ap plain_simple c.in-Fun.is ∙ plain-SimpleFun c.in-Fun.mode c.in-Fun.dom c.in-Fun.cod ∙ sym (ap (λ d. arrow c.in-Fun.mode (plain_simple d) (plain_simple c.get-in-Fun.result.now)) c.get.ensures ∙ ap (λ d. arrow c.in-Fun.mode (plain_simple c.in-Fun.dom) (plain_simple d)) c.get-in-Fun.ensures))

pub returns-in_ok-pair_parts-in-With-clause-judged : goal.returns-in_ok-pair_parts-in-With-clause-judged
returns-in_ok-pair_parts-in-With-clause-judged c = c.in_ok-pair_parts-in-With.ensures c.args.store.now c.requires.rigid
    (ap plain_simple c.in-With.is ∙ plain-SimpleWith c.in-With.left c.in-With.right ∙ sym (ap (λ d. simple_with (plain_simple d) (plain_simple c.get-in-With-2.result.now)) c.get-in-With.ensures ∙ ap (λ d. simple_with (plain_simple c.in-With.left) (plain_simple d)) c.get-in-With-2.ensures))
