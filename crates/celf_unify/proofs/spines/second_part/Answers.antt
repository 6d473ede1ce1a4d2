use Rattle.std.proofs.Common.{map, ap, sym, ◌∙◌}
use Rattle.clf_syntax.specs.TypeTree.{simple_with}
use Rattle.clf_syntax.specs.PlainSimple.{plain_simple, plain-SimpleWith}
use Rattle.celf_constraints.specs.Equated.{plain_equation}
use Rattle.celf_unify.proofs.Together.{matched_snd, no_snd, no_with}
use Rattle.celf_unify.proofs.spines.second_part.Goals as goal

pub returns-in-With : goal.returns-in-With
returns-in-With c = λ ls g r n u h t. matched_snd g ls r n (plain_simple c.args.state.ty.now) (plain_simple c.in-With.left) (plain_simple c.get.result.now) u (map plain_equation c.args.state.parts.items)
    (ap plain_simple c.in-With.is ∙ plain-SimpleWith c.in-With.left c.in-With.right ∙ sym (ap (λ d. simple_with (plain_simple c.in-With.left) (plain_simple d)) c.get.ensures)) h

pub returns-in-Atom : goal.returns-in-Atom
returns-in-Atom c = λ ls g r n u h t s. no_snd g ls r n (plain_simple c.args.state.ty.now) u (map plain_equation c.args.state.parts.items) (no_with c.args.state.ty.now c.in-Atom.is) h t
