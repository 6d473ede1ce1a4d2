use Rattle.std.proofs.Common.{map, ap, sym, ◌∙◌}
use Rattle.clf_syntax.specs.TypeTree.{simple_with}
use Rattle.clf_syntax.specs.PlainSimple.{plain_simple, plain-SimpleWith}
use Rattle.celf_constraints.specs.Equated.{plain_equation}
use Rattle.celf_unify.proofs.Together.{matched_fst, no_fst, no_with}
use Rattle.celf_unify.proofs.spines.first_part.Goals as goal

pub returns-in-With : goal.returns-in-With
returns-in-With c = λ ls g r n u h t. matched_fst g ls r n (plain_simple c.args.state.ty.now) (plain_simple c.get.result.now) (plain_simple c.in-With.right) u (map plain_equation c.args.state.parts.items)
    (ap plain_simple c.in-With.is ∙ plain-SimpleWith c.in-With.left c.in-With.right ∙ sym (ap (λ d. simple_with (plain_simple d) (plain_simple c.in-With.right)) c.get.ensures)) h

pub returns-in-Atom : goal.returns-in-Atom
returns-in-Atom c = λ ls g r n u h t s. no_fst g ls r n (plain_simple c.args.state.ty.now) u (map plain_equation c.args.state.parts.items) (no_with c.args.state.ty.now c.in-Atom.is) h t
